-- How a call ends that renewed a file, or didn't, and told so then.
use Rattle.std.proofs.Common.{◌≡◌, ℕ, ◌≤◌, ◌⊎◌, inl, inr, false, true, List, Option, None, Some, Result, Ok, Err, refl, sym, ap, subst, ◌∙◌, arith}
use Rattle.pb_io.specs.Faults.{Rose}
use Rattle.pb_io.specs.Files.{File}
use Rattle.pb_cli_status.specs.declared.status.Status.TheVariants as status
use Rattle.pb_renew.specs.declared.unrenewed.Unrenewed.{Unrenewed}
use Rattle.pb_renew.specs.declared.unrenewed.Unrenewed.TheVariants as why
use Rattle.pb_renew_put.specs.Names.{is_written}
use Rattle.pb_renew_put.specs.Puts.{HasFailed}
use Rattle.pb_renew_put.specs.declared.fault.PutFault.TheVariants as put
use Rattle.pb_renew_store.specs.Changes.{Turns}
use Rattle.pb_renew_store.specs.Deeds.{Deed, DidNothing}
use Rattle.pabble_renew.specs.Asked.{Asked}
use Rattle.pabble_renew.specs.Causes.{IsCause, IsOutCause, Scene}
use Rattle.pabble_renew.specs.Endings.{Answers, ending_of}
use Rattle.pabble_renew.specs.Leaves.{Achieves, DidAll, DidSome, MeetsLock, Spares, SparesRest}
use Rattle.pabble_renew.specs.declared.ending.Ending.{Ending}
use Rattle.pabble_renew.specs.declared.ending.Ending.TheVariants as ending
use Rattle.pabble_renew.specs.declared.fault.Fault.{Fault}
use Rattle.pabble_renew.specs.declared.fault.Fault.TheVariants as fault
use Rattle.pabble_renew.proofs.Chains.{rose_later}

-- more calls failed when that was told
abbrev longer : Scene → ℕ → Scene
longer s n = record { store = s.store; folder = s.folder; failed = s.failed; failed_now = n; unread = s.unread; unread_now = s.unread_now }

either_later : {P : Type 0} (a b c : ℕ) → b ≤ c → Rose a b ⊎ P → Rose a c ⊎ P
either_later a b c le (inl is) = inl (rose_later a b c le is)
either_later a b c le (inr is) = inr is

halfway_later : (h : Option (List File)) (a b c : ℕ) → b ≤ c → HasFailed put.Halfway h a b → HasFailed put.Halfway h a c
halfway_later None a b c le is = omega (arith, le, is)
halfway_later (Some files) a b c le is = omega (arith, le, is)

out_later : (reason : Unrenewed) (a : Asked) (s : Scene) (n : ℕ) → s.failed_now ≤ n → IsOutCause reason a s → IsOutCause reason a (longer s n)
out_later why.ReadFault a s n le is = either_later s.failed s.failed_now n le is
out_later why.NoFile a s n le is = is
out_later why.Shared a s n le is = is
out_later why.TooLong a s n le is = is
out_later why.NoMemory a s n le is = tt
out_later (why.Indented line) a s n le is = is
out_later (why.Out at) a s n le is = is
out_later (why.Outside line) a s n le is = is
out_later (why.LeftIndented line) a s n le is = is
out_later (why.Left at) a s n le is = is
out_later why.Busy a s n le is = is
out_later why.Changed a s n le is = is
out_later why.Olds a s n le is = is
out_later why.WriteFault a s n le is = rose_later s.failed s.failed_now n le is
out_later why.Halfway a s n le is = halfway_later s.store s.failed s.failed_now n le is

cause_later : (it : Fault) (a : Asked) (s : Scene) (n : ℕ) → s.failed_now ≤ n → IsCause it a s → IsCause it a (longer s n)
cause_later fault.Usage a s n le is = absurd is
cause_later fault.Written a s n le is = is
cause_later fault.NoMemory a s n le is = tt
cause_later fault.NoFile a s n le is = is
cause_later (fault.File it) a s n le is = (is.0, λ e. either_later s.failed s.failed_now n le (is.1 e))
cause_later (fault.Out reason) a s n le is = out_later reason a s n le is

module _ (a : Asked) (s : Scene) (n : ℕ) (d0 d1 d2 : Option (List Deed)) (h1 h2 : Option (List File)) (nothing : DidNothing d1 d2 h1 h2) where
  later : (P : Option (List Deed) → Option (List File) → Type 0) → P d1 h1 → P d2 h2
  later P is = subst (λ (d : Option (List Deed)). P d h2) (sym nothing.told) (subst (λ (h : Option (List File)). P d1 h) (sym nothing.files) is)

  pub done : is_written a.out a.file ≡ false → Achieves a.doing a.file a.out s.store h1 → DidAll a d0 d1 s.store h1 → Turns s.store h1 (SparesRest a)
      → (is_written a.out a.file ≡ true → (ending.Ended status.Done ≡ ending.Ended status.Usage) ⊎ (ending.Ended status.Done ≡ ending.Ended status.NoMemory)) → Answers (ending.Ended status.Done) a (longer s n) d0 d2 h2
  done apart achieves did rest written = record {
    ends = inl (
      refl,
      record {
        apart = apart;
        achieves = later (λ d h. Achieves a.doing a.file a.out s.store h) achieves;
        deeds = later (λ d h. DidAll a d0 d s.store h) did;
      },
    );
    written = written;
    rest = later (λ d h. Turns s.store h (SparesRest a)) rest;
  }

  pub undone : (it : Fault) (now : ℕ) (end : Ending) → end ≡ ending_of it → s.failed_now ≤ n → IsCause it a s → Spares it a.out s.store h1 → (it ≡ fault.Out why.Busy → MeetsLock a.out s.store h1) → DidSome it now a d0 d1 s.store h1 → Turns s.store h1 (SparesRest a)
      → (is_written a.out a.file ≡ true → (it ≡ fault.Written) ⊎ (it ≡ fault.NoMemory)) → Answers end a (longer s n) d0 d2 h2
  undone it now end is le cause spares lock did rest written = record {
    ends = inr (
      it,
      is,
      record {
        cause = cause_later it a s n le cause;
        spares = later (λ d h. Spares it a.out s.store h) spares;
        lock = λ e. later (λ d h. MeetsLock a.out s.store h) (lock e);
        deeds = (now, later (λ d h. DidSome it now a d0 d s.store h) did);
      },
    );
    written = λ e. ended it end is (written e);
    rest = later (λ d h. Turns s.store h (SparesRest a)) rest;
  } where
    ended : (it : Fault) (end : Ending) → end ≡ ending_of it → (it ≡ fault.Written) ⊎ (it ≡ fault.NoMemory) → (end ≡ ending.Ended status.Usage) ⊎ (end ≡ ending.Ended status.NoMemory)
    ended it end is (inl e) = inl (is ∙ ap ending_of e)
    ended it end is (inr e) = inr (is ∙ ap ending_of e)

fault_in : {T : Type 0} → Result T Fault → Fault
fault_in (Ok value) = fault.Usage
fault_in (Err it) = it

pub which : {T : Type 0} (it : Fault) → Path (Result T Fault) (Err it) (Err fault.Written) ⊎ Path (Result T Fault) (Err it) (Err fault.NoMemory) → (it ≡ fault.Written) ⊎ (it ≡ fault.NoMemory)
unfolding fault_in
which it (inl e) = inl (ap fault_in e)
which it (inr e) = inr (ap fault_in e)
