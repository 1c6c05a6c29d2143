-- Why there is no place, from what was asked of the store.
use Rattle.std.proofs.Common.{◌≡◌, ℕ, ◌≤◌, inl, true, List, Option, None, Some, refl, sym, subst}
use Rattle.std.specs.Prelude.{IfSome}
use Rattle.std.specs.String.{string_bytes}
use Rattle.pb_io.specs.Files.{File}
use Rattle.pb_cli_status.specs.Lines as Lines
use Rattle.pb_cli_status.specs.declared.refusal.Refusal.{Refusal}
use Rattle.pb_cli_status.specs.declared.refusal.Refusal.TheVariants as refusal
use Rattle.pb_cli_file.specs.Files.{IsFileRefusal}
use Rattle.pb_cli_file.proofs.Answered.{never_done}
use Rattle.pb_renew.specs.Places.{IsNoPlace, IsPlace}
use Rattle.pb_renew.specs.declared.place.Place.{Place}
use Rattle.pb_renew.specs.declared.unrenewed.Unrenewed.{Unrenewed}
use Rattle.pb_renew.specs.declared.unrenewed.Unrenewed.TheVariants as why
use Rattle.pb_renew_put.specs.Names.{is_written}
use Rattle.pabble_renew.specs.Asked.{Asked}
use Rattle.pabble_renew.specs.Causes.{IsCause, IsOutCause, IsStoreCause, Scene}
use Rattle.pabble_renew.specs.declared.fault.Fault.{Fault}
use Rattle.pabble_renew.specs.declared.fault.Fault.TheVariants as fault
use Rattle.pabble_renew.proofs.Chains.{rose_sooner}

no_place_sooner : (reason : Unrenewed) (h : Option (List File)) (a b c : ℕ) → a ≤ b → IsNoPlace reason h b c → IsNoPlace reason h a c
no_place_sooner why.ReadFault h a b c le is = rose_sooner a b c le is
no_place_sooner why.NoFile h a b c le is = is
no_place_sooner why.Shared h a b c le is = is
no_place_sooner why.TooLong h a b c le is = absurd is
no_place_sooner why.NoMemory h a b c le is = tt
no_place_sooner (why.Indented line) h a b c le is = absurd is
no_place_sooner (why.Out at) h a b c le is = absurd is
no_place_sooner (why.Outside line) h a b c le is = absurd is
no_place_sooner (why.LeftIndented line) h a b c le is = absurd is
no_place_sooner (why.Left at) h a b c le is = absurd is
no_place_sooner why.Busy h a b c le is = absurd is
no_place_sooner why.Changed h a b c le is = absurd is
no_place_sooner why.Olds h a b c le is = absurd is
no_place_sooner why.WriteFault h a b c le is = absurd is
no_place_sooner why.Halfway h a b c le is = absurd is

counted : (it : Fault) (file out : List ℕ) (h : Option (List File)) (a b c : ℕ) → a ≤ b → IsStoreCause it file out h b c → IsStoreCause it file out h a c
counted fault.Usage file out h a b c le is = absurd is
counted fault.Written file out h a b c le is = is
counted fault.NoMemory file out h a b c le is = tt
counted fault.NoFile file out h a b c le is = is
counted (fault.File it) file out h a b c le is = (is.0, rose_sooner a b c le is.1)
counted (fault.Out reason) file out h a b c le is = no_place_sooner reason h a b c le is

-- nothing was changed before
pub store_sooner : (it : Fault) (file out : List ℕ) (h0 h1 : Option (List File)) (a b c : ℕ) → h1 ≡ h0 → a ≤ b → IsStoreCause it file out h1 b c → IsStoreCause it file out h0 a c
store_sooner it file out h0 h1 a b c e le is = counted it file out h0 a b c le (subst (λ (h : Option (List File)). IsStoreCause it file out h b c) e is)

written_at : (file out : List ℕ) (place : Place) (h : Option (List File)) → IfSome h (IsPlace out place) → IfSome h (λ files. is_written (string_bytes place.out) file ≡ true) → IfSome h (λ files. is_written out file ≡ true)
written_at file out place None at is = tt
written_at file out place (Some files) at is = subst (λ (o : List ℕ). is_written o file ≡ true) at.name is

-- OUT has its own name, where the store tells its files
pub named : (it : Fault) (file out own : List ℕ) (place : Place) (h : Option (List File)) (a b : ℕ) → own ≡ string_bytes place.out → IfSome h (IsPlace out place) → IsStoreCause it file own h a b → IsStoreCause it file out h a b
named fault.Usage file out own place h a b e at is = absurd is
named fault.Written file out own place h a b e at is = written_at file out place h at (subst (λ (o : List ℕ). IfSome h (λ files. is_written o file ≡ true)) e is)
named fault.NoMemory file out own place h a b e at is = tt
named fault.NoFile file out own place h a b e at is = is
named (fault.File it) file out own place h a b e at is = is
named (fault.Out reason) file out own place h a b e at is = is

-- ---- of a request

unread_file : (it : Refusal) (file : List ℕ) (folder : Option (List File)) → it ≡ refusal.ReadFault → IsFileRefusal file folder (Lines.status_of it) (Lines.line_of it)
unread_file it file folder e = subst (λ (r : Refusal). IsFileRefusal file folder (Lines.status_of r) (Lines.line_of r)) (sym e) (never_done refusal.ReadFault, refl)

no_place : (reason : Unrenewed) (a : Asked) (s : Scene) → IsNoPlace reason s.store s.failed s.failed_now → IsOutCause reason a s
no_place why.ReadFault a s is = inl is
no_place why.NoFile a s is = is
no_place why.Shared a s is = is
no_place why.TooLong a s is = absurd is
no_place why.NoMemory a s is = tt
no_place (why.Indented line) a s is = absurd is
no_place (why.Out at) a s is = absurd is
no_place (why.Outside line) a s is = absurd is
no_place (why.LeftIndented line) a s is = absurd is
no_place (why.Left at) a s is = absurd is
no_place why.Busy a s is = absurd is
no_place why.Changed a s is = absurd is
no_place why.Olds a s is = absurd is
no_place why.WriteFault a s is = absurd is
no_place why.Halfway a s is = absurd is

pub store_cause : (it : Fault) (a : Asked) (s : Scene) → IsStoreCause it a.file a.out s.store s.failed s.failed_now → IsCause it a s
store_cause fault.Usage a s is = absurd is
store_cause fault.Written a s is = is
store_cause fault.NoMemory a s is = tt
store_cause fault.NoFile a s is = is
store_cause (fault.File it) a s is = (unread_file it a.file s.folder is.0, λ e. inl is.1)
store_cause (fault.Out reason) a s is = no_place reason a s is

pub never_busy : (it : Fault) (file out : List ℕ) (h : Option (List File)) (a b : ℕ) → IsStoreCause it file out h a b → it ≡ fault.Out why.Busy → ⊥
never_busy it file out h a b is e = absurd (subst (λ (f : Fault). IsStoreCause f file out h a b) e is)

pub never_halfway : (it : Fault) (file out : List ℕ) (h : Option (List File)) (a b : ℕ) → IsStoreCause it file out h a b → it ≡ fault.Out why.Halfway → ⊥
never_halfway it file out h a b is e = absurd (subst (λ (f : Fault). IsStoreCause f file out h a b) e is)
