-- From what carrying a plan out came to, to what renewing a file comes to.
use Rattle.std.proofs.Common.{◌≡◌, ◌≢◌, ℕ, ◌≤◌, ◌⊎◌, inl, inr, true, false, List, [], Option, None, Some, IsSome, unwrap_or, is_some, slice_get, true≢false, ◌∷◌, refl, sym, ap, subst, ◌∙◌, arith}
use Rattle.std.specs.Prelude.{IfSome}
use Rattle.pb_io.specs.Files.{File, IsContent, content_of, file_of}
use Rattle.pb_ctree.specs.declared.kernel.KName.{KName}
use Rattle.pb_renew_text.specs.declared.wanted.Wanted.{Wanted}
use Rattle.pabble_renew.specs.Wanted.{IsWantedOf}
use Rattle.pb_renew.specs.Plans.{Fits, LeavesAs, WasBefore, renewed_of}
use Rattle.pb_renew_merge.specs.declared.renewed.Renewed.{Renewed}
use Rattle.pb_renew_merge.specs.Renewed.{IsRenewal}
use Rattle.pb_renew.specs.declared.plan.Plan.{Plan}
use Rattle.pb_renew.specs.declared.unrenewed.Unrenewed.{Unrenewed}
use Rattle.pb_renew.specs.declared.unrenewed.Unrenewed.TheVariants as why
use Rattle.pb_renew.proofs.Renewing.{renews}
use Rattle.pb_renew_put.specs.Ends.{Finishes, Stops}
use Rattle.pb_renew_put.specs.Jobs.{Behind, Task, task_of}
use Rattle.pb_renew_put.specs.Names.{is_old_name, is_written, left_name, new_name, old_file, spare_name}
use Rattle.pb_renew_put.specs.Phases.{Leads, Phase, start}
use Rattle.pb_renew_put.specs.Puts.{HasFailed, IsCauseIn, IsLeftOther, KeepsRest, Puts}
use Rattle.pb_renew_put.specs.declared.fault.PutFault.TheVariants as put
use Rattle.pb_renew_store.specs.Changes.{Turns}
use Rattle.pb_renew_store.specs.Deeds.{Deed, DidNothing}
use Rattle.pabble_renew.specs.Asked.{Asked}
use Rattle.pabble_renew.specs.Causes.{IsChanged, IsOutCause, TellAlike, WhereBodiesGo}
use Rattle.pabble_renew.specs.Leaves.{Achieves, DidSo, KeepsBoth, MeetsLock, RenewsFile, Spares, SparesOut, SparesRest, StopsWith, Works}
use Rattle.pabble_renew.specs.Planned.{IsAsTold, IsPlanned}
use Rattle.pabble_renew.specs.Steps.{CarriesOut, FailsTo, Goes, IsPutCause, StopsOr}
use Rattle.pabble_renew.specs.declared.doing.Doing.{Doing}
use Rattle.pabble_renew.specs.declared.doing.Doing.TheVariants as doing
use Rattle.pabble_renew.specs.declared.fault.Fault.{Fault}
use Rattle.pabble_renew.specs.declared.fault.Fault.TheVariants as fault
use Rattle.pabble_renew.proofs.Chains.{both_nothing, given, rose_sooner, sooner, still}
use Rattle.pabble_renew.proofs.Plans.{wanted_of}

-- ---- where nothing was written

still_lock : (out : List ℕ) (h0 h1 : Option (List File)) → h1 ≡ h0 → MeetsLock out h0 h1
still_lock out h0 h1 e = still (λ a b. IsSome (file_of a (new_name out)) → b ≡ a) (λ a there. refl) h0 h1 e

pub rest_still : (a : Asked) (h0 h1 : Option (List File)) → h1 ≡ h0 → Turns h0 h1 (SparesRest a)
rest_still a h0 h1 e = still (SparesRest a) (λ x. record { others = λ other y z. refl; olds = λ other bytes y there. there; unkept = λ y other z. refl }) h0 h1 e

spares_same : (reason : Unrenewed) (out : List ℕ) → (reason ≡ why.Halfway → ⊥) → (a : List File) → SparesOut reason out a a
spares_same why.ReadFault out never a = record { text = refl; left = refl }
spares_same why.NoFile out never a = record { text = refl; left = refl }
spares_same why.Shared out never a = record { text = refl; left = refl }
spares_same why.TooLong out never a = record { text = refl; left = refl }
spares_same why.NoMemory out never a = record { text = refl; left = refl }
spares_same (why.Indented line) out never a = record { text = refl; left = refl }
spares_same (why.Out kernel) out never a = record { text = refl; left = refl }
spares_same (why.Outside line) out never a = record { text = refl; left = refl }
spares_same (why.LeftIndented line) out never a = record { text = refl; left = refl }
spares_same (why.Left kernel) out never a = record { text = refl; left = refl }
spares_same why.Busy out never a = record { text = refl; left = refl }
spares_same why.Changed out never a = record { text = refl; left = refl }
spares_same why.Olds out never a = record { text = refl; left = refl }
spares_same why.WriteFault out never a = record { text = refl; left = refl }
spares_same why.Halfway out never a = absurd (never refl)

pub spares_still : (it : Fault) (out : List ℕ) (h0 h1 : Option (List File)) → h1 ≡ h0 → (it ≡ fault.Out why.Halfway → ⊥) → Spares it out h0 h1
spares_still fault.Usage out h0 h1 e never = e
spares_still fault.Written out h0 h1 e never = e
spares_still fault.NoMemory out h0 h1 e never = e
spares_still fault.NoFile out h0 h1 e never = e
spares_still (fault.File it) out h0 h1 e never = e
spares_still (fault.Out reason) out h0 h1 e never = still (SparesOut reason out) (spares_same reason out (λ is. never (ap fault.Out is))) h0 h1 e

-- ---- deeds

leads_sooner : (t : Task) (d0 d1 d2 : Option (List Deed)) (h0 h1 h2 : Option (List File)) (End : Phase → Type 0) → d1 ≡ d0 → h1 ≡ h0 → Leads t start d1 d2 h1 h2 End → Leads t start d0 d2 h0 h2 End
leads_sooner t d0 d1 d2 h0 h1 h2 End de he leads =
    subst (λ (d : Option (List Deed)). Leads t start d d2 h0 h2 End) de (subst (λ (h : Option (List File)). Leads t start d1 d2 h h2 End) he leads)

ends_so : (t : Task) (d0 d1 : Option (List Deed)) (h0 h1 : Option (List File)) (E F : Phase → Type 0) → ((p : Phase) → E p → F p) → Leads t start d0 d1 h0 h1 E → Leads t start d0 d1 h0 h1 F
ends_so t d0 d1 h0 h1 E F give leads = record { deeds = leads.deeds; told = leads.told; files = leads.files; phase = leads.phase; walks = leads.walks; end = give leads.phase leads.end }

-- ---- causes

has_failed : (h : Option (List File)) (a b c : ℕ) → a ≤ b → HasFailed put.Halfway h b c → HasFailed put.Halfway h a c
has_failed None a b c le is = omega (arith, le, is)
has_failed (Some files) a b c le is = omega (arith, le, is)

busy_at : (own out : List ℕ) (h : Option (List File)) → IfSome h (λ now. own ≡ out) → IfSome h (λ now. IsSome (file_of now (new_name own)) ⊎ IsSome (file_of now (spare_name own)))
    → IfSome h (λ now. IsSome (file_of now (new_name out)) ⊎ IsSome (file_of now (spare_name out)))
busy_at own out None at is = tt
busy_at own out (Some now) at is = subst (λ (o : List ℕ). IsSome (file_of now (new_name o)) ⊎ IsSome (file_of now (spare_name o))) at is

olds_at : (own out : List ℕ) (h : Option (List File)) → IfSome h (λ now. own ≡ out) → IfSome h (λ now. (number : ℕ) → 1 ≤ number → number ≤ 9999 → IsSome (file_of now (old_file own number)))
    → IfSome h (λ now. (number : ℕ) → 1 ≤ number → number ≤ 9999 → IsSome (file_of now (old_file out number)))
olds_at own out None at is = tt
olds_at own out (Some now) at is = subst (λ (o : List ℕ). (number : ℕ) → 1 ≤ number → number ≤ 9999 → IsSome (file_of now (old_file o number))) at is

some_gone : (gone : List KName) (renewed : Renewed) (behind : Option Behind) (b : Behind) → LeavesAs gone renewed behind → behind ≡ Some b → gone ≢ []
some_gone [] renewed behind b none is = absurd (true≢false (sym (ap is_some (sym none ∙ is))))
some_gone (name ∷ names) renewed behind b leaves is = λ e. true≢false (ap (λ (l : List KName). is_some (slice_get l 0)) e)

free_named : (own out : List ℕ) (h : Option (List File)) → IfSome h (λ now. own ≡ out) → IfSome h (λ files. file_of files (new_name own) ≡ None) → IfSome h (λ files. file_of files (new_name out) ≡ None)
free_named own out None at is = tt
free_named own out (Some files) at is = subst (λ (o : List ℕ). file_of files (new_name o) ≡ None) at is

module _ (a : Asked) (t : Task) (wanted : Wanted) (renewed : Renewed) (fits : Fits wanted renewed t) where
  left_at : (now files : List File) (behind : Option Behind) → t.behind ≡ behind → IsWantedOf a.file (Some files) wanted → t.old ≡ file_of files a.out → WasBefore behind (file_of files (left_name a.out)) → IsLeftOther behind a.out now
      → (file_of now (left_name a.out) ≢ file_of files (left_name a.out)) × WhereBodiesGo a files
  left_at now files None behind_is compiled old_is was is = absurd is
  left_at now files (Some b) behind_is compiled old_is was is = (
    (λ e. is (e ∙ sym was)),
    (
      wanted,
      compiled,
      (
        renewed,
        subst (λ (l : List ℕ). IsRenewal l wanted renewed) (ap (λ (o : Option (List ℕ)). unwrap_or o []) old_is) fits.renewal,
        some_gone renewed.gone.items renewed t.behind b fits.left behind_is,
        tt,
      ),
    ),
  )

  changed_at : (now files : List File) → t.file ≡ a.file → t.out ≡ a.out → t.source ≡ content_of files a.file → IsWantedOf a.file (Some files) wanted → IsAsTold a t files → IsCauseIn put.Changed t now → IsChanged a now files
  changed_at now files f at content compiled told (inl other) = inl (λ e. other (ap (λ (n : List ℕ). file_of now n) f ∙ e ∙ ap Some (sym content)))
  changed_at now files f at content compiled told (inr (inl other)) = inr (inl (λ e. other (ap (λ (n : List ℕ). file_of now n) at ∙ e ∙ sym told.out)))
  changed_at now files f at content compiled told (inr (inr other)) =
      inr (inr (left_at now files t.behind refl compiled told.out told.left (subst (λ (o : List ℕ). IsLeftOther t.behind o now) at other)))

  changed_alike : (store folder : Option (List File)) → t.file ≡ a.file → IfSome store (λ now. t.out ≡ a.out) → IsContent folder a.file t.source → IsWantedOf a.file folder wanted
      → IfSome store (λ now. IfSome folder (λ files. TellAlike a.out now files → IsAsTold a t files)) → IfSome store (IsCauseIn put.Changed t)
      → IfSome store (λ now. IfSome folder (λ files. TellAlike a.out now files → IsChanged a now files))
  changed_alike None folder f at content compiled told is = tt
  changed_alike (Some now) None f at content compiled told is = tt
  changed_alike (Some now) (Some files) f at content compiled told is = λ alike. changed_at now files f at content compiled (told alike) is

-- ---- a plan that was carried out

abbrev reason_of : Fault → Unrenewed
reason_of (fault.Out reason) = reason
reason_of fault.Usage = why.NoMemory
reason_of fault.Written = why.NoMemory
reason_of fault.NoMemory = why.NoMemory
reason_of fault.NoFile = why.NoMemory
reason_of (fault.File it) = why.NoMemory

module _ (a : Asked) (wanted : Wanted) (plan : Plan) (h0 folder : Option (List File)) (is : IsPlanned a h0 folder wanted plan) where
  renews_file : (x y : List File) → is_written a.out a.file ≡ false → (task_of plan.job).out ≡ a.out → Puts (task_of plan.job) x y → RenewsFile a.file a.out x y
  renews_file x y apart at puts =
      let there : file_of x a.file ≡ Some (task_of plan.job).source = subst (λ (n : List ℕ). file_of x n ≡ Some (task_of plan.job).source) is.file puts.source in
      record {
        apart = apart;
        bytes = (task_of plan.job).source;
        there = there;
        wanted = wanted;
        compiled = wanted_of a.file (Some x) (task_of plan.job).source wanted (sym (ap (λ (o : Option (List ℕ)). unwrap_or o []) there)) is.compiles;
        renewed = renews a.out wanted (renewed_of plan) (task_of plan.job) x y at is.fits puts;
      }

  pub achieves : (d : Doing) (h1 h2 : Option (List File)) → is_written a.out a.file ≡ false → h1 ≡ h0 → CarriesOut d (task_of plan.job) h1 h2 → Achieves d a.file a.out h0 h2
  achieves doing.Renew h1 h2 apart e done =
      given (λ x. (task_of plan.job).out ≡ a.out) (Puts (task_of plan.job)) (RenewsFile a.file a.out) (λ x y at puts. renews_file x y apart at puts) h0 h2 is.out (sooner (Puts (task_of plan.job)) h0 h1 h2 e done)
  achieves doing.Tell h1 h2 apart e done =
      (done.0 ∙ e, free_named (task_of plan.job).out a.out h0 is.out (subst (λ (h : Option (List File)). IfSome h (λ files. file_of files (new_name (task_of plan.job).out) ≡ None)) e done.1))

  works : (d0 d1 d2 : Option (List Deed)) (h1 h2 : Option (List File)) (End : Task → Phase → Type 0) → DidNothing d0 d1 h0 h1 → Leads (task_of plan.job) start d1 d2 h1 h2 (End (task_of plan.job)) → Works a d0 d2 h0 h2 End
  works d0 d1 d2 h1 h2 End nothing leads = record {
    wanted = wanted;
    renewed = renewed_of plan;
    task = (task_of plan.job);
    file = is.file;
    out = is.out;
    fits = is.fits;
    leads = leads_sooner (task_of plan.job) d0 d1 d2 h0 h1 h2 (End (task_of plan.job)) nothing.told nothing.files leads;
  }

  pub did_all : (d : Doing) (d0 d1 d2 : Option (List Deed)) (h1 h2 : Option (List File)) → DidNothing d0 d1 h0 h1 → Goes d (task_of plan.job) d1 d2 h1 h2 → DidSo a d0 d2 h0 h2 d (λ task p. Finishes p)
  did_all doing.Renew d0 d1 d2 h1 h2 nothing goes = works d0 d1 d2 h1 h2 (λ task p. Finishes p) nothing goes
  did_all doing.Tell d0 d1 d2 h1 h2 nothing goes = both_nothing nothing goes

  pub tried : (d : Doing) (reason : Unrenewed) (now : ℕ) (d0 d1 d2 : Option (List Deed)) (h1 h2 : Option (List File)) → DidNothing d0 d1 h0 h1 → StopsOr d reason (task_of plan.job) d1 d2 h1 h2 now
      → DidNothing d0 d2 h0 h2 ⊎ DidSo a d0 d2 h0 h2 d (StopsWith (fault.Out reason) now)
  tried doing.Renew reason now d0 d1 d2 h1 h2 nothing stops =
      inr (works d0 d1 d2 h1 h2 (StopsWith (fault.Out reason) now) nothing
      (ends_so (task_of plan.job) d1 d2 h1 h2 (Stops stops.fault (task_of plan.job) stops.before now) (StopsWith (fault.Out reason) now (task_of plan.job)) (λ p end. (stops.fault, ap fault.Out stops.is, stops.before, end)) stops.leads))
  tried doing.Tell reason now d0 d1 d2 h1 h2 nothing stops = inl (both_nothing nothing stops)

  spares_out : (reason : Unrenewed) (x y : List File) → (task_of plan.job).out ≡ a.out → FailsTo reason (task_of plan.job) x y → SparesOut reason a.out x y
  spares_out why.ReadFault x y at fails = subst (λ (o : List ℕ). KeepsBoth o x y) at fails
  spares_out why.NoFile x y at fails = subst (λ (o : List ℕ). KeepsBoth o x y) at fails
  spares_out why.Shared x y at fails = subst (λ (o : List ℕ). KeepsBoth o x y) at fails
  spares_out why.TooLong x y at fails = subst (λ (o : List ℕ). KeepsBoth o x y) at fails
  spares_out why.NoMemory x y at fails = subst (λ (o : List ℕ). KeepsBoth o x y) at fails
  spares_out (why.Indented line) x y at fails = subst (λ (o : List ℕ). KeepsBoth o x y) at fails
  spares_out (why.Out kernel) x y at fails = subst (λ (o : List ℕ). KeepsBoth o x y) at fails
  spares_out (why.Outside line) x y at fails = subst (λ (o : List ℕ). KeepsBoth o x y) at fails
  spares_out (why.LeftIndented line) x y at fails = subst (λ (o : List ℕ). KeepsBoth o x y) at fails
  spares_out (why.Left kernel) x y at fails = subst (λ (o : List ℕ). KeepsBoth o x y) at fails
  spares_out why.Busy x y at fails = subst (λ (o : List ℕ). KeepsBoth o x y) at fails
  spares_out why.Changed x y at fails = subst (λ (o : List ℕ). KeepsBoth o x y) at fails
  spares_out why.Olds x y at fails = subst (λ (o : List ℕ). KeepsBoth o x y) at fails
  spares_out why.WriteFault x y at fails = subst (λ (o : List ℕ). KeepsBoth o x y) at fails
  spares_out why.Halfway x y at fails = record { wanted = wanted; renewed = renewed_of plan; task = (task_of plan.job); at = at; fits = is.fits; fails = fails }

  pub spares_so : (reason : Unrenewed) (h1 h2 : Option (List File)) → h1 ≡ h0 → Turns h1 h2 (FailsTo reason (task_of plan.job)) → Spares (fault.Out reason) a.out h0 h2
  spares_so reason h1 h2 e fails = given (λ x. (task_of plan.job).out ≡ a.out) (FailsTo reason (task_of plan.job)) (SparesOut reason a.out) (λ x y at it. spares_out reason x y at it) h0 h2 is.out (sooner (FailsTo reason (task_of plan.job)) h0 h1 h2 e fails)

  meets_at : (x y : List File) → (task_of plan.job).out ≡ a.out → (IsSome (file_of x (new_name (task_of plan.job).out)) → y ≡ x) → IsSome (file_of x (new_name a.out)) → y ≡ x
  meets_at x y at meets = subst (λ (o : List ℕ). IsSome (file_of x (new_name o)) → y ≡ x) at meets

  pub lock_so : (reason : Unrenewed) (h1 h2 : Option (List File)) → h1 ≡ h0 → (reason ≡ why.Busy → MeetsLock (task_of plan.job).out h1 h2) → fault.Out reason ≡ fault.Out why.Busy → MeetsLock a.out h0 h2
  lock_so reason h1 h2 e lock busy =
      given (λ x. (task_of plan.job).out ≡ a.out) (λ x y. IsSome (file_of x (new_name (task_of plan.job).out)) → y ≡ x) (λ x y. IsSome (file_of x (new_name a.out)) → y ≡ x) (λ x y at meets. meets_at x y at meets) h0 h2 is.out
      (sooner (λ x y. IsSome (file_of x (new_name (task_of plan.job).out)) → y ≡ x) h0 h1 h2 e (lock (ap reason_of busy)))

  rest_at : (x y : List File) → (task_of plan.job).out ≡ a.out → KeepsRest (task_of plan.job) x y → SparesRest a x y
  rest_at x y at rest = record {
    others = λ other written old. rest.others other (subst (λ (o : List ℕ). is_written o other ≡ false) (sym at) written) (subst (λ (o : List ℕ). is_old_name o other ≡ false) (sym at) old);
    olds = λ other bytes old there. rest.olds other bytes (subst (λ (o : List ℕ). is_old_name o other ≡ true) (sym at) old) there;
    unkept = λ spared other old. rest.unkept (is.spared spared) other (subst (λ (o : List ℕ). is_old_name o other ≡ true) (sym at) old);
  }

  pub rest_so : (h1 h2 : Option (List File)) → h1 ≡ h0 → Turns h1 h2 (KeepsRest (task_of plan.job)) → Turns h0 h2 (SparesRest a)
  rest_so h1 h2 e rest = given (λ x. (task_of plan.job).out ≡ a.out) (KeepsRest (task_of plan.job)) (SparesRest a) (λ x y at it. rest_at x y at it) h0 h2 is.out (sooner (KeepsRest (task_of plan.job)) h0 h1 h2 e rest)

  pub cause_so : (reason : Unrenewed) (h1 : Option (List File)) (n0 n1 n2 u0 u1 : ℕ) → h1 ≡ h0 → n0 ≤ n1 → IsPutCause reason (task_of plan.job) h1 n1 n2
      → IsOutCause reason a (record { store = h0; folder = folder; failed = n0; failed_now = n2; unread = u0; unread_now = u1 })
  cause_so why.ReadFault h1 n0 n1 n2 u0 u1 e le it = inl (rose_sooner n0 n1 n2 le it)
  cause_so why.NoFile h1 n0 n1 n2 u0 u1 e le it = absurd it
  cause_so why.Shared h1 n0 n1 n2 u0 u1 e le it = absurd it
  cause_so why.TooLong h1 n0 n1 n2 u0 u1 e le it = absurd it
  cause_so why.NoMemory h1 n0 n1 n2 u0 u1 e le it = tt
  cause_so (why.Indented line) h1 n0 n1 n2 u0 u1 e le it = absurd it
  cause_so (why.Out kernel) h1 n0 n1 n2 u0 u1 e le it = absurd it
  cause_so (why.Outside line) h1 n0 n1 n2 u0 u1 e le it = absurd it
  cause_so (why.LeftIndented line) h1 n0 n1 n2 u0 u1 e le it = absurd it
  cause_so (why.Left kernel) h1 n0 n1 n2 u0 u1 e le it = absurd it
  cause_so why.Busy h1 n0 n1 n2 u0 u1 e le it = busy_at (task_of plan.job).out a.out h0 is.out (subst (λ (h : Option (List File)). IfSome h (IsCauseIn put.Busy (task_of plan.job))) e it)
  cause_so why.Changed h1 n0 n1 n2 u0 u1 e le it = changed_alike a (task_of plan.job) wanted (renewed_of plan) is.fits h0 folder is.file is.out is.content (wanted_of a.file folder (task_of plan.job).source wanted is.content is.compiles) is.told (subst (λ (h : Option (List File)). IfSome h (IsCauseIn put.Changed (task_of plan.job))) e it)
  cause_so why.Olds h1 n0 n1 n2 u0 u1 e le it = olds_at (task_of plan.job).out a.out h0 is.out (subst (λ (h : Option (List File)). IfSome h (IsCauseIn put.Olds (task_of plan.job))) e it)
  cause_so why.WriteFault h1 n0 n1 n2 u0 u1 e le it = rose_sooner n0 n1 n2 le it
  cause_so why.Halfway h1 n0 n1 n2 u0 u1 e le it = has_failed h0 n0 n1 n2 le (subst (λ (h : Option (List File)). HasFailed put.Halfway h n1 n2) e it)
