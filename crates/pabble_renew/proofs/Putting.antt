-- From what putting came to, to what carrying a plan out comes to.
use Rattle.std.proofs.Common.{◌≡◌, ℕ, List, Option, None, Some, Result, Err, IsSome, refl, subst, inl}
use Rattle.std.specs.Prelude.{IfSome}
use Rattle.pb_io.specs.Files.{File, file_of}
use Rattle.pb_renew.specs.Faults.{unput}
use Rattle.pb_renew.specs.declared.unrenewed.Unrenewed.{Unrenewed}
use Rattle.pb_renew.specs.declared.unrenewed.Unrenewed.TheVariants as why
use Rattle.pb_renew_put.specs.Ends.{Stops}
use Rattle.pb_renew_put.specs.Jobs.{Task}
use Rattle.pb_renew_put.specs.Names.{new_name}
use Rattle.pb_renew_put.specs.Phases.{Leads, start}
use Rattle.pb_renew_put.specs.Puts.{Fails, HasFailed, IsCauseIn, KeepsRest}
use Rattle.pb_renew_put.specs.declared.fault.PutFault.{PutFault}
use Rattle.pb_renew_put.specs.declared.fault.PutFault.TheVariants as put
use Rattle.pb_renew_store.specs.Changes.{Turns}
use Rattle.pb_renew_store.specs.Deeds.{Deed}
use Rattle.pabble_renew.specs.Leaves.{KeepsBoth, MeetsLock}
use Rattle.pabble_renew.specs.Steps.{FailsTo, IsLockCause, IsPutCause, StopsBy}
use Rattle.pabble_renew.proofs.Chains.{still, weaken}

fails_to : (fault : PutFault) (t : Task) (a b : List File) → Fails fault t a b → FailsTo (unput fault) t a b
fails_to put.NoMemory t a b is = record { text = is.text; left = is.left }
fails_to put.Busy t a b is = record { text = is.text; left = is.left }
fails_to put.Changed t a b is = record { text = is.text; left = is.left }
fails_to put.Olds t a b is = record { text = is.text; left = is.left }
fails_to put.ReadFault t a b is = record { text = is.text; left = is.left }
fails_to put.WriteFault t a b is = record { text = is.text; left = is.left }
fails_to put.Halfway t a b is = is

pub kept_to : (fault : PutFault) (t : Task) (h0 h1 : Option (List File)) → Turns h0 h1 (Fails fault t) → Turns h0 h1 (FailsTo (unput fault) t)
kept_to fault t h0 h1 is = weaken (Fails fault t) (FailsTo (unput fault) t) (fails_to fault t) h0 h1 is

pub put_cause : (fault : PutFault) (t : Task) (h : Option (List File)) (before now : ℕ) → HasFailed fault h before now → IfSome h (IsCauseIn fault t) → IsPutCause (unput fault) t h before now
put_cause put.NoMemory t h before now failed is = tt
put_cause put.Busy t h before now failed is = is
put_cause put.Changed t h before now failed is = is
put_cause put.Olds t h before now failed is = is
put_cause put.ReadFault t None before now failed is = failed
put_cause put.ReadFault t (Some files) before now failed is = failed
put_cause put.WriteFault t None before now failed is = failed
put_cause put.WriteFault t (Some files) before now failed is = failed
put_cause put.Halfway t h before now failed is = failed

pub stopped : (fault : PutFault) (t : Task) (d0 d1 : Option (List Deed)) (h0 h1 : Option (List File)) (before now : ℕ) → Leads t start d0 d1 h0 h1 (Stops fault t before now) → StopsBy (unput fault) t d0 d1 h0 h1 now
stopped fault t d0 d1 h0 h1 before now leads = record { fault = fault; is = refl; before = before; leads = leads }

pub is_busy : {T : Type 0} (fault : PutFault) → Path (Result T Unrenewed) (Err (unput fault)) (Err why.Busy) → Path (Result T PutFault) (Err fault) (Err put.Busy)
is_busy put.NoMemory e = absurd cc
is_busy put.Busy e = refl
is_busy put.Changed e = absurd cc
is_busy put.Olds e = absurd cc
is_busy put.ReadFault e = absurd cc
is_busy put.WriteFault e = absurd cc
is_busy put.Halfway e = absurd cc

-- ---- where nothing is written

keeps_both : (out : List ℕ) (a : List File) → KeepsBoth out a a
keeps_both out a = record { text = refl; left = refl }

lock_fails : (reason : Unrenewed) (t : Task) (out : List ℕ) (h : Option (List File)) (before now : ℕ) → IsLockCause reason out h before now → (a : List File) → FailsTo reason t a a
lock_fails why.ReadFault t out h before now is a = keeps_both t.out a
lock_fails why.NoFile t out h before now is a = keeps_both t.out a
lock_fails why.Shared t out h before now is a = keeps_both t.out a
lock_fails why.TooLong t out h before now is a = keeps_both t.out a
lock_fails why.NoMemory t out h before now is a = keeps_both t.out a
lock_fails (why.Indented line) t out h before now is a = keeps_both t.out a
lock_fails (why.Out at) t out h before now is a = keeps_both t.out a
lock_fails (why.Outside line) t out h before now is a = keeps_both t.out a
lock_fails (why.LeftIndented line) t out h before now is a = keeps_both t.out a
lock_fails (why.Left at) t out h before now is a = keeps_both t.out a
lock_fails why.Busy t out h before now is a = keeps_both t.out a
lock_fails why.Changed t out h before now is a = keeps_both t.out a
lock_fails why.Olds t out h before now is a = keeps_both t.out a
lock_fails why.WriteFault t out h before now is a = keeps_both t.out a
lock_fails why.Halfway t out h before now is a = absurd is

pub lock_kept : (reason : Unrenewed) (t : Task) (out : List ℕ) (h0 h1 : Option (List File)) (before now : ℕ) → h1 ≡ h0 → IsLockCause reason out h0 before now → Turns h0 h1 (FailsTo reason t)
lock_kept reason t out h0 h1 before now e is = still (FailsTo reason t) (lock_fails reason t out h0 before now is) h0 h1 e

lock_there : (t : Task) (out : List ℕ) (h : Option (List File)) → out ≡ t.out → IfSome h (λ files. IsSome (file_of files (new_name out))) → IfSome h (IsCauseIn put.Busy t)
lock_there t out None e is = tt
lock_there t out (Some files) e is = inl (subst (λ (o : List ℕ). IsSome (file_of files (new_name o))) e is)

pub lock_cause : (reason : Unrenewed) (t : Task) (out : List ℕ) (h : Option (List File)) (before now : ℕ) → out ≡ t.out → IsLockCause reason out h before now → IsPutCause reason t h before now
lock_cause why.ReadFault t out h before now e is = is
lock_cause why.NoFile t out h before now e is = absurd is
lock_cause why.Shared t out h before now e is = absurd is
lock_cause why.TooLong t out h before now e is = absurd is
lock_cause why.NoMemory t out h before now e is = tt
lock_cause (why.Indented line) t out h before now e is = absurd is
lock_cause (why.Out at) t out h before now e is = absurd is
lock_cause (why.Outside line) t out h before now e is = absurd is
lock_cause (why.LeftIndented line) t out h before now e is = absurd is
lock_cause (why.Left at) t out h before now e is = absurd is
lock_cause why.Busy t out h before now e is = lock_there t out h e is
lock_cause why.Changed t out h before now e is = absurd is
lock_cause why.Olds t out h before now e is = absurd is
lock_cause why.WriteFault t out h before now e is = absurd is
lock_cause why.Halfway t out h before now e is = absurd is

pub meets_nothing : (out : List ℕ) (h0 h1 : Option (List File)) → h1 ≡ h0 → MeetsLock out h0 h1
meets_nothing out h0 h1 e = still (λ a b. IsSome (file_of a (new_name out)) → b ≡ a) (λ a there. refl) h0 h1 e

pub rest_of : (t : Task) (h0 h1 : Option (List File)) → h1 ≡ h0 → Turns h0 h1 (KeepsRest t)
rest_of t h0 h1 e = still (KeepsRest t) (λ a. record { others = λ other x y. refl; olds = λ other bytes x there. there; unkept = λ x other y. refl }) h0 h1 e
