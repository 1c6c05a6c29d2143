-- The ways of the copy of the old OUT.
use Rattle.std.proofs.Common.{◌≡◌, ℕ, ◌+◌, ◌<◌, ◌≤◌, Bool, true, false, List, [], ◌∷◌, Option, None, Some, Result, Ok, Err, OnOk, OnErr, refl, sym, subst, ap, ◌∙◌, inl, inr, arith, ◌||◌, ◌≢◌, nat_eq}
use Rattle.std.proofs.lemmas.Bool.Decides.{Decides-eqb}
use Rattle.pb_io.specs.Files.{File}
use Rattle.pb_renew_store.specs.Deeds.{Deed, made, met, removed, settled, Did, DidNothing}
use Rattle.pb_renew_put.specs.declared.fault.PutFault.{PutFault}
use Rattle.pb_renew_put.specs.declared.fault.PutFault.TheVariants.{NoMemory, Olds, WriteFault}
use Rattle.pb_renew_put.specs.Ends.{is_taken}
use Rattle.pb_renew_put.specs.Jobs.{Task}
use Rattle.pb_renew_put.specs.Names.{is_old_name, old_file}
use Rattle.pb_renew_put.specs.Phases.{Kept, keeps, unkept, Leads, untouched, Own, has, Phase, is_kept, is_own}
use Rattle.pb_renew_put.specs.Steps.{AllTaken, Copied, Copies, Fell, FillsCopy, Keeps, LooksTwice, Prepares, Removes, Sets, TriesSo, under}
use Rattle.pb_renew_put.proofs.Apart.{old_file_is, same_self}
use Rattle.pb_renew_put.proofs.Leads.{from_same, leads_deed, leads_nothing}
use Rattle.pb_renew_put.proofs.Nexts.{made_copy, met_old, removed_copy, sets_copy, settled_old}
use Rattle.pb_renew_put.proofs.Kept.{false_true}

module _ (t : Task) (fresh spare : Own) (taken : List (List ℕ)) (locked : is_own fresh ≡ true) where
  pub copy_sets : (name written : List ℕ) → is_old_name t.out name ≡ true → written ≡ name → Sets t written (λ own. under fresh spare (keeps name own) taken true true false untouched)
  copy_sets name written old is = subst (λ n. Sets t n (λ own. under fresh spare (keeps name own) taken true true false untouched)) (sym is) (sets_copy t fresh spare taken name old locked)

  pub copy_settled : {T E : Type 0} {d0 d1 : Option (List Deed)} {h0 h1 : Option (List File)} (name bytes : List ℕ) (result : Result T E) → is_old_name t.out name ≡ true
      → OnOk result (Did d0 d1 h0 h1 (settled name)) → OnErr result (DidNothing d0 d1 h0 h1)
      → Leads t (under fresh spare (keeps name (has bytes true)) taken true true false untouched) d0 d1 h0 h1 (FillsCopy result fresh spare name taken bytes)
  copy_settled name bytes (Ok value) old did failed = leads_deed (settled name) _ did (settled_old t (under fresh spare (keeps name (has bytes true)) taken true true false untouched) name old) refl
  copy_settled name bytes (Err fault) old did failed = leads_nothing failed (has bytes true, refl)

  pub copy_away : {d0 d1 : Option (List Deed)} {h0 h1 : Option (List File)} (name : List ℕ) (p : Phase) (before now : ℕ) → is_old_name t.out name ≡ true
      → (own : Own) × (p ≡ under fresh spare (keeps name own) taken true true false untouched) → Removes name d0 d1 h0 h1 before now
      → Leads t p d0 d1 h0 h1 (λ q. (kept : Kept) × (q ≡ under fresh spare kept taken true true false untouched))
  copy_away name p before now old at away = from_same p at.1
      (elim away [ inl did ↦ leads_deed (removed name) _ did (removed_copy t fresh spare at.0 taken name old locked) (unkept, refl) | inr failed ↦ leads_nothing failed.0 (keeps name at.0, refl) ])

  pub copy_made : {d0 d1 : Option (List Deed)} {h0 h1 : Option (List File)} (number : ℕ) (name : List ℕ) → name ≡ old_file t.out number → t.keeps_old ≡ true → Did d0 d1 h0 h1 (made name)
      → Leads t (under fresh spare unkept taken true true false untouched) d0 d1 h0 h1 (λ q. q ≡ under fresh spare (keeps name (has [] false)) taken true true false untouched)
  copy_made number name is keeps_old did =
      leads_deed (made name) _ did (made_copy t fresh spare taken name (subst (λ n. is_old_name t.out n ≡ true) (sym is) (old_file_is t.out number)) keeps_old locked) refl

  pub copy_met : {d0 d1 : Option (List Deed)} {h0 h1 : Option (List File)} (number : ℕ) (name : List ℕ) → name ≡ old_file t.out number → Did d0 d1 h0 h1 (met name)
      → Leads t (under fresh spare unkept taken true true false untouched) d0 d1 h0 h1 (λ q. q ≡ under fresh spare unkept (old_file t.out number ∷ taken) true true false untouched)
  copy_met number name is did =
      leads_deed (met name) _ did (met_old t fresh spare taken name (subst (λ n. is_old_name t.out n ≡ true) (sym is) (old_file_is t.out number)))
      (ap (λ n. under fresh spare unkept (n ∷ taken) true true false untouched) is)

  pub no_memory : (p : Phase) → p ≡ under fresh spare unkept taken true true false untouched → Fell NoMemory t (is_own spare) p
  no_memory p is = subst (λ x. Fell NoMemory t (is_own spare) x) (sym is) (record { locked = locked; spare = refl; strays = refl; put = refl; left = refl; cause = tt })

  pub cant_write : (kept : Kept) (p : Phase) → p ≡ under fresh spare kept taken true true false untouched → Fell WriteFault t (is_own spare) p
  cant_write kept p is = subst (λ x. Fell WriteFault t (is_own spare) x) (sym is) (record { locked = locked; spare = refl; strays = refl; put = refl; left = refl; cause = tt })

one_more : (t : Task) (taken : List (List ℕ)) (number : ℕ) → ((before : ℕ) → 1 ≤ before → before < number → is_taken taken (old_file t.out before) ≡ true)
    → (before : ℕ) → 1 ≤ before → before < number + 1 → is_taken (old_file t.out number ∷ taken) (old_file t.out before) ≡ true
one_more t taken number all before low high = by_last (nat_eq before number) refl where
  or_else : (a b : Bool) → b ≡ true → (a || b) ≡ true
  or_else true b e = refl
  or_else false b e = e

  by_last : (last : Bool) → nat_eq before number ≡ last → is_taken (old_file t.out number ∷ taken) (old_file t.out before) ≡ true
  by_last true e =
      let is : before ≡ number = (Decides-eqb before number).0 e in
      rw (is, same_self (old_file t.out number)) refl
  by_last false e =
      let ne : before ≢ number = λ is. false_true (sym e ∙ (Decides-eqb before number).1 is) in
      or_else _ _ (all before low (omega arith))

pub taken_too : (t : Task) (fresh spare : Own) (number : ℕ) (taken : List (List ℕ)) (p : Phase) (bytes : List ℕ) (is_copied : Bool) → is_copied ≡ false
    → ((before : ℕ) → 1 ≤ before → before < number → is_taken taken (old_file t.out before) ≡ true)
    → TriesSo is_copied t fresh spare taken number bytes p → AllTaken t fresh spare (number + 1) p
taken_too t fresh spare number taken p bytes is_copied isnt all so =
    let is : TriesSo false t fresh spare taken number bytes p = subst (λ b. TriesSo b t fresh spare taken number bytes p) isnt so in
    record { taken = old_file t.out number ∷ taken; is = is; all = one_more t taken number all }

pub copied : (t : Task) (fresh spare : Own) (taken : List (List ℕ)) (number : ℕ) (bytes : List ℕ) (p : Phase) (is_copied : Bool) → is_copied ≡ true
    → TriesSo is_copied t fresh spare taken number bytes p → Copied t fresh spare bytes p
copied t fresh spare taken number bytes p is_copied is so =
    let at : TriesSo true t fresh spare taken number bytes p = subst (λ b. TriesSo b t fresh spare taken number bytes p) is so in
    record { name = old_file t.out number; taken = taken; is = at }

pub all_olds : (t : Task) (fresh spare : Own) → is_own fresh ≡ true → (number : ℕ) (p : Phase) → 10000 ≤ number → AllTaken t fresh spare number p → Fell Olds t (is_own spare) p
all_olds t fresh spare locked number p past all = subst (λ x. Fell Olds t (is_own spare) x) (sym all.is)
    (record { locked = locked; spare = refl; strays = refl; put = refl; left = refl; cause = λ before low high. all.all before low (omega arith) })

pub not_kept : (keeps_old : Bool) (old : Option (List ℕ)) → keeps_old ≡ false → is_kept keeps_old old unkept ≡ true
not_kept true old e = false_true (sym e)
not_kept false old e = refl

pub none_kept : (keeps_old : Bool) (old : Option (List ℕ)) → old ≡ None → is_kept keeps_old old unkept ≡ true
none_kept keeps_old old e = subst (λ o. is_kept keeps_old o unkept ≡ true) (sym e) (by_test keeps_old) where
  by_test : (test : Bool) → is_kept test None unkept ≡ true
  by_test true = refl
  by_test false = refl

copy_kept : (keeps_old : Bool) (old : Option (List ℕ)) (name bytes : List ℕ) → old ≡ Some bytes → is_kept keeps_old old (keeps name (has bytes true)) ≡ true
copy_kept keeps_old old name bytes e = subst (λ o. is_kept keeps_old o (keeps name (has bytes true)) ≡ true) (sym e) (by_test keeps_old) where
  by_test : (test : Bool) → is_kept test (Some bytes) (keeps name (has bytes true)) ≡ true
  by_test true = rw (same_self bytes) refl
  by_test false = refl

pub kept_after : {T : Type 0} (result : Result T PutFault) (t : Task) (fresh spare : Own) (bytes : List ℕ) (p : Phase) → t.old ≡ Some bytes → Copies result t fresh spare bytes p → Keeps result t fresh spare p
kept_after (Ok value) t fresh spare bytes p old so = record { kept = keeps so.name (has bytes true); taken = so.taken; file = true; out = true; is = so.is; done = copy_kept t.keeps_old t.old so.name bytes old }
kept_after (Err why) t fresh spare bytes p old so = so

pub prepared : {T : Type 0} (result : Result T PutFault) (t : Task) (fresh spare : Own) (kept : Kept) (taken : List (List ℕ)) (p : Phase) → is_kept t.keeps_old t.old kept ≡ true → LooksTwice result t fresh spare kept taken p → Prepares result t fresh spare p
prepared (Ok value) t fresh spare kept taken p done so = record { kept = kept; taken = taken; is = so; done = done }
prepared (Err why) t fresh spare kept taken p done so = so
