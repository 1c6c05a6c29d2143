-- Looking at FILE and OUT, and at OUT.left.
use Rattle.std.proofs.Common.{◌≡◌, ◌⊎◌, ℕ, Bool, true, false, List, Option, Some, Result, Ok, Err, refl, sym, subst, ◌∙◌, inl, inr}
use Rattle.pb_io.specs.Files.{File}
use Rattle.pb_renew_store.specs.Deeds.{Deed}
use Rattle.pb_renew_put.specs.declared.fault.PutFault.{PutFault}
use Rattle.pb_renew_put.specs.declared.fault.PutFault.TheVariants.{Changed, ReadFault}
use Rattle.pb_renew_put.specs.Jobs.{Behind, Task}
use Rattle.pb_renew_put.specs.Names.{is_written, left_name}
use Rattle.pb_renew_put.specs.Phases.{Kept, Leads, untouched, Own, Phase, is_own, on_differs, on_seen}
use Rattle.pb_renew_put.specs.Steps.{Fell, Looks, LooksTwice, under}
use Rattle.pb_renew_put.proofs.Leads.{ends_so, from_same, then_leads}
use Rattle.pb_renew_put.proofs.Nexts.{file_differs, left_differs, out_differs, saw_file, saw_left, saw_out}

module _ (t : Task) (fresh spare : Own) (kept : Kept) (taken : List (List ℕ)) (locked : is_own fresh ≡ true) where
  -- what was seen is kept, whatever was seen before
  fell_other : (file out : Bool) (q p : Phase) → p ≡ record (under fresh spare kept taken file out false untouched) { differs = true } → Fell Changed t (is_own spare) p
  fell_other file out q p is = subst (λ x. Fell Changed t (is_own spare) x) (sym is) (record { locked = locked; spare = refl; strays = refl; put = refl; left = refl; cause = refl })

  fell_read : (file out : Bool) (p : Phase) → p ≡ under fresh spare kept taken file out false untouched → Fell ReadFault t (is_own spare) p
  fell_read file out p is = subst (λ x. Fell ReadFault t (is_own spare) x) (sym is) (record { locked = locked; spare = refl; strays = refl; put = refl; left = refl; cause = tt })

  -- a look that fails
  pub fell_so : (why : PutFault) (file out : Bool) (name : List ℕ) (bytes : Option (List ℕ)) (p : Phase)
      → on_differs t (under fresh spare kept taken file out false untouched) name bytes ≡ record (under fresh spare kept taken file out false untouched) { differs = true }
      → ((why ≡ Changed) × (p ≡ on_differs t (under fresh spare kept taken file out false untouched) name bytes)) ⊎ ((why ≡ ReadFault) × (p ≡ under fresh spare kept taken file out false untouched))
      → Fell why t (is_own spare) p
  fell_so why file out name bytes p differs either =
      elim either [ inl x ↦ subst (λ w. Fell w t (is_own spare) p) (sym x.0) (fell_other file out p p (x.1 ∙ differs)) | inr x ↦ subst (λ w. Fell w t (is_own spare) p) (sym x.0) (fell_read file out p x.1) ]

  pub file_fell : {d0 d1 : Option (List Deed)} {h0 h1 : Option (List File)} (file out : Bool) (name : List ℕ) (bytes : Option (List ℕ)) (why : PutFault) → name ≡ t.file → bytes ≡ Some t.source
      → Leads t (under fresh spare kept taken file out false untouched) d0 d1 h0 h1 (λ p. ((why ≡ Changed) × (p ≡ on_differs t (under fresh spare kept taken file out false untouched) name bytes)) ⊎ ((why ≡ ReadFault) × (p ≡ under fresh spare kept taken file out false untouched)))
      → Leads t (under fresh spare kept taken file out false untouched) d0 d1 h0 h1 (Fell why t (is_own spare))
  file_fell file out name bytes why named has leads =
      ends_so leads (λ p either. fell_so why file out name bytes p (rw (named, has) (file_differs t (under fresh spare kept taken file out false untouched))) either)

  -- a look at OUT behind one at FILE
  pub looks_twice : {T : Type 0} {d0 d1 d2 : Option (List Deed)} {h0 h1 h2 : Option (List File)} (file out : Bool) (name : List ℕ) (bytes : Option (List ℕ)) (other : List ℕ) (result : Result T PutFault)
      → is_written t.out t.file ≡ false → name ≡ t.file → bytes ≡ Some t.source → other ≡ t.out
      → Leads t (under fresh spare kept taken file out false untouched) d0 d1 h0 h1 (λ p. p ≡ on_seen t (under fresh spare kept taken file out false untouched) name bytes)
      → ((p : Phase) → is_own p.fresh ≡ true → Leads t p d1 d2 h1 h2 (Looks result t p other t.old))
      → Leads t (under fresh spare kept taken file out false untouched) d0 d2 h0 h2 (LooksTwice result t fresh spare kept taken)
  looks_twice file out name bytes other result apart named has is_out first second =
      let one : Phase = under fresh spare kept taken true out false untouched in
      then_leads first (λ q at. from_same q (at ∙ rw (named, has) (saw_file t (under fresh spare kept taken file out false untouched)))
      (ends_so (second one locked) (λ p looks. after result p (subst (λ n. Looks result t one n t.old p) is_out looks)))) where
        after : {T : Type 0} (result : Result T PutFault) (p : Phase) → Looks result t (under fresh spare kept taken true out false untouched) t.out t.old p → LooksTwice result t fresh spare kept taken p
        after (Ok value) p is = is ∙ saw_out t (under fresh spare kept taken true out false untouched) apart
        after (Err why) p either = fell_so why true out t.out t.old p (out_differs t (under fresh spare kept taken true out false untouched) apart) either

-- a look at OUT.left
pub left_fell : {d0 d1 : Option (List Deed)} {h0 h1 : Option (List File)} (t : Task) (b : Behind) (fresh spare : Own) (kept : Kept) (taken : List (List ℕ)) (name : List ℕ) (why : PutFault)
    → is_own fresh ≡ true → is_written t.out t.file ≡ false → t.behind ≡ Some b → name ≡ left_name t.out
    → Leads t (under fresh spare kept taken true true false untouched) d0 d1 h0 h1 (λ p. ((why ≡ Changed) × (p ≡ on_differs t (under fresh spare kept taken true true false untouched) name b.before)) ⊎ ((why ≡ ReadFault) × (p ≡ under fresh spare kept taken true true false untouched)))
    → Leads t (under fresh spare kept taken true true false untouched) d0 d1 h0 h1 (Fell why t (is_own spare))
left_fell t b fresh spare kept taken name why locked apart behind named leads =
    ends_so leads (λ p either. fell_so t fresh spare kept taken locked why true true name b.before p (rw named (left_differs t b fresh spare kept taken apart behind)) either)

pub left_looked : (t : Task) (b : Behind) (fresh spare : Own) (kept : Kept) (taken : List (List ℕ)) (name : List ℕ) (q : Phase) → is_written t.out t.file ≡ false → t.behind ≡ Some b → name ≡ left_name t.out
    → q ≡ on_seen t (under fresh spare kept taken true true false untouched) name b.before → q ≡ under fresh spare kept taken true true true untouched
left_looked t b fresh spare kept taken name q apart behind named is = is ∙ rw named (saw_left t b (under fresh spare kept taken true true false untouched) apart behind)
