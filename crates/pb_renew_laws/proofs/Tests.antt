-- What tests say.
use Rattle.std.proofs.Common.{◌≡◌, ℕ, Bool, true, false, cond, not, ◌||◌, List, Option, None, Some, IsSome, is_some, refl, sym, ap, ◌∙◌}
use Rattle.pb_renew_store.specs.Deeds.{same_content}
use Rattle.pb_renew_laws.proofs.Names.{same_is}

-- a choice that gives something
pub if_some : {A C : Type 0} (test : Bool) (x y : Option A) (q : A) → (test ≡ true → x ≡ Some q → C) → (test ≡ false → y ≡ Some q → C) → cond test x y ≡ Some q → C
if_some true x y q then_so else_so e = then_so refl e
if_some false x y q then_so else_so e = else_so refl e

pub none_some : {A C : Type 0} (q : A) → None ≡ Some q → C
none_some q e = absurd (not_so e) where
  not_so : None ≡ Some q → ⊥
  not_so e = cc

pub false_true : {C : Type 0} → false ≡ true → C
false_true e = absurd (not_so e) where
  not_so : false ≡ true → ⊥
  not_so e = cc

-- a file that is missing isn't there
pub missing : {C : Type 0} (file : Option (List ℕ)) → file ≡ None → IsSome file → C
missing file gone there = false_true (sym (ap is_some gone) ∙ there)

pub content_is : (a b : Option (List ℕ)) → same_content a b ≡ true → a ≡ b
content_is None None e = refl
content_is None (Some b) e = false_true e
content_is (Some a) None e = false_true e
content_is (Some a) (Some b) e = ap (λ (l : List ℕ). Some l) (same_is a b e)

pub either_not : (a b : Bool) → (a || b) ≡ false → (a ≡ false) × (b ≡ false)
either_not true b e = false_true (sym e)
either_not false b e = (refl, e)

pub not_so : (a : Bool) → not a ≡ true → a ≡ false
not_so true e = false_true e
not_so false e = refl

pub not_not : (a : Bool) → not a ≡ false → a ≡ true
not_not true e = refl
not_not false e = false_true (sym e)
