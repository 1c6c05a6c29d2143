-- What the tests of phases say.
use Rattle.std.proofs.Common.{◌≡◌, ◌≢◌, ℕ, Bool, true, false, cond, List, Option, None, Some, refl, sym, ap, ◌∙◌}
use Rattle.pb_renew_store.specs.Deeds.{same_content}
use Rattle.pb_renew_put.proofs.Apart.{same_is, same_self}

-- a choice that gives something
pub if_some : {A C : Type 0} (test : Bool) (x y : Option A) (q : A) → (test ≡ true → x ≡ Some q → C) → (test ≡ false → y ≡ Some q → C) → cond test x y ≡ Some q → C
if_some true x y q then_so else_so e = then_so refl e
if_some false x y q then_so else_so e = else_so refl e

pub none_some : {A C : Type 0} (q : A) → None ≡ Some q → C
none_some q e = absurd (not_so e) where
  not_so : None ≡ Some q → ⊥
  not_so e = cc

pub false_true : {C : Type 0} → false ≡ true → C
false_true e = absurd (not_so e) where
  not_so : false ≡ true → ⊥
  not_so e = cc

pub content_is : (a b : Option (List ℕ)) → same_content a b ≡ true → a ≡ b
content_is None None e = refl
content_is None (Some b) e = false_true e
content_is (Some a) None e = false_true e
content_is (Some a) (Some b) e = ap (λ (l : List ℕ). Some l) (same_is a b e)

pub content_self : (a : Option (List ℕ)) → same_content a a ≡ true
content_self None = refl
content_self (Some a) = same_self a

pub content_not : (a b : Option (List ℕ)) → same_content a b ≡ false → a ≢ b
content_not a b e is = absurd (let equal : same_content a b ≡ true = ap (λ x. same_content a x) (sym is) ∙ content_self a in false_true (sym e ∙ equal))
