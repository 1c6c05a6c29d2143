-- The first of some breaches and of others.
use Rattle.std.proofs.Common.{◌≡◌, ◌⊎◌, inl, inr, false, Option, Some, None, if◌then◌else◌, refl, sym, ◌∙◌, subst}
use Rattle.std.proofs.lemmas.Bool.{cases_Bool}
use Rattle.pb_core_language.specs.Verdict.{Broken, is_before}
use Rattle.pb_rules.proofs.Order.{turns, falls}
use Rattle.pb_choice.specs.declared.found.Found.{Found}
use Rattle.pb_choice.specs.Found.{broken_of, earlier, IsNamedBroken, IsNamedIf, IsNotBefore, IsOne, Improves}

-- breaches of the one kind and then of the other
comes_then : (S T : Broken → Type 0) (a b c : Option Found) → (b ≡ a) ⊎ IsOne S b → (c ≡ b) ⊎ IsOne T c → (c ≡ a) ⊎ IsOne (λ z. S z ⊎ T z) c
comes_then S T a b c (inl e) (inl f) = inl (f ∙ e)
comes_then S T a b c (inr s) (inl f) = inr (subst (λ o. IsOne (λ z. S z ⊎ T z) o) (sym f) (left b s)) where
  left : (o : Option Found) → IsOne S o → IsOne (λ z. S z ⊎ T z) o
  left None h = absurd h
  left (Some q) h = inl h
comes_then S T a b c s (inr t) = inr (right c t) where
  right : (o : Option Found) → IsOne T o → IsOne (λ z. S z ⊎ T z) o
  right None h = absurd h
  right (Some q) h = inr h

pub improves_then : (S T : Broken → Type 0) (a b c : Option Found) → Improves S a b → Improves T b c → Improves (λ z. S z ⊎ T z) a c
improves_then S T a b c s t = record {
  named = λ h. t.named (s.named h);
  comes = comes_then S T a b c s.comes t.comes;
  keeps = λ d kd h k. t.keeps d kd (s.named h) (s.keeps d kd h k);
  first = λ d kd h k. elim k [ inl x ↦ t.keeps d kd (s.named h) (s.first d kd h x) | inr y ↦ t.first d kd (s.named h) y ];
}

comes_as : (S T : Broken → Type 0) (a b : Option Found) → ((c : Broken) → S c → T c) → (b ≡ a) ⊎ IsOne S b → (b ≡ a) ⊎ IsOne T b
comes_as S T a b f (inl e) = inl e
comes_as S T a None f (inr h) = absurd h
comes_as S T a (Some q) f (inr h) = inr (f (broken_of q) h)

-- the same breaches, otherwise put
pub improves_as : (S T : Broken → Type 0) (a b : Option Found) → ((c : Broken) → S c → T c) → ((c : Broken) → T c → S c) → Improves S a b → Improves T a b
improves_as S T a b f g s = record {
  named = s.named;
  comes = comes_as S T a b f s.comes;
  keeps = s.keeps;
  first = λ d kd h k. s.first d kd h (g d k);
}

-- breaches that aren't before the old one
pub improves_late : (S : Broken → Type 0) (a : Option Found) → ((c : Broken) → S c → IsNotBefore c a) → Improves S a a
improves_late S a late = record {
  named = λ h. h;
  comes = inl refl;
  keeps = λ d kd h k. k;
  first = λ d kd h k. late d k;
}

-- no breach
pub improves_none : (S : Broken → Type 0) (a : Option Found) → ((c : Broken) → S c → ⊥) → Improves S a a
improves_none S a none = improves_late S a (λ c h. absurd (none c h))

earlier_named : (a : Option Found) (f : Found) → IsNamedBroken (broken_of f) → IsNamedIf a → IsNamedIf (earlier a f)
earlier_named None f h k = h
earlier_named (Some b) f h k =
    elim (cases_Bool (is_before (broken_of f) (broken_of b))) [
      | inl y ↦ subst (λ u. IsNamedBroken (broken_of (if u then f else b))) (sym y) h
      | inr z ↦ subst (λ u. IsNamedBroken (broken_of (if u then f else b))) (sym z) k
    ]

earlier_comes : (S : Broken → Type 0) (a : Option Found) (f : Found) → S (broken_of f) → (earlier a f ≡ a) ⊎ IsOne S (earlier a f)
earlier_comes S None f h = inr h
earlier_comes S (Some b) f h =
    elim (cases_Bool (is_before (broken_of f) (broken_of b))) [
      | inl y ↦ inr (subst (λ u. S (broken_of (if u then f else b))) (sym y) h)
      | inr z ↦ inl (subst (λ u. ◌≡◌ {A = Option Found} (Some (if u then f else b)) (Some b)) (sym z) refl)
    ]

earlier_keeps : (c : Broken) (a : Option Found) (f : Found) → IsNamedBroken c → IsNamedIf a → IsNotBefore c a → IsNotBefore c (earlier a f)
earlier_keeps c None f kc ka h = absurd h
earlier_keeps c (Some b) f kc kb h =
    elim (cases_Bool (is_before (broken_of f) (broken_of b))) [
      | inl y ↦ subst (λ u. is_before c (broken_of (if u then f else b)) ≡ false) (sym y) (falls 9 c (broken_of b) (broken_of f) kc kb h (turns (broken_of f) (broken_of b) y))
      | inr z ↦ subst (λ u. is_before c (broken_of (if u then f else b)) ≡ false) (sym z) h
    ]

earlier_first : (c : Broken) (a : Option Found) (f : Found) → IsNamedBroken c → IsNamedBroken (broken_of f) → is_before c (broken_of f) ≡ false → IsNotBefore c (earlier a f)
earlier_first c None f kc kf h = h
earlier_first c (Some b) f kc kf h =
    elim (cases_Bool (is_before (broken_of f) (broken_of b))) [
      | inl y ↦ subst (λ u. is_before c (broken_of (if u then f else b)) ≡ false) (sym y) h
      | inr z ↦ subst (λ u. is_before c (broken_of (if u then f else b)) ≡ false) (sym z) (falls 9 c (broken_of f) (broken_of b) kc kf h z)
    ]

-- the first of some breaches
pub improves_one : (S : Broken → Type 0) (a : Option Found) (f : Found) → IsNamedBroken (broken_of f) → S (broken_of f) →
    ((c : Broken) → S c → is_before c (broken_of f) ≡ false) → Improves S a (earlier a f)
improves_one S a f kf h least = record {
  named = earlier_named a f kf;
  comes = earlier_comes S a f h;
  keeps = λ c kc ka k. earlier_keeps c a f kc ka k;
  first = λ c kc ka k. earlier_first c a f kc kf (least c k);
}
