-- The first of the breaches of a part, from those of its parts.
use Rattle.std.proofs.Common.{◌≡◌, ◌⊎◌, inl, inr, ℕ, ℤ, Option, List, [], ◌++◌, sym, subst}
use Rattle.std.specs.Prelude.{Contains}
use Rattle.pb_affine.specs.declared.range.NRange.{NRange}
use Rattle.pb_core_language.specs.declared.protocol.CoreRole.{CoreRole}
use Rattle.pb_core_language.specs.Verdict.{Broken}
use Rattle.pb_rules.proofs.Lists.{has, contains, has_cases, has_left, has_right}
use Rattle.pb_choice.specs.declared.found.Found.{Found}
use Rattle.pb_choice.specs.declared.rule.ChoiceRule.{ChoiceRule}
use Rattle.pb_choice.specs.Flaws.{Flaws, IsFlaw, lonely, misled, no_flaws, both}
use Rattle.pb_choice.specs.Found.{Improves}
use Rattle.pb_choice.proofs.Improving.{improves_then, improves_as, improves_none}

-- the same marks at each N, for each rank
pub record SameFlaws (f g : Flaws) : Type 0 where
  pub lone : (n : ℤ) → f.lone n ≡ g.lone n
  pub told : (k : ChoiceRule) (n : ℤ) (role : ℕ) (x : ℤ) → f.told k n role x ≡ g.told k n role x

pub same_back : (f g : Flaws) → SameFlaws f g → SameFlaws g f
same_back f g s = record { lone = λ n. sym (s.lone n); told = λ k n role x. sym (s.told k n role x) }

module _ (range : NRange) (roles : List CoreRole) where
  pub carried : (f g : Flaws) (c : Broken) → SameFlaws f g → IsFlaw range roles f c → IsFlaw range roles g c
  carried f g c s (lonely m within is there) = lonely m within is (subst (λ l. Contains l m) (s.lone c.n) there)
  carried f g c s (misled k m role x within rank is there) = misled k m role x within rank is (subst (λ l. Contains l m) (s.told k c.n role x) there)

  pub either : (f g : Flaws) (c : Broken) → IsFlaw range roles (both f g) c → IsFlaw range roles f c ⊎ IsFlaw range roles g c
  either f g c (lonely m within is there) =
      elim (has_cases (f.lone c.n) (g.lone c.n) m (has _ m there)) [
        | inl y ↦ inl (lonely m within is (contains (f.lone c.n) m y))
        | inr z ↦ inr (lonely m within is (contains (g.lone c.n) m z))
      ]
  either f g c (misled k m role x within rank is there) =
      elim (has_cases (f.told k c.n role x) (g.told k c.n role x) m (has _ m there)) [
        | inl y ↦ inl (misled k m role x within rank is (contains (f.told k c.n role x) m y))
        | inr z ↦ inr (misled k m role x within rank is (contains (g.told k c.n role x) m z))
      ]

  pub first_one : (f g : Flaws) (c : Broken) → IsFlaw range roles f c → IsFlaw range roles (both f g) c
  first_one f g c (lonely m within is there) = lonely m within is (contains (f.lone c.n ++ g.lone c.n) m (has_left (f.lone c.n) (g.lone c.n) m (has _ m there)))
  first_one f g c (misled k m role x within rank is there) =
      misled k m role x within rank is (contains (f.told k c.n role x ++ g.told k c.n role x) m (has_left (f.told k c.n role x) (g.told k c.n role x) m (has _ m there)))

  pub second_one : (f g : Flaws) (c : Broken) → IsFlaw range roles g c → IsFlaw range roles (both f g) c
  second_one f g c (lonely m within is there) = lonely m within is (contains (f.lone c.n ++ g.lone c.n) m (has_right (f.lone c.n) (g.lone c.n) m (has _ m there)))
  second_one f g c (misled k m role x within rank is there) =
      misled k m role x within rank is (contains (f.told k c.n role x ++ g.told k c.n role x) m (has_right (f.told k c.n role x) (g.told k c.n role x) m (has _ m there)))

  pub improves_same : (f g : Flaws) (a b : Option Found) → SameFlaws f g → Improves (IsFlaw range roles f) a b → Improves (IsFlaw range roles g) a b
  improves_same f g a b s = improves_as (IsFlaw range roles f) (IsFlaw range roles g) a b (λ c. carried f g c s) (λ c. carried g f c (same_back f g s))

  -- the one part, then the other
  pub improves_both : (f g h : Flaws) (a b c : Option Found) → SameFlaws h (both f g) → Improves (IsFlaw range roles f) a b → Improves (IsFlaw range roles g) b c → Improves (IsFlaw range roles h) a c
  improves_both f g h a b c s p q =
      improves_as (λ z. IsFlaw range roles f z ⊎ IsFlaw range roles g z) (IsFlaw range roles h) a c
      (λ z k. carried (both f g) h z (same_back h (both f g) s) (elim k [ inl x ↦ first_one f g z x | inr y ↦ second_one f g z y ]))
      (λ z k. either f g z (carried h (both f g) z s k))
      (improves_then (IsFlaw range roles f) (IsFlaw range roles g) a b c p q)

  pub improves_empty : (f : Flaws) (a : Option Found) → SameFlaws f no_flaws → Improves (IsFlaw range roles f) a a
  improves_empty f a s = improves_none (IsFlaw range roles f) a (λ c h. none c (carried f no_flaws c s h)) where
    none : (c : Broken) → IsFlaw range roles no_flaws c → ⊥
    none c (lonely m within is there) = absurd (has [] m there)
    none c (misled k m role x within rank is there) = absurd (has [] m there)
