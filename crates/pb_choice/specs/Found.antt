-- The first breach so far.
use Rattle.std.specs.Prelude.{◌≡◌, ◌⊎◌, ℤ, false, Option, Some, None, if◌then◌else◌}
use Rattle.pb_core_language.specs.Tree.{Mark}
use Rattle.pb_core_language.specs.Rules.{Breach}
use Rattle.pb_core_language.specs.Verdict.{Broken, is_before}
use Rattle.pb_rules.specs.Verdict.{seat_if, IsNamedBut}
use Rattle.pb_choice.specs.declared.found.Found.{Found}
use Rattle.pb_choice.specs.declared.found.Mark as F

abbrev pub mark_of : F.Mark → Mark
mark_of m = record { number = m.number; place = m.place }

abbrev pub breach_of : Found → Breach
breach_of f = record { rule = f.rule; mark = mark_of f.mark; at = seat_if f.at }

abbrev pub broken_of : Found → Broken
broken_of f = record { n = f.n; breach = breach_of f }

abbrev pub earlier_of : Found → Found → Found
earlier_of best f = if is_before (broken_of f) (broken_of best) then f else best

abbrev pub earlier : Option Found → Found → Option Found
earlier None f = Some f
earlier (Some b) f = Some (earlier_of b f)

-- a breach of rule 9 at one N
abbrev pub lone_found : F.Mark → ℤ → Found
lone_found m n = record { rule = 9; mark = m; n = n; at = None }

abbrev pub lone_if : F.Mark → Option ℤ → Option Found → Option Found
lone_if m None best = best
lone_if m (Some n) best = earlier best (lone_found m n)

-- rule 9 names nobody, and the others a rank
abbrev pub IsNamedBroken : Broken → Type 0
IsNamedBroken c = IsNamedBut 9 c.breach.rule c.breach.at

abbrev pub IsNamedIf : Option Found → Type 0
IsNamedIf None = Unit {0}
IsNamedIf (Some f) = IsNamedBroken (broken_of f)

abbrev pub IsNotBefore : Broken → Option Found → Type 0
IsNotBefore c None = ⊥
IsNotBefore c (Some f) = is_before c (broken_of f) ≡ false

abbrev pub IsOne : (Broken → Type 0) → Option Found → Type 0
IsOne S None = ⊥
IsOne S (Some f) = S (broken_of f)

-- the new one is the first of the old one and of these breaches
pub record Improves (S : Broken → Type 0) (old new : Option Found) : Type 0 where
  pub named : IsNamedIf old → IsNamedIf new
  pub comes : (new ≡ old) ⊎ IsOne S new
  pub keeps : (c : Broken) → IsNamedBroken c → IsNamedIf old → IsNotBefore c old → IsNotBefore c new
  pub first : (c : Broken) → IsNamedBroken c → IsNamedIf old → S c → IsNotBefore c new
