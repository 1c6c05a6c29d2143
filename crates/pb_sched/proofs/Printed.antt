-- What is printed is a schedule's text.
use Rattle.std.proofs.Common.{◌≡◌, ℕ, ◌<◌, ◌≤◌, ◌^◌, List, [], ◌∷◌, ◌++◌, length, ap, refl, ◌∙◌}
use Rattle.std.specs.List.{AllByRecursion}
use Rattle.pb_sched.specs.declared.format.Format.TheVariants.{Two}
use Rattle.pb_sched.specs.declared.schedule.Turn.{Turn}
use Rattle.pb_sched.specs.Formats.{layout, IsTurn}
use Rattle.pb_sched.specs.Outcomes.{IsSchedule}

nothing_more : (xs : List ℕ) → xs ≡ xs ++ []
nothing_more [] = refl
nothing_more (x ∷ xs) = ap (λ ys. x ∷ ys) (nothing_more xs)

pub printed : (bytes : List ℕ) (n : ℕ) (ts : List Turn) → bytes ≡ layout Two n ts → n < 2 ^ 64 → AllByRecursion (IsTurn Two) ts → length ts ≤ 1000000 → IsSchedule bytes n ts
printed bytes n ts is small each most = (Two, record { is = is ∙ nothing_more (layout Two n ts); seed_fits = small; each = each; most = most })
