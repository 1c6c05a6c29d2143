use Rattle.std.proofs.Common.{◌≡◌, ℕ, ◌+◌, ◌<◌, ℤ, None, Option, List, ◌∷◌, length, drop, drop-cons, add-one, sym, ap, ◌∙◌}
use Rattle.pb_affine.specs.declared.guard.Guard.{Guard}
use Rattle.pb_cases.specs.declared.region.Wanted.{Wanted}
use Rattle.pb_cases.specs.declared.region.Rank.{Rank}
use Rattle.pb_cases.specs.Search.{with_both, best_of}
use Rattle.pb_cases.specs.Roles.{guard_at}
use Rattle.pb_cases.proofs.region.Region.best_of.Goals as goal

step : (wanted : Wanted) (a b : List Guard) (n : ℤ) (gs : List Guard) (i : ℕ) (first best next : Option Rank) → i < length gs → next ≡ with_both wanted a b n (guard_at gs i) best → best_of wanted a b n gs first ≡ best_of wanted a b n (drop i gs) best → best_of wanted a b n gs first ≡ best_of wanted a b n (drop (i + 1) gs) next
step wanted a b n gs i first best next lt e so_far =
    let more : drop i gs ≡ guard_at gs i ∷ drop (i + 1) gs = rw (add-one, drop-cons gs i (record { role = 0; low = None; high = None; from = None; to = None })) in
    so_far ∙ ap (λ l. best_of wanted a b n l best) more ∙ ap (λ o. best_of wanted a b n (drop (i + 1) gs) o) (sym e)

pub loop-guard-preserved : goal.loop-guard-preserved
loop-guard-preserved c = step _ _ _ _ c.args.guards.now c.loop-guard.guard-index c.args.first c.loop-guard.best c.with_both-best.result c.loop-guard-test.true c.with_both-best.ensures c.loop-guard.invariant
