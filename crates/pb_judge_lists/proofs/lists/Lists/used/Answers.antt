use Rattle.std.proofs.Common.{◌≤◌, length, subst, arith}
use Rattle.pb_judge_lists.proofs.lists.Lists.used.Goals as goal

pub returns-clause-within : goal.returns-clause-within
returns-clause-within c = subst (λ p. c.self.inside.used ≤ length p.log) c.self.view_is (omega (arith, c.self.invariant.used))
