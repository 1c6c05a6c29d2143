use Rattle.std.proofs.Common.{List, subst, sym}
use Rattle.std.specs.List.{All}
use Rattle.std.proofs.lemmas.List.Elements.{All-push}
use Rattle.pb_affine.specs.declared.guard.Guard.{Guard}
use Rattle.pb_affine.specs.Values.{IsSmallGuard}
use Rattle.pb_cases.specs.Bounds.{IsAligned}
use Rattle.pb_test_language.proofs.cases_tests.add_guard.Goals as goal

pub returns-clause-aligned : goal.returns-clause-aligned
returns-clause-aligned c = subst (λ (l : List Guard). All (IsAligned c.args.cases.now) l) (sym c.in_ok-push.ensures.items) (All-push (IsAligned c.args.cases.now) c.args.list.now.items c.guard_of-guard.result c.requires.aligned c.guard_of-guard.ensures.aligned)

pub returns-clause-small : goal.returns-clause-small
returns-clause-small c = subst (λ (l : List Guard). All IsSmallGuard l) (sym c.in_ok-push.ensures.items) (All-push IsSmallGuard c.args.list.now.items c.guard_of-guard.result c.requires.small c.guard_of-guard.ensures.small)
