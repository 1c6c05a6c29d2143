use Rattle.std.proofs.Common.{List, subst, sym}
use Rattle.std.specs.List.{All}
use Rattle.pb_affine.specs.declared.guard.Guard.{Guard}
use Rattle.pb_affine.specs.Values.{IsSmallGuard}
use Rattle.pb_cases.specs.Bounds.{IsAligned}
use Rattle.pb_test_language.proofs.cases_tests.both_of.Goals as goal

pub both-requires-clause-a : goal.both-requires-clause-a
both-requires-clause-a c = subst (λ (l : List Guard). All (IsAligned c.args.cases.now) l) (sym c.deref.ensures.value) c.in_ok-a.ensures.aligned

pub both-requires-clause-b : goal.both-requires-clause-b
both-requires-clause-b c = subst (λ (l : List Guard). All (IsAligned c.args.cases.now) l) (sym c.deref-2.ensures.value) c.in_ok-b.ensures.aligned

pub both-requires-clause-a_small : goal.both-requires-clause-a_small
both-requires-clause-a_small c = subst (λ (l : List Guard). All IsSmallGuard l) (sym c.deref.ensures.value) c.in_ok-a.ensures.small

pub both-requires-clause-b_small : goal.both-requires-clause-b_small
both-requires-clause-b_small c = subst (λ (l : List Guard). All IsSmallGuard l) (sym c.deref-2.ensures.value) c.in_ok-b.ensures.small
