use Rattle.std.proofs.Common.{List, subst, sym}
use Rattle.std.specs.List.{All}
use Rattle.pb_affine.specs.declared.guard.Guard.{Guard}
use Rattle.pb_affine.specs.Values.{IsSmallGuard}
use Rattle.pb_cases.specs.Bounds.{IsAligned}
use Rattle.pb_test_language.proofs.cases_tests.agree_at.Goals as goal

pub agree-requires-clause-a : goal.agree-requires-clause-a
agree-requires-clause-a c = subst (λ (l : List Guard). All (IsAligned c.args.cases.now) l) (sym c.deref.ensures.value) c.in_ok-a.ensures.aligned

pub agree-requires-clause-b : goal.agree-requires-clause-b
agree-requires-clause-b c = subst (λ (l : List Guard). All (IsAligned c.args.cases.now) l) (sym c.deref-2.ensures.value) c.in_ok-b.ensures.aligned

pub agree-requires-clause-a_small : goal.agree-requires-clause-a_small
agree-requires-clause-a_small c = subst (λ (l : List Guard). All IsSmallGuard l) (sym c.deref.ensures.value) c.in_ok-a.ensures.small

pub agree-requires-clause-b_small : goal.agree-requires-clause-b_small
agree-requires-clause-b_small c = subst (λ (l : List Guard). All IsSmallGuard l) (sym c.deref-2.ensures.value) c.in_ok-b.ensures.small
