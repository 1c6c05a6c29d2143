use Rattle.std.proofs.Common.{refl, subst, sym}
use Rattle.std.specs.List.{Contains}
use Rattle.pb_affine.specs.declared.lin.Lin.{Lin}
use Rattle.pb_test_language.proofs.cases_tests.guard_of.Goals as goal

pub returns-clause-aligned : goal.returns-clause-aligned
returns-clause-aligned c = record {
  bounded = record { low_is = refl; high_is = refl };
  low_in = c.requires.low_in;
  high_in = subst (λ (l : Lin). Contains c.args.cases.now.cuts l) (sym c.one_below-high.ensures.is) c.requires.next_in;
  from_edge = c.from_at-from.ensures;
  to_edge = c.to_below-to.ensures;
}
