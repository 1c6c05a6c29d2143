use Rattle.std.proofs.Common.{ap, sym, subst, ◌||◌, pos}
use Rattle.std.specs.List.{All}
use Rattle.std.proofs.lemmas.List.Elements.{All-nil}
use Rattle.pb_affine.specs.Values.{hold, IsSmallGuard}
use Rattle.pb_cases.specs.Bounds.{IsAligned}
use Rattle.pb_part_areas.specs.Areas.{have}
use Rattle.pb_part_areas.specs.Joins.{blank}
use Rattle.pb_part_areas.proofs.Lists.{add_step, add_end}
use Rattle.pb_part_areas.proofs.guard.guards_of.Goals as goal

pub loop-a-init : goal.loop-a-init
loop-a-init c = record {
  is = λ n role x within. ap (λ z. hold z n (pos 0) role x || have c.args.list.now n role x) c.new-guards.ensures;
  aligned = λ d h. subst (All (IsAligned d)) (sym c.new-guards.ensures) (All-nil (IsAligned d));
  small = subst (All IsSmallGuard) (sym c.new-guards.ensures) (All-nil IsSmallGuard);
}

pub add_guard-requires : goal.add_guard-requires
add_guard-requires c = c.requires c.loop-a.a-index blank c.loop-a-test.true

pub loop-a-preserved : goal.loop-a-preserved
loop-a-preserved c = record {
  is = λ n role x within. add_step _ _ _ _ _ n role x c.loop-a-test.true (c.in_ok-add_guard.ensures.is n role x within) (c.loop-a.invariant.is n role x within);
  aligned = λ d h. c.in_ok-add_guard.ensures.aligned d (c.loop-a.invariant.aligned d h) (h c.loop-a.a-index blank c.loop-a-test.true);
  small = c.in_ok-add_guard.ensures.small c.loop-a.invariant.small;
}

pub returns-clause-is : goal.returns-clause-is
returns-clause-is c = λ n role x within. add_end _ _ _ _ n role x c.loop-a-test.false (c.loop-a.invariant.is n role x within)
