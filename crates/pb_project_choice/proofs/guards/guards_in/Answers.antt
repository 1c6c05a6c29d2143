use Rattle.std.proofs.Common.{ap, sym, subst, ◌||◌}
use Rattle.std.specs.List.{All}
use Rattle.std.proofs.lemmas.List.Elements.{All-nil}
use Rattle.pb_affine.specs.Values.{hold}
use Rattle.pb_part_areas.specs.Areas.{have}
use Rattle.pb_part_areas.specs.Joins.{blank}
use Rattle.pb_part_areas.proofs.Lists.{add_step, add_end}
use Rattle.pb_local.specs.WellMade.{IsGuard}
use Rattle.pb_project_choice.proofs.guards.guards_in.Goals as goal

pub loop-a-init : goal.loop-a-init
loop-a-init c = record {
  hold = λ cuts roles n i role x same r h f within is. ap (λ z. hold z n i role x || have c.args.list.now n role x) c.new-guards.ensures;
  each = λ p same. subst (All (IsGuard p)) (sym c.new-guards.ensures) (All-nil (IsGuard p));
}

pub loop-a-preserved : goal.loop-a-preserved
loop-a-preserved c = record {
  hold = λ cuts roles n i role x same r h f within is.
      add_step _ _ _ _ _ n role x c.loop-a-test.true (c.in_ok-add.ensures.hold cuts roles n i role x same r h (f c.loop-a.a-index blank c.loop-a-test.true) within is)
      (c.loop-a.invariant.hold cuts roles n i role x same r h f within is);
  each = λ p same. c.in_ok-add.ensures.each p same (c.loop-a.invariant.each p same);
}

pub returns-clause-hold : goal.returns-clause-hold
returns-clause-hold c = λ roles n i role x same r sayable within is.
    add_end _ _ _ _ n role x c.loop-a-test.false (c.loop-a.invariant.hold sayable.cuts roles n i role x same r sayable.are_cuts sayable.fit within is)
