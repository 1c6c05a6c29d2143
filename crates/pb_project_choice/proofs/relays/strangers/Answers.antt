use Rattle.std.proofs.Common.{◌||◌, ap, ◌∙◌}
use Rattle.pb_part_areas.specs.Areas.{have}
use Rattle.pb_project_choice.proofs.Hearing.{strangers_start, strangers_step, strangers_end}
use Rattle.pb_project_choice.proofs.relays.strangers.Goals as goal

pub loop-area-init : goal.loop-area-init
loop-area-init c = strangers_start c.args.chooser c.args.source c.args.areas.now c.new-list.result.items c.new-list.ensures.items

pub loop-area-preserved : goal.loop-area-preserved
loop-area-preserved c =
    strangers_step c.args.chooser c.args.source c.args.areas.now c.loop-area.area-index _ c.loop-area.list.items c.in_ok-more.more.items c.gather_all.new.out.items c.loop-area-test.true c.in_ok-more.ensures
    (λ n role x. c.in_ok-gather_all.ensures.is n role x ∙ ap (λ l. have c.loop-area.list.items n role x || have l n role x) c.deref.ensures.value) c.loop-area.invariant

pub returns : goal.returns
returns c = strangers_end c.args.chooser c.args.source c.args.areas.now c.loop-area.area-index c.loop-area.list.items c.loop-area-test.false c.loop-area.invariant
