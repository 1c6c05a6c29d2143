use Rattle.std.proofs.Common.{map, not, ◌&&◌, ap, ◌∙◌}
use Rattle.pb_core_language.specs.Plain.{plain_block, branches_of}
use Rattle.pb_part_areas.specs.Areas.{have}
use Rattle.pb_choice.proofs.Tolds.{told_are}
use Rattle.pb_choice.proofs.told.told_anywhere.Goals as goal

pub returns : goal.returns
returns c =
    told_are c.args.setting.now.range c.args.setting.now.whole.now c.args.held.now c.args.at.now (branches_of (map plain_block c.args.branches.now)) c.in_ok-takers.takers.items c.in_ok-chooser.chooser.items
    c.in_ok-told.told.items c.end_area.result c.in_ok-takers.ensures c.end_area.ensures c.in_ok-chooser.ensures.is
    (λ n role x. c.in_ok-told.ensures.is n role x ∙ ap (λ l. have c.in_ok-takers.takers.items n role x && not (have l n role x)) c.deref.ensures.value)
