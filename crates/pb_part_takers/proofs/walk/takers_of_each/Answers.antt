use Rattle.pb_core_language.specs.Plain.{plain_block}
use Rattle.pb_part_takers.specs.Loops.{ids_of}
use Rattle.pb_part_takers.proofs.Steps.{each_added}
use Rattle.pb_part_takers.proofs.walk.takers_of_each.Goals as goal

pub returns : goal.returns
returns c = λ held mark.
    each_added c.args.whole.now held c.args.over (plain_block c.args.items.now).mark mark (plain_block c.args.items.now).block c.args.out.now.items c.takers_each.new.out.items (c.in_ok-takers_each.ensures held (ids_of held))
