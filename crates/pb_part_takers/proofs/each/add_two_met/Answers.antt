use Rattle.pb_part_takers.proofs.Items.{message_item}
use Rattle.pb_part_takers.proofs.each.add_two_met.Goals as goal

pub returns : goal.returns
returns c = λ held label ids.
    message_item c.args.whole.now held c.args.over label ids c.args.from c.args.to c.args.out.now.items c.add_met.new.out.items c.add_met-2.new.out.items (c.in_ok-add_met.ensures held) (c.in_ok-add_met-2.ensures held)
