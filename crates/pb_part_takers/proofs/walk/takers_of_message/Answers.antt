use Rattle.pb_part_takers.proofs.Steps.{message_added}
use Rattle.pb_part_takers.proofs.walk.takers_of_message.Goals as goal

pub returns : goal.returns
returns c = λ held label mark.
    message_added c.args.whole.now held label mark c.args.from c.args.to c.args.out.now.items c.add_end.new.out.items c.add_end-2.new.out.items (c.in_ok-add_end.ensures held) (c.in_ok-add_end-2.ensures held)
