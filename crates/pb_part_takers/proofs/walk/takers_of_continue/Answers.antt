use Rattle.pb_part_takers.proofs.Steps.{again_added}
use Rattle.pb_part_takers.proofs.walk.takers_of_continue.Goals as goal

pub returns : goal.returns
returns c = λ whole mark. again_added whole c.args.held.now c.args.id mark c.args.out.now.items c.add_held.new.out.items c.in_ok-add_held.ensures.is c.in_ok-add_held.ensures.fits
