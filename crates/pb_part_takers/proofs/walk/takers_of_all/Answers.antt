use Rattle.pb_part_takers.proofs.Steps.{all_added}
use Rattle.pb_part_takers.proofs.walk.takers_of_all.Goals as goal

pub returns : goal.returns
returns c = λ held. all_added c.args.whole.now held c.args.out.now.items c.absorb.new.out.items c.in_ok-absorb.ensures.is c.in_ok-absorb.ensures.fits
