use Rattle.pb_part_areas.proofs.Lists.{have_pushed}
use Rattle.pb_part_takers.proofs.Pushed.{fits_pushed}
use Rattle.pb_part_takers.proofs.Steps.{end_added}
use Rattle.pb_part_takers.proofs.ends.add_end.Goals as goal

pub returns : goal.returns
returns c = λ held.
    end_added c.args.whole.now held c.args.end c.end_area.result c.clipped-area.result c.args.out.now.items c.push.new.self.items c.end_area.ensures c.clipped-area.ensures.is c.clipped-area.ensures.fits
    (have_pushed c.args.out.now.items c.push.new.self.items c.clipped-area.result c.in_ok-push.ensures.items) (fits_pushed c.args.out.now.items c.push.new.self.items c.clipped-area.result c.in_ok-push.ensures.items)
