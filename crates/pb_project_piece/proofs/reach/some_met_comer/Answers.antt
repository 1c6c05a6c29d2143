use Rattle.pb_project_piece.proofs.Found.{some_comer_is}
use Rattle.pb_project_piece.proofs.reach.some_met_comer.Goals as goal

pub returns : goal.returns
returns c =
    some_comer_is c.args.whole.now c.args.fixed.now c.args.over c.args.end c.met_area-met.result c.clipped-near.result c.in_ok-some.some c.met_area-met.ensures c.clipped-near.ensures.is c.in_ok-some.ensures
