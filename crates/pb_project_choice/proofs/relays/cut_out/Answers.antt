use Rattle.pb_project_choice.proofs.Hearing.{cut_out}
use Rattle.pb_project_choice.proofs.relays.cut_out.Goals as goal

pub returns-in_ok-rest : goal.returns-in_ok-rest
returns-in_ok-rest c = cut_out c.args.list.items c.args.area c.in_ok-rest.rest.items (c.is_plain.ensures c.if-is_plain.true) c.in_ok-rest.ensures.is c.in_ok-rest.ensures.fits
