use Rattle.pb_part_takers.proofs.RoleAreas.{role_is, role_fits}
use Rattle.pb_part_takers.proofs.whole.role_area.Goals as goal

pub returns-clause-is : goal.returns-clause-is
returns-clause-is c = role_is c.args.number c.args.over c.args.range c.next_to-end.result c.after-until.result c.next_to-end.ensures c.after-until.ensures.is

pub returns-clause-fits : goal.returns-clause-fits
returns-clause-fits c = role_fits c.args.number c.args.over c.args.range c.next_to-end.result c.after-until.result c.next_to-end.ensures c.after-until.ensures.edge
