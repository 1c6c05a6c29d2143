use Rattle.pb_cread_lines.proofs.Interning.{row_next}
use Rattle.pb_cread_lines.proofs.tables.roles_of.Goals as goal

pub loop-role-preserved : goal.loop-role-preserved
loop-role-preserved c =
    row_next (λ x. x.name) c.args.roles.now c.role-item.result c.loop-role.names c.intern.new.self c.loop-role.role-index c.in_ok-intern.field-0 c.requires.distinct c.loop-role-test.true c.role-item.is c.loop-role.invariant c.in_ok-intern.ensures.interned
