use Rattle.pb_syntax.proofs.SameRows.{lin_rows, role_rows, payload_rows, plain_end_rows, any_end_rows}
use Rattle.pb_syntax.proofs.rows.Goals as goal

pub returns-clause-lin : goal.returns-clause-lin
returns-clause-lin c = lin_rows

pub returns-clause-role : goal.returns-clause-role
returns-clause-role c = role_rows

pub returns-clause-payload : goal.returns-clause-payload
returns-clause-payload c = payload_rows

pub returns-clause-plain : goal.returns-clause-plain
returns-clause-plain c = plain_end_rows

pub returns-clause-any : goal.returns-clause-any
returns-clause-any c = any_end_rows
