use Rattle.pb_project_choice.proofs.Saying.{closed_area}
use Rattle.pb_project_choice.proofs.guards.is_open.Goals as goal

pub returns-in-Some-clause-closed : goal.returns-in-Some-clause-closed
returns-in-Some-clause-closed c = λ h. closed_area c.args.a c.in-Some.until c.in-Some.is h
