use Rattle.pb_cread_statements.proofs.Marked as Marked
use Rattle.pb_cread_statements.proofs.facts.marks_statements.Goals as goal

pub returns : goal.returns
returns c = Marked.marks_statements
