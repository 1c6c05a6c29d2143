use Rattle.std.proofs.Common.{◌≡◌, map}
use Rattle.pb_syntax.specs.Plain.{plain_statement}
use Rattle.pb_demo_file.specs.File.{statements_to}
use Rattle.pb_demo_file.proofs.file.statements.Given as goal

abbrev pub invariant-loop-number : goal.invariant-loop-number
invariant-loop-number l = map plain_statement l.list.items ≡ statements_to l.number
