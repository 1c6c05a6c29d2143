use Rattle.pb_do_syntax.specs.Plain.{plain_file}
use Rattle.pb_do.proofs.Refused.{only_then}
use Rattle.pb_do.proofs.inlined.inline.Goals as goal

pub returns-clause-only : goal.returns-clause-only
returns-clause-only c = only_then (plain_file c.args.calls.now) c.sound_file.result c.sound_file.ensures.inlined c.sound_file.ensures.refused
