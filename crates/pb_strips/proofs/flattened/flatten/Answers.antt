use Rattle.pb_strips_syntax.specs.Plain.{plain_file}
use Rattle.pb_strips_syntax.specs.Flattening.{flat_file}
use Rattle.pb_strips.proofs.Refused.{only_then}
use Rattle.pb_strips.proofs.flattened.flatten.Goals as goal

pub returns-clause-only : goal.returns-clause-only
returns-clause-only c = only_then (plain_file c.args.strips.now) (flat_file (plain_file c.args.strips.now)) c.sound_file.result c.sound_file.ensures.flat c.sound_file.ensures.refused
