use Rattle.plain.proofs.Parsed.{countable, sound}
use Rattle.plain.proofs.call.bytes_report.Goals as goal

pub tree_report-requires-clause-countable : goal.tree_report-requires-clause-countable
tree_report-requires-clause-countable c = countable _ c.in-Ok.file c.requires.bytes c.in-Ok.ensures.parsed

pub tree_report-requires-clause-sound : goal.tree_report-requires-clause-sound
tree_report-requires-clause-sound c = sound _ c.in-Ok.file c.in-Ok.ensures.parsed
