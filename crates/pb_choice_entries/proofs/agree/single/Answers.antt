use Rattle.pb_choice_entries.proofs.Meetings.{single_has}
use Rattle.pb_choice_entries.proofs.agree.single.Goals as goal

pub returns : goal.returns
returns c = single_has c.args.area c.args.at c.low_of.result c.end_of.result c.args.by.off c.low_of.ensures.base c.end_of.ensures.base c.low_of.ensures.off c.end_of.ensures.off
