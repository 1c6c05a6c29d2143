use Rattle.pb_judge_log.proofs.Splits.{split_slices}
use Rattle.pb_judge_log.proofs.fields.split.Goals as goal

pub returns-clause-fields : goal.returns-clause-fields
returns-clause-fields c = split_slices c.args.text.now c.field_len-len.result c.field_len-len.ensures.count
