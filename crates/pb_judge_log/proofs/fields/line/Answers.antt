use Rattle.std.proofs.Common.{◌<◌, length, arith}
use Rattle.pb_judge_log.proofs.Splits.{line_slices}
use Rattle.pb_judge_log.proofs.fields.line.Goals as goal

pub returns-else-len-text-clause-line : goal.returns-else-len-text-clause-line
returns-else-len-text-clause-line c =
    let lt : c.line_len-len.result < length c.args.text.now = omega arith in
    line_slices c.args.text.now c.line_len-len.result c.line_len-len.ensures.count lt
