use Rattle.std.proofs.Common.{◌∙◌}
use Rattle.pb_cost_blocks.proofs.Rows.{row_size, past_rows}
use Rattle.pb_cost_blocks.proofs.asked.words_of.Goals as goal

pub returns-then-at-labels : goal.returns-then-at-labels
returns-then-at-labels c = c.word_count.ensures ∙ row_size c.args.labels.now c.args.label c.index-labels-at.result c.if-at-labels.true

pub returns-else-at-labels : goal.returns-else-at-labels
returns-else-at-labels c = past_rows c.args.labels.now c.args.label c.if-at-labels.false
