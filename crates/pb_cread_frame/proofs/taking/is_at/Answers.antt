use Rattle.std.proofs.Common.{ap, ◌∙◌}
use Rattle.pb_cread_frame.specs.Reading.{same_line}
use Rattle.pb_cread_frame.proofs.Waits.{waits_at}
use Rattle.pb_cread_frame.proofs.taking.is_at.Goals as goal

pub returns : goal.returns
returns c = λ r phase. waits_at r c.args.lines.now c.args.at c.index-lines-at.result phase c.args.line.now c.is_same.result c.requires c.index-lines-at.is
    (c.is_same.ensures ∙ ap (λ t. same_line t c.args.line.now) c.deref.ensures.value)
