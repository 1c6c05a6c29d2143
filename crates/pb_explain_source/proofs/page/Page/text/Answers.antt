use Rattle.pb_explain_source.proofs.Grown.{with_nothing}
use Rattle.pb_explain_source.proofs.page.Page.text.Goals as goal

-- src/page.rt:114:13
pub loop-mark-init : goal.loop-mark-init
loop-mark-init c = with_nothing _ _ c.new-draft.ensures.tail c.new-draft.ensures.text
