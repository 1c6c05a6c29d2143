use Rattle.pb_explain_source.specs.Pages.{IsPage}
use Rattle.pb_explain_source.proofs.page.Page.text.Given as goal

abbrev pub invariant-loop-mark : goal.invariant-loop-mark
invariant-loop-mark l = IsPage l.source.file.now l.source.bytes.now l.draft.tail l.draft.text.items
