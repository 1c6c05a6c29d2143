use Rattle.pb_explain_source.specs.Pages.{IsPage}
use Rattle.pb_explain_source.proofs.excerpt.push_shown.Given as goal

abbrev pub invariant-loop-byte : goal.invariant-loop-byte
invariant-loop-byte l = IsPage l.source.file.now l.source.bytes.now l.draft.tail l.draft.text.items
