use Rattle.pb_explain_source.specs.Pages.{IsPage}
use Rattle.pb_explain_source.proofs.excerpt.push_times.Given as goal

abbrev pub invariant-loop : goal.invariant-loop
invariant-loop l = IsPage l.source.file.now l.source.bytes.now l.draft.tail l.draft.text.items
