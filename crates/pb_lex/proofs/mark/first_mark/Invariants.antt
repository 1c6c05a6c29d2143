use Rattle.std.proofs.Common.{◌≡◌, drop}
use Rattle.std.specs.Prelude.{find}
use Rattle.pb_text.specs.Spellings.{mark_spelling, begins_with}
use Rattle.pb_lex.proofs.mark.first_mark.Given as goal

abbrev pub invariant-loop-mark : goal.invariant-loop-mark
invariant-loop-mark l =
    find (λ mark. begins_with (mark_spelling mark) l.text) l.marks ≡ find (λ mark. begins_with (mark_spelling mark) l.text) (drop l.mark-index l.marks)
