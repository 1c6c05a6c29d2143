use Rattle.std.proofs.Common.{List, ap, ◌∙◌}
use Rattle.std.specs.Prelude.{find}
use Rattle.pb_text.specs.Spellings.{begins_with, mark_spelling}
use Rattle.pb_text.specs.declared.token.Mark.{Mark}
use Rattle.pb_lex.proofs.Found.{by_first}
use Rattle.pb_lex.proofs.mark.mark_at.Goals as goal

pub returns-clause-found : goal.returns-clause-found
returns-clause-found c =
    let text = c.args.text.now in
    c.first_mark.ensures.found ∙ ap (λ (l : List Mark). find (λ mark. begins_with (mark_spelling mark) text) l) c.marks_of.ensures ∙ by_first text
