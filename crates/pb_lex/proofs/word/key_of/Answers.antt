use Rattle.std.proofs.Common.{List, nat_eq, ap, ◌∙◌}
use Rattle.std.specs.Prelude.{find}
use Rattle.std.specs.Cmp.Lexicographic.{pointwise}
use Rattle.pb_text.specs.Spellings.{key_spelling}
use Rattle.pb_text.specs.declared.token.Key.{Key}
use Rattle.pb_lex.proofs.Found.{by_length}
use Rattle.pb_lex.proofs.word.key_of.Goals as goal

pub returns : goal.returns
returns c =
    let word = c.args.word.now in
    c.first_key.ensures ∙ ap (λ (l : List Key). find (λ key. pointwise nat_eq word (key_spelling key)) l) c.keys_of.ensures ∙ by_length word
