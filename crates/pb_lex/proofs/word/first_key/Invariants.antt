use Rattle.std.proofs.Common.{◌≡◌, drop, nat_eq}
use Rattle.std.specs.Prelude.{find}
use Rattle.std.specs.Cmp.Lexicographic.{pointwise}
use Rattle.pb_text.specs.Spellings.{key_spelling}
use Rattle.pb_lex.proofs.word.first_key.Given as goal

abbrev pub invariant-loop-key : goal.invariant-loop-key
invariant-loop-key l =
    find (λ key. pointwise nat_eq l.word (key_spelling key)) l.keys ≡ find (λ key. pointwise nat_eq l.word (key_spelling key)) (drop l.key-index l.keys)
