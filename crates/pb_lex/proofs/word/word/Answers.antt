use Rattle.std.proofs.Common.{ℕ, take, sym, subst, refl}
use Rattle.pb_text.specs.Lexemes.{goes_on_word}
use Rattle.pb_lex.specs.Seen.{HasNoFeed}
use Rattle.pb_lex.proofs.Levels.{prefix_level}
use Rattle.pb_lex.proofs.word.word.Goals as goal

pub returns-in-Some-clause-level : goal.returns-in-Some-clause-level
returns-in-Some-clause-level c =
    let text = c.args.text.now in
    subst (λ (n : ℕ). HasNoFeed (take n text)) (sym c.word_len-len.ensures) (prefix_level goes_on_word text refl)
