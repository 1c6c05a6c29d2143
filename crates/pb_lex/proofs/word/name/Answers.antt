use Rattle.std.proofs.Common.{◌≤◌, ℕ, length, take, sym, ap, subst, refl, arith}
use Rattle.std.proofs.lemmas.List.{length-take}
use Rattle.pb_text.specs.Lexemes.{goes_on_word}
use Rattle.pb_lex.specs.Seen.{HasNoFeed}
use Rattle.pb_lex.proofs.Levels.{prefix_level}
use Rattle.pb_lex.proofs.Naming.{is_name}
use Rattle.pb_lex.proofs.word.name.Goals as goal

pub returns-then-len-le64-clause-sound : goal.returns-then-len-le64-clause-sound
returns-then-len-le64-clause-sound c =
    let text = c.args.text.now in
    let few : length (take c.args.len text) ≤ 64 = omega (arith, length-take c.args.len text, c.if-len-le64.true) in
    is_name text (take c.args.len text) (ap (λ n. take n text) c.requires.is) c.requires.some c.requires.begun few c.requires.own

pub returns-then-len-le64-clause-level : goal.returns-then-len-le64-clause-level
returns-then-len-le64-clause-level c =
    let text = c.args.text.now in
    subst (λ (n : ℕ). HasNoFeed (take n text)) (sym c.requires.is) (prefix_level goes_on_word text refl)
