use Rattle.std.proofs.Common.{ℕ, List, length, take, sym, subst}
use Rattle.pb_lex.specs.Seen.{HasNoFeed}
use Rattle.pb_lex.proofs.Levels.{mark_level}
use Rattle.pb_lex.proofs.mark.mark.Goals as goal

pub returns-in-Some-clause-level : goal.returns-in-Some-clause-level
returns-in-Some-clause-level c =
    let text = c.args.text.now in
    subst (λ (l : List ℕ). HasNoFeed (take (length l) text)) (sym c.spelling.ensures.spelled)
    (mark_level c.in-Some.mark text c.in-Some.ensures.begun)
