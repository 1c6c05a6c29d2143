use Rattle.std.proofs.Common.{subst}
use Rattle.pb_judge_lists.specs.Places.{left_of}
use Rattle.pb_judge_walks.specs.Laws.{IsRuledBy}
use Rattle.pb_judge.proofs.judging.ruling.Goals as goal

pub returns-in-Differs : goal.returns-in-Differs
returns-in-Differs c = λ s protocol log h. subst (λ flow. IsRuledBy s protocol log flow (left_of c.args.lists.now)) c.in-Differs.is h

pub returns-in-Endless : goal.returns-in-Endless
returns-in-Endless c = λ s protocol log h.
    let rulings = subst (λ flow. IsRuledBy s protocol log flow (left_of c.args.lists.now)) c.in-Endless.is h in
    c.left_over.ensures s protocol log rulings.beyond rulings.covered
