use Rattle.std.proofs.Common.{◌<◌, length, ◌∙◌}
use Rattle.pb_local.specs.Tree.{plain, plain_all}
use Rattle.pb_machine_next.specs.Place.{todo}
use Rattle.pb_machine_next.specs.View.{rank_of}
use Rattle.pb_machine_next.proofs.Arms.{is_code, is_round, code_short, round_short, code_next, ended_next, code_high, code_narrow, code_tests}
use Rattle.pb_machine_next.proofs.state.State.look.Goals as goal

pub look_at-requires-clause-inside : goal.look_at-requires-clause-inside
look_at-requires-clause-inside c = code_short _ _ _ _ _ _ _ (is_code (plain_all c.args.body.now) c.args.path.now c.args.at c.in-At.depth c.in-At.at c.in-At.after (plain c.in-At.stmt.now) c.in-At.ensures)

pub look_at-requires-clause-narrow : goal.look_at-requires-clause-narrow
look_at-requires-clause-narrow c = code_narrow _ _ _ _ _ _ _ (is_code (plain_all c.args.body.now) c.args.path.now c.args.at c.in-At.depth c.in-At.at c.in-At.after (plain c.in-At.stmt.now) c.in-At.ensures) c.requires.narrow

pub round-self-requires : goal.round-self-requires
round-self-requires c =
    let h : c.in-Round.depth < length c.args.path.now = round_short _ _ _ _ _ _ (is_round (plain_all c.args.body.now) c.args.path.now c.args.at c.in-Round.depth c.in-Round.after c.in-Round.high c.in-Round.ensures) in
    h

pub returns-in-Nowhere-clause-next : goal.returns-in-Nowhere-clause-next
returns-in-Nowhere-clause-next c = λ p knows. ended_next p c.args.self.now.me.n (rank_of c.args.self.now.me c.args.self.now.i (todo (plain_all c.args.body.now) c.args.path.now c.args.at)) (plain_all c.args.body.now) c.args.path.now c.args.at c.in-Nowhere.ensures

pub returns-in-At-clause-next : goal.returns-in-At-clause-next
returns-in-At-clause-next c = λ p knows.
    c.look_at.ensures.next (code_tests _ _ _ _ _ _ _ (is_code (plain_all c.args.body.now) c.args.path.now c.args.at c.in-At.depth c.in-At.at c.in-At.after (plain c.in-At.stmt.now) c.in-At.ensures))
    ∙ code_next p c.args.places.now c.args.self.now.me c.args.self.now.i (plain_all c.args.body.now) c.args.path.now (todo (plain_all c.args.body.now) c.args.path.now c.args.at) c.in-At.depth c.in-At.at c.in-At.after (plain c.in-At.stmt.now) knows
    (is_code (plain_all c.args.body.now) c.args.path.now c.args.at c.in-At.depth c.in-At.at c.in-At.after (plain c.in-At.stmt.now) c.in-At.ensures)

pub returns-in-Round-clause-next : goal.returns-in-Round-clause-next
returns-in-Round-clause-next c = λ p knows.
    c.round-self.ensures.next p (plain_all c.args.body.now) c.args.path.now (todo (plain_all c.args.body.now) c.args.path.now c.args.at) (is_round (plain_all c.args.body.now) c.args.path.now c.args.at c.in-Round.depth c.in-Round.after c.in-Round.high c.in-Round.ensures)

pub returns-in-At-clause-safe : goal.returns-in-At-clause-safe
returns-in-At-clause-safe c =
    c.look_at.ensures.safe _ (code_high _ _ _ _ _ _ _ (is_code (plain_all c.args.body.now) c.args.path.now c.args.at c.in-At.depth c.in-At.at c.in-At.after (plain c.in-At.stmt.now) c.in-At.ensures))

pub returns-in-Round-clause-safe : goal.returns-in-Round-clause-safe
returns-in-Round-clause-safe c =
    let h : c.in-Round.depth < length c.args.path.now = round_short _ _ _ _ _ _ (is_round (plain_all c.args.body.now) c.args.path.now c.args.at c.in-Round.depth c.in-Round.after c.in-Round.high c.in-Round.ensures) in
    c.round-self.ensures.safe _ _ h
