use Rattle.std.proofs.Common.{◌≡◌, ◌≤◌, ◌∙◌, length, take, sym, None, rules, arith}
use Rattle.pb_local.specs.Tree.{plain_all}
use Rattle.pb_machine_next.specs.declared.ahead.Go.TheVariants.{Enter, Stay}
use Rattle.pb_machine_next.specs.Place.{looped}
use Rattle.pb_machine_next.specs.View.{goes, back_by}
use Rattle.pb_machine_next.proofs.Arms.{choice_does, choice_few}
use Rattle.pb_machine_next.proofs.Plains.{choice_tests}
use Rattle.pb_machine_next.proofs.state.State.look_at.Goals as goal

pub overflow_cast-asked : goal.overflow_cast-asked
overflow_cast-asked c =
    let few : length c.in-Choice.branches.items ≤ 64 = choice_few c.args.stmt.now _ _ _ _ _ _ c.in-Choice.is c.requires.narrow in
    let many : c.len.result ≡ length c.in-Choice.branches.items = c.len.ensures ∙ search rules in
    record { fits = omega (arith, few, many) }

pub returns-in-Again-clause-safe : goal.returns-in-Again-clause-safe
returns-in-Again-clause-safe c = λ h le. c.back.ensures.room h

pub returns-in-Choice-clause-next : goal.returns-in-Choice-clause-next
returns-in-Choice-clause-next c = λ is.
    c.choice-self.ensures.next (plain_all c.args.body.now) c.args.path.now
    (is ∙ choice_tests c.args.stmt.now c.in-Choice.who c.in-Choice.kernel c.in-Choice.relays c.in-Choice.from c.in-Choice.tests c.in-Choice.branches c.in-Choice.is ∙ sym c.deref-in-Choice.ensures.value)
    ∙ choice_does c.args.places.now c.args.self.now.me c.args.self.now.i c.args.stmt.now c.in-Choice.who c.in-Choice.kernel c.in-Choice.relays c.in-Choice.from c.in-Choice.tests c.in-Choice.branches
    (λ k. goes (plain_all c.args.body.now) c.args.path.now (Enter c.args.depth c.args.at k))
    (λ id. back_by (plain_all c.args.body.now) c.args.path.now (looped (plain_all c.args.body.now) (take c.args.depth c.args.path.now) id 0 None))
    (goes (plain_all c.args.body.now) c.args.path.now (Stay c.args.depth c.args.after))
    c.len.result c.deref.result.now c.deref-in-Choice.result.now c.in-Choice.is (c.len.ensures ∙ search rules) c.deref.ensures.value c.deref-in-Choice.ensures.value
