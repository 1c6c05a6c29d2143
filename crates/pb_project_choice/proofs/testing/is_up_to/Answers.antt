use Rattle.std.proofs.Common.{◌≤◌, ◌<◌, sym, subst, arith}
use Rattle.std.proofs.lemmas.Bool.Decides.{nat_tests}
use Rattle.pb_project_choice.proofs.LabelHalves.{receive_label}
use Rattle.pb_project_choice.proofs.testing.is_up_to.Goals as goal

pub returns-in-Receive-clause-up : goal.returns-in-Receive-clause-up
returns-in-Receive-clause-up c = λ h l is.
    let e = receive_label l c.in-Receive.label c.in-Receive.from c.args.kind c.in-Receive.is is in
    let le : c.in-Receive.label ≤ c.args.middle = grind (arith, nat_tests, h) in
    subst (λ z. z ≤ c.args.middle) (sym e) le

pub returns-in-Receive-clause-above : goal.returns-in-Receive-clause-above
returns-in-Receive-clause-above c = λ h l is.
    let e = receive_label l c.in-Receive.label c.in-Receive.from c.args.kind c.in-Receive.is is in
    let lt : c.args.middle < c.in-Receive.label = grind (arith, nat_tests, h) in
    subst (λ z. c.args.middle < z) (sym e) lt
