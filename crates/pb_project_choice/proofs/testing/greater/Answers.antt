use Rattle.std.proofs.Common.{◌≤◌, sym, subst, arith}
use Rattle.pb_project_choice.proofs.LabelHalves.{receive_label}
use Rattle.pb_project_choice.proofs.testing.greater.Goals as goal

pub returns-in-Receive-clause-label : goal.returns-in-Receive-clause-label
returns-in-Receive-clause-label c = λ l is.
    let e = receive_label l c.in-Receive.label c.in-Receive.from c.args.kind c.in-Receive.is is in
    let le : c.in-Receive.label ≤ c.max.result = omega (arith, c.max.ensures) in
    subst (λ z. z ≤ c.max.result) (sym e) le
