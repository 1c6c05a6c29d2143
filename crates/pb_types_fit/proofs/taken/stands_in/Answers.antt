use Rattle.std.proofs.Common.{◌≡◌, ◌-◌, length, take, drop, sym, ap, ◌∙◌, arith, take_all, length-drop}
use Rattle.pb_types_fit.specs.Taken.{stands_first}
use Rattle.pb_types_fit.proofs.Steps.{stands_rest}
use Rattle.pb_types_fit.proofs.taken.stands_in.Goals as goal

pub loop-at-preserved : goal.loop-at-preserved
loop-at-preserved c =
    let text = c.args.text.now in
    let tail : take (length text - c.loop-at.at) (drop c.loop-at.at text) ≡ drop c.loop-at.at text = take_all (length text - c.loop-at.at) (drop c.loop-at.at text) (omega (arith, length-drop c.loop-at.at text)) in
    stands_rest c.args.word.now text c.loop-at.at _ c.loop-at-test.true (ap (stands_first c.args.word.now) (sym tail) ∙ sym c.stands_first.ensures ∙ c.if-stands_first.false) c.loop-at.invariant
