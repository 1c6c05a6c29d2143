use Rattle.std.proofs.Common.{◌≡◌, ◌++◌, ◌∷◌, drop}
use Rattle.pb_choice.proofs.round.inside.Given as goal

abbrev pub invariant-loop-one : goal.invariant-loop-one
invariant-loop-one l = l.list.items ++ drop l.one-index l.opens ≡ l.fn.id ∷ l.opens
