use Rattle.std.proofs.Common.{◌≡◌, ◌++◌, drop}
use Rattle.std.specs.List.{AllByRecursion, flat_map}
use Rattle.pb_sched.specs.declared.format.Format.TheVariants.{Two}
use Rattle.pb_sched.specs.Formats.{turn_line, IsTurn}
use Rattle.pb_sched.proofs.printing.push_turns.Given as goal

abbrev pub invariant-loop-turn : goal.invariant-loop-turn
invariant-loop-turn l = record {
  text : l.out.items ++ flat_map (turn_line Two) (drop l.turn-index l.turns) ≡ l.initial.out.items ++ flat_map (turn_line Two) l.turns;
  each : AllByRecursion (IsTurn Two) (drop l.turn-index l.turns) → AllByRecursion (IsTurn Two) l.turns;
}
