use Rattle.std.proofs.Common.{◌≡◌, ◌++◌, map, drop}
use Rattle.pb_core_language.specs.Rules.{ranked}
use Rattle.pb_plain.specs.View.{mark_of, seat_of}
use Rattle.pb_plain_rules.specs.Breaches.{breach_of}
use Rattle.pb_plain_rules.proofs.breach.add_ranked.Given as goal

abbrev pub invariant-loop-mark : goal.invariant-loop-mark
invariant-loop-mark l = map breach_of l.out.items ++ map (ranked l.rule (seat_of l.seat)) (map mark_of (drop l.mark-index l.marks)) ≡ map breach_of l.fn.out.items ++ map (ranked l.rule (seat_of l.seat)) (map mark_of l.marks)
