use Rattle.std.proofs.Common.{◌≡◌, ◌++◌, map, drop}
use Rattle.pb_core_language.specs.Rules.{nobody}
use Rattle.pb_plain.specs.View.{mark_of}
use Rattle.pb_plain_rules.specs.Breaches.{breach_of}
use Rattle.pb_plain_rules.proofs.breach.add_marks.Given as goal

abbrev pub invariant-loop-mark : goal.invariant-loop-mark
invariant-loop-mark l = map breach_of l.out.items ++ map (nobody l.rule) (map mark_of (drop l.mark-index l.marks)) ≡ map breach_of l.fn.out.items ++ map (nobody l.rule) (map mark_of l.marks)
