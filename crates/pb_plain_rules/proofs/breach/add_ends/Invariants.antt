use Rattle.std.proofs.Common.{◌≡◌, ◌++◌, map, drop}
use Rattle.pb_core_language.specs.Rules.{somebody}
use Rattle.pb_plain.specs.View.{asked_of}
use Rattle.pb_plain_rules.specs.Breaches.{breach_of}
use Rattle.pb_plain_rules.proofs.breach.add_ends.Given as goal

abbrev pub invariant-loop-end : goal.invariant-loop-end
invariant-loop-end l = map breach_of l.out.items ++ map (somebody l.rule) (map asked_of (drop l.end-index l.ends)) ≡ map breach_of l.fn.out.items ++ map (somebody l.rule) (map asked_of l.ends)
