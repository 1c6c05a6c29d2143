use Rattle.std.proofs.Common.{◌≡◌, ◌++◌, [], map}
use Rattle.pb_core_language.specs.Ranks.{seat_at}
use Rattle.pb_core_language.specs.Lists.{over_below}
use Rattle.pb_core_language.specs.Rules.{ranked, misfits}
use Rattle.pb_plain.specs.View.{view, seat_of}
use Rattle.pb_plain_rules.specs.Breaches.{breach_of}
use Rattle.pb_plain_rules.specs.Fits.{fits}
use Rattle.pb_plain_rules.proofs.every.add_misfits.Given as goal

abbrev pub invariant-loop-rank : goal.invariant-loop-rank
invariant-loop-rank l =
    map breach_of l.out.items
    ≡ map breach_of l.fn.out.items ++ over_below l.rank (λ r. map (ranked l.rule (seat_at r (map seat_of l.ranks))) (misfits (fits l.which) [] r (view l.block)))
