use Rattle.pb_cases.specs.Live.{IsSpansOf}
use Rattle.pb_cases.proofs.cover.cover_of.Given as goal

abbrev pub invariant-loop-guard : goal.invariant-loop-guard
invariant-loop-guard l = IsSpansOf l.guards l.n l.role l.guard-index l.lows.items l.highs.items
