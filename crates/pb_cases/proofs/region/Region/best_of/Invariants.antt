use Rattle.std.proofs.Common.{◌≡◌, drop}
use Rattle.pb_cases.specs.Search.{best_of}
use Rattle.pb_cases.proofs.region.Region.best_of.Given as goal

abbrev pub invariant-loop-guard : goal.invariant-loop-guard
invariant-loop-guard l = best_of l.self.wanted l.self.a.now l.self.b.now l.self.n l.guards l.fn.first ≡ best_of l.self.wanted l.self.a.now l.self.b.now l.self.n (drop l.guard-index l.guards) l.best
