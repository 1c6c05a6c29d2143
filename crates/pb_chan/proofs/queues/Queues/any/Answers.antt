use Rattle.std.proofs.Common.{◌≡◌, None, sym, ap, ◌∙◌}
use Rattle.pb_chan.specs.Shown.{least}
use Rattle.pb_chan.proofs.Remaining.{first_left, none_left}
use Rattle.pb_chan.proofs.queues.Queues.any.Goals as goal

pub returns-clause-some : goal.returns-clause-some
returns-clause-some c =
    let whole : c.loop-pair.least ≡ least None c.args.self.now.map.entries = ap (least c.loop-pair.least) (sym c.in-None.ensures.steps.0) ∙ c.loop-pair.invariant in
    first_left c.args.self.now.map c.loop-pair.least c.iter-pair-items.ensures.found whole

pub returns-clause-none : goal.returns-clause-none
returns-clause-none c =
    let whole : c.loop-pair.least ≡ least None c.args.self.now.map.entries = ap (least c.loop-pair.least) (sym c.in-None.ensures.steps.0) ∙ c.loop-pair.invariant in
    λ none. none_left c.args.self.now.map (sym whole ∙ none)
