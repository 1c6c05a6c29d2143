use Rattle.std.proofs.Common.{rules, ◌≡◌, ◌∷◌}
use Rattle.pb_project_choice.proofs.LabelHalves.{halved_put}
use Rattle.pb_project_choice.proofs.testing.halves_of.Goals as goal

pub loop-entry-preserved : goal.loop-entry-preserved
loop-entry-preserved c =
    let before = c.loop-entry.entry-iterator.rest.items in
    let behind = c.next.new.self.rest.items in
    let halves = c.loop-entry.halves in
    let split : before ≡ c.in-Some.entry ∷ behind = search rules in
    halved_put c.args.middle c.args.entries.items before behind halves.low.items halves.high.items _ _ c.in-Some.entry split c.in_ok-put_in_half.ensures c.loop-entry.invariant

pub returns-clause-within : goal.returns-clause-within
returns-clause-within c = λ least most h. (c.loop-entry.invariant.below least most h, c.loop-entry.invariant.above least most h)

pub returns-clause-fits : goal.returns-clause-fits
returns-clause-fits c = λ range cuts h. (c.loop-entry.invariant.low_fits range cuts h, c.loop-entry.invariant.high_fits range cuts h)
