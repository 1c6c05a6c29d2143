use Rattle.std.proofs.Common.{◌≡◌, take, drop, None, subst, sym, ap, ◌∙◌}
use Rattle.pb_do_parse.specs.declared.limits.Counts.{Counts}
use Rattle.pb_do_parse.specs.Limits.{at_start, counts_next, passed, NextPasses}
use Rattle.pb_parse.proofs.Counting.{take_next}
use Rattle.pb_do_parse.proofs.Counting.{counts_more, none_more, next_passes}
use Rattle.pb_do_parse.proofs.limits.first_passed.Goals as goal

pub returns-in-Err : goal.returns-in-Err
returns-in-Err c =
    let t = c.index-tokens-i.result in
    let next = next_passes c.loop-i.counts c.args.tokens.now c.loop-i.i t c.in-Err.quantity c.loop-i-test.true c.index-tokens-i.is c.in-Err.ensures.gives in
    (c.loop-i.invariant.within, subst (λ (b : Counts). NextPasses b (drop c.loop-i.i c.args.tokens.now) c.in-Err.quantity) c.loop-i.invariant.counted next)

pub loop-i-preserved : goal.loop-i-preserved
loop-i-preserved c =
    let t = c.index-tokens-i.result in
    let ts = take c.loop-i.i c.args.tokens.now in
    let none = subst (λ (b : Counts). passed b t ≡ None) c.loop-i.invariant.counted c.in_default.ensures.gives.0 in
    let more = none_more at_start ts t c.loop-i.invariant.within none in
    let here = c.in_default.ensures.gives.1 ∙ ap (λ (b : Counts). counts_next b t) c.loop-i.invariant.counted ∙ sym (counts_more at_start ts t) in
    let up_to = take_next c.args.tokens.now c.loop-i.i t c.loop-i-test.true c.index-tokens-i.is in
    record { within = rw up_to more; counted = rw up_to here; depth = c.in_default.ensures.depth }
