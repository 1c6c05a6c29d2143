use Rattle.pb_diff_apart.proofs.Whole.{whole}
use Rattle.pb_diff_apart.proofs.apart.system_of.Goals as goal

pub returns-clause-vars : goal.returns-clause-vars
returns-clause-vars c =
    (whole c.args.range c.args.g.now c.args.h.now c.args.low c.args.p c.args.q c.new-system.result c.in_range.new.system c.from_least.new.system c.under_guard.new.system c.under_guard-2.new.system c.below.new.system
    c.new-system.ensures c.requires.low c.in_range.ensures.adds c.in_range.ensures.pair c.from_least.ensures.adds c.from_least.ensures.pair c.under_guard.ensures c.under_guard-2.ensures c.below.ensures).vars

pub returns-clause-bounded : goal.returns-clause-bounded
returns-clause-bounded c =
    (whole c.args.range c.args.g.now c.args.h.now c.args.low c.args.p c.args.q c.new-system.result c.in_range.new.system c.from_least.new.system c.under_guard.new.system c.under_guard-2.new.system c.below.new.system
    c.new-system.ensures c.requires.low c.in_range.ensures.adds c.in_range.ensures.pair c.from_least.ensures.adds c.from_least.ensures.pair c.under_guard.ensures c.under_guard-2.ensures c.below.ensures).bounded

pub returns-clause-solutions : goal.returns-clause-solutions
returns-clause-solutions c =
    (whole c.args.range c.args.g.now c.args.h.now c.args.low c.args.p c.args.q c.new-system.result c.in_range.new.system c.from_least.new.system c.under_guard.new.system c.under_guard-2.new.system c.below.new.system
    c.new-system.ensures c.requires.low c.in_range.ensures.adds c.in_range.ensures.pair c.from_least.ensures.adds c.from_least.ensures.pair c.under_guard.ensures c.under_guard-2.ensures c.below.ensures).solutions
