use Rattle.std.proofs.Common.{sym, subst}
use Rattle.pb_core_language.specs.Plain.{plain_block}
use Rattle.pb_core_language.proofs.Plains.{block_mark}
use Rattle.pb_choice.specs.Walks.{FirstOf}
use Rattle.pb_choice.proofs.Within.{branch_first}
use Rattle.pb_choice.proofs.branches.branch_kept.Goals as goal

pub returns-clause-first : goal.returns-clause-first
returns-clause-first c = λ current.
    branch_first c.args.setting.now.range c.args.setting.now.whole.now c.args.held.now c.args.told.now c.in_ok-reach.reach.items c.in_ok-left.left.items c.deref-2.result.now
    (plain_block c.args.branch.now).mark (plain_block c.args.branch.now).block c.new-here.result.items c.firsts_in.new.out.items c.deref.result.now
    c.args.past.now.entries.items c.args.past.now.mixed.items c.rules_kept.new.past.entries.items c.rules_kept.new.past.mixed.items c.args.best c.in_ok-last.last
    c.new-here.ensures.items c.deref.ensures.value c.deref-2.ensures.value c.in_ok-reach.ensures.is c.in_ok-left.ensures.gives c.in_ok-left.ensures.small
    (subst (λ m. FirstOf c.args.setting.now.range c.args.setting.now.whole.now c.deref.result.now c.deref-2.result.now m
    c.args.past.now.entries.items c.args.past.now.mixed.items c.rules_kept.new.past.entries.items c.rules_kept.new.past.mixed.items c.args.best c.in_ok-last.last) (sym (block_mark c.args.branch.now))
    (c.in_ok-last.ensures.first current))
