use Rattle.std.proofs.Common.{map}
use Rattle.pb_core_language.specs.Plain.{plain_block, branches_of}
use Rattle.pb_choice.proofs.Branching.{told_first}
use Rattle.pb_choice.proofs.Passed.{told_passed}
use Rattle.pb_choice.proofs.branches.branches_kept.Goals as goal

pub returns-then-are_settled : goal.returns-then-are_settled
returns-then-are_settled c =
    told_passed c.args.setting.now.range c.args.setting.now.whole.now c.args.held.now c.args.at.now (branches_of (map plain_block c.args.branches.now)) c.args.best
    (c.are_settled.ensures c.if-are_settled.true)

pub returns : goal.returns
returns c =
    told_first c.args.setting.now.range c.args.setting.now.whole.now c.args.held.now c.args.at.now (branches_of (map plain_block c.args.branches.now)) c.in_ok-told.told.items c.deref.result.now
    c.args.best c.in_ok-last.last c.deref.ensures.value c.in_ok-told.ensures c.in_ok-last.ensures
