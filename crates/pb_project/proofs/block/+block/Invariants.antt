use Rattle.pb_project.specs.Blocks.{known}
use Rattle.pb_project.proofs.Sequences.{BlockSoFar, PartsSoFar}
use Rattle.pb_project.proofs.block.+block.Given as goal

abbrev pub invariant-block_of-loop-stmt : goal.invariant-block_of-loop-stmt
invariant-block_of-loop-stmt l =
    BlockSoFar (known l.setting.range l.setting.roles l.setting.whole.now l.around.held.now l.around.numbers.now) l.stmt-items l.stmt-index l.initial.count l.count l.out.items

abbrev pub invariant-parts_of-loop-branch : goal.invariant-parts_of-loop-branch
invariant-parts_of-loop-branch l =
    PartsSoFar (known l.setting.range l.setting.roles l.setting.whole.now l.around.held.now l.around.numbers.now) l.branches l.branch-index l.initial.count l.count l.parts.items
