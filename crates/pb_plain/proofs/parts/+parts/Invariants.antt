use Rattle.std.proofs.Common.{◌≡◌, true, length, map, drop}
use Rattle.std.specs.List.{All}
use Rattle.pb_core_language.specs.Plain.{plain_block, plain_stmt, block_of, branches_of}
use Rattle.pb_core_language.specs.Parts.{takes_part_within, takes_part_across}
use Rattle.pb_plain.specs.Loops.{ids_of, held_at}
use Rattle.pb_plain.specs.Small.{is_small_stmt, is_small_block}
use Rattle.pb_plain.proofs.parts.+parts.Given as goal

abbrev pub decreases-takes_part_within : goal.decreases-takes_part_within
decreases-takes_part_within l = goal.size-takes_part_within l

abbrev pub decreases-takes_part_at : goal.decreases-takes_part_at
decreases-takes_part_at l = goal.size-takes_part_at l

abbrev pub invariant-takes_part_within-loop-stmt : goal.invariant-takes_part_within-loop-stmt
invariant-takes_part_within-loop-stmt l = record {
  small : All (λ s. is_small_stmt (length (ids_of l.opens)) (plain_stmt s).stmt ≡ true) l.stmt-items;
  part :
      takes_part_within l.site.roles.now l.site.n l.rank l.number (ids_of l.opens) (held_at l.rank l.held) (block_of (map plain_stmt (drop l.stmt-index l.stmt-items)))
      ≡ takes_part_within l.site.roles.now l.site.n l.rank l.number (ids_of l.opens) (held_at l.rank l.held) (plain_block l.block).block;
}

abbrev pub invariant-takes_part_at-loop-branch : goal.invariant-takes_part_at-loop-branch
invariant-takes_part_at-loop-branch l = record {
  small : All (λ b. is_small_block (length (ids_of l.opens)) (plain_block b).block ≡ true) l.branch-items;
  part :
      takes_part_across l.site.roles.now l.site.n l.rank l.number (ids_of l.opens) (held_at l.rank l.held) (branches_of (map plain_block (drop l.branch-index l.branch-items)))
      ≡ takes_part_across l.site.roles.now l.site.n l.rank l.number (ids_of l.opens) (held_at l.rank l.held) (branches_of (map plain_block l.branch-items));
}
