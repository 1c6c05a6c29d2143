use Rattle.std.proofs.Common.{◌≡◌, ◌++◌, true, length, map, drop}
use Rattle.std.specs.List.{All}
use Rattle.pb_core_language.specs.Plain.{plain_block, plain_stmt, block_of, branches_of}
use Rattle.pb_core_language.specs.Parts.{firsts_within, firsts_across}
use Rattle.pb_plain.specs.Finds.{outcome_of}
use Rattle.pb_plain.specs.Loops.{ids_of, held_at}
use Rattle.pb_plain.specs.Small.{is_small_stmt, is_small_block}
use Rattle.pb_plain.proofs.first_parts.+first_parts.Given as goal

abbrev pub decreases-add_firsts_within : goal.decreases-add_firsts_within
decreases-add_firsts_within l = goal.size-add_firsts_within l

abbrev pub decreases-add_firsts_below : goal.decreases-add_firsts_below
decreases-add_firsts_below l = goal.size-add_firsts_below l

abbrev pub invariant-add_firsts_within-loop-stmt : goal.invariant-add_firsts_within-loop-stmt
invariant-add_firsts_within-loop-stmt l = record {
  small : All (λ s. is_small_stmt (length (ids_of l.opens)) (plain_stmt s).stmt ≡ true) l.stmt-items;
  found :
      map outcome_of l.out.items ++ firsts_within l.site.roles.now l.site.n l.rank l.number (ids_of l.opens) (held_at l.rank l.held) (block_of (map plain_stmt (drop l.stmt-index l.stmt-items)))
      ≡ map outcome_of l.fn.out.items ++ firsts_within l.site.roles.now l.site.n l.rank l.number (ids_of l.opens) (held_at l.rank l.held) (plain_block l.block).block;
}

abbrev pub invariant-add_firsts_below-loop-branch : goal.invariant-add_firsts_below-loop-branch
invariant-add_firsts_below-loop-branch l = record {
  small : All (λ b. is_small_block (length (ids_of l.opens)) (plain_block b).block ≡ true) l.branch-items;
  found :
      map outcome_of l.out.items ++ firsts_across l.site.roles.now l.site.n l.rank l.number (ids_of l.opens) (held_at l.rank l.held) (branches_of (map plain_block (drop l.branch-index l.branch-items)))
      ≡ map outcome_of l.fn.out.items ++ firsts_across l.site.roles.now l.site.n l.rank l.number (ids_of l.opens) (held_at l.rank l.held) (branches_of (map plain_block l.branch-items));
}
