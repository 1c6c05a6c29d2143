use Rattle.std.proofs.Common.{◌≡◌, ◌++◌, true, length, map, refl, ap, sym, subst, ◌∙◌}
use Rattle.std.specs.List.{All}
use Rattle.pb_core_language.specs.Plain.{plain_block, plain_stmt, block_of}
use Rattle.pb_core_language.specs.Parts.{firsts_within}
use Rattle.pb_plain.specs.Finds.{outcome_of}
use Rattle.pb_plain.specs.Loops.{ids_of, held_at}
use Rattle.pb_plain.specs.Small.{is_small_stmt, is_small_block}
use Rattle.pb_plain.proofs.Adding.{within_more, across_more}
use Rattle.pb_plain.proofs.Smalls.{all_small, all_small_branches}
use Rattle.pb_core_language.proofs.Plains.{plain_list}
use Rattle.pb_plain.proofs.first_parts.+first_parts.Goals as goal

pub add_firsts_within-loop-stmt-init : goal.add_firsts_within-loop-stmt-init
add_firsts_within-loop-stmt-init t c =
    let firsts_of = firsts_within c.args.site.now.roles.now c.args.site.now.n c.args.rank c.args.number (ids_of c.args.opens.now) (held_at c.args.rank c.args.held.now) in
    record {
      small =
          subst (λ xs. All (λ s. is_small_stmt (length (ids_of c.args.opens.now)) (plain_stmt s).stmt ≡ true) xs) (sym c.deref-stmt-items.ensures.value)
          (all_small c.args.block.now (length (ids_of c.args.opens.now)) c.requires.small);
      found =
          ap (λ xs. map outcome_of c.args.out.now.items ++ firsts_of (block_of (map plain_stmt xs))) c.deref-stmt-items.ensures.value
          ∙ ap (λ x. map outcome_of c.args.out.now.items ++ firsts_of x) (sym (plain_list c.args.block.now));
    }

pub add_firsts_within-loop-stmt-preserved : goal.add_firsts_within-loop-stmt-preserved
add_firsts_within-loop-stmt-preserved t c = record {
  small = c.loop-stmt.invariant.small;
  found =
      within_more c.args.site.now.roles.now c.args.site.now.n c.args.rank c.args.number (ids_of c.args.opens.now) (held_at c.args.rank c.args.held.now) c.deref-stmt-items.result.now
      c.loop-stmt.stmt-index c.stmt-item.result _ _ _ c.loop-stmt-test.true c.stmt-item.is c.in_ok-add_firsts_below.ensures c.loop-stmt.invariant.found;
}

pub add_firsts_below-loop-branch-init : goal.add_firsts_below-loop-branch-init
add_firsts_below-loop-branch-init t c = record {
  small =
      subst (λ xs. All (λ b. is_small_block (length (ids_of c.args.opens.now)) (plain_block b).block ≡ true) xs) (sym c.deref-branch-items.ensures.value)
      (all_small_branches c.args.stmt.now c.in-Choice.kernel c.in-Choice.at c.in-Choice.branches (length (ids_of c.args.opens.now)) c.in-Choice.is c.requires.small);
  found = refl;
}

pub add_firsts_below-loop-branch-preserved : goal.add_firsts_below-loop-branch-preserved
add_firsts_below-loop-branch-preserved t c = record {
  small = c.loop-branch.invariant.small;
  found =
      across_more c.args.site.now.roles.now c.args.site.now.n c.args.rank c.args.number (ids_of c.args.opens.now) (held_at c.args.rank c.args.held.now) c.deref-branch-items.result.now
      c.loop-branch.branch-index c.branch-item.result _ _ _ _ c.loop-branch-test.true c.branch-item.is c.in_ok-add_firsts_if-in-Choice.ensures c.in_ok-add_firsts_within-in-Choice.ensures
      c.loop-branch.invariant.found;
}
