use Rattle.std.proofs.Common.{◌≡◌, true, length, map, ap, sym, subst, ◌∙◌}
use Rattle.std.specs.List.{All}
use Rattle.pb_core_language.specs.Plain.{plain_stmt, block_of}
use Rattle.pb_core_language.specs.Parts.{takes_part_within}
use Rattle.pb_plain.specs.Loops.{ids_of, held_at}
use Rattle.pb_plain.specs.Small.{is_small_stmt}
use Rattle.pb_plain.proofs.Smalls.{all_small}
use Rattle.pb_core_language.proofs.Plains.{plain_list}
use Rattle.pb_plain.proofs.parts.+parts.Goals as goal

pub takes_part_within-loop-stmt-init : goal.takes_part_within-loop-stmt-init
takes_part_within-loop-stmt-init t c =
    let part_of = takes_part_within c.args.site.now.roles.now c.args.site.now.n c.args.rank c.args.number (ids_of c.args.opens.now) (held_at c.args.rank c.args.held.now) in
    record {
      small =
          subst (λ xs. All (λ s. is_small_stmt (length (ids_of c.args.opens.now)) (plain_stmt s).stmt ≡ true) xs) (sym c.deref-stmt-items.ensures.value)
          (all_small c.args.block.now (length (ids_of c.args.opens.now)) c.requires.small);
      part = ap (λ xs. part_of (block_of (map plain_stmt xs))) c.deref-stmt-items.ensures.value ∙ ap part_of (sym (plain_list c.args.block.now));
    }
