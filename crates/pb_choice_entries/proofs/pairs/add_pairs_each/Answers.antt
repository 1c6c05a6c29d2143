use Rattle.pb_part_firsts.specs.Firsts.{are_small}
use Rattle.pb_choice_entries.specs.Clashes.{pair_any}
use Rattle.std.proofs.Common.{ap, sym, get_or}
use Rattle.pb_choice_entries.proofs.Adds.{far_step, far_done}
use Rattle.pb_choice_entries.proofs.Halves.{held_pairs, carried}
use Rattle.pb_choice_entries.proofs.pairs.add_pairs_each.Goals.{then-not-ends_with+in_ok-add_pairs_of, else-not-ends_with}
use Rattle.pb_choice_entries.proofs.pairs.add_pairs_each.Goals as goal

pub loop-entry-preserved : goal.loop-entry-preserved
loop-entry-preserved c =
    far_step (are_small c.args.others.now) (pair_any c.args.pairing c.args.others.now) c.args.here.now c.loop-entry.entry-index _ c.args.out.now.items c.loop-entry.out.items c.if-not-ends_with.out.items
    c.loop-entry-test.true
    (elim c.if-not-ends_with.branch [
      | then-not-ends_with+in_ok-add_pairs_of w ↦ λ s k. carried _ _ _ _ (ap (λ z. z.items) (sym w.out-is)) (w.in_ok-add_pairs_of.ensures k s)
      | else-not-ends_with w ↦ λ s k. carried _ _ _ _ (ap (λ z. z.items) (sym w.out-is)) (held_pairs c.args.pairing (get_or c.args.here.now c.loop-entry.entry-index _) c.args.others.now c.loop-entry.out.items ((rw c.deref.ensures.value at c.ends_with.ensures) w.if-not-ends_with.false))
    ]) c.loop-entry.invariant

pub returns : goal.returns
returns c = λ sh so.
    far_done (are_small c.args.others.now) (pair_any c.args.pairing c.args.others.now) c.args.here.now c.loop-entry.entry-index c.args.out.now.items c.loop-entry.out.items c.loop-entry-test.false c.loop-entry.invariant so sh
