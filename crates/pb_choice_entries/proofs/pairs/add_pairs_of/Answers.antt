use Rattle.pb_part_firsts.specs.Firsts.{is_small_kind}
use Rattle.pb_choice_entries.specs.Clashes.{pair}
use Rattle.pb_choice_entries.proofs.Adds.{far_step, far_done}
use Rattle.pb_choice_entries.proofs.Halves.{held_rest}
use Rattle.pb_choice_entries.proofs.pairs.add_pairs_of.Goals as goal

pub loop-other-preserved : goal.loop-other-preserved
loop-other-preserved c =
    far_step (is_small_kind c.args.entry.kind) (pair c.args.pairing c.args.entry) c.args.others.now c.loop-other.other-index _ c.args.out.now.items c.loop-other.out.items c.add_pair.new.out.items
    c.loop-other-test.true c.in_ok-add_pair.ensures c.loop-other.invariant

pub returns : goal.returns
returns c =
    far_done (is_small_kind c.args.entry.kind) (pair c.args.pairing c.args.entry) c.args.others.now c.loop-other.other-index c.args.out.now.items c.loop-other.out.items c.loop-other-test.false c.loop-other.invariant

pub returns-then-ends_with : goal.returns-then-ends_with
returns-then-ends_with c =
    held_rest c.args.pairing (is_small_kind c.args.entry.kind) c.args.entry c.args.others.now c.loop-other.other-index c.args.out.now.items c.loop-other.out.items
    ((rw c.deref.ensures.value at c.ends_with.ensures) c.if-ends_with.true) c.loop-other.invariant
