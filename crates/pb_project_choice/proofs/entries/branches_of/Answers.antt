use Rattle.std.proofs.Common.{sym, subst, ◌++◌}
use Rattle.pb_part_takers.specs.Loops.{ids_of}
use Rattle.pb_part_firsts.proofs.Steps.{trees_of, branch_sound, others_sound, branch_among, others_among}
use Rattle.pb_project_choice.proofs.Firsts.{AreFirst, first_step, first_done, are_found}
use Rattle.pb_project_choice.proofs.entries.branches_of.Goals as goal

pub loop-branch-init : goal.loop-branch-init
loop-branch-init c = record {
  sound = λ rows h. h;
  among = λ cuts h. h;
  first = λ sc a rows cuts w around s m f g rest more. subst (λ z. AreFirst sc a cuts (trees_of c.args.branches.now) (z ++ rest)) (sym c.new-list.ensures.items) more;
}

pub loop-branch-preserved : goal.loop-branch-preserved
loop-branch-preserved c =
    let items = c.args.branches.now in
    let i = c.loop-branch.branch-index in
    let b = c.branch-item.result in
    let ids = ids_of c.args.held.now in
    record {
      sound = λ rows h. others_sound rows ids items i b c.loop-branch-test.true c.branch-item.is (c.loop-branch.invariant.sound rows h);
      among = λ cuts h. others_among cuts items i b c.loop-branch-test.true c.branch-item.is (c.loop-branch.invariant.among cuts h);
      first = λ sc a rows cuts w around s m f g.
          first_step sc a cuts items i b c.loop-branch.list.items _ c.in_ok-one.one c.loop-branch-test.true c.branch-item.is c.in_ok-push.ensures.items
          (c.in_ok-one.ensures sc a rows cuts w around (branch_sound rows ids items i b c.loop-branch-test.true c.branch-item.is (c.loop-branch.invariant.sound rows s))
          (branch_among cuts items i b c.loop-branch-test.true c.branch-item.is (c.loop-branch.invariant.among cuts m)) f g)
          (c.loop-branch.invariant.first sc a rows cuts w around s m f g);
    }

pub returns : goal.returns
returns c = λ sc a rows cuts w around s m are_cuts f g.
    are_found sc a cuts (trees_of c.args.branches.now) c.loop-branch.list.items are_cuts
    (first_done sc a cuts c.args.branches.now c.loop-branch.branch-index c.loop-branch.list.items c.loop-branch-test.false (c.loop-branch.invariant.first sc a rows cuts w around s m f g))
