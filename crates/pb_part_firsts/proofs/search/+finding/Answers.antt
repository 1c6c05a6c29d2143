use Rattle.std.proofs.Common.{None, refl, sym, subst}
use Rattle.std.specs.List.{All}
use Rattle.std.proofs.lemmas.List.Elements.{All-nil}
use Rattle.std.proofs.lemmas.Result.{on_ok_weaker}
use Rattle.pb_part_areas.specs.Fits.{Fits}
use Rattle.pb_core_language.specs.Cuts.{end_cuts, branches_cuts}
use Rattle.pb_core_language.specs.Plain.{plain_block}
use Rattle.pb_part_takers.specs.Loops.{ids_of}
use Rattle.pb_part_takers.proofs.Among.{among_right}
use Rattle.pb_core_language.proofs.Plains.{plain_message, plain_foreach, plain_loop, plain_again, plain_choice, plain_run, plain_barrier, plain_broadcast, plain_reduce, plain_allreduce}
use Rattle.pb_part_firsts.proofs.TakersAs.{takers_as}
use Rattle.pb_part_firsts.proofs.Steps.{trees_of, stmt_sound, rest_sound, tree_sound, branch_sound, others_sound, turned_sound, body_sound, choice_sound, stmt_among, rest_among, tree_among, branch_among, others_among, turned_among}
use Rattle.pb_part_firsts.proofs.Searches.{within_step, within_done, across_step, across_done, below_in_loop, below_as, below_none}
use Rattle.pb_part_firsts.proofs.search.+finding.Goals as goal

pub within-loop-stmt-init : goal.within-loop-stmt-init
within-loop-stmt-init t c = record { sound = λ rows h. h; gives = λ range roles rows w h all new g. g; fits = λ range cuts rows h a w d f. f; among = λ cuts a. a }

pub within-loop-stmt-preserved : goal.within-loop-stmt-preserved
within-loop-stmt-preserved t c =
    let items = c.deref-stmt-items.result.now in
    let i = c.loop-stmt.stmt-index in
    let s = c.stmt-item.result in
    let held = c.args.held.now in
    record {
      sound = λ rows h. rest_sound rows (ids_of held) items i s c.loop-stmt-test.true c.stmt-item.is (c.loop-stmt.invariant.sound rows h);
      gives = λ range roles rows w h all new g.
          c.loop-stmt.invariant.gives range roles rows w h all new (within_step held c.args.number items i s c.loop-stmt-test.true c.stmt-item.is
          (c.in_ok-below.ensures.gives range roles rows w (stmt_sound rows (ids_of held) items i s c.loop-stmt-test.true c.stmt-item.is (c.loop-stmt.invariant.sound rows h))) g);
      fits = λ range cuts rows h a w d f.
          c.in_ok-below.ensures.fits range cuts rows (stmt_sound rows (ids_of held) items i s c.loop-stmt-test.true c.stmt-item.is (c.loop-stmt.invariant.sound rows h))
          (stmt_among cuts items i s c.loop-stmt-test.true c.stmt-item.is (c.loop-stmt.invariant.among cuts a)) w d (c.loop-stmt.invariant.fits range cuts rows h a w d f);
      among = λ cuts a. rest_among cuts items i s c.loop-stmt-test.true c.stmt-item.is (c.loop-stmt.invariant.among cuts a);
    }

pub within-returns-clause-gives : goal.within-returns-clause-gives
within-returns-clause-gives t c = λ range roles rows w h.
    let items = c.deref-stmt-items.result.now in
    let same = c.deref-stmt-items.ensures.value in
    within_done c.args.held.now c.args.number c.args.block.now items c.loop-stmt.stmt-index same c.loop-stmt-test.false
    (c.loop-stmt.invariant.gives range roles rows w (tree_sound rows (ids_of c.args.held.now) c.args.block.now items same h))

pub within-returns-clause-fits : goal.within-returns-clause-fits
within-returns-clause-fits t c = λ range cuts rows h a w d f.
    let items = c.deref-stmt-items.result.now in
    let same = c.deref-stmt-items.ensures.value in
    c.loop-stmt.invariant.fits range cuts rows (tree_sound rows (ids_of c.args.held.now) c.args.block.now items same h) (tree_among cuts c.args.block.now items same a) w d f

pub across-loop-branch-init : goal.across-loop-branch-init
across-loop-branch-init t c = record { sound = λ rows h. h; gives = λ range roles rows w h all new g. g; fits = λ range cuts rows h a w d f. f; among = λ cuts a. a }

pub across-loop-branch-preserved : goal.across-loop-branch-preserved
across-loop-branch-preserved t c =
    let items = c.args.branches.now in
    let i = c.loop-branch.branch-index in
    let b = c.branch-item.result in
    let held = c.args.held.now in
    record {
      sound = λ rows h. others_sound rows (ids_of held) items i b c.loop-branch-test.true c.branch-item.is (c.loop-branch.invariant.sound rows h);
      gives = λ range roles rows w h all new g.
          let one = branch_sound rows (ids_of held) items i b c.loop-branch-test.true c.branch-item.is (c.loop-branch.invariant.sound rows h) in
          c.loop-branch.invariant.gives range roles rows w h all new
          (across_step held c.args.number items i b c.loop-branch-test.true c.branch-item.is (c.in_ok-here.ensures.gives range roles rows w one) (c.in_ok-within.ensures.gives range roles rows w one) g);
      fits = λ range cuts rows h a w d f.
          let one = branch_sound rows (ids_of held) items i b c.loop-branch-test.true c.branch-item.is (c.loop-branch.invariant.sound rows h) in
          let among = branch_among cuts items i b c.loop-branch-test.true c.branch-item.is (c.loop-branch.invariant.among cuts a) in
          c.in_ok-within.ensures.fits range cuts rows one among w d (c.in_ok-here.ensures.fits range cuts rows one among w d (c.loop-branch.invariant.fits range cuts rows h a w d f));
      among = λ cuts a. others_among cuts items i b c.loop-branch-test.true c.branch-item.is (c.loop-branch.invariant.among cuts a);
    }

pub across-returns-clause-gives : goal.across-returns-clause-gives
across-returns-clause-gives t c = λ range roles rows w h.
    across_done c.args.held.now c.args.number c.args.branches.now c.loop-branch.branch-index c.loop-branch-test.false (c.loop-branch.invariant.gives range roles rows w h)

pub across-returns-clause-fits : goal.across-returns-clause-fits
across-returns-clause-fits t c = λ range cuts rows h a w d f. c.loop-branch.invariant.fits range cuts rows h a w d f

pub below_loop-returns-clause-gives : goal.below_loop-returns-clause-gives
below_loop-returns-clause-gives t c = λ range roles rows w h.
    let held = c.args.held.now in
    let tree = plain_block c.args.body.now in
    let none = body_sound rows (ids_of held) _ c.args.id tree.mark tree.block h c.in_ok-none.ensures.ids in
    let inner = body_sound rows (ids_of held) _ c.args.id tree.mark tree.block h c.in_ok-inner.ensures.ids in
    below_in_loop held c.in_ok-none.none.items c.in_ok-inner.inner.items c.new.result.items c.new-areas.result.items _ tree.mark c.args.id c.args.number tree.block
    c.new.ensures.items c.new-areas.ensures.items c.in_ok-none.ensures.ids c.in_ok-inner.ensures.ids c.in_ok-none.ensures.held c.in_ok-inner.ensures.held
    (takers_as tree.block rows w none (rw c.deref.ensures.value at c.in_ok-takers_in.ensures))
    ((rw c.deref-2.ensures.value at (c.in_ok-here.ensures.gives range roles rows)) w inner)
    ((rw c.deref-3.ensures.value at (c.in_ok-within.ensures.gives range roles rows)) w inner)

pub below_loop-returns-clause-fits : goal.below_loop-returns-clause-fits
below_loop-returns-clause-fits t c = λ range cuts rows h a w d f.
    let held = c.args.held.now in
    let tree = plain_block c.args.body.now in
    let nil = All-nil (Fits range cuts) in
    let none = body_sound rows (ids_of held) _ c.args.id tree.mark tree.block h c.in_ok-none.ensures.ids in
    let inner = body_sound rows (ids_of held) _ c.args.id tree.mark tree.block h c.in_ok-inner.ensures.ids in
    let empty = c.in_ok-none.ensures.fits range cuts (subst (All (Fits range cuts)) (sym c.new.ensures.items) nil) d in
    let areas = (rw c.deref.ensures.value at c.in_ok-takers_in.ensures.fits) rows range cuts none a w empty (subst (All (Fits range cuts)) (sym c.new-areas.ensures.items) nil) in
    let loops = c.in_ok-inner.ensures.fits range cuts areas d in
    (rw c.deref-3.ensures.value at (c.in_ok-within.ensures.fits range cuts rows)) inner a w loops ((rw c.deref-2.ensures.value at (c.in_ok-here.ensures.fits range cuts rows)) inner a w loops f)

pub below-returns-in-Loop-clause-gives : goal.below-returns-in-Loop-clause-gives
below-returns-in-Loop-clause-gives t c =
    let is = plain_loop c.args.stmt.now c.in-Loop.id c.in-Loop.body c.in-Loop.is in
    on_ok_weaker c.below_loop.result (λ g range roles rows w h. below_as c.args.held.now c.args.number _ _ is (g range roles rows w (turned_sound rows (ids_of c.args.held.now) _ _ is h))) c.below_loop.ensures.gives

pub below-returns-in-Loop-clause-fits : goal.below-returns-in-Loop-clause-fits
below-returns-in-Loop-clause-fits t c =
    let is = plain_loop c.args.stmt.now c.in-Loop.id c.in-Loop.body c.in-Loop.is in
    on_ok_weaker c.below_loop.result (λ g range cuts rows h a w d f. g range cuts rows (turned_sound rows (ids_of c.args.held.now) _ _ is h) (turned_among cuts _ _ is a) w d f) c.below_loop.ensures.fits

pub below-returns-in-Choice-clause-gives : goal.below-returns-in-Choice-clause-gives
below-returns-in-Choice-clause-gives t c =
    let is = plain_choice c.args.stmt.now c.in-Choice.kernel c.in-Choice.at c.in-Choice.branches c.in-Choice.is in
    on_ok_weaker c.across.result (λ g range roles rows w h. below_as c.args.held.now c.args.number _ _ is
    ((rw c.deref.ensures.value at (g range roles rows)) w (choice_sound rows (ids_of c.args.held.now) c.in-Choice.kernel c.in-Choice.at (trees_of c.in-Choice.branches.items) (turned_sound rows (ids_of c.args.held.now) _ _ is h)))) c.across.ensures.gives

pub below-returns-in-Choice-clause-fits : goal.below-returns-in-Choice-clause-fits
below-returns-in-Choice-clause-fits t c =
    let is = plain_choice c.args.stmt.now c.in-Choice.kernel c.in-Choice.at c.in-Choice.branches c.in-Choice.is in
    let bs = trees_of c.in-Choice.branches.items in
    on_ok_weaker c.across.result (λ g range cuts rows h a w d f.
    (rw c.deref.ensures.value at (g range cuts rows)) (choice_sound rows (ids_of c.args.held.now) c.in-Choice.kernel c.in-Choice.at bs (turned_sound rows (ids_of c.args.held.now) _ _ is h))
    (among_right (end_cuts None c.in-Choice.at) (branches_cuts None bs) cuts (turned_among cuts _ _ is a)) w d f) c.across.ensures.fits

pub below-returns-in-Message-clause-gives : goal.below-returns-in-Message-clause-gives
below-returns-in-Message-clause-gives t c = λ range roles rows w h. below_none c.args.held.now c.args.number _ _ (plain_message c.args.stmt.now c.in-Message.label c.in-Message.from c.in-Message.to c.in-Message.is) (λ n role x. refl)

pub below-returns-in-Foreach-clause-gives : goal.below-returns-in-Foreach-clause-gives
below-returns-in-Foreach-clause-gives t c = λ range roles rows w h. below_none c.args.held.now c.args.number _ _ (plain_foreach c.args.stmt.now c.in-Foreach.low c.in-Foreach.high c.in-Foreach.items c.in-Foreach.is) (λ n role x. refl)

pub below-returns-in-Again-clause-gives : goal.below-returns-in-Again-clause-gives
below-returns-in-Again-clause-gives t c = λ range roles rows w h. below_none c.args.held.now c.args.number _ _ (plain_again c.args.stmt.now c.in-Again.id c.in-Again.is) (λ n role x. refl)

pub below-returns-in-Run-clause-gives : goal.below-returns-in-Run-clause-gives
below-returns-in-Run-clause-gives t c = λ range roles rows w h. below_none c.args.held.now c.args.number _ _ (plain_run c.args.stmt.now c.in-Run.kernel c.in-Run.at c.in-Run.is) (λ n role x. refl)

pub below-returns-in-Barrier-clause-gives : goal.below-returns-in-Barrier-clause-gives
below-returns-in-Barrier-clause-gives t c = λ range roles rows w h. below_none c.args.held.now c.args.number _ _ (plain_barrier c.args.stmt.now c.in-Barrier.is) (λ n role x. refl)

pub below-returns-in-Broadcast-clause-gives : goal.below-returns-in-Broadcast-clause-gives
below-returns-in-Broadcast-clause-gives t c = λ range roles rows w h. below_none c.args.held.now c.args.number _ _ (plain_broadcast c.args.stmt.now c.in-Broadcast.label c.in-Broadcast.root c.in-Broadcast.is) (λ n role x. refl)

pub below-returns-in-Reduce-clause-gives : goal.below-returns-in-Reduce-clause-gives
below-returns-in-Reduce-clause-gives t c = λ range roles rows w h. below_none c.args.held.now c.args.number _ _ (plain_reduce c.args.stmt.now c.in-Reduce.label c.in-Reduce.op c.in-Reduce.root c.in-Reduce.is) (λ n role x. refl)

pub below-returns-in-Allreduce-clause-gives : goal.below-returns-in-Allreduce-clause-gives
below-returns-in-Allreduce-clause-gives t c = λ range roles rows w h. below_none c.args.held.now c.args.number _ _ (plain_allreduce c.args.stmt.now c.in-Allreduce.label c.in-Allreduce.op c.in-Allreduce.is) (λ n role x. refl)
