use Rattle.std.proofs.Common.{rules, ◌≡◌, [], None, subst, drop, ap, sym, ◌∙◌}
use Rattle.std.proofs.lemmas.Bool.{false≢true}
use Rattle.std.proofs.lemmas.Result.{IfOk-weaker}
use Rattle.pb_core_language.specs.Plain.{plain_block, plain_stmt}
use Rattle.pb_part_firsts.specs.Firsts.{are_small}
use Rattle.pb_part_firsts.specs.Parts.{flat, IsAround}
use Rattle.pb_part_firsts.specs.Stopping.{first_at}
use Rattle.pb_part_takers.specs.Loops.{ids_of}
use Rattle.pb_core_language.proofs.Plains.{plain_loop, plain_again, plain_choice}
use Rattle.pb_part_firsts.proofs.Outcomes.{nobody_comes}
use Rattle.std.specs.List.{All}
use Rattle.std.proofs.lemmas.List.{nil_from_length}
use Rattle.std.proofs.lemmas.List.Elements.{All-nil}
use Rattle.pb_part_areas.specs.Fits.{Fits}
use Rattle.pb_core_language.specs.Cuts.{end_cuts, branches_cuts}
use Rattle.pb_part_takers.proofs.Among.{among_left, among_right}
use Rattle.pb_part_firsts.proofs.TakersAs.{takers_as}
use Rattle.pb_part_firsts.proofs.Asides.{bystanders, aside_gives}
use Rattle.pb_part_firsts.proofs.Steps.{trees_of, stmt_sound, rest_sound, tree_sound, branch_sound, others_sound, first_behind, block_begins, block_step, block_cut, block_done, given_at, plain_passes, other_passes, nobody_passes, plain_goes_on, stops_fit, none_fit, of_tree, of_stmt, turned_sound, body_sound, loop_gives, choice_gives, choice_end, choice_some, choice_sound, branch_step, branches_done, stmt_among, rest_among, tree_among, branch_among, others_among, turned_among, choice_is_end}
use Rattle.pb_part_firsts.proofs.walk.+firsts.Goals as goal

pub firsts_of-loop-stmt-init : goal.firsts_of-loop-stmt-init
firsts_of-loop-stmt-init t c =
    let none = c.new-stops.ensures.items in
    record {
      sound = λ rows h. h;
      gives = λ range roles rows w h around left new g. block_begins c.args.held.now c.deref-stmt-items.result.now none g;
      fits = λ range cuts rows h a w d r s. (none_fit range cuts _ none, record { areas = r; entries = s });
      around = λ h. h;
      among = λ cuts a. a;
      small = λ rows h s. (ap are_small none, s);
    }

pub firsts_of-loop-stmt-preserved : goal.firsts_of-loop-stmt-preserved
firsts_of-loop-stmt-preserved t c =
    let items = c.deref-stmt-items.result.now in
    let i = c.loop-stmt.stmt-index in
    let s = c.stmt-item.result in
    let held = c.args.held.now in
    record {
      sound = λ rows h. rest_sound rows (ids_of held) items i s c.loop-stmt-test.true c.stmt-item.is (c.loop-stmt.invariant.sound rows h);
      gives = λ range roles rows w h around left new g.
          let now = c.loop-stmt.invariant.sound rows h in
          c.loop-stmt.invariant.gives range roles rows w h around left new (block_step rows held items i s c.loop-stmt-test.true c.stmt-item.is now (sym c.is_again.ensures ∙ c.if-is_again.false)
          (c.in_ok-left.ensures.gives range roles rows w (stmt_sound rows (ids_of held) items i s c.loop-stmt-test.true c.stmt-item.is now) (c.loop-stmt.invariant.around around)) g);
      fits = λ range cuts rows h a w d r q.
          let now = c.loop-stmt.invariant.fits range cuts rows h a w d r q in
          c.in_ok-left.ensures.fits range cuts rows (stmt_sound rows (ids_of held) items i s c.loop-stmt-test.true c.stmt-item.is (c.loop-stmt.invariant.sound rows h))
          (stmt_among cuts items i s c.loop-stmt-test.true c.stmt-item.is (c.loop-stmt.invariant.among cuts a)) w d now.1.areas now.0 now.1.entries;
      around = λ h. c.in_ok-left.ensures.around (c.loop-stmt.invariant.around h);
      among = λ cuts a. rest_among cuts items i s c.loop-stmt-test.true c.stmt-item.is (c.loop-stmt.invariant.among cuts a);
      small = λ rows h k.
          let now = c.loop-stmt.invariant.small rows h k in
          c.in_ok-left.ensures.small rows (stmt_sound rows (ids_of held) items i s c.loop-stmt-test.true c.stmt-item.is (c.loop-stmt.invariant.sound rows h)) now.0 now.1;
    }

pub firsts_of-returns-then-is_empty-clause-gives : goal.firsts_of-returns-then-is_empty-clause-gives
firsts_of-returns-then-is_empty-clause-gives t c = λ range roles rows w h around.
    let items = c.deref-stmt-items.result.now in
    let held = c.args.held.now in
    let same = c.deref-stmt-items.ensures.value in
    let none : c.loop-stmt.left.items ≡ [] = nil_from_length c.loop-stmt.left.items (search rules) in
    of_tree held c.args.block.now items same
    (c.loop-stmt.invariant.gives range roles rows w (tree_sound rows (ids_of held) c.args.block.now items same h) around _ _
    (nobody_comes (first_behind roles held c.loop-stmt.stops.items (drop c.loop-stmt.stmt-index items)) (ap flat none)))

pub firsts_of-returns-then-is_empty-clause-around : goal.firsts_of-returns-then-is_empty-clause-around
firsts_of-returns-then-is_empty-clause-around t c = λ h. c.loop-stmt.invariant.around h

pub firsts_of-returns-then-is_empty-clause-small : goal.firsts_of-returns-then-is_empty-clause-small
firsts_of-returns-then-is_empty-clause-small t c = λ rows h k.
    (c.loop-stmt.invariant.small rows (tree_sound rows (ids_of c.args.held.now) c.args.block.now c.deref-stmt-items.result.now c.deref-stmt-items.ensures.value h) k).1

pub firsts_of-returns-then-is_empty-clause-fits : goal.firsts_of-returns-then-is_empty-clause-fits
firsts_of-returns-then-is_empty-clause-fits t c = λ range cuts rows h a w d r q.
    let items = c.deref-stmt-items.result.now in
    let same = c.deref-stmt-items.ensures.value in
    (c.loop-stmt.invariant.fits range cuts rows (tree_sound rows (ids_of c.args.held.now) c.args.block.now items same h) (tree_among cuts c.args.block.now items same a) w d r q).1

pub firsts_of-returns-then-is_again-clause-gives : goal.firsts_of-returns-then-is_again-clause-gives
firsts_of-returns-then-is_again-clause-gives t c = λ range roles rows w h around.
    let items = c.deref-stmt-items.result.now in
    let i = c.loop-stmt.stmt-index in
    let s = c.stmt-item.result in
    let held = c.args.held.now in
    let same = c.deref-stmt-items.ensures.value in
    let all = tree_sound rows (ids_of held) c.args.block.now items same h in
    let now = c.loop-stmt.invariant.sound rows all in
    let is = sym c.is_again.ensures ∙ c.if-is_again.true in
    of_tree held c.args.block.now items same
    (c.loop-stmt.invariant.gives range roles rows w all around _ _
    (block_cut rows held items i s c.loop-stmt-test.true c.stmt-item.is now is (c.in_ok-left.ensures.none is)
    (c.in_ok-left.ensures.gives range roles rows w (stmt_sound rows (ids_of held) items i s c.loop-stmt-test.true c.stmt-item.is now) (c.loop-stmt.invariant.around around))))

pub firsts_of-returns-then-is_again-clause-around : goal.firsts_of-returns-then-is_again-clause-around
firsts_of-returns-then-is_again-clause-around t c = λ h. c.in_ok-left.ensures.around (c.loop-stmt.invariant.around h)

pub firsts_of-returns-then-is_again-clause-small : goal.firsts_of-returns-then-is_again-clause-small
firsts_of-returns-then-is_again-clause-small t c = λ rows h k.
    let items = c.deref-stmt-items.result.now in
    let i = c.loop-stmt.stmt-index in
    let s = c.stmt-item.result in
    let held = c.args.held.now in
    let all = tree_sound rows (ids_of held) c.args.block.now items c.deref-stmt-items.ensures.value h in
    let now = c.loop-stmt.invariant.small rows all k in
    (c.in_ok-left.ensures.small rows (stmt_sound rows (ids_of held) items i s c.loop-stmt-test.true c.stmt-item.is (c.loop-stmt.invariant.sound rows all)) now.0 now.1).1

pub firsts_of-returns-then-is_again-clause-fits : goal.firsts_of-returns-then-is_again-clause-fits
firsts_of-returns-then-is_again-clause-fits t c = λ range cuts rows h a w d r q.
    let items = c.deref-stmt-items.result.now in
    let i = c.loop-stmt.stmt-index in
    let s = c.stmt-item.result in
    let held = c.args.held.now in
    let same = c.deref-stmt-items.ensures.value in
    let all = tree_sound rows (ids_of held) c.args.block.now items same h in
    let among = tree_among cuts c.args.block.now items same a in
    let now = c.loop-stmt.invariant.fits range cuts rows all among w d r q in
    (c.in_ok-left.ensures.fits range cuts rows (stmt_sound rows (ids_of held) items i s c.loop-stmt-test.true c.stmt-item.is (c.loop-stmt.invariant.sound rows all))
    (stmt_among cuts items i s c.loop-stmt-test.true c.stmt-item.is (c.loop-stmt.invariant.among cuts among)) w d now.1.areas now.0 now.1.entries).1

pub firsts_of-returns-clause-gives : goal.firsts_of-returns-clause-gives
firsts_of-returns-clause-gives t c = λ range roles rows w h around.
    let items = c.deref-stmt-items.result.now in
    let held = c.args.held.now in
    let same = c.deref-stmt-items.ensures.value in
    of_tree held c.args.block.now items same
    (c.loop-stmt.invariant.gives range roles rows w (tree_sound rows (ids_of held) c.args.block.now items same h) around _ _
    (block_done held _ items c.loop-stmt.stmt-index c.loop-stmt-test.false (given_at c.deref.ensures.value (c.in_ok-rest.ensures.gives range roles (c.loop-stmt.invariant.around around)))))

pub firsts_of-returns-clause-around : goal.firsts_of-returns-clause-around
firsts_of-returns-clause-around t c = λ h. c.in_ok-rest.ensures.around (c.loop-stmt.invariant.around h)

pub firsts_of-returns-clause-small : goal.firsts_of-returns-clause-small
firsts_of-returns-clause-small t c = λ rows h k.
    let now = c.loop-stmt.invariant.small rows (tree_sound rows (ids_of c.args.held.now) c.args.block.now c.deref-stmt-items.result.now c.deref-stmt-items.ensures.value h) k in
    c.in_ok-rest.ensures.small (ap are_small c.deref.ensures.value ∙ now.0) now.1

pub firsts_of-returns-clause-fits : goal.firsts_of-returns-clause-fits
firsts_of-returns-clause-fits t c = λ range cuts rows h a w d r q.
    let items = c.deref-stmt-items.result.now in
    let same = c.deref-stmt-items.ensures.value in
    let now = c.loop-stmt.invariant.fits range cuts rows (tree_sound rows (ids_of c.args.held.now) c.args.block.now items same h) (tree_among cuts c.args.block.now items same a) w d r q in
    c.in_ok-rest.ensures.fits range cuts now.1.areas (stops_fit range cuts _ _ c.deref.ensures.value now.0) now.1.entries

pub firsts_at-returns-then-is_plain-clause-gives : goal.firsts_at-returns-then-is_plain-clause-gives
firsts_at-returns-then-is_plain-clause-gives t c = λ range roles rows w h around. plain_passes _ (c.in_ok-is_plain.ensures.gives c.if-is_plain.true range roles rows c.args.held.now w h)

pub firsts_at-returns-then-is_plain-clause-none : goal.firsts_at-returns-then-is_plain-clause-none
firsts_at-returns-then-is_plain-clause-none t c = λ e. absurd (false≢true (sym (plain_goes_on (plain_stmt c.args.stmt.now).stmt (sym c.in_ok-is_plain.ensures.is ∙ c.if-is_plain.true)) ∙ e))

pub firsts_at-returns-then-is_plain-clause-around : goal.firsts_at-returns-then-is_plain-clause-around
firsts_at-returns-then-is_plain-clause-around t c = λ h. h

pub firsts_at-returns-then-is_plain-clause-small : goal.firsts_at-returns-then-is_plain-clause-small
firsts_at-returns-then-is_plain-clause-small t c = λ rows h s q. (c.in_ok-is_plain.ensures.small rows (ids_of c.args.held.now) h s, q)

pub firsts_at-returns-then-is_plain-clause-fits : goal.firsts_at-returns-then-is_plain-clause-fits
firsts_at-returns-then-is_plain-clause-fits t c = λ range cuts rows h a w d r s q. (c.in_ok-is_plain.ensures.fits range cuts rows (ids_of c.args.held.now) h a w s, record { areas = r; entries = q })

pub firsts_at-returns-then-is_empty-clause-gives : goal.firsts_at-returns-then-is_empty-clause-gives
firsts_at-returns-then-is_empty-clause-gives t c = λ range roles rows w h around.
    let none : c.in_ok-come.come.items ≡ [] = nil_from_length c.in_ok-come.come.items (search rules) in
    nobody_passes _ (ap flat none) (given_at (c.deref.ensures.value ∙ c.in_ok-is_plain.ensures.other c.if-is_plain.false) (c.in_ok-come.ensures.gives range roles around))

pub firsts_at-returns-then-is_empty-clause-none : goal.firsts_at-returns-then-is_empty-clause-none
firsts_at-returns-then-is_empty-clause-none t c = λ e. c.clear.ensures.items

pub firsts_at-returns-then-is_empty-clause-around : goal.firsts_at-returns-then-is_empty-clause-around
firsts_at-returns-then-is_empty-clause-around t c = λ h. c.in_ok-come.ensures.around h

pub firsts_at-returns-then-is_empty-clause-small : goal.firsts_at-returns-then-is_empty-clause-small
firsts_at-returns-then-is_empty-clause-small t c = λ rows h s q.
    (ap are_small c.clear.ensures.items, c.in_ok-come.ensures.small (ap are_small (c.deref.ensures.value ∙ c.in_ok-is_plain.ensures.other c.if-is_plain.false) ∙ s) q)

pub firsts_at-returns-then-is_empty-clause-fits : goal.firsts_at-returns-then-is_empty-clause-fits
firsts_at-returns-then-is_empty-clause-fits t c = λ range cuts rows h a w d r s q. (
  none_fit range cuts _ c.clear.ensures.items,
  c.in_ok-come.ensures.fits range cuts r (stops_fit range cuts _ _ (c.deref.ensures.value ∙ c.in_ok-is_plain.ensures.other c.if-is_plain.false) s) q,
)

pub firsts_at-returns-clause-gives : goal.firsts_at-returns-clause-gives
firsts_at-returns-clause-gives t c = IfOk-weaker c.met_firsts.result _ _ (λ left f range roles rows w h around.
    other_passes _ c.clear.ensures.items (given_at (c.deref.ensures.value ∙ c.in_ok-is_plain.ensures.other c.if-is_plain.false) (c.in_ok-come.ensures.gives range roles around))
    (f (sym c.in_ok-is_plain.ensures.is ∙ c.if-is_plain.false) range roles rows w h (c.in_ok-come.ensures.around around))) c.met_firsts.ensures.gives

pub firsts_at-returns-clause-none : goal.firsts_at-returns-clause-none
firsts_at-returns-clause-none t c = IfOk-weaker c.met_firsts.result _ _ (λ left f e. c.clear.ensures.items) c.met_firsts.ensures.around

pub firsts_at-returns-clause-around : goal.firsts_at-returns-clause-around
firsts_at-returns-clause-around t c = IfOk-weaker c.met_firsts.result _ _ (λ left f h. f (c.in_ok-come.ensures.around h)) c.met_firsts.ensures.around

pub firsts_at-returns-clause-small : goal.firsts_at-returns-clause-small
firsts_at-returns-clause-small t c = IfOk-weaker c.met_firsts.result _ _ (λ left f rows h s q.
    (ap are_small c.clear.ensures.items, f rows h (c.in_ok-come.ensures.small (ap are_small (c.deref.ensures.value ∙ c.in_ok-is_plain.ensures.other c.if-is_plain.false) ∙ s) q)))
    c.met_firsts.ensures.small

pub firsts_at-returns-clause-fits : goal.firsts_at-returns-clause-fits
firsts_at-returns-clause-fits t c = IfOk-weaker c.met_firsts.result _ _ (λ left f range cuts rows h a w d r s q.
    let now = c.in_ok-come.ensures.fits range cuts r (stops_fit range cuts _ _ (c.deref.ensures.value ∙ c.in_ok-is_plain.ensures.other c.if-is_plain.false) s) q in
    (none_fit range cuts _ c.clear.ensures.items, f range cuts rows h a w d now.areas now.entries)) c.met_firsts.ensures.fits

pub met_firsts-returns-clause-gives : goal.met_firsts-returns-clause-gives
met_firsts-returns-clause-gives t c = IfOk-weaker c.both_sides.result _ _ (λ all f k range roles rows w h around.
    let s = plain_stmt c.args.stmt.now in
    aside_gives _ _ (first_at roles c.args.held.now s.mark s.stmt) c.in_ok-sides.ensures.is ((rw c.deref.ensures.value at c.in_ok-sides.ensures.apart) around) f
    (bystanders s rows w h c.new-takers.ensures.items c.in_ok-takers_at.ensures)
    (c.in_ok-left.ensures.gives k range roles rows w h (c.in_ok-sides.ensures.around around).0)) c.both_sides.ensures.is

pub met_firsts-returns-clause-around : goal.met_firsts-returns-clause-around
met_firsts-returns-clause-around t c = IfOk-weaker c.both_sides.result _ _ (λ all f h.
    let sides = c.in_ok-sides.ensures.around h in
    f sides.1 (c.in_ok-left.ensures.around sides.0)) c.both_sides.ensures.around

pub met_firsts-returns-clause-small : goal.met_firsts-returns-clause-small
met_firsts-returns-clause-small t c = IfOk-weaker c.both_sides.result _ _ (λ all f rows h s. c.in_ok-left.ensures.small rows h s) c.both_sides.ensures.is

pub met_firsts-returns-clause-fits : goal.met_firsts-returns-clause-fits
met_firsts-returns-clause-fits t c = IfOk-weaker c.both_sides.result _ _ (λ all f range cuts rows h a w d r q.
    let sides = c.in_ok-sides.ensures.fits range cuts r in
    let now = c.in_ok-left.ensures.fits range cuts rows h a w d sides.0 q in
    record { areas = f range cuts sides.1 now.areas; entries = now.entries }) c.both_sides.ensures.fits

pub loop_firsts-returns-clause-gives : goal.loop_firsts-returns-clause-gives
loop_firsts-returns-clause-gives t c = λ range roles rows m k w h around.
    let held = c.args.held.now in
    let body = (plain_block c.args.body.now).block in
    let none = body_sound rows (ids_of held) _ c.args.id k body h c.in_ok-none.ensures.ids in
    loop_gives held c.in_ok-none.none.items c.in_ok-inner.inner.items c.new.result.items c.new-takers.result.items _ m k c.args.id body
    c.new.ensures.items c.new-takers.ensures.items c.in_ok-none.ensures.ids c.in_ok-inner.ensures.ids c.in_ok-none.ensures.held c.in_ok-inner.ensures.held
    (takers_as body rows w none (rw c.deref.ensures.value at c.in_ok-takers_in.ensures))
    ((rw c.deref-2.ensures.value at (c.in_ok-left.ensures.gives range roles rows)) w (body_sound rows (ids_of held) _ c.args.id k body h c.in_ok-inner.ensures.ids) around)

pub loop_firsts-returns-clause-around : goal.loop_firsts-returns-clause-around
loop_firsts-returns-clause-around t c = λ h. c.in_ok-left.ensures.around h

pub loop_firsts-returns-clause-small : goal.loop_firsts-returns-clause-small
loop_firsts-returns-clause-small t c = λ rows k h s.
    (rw c.deref-2.ensures.value at (c.in_ok-left.ensures.small rows)) (body_sound rows (ids_of c.args.held.now) _ c.args.id k (plain_block c.args.body.now).block h c.in_ok-inner.ensures.ids) s

pub choice_firsts-returns-clause-gives : goal.choice_firsts-returns-clause-gives
choice_firsts-returns-clause-gives t c = λ range roles rows m kernel w h around.
    let held = c.args.held.now in
    let bs = trees_of c.args.branches.now in
    choice_gives held m kernel c.args.at bs (choice_some rows (ids_of held) kernel c.args.at bs h) (ap flat c.deref.ensures.value)
    (c.in_ok-others.ensures.gives range roles (choice_end rows (ids_of held) kernel c.args.at bs h) around)
    (c.in_ok-left.ensures.gives range roles rows w (choice_sound rows (ids_of held) kernel c.args.at bs h) (subst (All IsAround) (sym c.deref.ensures.value) (c.in_ok-others.ensures.around around)))

pub choice_firsts-returns-clause-around : goal.choice_firsts-returns-clause-around
choice_firsts-returns-clause-around t c = λ h. c.in_ok-left.ensures.around (subst (All IsAround) (sym c.deref.ensures.value) (c.in_ok-others.ensures.around h))

pub choice_firsts-returns-clause-small : goal.choice_firsts-returns-clause-small
choice_firsts-returns-clause-small t c = λ rows kernel h s.
    let held = c.args.held.now in
    c.in_ok-left.ensures.small rows (choice_sound rows (ids_of held) kernel c.args.at (trees_of c.args.branches.now) h) (c.in_ok-others.ensures.small s)

pub firsts_among-loop-branch-init : goal.firsts_among-loop-branch-init
firsts_among-loop-branch-init t c = record { sound = λ rows h. h; gives = λ range roles rows w h around left new g. g; fits = λ range cuts rows h a w d r s. record { areas = subst (λ z. All (Fits range cuts) (flat z)) (sym c.new-passed.ensures.items) (All-nil (Fits range cuts)); entries = s }; around = λ h. subst (All IsAround) (sym c.new-passed.ensures.items) (All-nil IsAround); among = λ cuts a. a; small = λ rows h s. s }

pub firsts_among-loop-branch-preserved : goal.firsts_among-loop-branch-preserved
firsts_among-loop-branch-preserved t c =
    let items = c.args.branches.now in
    let i = c.loop-branch.branch-index in
    let b = c.branch-item.result in
    let held = c.args.held.now in
    record {
      sound = λ rows h. others_sound rows (ids_of held) items i b c.loop-branch-test.true c.branch-item.is (c.loop-branch.invariant.sound rows h);
      gives = λ range roles rows w h around left new g.
          c.loop-branch.invariant.gives range roles rows w h around left new
          (branch_step held items i b c.loop-branch-test.true c.branch-item.is c.in_ok-told.ensures.is
          (c.in_ok-left.ensures.gives range roles rows w (branch_sound rows (ids_of held) items i b c.loop-branch-test.true c.branch-item.is (c.loop-branch.invariant.sound rows h)) (c.in_ok-told.ensures.around around))
          c.in_ok-passed.ensures.is g);
      fits = λ range cuts rows h a w d r q.
          let now = c.loop-branch.invariant.fits range cuts rows h a w d r q in
          let here = c.in_ok-left.ensures.fits range cuts rows (branch_sound rows (ids_of held) items i b c.loop-branch-test.true c.branch-item.is (c.loop-branch.invariant.sound rows h))
          (branch_among cuts items i b c.loop-branch-test.true c.branch-item.is (c.loop-branch.invariant.among cuts a)) w d (c.in_ok-told.ensures.fits range cuts r) now.entries in
          record { areas = c.in_ok-passed.ensures.fits range cuts now.areas here.areas; entries = here.entries };
      around = λ h. c.in_ok-passed.ensures.around (c.loop-branch.invariant.around h) (c.in_ok-left.ensures.around (c.in_ok-told.ensures.around h));
      among = λ cuts a. others_among cuts items i b c.loop-branch-test.true c.branch-item.is (c.loop-branch.invariant.among cuts a);
      small = λ rows h k.
          c.in_ok-left.ensures.small rows (branch_sound rows (ids_of held) items i b c.loop-branch-test.true c.branch-item.is (c.loop-branch.invariant.sound rows h)) (c.loop-branch.invariant.small rows h k);
    }

pub firsts_among-returns-clause-gives : goal.firsts_among-returns-clause-gives
firsts_among-returns-clause-gives t c = λ range roles rows w h around.
    branches_done c.args.held.now c.args.branches.now c.loop-branch.branch-index c.loop-branch-test.false (ap flat c.new-passed.ensures.items) (c.loop-branch.invariant.gives range roles rows w h around)

pub firsts_among-returns-clause-around : goal.firsts_among-returns-clause-around
firsts_among-returns-clause-around t c = λ h. c.loop-branch.invariant.around h

pub firsts_among-returns-clause-small : goal.firsts_among-returns-clause-small
firsts_among-returns-clause-small t c = λ rows h k. c.loop-branch.invariant.small rows h k

pub other_firsts-returns-in-Loop-clause-small : goal.other_firsts-returns-in-Loop-clause-small
other_firsts-returns-in-Loop-clause-small t c =
    IfOk-weaker c.loop_firsts.result _ _ (λ left f rows h k.
    f rows (plain_block c.in-Loop.body).mark (turned_sound rows (ids_of c.args.held.now) _ _ (plain_loop c.args.stmt.now c.in-Loop.id c.in-Loop.body c.in-Loop.is) h) k)
    c.loop_firsts.ensures.small

pub loop_firsts-returns-clause-fits : goal.loop_firsts-returns-clause-fits
loop_firsts-returns-clause-fits t c = λ range cuts rows k h a w d r q.
    let held = c.args.held.now in
    let body = (plain_block c.args.body.now).block in
    let nil = All-nil (Fits range cuts) in
    let none = c.in_ok-none.ensures.fits range cuts (subst (All (Fits range cuts)) (sym c.new.ensures.items) nil) d in
    let takers = (rw c.deref.ensures.value at c.in_ok-takers_in.ensures.fits) rows range cuts (body_sound rows (ids_of held) _ c.args.id k body h c.in_ok-none.ensures.ids) a w none (subst (All (Fits range cuts)) (sym c.new-takers.ensures.items) nil) in
    (rw c.deref-2.ensures.value at (c.in_ok-left.ensures.fits range cuts rows)) (body_sound rows (ids_of held) _ c.args.id k body h c.in_ok-inner.ensures.ids) a w (c.in_ok-inner.ensures.fits range cuts takers d) r q

pub choice_firsts-returns-clause-fits : goal.choice_firsts-returns-clause-fits
choice_firsts-returns-clause-fits t c = λ range cuts rows kernel h a w d r q.
    let held = c.args.held.now in
    let bs = trees_of c.args.branches.now in
    let told = c.in_ok-others.ensures.fits range cuts rows (choice_is_end rows (ids_of held) kernel c.args.at bs h) (among_left (end_cuts None c.args.at) (branches_cuts None bs) cuts a) r q in
    c.in_ok-left.ensures.fits range cuts rows (choice_sound rows (ids_of held) kernel c.args.at bs h) (among_right (end_cuts None c.args.at) (branches_cuts None bs) cuts a) w d
    (subst (λ z. All (Fits range cuts) (flat z)) (sym c.deref.ensures.value) told.areas) told.entries

pub firsts_among-returns-clause-fits : goal.firsts_among-returns-clause-fits
firsts_among-returns-clause-fits t c = λ range cuts rows h a w d r q. c.loop-branch.invariant.fits range cuts rows h a w d r q

pub other_firsts-returns-in-Loop-clause-fits : goal.other_firsts-returns-in-Loop-clause-fits
other_firsts-returns-in-Loop-clause-fits t c =
    let is = plain_loop c.args.stmt.now c.in-Loop.id c.in-Loop.body c.in-Loop.is in
    IfOk-weaker c.loop_firsts.result _ _ (λ left f range cuts rows h a w d r q.
    f range cuts rows (plain_block c.in-Loop.body).mark (turned_sound rows (ids_of c.args.held.now) _ _ is h) (turned_among cuts _ _ is a) w d r q) c.loop_firsts.ensures.fits

pub other_firsts-returns-in-Again-clause-fits : goal.other_firsts-returns-in-Again-clause-fits
other_firsts-returns-in-Again-clause-fits t c =
    IfOk-weaker c.again_firsts.result _ _ (λ left f range cuts rows h a w d r q. f range cuts d r q) c.again_firsts.ensures.fits

pub other_firsts-returns-in-Choice-clause-fits : goal.other_firsts-returns-in-Choice-clause-fits
other_firsts-returns-in-Choice-clause-fits t c =
    let is = plain_choice c.args.stmt.now c.in-Choice.kernel c.in-Choice.at c.in-Choice.branches c.in-Choice.is in
    IfOk-weaker c.choice_firsts.result _ _ (λ left f range cuts rows h a w d r q.
    (rw c.deref.ensures.value at (f range cuts rows c.in-Choice.kernel)) (turned_sound rows (ids_of c.args.held.now) _ _ is h) (turned_among cuts _ _ is a) w d r q) c.choice_firsts.ensures.fits

pub other_firsts-returns-in-Message-clause-fits : goal.other_firsts-returns-in-Message-clause-fits
other_firsts-returns-in-Message-clause-fits t c = λ range cuts rows h a w d r q. record { areas = r; entries = q }

pub other_firsts-returns-in-Loop-clause-gives : goal.other_firsts-returns-in-Loop-clause-gives
other_firsts-returns-in-Loop-clause-gives t c =
    let held = c.args.held.now in
    let m = (plain_stmt c.args.stmt.now).mark in
    let is = plain_loop c.args.stmt.now c.in-Loop.id c.in-Loop.body c.in-Loop.is in
    IfOk-weaker c.loop_firsts.result _ _ (λ left f k range roles rows w h around.
    of_stmt held m _ _ is (f range roles rows m (plain_block c.in-Loop.body).mark w (turned_sound rows (ids_of held) _ _ is h) around)) c.loop_firsts.ensures.gives

pub other_firsts-returns-in-Again-clause-gives : goal.other_firsts-returns-in-Again-clause-gives
other_firsts-returns-in-Again-clause-gives t c =
    let held = c.args.held.now in
    let m = (plain_stmt c.args.stmt.now).mark in
    IfOk-weaker c.again_firsts.result _ _ (λ left f k range roles rows w h around.
    of_stmt held m _ _ (plain_again c.args.stmt.now c.in-Again.id c.in-Again.is) (f range roles m around)) c.again_firsts.ensures.gives

pub other_firsts-returns-in-Choice-clause-gives : goal.other_firsts-returns-in-Choice-clause-gives
other_firsts-returns-in-Choice-clause-gives t c =
    let held = c.args.held.now in
    let m = (plain_stmt c.args.stmt.now).mark in
    let is = plain_choice c.args.stmt.now c.in-Choice.kernel c.in-Choice.at c.in-Choice.branches c.in-Choice.is in
    IfOk-weaker c.choice_firsts.result _ _ (λ left f k range roles rows w h around.
    of_stmt held m _ _ is ((rw c.deref.ensures.value at (f range roles rows m c.in-Choice.kernel)) w (turned_sound rows (ids_of held) _ _ is h) around)) c.choice_firsts.ensures.gives
