use Rattle.std.proofs.Common.{◌≡◌, ◌+◌, ◌<◌, ◌≤◌, ◌&&◌, ◌||◌, Bool, Option, length, map, drop, get_or, sym, ◌∙◌}
use Rattle.pb_text.specs.declared.place.Place.{Place}
use Rattle.pb_syntax.specs.Plain.{plain_statement, plain_block}
use Rattle.pb_syntax.specs.Tree.{statements_of, branches_of}
use Rattle.pb_core_language.specs.FileRules.{can_end, all_can_end, some_can_end, loops_can_end, all_loops_can_end, branches_loops_can_end, endless_in, endless_among, is_nothing}
use Rattle.pb_core_file_rules.specs.Lowering.{first, or_first}
use Rattle.pb_core_file_rules.proofs.Endless.{and_true, or_false}
use Rattle.pb_core_file_rules.proofs.Firsts.{or_first_none}
use Rattle.pb_core_file_rules.proofs.EndingSteps.{and_on, or_on, first_on, free_on}
use Rattle.pb_core_file_rules.proofs.Loops.{goes_on, ends}
use Rattle.pb_core_file_rules.proofs.endings.+endings.Goals as goal

pub ending_among-loop-branch-preserved : goal.ending_among-loop-branch-preserved
ending_among-loop-branch-preserved t c =
    let bs = c.args.branches.now in
    let i = c.loop-branch.branch-index in
    let b = c.branch-item.result in
    let kept = c.loop-branch.ending in
    let new = c.or-ending.result in
    let joined = c.or-ending.ensures in
    let one = c.ending_in.ensures in
    let so_far = c.loop-branch.invariant in
    let less = c.loop-branch-test.true in
    let is = c.branch-item.is in
    record {
      can = goes_on (λ (k : Bool) ys. k || some_can_end (branches_of (map plain_block ys))) bs i b kept.can_end new.can_end _ less is (or_on kept.can_end _ _ _ _ joined.can one.can) so_far.can;
      loops = goes_on (λ (k : Bool) ys. k && branches_loops_can_end (branches_of (map plain_block ys))) bs i b kept.loops_can_end new.loops_can_end _ less is (and_on kept.loops_can_end _ _ _ _ joined.loops one.loops) so_far.loops;
      first = goes_on (λ (k : Option Place) ys. or_first k (first (endless_among (branches_of (map plain_block ys))))) bs i b kept.endless new.endless _ less is (first_on kept.endless _ _ _ _ joined.first one.first) so_far.first;
    }

pub ending_among-returns-clause-can : goal.ending_among-returns-clause-can
ending_among-returns-clause-can t c =
    sym (or_false _) ∙ ends (λ (k : Bool) ys. k || some_can_end (branches_of (map plain_block ys))) c.args.branches.now c.loop-branch.branch-index c.loop-branch.ending.can_end _ c.loop-branch-test.false c.loop-branch.invariant.can

pub ending_among-returns-clause-loops : goal.ending_among-returns-clause-loops
ending_among-returns-clause-loops t c =
    sym (and_true _) ∙ ends (λ (k : Bool) ys. k && branches_loops_can_end (branches_of (map plain_block ys))) c.args.branches.now c.loop-branch.branch-index c.loop-branch.ending.loops_can_end _ c.loop-branch-test.false c.loop-branch.invariant.loops

pub ending_among-returns-clause-first : goal.ending_among-returns-clause-first
ending_among-returns-clause-first t c =
    sym (or_first_none _) ∙ ends (λ (k : Option Place) ys. or_first k (first (endless_among (branches_of (map plain_block ys))))) c.args.branches.now c.loop-branch.branch-index c.loop-branch.ending.endless _ c.loop-branch-test.false c.loop-branch.invariant.first

pub ending_in-loop-i-preserved : goal.ending_in-loop-i-preserved
ending_in-loop-i-preserved t c =
    let ss = c.args.block.now.list.items in
    let i = c.loop-i.i in
    let s = c.statement-item.result in
    let kept = c.loop-i.ending in
    let new = c.then-ending.result in
    let joined = c.then-ending.ensures in
    let at = c.at-one.ensures in
    let one = c.ending_at.ensures in
    let so_far = c.loop-i.invariant in
    let less : i < length ss = rw (← c.deref-statement-items.ensures.value) c.loop-i-test.true in
    let is : s ≡ get_or ss i s = rw (← c.deref-statement-items.ensures.value) c.statement-item.is in
    let none : c.is_last.result ≡ is_nothing (statements_of (map plain_statement (drop (i + 1) ss))) = rw (← c.deref.ensures.value) c.is_last.ensures in
    record {
      can = goes_on (λ (k : Bool) ys. k && all_can_end (statements_of (map plain_statement ys))) ss i s kept.can_end new.can_end _ less is (and_on kept.can_end _ _ _ _ joined.can (at.can ∙ one.can)) so_far.can;
      loops = goes_on (λ (k : Bool) ys. k && all_loops_can_end (statements_of (map plain_statement ys))) ss i s kept.loops_can_end new.loops_can_end _ less is (and_on kept.loops_can_end _ _ _ _ joined.loops (at.loops ∙ one.loops)) so_far.loops;
      first = goes_on (λ (k : Option Place) ys. or_first k (first (endless_in (statements_of (map plain_statement ys))))) ss i s kept.endless new.endless _ less is (free_on kept.endless _ _ _ _ _ _ _ _ (can_end (plain_statement s)) _ (loops_can_end (plain_statement s)) _ _ joined.first at.first one.first c.place_of.ensures none one.can one.loops) so_far.first;
    }

pub ending_in-returns-clause-can : goal.ending_in-returns-clause-can
ending_in-returns-clause-can t c =
    let le : length c.args.block.now.list.items ≤ c.loop-i.i = rw (← c.deref-statement-items.ensures.value) c.loop-i-test.false in
    sym (and_true _) ∙ ends (λ (k : Bool) ys. k && all_can_end (statements_of (map plain_statement ys))) c.args.block.now.list.items c.loop-i.i c.loop-i.ending.can_end _ le c.loop-i.invariant.can

pub ending_in-returns-clause-loops : goal.ending_in-returns-clause-loops
ending_in-returns-clause-loops t c =
    let le : length c.args.block.now.list.items ≤ c.loop-i.i = rw (← c.deref-statement-items.ensures.value) c.loop-i-test.false in
    sym (and_true _) ∙ ends (λ (k : Bool) ys. k && all_loops_can_end (statements_of (map plain_statement ys))) c.args.block.now.list.items c.loop-i.i c.loop-i.ending.loops_can_end _ le c.loop-i.invariant.loops

pub ending_in-returns-clause-first : goal.ending_in-returns-clause-first
ending_in-returns-clause-first t c =
    let le : length c.args.block.now.list.items ≤ c.loop-i.i = rw (← c.deref-statement-items.ensures.value) c.loop-i-test.false in
    sym (or_first_none _) ∙ ends (λ (k : Option Place) ys. or_first k (first (endless_in (statements_of (map plain_statement ys))))) c.args.block.now.list.items c.loop-i.i c.loop-i.ending.endless _ le c.loop-i.invariant.first
