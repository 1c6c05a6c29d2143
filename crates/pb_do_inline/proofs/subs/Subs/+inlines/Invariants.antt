use Rattle.std.proofs.Common.{◌≡◌, ◌≤◌, ◌+◌, ◌*◌, ◌-◌, [], map, drop}
use Rattle.std.specs.Prelude.{Result}
use Rattle.std.specs.Vec.{vec_len}
use Rattle.pb_do_syntax.specs.Calls.{calls_of, branches_of}
use Rattle.pb_do_syntax.specs.Plain.{plain_sub, plain_statement, plain_block}
use Rattle.pb_do_syntax.specs.Inlining.{Outcome, WrittenBranches, Excess, InlinesAll, InlinesBranches}
use Rattle.pb_do_syntax.specs.declared.tree.CallBlock.{out-CallBlock}
use Rattle.pb_do_inline.specs.Ends.{written, offered, site_of}
use Rattle.pb_do_inline.specs.Frames.{FrameInlines, Runs}
use Rattle.pb_do_inline.proofs.subs.Subs.+inlines.Given as goal

abbrev pub decreases-foreach : goal.decreases-foreach
decreases-foreach l = 8 * l.left

abbrev pub decreases-recursion : goal.decreases-recursion
decreases-recursion l = 8 * l.left

abbrev pub decreases-choice : goal.decreases-choice
decreases-choice l = 8 * l.left

abbrev pub decreases-step : goal.decreases-step
decreases-step l = 8 * l.left + 1

abbrev pub decreases-advance : goal.decreases-advance
decreases-advance l = 8 * l.left + 2

abbrev pub decreases-run : goal.decreases-run
decreases-run l = 8 * l.left + 3

abbrev pub decreases-statement : goal.decreases-statement
decreases-statement l = 8 * l.left + 4

abbrev pub decreases-statements : goal.decreases-statements
decreases-statements l = 8 * l.left + 5

abbrev pub decreases-block : goal.decreases-block
decreases-block l = 8 * l.left + 6

abbrev pub decreases-branches : goal.decreases-branches
decreases-branches l = 8 * l.left + 7

abbrev pub invariant-advance-loop-i : goal.invariant-advance-loop-i
invariant-advance-loop-i l = record {
  so_far : (o : Outcome) → InlinesAll (map plain_sub l.self.list.now) (site_of (map plain_sub l.self.list.now) l.fn.frame.site l.left) (calls_of (map plain_statement (drop l.i (out-CallBlock l.sub.body).list.items))) (written l.out) o →
      FrameInlines l.fn.self.list.now l.fn.left l.fn.frame (written l.fn.out) o;
  grows : l.fn.out.count.n ≤ l.out.count.n;
  same : l.frame ≡ l.fn.frame;
}

abbrev pub invariant-branches-loop-branch : goal.invariant-branches-loop-branch
invariant-branches-loop-branch l = record {
  so_far : (o : Result WrittenBranches Excess) → InlinesBranches (map plain_sub l.self.list.now) (site_of (map plain_sub l.self.list.now) l.site l.left) (branches_of (map plain_block (drop l.branch-index l.branches))) (offered l.offer) o →
      InlinesBranches (map plain_sub l.fn.self.list.now) (site_of (map plain_sub l.fn.self.list.now) l.fn.site l.fn.left) (branches_of (map plain_block l.fn.branches)) (record { list = []; count = l.fn.count.n }) o;
  grows : l.fn.count.n ≤ l.offer.count.n;
}

abbrev pub invariant-run-loop-frame : goal.invariant-run-loop-frame
invariant-run-loop-frame l = record {
  so_far : (o : Outcome) → Runs l.self.list.now l.left l.frames.items (written l.out) o → FrameInlines l.fn.self.list.now l.fn.left l.fn.first (written l.fn.out) o;
  grows : l.fn.out.count.n ≤ l.out.count.n;
}

abbrev pub decreases-run-loop-frame : goal.decreases-run-loop-frame
decreases-run-loop-frame l = 2 * (4000 - l.out.count.n) + vec_len l.frames

abbrev pub invariant-statements-loop-statement : goal.invariant-statements-loop-statement
invariant-statements-loop-statement l = record {
  so_far : (o : Outcome) → InlinesAll (map plain_sub l.self.list.now) (site_of (map plain_sub l.self.list.now) l.site l.left) (calls_of (map plain_statement (drop l.statement-index l.list))) (written l.out) o →
      InlinesAll (map plain_sub l.fn.self.list.now) (site_of (map plain_sub l.fn.self.list.now) l.fn.site l.fn.left) (calls_of (map plain_statement l.fn.list)) (written l.fn.out) o;
  grows : l.fn.out.count.n ≤ l.out.count.n;
}
