use Rattle.std.proofs.Common.{◌+◌, drop, sym, subst}
use Rattle.pb_choice_entries.proofs.Closes.{Keeps, IsFar, keep_one, keep_none, keep_done, kept_small, close_second}
use Rattle.pb_choice_entries.proofs.close.close_to.Goals.{then-not-is_apart+in_ok-push, else-not-is_apart}
use Rattle.pb_choice_entries.proofs.close.close_to.Goals as goal

pub loop-entry-preserved : goal.loop-entry-preserved
loop-entry-preserved c =
    let out = IsFar c.args.area in
    elim c.if-not-is_apart.branch [
      | then-not-is_apart+in_ok-push w ↦
          subst (λ v. Keeps out c.args.others.now v.items (drop (c.loop-entry.entry-index + 1) c.args.others.now)) (sym w.out-is)
          (keep_one out c.args.others.now c.loop-entry.out.items _ c.loop-entry.entry-index _ c.loop-entry-test.true w.in_ok-push.ensures.items c.loop-entry.invariant)
      | else-not-is_apart w ↦
          subst (λ v. Keeps out c.args.others.now v.items (drop (c.loop-entry.entry-index + 1) c.args.others.now)) (sym w.out-is)
          (keep_none out c.args.others.now c.loop-entry.out.items c.loop-entry.entry-index _ c.loop-entry-test.true (c.is_apart.ensures w.if-not-is_apart.false) c.loop-entry.invariant)
    ]

pub returns-clause-is : goal.returns-clause-is
returns-clause-is c =
    let far = IsFar c.args.area in
    close_second c.args.area c.args.others.now c.loop-entry.out.items (keep_done far c.args.others.now c.loop-entry.out.items c.loop-entry.entry-index c.loop-entry-test.false c.loop-entry.invariant)

pub returns-clause-small : goal.returns-clause-small
returns-clause-small c =
    let far = IsFar c.args.area in
    kept_small far c.args.others.now c.loop-entry.out.items (keep_done far c.args.others.now c.loop-entry.out.items c.loop-entry.entry-index c.loop-entry-test.false c.loop-entry.invariant)
