use Rattle.std.proofs.Common.{◌+◌, drop, sym, subst}
use Rattle.pb_choice_entries.proofs.Closes.{Keeps, keep_one, keep_none, keep_done, kept_small}
use Rattle.pb_choice_entries.proofs.Knowns.{IsNew, known_alone}
use Rattle.pb_choice_entries.proofs.labels.shared.Goals.{then-has_label+in_ok-push, else-has_label}
use Rattle.pb_choice_entries.proofs.labels.shared.Goals as goal

pub loop-entry-preserved : goal.loop-entry-preserved
loop-entry-preserved c =
    elim c.if-has_label.branch [
      | then-has_label+in_ok-push w ↦
          subst (λ v. Keeps (IsNew c.args.others.now) c.args.here.now v.items (drop (c.loop-entry.entry-index + 1) c.args.here.now)) (sym w.out-is)
          (keep_one (IsNew c.args.others.now) c.args.here.now c.loop-entry.out.items _ c.loop-entry.entry-index _ c.loop-entry-test.true w.in_ok-push.ensures.items c.loop-entry.invariant)
      | else-has_label w ↦
          subst (λ v. Keeps (IsNew c.args.others.now) c.args.here.now v.items (drop (c.loop-entry.entry-index + 1) c.args.here.now)) (sym w.out-is)
          (keep_none (IsNew c.args.others.now) c.args.here.now c.loop-entry.out.items c.loop-entry.entry-index _ c.loop-entry-test.true (c.has_label.ensures w.if-has_label.false c.args.others.now c.in_ok-labels.ensures) c.loop-entry.invariant)
    ]

pub returns-clause-is : goal.returns-clause-is
returns-clause-is c =
    known_alone c.args.here.now c.loop-entry.out.items c.args.others.now
    (keep_done (IsNew c.args.others.now) c.args.here.now c.loop-entry.out.items c.loop-entry.entry-index c.loop-entry-test.false c.loop-entry.invariant)

pub returns-clause-small : goal.returns-clause-small
returns-clause-small c =
    kept_small (IsNew c.args.others.now) c.args.here.now c.loop-entry.out.items (keep_done (IsNew c.args.others.now) c.args.here.now c.loop-entry.out.items c.loop-entry.entry-index c.loop-entry-test.false c.loop-entry.invariant)
