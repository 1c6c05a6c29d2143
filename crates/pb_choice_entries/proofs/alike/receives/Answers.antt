use Rattle.std.proofs.Common.{◌+◌, drop, sym, subst, ◌∙◌}
use Rattle.pb_choice_entries.proofs.Closes.{Keeps, IsOther, keep_one, keep_none, keep_done, kept_small, receives_first, receives_second}
use Rattle.pb_choice_entries.proofs.alike.receives.Goals.{then-is_receive+in_ok-push, else-is_receive}
use Rattle.pb_choice_entries.proofs.alike.receives.Goals as goal

pub loop-entry-preserved : goal.loop-entry-preserved
loop-entry-preserved c =
    elim c.if-is_receive.branch [
      | then-is_receive+in_ok-push w ↦
          subst (λ v. Keeps IsOther c.args.entries.now v.items (drop (c.loop-entry.entry-index + 1) c.args.entries.now)) (sym w.out-is)
          (keep_one IsOther c.args.entries.now c.loop-entry.out.items _ c.loop-entry.entry-index _ c.loop-entry-test.true w.in_ok-push.ensures.items c.loop-entry.invariant)
      | else-is_receive w ↦
          subst (λ v. Keeps IsOther c.args.entries.now v.items (drop (c.loop-entry.entry-index + 1) c.args.entries.now)) (sym w.out-is)
          (keep_none IsOther c.args.entries.now c.loop-entry.out.items c.loop-entry.entry-index _ c.loop-entry-test.true (sym c.is_receive.ensures ∙ w.if-is_receive.false) c.loop-entry.invariant)
    ]

pub returns-clause-first : goal.returns-clause-first
returns-clause-first c =
    receives_first c.args.entries.now c.loop-entry.out.items (keep_done IsOther c.args.entries.now c.loop-entry.out.items c.loop-entry.entry-index c.loop-entry-test.false c.loop-entry.invariant)

pub returns-clause-second : goal.returns-clause-second
returns-clause-second c =
    receives_second c.args.entries.now c.loop-entry.out.items (keep_done IsOther c.args.entries.now c.loop-entry.out.items c.loop-entry.entry-index c.loop-entry-test.false c.loop-entry.invariant)

pub returns-clause-small : goal.returns-clause-small
returns-clause-small c =
    kept_small IsOther c.args.entries.now c.loop-entry.out.items (keep_done IsOther c.args.entries.now c.loop-entry.out.items c.loop-entry.entry-index c.loop-entry-test.false c.loop-entry.invariant)
