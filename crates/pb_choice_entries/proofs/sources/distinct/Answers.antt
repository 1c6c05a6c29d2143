use Rattle.std.proofs.Common.{◌+◌, drop, sym, ap, subst, ◌∙◌}
use Rattle.pb_choice_entries.specs.Clashes.{fork_any, forks}
use Rattle.pb_choice_entries.proofs.Repeats.{KeepsOnce, once_pushed, once_passed, once_done, once_any, once_first, once_second, any_second}
use Rattle.pb_choice_entries.proofs.sources.distinct.Goals.{then-not-is_repeated+in_ok-push, else-not-is_repeated}
use Rattle.pb_choice_entries.proofs.sources.distinct.Goals as goal

pub loop-entry-preserved : goal.loop-entry-preserved
loop-entry-preserved c =
    let es = c.deref-entry-items.result.now in
    elim c.if-not-is_repeated.branch [
      | then-not-is_repeated+in_ok-push w ↦
          subst (λ v. KeepsOnce es v.items (drop (c.loop-entry.entry-index + 1) es)) (sym w.out-is)
          (once_pushed es c.loop-entry.out.items _ c.loop-entry.entry-index _ c.loop-entry-test.true w.in_ok-push.ensures.items c.loop-entry.invariant)
      | else-not-is_repeated w ↦
          subst (λ v. KeepsOnce es v.items (drop (c.loop-entry.entry-index + 1) es)) (sym w.out-is)
          (once_passed es c.loop-entry.out.items c.deref.result.now c.loop-entry.entry-index _ c.loop-entry-test.true
          c.deref.ensures.value (c.is_repeated.ensures w.if-not-is_repeated.false) c.loop-entry.invariant)
    ]

pub returns-clause-first : goal.returns-clause-first
returns-clause-first c =
    let es = c.deref-entry-items.result.now in
    λ others n role x.
    once_first es c.loop-entry.out.items (once_done es c.loop-entry.out.items c.loop-entry.entry-index c.loop-entry-test.false c.loop-entry.invariant) others n role x
    ∙ ap (λ l. forks l others n role x) c.deref-entry-items.ensures.value
    ∙ c.in_order-list.ensures.any (λ e. fork_any others e n role x)

pub returns-clause-second : goal.returns-clause-second
returns-clause-second c =
    let es = c.deref-entry-items.result.now in
    λ here n role x.
    once_second es c.loop-entry.out.items (once_any es c.loop-entry.out.items (once_done es c.loop-entry.out.items c.loop-entry.entry-index c.loop-entry-test.false c.loop-entry.invariant)) here n role x
    ∙ ap (λ l. forks here l n role x) c.deref-entry-items.ensures.value
    ∙ any_second _ _ c.in_order-list.ensures.any here n role x
