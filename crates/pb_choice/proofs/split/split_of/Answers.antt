use Rattle.std.proofs.Common.{◌++◌, ◌∙◌, inr, ap, refl, subst, sym}
use Rattle.pb_choice.specs.Senders.{AreCurrent}
use Rattle.pb_choice.proofs.Senders.{alike_appended, alike_of}
use Rattle.pb_choice.proofs.split.split_of.Goals as goal

pub returns-clause-current : goal.returns-clause-current
returns-clause-current c = λ h.
    let current = c.in_ok-current.current.items in
    let mine = c.in_ok-mine.mine.items in
    inr (alike_appended current mine c.add_entries.new.entries.items c.args.before.now c.args.here.now (c.in_ok-add_entries.ensures ∙ ap (λ l. current ++ l) c.deref-3.ensures.value)
    (c.in_ok-current.ensures (subst (λ v. AreCurrent v.items c.args.before.now) (sym c.replace-known.ensures.value) h))
    (alike_of mine c.args.here.now c.args.here.now refl c.in_ok-mine.ensures.small c.in_ok-mine.ensures.second))
