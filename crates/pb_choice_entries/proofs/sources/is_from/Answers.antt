use Rattle.std.proofs.Common.{sym, subst, ◌∙◌}
use Rattle.pb_part_firsts.specs.declared.firsts.Kind.TheVariants.{Receive}
use Rattle.pb_choice_entries.specs.Repeats.{AreSameSender}
use Rattle.pb_choice_entries.proofs.Repeats.{same_sender}
use Rattle.pb_choice_entries.proofs.sources.is_from.Goals as goal

pub returns-in-Receive : goal.returns-in-Receive
returns-in-Receive c =
    λ h label. subst (λ k. AreSameSender (Receive c.args.source label) k) (sym c.in-Receive.is)
    (same_sender c.args.source c.in-Receive.from (sym c.is_same.ensures ∙ h) label c.in-Receive.label)
