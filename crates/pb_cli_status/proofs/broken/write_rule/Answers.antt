use Rattle.std.proofs.Common.{OnOk, OnErr, ℕ, List, ◌∙◌, subst}
use Rattle.std.specs.Io.KnownBytes.{Appends}
use Rattle.pb_io.specs.Sinks.{AppendsFront}
use Rattle.pb_cli_status.proofs.Outside.{rule_parts}
use Rattle.pb_cli_status.proofs.broken.write_rule.Goals as goal

pub returns-clause-whole : goal.returns-clause-whole
returns-clause-whole g c =
    subst (λ (t : List ℕ). OnOk c.write_parts.result (Appends (g.O.Sink.taken c.args.out.now) (g.O.Sink.taken c.write_parts.new.out) t))
    (rule_parts c.args.rule c.args.place _ _ _ (c.as_bytes-kind.ensures.value ∙ c.format.ensures.text) (c.as_bytes-line.ensures.value ∙ c.format-2.ensures.text) (c.as_bytes-col.ensures.value ∙ c.format-3.ensures.text)) c.write_parts.ensures.whole

pub returns-clause-front : goal.returns-clause-front
returns-clause-front g c =
    subst (λ (t : List ℕ). OnErr c.write_parts.result (AppendsFront (g.O.Sink.taken c.args.out.now) (g.O.Sink.taken c.write_parts.new.out) t))
    (rule_parts c.args.rule c.args.place _ _ _ (c.as_bytes-kind.ensures.value ∙ c.format.ensures.text) (c.as_bytes-line.ensures.value ∙ c.format-2.ensures.text) (c.as_bytes-col.ensures.value ∙ c.format-3.ensures.text)) c.write_parts.ensures.front
