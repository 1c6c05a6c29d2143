use Rattle.std.proofs.Common.{OnOk, OnErr, ℕ, List, ◌∙◌, subst}
use Rattle.std.specs.Io.KnownBytes.{Appends}
use Rattle.pb_io.specs.Sinks.{AppendsFront}
use Rattle.pb_cli_demo.proofs.Parts.{parts_are}
use Rattle.pb_cli_demo.proofs.summary.write_summary.Goals as goal

pub returns-clause-whole : goal.returns-clause-whole
returns-clause-whole g c =
    subst (λ (t : List ℕ). OnOk c.write_parts.result (Appends (g.O.Sink.taken c.args.out.now) (g.O.Sink.taken c.write_parts.new.out) t))
    (parts_are c.args.count c.args.counts.now _ _ _ _ _ _ _
    (c.as_bytes-statements.ensures.value ∙ c.format.ensures.text) (c.as_bytes-sends.ensures.value ∙ c.format-2.ensures.text) (c.as_bytes-receives.ensures.value ∙ c.format-3.ensures.text)
    (c.as_bytes-runs.ensures.value ∙ c.format-4.ensures.text) (c.as_bytes-enters.ensures.value ∙ c.format-5.ensures.text) (c.as_bytes-leaves.ensures.value ∙ c.format-6.ensures.text)
    (c.as_bytes-words.ensures.value ∙ c.format-7.ensures.text)) c.write_parts.ensures.whole

pub returns-clause-front : goal.returns-clause-front
returns-clause-front g c =
    subst (λ (t : List ℕ). OnErr c.write_parts.result (AppendsFront (g.O.Sink.taken c.args.out.now) (g.O.Sink.taken c.write_parts.new.out) t))
    (parts_are c.args.count c.args.counts.now _ _ _ _ _ _ _
    (c.as_bytes-statements.ensures.value ∙ c.format.ensures.text) (c.as_bytes-sends.ensures.value ∙ c.format-2.ensures.text) (c.as_bytes-receives.ensures.value ∙ c.format-3.ensures.text)
    (c.as_bytes-runs.ensures.value ∙ c.format-4.ensures.text) (c.as_bytes-enters.ensures.value ∙ c.format-5.ensures.text) (c.as_bytes-leaves.ensures.value ∙ c.format-6.ensures.text)
    (c.as_bytes-words.ensures.value ∙ c.format-7.ensures.text)) c.write_parts.ensures.front
