use Rattle.std.proofs.Common.{OnOk, OnErr, ℕ, List, ◌∙◌, subst}
use Rattle.std.specs.Io.KnownBytes.{Appends}
use Rattle.pb_io.specs.Sinks.{AppendsFront}
use Rattle.pb_cli_status.proofs.Outside.{malformed_parts}
use Rattle.pb_cli_status.proofs.told.write_malformed.Goals as goal

pub returns-clause-whole : goal.returns-clause-whole
returns-clause-whole g c =
    subst (λ (t : List ℕ). OnOk c.write_parts.result (Appends (g.O.Sink.taken c.args.out.now) (g.O.Sink.taken c.write_parts.new.out) t))
    (malformed_parts c.args.line _ (c.as_bytes-number.ensures.value ∙ c.format.ensures.text)) c.write_parts.ensures.whole

pub returns-clause-front : goal.returns-clause-front
returns-clause-front g c =
    subst (λ (t : List ℕ). OnErr c.write_parts.result (AppendsFront (g.O.Sink.taken c.args.out.now) (g.O.Sink.taken c.write_parts.new.out) t))
    (malformed_parts c.args.line _ (c.as_bytes-number.ensures.value ∙ c.format.ensures.text)) c.write_parts.ensures.front
