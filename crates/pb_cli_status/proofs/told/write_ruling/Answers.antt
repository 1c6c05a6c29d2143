use Rattle.std.proofs.Common.{OnOk, OnErr, ℕ, List, ◌∙◌, subst}
use Rattle.std.specs.Io.KnownBytes.{Appends}
use Rattle.pb_io.specs.Sinks.{AppendsFront}
use Rattle.pb_cli_status.proofs.Outside.{ruling_parts}
use Rattle.pb_cli_status.proofs.told.write_ruling.Goals as goal

pub returns-clause-whole : goal.returns-clause-whole
returns-clause-whole g c =
    subst (λ (t : List ℕ). OnOk c.write_parts.result (Appends (g.O.Sink.taken c.args.out.now) (g.O.Sink.taken c.write_parts.new.out) t))
    (ruling_parts c.args.line c.args.rank _ _ c.args.what.now (c.as_bytes-line.ensures.value ∙ c.format.ensures.text) (c.as_bytes-rank.ensures.value ∙ c.format-2.ensures.text)) c.write_parts.ensures.whole

pub returns-clause-front : goal.returns-clause-front
returns-clause-front g c =
    subst (λ (t : List ℕ). OnErr c.write_parts.result (AppendsFront (g.O.Sink.taken c.args.out.now) (g.O.Sink.taken c.write_parts.new.out) t))
    (ruling_parts c.args.line c.args.rank _ _ c.args.what.now (c.as_bytes-line.ensures.value ∙ c.format.ensures.text) (c.as_bytes-rank.ensures.value ∙ c.format-2.ensures.text)) c.write_parts.ensures.front
