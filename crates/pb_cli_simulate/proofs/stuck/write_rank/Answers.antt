use Rattle.std.proofs.Common.{OnOk, OnErr, ℕ, List, [], ◌∷◌, ◌∙◌, subst}
use Rattle.std.specs.Prelude.{codes, decimal}
use Rattle.std.specs.Io.KnownBytes.{Appends}
use Rattle.pb_io.specs.Sinks.{AppendsFront}
use Rattle.pb_cli_simulate.specs.Endings.{joined}
use Rattle.pb_cli_simulate.proofs.stuck.write_rank.Goals as goal

pub returns-clause-whole : goal.returns-clause-whole
returns-clause-whole g c =
    subst (λ (t : List ℕ). OnOk c.write_parts.result (Appends (g.O.Sink.taken c.args.out.now) (g.O.Sink.taken c.write_parts.new.out) (joined (codes "pabble: stuck, rank " ∷ t ∷ codes " " ∷ []))))
    (c.as_bytes-number.ensures.value ∙ c.format.ensures.text) c.write_parts.ensures.whole

pub returns-clause-front : goal.returns-clause-front
returns-clause-front g c =
    subst (λ (t : List ℕ). OnErr c.write_parts.result (AppendsFront (g.O.Sink.taken c.args.out.now) (g.O.Sink.taken c.write_parts.new.out) (joined (codes "pabble: stuck, rank " ∷ t ∷ codes " " ∷ []))))
    (c.as_bytes-number.ensures.value ∙ c.format.ensures.text) c.write_parts.ensures.front
