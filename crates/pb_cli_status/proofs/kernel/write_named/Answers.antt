use Rattle.std.proofs.Common.{OnOk, OnErr, ℕ, List, subst}
use Rattle.std.specs.Prelude.{codes}
use Rattle.std.specs.Io.KnownBytes.{Appends}
use Rattle.pb_io.specs.Sinks.{AppendsFront}
use Rattle.pb_cli_status.proofs.Joined.{four}
use Rattle.pb_cli_status.proofs.kernel.write_named.Goals as goal

pub returns-clause-whole : goal.returns-clause-whole
returns-clause-whole g c =
    subst (λ (t : List ℕ). OnOk c.write_parts.result (Appends (g.O.Sink.taken c.args.out.now) (g.O.Sink.taken c.write_parts.new.out) t))
    (four (codes "pabble: kernel ") c.args.front.now c.args.name.now c.args.wrong.now) c.write_parts.ensures.whole

pub returns-clause-front : goal.returns-clause-front
returns-clause-front g c =
    subst (λ (t : List ℕ). OnErr c.write_parts.result (AppendsFront (g.O.Sink.taken c.args.out.now) (g.O.Sink.taken c.write_parts.new.out) t))
    (four (codes "pabble: kernel ") c.args.front.now c.args.name.now c.args.wrong.now) c.write_parts.ensures.front
