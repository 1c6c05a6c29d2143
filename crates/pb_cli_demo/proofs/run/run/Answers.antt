use Rattle.std.proofs.Common.{sym, subst}
use Rattle.std.specs.Prelude.{IfOk, IfErr}
use Rattle.pb_cli_status.specs.Lines.{line_of, status_of}
use Rattle.pb_cli_demo.specs.Demo.{HasCounts, IsReply, IsTreeOf}
use Rattle.pb_cli_demo.proofs.Replies.{treeless}
use Rattle.pb_cli_demo.proofs.run.run.Goals as goal

pub simulated-requires-clause-compiled : goal.simulated-requires-clause-compiled
simulated-requires-clause-compiled g c = subst (λ s. IsTreeOf s c.in-Ok.tree) (sym c.from.ensures) c.in-Ok.ensures.tree

pub returns-in-Ok-clause-counts : goal.returns-in-Ok-clause-counts
returns-in-Ok-clause-counts g c =
    subst (λ s. IfOk c.simulated.result (HasCounts (λ r k w. g.A.Fn.post c.args.answers (s, (r, (k, tt))) w) s)) c.from.ensures c.simulated.ensures.counts

pub returns-in-Ok-clause-denied : goal.returns-in-Ok-clause-denied
returns-in-Ok-clause-denied g c =
    subst (λ s. IfErr c.simulated.result (λ why. IsReply (λ r k w. g.A.Fn.post c.args.answers (s, (r, (k, tt))) w) s (status_of why) (line_of why))) c.from.ensures c.simulated.ensures.denied

pub returns-in-Err-clause-denied : goal.returns-in-Err-clause-denied
returns-in-Err-clause-denied g c = treeless (λ r k w. g.A.Fn.post c.args.answers (c.args.count, (r, (k, tt))) w) c.args.count c.in-Err.why c.in-Err.ensures.denied
