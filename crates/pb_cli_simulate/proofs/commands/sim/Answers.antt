use Rattle.std.proofs.Common.{Err, ap, inl, inr}
use Rattle.pb_cli_simulate.proofs.commands.sim.Goals as goal

pub returns-in-Ok-clause-reply : goal.returns-in-Ok-clause-reply
returns-in-Ok-clause-reply g c = inr (c.in-Ok.tree, c.in-Ok.ensures.text, c.simulate_tree.ensures.told)

pub returns-in-Err-clause-reply : goal.returns-in-Err-clause-reply
returns-in-Err-clause-reply g c = inl (
  c.in-Err.why,
  record { kind = c.in-Err.ensures.kind; read = λ e. record { rose = c.in-Err.ensures.fault (ap Err e); unsure = c.in-Err.ensures.sure (ap Err e) }; untaken = c.in-Err.ensures.denied },
  c.refuse.ensures.said,
)
