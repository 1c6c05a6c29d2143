use Rattle.std.proofs.Common.{◌∷◌, [], ap}
use Rattle.pb_text.specs.declared.action.Action.TheVariants as P
use Rattle.pb_world.specs.Actions.{Leave}
use Rattle.pb_sim_collectives.specs.Calls.{collective_of}
use Rattle.pb_sim.specs.declared.outcomes.StepDone.TheVariants as D
use Rattle.pb_sim.proofs.Exact.{unchanged_by, err_gives}
use Rattle.pb_sim.proofs.sim.Sim.leave.Goals as goal

pub returns-clause-made : goal.returns-clause-made
returns-clause-made g c = λ mode. record {
  acts = Leave (collective_of c.in_ok-call.call) c.in_ok-call.words ∷ [];
  done_is = ap (λ w. D.Did (P.Leave c.args.rank w c.in_ok-call.words)) c.what.ensures;
  stepped = c.in_ok-call.ensures.stepped;
  mode = tt;
  answered = tt;
}

pub returns-in_err-call-clause-same : goal.returns-in_err-call-clause-same
returns-in_err-call-clause-same g c = err_gives _ _ (unchanged_by c.args.self.now.held _ c.in_err-call.ensures.same)
