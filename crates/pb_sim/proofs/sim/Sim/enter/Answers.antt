use Rattle.std.proofs.Common.{◌∷◌, ◌∙◌, ℕ, [], List, ap, refl, subst}
use Rattle.pb_text.specs.declared.action.Action.TheVariants as P
use Rattle.pb_world.specs.Actions.{Enter}
use Rattle.pb_sim_collectives.specs.Calls.{collective_of, call_of, joint_of}
use Rattle.pb_sim.specs.declared.outcomes.StepDone.TheVariants as D
use Rattle.pb_sim.specs.Seen.{IsStepped}
use Rattle.pb_sim.proofs.Exact.{unchanged_by, err_gives}
use Rattle.pb_sim.proofs.sim.Sim.enter.Goals as goal

pub returns-clause-made : goal.returns-clause-made
returns-clause-made g c = record {
  acts = Enter (collective_of (call_of c.args.what c.args.root c.args.op)) c.in_ok-words.words ∷ [];
  done_is = ap (λ w. D.Did (P.Enter c.args.rank w c.in_ok-words.words)) (c.what.ensures ∙ ap (λ d. joint_of (collective_of d)) c.of-call.ensures);
  stepped = subst (λ (ws : List ℕ). IsStepped c.args.self.now.held c.args.rank (Enter (collective_of (call_of c.args.what c.args.root c.args.op)) ws ∷ []) c.enter.new.self) c.in_ok-words.ensures.same c.in_ok-enter.ensures.stepped;
  mode = c.in_ok-enter.ensures.mode;
  answered = c.in_ok-words.ensures.words;
}

pub returns-in_err-words-clause-same : goal.returns-in_err-words-clause-same
returns-in_err-words-clause-same g c = err_gives _ _ (unchanged_by c.args.self.now.held c.args.self.now.held refl)

pub returns-in_err-enter-clause-same : goal.returns-in_err-enter-clause-same
returns-in_err-enter-clause-same g c = err_gives _ _ (unchanged_by c.args.self.now.held _ c.in_err-enter.ensures.same)
