use Rattle.std.proofs.Common.{◌∷◌, ℕ, [], List, refl, subst}
use Rattle.pb_world.specs.Actions.{Send}
use Rattle.pb_sim_world.specs.Worlds.{world_of}
use Rattle.pb_sim.specs.Scheduled.{IsInMode}
use Rattle.pb_sim.specs.Seen.{IsStepped}
use Rattle.pb_sim.proofs.Exact.{unchanged_by, err_gives}
use Rattle.pb_sim.proofs.sim.Sim.send.Goals as goal

pub returns-clause-made : goal.returns-clause-made
returns-clause-made g c = record {
  acts = Send c.args.to c.args.label c.in_ok-words.words ∷ [];
  done_is = refl;
  stepped = subst (λ (ws : List ℕ). IsStepped c.args.self.now.held c.args.rank (Send c.args.to c.args.label ws ∷ []) c.send.new.self) c.in_ok-words.ensures.same c.in_ok-send.ensures.stepped;
  mode = subst (λ (ws : List ℕ). IsInMode c.args.mode c.args.rank (Send c.args.to c.args.label ws ∷ []) (world_of c.send.new.self.state)) c.in_ok-words.ensures.same c.in_ok-send.ensures.mode;
  answered = c.in_ok-words.ensures.words;
}

pub returns-in_err-words-clause-same : goal.returns-in_err-words-clause-same
returns-in_err-words-clause-same g c = err_gives _ _ (unchanged_by c.args.self.now.held c.args.self.now.held refl)
