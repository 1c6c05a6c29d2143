use Rattle.std.proofs.Common.{◌∷◌, ◌%◌, ℕ, [], refl, subst}
use Rattle.pb_world.specs.Actions.{Choose}
use Rattle.pb_sim.proofs.sim.Sim.choose.Goals as goal

pub returns-clause-made : goal.returns-clause-made
returns-clause-made g c = λ mode. record {
  acts = Choose c.args.kernel c.args.branches (c.word.result % c.args.branches) ∷ [];
  done_is = refl;
  stepped = c.choose.ensures;
  mode = tt;
  answered = (c.word.result, subst (λ (k : ℕ). g.A.Fn.post c.args.self.now.answers.answer (c.args.self.now.answers.seed, (c.args.rank, (k, tt))) c.word.result) c.asked-asked.ensures.asked c.word.ensures, refl);
}
