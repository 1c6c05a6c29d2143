use Rattle.std.proofs.Common.{refl, ◌<◌, ◌∙◌, ◌∷◌, [], ℕ, sym, subst, arith}
use Rattle.pb_world.specs.Actions.{Choose}
use Rattle.pb_sim.proofs.Exact.{total_kept, asked_many, seen_one, few_choose}
use Rattle.pb_sim.proofs.seen.Seen.choose.Goals as goal

pub refresh-requires-clause-total : goal.refresh-requires-clause-total
refresh-requires-clause-total c = c.requires.seen.readied.total ∙ sym (total_kept c.args.self.now.state c.choose.new.self c.args.rank (Choose c.args.kernel c.args.branches c.args.branch ∷ []) c.choose.ensures.event.0)

pub refresh-requires-clause-there : goal.refresh-requires-clause-there
refresh-requires-clause-there c = subst (λ (k : ℕ). c.args.rank < k) (sym (total_kept c.args.self.now.state c.choose.new.self c.args.rank (Choose c.args.kernel c.args.branches c.args.branch ∷ []) c.choose.ensures.event.0)) c.requires.may.there

pub returns-clause-stepped : goal.returns-clause-stepped
returns-clause-stepped c = (seen_one c.args.self.now c.refresh.new.self c.choose.new.self c.args.rank (Choose c.args.kernel c.args.branches c.args.branch ∷ []) c.requires.seen c.choose.ensures.event.0 c.choose.ensures.event.1 c.refresh.ensures.state c.refresh.ensures.counts c.refresh.ensures.steps c.refresh.ensures.total c.refresh.ensures.ready (few_choose c.args.self.now.counts c.args.self.now.steps c.requires.seen.few c.args.kernel c.args.branches c.args.branch) (asked_many c.args.self.now.state c.choose.new.self c.args.rank 1 (Choose c.args.kernel c.args.branches c.args.branch ∷ []) c.choose.ensures.asked (omega arith) refl)).0

pub returns-clause-seen : goal.returns-clause-seen
returns-clause-seen c = (seen_one c.args.self.now c.refresh.new.self c.choose.new.self c.args.rank (Choose c.args.kernel c.args.branches c.args.branch ∷ []) c.requires.seen c.choose.ensures.event.0 c.choose.ensures.event.1 c.refresh.ensures.state c.refresh.ensures.counts c.refresh.ensures.steps c.refresh.ensures.total c.refresh.ensures.ready (few_choose c.args.self.now.counts c.args.self.now.steps c.requires.seen.few c.args.kernel c.args.branches c.args.branch) (asked_many c.args.self.now.state c.choose.new.self c.args.rank 1 (Choose c.args.kernel c.args.branches c.args.branch ∷ []) c.choose.ensures.asked (omega arith) refl)).1
