use Rattle.std.proofs.Common.{refl, ◌<◌, ◌∙◌, [], ℕ, sym, subst}
use Rattle.pb_sim.proofs.Exact.{total_kept, asked_none, seen_one, few_silent}
use Rattle.pb_sim.proofs.seen.Seen.silent.Goals as goal

pub refresh-requires-clause-total : goal.refresh-requires-clause-total
refresh-requires-clause-total c = c.requires.seen.readied.total ∙ sym (total_kept c.args.self.now.state c.silent.new.self c.args.rank [] c.silent.ensures.event.0)

pub refresh-requires-clause-there : goal.refresh-requires-clause-there
refresh-requires-clause-there c = subst (λ (k : ℕ). c.args.rank < k) (sym (total_kept c.args.self.now.state c.silent.new.self c.args.rank [] c.silent.ensures.event.0)) c.requires.may.there

pub returns-clause-stepped : goal.returns-clause-stepped
returns-clause-stepped c = (seen_one c.args.self.now c.refresh.new.self c.silent.new.self c.args.rank [] c.requires.seen c.silent.ensures.event.0 c.silent.ensures.event.1 c.refresh.ensures.state c.refresh.ensures.counts c.refresh.ensures.steps c.refresh.ensures.total c.refresh.ensures.ready (few_silent c.args.self.now.counts c.args.self.now.steps c.requires.seen.few) (asked_none c.args.self.now.state c.silent.new.self c.args.rank [] c.silent.ensures.stands refl)).0

pub returns-clause-seen : goal.returns-clause-seen
returns-clause-seen c = (seen_one c.args.self.now c.refresh.new.self c.silent.new.self c.args.rank [] c.requires.seen c.silent.ensures.event.0 c.silent.ensures.event.1 c.refresh.ensures.state c.refresh.ensures.counts c.refresh.ensures.steps c.refresh.ensures.total c.refresh.ensures.ready (few_silent c.args.self.now.counts c.args.self.now.steps c.requires.seen.few) (asked_none c.args.self.now.state c.silent.new.self c.args.rank [] c.silent.ensures.stands refl)).1
