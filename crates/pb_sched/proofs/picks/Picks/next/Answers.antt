use Rattle.std.proofs.Common.{ℕ, ap}
use Rattle.rand_pcg.specs.Lcg.{Lcg}
use Rattle.pb_sched.proofs.Steps.{turn_more}
use Rattle.pb_sched.proofs.picks.Picks.next.Goals as goal

pub invariant_of-self : goal.invariant_of-self
invariant_of-self c =
    turn_more c.self.inside.seed c.self.inside.turn c.self.inside.words c.next_word-word.new.self c.next_word-second.new.self c.self.invariant
    (ap (λ (z : ℕ × Lcg). z.1) c.next_word-word.ensures) (ap (λ (z : ℕ × Lcg). z.1) c.next_word-second.ensures)
