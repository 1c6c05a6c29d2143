use Rattle.std.proofs.Common.{refl, ◌<◌, ◌∙◌, ◌∷◌, [], ℕ, ap, sym, subst, arith}
use Rattle.pb_world.specs.Actions.{Recv, Receives}
use Rattle.pb_sim_ready.specs.Kept.{put}
use Rattle.pb_sim_ready.specs.Listed.{Lists}
use Rattle.pb_sim_world.specs.declared.state.State.{State}
use Rattle.pb_sim_world.specs.States.{program, state_at, next_step, total_of}
use Rattle.pb_sim_world.specs.Can.{can}
use Rattle.pb_sim_world.specs.Sound.{IsState}
use Rattle.pb_sim.proofs.Exact.{total_kept, asked_many, seen_two, few_receive}
use Rattle.pb_sim_world.proofs.Near.{near}
use Rattle.pb_sim_world.proofs.Sending.{receive_next}
use Rattle.pb_sim.proofs.seen.Seen.receive.Goals as goal

pub refresh-requires-clause-total : goal.refresh-requires-clause-total
refresh-requires-clause-total c = c.requires.seen.readied.total ∙ sym (total_kept c.args.self.now.state c.receive-words.new.self c.args.rank (Recv c.args.from c.args.label c.receive-words.result ∷ []) c.receive-words.ensures.event.0)

pub refresh-requires-clause-there : goal.refresh-requires-clause-there
refresh-requires-clause-there c = subst (λ (k : ℕ). c.args.rank < k) (sym (total_kept c.args.self.now.state c.receive-words.new.self c.args.rank (Recv c.args.from c.args.label c.receive-words.result ∷ []) c.receive-words.ensures.event.0)) c.requires.may.there

pub refresh-requires-2-clause-sound : goal.refresh-requires-2-clause-sound
refresh-requires-2-clause-sound c = subst IsState (sym c.refresh.ensures.state) c.receive-words.ensures.event.0.sound

pub refresh-requires-2-clause-total : goal.refresh-requires-2-clause-total
refresh-requires-2-clause-total c = c.refresh.ensures.total ∙ c.requires.seen.readied.total ∙ sym (total_kept c.args.self.now.state c.receive-words.new.self c.args.rank (Recv c.args.from c.args.label c.receive-words.result ∷ []) c.receive-words.ensures.event.0) ∙ ap total_of (sym c.refresh.ensures.state)

pub refresh-requires-2-clause-there : goal.refresh-requires-2-clause-there
refresh-requires-2-clause-there c =
    subst (λ (u : State). c.args.from < total_of u) (sym c.refresh.ensures.state)
    (subst (λ (k : ℕ). c.args.from < k) (sym (total_kept c.args.self.now.state c.receive-words.new.self c.args.rank (Recv c.args.from c.args.label c.receive-words.result ∷ []) c.receive-words.ensures.event.0))
    (near (program c.args.self.now.state) c.args.self.now.state.n (state_at c.args.self.now.state c.args.rank) (Receives c.args.from c.args.label) (receive_next (next_step c.args.self.now.state c.args.rank) c.args.from c.args.label c.requires.may.next_is)))

pub returns-clause-stepped : goal.returns-clause-stepped
returns-clause-stepped c = (seen_two c.args.self.now c.refresh-2.new.self c.receive-words.new.self c.args.rank (Recv c.args.from c.args.label c.receive-words.result ∷ []) c.args.from c.refresh.new.self.ready c.requires.seen c.receive-words.ensures.event.0 c.receive-words.ensures.event.1
    (c.refresh-2.ensures.state ∙ c.refresh.ensures.state) (c.refresh-2.ensures.counts ∙ c.refresh.ensures.counts) (c.refresh-2.ensures.steps ∙ c.refresh.ensures.steps) (c.refresh-2.ensures.total ∙ c.refresh.ensures.total)
    c.refresh.ensures.ready
    (λ f h. subst (λ (u : State). Lists c.refresh-2.new.self.ready (put f c.args.from (can u c.args.from))) c.refresh.ensures.state (c.refresh-2.ensures.ready f h))
    (few_receive c.args.self.now.counts c.args.self.now.steps c.requires.seen.few c.args.from c.args.label c.receive-words.result)
    (asked_many c.args.self.now.state c.receive-words.new.self c.args.rank 0 (Recv c.args.from c.args.label c.receive-words.result ∷ []) c.receive-words.ensures.asked (omega arith) refl)).0

pub returns-clause-seen : goal.returns-clause-seen
returns-clause-seen c = (seen_two c.args.self.now c.refresh-2.new.self c.receive-words.new.self c.args.rank (Recv c.args.from c.args.label c.receive-words.result ∷ []) c.args.from c.refresh.new.self.ready c.requires.seen c.receive-words.ensures.event.0 c.receive-words.ensures.event.1
    (c.refresh-2.ensures.state ∙ c.refresh.ensures.state) (c.refresh-2.ensures.counts ∙ c.refresh.ensures.counts) (c.refresh-2.ensures.steps ∙ c.refresh.ensures.steps) (c.refresh-2.ensures.total ∙ c.refresh.ensures.total)
    c.refresh.ensures.ready
    (λ f h. subst (λ (u : State). Lists c.refresh-2.new.self.ready (put f c.args.from (can u c.args.from))) c.refresh.ensures.state (c.refresh-2.ensures.ready f h))
    (few_receive c.args.self.now.counts c.args.self.now.steps c.requires.seen.few c.args.from c.args.label c.receive-words.result)
    (asked_many c.args.self.now.state c.receive-words.new.self c.args.rank 0 (Recv c.args.from c.args.label c.receive-words.result ∷ []) c.receive-words.ensures.asked (omega arith) refl)).1
