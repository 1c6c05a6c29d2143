-- What a rank says of the label that it reads.
use Rattle.std.proofs.Common.{◌≡◌, ◌<◌, ℕ, ℤ, ◌&&◌, Some, length, get_or, ap, sym, ◌∙◌, subst}
use Rattle.pb_world.specs.Machine as N
use Rattle.pb_chan.specs.Lists.{messages, label_of}
use Rattle.pb_local.specs.Family.{text_machine}
use Rattle.pb_machine.specs.declared.rank.Rank.{Rank}
use Rattle.pb_machine.specs.declared.act.Next.TheVariants as X
use Rattle.pb_machine.specs.Steps.{Shown, going, shown, param_of, is_there, is_waiting, takes_shown}
use Rattle.pb_sim_world.specs.declared.state.State.{State}
use Rattle.pb_sim_world.specs.States.{program, total_of, state_at, next_step, next_at}
use Rattle.pb_sim_world.specs.Can.{reads, can_read}
use Rattle.pb_sim_world.specs.Sound.{IsState}
use Rattle.pb_sim_world.proofs.Advancing.{at_rank, shown_at}
use Rattle.pb_sim_world.proofs.Alone.{probe_next}

pub takes_reads : (s : State) (r : ℕ) (x : Rank) (from label : ℕ) → IsState s → r < total_of s → x ≡ get_or s.ranks.items r x → next_at s r ≡ X.Waits from → Some label ≡ label_of (messages s.channels from r) → takes_shown (program s) (param_of x) (shown s.tree x) label ≡ can_read s r (state_at s r) from
takes_reads s r x from label sound h e next head =
    let l : r < length s.ranks.items = subst (λ (k : ℕ). r < k) (sym sound.ranks) h in
    let p = at_rank s r x sound.each l e in
    let g : shown s.tree x ≡ going (state_at s r) = shown_at s r x sound.each l e in
    ap (λ (n : ℤ). takes_shown (program s) n (shown s.tree x) label) p.0.param ∙ ap (λ (v : Shown). takes_shown (program s) s.n v label) g
    ∙ ap (λ (y : N.Next). is_waiting y && is_there ((text_machine (program s) s.n).read (state_at s r) label)) (probe_next (next_step s r) from next)
    ∙ ap (reads s (state_at s r)) head
