-- The world that is simulated.
use Rattle.std.specs.Prelude.{ℕ, Bool, true, false, not, ◌&&◌, if◌then◌else◌, nat_eq, Option, Some, None, List, [], ◌∷◌}
use Rattle.pb_text.specs.declared.mode.Mode.{Mode}
use Rattle.pb_text.specs.declared.mode.Mode.TheVariants.{Eager, Waiting}
use Rattle.pb_world.specs.Counted.{Counted}
use Rattle.pb_world.specs.World as W
use Rattle.pb_local.specs.Machine as M
use Rattle.pb_chan.specs.declared.message.Message.{Message}
use Rattle.pb_chan.specs.Lists.{messages}
use Rattle.pb_sim_collectives.specs.Joined.{entries}
use Rattle.pb_sim_world.specs.declared.stand.Waits.{Waits}
use Rattle.pb_sim_world.specs.declared.state.State.{State}
use Rattle.pb_sim_world.specs.States.{stand, state_at}

-- it waits for this receiver
abbrev pub is_to : Option Waits → ℕ → Bool
is_to None q = false
is_to (Some w) q = nat_eq w.by q

abbrev pub mode_if : Bool → Mode
mode_if true = Waiting
mode_if false = Eager

-- only the last message of a list may keep its sender waiting
abbrev pub mode_before : Bool → List Message → Mode
mode_before b [] = mode_if b
mode_before b (m ∷ ms) = Eager

abbrev pub moded : Bool → List Message → List W.Message
moded b [] = []
moded b (m ∷ ms) = record { label = m.label; words = m.words; mode = mode_before b ms } ∷ moded b ms

abbrev pub world_of : State → W.World (Counted M.Rank)
world_of s = record {
  state = state_at s;
  channel = λ p q. moded (is_to (stand s p).waits q) (messages s.channels p q);
  entered = λ r. entries s.joins r;
  left = λ r. (stand s r).left;
  mode = λ r. (stand s r).mode;
}

-- what a sender waits for
abbrev pub waits_for : Mode → ℕ → ℕ → Option Waits
waits_for Eager by label = None
waits_for Waiting by label = Some (record { by = by; label = label })

-- it waits for a message with this label to this receiver
abbrev pub is_for : Option Waits → ℕ → ℕ → Bool
is_for None by label = false
is_for (Some w) by label = nat_eq w.by by && nat_eq w.label label

-- once a message with the label was taken by the receiver, and where one is left
abbrev pub released : Option Waits → ℕ → ℕ → Bool → Option Waits
released w by label left = if is_for w by label && not left then None else w
