-- Times that ascend, and what each follows from.
use Rattle.std.specs.Prelude.{◌≡◌, ℕ, ◌+◌, ◌<◌, Bool, true, false, List, length, Option, Some, None, slice_get, slice_index, nat_eq, if◌then◌else◌}
use Rattle.pb_draw_log.specs.declared.entry.Deed.{Deed}
use Rattle.pb_draw_log.specs.declared.entry.Deed.TheVariants.{Choose, Run, Send, Recv, Enter, Leave}
use Rattle.pb_draw_log.specs.declared.entry.Entry.{Entry}
use Rattle.pb_draw_times.specs.Pairs.{link, ArePairs}

abbrev pub is_recv : Deed → Bool
is_recv (Recv from) = true
is_recv (Choose branch) = false
is_recv Run = false
is_recv (Send to) = false
is_recv Enter = false
is_recv Leave = false

-- the receive at a place comes behind its send
abbrev pub Rises : List Entry → List (Option ℕ) → List ℕ → ℕ → Type 0
Rises entries mates times place = (entry : Entry) (mate : ℕ) → slice_get entries place ≡ Some entry → is_recv entry.step.deed ≡ true
    → link mates place ≡ Some mate → slice_index times mate < slice_index times place

-- each receive comes behind its send
abbrev pub AscendOnArrows : List Entry → List (Option ℕ) → List ℕ → Type 0
AscendOnArrows entries mates times = (place : ℕ) → place < length entries → Rises entries mates times place

-- the actions of one rank come one behind the other, up to a place
abbrev pub AscendBelow : List Entry → List ℕ → ℕ → Type 0
AscendBelow entries times end = (i j : ℕ) (a b : Entry) → i < j → j < end → slice_get entries i ≡ Some a → slice_get entries j ≡ Some b → a.step.rank ≡ b.step.rank
    → slice_index times i < slice_index times j

-- a rank's action comes behind its last one, and is its last from then on
pub record StepsUp (old new : ℕ → Option ℕ) (rank time : ℕ) : Type 0 where
  pub behind : (t : ℕ) → old rank ≡ Some t → t < time
  pub noted : (q : ℕ) → new q ≡ (if nat_eq q rank then Some time else old q)

-- the action at a place comes behind its rank's last one, and is its last from then on
pub record StepsAt (entries : List Entry) (times : List ℕ) (old new : ℕ → Option ℕ) (place : ℕ) : Type 0 where
  pub entry : Entry
  pub is : slice_get entries place ≡ Some entry
  pub up : StepsUp old new entry.step.rank (slice_index times place)

-- what is claimed of the messages and the times of actions
pub record AreSound (entries : List Entry) (mates : List (Option ℕ)) (times : List ℕ) : Type 0 where
  pub pairs : ArePairs entries mates
  pub arrows : AscendOnArrows entries mates times
  pub ranks : AscendBelow entries times (length entries)
