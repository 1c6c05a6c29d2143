-- Which two actions are one message.
use Rattle.std.specs.Prelude.{◌≡◌, ℕ, Bool, true, false, List, length, Option, Some, None, slice_get, slice_index_or}
use Rattle.pb_draw_log.specs.declared.entry.Deed.{Deed}
use Rattle.pb_draw_log.specs.declared.entry.Deed.TheVariants.{Choose, Run, Send, Recv, Enter, Leave}
use Rattle.pb_draw_log.specs.declared.entry.Step.{Step}
use Rattle.pb_draw_log.specs.declared.entry.Entry.{Entry}

-- what a list has at a place, and nothing behind its end
abbrev pub link : List (Option ℕ) → ℕ → Option ℕ
link links place = slice_index_or links place None

-- these deeds of two ranks are the ends of a message
pub data AreEndsOf (one other : ℕ) : Deed → Deed → Type 0 where
  sent : (to from : ℕ) → to ≡ other → from ≡ one → AreEndsOf one other (Send to) (Recv from)
  taken : (from to : ℕ) → from ≡ other → to ≡ one → AreEndsOf one other (Recv from) (Send to)

-- two steps are the ends of a message: a send and a receive of one label, each with the other's rank
pub record AreEnds (one other : Step) : Type 0 where
  pub ends : AreEndsOf one.rank other.rank one.deed other.deed
  pub name : one.name ≡ other.name

-- the actions at two places are the ends of one message, and each is the other's mate
pub record IsPair (entries : List Entry) (mates : List (Option ℕ)) (one other : ℕ) : Type 0 where
  pub first : Entry
  pub second : Entry
  pub at_one : slice_get entries one ≡ Some first
  pub at_other : slice_get entries other ≡ Some second
  pub ends : AreEnds first.step second.step
  pub back : link mates other ≡ Some one

-- each mate is one
abbrev pub ArePairs : List Entry → List (Option ℕ) → Type 0
ArePairs entries mates = (one other : ℕ) → link mates one ≡ Some other → IsPair entries mates one other

-- no two actions have one mate
abbrev pub AreSingle : List (Option ℕ) → Type 0
AreSingle mates = (one two other : ℕ) → link mates one ≡ Some other → link mates two ≡ Some other → one ≡ two
