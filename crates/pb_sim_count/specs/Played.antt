-- Events that were made one after the other, with their counts.
use Rattle.std.specs.Prelude.{◌≡◌, ℕ, suc, ◌<◌, ◌≤◌, ◌⊎◌, ℤ, List, length, Result, Ok, Err}
use Rattle.pb_text.specs.declared.mode.Mode.TheVariants.{Eager}
use Rattle.pb_world.specs.Actions.{Action}
use Rattle.pb_ctree.specs.declared.tree.CTree.{CTree}
use Rattle.pb_cli_words.specs.declared.options.Modes.TheVariants.{Each}
use Rattle.pb_sim.specs.Scheduled.{Turn}
use Rattle.pb_sim.specs.declared.seen.Seen.{Seen}
use Rattle.pb_sim_play.specs.Endings.{IsFull, IsStill, Ran}
use Rattle.pb_sim_play.specs.Plans.{Source, drawn}
use Rattle.pb_sim_play.specs.Plays.{IsPlay}
use Rattle.pb_sim_count.specs.Counted.{counts_of}
use Rattle.pb_sim_count.specs.declared.playing.Stop.{Stop}
use Rattle.pb_sim_count.specs.declared.playing.Stop.TheVariants as T

-- the draws of a seed, each event eager
abbrev pub eager : ℕ → Source
eager seed = drawn seed (Each Eager)

module _ (tree : CTree) (n : ℤ) (post : ℕ → ℕ → ℕ → Type 0) (source : Source) where
  -- a simulation has made so many events, and counts what was done
  pub record HasMade (count : ℕ) (x : Seen) : Type 0 where
    pub turns : List Turn
    pub w : List (ℕ × Action)
    pub play : IsPlay tree n post source turns w x
    pub count_is : length turns ≡ count
    pub counts_are : x.counts ≡ counts_of w

  -- it has made them, and the next is a send of too many words
  abbrev pub IsFilled : ℕ → Type 0
  IsFilled count = (x : Seen) × ((made : HasMade count x) × IsFull tree n source count made.w x)

  -- it has gone on by one event, or there is none
  abbrev pub HasGone : ℕ → Seen → Result (Unit {0}) Stop → Type 0
  HasGone count y (Ok one) = HasMade (suc count) y
  HasGone count y (Err T.Made) = HasMade count y × IsStill y
  HasGone count y (Err T.Full) = IsFilled count
  HasGone count y (Err T.NoMemory) = Unit {0}

  -- all events were made, or as many as there are
  abbrev pub HasAll : ℕ → Seen → Type 0
  HasAll most y = (count : ℕ) × (count ≤ most) × HasMade count y × ((count ≡ most) ⊎ IsStill y)

  abbrev pub HasStopped : ℕ → Seen → Stop → Type 0
  HasStopped most y T.Made = HasAll most y
  HasStopped most y T.Full = Ran tree n post source most (λ turns w x. (length turns < most) × IsFull tree n source (length turns) w x)
  HasStopped most y T.NoMemory = Unit {0}
