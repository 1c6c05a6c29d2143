-- What is seen of a simulation but for its answers.
use Rattle.std.specs.Prelude.{◌≡◌, ℕ, suc, ◌+◌, ◌*◌, ◌<◌, ◌≤◌, Bool, false, nat_lt, List, [], ◌∷◌, length, map, sum}
use Rattle.pb_world.specs.Actions.{Action, Choose, Run, Send, Recv, Enter, Leave}
use Rattle.pb_local.specs.Collectives.{words_of}
use Rattle.pb_chan.specs.Lists.{words_in}
use Rattle.pb_machine.specs.declared.act.Act.TheVariants as A
use Rattle.pb_machine.specs.declared.act.Next.{Next}
use Rattle.pb_machine.specs.declared.act.Next.TheVariants as N
use Rattle.pb_sim_ready.specs.Listed.{Lists}
use Rattle.pb_sim.specs.declared.counts.Counts.{Counts}
use Rattle.pb_sim.specs.declared.seen.Seen.{Seen}
use Rattle.pb_sim_world.specs.States.{program, total_of, stand}
use Rattle.pb_sim_world.specs.declared.state.State.{State}
use Rattle.pb_sim_world.specs.Worlds.{world_of}
use Rattle.pb_sim_world.specs.Can.{can}
use Rattle.pb_sim_world.specs.Sound.{IsState}
use Rattle.pb_sim_world.specs.Events.{IsEvent, IsAsked}
use Rattle.pb_sim.specs.Scheduled.{words_asked}

-- the counts once an action was done, and those once actions were done
abbrev pub counted : Action → Counts → Counts
counted (Choose kernel branches branch) c = record c { chooses = c.chooses + 1 }
counted (Run kernel) c = record c { runs = c.runs + 1 }
counted (Send to label words) c = record c { sends = c.sends + 1; words = c.words + length words }
counted (Recv from label words) c = record c { receives = c.receives + 1 }
counted (Enter joint words) c = record c { enters = c.enters + 1; words = c.words + length words }
counted (Leave joint words) c = record c { leaves = c.leaves + 1 }

abbrev pub counted_all : List Action → Counts → Counts
counted_all [] c = c
counted_all (a ∷ acts) c = counted_all acts (counted a c)

pub record AreFew (c : Counts) (steps : ℕ) : Type 0 where
  pub sends : c.sends ≤ steps
  pub receives : c.receives ≤ steps
  pub runs : c.runs ≤ steps
  pub chooses : c.chooses ≤ steps
  pub enters : c.enters ≤ steps
  pub leaves : c.leaves ≤ steps
  pub words : c.words ≤ 1024 * steps

-- what comes next is a send after which more words would be in flight than may be
abbrev pub is_too_much : Seen → Next → Bool
is_too_much x (N.Acts (A.Send to label)) = nat_lt 16777216 (words_in x.state.channels + words_of (program x.state) x.state.n label)
is_too_much x (N.Acts (A.Choose kernel branches)) = false
is_too_much x (N.Acts (A.Run kernel)) = false
is_too_much x (N.Acts (A.Recv from label)) = false
is_too_much x (N.Acts (A.Enter what root op)) = false
is_too_much x (N.Acts A.Leave) = false
is_too_much x N.Silent = false
is_too_much x (N.Waits from) = false
is_too_much x N.Ended = false
is_too_much x N.Lost = false
is_too_much x N.Undefined = false

-- the list of ready ranks is exact
pub record IsReadied (x : Seen) : Type 0 where
  pub state : IsState x.state
  pub total : x.ready.total ≡ total_of x.state
  pub exact : Lists x.ready (can x.state)

pub record IsSeen (x : Seen) : Type 0 where
  pub readied : IsReadied x
  pub few : AreFew x.counts x.steps
  pub asked : (r : ℕ) → r < total_of x.state → (stand x.state r).asked ≤ 1024 * x.steps

-- rank r has made one step more, which is these actions
pub record IsStepped (x : Seen) (r : ℕ) (acts : List Action) (y : Seen) : Type 0 where
  pub event : IsEvent x.state r acts y.state
  pub counts : y.counts ≡ counted_all acts x.counts
  pub steps : y.steps ≡ suc x.steps
  pub asked : IsAsked x.state r (sum (map words_asked acts)) y.state

-- the same world, tree and N, and what is kept of each rank
pub record IsKept (s t : State) : Type 0 where
  pub world : world_of t ≡ world_of s
  pub tree : t.tree ≡ s.tree
  pub n : t.n ≡ s.n
  pub stands : t.stands ≡ s.stands
  pub words : words_in t.channels ≡ words_in s.channels

-- all is as before
pub record IsUnchanged (x y : Seen) : Type 0 where
  pub state : IsKept x.state y.state
  pub ready : y.ready ≡ x.ready
  pub counts : y.counts ≡ x.counts
  pub steps : y.steps ≡ x.steps
