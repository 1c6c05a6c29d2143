-- Simulations that were played so far.
use Rattle.std.specs.Prelude.{◌≡◌, ℕ, suc, ◌<◌, ◌≤◌, ◌⊎◌, ℤ, Option, List, [], ◌∷◌, ◌++◌, length, map}
use Rattle.std.specs.List.{flat_map}
use Rattle.pb_text.specs.declared.action.Action.{Action as Told}
use Rattle.pb_text.specs.declared.action.Action.TheVariants as P
use Rattle.pb_world.specs.Actions.{Action, Choose, Run, Send, Recv, Enter, Leave}
use Rattle.pb_sim_collectives.specs.Calls.{joint_of}
use Rattle.pb_ctree.specs.declared.tree.CTree.{CTree}
use Rattle.pb_local.specs.Tree.{Program, program_of}
use Rattle.pb_local.specs.Family.{Sequence, family}
use Rattle.pb_sim_world.specs.States.{program}
use Rattle.pb_sim_world.specs.Worlds.{world_of}
use Rattle.pb_sched.specs.Logged.{log_line}
use Rattle.pb_sim.specs.declared.seen.Seen.{Seen}
use Rattle.pb_sim.specs.Scheduled.{Turn}
use Rattle.pb_sim.specs.Runs.{IsRun}
use Rattle.pb_sim_play.specs.Plans.{Source, May}

-- the simulation x of a tree for an N has made a run by the source: these events, which were these actions
pub record IsPlay (tree : CTree) (n : ℤ) (post : ℕ → ℕ → ℕ → Type 0) (source : Source) (turns : List Turn) (w : List (ℕ × Action)) (x : Seen) : Type 0 where
  pub tree_is : x.state.tree ≡ tree
  pub n_is : x.state.n ≡ n
  pub run : IsRun post (May tree n source) turns w x

-- an action of rank r as it is told
abbrev pub told : ℕ → Action → Told
told r (Choose kernel branches branch) = P.Choose r kernel branch
told r (Run kernel) = P.Run r kernel
told r (Send to label words) = P.Send r to label words
told r (Recv from label words) = P.Recv r from label words
told r (Enter joint words) = P.Enter r (joint_of joint) words
told r (Leave joint words) = P.Leave r (joint_of joint) words

abbrev pub line_of : Program → ℕ × Action → List ℕ
line_of p step = log_line p (told step.0 step.1)

-- the log of some actions: a line for each
abbrev pub log_of : Program → List (ℕ × Action) → List ℕ
log_of p w = flat_map (line_of p) w

-- the actions of one event of a rank
abbrev pub done_by : ℕ → List Action → List (ℕ × Action)
done_by r acts = map (λ a. (r, a)) acts
