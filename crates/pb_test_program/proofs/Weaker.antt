-- What is told of a simulation whose answers have one relation is told of one whose answers have a weaker one.
use Rattle.std.proofs.Common.{◌≡◌, ℕ, ◌+◌, ◌<◌, ◌⊎◌, inl, inr, ℤ, pos, List, [], ◌∷◌, Option}
use Rattle.pb_world.specs.Actions.{Action, Choose, Run, Send, Recv, Enter, Leave}
use Rattle.pb_world.specs.Family.{Family}
use Rattle.pb_world.specs.World.{World}
use Rattle.pb_ctree.specs.declared.tree.CTree.{CTree}
use Rattle.pb_cli_words.specs.declared.options.Shown.{Shown}
use Rattle.pb_cli_status.specs.declared.status.Status.{Status}
use Rattle.pb_cli_status.specs.declared.status.Status.TheVariants as S
use Rattle.pb_sim.specs.Done.{AreWords, AreAnswered}
use Rattle.pb_sim.specs.Scheduled.{Turn, Turned, ScheduledRun, start, event}
use Rattle.pb_sim.specs.Runs.{IsRun}
use Rattle.pb_sim.specs.declared.seen.Seen.{Seen}
use Rattle.pb_sim_play.specs.Plans.{Source}
use Rattle.pb_sim_play.specs.Plays.{IsPlay}
use Rattle.pb_sim_play.specs.Endings.{Ran, EndsWith}
use Rattle.pb_sim_play.specs.declared.ending.Ending.{Ending}
use Rattle.pb_sim_play.specs.declared.ending.Ending.TheVariants as E
use Rattle.pb_cli_simulate.specs.Replies.{IsTold, IsReply, SaysReply}

module _ (P Q : ℕ → ℕ → ℕ → Type 0) (weaker : (r k word : ℕ) → P r k word → Q r k word) where
  answers : (r first : ℕ) (acts : List Action) → AreAnswered P r first acts → AreAnswered Q r first acts
  answers r first [] h = h
  answers r first (Choose kernel branches branch ∷ acts) h = (h.0, weaker r first h.0 h.1, h.2)
  answers r first (Run kernel ∷ acts) h = h
  answers r first (Send to label words ∷ acts) h = λ k less. weaker _ _ _ (h k less)
  answers r first (Recv from label words ∷ acts) h = h
  answers r first (Enter joint words ∷ acts) h = λ k less. weaker _ _ _ (h k less)
  answers r first (Leave joint words ∷ acts) h = h

  turned : {S : Type 0} (F : Family S) (w : List (ℕ × Action)) (W : World S) (turn : Turn) (acts : List Action) (V : World S)
      → Turned F P w W turn acts V → Turned F Q w W turn acts V
  turned F w W turn acts V h = record { step = h.step; mode = h.mode; words = answers _ _ acts h.words }

  scheduled : {S : Type 0} (F : Family S) (may : ℕ → World S → Turn → Type 0) (turns : List Turn) (w : List (ℕ × Action)) (W : World S)
      → ScheduledRun F P may turns w W → ScheduledRun F Q may turns w W
  scheduled F may _ _ _ start = start
  scheduled F may _ _ _ (event before is by) = event (scheduled F may _ _ _ before) is (turned F _ _ _ _ _ by)

  played : (tree : CTree) (n : ℤ) (source : Source) (turns : List Turn) (w : List (ℕ × Action)) (x : Seen)
      → IsPlay tree n P source turns w x → IsPlay tree n Q source turns w x
  played tree n source turns w x h = record {
    tree_is = h.tree_is;
    n_is = h.n_is;
    run = record {
      run = λ sequence. scheduled _ _ _ _ _ (h.run.run sequence);
      asked = h.run.asked;
      steps = h.run.steps;
      flight = h.run.flight;
      within = h.run.within;
    };
  }

  ran : (tree : CTree) (n : ℤ) (source : Source) (most : ℕ) (X : List Turn → List (ℕ × Action) → Seen → Type 0)
      → Ran tree n P source most X → Ran tree n Q source most X
  ran tree n source most X h =
      record { turns = h.turns; w = h.w; x = h.x; play = played _ _ _ _ _ _ h.play; few = h.few; is = h.is }

  ends : (tree : CTree) (n : ℤ) (source : Source) (most : ℕ) (shown : Shown) (seed : ℕ) (ending : Ending) (text : List ℕ)
      → EndsWith tree n P source most shown seed ending text → EndsWith tree n Q source most shown seed ending text
  ends tree n source most shown seed E.Ended text h = ran _ _ _ _ _ h
  ends tree n source most shown seed (E.Stuck rank cause) text h = ran _ _ _ _ _ h
  ends tree n source most shown seed E.Turns text h = ran _ _ _ _ _ h
  ends tree n source most shown seed (E.Refused t) text h = ran _ _ _ _ _ h
  ends tree n source most shown seed E.Full text h = ran _ _ _ _ _ h
  ends tree n source most shown seed E.NoMemory text h = ran _ _ _ _ _ h
  ends tree n source most shown seed E.WriteFault text h = h

  module _ (tree : CTree) (n : ℕ) (source : Source) (most : ℕ) (shown : Shown) (seed : ℕ) where
    told : (ending : Ending) (text : List ℕ) → IsTold tree n P source most shown seed ending text
        → IsTold tree n Q source most shown seed ending text
    told ending text h = (h.0, (h.1.0, ends _ _ _ _ _ _ ending _ h.1.1, h.1.2))

    reply : (status : Status) (text : List ℕ) → IsReply tree n P source most shown seed status text
        → IsReply tree n Q source most shown seed status text
    reply S.Done text h = told E.Ended text h
    reply S.Stuck text h = (h.0, h.1, told (E.Stuck h.0 h.1) text h.2)
    reply S.Turns text h = told E.Turns text h
    reply S.Schedule text h = (h.0, told (E.Refused h.0) text h.1)
    reply S.Limit text (inl h) = inl (told E.Full text h)
    reply S.Limit text (inr h) = inr h
    reply S.OutOfRange text h = h
    reply S.NoMemory text (inl h) = inl h
    reply S.NoMemory text (inr h) = inr (told E.NoMemory text h)
    reply S.Refused text h = h
    reply S.Usage text h = h
    reply S.ReadFault text h = h
    reply S.WriteFault text h = h
    reply S.Kernel text h = h
    reply S.Text text h = h
    reply S.CallFault text h = h
    reply S.StripFault text h = h
    reply S.CostFault text h = h
    reply S.NotCovered text h = h
    reply S.Log text h = h

    pub says : (result : Status) (old new : Option (List ℕ)) → SaysReply tree n P source most shown seed result old new
        → SaysReply tree n Q source most shown seed result old new
    says result old new (inl h) = inl (h.0, h.1, reply h.0 h.1 h.2, h.3)
    says result old new (inr h) = inr (h.0, (h.1.0, h.1.1, ran _ _ _ _ _ h.1.2, h.1.3))
