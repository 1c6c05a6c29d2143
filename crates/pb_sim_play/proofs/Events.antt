-- One event more is played.
use Rattle.std.proofs.Common.{◌≡◌, ℕ, ℤ, suc, ◌+◌, ◌≤◌, ◌⊎◌, inl, inr, List, [], ◌∷◌, ◌++◌, Option, refl, sym, ap, subst, ◌∙◌, length, length-append, append-nil, arith, true}
use Rattle.pb_io.specs.Sinks.{AppendsFront}
use Rattle.pb_world.specs.Actions.{Action, Choose, Run, Send, Recv, Enter, Leave}
use Rattle.pb_world.specs.Family.{Family}
use Rattle.pb_world.specs.World as W
use Rattle.pb_local.specs.Tree.{Program, program_of}
use Rattle.pb_local.specs.Family.{Sequence, family}
use Rattle.pb_ctree.specs.declared.tree.CTree.{CTree}
use Rattle.pb_sim_world.specs.States.{program}
use Rattle.pb_sim_world.specs.Worlds.{world_of}
use Rattle.pb_sched.specs.declared.schedule.Turn as D
use Rattle.pb_sim.specs.declared.outcomes.StepDone.{StepDone}
use Rattle.pb_sim.specs.declared.outcomes.StepFault.TheVariants as F
use Rattle.pb_sim.specs.declared.seen.Seen.{Seen}
use Rattle.pb_sim.specs.Done.{done_of}
use Rattle.pb_sim.specs.Made.{IsMade, HasStep, IsTooMuch}
use Rattle.pb_sim.specs.Scheduled.{Turn}
use Rattle.pb_sim.proofs.Runs.{goes_on, one_action}
use Rattle.pb_sim_play.specs.declared.record.Record.{Record}
use Rattle.pb_sim_play.specs.Plans.{Source, May, pair_of}
use Rattle.pb_sim_play.specs.Plays.{IsPlay, log_of, done_by}
use Rattle.pb_sim_play.specs.Records.{done_line, Holds, HasPlayed}
use Rattle.pb_cli_words.specs.declared.options.Shown.{Shown}
use Rattle.pb_sim_play.specs.Endings.{Ran, part_of, HasBroken}

line_of_one : (p : Program) (r : ℕ) (a : Action) → done_line p (done_of r (a ∷ [])) ≡ log_of p (done_by r (a ∷ []))
line_of_one p r (Choose kernel branches branch) = sym (append-nil _)
line_of_one p r (Run kernel) = sym (append-nil _)
line_of_one p r (Send to label words) = sym (append-nil _)
line_of_one p r (Recv from label words) = sym (append-nil _)
line_of_one p r (Enter joint words) = sym (append-nil _)
line_of_one p r (Leave joint words) = sym (append-nil _)

line_of_acts : (p : Program) (r : ℕ) (acts : List Action) → (acts ≡ []) ⊎ ((a : Action) × (acts ≡ a ∷ [])) → done_line p (done_of r acts) ≡ log_of p (done_by r acts)
line_of_acts p r acts (inl e) = subst (λ l. done_line p (done_of r l) ≡ log_of p (done_by r l)) (sym e) refl
line_of_acts p r acts (inr (a, e)) = subst (λ l. done_line p (done_of r l) ≡ log_of p (done_by r l)) (sym e) (line_of_one p r a)

some_sequence : Sequence
some_sequence = record { run = λ A k. []; over = λ A k. true }

module _ (post : ℕ → ℕ → ℕ → Type 0) (x : Seen) (turn : Turn) (done : StepDone) (y : Seen) (made : IsMade post x turn done y) where
  pub line_is : (p : Program) → done_line p done ≡ log_of p (done_by turn.0 made.acts)
  line_is p =
      ap (done_line p) made.done_is
      ∙ line_of_acts p turn.0 made.acts (one_action (family (program x.state) x.state.n some_sequence) (world_of x.state) turn.0 made.acts (world_of y.state) (made.stepped.event.step some_sequence))

  module _ (tree : CTree) (n : ℤ) (source : Source) where
    pub play_on : (turns : List Turn) (w : List (ℕ × Action)) → IsPlay tree n post source turns w x → May tree n source (length turns) (world_of x.state) turn
        → IsPlay tree n post source (turns ++ turn ∷ []) (w ++ done_by turn.0 made.acts) y
    play_on turns w play may = record {
      tree_is = made.stepped.event.tree ∙ play.tree_is;
      n_is = made.stepped.event.n ∙ play.n_is;
      run = goes_on post (May tree n source) turns w x y turn done play.run may made;
    }

one_longer : (turns : List Turn) (turn : Turn) (k : ℕ) → length turns ≡ k → length (turns ++ turn ∷ []) ≡ suc k
one_longer turns turn k e = length-append turns (turn ∷ []) ∙ omega (arith, e)

module _ (tree : CTree) (n : ℤ) (post : ℕ → ℕ → ℕ → Type 0) (source : Source) (start : Option (List ℕ)) (k : ℕ) (x y : Seen) (kept after : Record) (now later : Option (List ℕ)) (turn : D.Turn) (done : StepDone) (own : CTree) (same : own ≡ tree)
    (may : May tree n source k (world_of x.state) (pair_of turn)) (played : HasPlayed tree n post source start k x kept now) (made : IsMade post x (pair_of turn) done y) where
  event_may : May tree n source (length played.turns) (world_of x.state) (pair_of turn)
  event_may = subst (λ (t : ℕ). May tree n source t (world_of x.state) (pair_of turn)) (sym played.count_is) may

  held : Holds start kept now (program_of own.local) played.turns played.w
  held = subst (λ (t : CTree). Holds start kept now (program_of t.local) played.turns played.w) (sym same) played.holds

  pub event_made : ((start : Option (List ℕ)) (turns : List Turn) (w v : List (ℕ × Action)) → done_line (program_of own.local) done ≡ log_of (program_of own.local) v
      → Holds start kept now (program_of own.local) turns w → Holds start after later (program_of own.local) (turns ++ pair_of turn ∷ []) (w ++ v))
      → HasPlayed tree n post source start (suc k) y after later
  event_made added = record {
    turns = played.turns ++ pair_of turn ∷ [];
    w = played.w ++ done_by turn.rank made.acts;
    play = play_on post x (pair_of turn) done y made tree n source played.turns played.w played.play event_may;
    count_is = one_longer played.turns (pair_of turn) k played.count_is;
    holds = subst (λ (t : CTree). Holds start after later (program_of t.local) (played.turns ++ pair_of turn ∷ []) (played.w ++ done_by turn.rank made.acts)) same
        (added start played.turns played.w (done_by turn.rank made.acts) (line_is post x (pair_of turn) done y made (program_of own.local)) held);
  }

  pub event_lost : ((start : Option (List ℕ)) (turns : List Turn) (w : List (ℕ × Action)) → Holds start kept now (program_of own.local) turns w → Holds start after later (program_of own.local) turns w)
      → HasPlayed tree n post source start k x after later
  event_lost stays = record {
    turns = played.turns;
    w = played.w;
    play = played.play;
    count_is = played.count_is;
    holds = subst (λ (t : CTree). Holds start after later (program_of t.local) played.turns played.w) same (stays start played.turns played.w held);
  }

  pub event_broken : (shown : Shown) → ((start : Option (List ℕ)) (turns : List Turn) (w v : List (ℕ × Action)) → done_line (program_of own.local) done ≡ log_of (program_of own.local) v
      → Holds start kept now (program_of own.local) turns w → AppendsFront start later (part_of shown own (w ++ v)))
      → HasBroken tree n post source (suc k) shown start later
  event_broken shown front = record {
    turns = played.turns ++ pair_of turn ∷ [];
    w = played.w ++ done_by turn.rank made.acts;
    x = y;
    play = play_on post x (pair_of turn) done y made tree n source played.turns played.w played.play event_may;
    few = let e = one_longer played.turns (pair_of turn) k played.count_is in omega (arith, e);
    is = subst (λ (t : CTree). AppendsFront start later (part_of shown t (played.w ++ done_by turn.rank made.acts))) same
        (front start played.turns played.w (done_by turn.rank made.acts) (line_is post x (pair_of turn) done y made (program_of own.local)) held);
  }
