-- One event more was made, or none is.
use Rattle.std.proofs.Common.{◌≡◌, ℕ, ℤ, suc, ◌+◌, ◌*◌, ◌%◌, ◌<◌, inl, inr, List, [], ◌∷◌, ◌++◌, refl, sym, ap, subst, ◌∙◌, length, length-append, arith, true}
use Rattle.std.specs.Prelude.{Contains}
use Rattle.std.proofs.lemmas.List.Elements.{Contains-get_or}
use Rattle.std.proofs.lemmas.Nat.{mod_below}
use Rattle.pb_text.specs.declared.mode.Mode.TheVariants.{Eager}
use Rattle.pb_ctree.specs.declared.tree.CTree.{CTree}
use Rattle.pb_local.specs.Family.{Sequence, family}
use Rattle.pb_sched.specs.Draws.{pick, word}
use Rattle.pb_sim_world.specs.States.{program}
use Rattle.pb_sim_world.specs.Worlds.{world_of}
use Rattle.pb_sim.specs.declared.outcomes.StepDone.{StepDone}
use Rattle.pb_sim.specs.declared.seen.Seen.{Seen}
use Rattle.pb_sim.specs.Made.{HasStep, IsBegun, IsMade, IsTooMuch}
use Rattle.pb_sim.specs.Seen.{counted_all}
use Rattle.pb_sim.proofs.Runs.{begins, one_action, too_much}
use Rattle.pb_sim_play.specs.Endings.{IsFull, IsStill, Ran}
use Rattle.pb_sim_play.specs.Plans.{Source, May}
use Rattle.pb_sim_play.specs.Plays.{done_by}
use Rattle.pb_sim_play.proofs.Events.{play_on}
use Rattle.pb_sim_play.proofs.Turns.{AreReady, spent}
use Rattle.std.proofs.Common.{Err}
use Rattle.pb_sim_count.specs.declared.playing.Stop.{Stop}
use Rattle.pb_sim_count.specs.declared.playing.Stop.TheVariants as T
use Rattle.pb_sim_count.specs.Played.{HasAll, HasGone, HasMade, HasStopped, IsFilled, eager}
use Rattle.pb_sim_count.proofs.Counting.{counts_more}

some_sequence : Sequence
some_sequence = record { run = λ A k. []; over = λ A k. true }

-- ---- the rank that is drawn

module _ (x : Seen) (list : List ℕ) (seed k rank : ℕ) (ready : AreReady x list) (some : 0 < length list) (is : rank ≡ pick seed k list) where
  drawn_next : May x.state.tree x.state.n (eager seed) k (world_of x.state) (rank, Eager)
  drawn_next = record { list = list; ready = ready; some = some; is = ap (λ (r : ℕ). (r, Eager)) is }

  -- it has a step
  pub never_unready : ((sequence : Sequence) → HasStep x sequence rank → ⊥) → ⊥
  never_unready why =
      let there = Contains-get_or list (word seed (2 * k) % length list) 0 (mod_below (word seed (2 * k)) (length list) some) in
      why some_sequence ((ready some_sequence).ready rank (subst (Contains list) (sym is) there)).1

  module _ (tree : CTree) (n : ℤ) (post : ℕ → ℕ → ℕ → Type 0) (has : HasMade tree n post (eager seed) k x) where
    may_next : May tree n (eager seed) k (world_of x.state) (rank, Eager)
    may_next =
        subst (λ (m : ℤ). May tree m (eager seed) k (world_of x.state) (rank, Eager)) has.play.n_is
        (subst (λ (t : CTree). May t x.state.n (eager seed) k (world_of x.state) (rank, Eager)) has.play.tree_is drawn_next)

    -- one event more
    pub event_made : (done : StepDone) (y : Seen) → IsMade post x (rank, Eager) done y → HasMade tree n post (eager seed) (suc k) y
    event_made done y made = record {
      turns = has.turns ++ (rank, Eager) ∷ [];
      w = has.w ++ done_by rank made.acts;
      play =
          play_on post x (rank, Eager) done y made tree n (eager seed) has.turns has.w has.play
          (subst (λ (t : ℕ). May tree n (eager seed) t (world_of x.state) (rank, Eager)) (sym has.count_is) may_next);
      count_is = length-append has.turns ((rank, Eager) ∷ []) ∙ one (length has.turns) k has.count_is;
      counts_are =
          made.stepped.counts
          ∙ (ap (counted_all made.acts) has.counts_are
          ∙ sym (counts_more has.w rank made.acts (one_action (family (program x.state) x.state.n some_sequence) (world_of x.state) rank made.acts (world_of y.state) (made.stepped.event.step some_sequence))));
    } where
      one : (l k : ℕ) → l ≡ k → l + 1 ≡ suc k
      one l k e = omega (arith, e)

    -- none, where it would be a send of too many words
    pub event_full : ((sequence : Sequence) → HasStep x sequence rank) × IsTooMuch x rank → IsFilled tree n post (eager seed) k
    event_full refused =
        (x, (has, record { turn = (rank, Eager); may = may_next; why = (refused.0, too_much has.w x rank has.play.run.flight refused.1) }))

-- none, where no rank has a step
pub no_event : (tree : CTree) (n : ℤ) (post : ℕ → ℕ → ℕ → Type 0) (x : Seen) (list : List ℕ) (seed k : ℕ) → AreReady x list → length list ≡ 0 → HasMade tree n post (eager seed) k x → HasMade tree n post (eager seed) k x × IsStill x
no_event tree n post x list seed k ready over has = (has, spent x (eager seed) k list ready over)

-- ---- all events

module _ (tree : CTree) (n : ℤ) (post : ℕ → ℕ → ℕ → Type 0) (source : Source) where
  pub nothing_made : (x : Seen) → IsBegun tree n x → HasMade tree n post source 0 x
  nothing_made x is = record {
    turns = [];
    w = [];
    play = record { tree_is = is.tree_is; n_is = is.n_is; run = begins post (May tree n source) tree n x is };
    count_is = refl;
    counts_are = is.counts;
  }

  pub all_at : (most k : ℕ) (x : Seen) → k ≡ most → HasMade tree n post source k x → HasAll tree n post source most x
  all_at most k x e has = (k, omega (arith, e), has, inl e)

  filled_at : (most k : ℕ) → k < most → IsFilled tree n post source k → Ran tree n post source most (λ turns w x. (length turns < most) × IsFull tree n source (length turns) w x)
  filled_at most k less (x, (has, full)) = record {
    turns = has.turns;
    w = has.w;
    x = x;
    play = has.play;
    few = let e = has.count_is in omega (arith, e, less);
    is = ((let e = has.count_is in omega (arith, e, less)), subst (λ (t : ℕ). IsFull tree n source t has.w x) (sym has.count_is) full);
  }

  -- where no event more is made, fewer than the most were made
  pub halted : (most k : ℕ) (x : Seen) (stop : Stop) → k < most → HasGone tree n post source k x (Err stop) → HasStopped tree n post source most x stop
  halted most k x T.Made less (has, still) = (k, omega (arith, less), has, inr still)
  halted most k x T.Full less filled = filled_at most k less filled
  halted most k x T.NoMemory less none = tt
