-- A compiled protocol's tree is never stuck, and the demo's runs at N = 8.
use Rattle.std.proofs.Common.{◌≡◌, ℕ, ◌<◌, ◌≤◌, ◌⊎◌, inl, inr, ℤ, pos, List, [], length, true, None, refl, sym, ap, subst, ◌∙◌, arith}
use Rattle.std.proofs.lemmas.Int.{ints}
use Rattle.pb_text.specs.declared.limits.TheConstants.{MOST_EVENTS}
use Rattle.pb_affine.specs.declared.range.NRange.{NRange}
use Rattle.pb_world.specs.Actions.{Action}
use Rattle.pb_world.specs.Counted.{Counted}
use Rattle.pb_world.specs.Family.{Family}
use Rattle.pb_world.specs.Theorem.{AllRanks, IsWhole}
use Rattle.pb_world.specs.World as W
use Rattle.pb_world.specs.World.{World, Reached}
use Rattle.pb_core_language.specs.Meaning.{high_of}
use Rattle.pb_core_language.specs.Plain.{Protocol}
use Rattle.pb_core_language.specs.Ranks.{total}
use Rattle.pb_core_language.specs.Verdict.{IsIn}
use Rattle.pb_local.specs.Family.{Sequence, family}
use Rattle.pb_local.specs.Machine as M
use Rattle.pb_local.specs.Tree.{program_of}
use Rattle.pb_ctree.specs.declared.tree.CTree.{CTree}
use Rattle.pb_ctree.specs.Trees.{IsTree}
use Rattle.pb_shape.specs.Theorem.{sequence_of}
use Rattle.pb_shape_follow.proofs.Starts.{total_same}
use Rattle.pb_demo_file.proofs.Range.{runs_from_two}
use Rattle.pb_sim_world.specs.States.{program}
use Rattle.pb_sim_world.specs.Worlds.{world_of}
use Rattle.pb_sim.specs.declared.counts.Counts.{Counts}
use Rattle.pb_sim.specs.declared.seen.Seen.{Seen}
use Rattle.pb_sim.specs.declared.standing.Cause.{Cause}
use Rattle.pb_sim.specs.declared.standing.Standing.{Standing}
use Rattle.pb_sim.specs.declared.standing.Standing.TheVariants as T
use Rattle.pb_sim.specs.Made.{IsBegun, IsNumber, ranks_of}
use Rattle.pb_sim.specs.Scheduled as R
use Rattle.pb_sim.specs.Scheduled.{Turn, ScheduledRun}
use Rattle.pb_sim.specs.Standing.{IsGoing, IsStanding}
use Rattle.pb_sim_play.specs.Plans.{Source, May}
use Rattle.pb_sim_play.specs.Plays.{IsPlay}
use Rattle.pb_sim_play.specs.Endings.{IsFull, IsStill, Ran, Stands}
use Rattle.pb_cli_status.specs.Lines.{line_of}
use Rattle.pb_cli_status.specs.declared.refusal.Refusal.TheVariants as refusal
use Rattle.pb_cli_status.specs.declared.status.Status.TheVariants as S
use Rattle.pb_cli_demo.specs.Demo.{HasCounts, IsReply, IsTreeOf}
use Rattle.pb_sim_count.specs.Played.{HasAll, eager}

some_sequence : Sequence
some_sequence = record { run = λ A k. []; over = λ A k. true }

-- ---- a run under turns is a run

reached : {S : Type 0} (F : Family S) (answered : ℕ → ℕ → ℕ → Type 0) (may : ℕ → World S → Turn → Type 0) {turns : List Turn} {w : List (ℕ × Action)} {X : World S}
    → ScheduledRun F answered may turns w X → Reached F w X
reached F answered may R.start = W.start
reached F answered may (R.event run allowed turned) = W.event (reached F answered may run) turned.step

-- the ranks of a tree, beside the sequential runs of its protocol
abbrev pub of_tree : Protocol → CTree → ℕ → Family (Counted M.Rank)
of_tree p tree n = family (program_of tree.local) (pos n) (sequence_of p (pos n))

module _ (p : Protocol) (tree : CTree) (n : ℕ) (post : ℕ → ℕ → ℕ → Type 0) (source : Source) (turns : List Turn) (w : List (ℕ × Action)) (x : Seen) (play : IsPlay tree (pos n) post source turns w x) where
  pub reaches : Reached (of_tree p tree n) w (world_of x.state)
  reaches =
      subst (λ (t : CTree). Reached (family (program_of t.local) (pos n) (sequence_of p (pos n))) w (world_of x.state)) play.tree_is
      (subst (λ (m : ℤ). Reached (family (program x.state) m (sequence_of p (pos n))) w (world_of x.state)) play.n_is
      (reached (family (program x.state) x.state.n (sequence_of p (pos n))) post (May tree (pos n) source) (play.run.run (sequence_of p (pos n)))))

  module _ (all : AllRanks (of_tree p tree n)) where
    -- where nobody has a step, all is done
    pub whole : (IsGoing (of_tree p tree n) (world_of x.state) → ⊥) → IsWhole (of_tree p tree n) w (world_of x.state)
    whole still = all.whole w (world_of x.state) reaches (λ r there can. still (record { rank = r; there = there; can = can }))

    pub never_stuck : (rank : ℕ) (cause : Cause) → Stands tree (pos n) x (T.Stuck rank cause) → ⊥
    never_stuck rank cause stands =
        let it = stands (sequence_of p (pos n)) in
        let done = whole it.0 in
        it.1 (record { ended = done.ended; empty = done.empty })

-- ---- the demo's tree

-- from 2 on, without an upper end
abbrev from_two : NRange
from_two = record { low = 2; high = None }

module _ (count : ℕ) (tree : CTree) (is : IsTreeOf count tree) where
  range_is : is.0.range ≡ from_two
  range_is =
      let accepted = is.1.accepted in
      let bounds = runs_from_two count accepted.1.0 accepted.0 accepted.1.1 accepted.1.2.0 in
      ap (λ (p : Protocol). p.range) accepted.2.1 ∙ (λ i. record { low = bounds.0 i; high = high_of (bounds.1 i) })

  pub number : IsNumber tree.local.range (pos 8)
  number =
      subst (λ (range : NRange). IsNumber range (pos 8)) (sym (is.1.projected.shape.range ∙ range_is))
      (record { some = omega (arith, ints); is = record { low = omega arith; high = tt } })

  within : IsIn is.0.range (pos 8)
  within = subst (λ (range : NRange). IsIn range (pos 8)) (sym range_is) (record { low = omega (arith, ints); high = tt })

  pub made : IsTree tree
  made = is.1.projected.made

  module _ (few : ranks_of tree (pos 8) ≤ 1024) where
    all_ranks : AllRanks (of_tree is.0 tree 8)
    all_ranks =
        let same = total_same is.0 (program_of tree.local) (pos 8) is.1.projected.shape in
        let fewer : total is.0.roles (pos 8) ≤ 1024 = subst (λ (k : ℕ). k ≤ 1024) (sym same) few in
        (is.1.does (pos 8) within (omega (arith, fewer))).1

    module _ (post : ℕ → ℕ → ℕ → Type 0) (y : Seen) (all : HasAll tree (pos 8) post (eager count) MOST_EVENTS y) where
      stands_so : (standing : Standing) → ((sequence : Sequence) → IsStanding (family (program y.state) y.state.n sequence) (world_of y.state) standing) → Stands tree (pos 8) y standing
      stands_so standing stands sequence =
          subst (λ (t : CTree). IsStanding (family (program_of t.local) (pos 8) sequence) (world_of y.state) standing) all.2.play.tree_is
          (subst (λ (m : ℤ). IsStanding (family (program y.state) m sequence) (world_of y.state) standing) all.2.play.n_is (stands sequence))

      few_made : length all.2.turns ≤ MOST_EVENTS
      few_made = let e = all.2.count_is in let f = all.1 in omega (arith, e, f)

      -- it has come to its end
      pub ended : ((sequence : Sequence) → IsStanding (family (program y.state) y.state.n sequence) (world_of y.state) T.Ended) → (c : Counts) → c ≡ y.counts → HasCounts post count c
      ended stands c same =
          (tree, is, record { turns = all.2.turns; w = all.2.w; x = y; play = all.2.play; few = few_made; is = (stands_so T.Ended stands, same ∙ all.2.counts_are) })

      -- all events were made
      pub going : ((sequence : Sequence) → IsStanding (family (program y.state) y.state.n sequence) (world_of y.state) T.Going) → IsReply post count S.Turns (line_of (refusal.Turns MOST_EVENTS))
      going stands = ((tree, is, record { turns = all.2.turns; w = all.2.w; x = y; play = all.2.play; few = few_made; is = (stands_so T.Going stands, all.2.count_is ∙ each all.3) }), refl) where
        each : (all.0 ≡ MOST_EVENTS) ⊎ IsStill y → all.0 ≡ MOST_EVENTS
        each (inl e) = e
        each (inr still) = let g = stands some_sequence in absurd (still some_sequence g.rank g.can)

      -- and it isn't stuck
      pub not_stuck : (rank : ℕ) (cause : Cause) → ((sequence : Sequence) → IsStanding (family (program y.state) y.state.n sequence) (world_of y.state) (T.Stuck rank cause)) → ⊥
      not_stuck rank cause stands = never_stuck is.0 tree 8 post (eager count) all.2.turns all.2.w y all.2.play all_ranks rank cause (stands_so (T.Stuck rank cause) stands)

-- ---- what is answered of a simulation that had begun

module _ (count : ℕ) (tree : CTree) (x : Seen) (begun : IsBegun tree (pos 8) x) (is : IsTreeOf count tree) (post : ℕ → ℕ → ℕ → Type 0) (y : Seen) where
  module _ (all : HasAll tree x.state.n post (eager count) MOST_EVENTS y) where
    all_at_8 : HasAll tree (pos 8) post (eager count) MOST_EVENTS y
    all_at_8 = subst (λ (n : ℤ). HasAll tree n post (eager count) MOST_EVENTS y) begun.n_is all

    pub run_ended : ((sequence : Sequence) → IsStanding (family (program y.state) y.state.n sequence) (world_of y.state) T.Ended) → (c : Counts) → c ≡ y.counts → HasCounts post count c
    run_ended stands c same = ended count tree is begun.few post y all_at_8 stands c same

    pub run_going : ((sequence : Sequence) → IsStanding (family (program y.state) y.state.n sequence) (world_of y.state) T.Going) → IsReply post count S.Turns (line_of (refusal.Turns MOST_EVENTS))
    run_going stands = going count tree is begun.few post y all_at_8 stands

    pub run_stuck : (rank : ℕ) (cause : Cause) → ((sequence : Sequence) → IsStanding (family (program y.state) y.state.n sequence) (world_of y.state) (T.Stuck rank cause)) → ⊥
    run_stuck rank cause stands = not_stuck count tree is begun.few post y all_at_8 rank cause stands

  pub run_full : Ran tree x.state.n post (eager count) MOST_EVENTS (λ turns w z. (length turns < MOST_EVENTS) × IsFull tree x.state.n (eager count) (length turns) w z)
      → IsReply post count S.Limit (line_of refusal.WordsInFlight)
  run_full ran =
      inr (inr (inr ((tree, is, subst (λ (n : ℤ). Ran tree n post (eager count) MOST_EVENTS (λ turns w z. (length turns < MOST_EVENTS) × IsFull tree n (eager count) (length turns) w z)) begun.n_is ran), refl)))

-- there would be too many ranks
pub too_many : (count : ℕ) (tree : CTree) (post : ℕ → ℕ → ℕ → Type 0) → IsTreeOf count tree → 1024 < ranks_of tree (pos 8) → IsReply post count S.Limit (line_of refusal.Ranks)
too_many count tree post is many = inr (inr (inl (tree, is, many, refl)))
