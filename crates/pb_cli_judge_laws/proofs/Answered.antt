-- What kernels answer in a run fits 32 bits, where each answer does.
use Rattle.std.proofs.Common.{◌≡◌, ℕ, suc, ◌+◌, ◌%◌, ◌^◌, ◌<◌, ◌≤◌, List, [], ◌∷◌, length, map, arith}
use Rattle.std.specs.Prelude.{slice_index}
use Rattle.std.proofs.Math.Nat.{mod-le}
use Rattle.pb_world.specs.Actions.{Action}
use Rattle.pb_world.specs.Family.{Family, IsInternal, choosing, running}
use Rattle.pb_world.specs.World.{World, Step, silent, probe, internal, send, receive, enter, leave}
use Rattle.pb_sim.specs.Done.{AreAnswered}
use Rattle.pb_sim.specs.Scheduled.{Turn, ScheduledRun, start, event, asked_by}
use Rattle.pb_judge_told.specs.Told.{AreWords, IsAnsweredSmall, AreAnsweredSmall}
use Rattle.pb_judge_told.proofs.Words.{all_append}
use Rattle.pb_cli_judge_laws.specs.Laws.{AnswersFit}

each_small : (ws : List ℕ) → ((k : ℕ) → k < length ws → slice_index ws k < 2 ^ 32) → AreWords ws
each_small [] h = tt
each_small (w ∷ ws) h = (h 0 (omega arith), each_small ws (λ k lt. h (suc k) (omega (arith, lt))))

at_most : (branch rest word : ℕ) → branch ≡ rest → rest ≤ word → word < 2 ^ 32 → branch < 2 ^ 32
at_most branch rest word same less small = omega (arith, same, less, small)

module _ {S : Type 0} (F : Family S) (answered : ℕ → ℕ → ℕ → Type 0) (fits : AnswersFit answered) where
  words_small : (r first : ℕ) (ws : List ℕ) → ((k : ℕ) → k < length ws → answered r (first + k) (slice_index ws k)) → AreWords ws
  words_small r first ws h = each_small ws (λ k lt. fits r (first + k) (slice_index ws k) (h k lt))

  branch_small : (r first branches branch : ℕ) → (word : ℕ) × answered r first word × (branch ≡ word % branches) → branch < 2 ^ 32
  branch_small r first branches branch (word, is, same) = at_most branch (word % branches) word same (mod-le word branches) (fits r first word is)

  internal_small : (r first : ℕ) (a : Action) → IsInternal a → AreAnswered answered r first (a ∷ []) → IsAnsweredSmall a
  internal_small r first a (choosing {branches = branches} {branch = branch}) is = branch_small r first branches branch is
  internal_small r first a running is = tt

  step_small : (W : World S) (r first : ℕ) (acts : List Action) (V : World S) → Step F W r acts V → AreAnswered answered r first acts → AreAnsweredSmall (map (λ a. (r, a)) acts)
  step_small W r first acts V (silent free e) is = tt
  step_small W r first acts V (probe free e has reads) is = tt
  step_small W r first acts V (internal {a = a} free e own allowed) is = (internal_small r first a own is, tt)
  step_small W r first acts V (send {words = words} mode free e allowed) is = (words_small r first words is, tt)
  step_small W r first acts V (receive free e takes) is = (tt, tt)
  step_small W r first acts V (enter {words = words} mode free e agrees allowed) is = (words_small r first words is, tt)
  step_small W r first acts V (leave words free e has waits) is = (tt, tt)

  pub run_small : {may : ℕ → World S → Turn → Type 0} {turns : List Turn} {w : List (ℕ × Action)} {W : World S} → ScheduledRun F answered may turns w W → AreAnsweredSmall w
  run_small start = tt
  run_small (event {w = w} {W = W} {V = V} {turn = turn} {acts = acts} before allowed turned) =
      all_append (λ (step : ℕ × Action). IsAnsweredSmall step.1) w (map (λ a. (turn.0, a)) acts) (run_small before) (step_small W turn.0 (asked_by turn.0 w) acts V turned.step turned.words)
