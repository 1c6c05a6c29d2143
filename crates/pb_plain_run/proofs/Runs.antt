-- One more step of a run.
use Rattle.std.proofs.Common.{◌≡◌, ℕ, zero, suc, ◌+◌, ◌<◌, List, ◌++◌, append_assoc, append-nil, refl, sym, ap, ap₂, ◌∙◌, subst, arith}
use Rattle.pb_world.specs.Actions.{Action, AnswerTable}
use Rattle.pb_world.specs.Sequencer.{emitted, state_after}
use Rattle.pb_core_language.specs.Flat.{Block}
use Rattle.pb_core_language.specs.Run.{Setting, State, emit, next, first_state}
use Rattle.pb_plain_run.specs.Doing.{Steps, IsAtTooWide, MeetsTooWide}

module _ (w : Setting) where
  state_suc : (m : ℕ) (q : State) → state_after (emit w) (next w) (suc m) q ≡ next w (state_after (emit w) (next w) m q)
  state_suc zero q = refl
  state_suc (suc m) q = state_suc m (next w q)

  emitted_suc : (m : ℕ) (q : State) → emitted (emit w) (next w) (suc m) q ≡ emitted (emit w) (next w) m q ++ emit w (state_after (emit w) (next w) m q)
  emitted_suc zero q = append-nil (emit w q)
  emitted_suc (suc m) q = ap (λ s. emit w q ++ s) (emitted_suc m (next w q)) ∙ sym (append_assoc (emit w q) (emitted (emit w) (next w) m (next w q)) _)

  pub state_more : (m : ℕ) (q : State) → state_after (emit w) (next w) (m + 1) q ≡ next w (state_after (emit w) (next w) m q)
  state_more m q = let e : m + 1 ≡ suc m = omega arith in ap (λ k. state_after (emit w) (next w) k q) e ∙ state_suc m q

  pub emitted_more : (m : ℕ) (q : State) → emitted (emit w) (next w) (m + 1) q ≡ emitted (emit w) (next w) m q ++ emit w (state_after (emit w) (next w) m q)
  emitted_more m q = let e : m + 1 ≡ suc m = omega arith in ap (λ k. emitted (emit w) (next w) k q) e ∙ emitted_suc m q

-- a loop's step
pub run_state : (w : Setting) (m : ℕ) (first before after : State) (old new : List (ℕ × Action)) → before ≡ state_after (emit w) (next w) m first → Steps w before after old new → after ≡ state_after (emit w) (next w) (m + 1) first
run_state w m first before after old new e s = s.state ∙ ap (next w) e ∙ sym (state_more w m first)

pub run_actions : (w : Setting) (m : ℕ) (first before after : State) (old new : List (ℕ × Action)) → before ≡ state_after (emit w) (next w) m first → old ≡ emitted (emit w) (next w) m first → Steps w before after old new → new ≡ emitted (emit w) (next w) (m + 1) first
run_actions w m first before after old new e so_far s = s.actions ∙ ap₂ (λ x y. x ++ emit w y) so_far e ∙ sym (emitted_more w m first)

-- where a step can't be made for want of numbers, the run meets such a choice
pub meets : (w : Setting) (protocol : Block) (A : AnswerTable) (m k : ℕ) (q : State) → q ≡ state_after (emit w) (next w) k (first_state w protocol A) → k < m → IsAtTooWide q.stack → MeetsTooWide w protocol A m
meets w protocol A m k q e lt h = (k, lt, subst (λ (s : State). IsAtTooWide s.stack) e h)
