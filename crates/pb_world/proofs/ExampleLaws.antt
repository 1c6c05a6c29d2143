-- The example keeps the laws.
use Rattle.std.proofs.Common.{◌≡◌, ℕ, zero, suc, ◌+◌, ◌<◌, ◌==◌, Bool, cond, true, false, ◌⊎◌, List, [], ◌∷◌, length, Some, refl, sym, ap, ap₂, subst, inl, inr, arith}
use Rattle.std.proofs.lemmas.Bool.{eqb-true}
use Rattle.pb_world.specs.Actions.{Action, Choose, Send, Recv, Enter, of_rank, Answers, AnswerTable}
use Rattle.pb_world.specs.Machine.{Follows, ended}
use Rattle.pb_world.specs.Family.{Laws, choosing, Statement, nothing, internal, message, joint}
use Rattle.pb_world.specs.Theorem.{AllRanks}
use Rattle.pb_world.specs.Sequencer.{answers_after_all, emitted, state_after}
use Rattle.pb_world.proofs.Local.{Leads, there, by_silent, by_act, UsesAll, none, one, uses_choice, uses_send, uses_enter, uses_receive, uses_leave, first_or_fine}
use Rattle.pb_world.proofs.Shadow.{More, Begins, Moves, acts, asks, ShadowLaws, shadow_laws}
use Rattle.pb_world.proofs.Theorem.{all_ranks}
use Rattle.pb_world.specs.Example.{Place, Top0, Go0, Stop0, In0, Top1, Go1, Stop1, In1, Fin, combine, read_at, Point, Choosing, Going, Stopping, Combining, Over, State, is_allowed, first_word, branch_now, sent_now, entered_now, emit, emit_at, next, first_state, is_over, machine, family}

-- where a rank's machine is, at a point of the sequential run
abbrev shadow_at : Point → ℕ → Place
shadow_at Choosing zero = Top0
shadow_at Going zero = Go0
shadow_at Stopping zero = Stop0
shadow_at Combining zero = In0
shadow_at Choosing (suc r) = Top1
shadow_at Going (suc r) = Go1
shadow_at Stopping (suc r) = Stop1
shadow_at Combining (suc r) = In1
shadow_at Over r = Fin

abbrev shadow : State → ℕ → Place
shadow q r = shadow_at q.point r

branch_fine : (q : State) → is_allowed 0 (Choose 0 2 (branch_now q)) ≡ true
branch_fine q = first_or_fine (q.left 0).branches (λ b. is_allowed 0 (Choose 0 2 b)) 1 refl

go_fine : (q : State) → is_allowed 0 (Send 1 7 (sent_now q 7 (0 ∷ []))) ≡ true
go_fine q = first_or_fine (q.left 0).words (λ ws. is_allowed 0 (Send 1 7 ws)) (0 ∷ []) refl

stop_fine : (q : State) → is_allowed 0 (Send 1 8 (sent_now q 8 [])) ≡ true
stop_fine q = first_or_fine (q.left 0).words (λ ws. is_allowed 0 (Send 1 8 ws)) [] refl

enter_fine : (q : State) (r : ℕ) → is_allowed r (Enter combine (entered_now q r)) ≡ true
enter_fine q r = first_or_fine (q.left r).words (λ ws. is_allowed r (Enter combine ws)) (0 ∷ []) refl

abbrev Moves_here : State → ℕ → Type 0
Moves_here q r = Moves family first_state emit next is_over (λ q r. q.left r) (λ q. Unit {0}) shadow q r

abbrev Begins_here : State → ℕ → ℕ → (ℕ → Bool) → Type 0
Begins_here q r p test = Begins family first_state emit next is_over (λ q r. q.left r) (λ q. Unit {0}) shadow q r p test

abbrev More_here : State → ℕ → Type 0
More_here q r = More family first_state emit next is_over (λ q r. q.left r) (λ q. Unit {0}) shadow q r

chosen : (b : Bool) → cond b Go0 Stop0 ≡ shadow_at (cond b Going Stopping) 0
chosen true = refl
chosen false = refl

abbrev told_by : Bool → ℕ → Bool
told_by b l = cond b (l == 7) (l == 8)

-- a number that is 8 isn't 7
tells : (b : Bool) (l : ℕ) → told_by b l ≡ true → read_at l ≡ Some (shadow_at (cond b Going Stopping) 1)
tells true l h = ap read_at (eqb-true l 7 h)
tells false l h = ap read_at (eqb-true l 8 h)

begins_so : (b : Bool) (left : ℕ → Answers) → Begins_here (record { point = cond b Going Stopping; left = left }) 1 0 (told_by b)
begins_so true left zero a s e = cc
begins_so true left (suc n) a s e = (7, _, (let h : Recv 0 7 (sent_now (record { point = Going; left = left }) 7 (0 ∷ [])) ≡ a = cc in sym h), refl)
begins_so false left zero a s e = cc
begins_so false left (suc n) a s e = (8, _, (let h : Recv 0 8 (sent_now (record { point = Stopping; left = left }) 8 []) ≡ a = cc in sym h), refl)

told : (b : Bool) (left : ℕ → Answers) → More_here (record { point = cond b Going Stopping; left = left }) 1
told true left = (1, _, _, refl)
told false left = (1, _, _, refl)

moves_at : (pt : Point) (left : ℕ → Answers) (r : ℕ) → r < 2 → Moves_here (record { point = pt; left = left }) r
moves_at Choosing left zero h =
    let q : State = record { point = Choosing; left = left } in
    acts (subst (λ y. Leads machine (is_allowed 0) Top0 (Choose 0 2 (branch_now q) ∷ []) y) (chosen (branch_now q == 0)) (by_act refl (branch_fine q) there))
moves_at Choosing left (suc zero) h =
    let q : State = record { point = Choosing; left = left } in
    asks Top1 0 (told_by (branch_now q == 0)) refl there refl (λ l k. tells (branch_now q == 0) l k) (begins_so (branch_now q == 0) (next q).left) (told (branch_now q == 0) (next q).left)
moves_at Going left zero h = acts (by_act refl (go_fine (record { point = Going; left = left })) there)
moves_at Going left (suc zero) h = acts (by_act refl refl there)
moves_at Stopping left zero h = acts (by_act refl (stop_fine (record { point = Stopping; left = left })) there)
moves_at Stopping left (suc zero) h = acts (by_act refl refl there)
moves_at Combining left zero h = acts (by_act refl (enter_fine (record { point = Combining; left = left }) 0) (by_act refl refl (by_silent refl there)))
moves_at Combining left (suc zero) h = acts (by_act refl (enter_fine (record { point = Combining; left = left }) 1) (by_act refl refl (by_silent refl there)))
moves_at Over left zero h = acts there
moves_at Over left (suc zero) h = acts there
moves_at pt left (suc (suc r)) h = absurd (omega arith)

goes_at : (pt : Point) (left : ℕ → Answers) (r : ℕ) → r < 2 → Follows machine (is_allowed r) (shadow_at pt r) [] true ⊎ More_here (record { point = pt; left = left }) r
goes_at Choosing left zero h = inr (1, _, _, refl)
goes_at Going left zero h = inr (1, _, _, refl)
goes_at Stopping left zero h = inr (1, _, _, refl)
goes_at Combining left zero h = inr (1, _, _, refl)
goes_at Choosing left (suc zero) h =
    let q : State = record { point = Choosing; left = left } in
    let t = told (branch_now q == 0) (next q).left in
    inr (suc t.0, t.1, t.2, t.3)
goes_at Going left (suc zero) h = inr (1, _, _, refl)
goes_at Stopping left (suc zero) h = inr (1, _, _, refl)
goes_at Combining left (suc zero) h = inr (1, _, _, refl)
goes_at Over left zero h = inl (ended refl)
goes_at Over left (suc zero) h = inl (ended refl)
goes_at pt left (suc (suc r)) h = absurd (omega arith)

finishes : (pt : Point) (left : ℕ → Answers) → ((n : ℕ) × (is_over (state_after emit next n (record { point = pt; left = left })) ≡ true)) ⊎ ((n : ℕ) × (r : ℕ) × (a : Action) × (s : List Action) × (r < 2) × (of_rank r (emitted emit next n (record { point = pt; left = left })) ≡ a ∷ s))
finishes Choosing left = inr (1, 0, _, _, omega arith, refl)
finishes Going left = inr (1, 0, _, _, omega arith, refl)
finishes Stopping left = inr (1, 0, _, _, omega arith, refl)
finishes Combining left = inr (1, 0, _, _, omega arith, refl)
finishes Over left = inl (0, refl)

statement_at : (pt : Point) (q : State) → Statement family (emit_at pt q)
statement_at Choosing q = internal (omega arith) choosing
statement_at Going q = message (omega arith) (omega arith) (omega arith)
statement_at Stopping q = message (omega arith) (omega arith) (omega arith)
statement_at Combining q = joint combine (entered_now q)
statement_at Over q = nothing

one_word : (ws : List ℕ) → (length ws == 1) ≡ true → (x : ℕ) × (xs : List ℕ) × (ws ≡ x ∷ xs)
one_word [] h = cc
one_word (x ∷ xs) h = (x, xs, refl)

used_at : (pt : Point) (q : State) (r : ℕ) → r < 2 → UsesAll (is_allowed r) (q.left r) (of_rank r (emit_at pt q)) (answers_after_all (of_rank r (emit_at pt q)) (q.left r))
used_at Choosing q zero h = one (uses_choice (is_allowed 0) (q.left 0) 0 2 1) none
used_at Choosing q (suc zero) h = none
used_at Going q zero h = one (uses_send (is_allowed 0) (q.left 0) 1 7 (0 ∷ [])) none
used_at Going q (suc zero) h = one (uses_receive (is_allowed 1) (q.left 1) 0 7 _) none
used_at Stopping q zero h = one (uses_send (is_allowed 0) (q.left 0) 1 8 []) none
used_at Stopping q (suc zero) h = one (uses_receive (is_allowed 1) (q.left 1) 0 8 _) none
used_at Combining q zero h = one (uses_enter (is_allowed 0) (q.left 0) combine (0 ∷ []) one_word) (one (uses_leave (is_allowed 0) _ combine _) none)
used_at Combining q (suc zero) h = one (uses_enter (is_allowed 1) (q.left 1) combine (0 ∷ []) one_word) (one (uses_leave (is_allowed 1) _ combine _) none)
used_at Over q r h = none
used_at pt q (suc (suc r)) h = absurd (omega arith)

first_at : (A : AnswerTable) (r : ℕ) → r < 2 → shadow (first_state A) r ≡ family.start r
first_at A zero h = refl
first_at A (suc r) h = refl

local : ShadowLaws family first_state emit next is_over (λ q r. q.left r) (λ q. Unit {0}) shadow
local = record {
  run_is = λ A m. refl;
  over_is = λ A m. refl;
  depends = λ j r f g h. ap₂ (λ x y. (first_word x + first_word y) ∷ []) (h 0 (omega arith) refl) (h 1 (omega arith) refl);
  good_first = λ A. tt;
  good_next = λ q g. tt;
  left_first = λ A r. refl;
  statement = λ q g. statement_at q.point q;
  used = λ q g r lt. used_at q.point q r lt;
  shadow_first = λ A r lt. first_at A r lt;
  moves = λ q g r lt. moves_at q.point q.left r lt;
  shadow_goes = λ q g r lt. goes_at q.point q.left r lt;
  finishes = λ q g. finishes q.point q.left;
}

pub laws : Laws family
laws = shadow_laws family first_state emit next is_over (λ q r. q.left r) (λ q. Unit {0}) shadow local

pub ranks : AllRanks family
ranks = all_ranks family laws
