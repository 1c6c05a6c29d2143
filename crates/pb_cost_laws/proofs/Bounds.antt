-- No ended run sends less than the least, or more than the most.
use Rattle.std.proofs.Common.{◌≡◌, ℕ, zero, suc, ◌+◌, ◌<◌, true, false, List, [], ◌∷◌, refl, ap, ◌∙◌, subst, arith}
use Rattle.pb_world.specs.Actions.{AnswerTable}
use Rattle.pb_world.specs.Sequencer.{state_after, emitted}
use Rattle.pb_core_language.specs.Flat.{Block, stop, message, compute, together, choice, looped, again, Branches, no_branch, branch, count, branch_at}
use Rattle.pb_core_language.specs.Run.{Setting, Opener, Chosen, Frame, State, emit, next, branch_now, is_over_at}
use Rattle.pb_cost_laws.specs.Sent.{Counted, sent_in, Way, Least, Most, picked, Within}
use Rattle.pb_cost_laws.specs.Flats.{of_label, extreme, extreme_among, extreme_behind, IsStraight, AreStraight}
use Rattle.pb_cost_laws.proofs.Counting.{sent_append, step_sends, branch_there}

-- ---- the order of a way

pub within_same : (way : Way) (x : ℕ) → Within way x x
within_same Least x = omega arith
within_same Most x = omega arith

pub within_both : (way : Way) (x y z : ℕ) → Within way x y → Within way y z → Within way x z
within_both Least x y z h g = omega (arith, h, g)
within_both Most x y z h g = omega (arith, h, g)

within_first : (way : Way) (x y : ℕ) → Within way (picked way x y) x
within_first Least x y = omega arith
within_first Most x y = omega arith

within_second : (way : Way) (x y : ℕ) → Within way (picked way x y) y
within_second Least x y = omega arith
within_second Most x y = omega arith

-- what is sent at once is added to both sides
within_step : (way : Way) (a b t s all : ℕ) → all ≡ s + t → a ≡ s + b → Within way b t → Within way a all
within_step Least a b t s all e f h = omega (arith, e, f, h)
within_step Most a b t s all e f h = omega (arith, e, f, h)

-- one part is replaced by another
within_part : (way : Way) (x y z a b : ℕ) → Within way x y → a ≡ x + z → b ≡ y + z → Within way a b
within_part Least x y z a b h e f = omega (arith, h, e, f)
within_part Most x y z a b h e f = omega (arith, h, e, f)

module _ (w : Setting) (way : Way) (what : Counted) where
  of_block : Block → ℕ
  of_block b = extreme way what w.size b

  -- ---- branches

  behind_best : (best : ℕ) (bs : Branches) → Within way (extreme_behind way what w.size best bs) best
  behind_best best no_branch = within_same way best
  behind_best best (branch mark first rest) =
      within_both way (extreme_behind way what w.size (picked way best (extreme way what w.size first)) rest) (picked way best (extreme way what w.size first)) best
      (behind_best (picked way best (extreme way what w.size first)) rest) (within_first way best (extreme way what w.size first))

  behind_any : (best : ℕ) (bs : Branches) (n : ℕ) → n < count bs → Within way (extreme_behind way what w.size best bs) (extreme way what w.size (branch_at n bs))
  behind_any best no_branch n lt = absurd (omega (arith, lt))
  behind_any best (branch mark first rest) zero lt =
      within_both way (extreme_behind way what w.size (picked way best (extreme way what w.size first)) rest) (picked way best (extreme way what w.size first)) (extreme way what w.size first)
      (behind_best (picked way best (extreme way what w.size first)) rest) (within_second way best (extreme way what w.size first))
  behind_any best (branch mark first rest) (suc n) lt = behind_any (picked way best (extreme way what w.size first)) rest n (omega (arith, lt))

  pub among_any : (bs : Branches) (n : ℕ) → n < count bs → Within way (extreme_among way what w.size bs) (extreme way what w.size (branch_at n bs))
  among_any no_branch n lt = absurd (omega (arith, lt))
  among_any (branch mark first rest) zero lt = behind_best (extreme way what w.size first) rest
  among_any (branch mark first rest) (suc n) lt = behind_any (extreme way what w.size first) rest n (omega (arith, lt))

  pub branch_straight : (bs : Branches) (n : ℕ) → AreStraight bs → IsStraight (branch_at n bs)
  branch_straight no_branch n h = tt
  branch_straight (branch mark first rest) zero h = h.0
  branch_straight (branch mark first rest) (suc n) h = branch_straight rest n h.1

  -- ---- stacks

  abbrev pub of_stack : List Frame → ℕ
  of_stack [] = 0
  of_stack (frame ∷ frames) = extreme way what w.size frame.rest + of_stack frames

  abbrev pub StackStraight : List Frame → Type 0
  StackStraight [] = Unit {0}
  StackStraight (frame ∷ frames) = IsStraight frame.rest × StackStraight frames

  abbrev Bounded : ℕ → State → Type 0
  Bounded m q = is_over_at (state_after (emit w) (next w) m q).stack ≡ true → Within way (of_stack q.stack) (sent_in what (emitted (emit w) (next w) m q))

  -- a step sends what its statement does, and what is left is bounded
  stepped : (m : ℕ) (q : State) (s : ℕ) (b : ℕ) → sent_in what (emit w q) ≡ s → Within way (of_stack q.stack) (s + b) → (is_over_at (state_after (emit w) (next w) m (next w q)).stack ≡ true → Within way b (sent_in what (emitted (emit w) (next w) m (next w q)))) → Bounded (suc m) q
  stepped m q s b sends part rest over =
      within_both way (of_stack q.stack) (s + b) (sent_in what (emitted (emit w) (next w) (suc m) q)) part
      (within_step way (s + b) b (sent_in what (emitted (emit w) (next w) m (next w q))) s (sent_in what (emitted (emit w) (next w) (suc m) q))
      (sent_append what (emit w q) (emitted (emit w) (next w) m (next w q)) ∙ ap (λ x. x + sent_in what (emitted (emit w) (next w) m (next w q))) sends) refl (rest over))

  equal_within : (x y : ℕ) → x ≡ y → Within way x y
  equal_within x y e = subst (λ z. Within way x z) e (within_same way x)

  empty_bounded : (m : ℕ) (A : AnswerTable) → Bounded m (record { stack = []; left = A })
  empty_bounded zero A over = within_same way 0
  empty_bounded (suc m) A over = empty_bounded m _ over

  any_stack : (m : ℕ) (K : List Frame) (A : AnswerTable) → StackStraight K → ((o : Opener) (b : Block) (frames : List Frame) → StackStraight (record { opener = o; rest = b } ∷ frames) → Bounded m (record { stack = record { opener = o; rest = b } ∷ frames; left = A })) → Bounded m (record { stack = K; left = A })
  any_stack m [] A h each_frame = empty_bounded m A
  any_stack m (frame ∷ frames) A h each_frame = each_frame frame.opener frame.rest frames h

  pub bounded : (m : ℕ) (o : Opener) (b : Block) (frames : List Frame) (A : AnswerTable) → StackStraight (record { opener = o; rest = b } ∷ frames) → Bounded m (record { stack = record { opener = o; rest = b } ∷ frames; left = A })
  bounded zero o b frames A h = λ over. absurd (let e : false ≡ true = over in cc)
  bounded (suc m) o stop frames A h =
      let q : State = record { stack = record { opener = o; rest = stop } ∷ frames; left = A } in
      stepped m q 0 (of_stack frames) (step_sends w what stop A) (equal_within _ _ refl) (any_stack m frames (next w q).left h.1 (λ o' b' frames' h'. bounded m o' b' frames' (next w q).left h'))
  bounded (suc m) o (message origin from to label rest) frames A h =
      let q : State = record { stack = record { opener = o; rest = message origin from to label rest } ∷ frames; left = A } in
      stepped m q (of_label what w.size label) (extreme way what w.size rest + of_stack frames) (step_sends w what (message origin from to label rest) A) (equal_within _ _ (omega arith)) (bounded m o rest frames (next w q).left h)
  bounded (suc m) o (compute origin at kernel rest) frames A h =
      let q : State = record { stack = record { opener = o; rest = compute origin at kernel rest } ∷ frames; left = A } in
      stepped m q 0 (extreme way what w.size rest + of_stack frames) (step_sends w what (compute origin at kernel rest) A) (equal_within _ _ (omega arith)) (bounded m o rest frames (next w q).left h)
  bounded (suc m) o (together origin joint rest) frames A h =
      let q : State = record { stack = record { opener = o; rest = together origin joint rest } ∷ frames; left = A } in
      stepped m q 0 (extreme way what w.size rest + of_stack frames) (step_sends w what (together origin joint rest) A) (equal_within _ _ (omega arith)) (bounded m o rest frames (next w q).left h)
  bounded (suc m) o (choice origin at kernel bs rest) frames A h =
      let q : State = record { stack = record { opener = o; rest = choice origin at kernel bs rest } ∷ frames; left = A } in
      let n = branch_now w A at kernel bs in
      stepped m q 0 (extreme way what w.size (branch_at n bs) + (extreme way what w.size rest + of_stack frames)) (step_sends w what (choice origin at kernel bs rest) A)
      (within_part way (extreme_among way what w.size bs) (extreme way what w.size (branch_at n bs)) (extreme way what w.size rest + of_stack frames) _ _ (among_any bs n (branch_there w A at kernel bs h.0.0)) (omega arith) (omega arith))
      (bounded m (Chosen at bs) (branch_at n bs) (record { opener = o; rest = rest } ∷ frames) (next w q).left (branch_straight bs n h.0.1.0, (h.0.1.1, h.1)))
  bounded (suc m) o (looped origin body rest) frames A h = absurd h.0
  bounded (suc m) o (again between) frames A h = absurd h.0
