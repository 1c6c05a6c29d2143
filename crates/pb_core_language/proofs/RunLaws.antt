-- In a sequential run receives are the sends in order, and a run begins each longer one.
use Rattle.std.proofs.Common.{◌≡◌, ℕ, zero, suc, ◌+◌, ◌==◌, cond, Bool, true, false, None, Some, Option, List, [], ◌∷◌, ◌++◌, filter_map, refl, sym, ap, ap₂, ◌∙◌, arith, subst}
use Rattle.std.proofs.lemmas.List.Elements.{filter_map-append}
use Rattle.std.proofs.lemmas.List.{append_assoc}
use Rattle.pb_world.specs.Actions.{Action, Choose, Run, Send, Recv, Enter, Leave, Collective, Answers, AnswerTable, IsPrefixOf}
use Rattle.pb_world.specs.Family.{each}
use Rattle.pb_world.specs.Sequencer.{emitted, state_after}
use Rattle.pb_core_language.specs.Flat.{Block, stop, message, compute, together, choice, looped, again, count}
use Rattle.pb_core_language.specs.Run.{Setting, State, Frame, emit, next, emit_at, emit_of, branch_now, seq, first_state}
use Rattle.pb_core_language.specs.Laws.{sent_by, got_by, sends, receipts, Matched, Extends}

-- what may be picked, before the rest
abbrev pick : {X : Type 0} → Option X → List X → List X
pick None xs = xs
pick (Some x) xs = x ∷ xs

pick_first : {X Y : Type 0} (f : X → Option Y) (x : X) (xs : List X) → filter_map f (x ∷ xs) ≡ pick (f x) (filter_map f xs)
pick_first {X} {Y} f x xs = at (f x) refl
  where
    at : (o : Option Y) → f x ≡ o → filter_map f (x ∷ xs) ≡ pick o (filter_map f xs)
    at None e = rw e refl
    at (Some y) e = rw e refl

-- a send and its receive, by whether they are from p and to q
pair_matched : (a b c d : Bool) (x : ℕ × List ℕ) → pick (cond a None None) (pick (cond b (cond c (Some x) None) None) []) ≡ pick (cond c (cond b (Some x) None) None) (pick (cond d None None) [])
pair_matched true true true true x = refl
pair_matched true true true false x = refl
pair_matched true true false true x = refl
pair_matched true true false false x = refl
pair_matched true false true true x = refl
pair_matched true false true false x = refl
pair_matched true false false true x = refl
pair_matched true false false false x = refl
pair_matched false true true true x = refl
pair_matched false true true false x = refl
pair_matched false true false true x = refl
pair_matched false true false false x = refl
pair_matched false false true true x = refl
pair_matched false false true false x = refl
pair_matched false false false true x = refl
pair_matched false false false false x = refl

two_picked : {X Y : Type 0} (f : X → Option Y) (x y : X) → filter_map f (x ∷ y ∷ []) ≡ pick (f x) (pick (f y) [])
two_picked f x y = pick_first f x (y ∷ []) ∙ ap (pick (f x)) (pick_first f y [])

message_matched : (p q p' q' l : ℕ) (ws : List ℕ) → receipts p q ((p', Send q' l ws) ∷ (q', Recv p' l ws) ∷ []) ≡ sends p q ((p', Send q' l ws) ∷ (q', Recv p' l ws) ∷ [])
message_matched p q p' q' l ws =
    two_picked (got_by p q) (p', Send q' l ws) (q', Recv p' l ws)
    ∙ pair_matched (p' == q) (q' == q) (p' == p) (q' == p) (l, ws)
    ∙ sym (two_picked (sent_by p q) (p', Send q' l ws) (q', Recv p' l ws))

one_alone : {X Y : Type 0} (f : X → Option Y) (x : X) → f x ≡ None → filter_map f (x ∷ []) ≡ []
one_alone f x e = rw e refl

no_pick : {X : Type 0} (b : Bool) → let none : Option X = None in cond b none none ≡ none
no_pick true = refl
no_pick false = refl

each_none : {Y : Type 0} (f : ℕ × Action → Option Y) (g : ℕ → Action) → ((r : ℕ) → f (r, g r) ≡ None) → (n : ℕ) → filter_map f (each n g) ≡ []
each_none f g h zero = refl
each_none f g h (suc n) = filter_map-append f (each n g) ((n, g n) ∷ []) ∙ ap₂ (λ x y. x ++ y) (each_none f g h n) (one_alone f (n, g n) (h n))

joint_none : {Y : Type 0} (f : ℕ × Action → Option Y) (n : ℕ) (g h : ℕ → Action) → ((r : ℕ) → f (r, g r) ≡ None) → ((r : ℕ) → f (r, h r) ≡ None) → filter_map f (each n g ++ each n h) ≡ []
joint_none f n g h a b = filter_map-append f (each n g) (each n h) ∙ ap₂ (λ x y. x ++ y) (each_none f g a n) (each_none f h b n)

module _ (w : Setting) where
  block_matched : (p q : ℕ) (b : Block) (left : AnswerTable) → receipts p q (emit_at w b left) ≡ sends p q (emit_at w b left)
  block_matched p q stop left = refl
  block_matched p q (message a p' q' l g) left = message_matched p q p' q' l _
  block_matched p q (compute a p' k g) left = one_alone (got_by p q) (p', Run k) (no_pick (p' == q)) ∙ sym (one_alone (sent_by p q) (p', Run k) (no_pick (p' == p)))
  block_matched p q (together a j g) left =
      joint_none (got_by p q) w.total _ _ (λ r. no_pick (r == q)) (λ r. no_pick (r == q))
      ∙ sym (joint_none (sent_by p q) w.total _ _ (λ r. no_pick (r == p)) (λ r. no_pick (r == p)))
  block_matched p q (choice a p' k bs g) left = one_alone (got_by p q) (p', Choose k (count bs) (branch_now w left p' k bs)) (no_pick (p' == q)) ∙ sym (one_alone (sent_by p q) (p', Choose k (count bs) (branch_now w left p' k bs)) (no_pick (p' == p)))
  block_matched p q (looped a b g) left = refl
  block_matched p q (again n) left = refl

  stack_matched : (p q : ℕ) (K : List Frame) (left : AnswerTable) → receipts p q (emit_of w K left) ≡ sends p q (emit_of w K left)
  stack_matched p q [] left = refl
  stack_matched p q (f ∷ K) left = block_matched p q f.rest left

  steps_matched : (p q m : ℕ) (s : State) → receipts p q (emitted (emit w) (next w) m s) ≡ sends p q (emitted (emit w) (next w) m s)
  steps_matched p q zero s = refl
  steps_matched p q (suc m) s =
      filter_map-append (got_by p q) (emit w s) _
      ∙ ap₂ (λ x y. x ++ y) (stack_matched p q s.stack s.left) (steps_matched p q m (next w s))
      ∙ sym (filter_map-append (sent_by p q) (emit w s) _)

  more_steps : (m more : ℕ) (s : State) → IsPrefixOf (emitted (emit w) (next w) m s) (emitted (emit w) (next w) (m + more) s)
  more_steps zero more s = (emitted (emit w) (next w) more s, let e : 0 + more ≡ more = omega arith in sym (ap (λ k. emitted (emit w) (next w) k s) e))
  more_steps (suc m) more s =
      let later = more_steps m more (next w s) in
      let e : suc m + more ≡ suc (m + more) = omega arith in
      (later.0, append_assoc (emit w s) (emitted (emit w) (next w) m (next w s)) later.0 ∙ ap (λ xs. emit w s ++ xs) later.1 ∙ sym (ap (λ k. emitted (emit w) (next w) k s) e))

pub matched : Matched
matched w protocol A m p q = steps_matched w p q m (first_state w protocol A)

pub extends : Extends
extends w protocol A m more = more_steps w m more (first_state w protocol A)
