-- A rank that takes part in what is still to do acts.
use Rattle.std.proofs.Common.{◌≡◌, ℕ, zero, suc, ◌+◌, ◌<◌, ◌≤◌, ◌==◌, Bool, true, false, ◌||◌, ◌&&◌, MatchBool, List, [], ◌∷◌, ◌++◌, length, refl, sym, ap, ap₂, ◌∙◌, subst, inl, inr, append-nil, le_refl, le_trans, lt_of_lt_of_le, arith}
use Rattle.std.proofs.lemmas.Bool.{or_cases, or_right, or_left, and_parts, cases_Bool, or_parts, and_right}
use Rattle.pb_world.specs.Actions.{Action, Choose, Run, Send, Recv, Enter, Leave, of_rank, Answers}
use Rattle.pb_world.specs.Sequencer.{behind_first, answers_after, answers_after_all, first_or, emitted, state_after}
use Rattle.pb_world.proofs.Lists.{eqb_cases, of_append}
use Rattle.pb_world.proofs.Sequential.{internal_self, message_sender, message_receiver}
use Rattle.pb_core_language.specs.Lists.{nth}
use Rattle.pb_core_language.specs.Flat.{Origin, Block, stop, message, compute, together, choice, looped, again, Branches, no_branch, branch, takes_part, takes_part_among, in_choice, count, branch_at, can_end, some_can_end, first_ending}
use Rattle.pb_core_language.specs.Outcomes.{firsts_among, source_of}
use Rattle.pb_core_language.specs.Run.{Setting, Opener, Top, Chosen, Body, Frame, at_rank, env_over, env_of, live, back, back_over, move, State, is_allowed, branch_now, words_now, emit, next}
use Rattle.pb_core_endpoint.proofs.Kept.{Receives_first, Receives_each, Keeps, Loops_end, Loops_end_each, Ends_before}
use Rattle.pb_core_endpoint.specs.Rules.{is_stop}
use Rattle.pb_core_endpoint.proofs.Clean.{involved, Clean, Body_keeps, Stack_keeps}
use Rattle.pb_core_endpoint.proofs.Stacks.{live_env}
use Rattle.pb_core_endpoint.proofs.Branches.{keeps_at, loops_end_at, ends_before_at, no_part_at, receives_in, first_ending_ends, none_ends}
use Rattle.pb_core_endpoint.proofs.Keep.{branch_less, together_of}

-- the number of branches that are left to all ranks below n
abbrev pub budget : ℕ → (ℕ → Answers) → ℕ
budget zero left = 0
budget (suc n) left = length (left n).branches + budget n left

pub budget_same : (n : ℕ) (f g : ℕ → Answers) → ((r : ℕ) → length (f r).branches ≤ length (g r).branches) → budget n f ≤ budget n g
budget_same zero f g h = omega arith
budget_same (suc n) f g h = let a = h n in let b = budget_same n f g h in omega arith

budget_less : (n : ℕ) (f g : ℕ → Answers) (p : ℕ) → ((r : ℕ) → length (f r).branches ≤ length (g r).branches) → p < n → length (f p).branches < length (g p).branches → budget n f < budget n g
budget_less zero f g p h lt less = absurd (omega arith)
budget_less (suc n) f g p h lt less =
    elim (eqb_cases p n) [
      | inl y ↦ (let a = subst (λ k. length (f k).branches < length (g k).branches) y.0 less in let b = budget_same n f g h in omega arith)
      | inr y ↦ (let a = h n in let b = budget_less n f g p h (let ne = y.0 in omega arith) less in omega arith)
    ]

behind_shorter : {A : Type 0} (xs : List A) → length (behind_first xs) ≤ length xs
behind_shorter [] = omega arith
behind_shorter (x ∷ xs) = omega arith

popped_shorter : (a : Action) (L : Answers) → length (answers_after a L).branches ≤ length L.branches
popped_shorter (Choose k n b) L = behind_shorter L.branches
popped_shorter (Run k) L = le_refl _
popped_shorter (Send q l ws) L = le_refl _
popped_shorter (Recv q l ws) L = le_refl _
popped_shorter (Enter j []) L = le_refl _
popped_shorter (Enter j (x ∷ ws)) L = le_refl _
popped_shorter (Leave j ws) L = le_refl _

all_shorter : (s : List Action) (L : Answers) → length (answers_after_all s L).branches ≤ length L.branches
all_shorter [] L = le_refl _
all_shorter (a ∷ s) L = le_trans (all_shorter s (answers_after a L)) (popped_shorter a L)

-- more loops in which a rank takes part
abbrev pub Le : List Bool → List Bool → Type 0
Le u v = (n : ℕ) → nth u n ≡ true → nth v n ≡ true

pub le_under : (b c : Bool) (u v : List Bool) → (b ≡ true → c ≡ true) → Le u v → Le (b ∷ u) (c ∷ v)
le_under b c u v h l zero e = h e
le_under b c u v h l (suc n) e = l n e

mutual
  pub part_more : (u v : List Bool) (r : ℕ) (g : Block) → Le u v → takes_part u r g ≡ true → takes_part v r g ≡ true
  part_more u v r stop l h = h
  part_more u v r (message origin p q m g) l h =
      elim (or_cases (p == r) _ h) [
        | inl y ↦ or_left (p == r) ((q == r) || takes_part v r g) y
        | inr y ↦ elim (or_cases (q == r) _ y) [
          | inl z ↦ or_right (p == r) _ (or_left (q == r) (takes_part v r g) z)
          | inr z ↦ or_right (p == r) _ (or_right (q == r) _ (part_more u v r g l z))
        ]
      ]
  part_more u v r (compute origin p k g) l h =
      elim (or_cases (p == r) _ h) [ inl y ↦ or_left (p == r) (takes_part v r g) y | inr y ↦ or_right (p == r) _ (part_more u v r g l y) ]
  part_more u v r (together origin j g) l h = refl
  part_more u v r (choice origin p k bs g) l h =
      elim (or_cases (in_choice u r p bs) _ h) [
        | inr y ↦ or_right (in_choice v r p bs) _ (part_more u v r g l y)
        | inl y ↦ or_left (in_choice v r p bs) (takes_part v r g) (elim (or_cases (p == r) _ y) [
          | inl z ↦ or_left (p == r) (takes_part_among v r bs) z
          | inr z ↦ or_right (p == r) _ (part_more_among u v r bs l z)
        ])
      ]
  part_more u v r (looped origin b g) l h =
      elim (or_cases (takes_part (false ∷ u) r b) _ h) [
        | inl y ↦ or_left (takes_part (false ∷ v) r b) (takes_part v r g) (part_more (false ∷ u) (false ∷ v) r b (le_under false false u v (λ e. e) l) y)
        | inr y ↦ or_right (takes_part (false ∷ v) r b) _ (part_more u v r g l y)
      ]
  part_more u v r (again n) l h = l n h

  pub part_more_among : (u v : List Bool) (r : ℕ) (bs : Branches) → Le u v → takes_part_among u r bs ≡ true → takes_part_among v r bs ≡ true
  part_more_among u v r no_branch l h = h
  part_more_among u v r (branch mark b bs) l h =
      elim (or_cases (takes_part u r b) (takes_part_among u r bs) h) [ inl y ↦ or_left (takes_part v r b) (takes_part_among v r bs) (part_more u v r b l y) | inr y ↦ or_right (takes_part v r b) _ (part_more_among u v r bs l y) ]

-- what is below is all at its end
abbrev pub tail_stops : List Frame → Bool
tail_stops [] = true
tail_stops (f ∷ K) = is_stop f.rest && tail_stops K

abbrev pub Body_ends : Opener → Type 0
Body_ends Top = Unit {0}
Body_ends (Chosen p bs) = Unit {0}
Body_ends (Body b) = Ends_before b

abbrev pub Loop_ends : Opener → Type 0
Loop_ends Top = Unit {0}
Loop_ends (Chosen p bs) = Unit {0}
Loop_ends (Body b) = (can_end b ≡ true) × Loops_end b

-- the rules on endings, for a stack
abbrev pub Stack_ends : List Frame → Type 0
Stack_ends [] = Unit {0}
Stack_ends (f ∷ K) = Ends_before f.rest × Body_ends f.opener × (tail_stops K ≡ false → Loops_end f.rest × Loop_ends f.opener) × Stack_ends K

ends_back : (K : List Frame) → Stack_ends K → (n : ℕ) → Stack_ends (back K n)
ends_back [] c n = tt
ends_back (f ∷ K) c n = go f.opener n c.1 (λ h. (c.2 h).1) (ends_back K c.3)
  where
    go : (o : Opener) (n : ℕ) → Body_ends o → (tail_stops K ≡ false → Loop_ends o) → ((n : ℕ) → Stack_ends (back K n)) → Stack_ends (back_over o n K (back K))
    go Top n d h ih = ih n
    go (Chosen p bs) n d h ih = ih n
    go (Body b) zero d h ih = (d, d, (λ t. ((h t).1, h t)), c.3)
    go (Body b) (suc n) d h ih = ih n

pub ends_move : (o : Opener) (K : List Frame) (g : Block) (i : ℕ) → Stack_ends (record { opener = o; rest = g } ∷ K) → Stack_ends (move o K g i)
ends_move o K stop i c = c.3
ends_move o K (message origin p q l g) i c = (c.0, c.1, c.2, c.3)
ends_move o K (compute origin p k g) i c = (c.0, c.1, c.2, c.3)
ends_move o K (together origin j g) i c = (c.0, c.1, c.2, c.3)
ends_move o K (choice origin p k bs g) i c =
    let all : (u : Bool) → is_stop g ≡ u → (u && tail_stops K) ≡ false → Loops_end_each bs = λ u. elim u as (λ u. is_stop g ≡ u → (u && tail_stops K) ≡ false → Loops_end_each bs) [
      | true ↦ λ e h. (c.2 h).0.0
      | false ↦ λ e h. (c.0.0 e).1
    ] in
    (ends_before_at bs i c.0.1, tt, (λ h. (loops_end_at bs i (all (is_stop g) refl h), tt)), (c.0.2, c.1, (λ h. ((c.2 h).0.1, (c.2 h).1)), c.3))
ends_move o K (looped origin x g) i c =
    let all : (u : Bool) → is_stop g ≡ u → (u && tail_stops K) ≡ false → (can_end x ≡ true) × Loops_end x = λ u. elim u as (λ u. is_stop g ≡ u → (u && tail_stops K) ≡ false → (can_end x ≡ true) × Loops_end x) [
      | true ↦ λ e h. ((c.2 h).0.0, (c.2 h).0.1)
      | false ↦ λ e h. c.0.0 e
    ] in
    (c.0.1, c.0.1, (λ h. (let l = all (is_stop g) refl h in (l.1, l))), (c.0.2, c.1, (λ h. ((c.2 h).0.2, (c.2 h).1)), c.3))
ends_move o K (again n) i c = ends_back (record { opener = o; rest = again n } ∷ K) c n

module _ (w : Setting) (protocol : Block) (r : ℕ) (is_rank : r < w.total) (b : ℕ) where
  abbrev pub steps : State → State
  steps = next w

  abbrev pub does : State → List (ℕ × Action)
  does = emit w

  abbrev pub at : List Frame → (ℕ → Answers) → State
  at K left = record { stack = K; left = left }

  abbrev pub Does_more : State → Type 0
  Does_more q = (n : ℕ) × (a : Action) × (s : List Action) × (of_rank r (emitted does steps n q) ≡ a ∷ s)

  -- from a state, the rank acts, or a choice uses an answer, or the stack comes to be as P says
  pub data Out (q : State) (P : List Frame → Type 0) : Type 0 where
    acts : Does_more q → Out q P
    spends : (n : ℕ) → budget w.total (state_after does steps n q).left < b → Out q P
    comes : (n : ℕ) → P (state_after does steps n q).stack → budget w.total (state_after does steps n q).left ≤ b → Out q P

  pub more_back : (q : State) → Does_more (steps q) → Does_more q
  more_back q h = go (of_rank r (does q)) refl
    where
      go : (s : List Action) → of_rank r (does q) ≡ s → Does_more q
      go [] e = (suc h.0, h.1, h.2, of_append r (does q) (emitted does steps h.0 (steps q)) ∙ ap (λ l. l ++ of_rank r (emitted does steps h.0 (steps q))) e ∙ h.3)
      go (a ∷ s) e = (1, a, s, of_append r (does q) [] ∙ append-nil _ ∙ e)

  -- it acts in this step
  pub now : (q : State) (a : Action) (s : List Action) → of_rank r (does q) ≡ a ∷ s → Does_more q
  now q a s e = (1, a, s, of_append r (does q) [] ∙ append-nil _ ∙ e)

  step_out : (q : State) (P : List Frame → Type 0) → Out (steps q) P → Out q P
  step_out q P (acts h) = acts (more_back q h)
  step_out q P (spends n h) = spends (suc n) h
  step_out q P (comes n h le) = comes (suc n) h le

  shift_out : (n : ℕ) (q : State) (P : List Frame → Type 0) → Out (state_after does steps n q) P → Out q P
  shift_out zero q P h = h
  shift_out (suc n) q P h = step_out q P (shift_out n (steps q) P h)

  then_out : (q : State) (P R : List Frame → Type 0) → Out q P → ((q : State) → P q.stack → budget w.total q.left ≤ b → Out q R) → Out q R
  then_out q P R (acts h) k = acts h
  then_out q P R (spends n h) k = spends n h
  then_out q P R (comes n h le) k = shift_out n q R (k (state_after does steps n q) h le)

  -- a step leaves no more answers
  step_budget : (q : State) → budget w.total q.left ≤ b → budget w.total (steps q).left ≤ b
  step_budget q le = le_trans (budget_same w.total (steps q).left q.left (λ p. all_shorter (of_rank p (does q)) (q.left p))) le

  -- a choice uses an answer, or takes the first branch that can end
  choice_out : {origin : Origin} (o : Opener) (K : List Frame) (p k : ℕ) (xs : Branches) (g : Block) (left : ℕ → Answers) (P : List Frame → Type 0) → p < w.total → budget w.total left ≤ b → ((left p).branches ≡ [] → Out (steps (at (record { opener = o; rest = choice origin p k xs g } ∷ K) left)) P) → Out (at (record { opener = o; rest = choice origin p k xs g } ∷ K) left) P
  choice_out {origin = origin} o K p k xs g left P lt le go = by (left p).branches refl
    where
      q : State
      q = at (record { opener = o; rest = choice origin p k xs g } ∷ K) left

      by : (bs : List ℕ) → (left p).branches ≡ bs → Out (at (record { opener = o; rest = choice origin p k xs g } ∷ K) left) P
      by [] e = step_out (at (record { opener = o; rest = choice origin p k xs g } ∷ K) left) P (go e)
      by (c ∷ cs) e =
          let q : State = at (record { opener = o; rest = choice origin p k xs g } ∷ K) left in
          let one : of_rank p (does q) ≡ Choose k (count xs) (branch_now w left p k xs) ∷ [] = internal_self p (Choose k (count xs) (branch_now w left p k xs)) in
          let is : length (answers_after_all (of_rank p (does q)) (left p)).branches ≡ length cs =
          ap (λ s. length (answers_after_all s (left p)).branches) one ∙ ap (λ l. length (behind_first l)) e in
          let fewer : length (answers_after_all (of_rank p (does q)) (left p)).branches < length (left p).branches = omega (arith, is, ap length e) in
          spends 1 (lt_of_lt_of_le (budget_less w.total (steps q).left left p (λ i. all_shorter (of_rank i (does q)) (left i)) lt fewer) le)

  -- which branch that is
  taken_ends : (p k : ℕ) (bs : Branches) (left : ℕ → Answers) → (left p).branches ≡ [] → some_can_end bs ≡ true → can_end (branch_at (branch_now w left p k bs) bs) ≡ true
  taken_ends p k bs left e h =
      subst (λ l. can_end (branch_at (first_or l (λ i. is_allowed w p (Choose k (count bs) i)) (first_ending bs)) bs) ≡ true) (sym e) (first_ending_ends bs h)

  -- go on from a stack that has come
  from_stack : (q : State) (K : List Frame) (P : List Frame → Type 0) → q.stack ≡ K → Out (at K q.left) P → Out q P
  from_stack q K P e h = subst (λ X. Out (at X q.left) P) (sym e) h

  abbrev Is : List Frame → List Frame → Type 0
  Is K X = X ≡ K

  abbrev Ends_at : Block → Type 0
  Ends_at g = (o : Opener) (K : List Frame) (left : ℕ → Answers) → can_end g ≡ true → Keeps w.total (env_over o (env_of K)) g → budget w.total left ≤ b → Out (at (record { opener = o; rest = g } ∷ K) left) (Is K)

  -- A: a block that can end comes to its end
  mutual
    ends_at : (g : Block) (o : Opener) (K : List Frame) (left : ℕ → Answers) → can_end g ≡ true → Keeps w.total (env_over o (env_of K)) g → budget w.total left ≤ b → Out (at (record { opener = o; rest = g } ∷ K) left) (Is K)
    ends_at stop o K left c k le = comes 1 refl (step_budget (at (record { opener = o; rest = stop } ∷ K) left) le)
    ends_at (message origin p q l g) o K left c k le =
        let s : State = at (record { opener = o; rest = message origin p q l g } ∷ K) left in
        step_out s (Is K) (ends_at g o K (steps s).left c k.3 (step_budget s le))
    ends_at (compute origin p j g) o K left c k le =
        let s : State = at (record { opener = o; rest = compute origin p j g } ∷ K) left in
        step_out s (Is K) (ends_at g o K (steps s).left c k.1 (step_budget s le))
    ends_at (together origin j g) o K left c k le =
        let s : State = at (record { opener = o; rest = together origin j g } ∷ K) left in
        step_out s (Is K) (ends_at g o K (steps s).left c k.1 (step_budget s le))
    ends_at (choice origin p j bs g) o K left c k le =
        let s : State = at (record { opener = o; rest = choice origin p j bs g } ∷ K) left in
        let cs = and_parts _ _ c in
        let i = branch_now w left p j bs in
        let here : List Frame = record { opener = o; rest = g } ∷ K in
        choice_out o K p j bs g left (Is K) k.0 le (λ e.
        then_out (steps s) (Is here) (Is K) (ends_at_each bs i (Chosen p bs) here (steps s).left (taken_ends p j bs left e cs.0) (keeps_at w.total (env_over o (env_of K)) bs i k.3) (step_budget s le))
        (λ q is le'. from_stack q here (Is K) is (ends_at g o K q.left cs.1 k.4 le')))
    ends_at (looped origin x g) o K left c k le =
        let s : State = at (record { opener = o; rest = looped origin x g } ∷ K) left in
        let cs = and_parts _ _ c in
        let here : List Frame = record { opener = o; rest = g } ∷ K in
        step_out s (Is K) (then_out (steps s) (Is here) (Is K) (ends_at x (Body x) here (steps s).left cs.0 k.0 (step_budget s le))
        (λ q is le'. from_stack q here (Is K) is (ends_at g o K q.left cs.1 k.1 le')))
    ends_at (again n) o K left c k le = cc

    ends_at_each : (bs : Branches) (i : ℕ) → Ends_at (branch_at i bs)
    ends_at_each no_branch i o K left c k le = comes 1 refl (step_budget (at (record { opener = o; rest = stop } ∷ K) left) le)
    ends_at_each (branch mark g bs) zero o K left c k le = ends_at g o K left c k le
    ends_at_each (branch mark g bs) (suc i) o K left c k le = ends_at_each bs i o K left c k le

  -- D: a rank that receives first acts
  abbrev Receives_at : Block → Type 0
  Receives_at g = (p : ℕ) (o : Opener) (K : List Frame) (left : ℕ → Answers) → Receives_first (at_rank r (env_over o (env_of K))) r p g → Keeps w.total (env_over o (env_of K)) g → Ends_before g → budget w.total left ≤ b → Out (at (record { opener = o; rest = g } ∷ K) left) (λ X. ⊥)

  not_last : (g : Block) (env : List Bool) (p : ℕ) → Receives_first env r p g → is_stop g ≡ false
  not_last stop env p h = absurd h
  not_last (message origin p' q l g) env p h = refl
  not_last (compute origin p' k g) env p h = refl
  not_last (together origin j g) env p h = refl
  not_last (choice origin p' k bs g) env p h = refl
  not_last (looped origin x g) env p h = refl
  not_last (again n) env p h = refl

  mutual
    receives_at : (g : Block) → Receives_at g
    receives_at stop p o K left h k f le = absurd h
    receives_at (message origin p' q l g) p o K left h k f le =
        let s : State = at (record { opener = o; rest = message origin p' q l g } ∷ K) left in
        let e = at_rank r (env_over o (env_of K)) in
        elim (eqb_cases p' r) [
          | inl y ↦ absurd (subst (λ u. MatchBool u ⊥ (MatchBool (q == r) (p' ≡ p) (Receives_first e r p g))) y.1 h)
          | inr y ↦
              let h' = subst (λ u. MatchBool u ⊥ (MatchBool (q == r) (p' ≡ p) (Receives_first e r p g))) y.1 h in
              elim (eqb_cases q r) [
                | inl z ↦ acts (now s _ _ (subst (λ i. of_rank i (does s) ≡ Recv p' l (words_now w left p' q l) ∷ []) z.0 (message_receiver p' q l _ k.2)))
                | inr z ↦ step_out s (λ X. ⊥) (receives_at g p o K (steps s).left (subst (λ u. MatchBool u (p' ≡ p) (Receives_first e r p g)) z.1 h') k.3 f (step_budget s le))
              ]
        ]
    receives_at (compute origin p' j g) p o K left h k f le =
        let s : State = at (record { opener = o; rest = compute origin p' j g } ∷ K) left in
        let e = at_rank r (env_over o (env_of K)) in
        elim (eqb_cases p' r) [
          | inl y ↦ absurd (subst (λ u. MatchBool u ⊥ (Receives_first e r p g)) y.1 h)
          | inr y ↦ step_out s (λ X. ⊥) (receives_at g p o K (steps s).left (subst (λ u. MatchBool u ⊥ (Receives_first e r p g)) y.1 h) k.1 f (step_budget s le))
        ]
    receives_at (together origin j g) p o K left h k f le = absurd h
    receives_at (choice origin p' j bs g) p o K left h k f le =
        let s : State = at (record { opener = o; rest = choice origin p' j bs g } ∷ K) left in
        let e = at_rank r (env_over o (env_of K)) in
        let i = branch_now w left p' j bs in
        let here : List Frame = record { opener = o; rest = g } ∷ K in
        let kept = keeps_at w.total (env_over o (env_of K)) bs i k.3 in
        elim (cases_Bool (p' == r)) [
          | inl v ↦ absurd (subst (λ u. MatchBool u ⊥ (MatchBool (takes_part_among e r bs) (Receives_each e r p bs) (Receives_first e r p g))) v h)
          | inr v ↦
              let h' = subst (λ u. MatchBool u ⊥ (MatchBool (takes_part_among e r bs) (Receives_each e r p bs) (Receives_first e r p g))) v h in
              elim (cases_Bool (takes_part_among e r bs)) [
                | inl z ↦
                    let all = subst (λ u. MatchBool u (Receives_each e r p bs) (Receives_first e r p g)) z h' in
                    step_out s (λ X. ⊥) (receives_at_each bs i p (Chosen p' bs) here (steps s).left (receives_in e r p bs i (branch_less w left p' j bs k.1) all) kept (ends_before_at bs i f.1) (step_budget s le))
                | inr z ↦
                    let rest = subst (λ u. MatchBool u (Receives_each e r p bs) (Receives_first e r p g)) z h' in
                    let ends = f.0 (not_last g e p rest) in
                    choice_out o K p' j bs g left (λ X. ⊥) k.0 le (λ none.
                    then_out (steps s) (Is here) (λ X. ⊥) (ends_at_each bs i (Chosen p' bs) here (steps s).left (taken_ends p' j bs left none ends.0) kept (step_budget s le))
                    (λ q is le'. from_stack q here (λ X. ⊥) is (receives_at g p o K q.left rest k.4 f.2 le')))
              ]
        ]
    receives_at (looped origin x g) p o K left h k f le =
        let s : State = at (record { opener = o; rest = looped origin x g } ∷ K) left in
        let e = at_rank r (env_over o (env_of K)) in
        let here : List Frame = record { opener = o; rest = g } ∷ K in
        elim (cases_Bool (takes_part (false ∷ e) r x)) [
          | inl z ↦
              let inner = subst (λ u. MatchBool u (Receives_first (true ∷ e) r p x) (Receives_first e r p g)) z h in
              step_out s (λ X. ⊥) (receives_at x p (Body x) here (steps s).left (subst (λ u. Receives_first (u ∷ e) r p x) (sym z) inner) k.0 f.1 (step_budget s le))
          | inr z ↦
              let rest = subst (λ u. MatchBool u (Receives_first (true ∷ e) r p x) (Receives_first e r p g)) z h in
              let ends = f.0 (not_last g e p rest) in
              step_out s (λ X. ⊥) (then_out (steps s) (Is here) (λ X. ⊥) (ends_at x (Body x) here (steps s).left ends.0 k.0 (step_budget s le))
              (λ q is le'. from_stack q here (λ X. ⊥) is (receives_at g p o K q.left rest k.1 f.2 le')))
        ]
    receives_at (again n) p o K left h k f le = absurd h

    receives_at_each : (bs : Branches) (i : ℕ) → Receives_at (branch_at i bs)
    receives_at_each no_branch i p o K left h k f le = absurd h
    receives_at_each (branch mark g bs) zero p o K left h k f le = receives_at g p o K left h k f le
    receives_at_each (branch mark g bs) (suc i) p o K left h k f le = receives_at_each bs i p o K left h k f le

  -- B: a rank that takes part in a block acts, or the run goes back to a loop in which it takes part by u
  abbrev Back : List Bool → Opener → List Frame → List Frame → Type 0
  Back u o K X = (m : ℕ) × (nth u m ≡ true) × (X ≡ back_over o m K (back K))

  part_not_last : (u : List Bool) (g : Block) → takes_part u r g ≡ true → is_stop g ≡ false
  part_not_last u stop h = cc
  part_not_last u (message origin p q l g) h = refl
  part_not_last u (compute origin p k g) h = refl
  part_not_last u (together origin j g) h = refl
  part_not_last u (choice origin p k bs g) h = refl
  part_not_last u (looped origin x g) h = refl
  part_not_last u (again n) h = refl

  goes_back : (g : Block) (u : List Bool) (o : Opener) (K : List Frame) (left : ℕ → Answers) → takes_part u r g ≡ true → Le u (at_rank r (env_over o (env_of K))) → Keeps w.total (env_over o (env_of K)) g → Ends_before g → budget w.total left ≤ b → Out (at (record { opener = o; rest = g } ∷ K) left) (Back u o K)
  goes_back stop u o K left h l k f le = cc
  goes_back (message origin p q m g) u o K left h l k f le =
      let s : State = at (record { opener = o; rest = message origin p q m g } ∷ K) left in
      elim (eqb_cases p r) [
        | inl y ↦ acts (now s _ _ (subst (λ i. of_rank i (does s) ≡ Send q m (words_now w left p q m) ∷ []) y.0 (message_sender p q m _ k.2)))
        | inr y ↦ elim (eqb_cases q r) [
          | inl z ↦ acts (now s _ _ (subst (λ i. of_rank i (does s) ≡ Recv p m (words_now w left p q m) ∷ []) z.0 (message_receiver p q m _ k.2)))
          | inr z ↦
              let rest : takes_part u r g ≡ true = sym (ap₂ (λ v w. v || (w || takes_part u r g)) y.1 z.1) ∙ h in
              step_out s (Back u o K) (goes_back g u o K (steps s).left rest l k.3 f (step_budget s le))
        ]
      ]
  goes_back (compute origin p j g) u o K left h l k f le =
      let s : State = at (record { opener = o; rest = compute origin p j g } ∷ K) left in
      elim (eqb_cases p r) [
        | inl y ↦ acts (now s _ _ (subst (λ i. of_rank i (does s) ≡ Run j ∷ []) y.0 (internal_self p (Run j))))
        | inr y ↦
            let rest : takes_part u r g ≡ true = sym (ap (λ v. v || takes_part u r g) y.1) ∙ h in
            step_out s (Back u o K) (goes_back g u o K (steps s).left rest l k.1 f (step_budget s le))
      ]
  goes_back (together origin j g) u o K left h l k f le =
      let s : State = at (record { opener = o; rest = together origin j g } ∷ K) left in
      acts (now s _ _ (together_of w protocol left origin j g r is_rank))
  goes_back (choice origin p j bs g) u o K left h l k f le =
      let s : State = at (record { opener = o; rest = choice origin p j bs g } ∷ K) left in
      let e = at_rank r (env_over o (env_of K)) in
      let i = branch_now w left p j bs in
      let here : List Frame = record { opener = o; rest = g } ∷ K in
      let kept = keeps_at w.total (env_over o (env_of K)) bs i k.3 in
      let src = source_of (firsts_among e r bs) in
      elim (eqb_cases p r) [
        | inl v ↦ acts (now s _ _ (subst (λ q. of_rank q (does s) ≡ Choose j (count bs) i ∷ []) v.0 (internal_self p (Choose j (count bs) i))))
        | inr v ↦ elim (cases_Bool (takes_part_among e r bs)) [
          | inl z ↦
              let told = k.2 r is_rank v.1 z in
              step_out s (Back u o K) (then_out (steps s) (λ X. ⊥) (Back u o K)
              (receives_at_each bs i src (Chosen p bs) here (steps s).left (receives_in e r src bs i (branch_less w left p j bs k.1) told.receives) kept (ends_before_at bs i f.1) (step_budget s le))
              (λ q no' le'. absurd no'))
          | inr z ↦
              let rest : takes_part u r g ≡ true =
              elim (or_cases (in_choice u r p bs) (takes_part u r g) h) [
                | inr x ↦ x
                | inl x ↦ elim (or_cases (p == r) (takes_part_among u r bs) x) [
                  | inl a ↦ (let c = v.1 in cc)
                  | inr a ↦ (let c = part_more_among u e r bs l a in cc)
                ]
              ] in
              let ends = f.0 (part_not_last u g rest) in
              choice_out o K p j bs g left (Back u o K) k.0 le (λ none.
              then_out (steps s) (Is here) (Back u o K) (ends_at_each bs i (Chosen p bs) here (steps s).left (taken_ends p j bs left none ends.0) kept (step_budget s le))
              (λ q is le'. from_stack q here (Back u o K) is (goes_back g u o K q.left rest l k.4 f.2 le')))
        ]
      ]
  goes_back (looped origin x g) u o K left h l k f le =
      let s : State = at (record { opener = o; rest = looped origin x g } ∷ K) left in
      let e = at_rank r (env_over o (env_of K)) in
      let here : List Frame = record { opener = o; rest = g } ∷ K in
      elim (cases_Bool (takes_part (false ∷ u) r x)) [
        | inl z ↦ step_out s (Back u o K) (then_out (steps s) (Back (false ∷ u) (Body x) here) (Back u o K)
            (goes_back x (false ∷ u) (Body x) here (steps s).left z (le_under false (takes_part (false ∷ e) r x) u e (λ n. cc) l) k.0 f.1 (step_budget s le))
            (λ q h' le'. outer q h'.0 h'.1 h'.2 le'))
        | inr z ↦
            let rest : takes_part u r g ≡ true = sym (ap (λ v. v || takes_part u r g) z) ∙ h in
            let ends = f.0 (part_not_last u g rest) in
            step_out s (Back u o K) (then_out (steps s) (Is here) (Back u o K) (ends_at x (Body x) here (steps s).left ends.0 k.0 (step_budget s le))
            (λ q is le'. from_stack q here (Back u o K) is (goes_back g u o K q.left rest l k.1 f.2 le')))
      ]
    where
      outer : (q : State) (m : ℕ) → nth (false ∷ u) m ≡ true → q.stack ≡ back_over (Body x) m (record { opener = o; rest = g } ∷ K) (back (record { opener = o; rest = g } ∷ K)) → budget w.total q.left ≤ b → Out q (Back u o K)
      outer q zero n e le' = cc
      outer q (suc m) n e le' = comes 0 (m, n, e) le'
  goes_back (again n) u o K left h l k f le = comes 1 (n, h, refl) (step_budget (at (record { opener = o; rest = again n } ∷ K) left) le)

  -- C: a block that can't end, and in which the rank takes no part, goes back to a loop in which it takes none
  abbrev Dead_back : Opener → List Frame → List Frame → Type 0
  Dead_back o K X = (m : ℕ) × (nth (at_rank r (env_over o (env_of K))) m ≡ false) × (m < length (env_over o (env_of K))) × (X ≡ back_over o m K (back K))

  abbrev Leaves_at : Block → Type 0
  Leaves_at g = (o : Opener) (K : List Frame) (left : ℕ → Answers) → can_end g ≡ false → Loops_end g → takes_part (at_rank r (env_over o (env_of K))) r g ≡ false → Keeps w.total (env_over o (env_of K)) g → budget w.total left ≤ b → Out (at (record { opener = o; rest = g } ∷ K) left) (Dead_back o K)

  and_rest : (c d : Bool) → (c && d) ≡ false → c ≡ true → d ≡ false
  and_rest c d h e = sym (ap (λ v. v && d) e) ∙ h

  mutual
    leaves : (g : Block) (o : Opener) (K : List Frame) (left : ℕ → Answers) → can_end g ≡ false → Loops_end g → takes_part (at_rank r (env_over o (env_of K))) r g ≡ false → Keeps w.total (env_over o (env_of K)) g → budget w.total left ≤ b → Out (at (record { opener = o; rest = g } ∷ K) left) (Dead_back o K)
    leaves stop o K left c l out k le = cc
    leaves (message origin p q m g) o K left c l out k le =
        let s : State = at (record { opener = o; rest = message origin p q m g } ∷ K) left in
        step_out s (Dead_back o K) (leaves g o K (steps s).left c l (or_parts (q == r) _ (or_parts (p == r) _ out).1).1 k.3 (step_budget s le))
    leaves (compute origin p j g) o K left c l out k le =
        let s : State = at (record { opener = o; rest = compute origin p j g } ∷ K) left in
        step_out s (Dead_back o K) (leaves g o K (steps s).left c l (or_parts (p == r) _ out).1 k.1 (step_budget s le))
    leaves (together origin j g) o K left c l out k le = cc
    leaves (choice origin p j bs g) o K left c l out k le =
        let s : State = at (record { opener = o; rest = choice origin p j bs g } ∷ K) left in
        let e = at_rank r (env_over o (env_of K)) in
        let i = branch_now w left p j bs in
        let here : List Frame = record { opener = o; rest = g } ∷ K in
        let kept = keeps_at w.total (env_over o (env_of K)) bs i k.3 in
        let parts = or_parts _ (takes_part e r g) out in
        choice_out o K p j bs g left (Dead_back o K) k.0 le (λ none.
        elim (cases_Bool (some_can_end bs)) [
          | inl z ↦ then_out (steps s) (Is here) (Dead_back o K) (ends_at_each bs i (Chosen p bs) here (steps s).left (taken_ends p j bs left none z) kept (step_budget s le))
              (λ q is le'. from_stack q here (Dead_back o K) is (leaves g o K q.left (and_rest _ _ c z) l.1 parts.1 k.4 le'))
          | inr z ↦ leaves_each bs i (Chosen p bs) here (steps s).left (none_ends bs i (branch_less w left p j bs k.1) z) (loops_end_at bs i l.0) (no_part_at e r bs i (or_parts (p == r) _ parts.0).1) kept (step_budget s le)
        ])
    leaves (looped origin x g) o K left c l out k le =
        let s : State = at (record { opener = o; rest = looped origin x g } ∷ K) left in
        let here : List Frame = record { opener = o; rest = g } ∷ K in
        step_out s (Dead_back o K) (then_out (steps s) (Is here) (Dead_back o K) (ends_at x (Body x) here (steps s).left l.0 k.0 (step_budget s le))
        (λ q is le'. from_stack q here (Dead_back o K) is (leaves g o K q.left (and_rest _ _ c l.0) l.2 (or_parts _ _ out).1 k.1 le')))
    leaves (again n) o K left c l out k le = comes 1 (n, out, k, refl) (step_budget (at (record { opener = o; rest = again n } ∷ K) left) le)

    leaves_each : (bs : Branches) (i : ℕ) → Leaves_at (branch_at i bs)
    leaves_each no_branch i o K left c l out k le = cc
    leaves_each (branch mark g bs) zero o K left c l out k le = leaves g o K left c l out k le
    leaves_each (branch mark g bs) (suc i) o K left c l out k le = leaves_each bs i o K left c l out k le

  -- back in a loop in which it takes part, a rank acts
  loop_acts : (K : List Frame) → Stack_keeps w.total K → Stack_ends K → (m : ℕ) → nth (at_rank r (env_of K)) m ≡ true → (left : ℕ → Answers) → budget w.total left ≤ b → Out (at (back K m) left) (λ X. ⊥)
  loop_acts [] k s m h left le = cc
  loop_acts (f ∷ K) k s m h left le = go f.opener m h k.1 s.1 (loop_acts K k.2 s.3)
    where
      go : (o : Opener) (m : ℕ) → nth (at_rank r (env_over o (env_of K))) m ≡ true → Body_keeps w.total o (env_of K) → Body_ends o → ((m : ℕ) → nth (at_rank r (env_of K)) m ≡ true → (left : ℕ → Answers) → budget w.total left ≤ b → Out (at (back K m) left) (λ X. ⊥)) → Out (at (back_over o m K (back K)) left) (λ X. ⊥)
      go Top m h k s ih = ih m h left le
      go (Chosen p bs) m h k s ih = ih m h left le
      go (Body x) (suc m) h k s ih = ih m h left le
      go (Body x) zero h k s ih =
          let e = at_rank r (env_of K) in
          then_out (at (record { opener = Body x; rest = x } ∷ K) left) (Back (false ∷ e) (Body x) K) (λ X. ⊥)
          (goes_back x (false ∷ e) (Body x) K left h (le_under false (takes_part (false ∷ e) r x) e e (λ n. cc) (λ n t. t)) k s le)
          (λ q h' le'. out q h'.0 h'.1 h'.2 le')
        where
          out : (q : State) (m : ℕ) → nth (false ∷ at_rank r (env_of K)) m ≡ true → q.stack ≡ back_over (Body x) m K (back K) → budget w.total q.left ≤ b → Out q (λ X. ⊥)
          out q zero n e le' = cc
          out q (suc m) n e le' = from_stack q (back K m) (λ X. ⊥) e (ih m n q.left le')

  involved_below : (K : List Frame) → involved r K ≡ true → tail_stops K ≡ false
  involved_below [] h = cc
  involved_below (f ∷ K) h =
      elim (or_cases (takes_part (at_rank r (env_of (f ∷ K))) r f.rest) (involved r K) h) [
        | inl y ↦ ap (λ u. u && tail_stops K) (part_not_last (at_rank r (env_of (f ∷ K))) f.rest y)
        | inr y ↦ and_right (is_stop f.rest) (tail_stops K) (involved_below K y)
      ]

  -- a rank that takes part in a stack acts, and so it does where the run goes back over frames in which it takes none
  abbrev pub Acts_from : List Frame → Type 0
  Acts_from K = (left : ℕ → Answers) → budget w.total left ≤ b → Out (at K left) (λ X. ⊥)

  pub stack_acts : (K : List Frame) → Clean r K → Stack_keeps w.total K → Stack_ends K → (involved r K ≡ true → Acts_from K) × ((m : ℕ) → nth (at_rank r (env_of K)) m ≡ false → m < length (env_of K) → involved r K ≡ true → Acts_from (back K m))
  stack_acts [] c k s = ((λ h. cc), (λ m n lt h. cc))
  stack_acts (f ∷ K) c k s =
      let below = stack_acts K c.2 k.2 s.3 in
      let e = at_rank r (env_of (f ∷ K)) in
      let back_acts : (m : ℕ) → nth e m ≡ false → m < length (env_of (f ∷ K)) → involved r (f ∷ K) ≡ true → Acts_from (back (f ∷ K) m) = λ m n lt h left le.
      elim (cases_Bool (live r f.opener (env_of K))) [
        | inl l ↦ (let yes = live_env r (f ∷ K) c l m lt in cc)
        | inr l ↦
            let inner : involved r K ≡ true = elim (or_cases (takes_part e r f.rest) (involved r K) h) [ inl y ↦ (let z = c.0 y in cc) | inr y ↦ y ] in
            dead_frame f.opener K m n lt below.1 below.0 k.1 (λ t. (s.2 t).1) inner left le
      ] in (
        (λ h left le.
            elim (cases_Bool (takes_part e r f.rest)) [
              | inl y ↦ then_out (at (f ∷ K) left) (Back e f.opener K) (λ X. ⊥) (goes_back f.rest e f.opener K left y (λ n t. t) k.0 s.0 le)
                  (λ q h' le'. from_stack q (back (f ∷ K) h'.0) (λ X. ⊥) h'.2 (loop_acts (f ∷ K) k s h'.0 h'.1 q.left le'))
              | inr y ↦
                  let inner : involved r K ≡ true = sym (ap (λ u. u || involved r K) y) ∙ h in
                  elim (cases_Bool (can_end f.rest)) [
                    | inl z ↦ then_out (at (f ∷ K) left) (Is K) (λ X. ⊥) (ends_at f.rest f.opener K left z k.0 le) (λ q is le'. from_stack q K (λ X. ⊥) is (below.0 inner q.left le'))
                    | inr z ↦ then_out (at (f ∷ K) left) (Dead_back f.opener K) (λ X. ⊥) (leaves f.rest f.opener K left z (s.2 (involved_below K inner)).0 y k.0 le)
                        (λ q h' le'. from_stack q (back (f ∷ K) h'.0) (λ X. ⊥) h'.3 (back_acts h'.0 h'.1 h'.2 h q.left le'))
                  ]
            ]),
        back_acts,
      )
    where
      dead_frame : (o : Opener) (K : List Frame) (m : ℕ) → nth (at_rank r (env_over o (env_of K))) m ≡ false → m < length (env_over o (env_of K)) → ((m : ℕ) → nth (at_rank r (env_of K)) m ≡ false → m < length (env_of K) → involved r K ≡ true → Acts_from (back K m)) → (involved r K ≡ true → Acts_from K) → Body_keeps w.total o (env_of K) → (tail_stops K ≡ false → Loop_ends o) → involved r K ≡ true → Acts_from (back_over o m K (back K))
      dead_frame Top K m n lt ih2 ih1 k s inv left le = ih2 m n lt inv left le
      dead_frame (Chosen p bs) K m n lt ih2 ih1 k s inv left le = ih2 m n lt inv left le
      dead_frame (Body x) K (suc m) n lt ih2 ih1 k s inv left le = ih2 m n (omega arith) inv left le
      dead_frame (Body x) K zero n lt ih2 ih1 k s inv left le =
          then_out (at (record { opener = Body x; rest = x } ∷ K) left) (Is K) (λ X. ⊥) (ends_at x (Body x) K left (s (involved_below K inv)).0 k le)
          (λ q is le'. from_stack q K (λ X. ⊥) is (ih1 inv q.left le'))
