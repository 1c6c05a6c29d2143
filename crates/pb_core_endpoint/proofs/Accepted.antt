-- An accepted protocol makes progress, so its endpoints keep the law.
use Rattle.std.proofs.Common.{◌≡◌, ℕ, zero, suc, ◌<◌, ◌≤◌, ◌==◌, true, false, ◌||◌, ◌⊎◌, List, [], ◌∷◌, length, refl, sym, ap, ap₂, ◌∙◌, subst, inl, inr, le_refl, arith}
use Rattle.std.proofs.lemmas.Bool.{eq-eqb, or_cases, or_right, or_left, cases_Bool, or_parts}
use Rattle.pb_world.specs.Actions.{Action, Choose, Run, Send, Recv, of_rank, Answers, AnswerTable}
use Rattle.pb_world.specs.Family.{Laws}
use Rattle.pb_world.specs.Sequencer.{emitted, state_after}
use Rattle.pb_world.proofs.Lists.{eqb_cases}
use Rattle.pb_world.proofs.Sequential.{internal_self, message_sender, message_receiver}
use Rattle.pb_world.proofs.Theorem.{all_ranks}
use Rattle.pb_core_language.specs.Lists.{nth}
use Rattle.pb_core_language.specs.Flat.{Block, stop, message, compute, together, choice, looped, again, Branches, no_branch, branch, takes_part, takes_part_among, count, branch_at}
use Rattle.pb_core_language.specs.Outcomes.{firsts_among, source_of}
use Rattle.pb_core_language.specs.Run.{first_state, Setting, Depends, Opener, Top, Chosen, Body, Frame, Env, at_rank, env_over, env_of, live, back, back_over, move, State, branch_now, words_now, taken_at, emit, next, is_over_at}
use Rattle.pb_core_endpoint.proofs.Kept.{Keeps}
use Rattle.pb_core_endpoint.specs.Theorem.{family, EndpointsDo}
use Rattle.pb_core_endpoint.proofs.Clean.{involved, Clean, Stack_keeps}
use Rattle.pb_core_endpoint.proofs.Stacks.{live_env}
use Rattle.pb_core_endpoint.proofs.Branches.{receives_in, part_first}
use Rattle.pb_core_endpoint.proofs.Keep.{branch_less, together_of, clean_move, keeps_move}
use Rattle.pb_core_endpoint.proofs.Whole.{laws}
use Rattle.pb_core_endpoint.proofs.Kept.{Continued, Continued_each, Obeys}
use Rattle.pb_core_endpoint.proofs.Derive.{obeyed}
use Rattle.pb_core_endpoint.proofs.Progress.{now, budget, le_under, part_more, Stack_ends, ends_move, Does_more, acts, spends, comes, more_back, stack_acts}

continued_at : (T : ℕ) (env : Env) (bs : Branches) (x : ℕ) → Continued_each T env bs → Continued T env (branch_at x bs)
continued_at T env no_branch x k = tt
continued_at T env (branch mark b bs) zero k = k.0
continued_at T env (branch mark b bs) (suc x) k = continued_at T env bs x k.1

module _ (r : ℕ) where
  back_involved : (K : List Frame) (n : ℕ) → nth (at_rank r (env_of K)) n ≡ true → involved r (back K n) ≡ true
  back_involved [] n h = cc
  back_involved (f ∷ K) n h = go f.opener n h (back_involved K)
    where
      go : (o : Opener) (n : ℕ) → nth (at_rank r (env_over o (env_of K))) n ≡ true → ((n : ℕ) → nth (at_rank r (env_of K)) n ≡ true → involved r (back K n) ≡ true) → involved r (back_over o n K (back K)) ≡ true
      go Top n h ih = ih n h
      go (Chosen p bs) n h ih = ih n h
      go (Body x) (suc n) h ih = ih n h
      go (Body x) zero h ih =
          let e = at_rank r (env_of K) in
          or_left (takes_part (takes_part (false ∷ e) r x ∷ e) r x) (involved r K) (part_more (false ∷ e) (takes_part (false ∷ e) r x ∷ e) r x (le_under false (takes_part (false ∷ e) r x) e e (λ n. cc) (λ n t. t)) h)

  back_still : (K : List Frame) → Clean r K → (n : ℕ) → nth (at_rank r (env_of K)) n ≡ false → n < length (env_of K) → involved r K ≡ true → involved r (back K n) ≡ true
  back_still [] c n out lt h = cc
  back_still (f ∷ K) c n out lt h =
      elim (cases_Bool (live r f.opener (env_of K))) [
        | inl l ↦ (let yes = live_env r (f ∷ K) c l n lt in cc)
        | inr l ↦
            let inner : involved r K ≡ true = elim (or_cases (takes_part (at_rank r (env_of (f ∷ K))) r f.rest) (involved r K) h) [ inl y ↦ (let z = c.0 y in cc) | inr y ↦ y ] in
            go f.opener n out lt inner (λ m o' l'. back_still K c.2 m o' l' inner)
      ]
    where
      go : (o : Opener) (n : ℕ) → nth (at_rank r (env_over o (env_of K))) n ≡ false → n < length (env_over o (env_of K)) → involved r K ≡ true → ((n : ℕ) → nth (at_rank r (env_of K)) n ≡ false → n < length (env_of K) → involved r (back K n) ≡ true) → involved r (back_over o n K (back K)) ≡ true
      go Top n out lt h ih = ih n out lt
      go (Chosen p bs) n out lt h ih = ih n out lt
      go (Body x) (suc n) out lt h ih = ih n out (omega arith)
      go (Body x) zero out lt h ih = or_right _ (involved r K) h

module _ (w : Setting) (protocol : Block) where
  abbrev Stays : ℕ → Opener → List Frame → Block → (ℕ → Answers) → Type 0
  Stays r o K g left =
      ((a : Action) × (s : List Action) × (of_rank r (emit w (record { stack = record { opener = o; rest = g } ∷ K; left = left })) ≡ a ∷ s))
      ⊎ (involved r (move o K g (taken_at w g left)) ≡ true)

  -- a rank that takes part still does after a step in which it does nothing
  stays : (r : ℕ) → r < w.total → (o : Opener) (K : List Frame) (g : Block) (left : ℕ → Answers) → Clean r (record { opener = o; rest = g } ∷ K) → Keeps w.total (env_over o (env_of K)) g → involved r (record { opener = o; rest = g } ∷ K) ≡ true → Stays r o K g left
  stays r is_rank o K stop left c k h = inr h
  stays r is_rank o K (message origin p q m g) left c k h =
      let e = at_rank r (env_over o (env_of K)) in
      elim (eqb_cases p r) [
        | inl y ↦ inl (_, _, subst (λ i. of_rank i ((p, Send q m (words_now w left p q m)) ∷ (q, Recv p m (words_now w left p q m)) ∷ []) ≡ Send q m (words_now w left p q m) ∷ []) y.0 (message_sender p q m _ k.2))
        | inr y ↦ elim (eqb_cases q r) [
          | inl z ↦ inl (_, _, subst (λ i. of_rank i ((p, Send q m (words_now w left p q m)) ∷ (q, Recv p m (words_now w left p q m)) ∷ []) ≡ Recv p m (words_now w left p q m) ∷ []) z.0 (message_receiver p q m _ k.2))
          | inr z ↦ inr (sym (ap₂ (λ v w. (v || (w || takes_part e r g)) || involved r K) y.1 z.1) ∙ h)
        ]
      ]
  stays r is_rank o K (compute origin p j g) left c k h =
      let e = at_rank r (env_over o (env_of K)) in
      elim (eqb_cases p r) [
        | inl y ↦ inl (_, _, subst (λ i. of_rank i ((p, Run j) ∷ []) ≡ Run j ∷ []) y.0 (internal_self p (Run j)))
        | inr y ↦ inr (sym (ap (λ v. (v || takes_part e r g) || involved r K) y.1) ∙ h)
      ]
  stays r is_rank o K (together origin j g) left c k h = inl (_, _, together_of w protocol left origin j g r is_rank)
  stays r is_rank o K (choice origin p j bs g) left c k h =
      let e = at_rank r (env_over o (env_of K)) in
      let i = branch_now w left p j bs in
      elim (eqb_cases p r) [
        | inl v ↦ inl (_, _, subst (λ q. of_rank q ((p, Choose j (count bs) i) ∷ []) ≡ Choose j (count bs) i ∷ []) v.0 (internal_self p (Choose j (count bs) i)))
        | inr v ↦ elim (cases_Bool (takes_part_among e r bs)) [
          | inl z ↦
              let told = k.2 r is_rank v.1 z in
              let src = source_of (firsts_among e r bs) in
              inr (or_left (takes_part e r (branch_at i bs)) _ (part_first e r src (branch_at i bs) (receives_in e r src bs i (branch_less w left p j bs k.1) told.receives)))
          | inr z ↦ inr (or_right (takes_part e r (branch_at i bs)) _ (sym (ap₂ (λ v w. ((v || w) || takes_part e r g) || involved r K) v.1 z) ∙ h))
        ]
      ]
  stays r is_rank o K (looped origin x g) left c k h =
      let e = at_rank r (env_over o (env_of K)) in
      elim (cases_Bool (takes_part (false ∷ e) r x)) [
        | inl z ↦ inr (or_left (takes_part (takes_part (false ∷ e) r x ∷ e) r x) _ (part_more (false ∷ e) (takes_part (false ∷ e) r x ∷ e) r x (le_under false (takes_part (false ∷ e) r x) e e (λ n. cc) (λ n t. t)) z))
        | inr z ↦ inr (or_right (takes_part (takes_part (false ∷ e) r x ∷ e) r x) _ (sym (ap (λ v. (v || takes_part e r g) || involved r K) z) ∙ h))
      ]
  stays r is_rank o K (again n) left c k h =
      let f : Frame = record { opener = o; rest = again n } in
      elim (cases_Bool (nth (at_rank r (env_over o (env_of K))) n)) [
        | inl y ↦ inr (back_involved r (f ∷ K) n y)
        | inr y ↦ inr (back_still r (f ∷ K) c n y k h)
      ]

  -- who takes part in the loops of a stack
  abbrev Body_people : Opener → Env → Type 0
  Body_people Top env = Unit {0}
  Body_people (Chosen p bs) env = Unit {0}
  Body_people (Body x) env = Continued w.total (env_over (Body x) env) x

  abbrev Stack_people : List Frame → Type 0
  Stack_people [] = Unit {0}
  Stack_people (f ∷ K) = Continued w.total (env_over f.opener (env_of K)) f.rest × Body_people f.opener (env_of K) × Stack_people K

  people_back : (K : List Frame) → Stack_people K → (n : ℕ) → Stack_people (back K n)
  people_back [] c n = tt
  people_back (f ∷ K) c n = go f.opener n c.1 (people_back K c.2)
    where
      go : (o : Opener) (n : ℕ) → Body_people o (env_of K) → ((n : ℕ) → Stack_people (back K n)) → Stack_people (back_over o n K (back K))
      go Top n d ih = ih n
      go (Chosen p bs) n d ih = ih n
      go (Body b) zero d ih = (d, d, c.2)
      go (Body b) (suc n) d ih = ih n

  people_move : (o : Opener) (K : List Frame) (g : Block) (i : ℕ) → Stack_people (record { opener = o; rest = g } ∷ K) → Stack_people (move o K g i)
  people_move o K stop i c = c.2
  people_move o K (message origin p q l g) i c = c
  people_move o K (compute origin p k g) i c = c
  people_move o K (together origin j g) i c = c
  people_move o K (choice origin p k bs g) i c = (continued_at w.total (env_over o (env_of K)) bs i c.0.0, tt, (c.0.1, c.1, c.2))
  people_move o K (looped origin x g) i c = (c.0.0, c.0.0, (c.0.1, c.1, c.2))
  people_move o K (again n) i c = people_back (record { opener = o; rest = again n } ∷ K) c n

  abbrev Inv : List Frame → Type 0
  Inv K = ((r : ℕ) → Clean r K) × Stack_keeps w.total K × Stack_ends K × Stack_people K

  inv_next : (K : List Frame) (left : ℕ → Answers) → Inv K → Inv (next w (record { stack = K; left = left })).stack
  inv_next [] left i = i
  inv_next (f ∷ K) left i =
      let c = taken_at w f.rest left in
      ((λ r. clean_move r f.opener K f.rest c (i.0 r)), keeps_move w.total f.opener K f.rest c i.1, ends_move f.opener K f.rest c i.2, people_move f.opener K f.rest c i.3)

  module _ (r : ℕ) (is_rank : r < w.total) where
    abbrev More_of : State → Type 0
    More_of q = Does_more w protocol r is_rank 0 q

    abbrev next_of : State → State
    next_of = next w

    abbrev emits : State → List (ℕ × Action)
    emits = emit w

    still : (K : List Frame) (left : ℕ → Answers) → Inv K → involved r K ≡ true → More_of (record { stack = K; left = left }) ⊎ (involved r (next_of (record { stack = K; left = left })).stack ≡ true)
    still [] left i h = cc
    still (f ∷ K) left i h =
        let q : State = record { stack = f ∷ K; left = left } in
        elim (stays r is_rank f.opener K f.rest left (i.0 r) i.1.0 h) [
          | inl a ↦ inl (now w protocol r is_rank 0 q a.0 a.1 a.2)
          | inr y ↦ inr y
        ]

    walk : (m : ℕ) (q : State) → Inv q.stack → involved r q.stack ≡ true → More_of q ⊎ (Inv (state_after emits next_of m q).stack × (involved r (state_after emits next_of m q).stack ≡ true))
    walk zero q i h = inr (i, h)
    walk (suc m) q i h =
        elim (still q.stack q.left i h) [
          | inl a ↦ inl a
          | inr h' ↦ elim (walk m (next_of q) (inv_next q.stack q.left i) h') [ inl a ↦ inl (more_back w protocol r is_rank 0 q a) | inr x ↦ inr x ]
        ]

    more_after : (m : ℕ) (q : State) → More_of (state_after emits next_of m q) → More_of q
    more_after zero q h = h
    more_after (suc m) q h = more_back w protocol r is_rank 0 q (more_after m (next_of q) h)

    -- whatever answers are left, the rank acts
    later : (n : ℕ) (q : State) → budget w.total q.left < n → Inv q.stack → involved r q.stack ≡ true → More_of q
    later zero q lt i h = absurd (omega arith)
    later (suc n) q lt i h =
        elim ((stack_acts w protocol r is_rank (budget w.total q.left) q.stack (i.0 r) i.1 i.2).0 h q.left (le_refl _)) [
          | acts a ↦ a
          | spends m less ↦
              elim (walk m q i h) [
                | inl a ↦ a
                | inr x ↦ more_after m q (later n (state_after emits next_of m q) (omega arith) x.0 x.1)
              ]
          | comes m no' le ↦ absurd no'
        ]

  -- where no rank takes part any more, the run comes to its end
  abbrev Comes : State → List Frame → Type 0
  Comes q K = (n : ℕ) × ((state_after (emit w) (next w) n q).stack ≡ K)

  shift : (n : ℕ) (q : State) (K : List Frame) → Comes (state_after (emit w) (next w) n q) K → Comes q K
  shift zero q K h = h
  shift (suc n) q K h = let c = shift n (next w q) K h in (suc c.0, c.1)

  comes_then : (q : State) (K M : List Frame) → Comes q K → ((left : ℕ → Answers) → Comes (record { stack = K; left = left }) M) → Comes q M
  comes_then q K M h k =
      let p = state_after (emit w) (next w) h.0 q in
      shift h.0 q M (subst (λ X. Comes (record { stack = X; left = p.left }) M) (sym h.1) (k p.left))

  abbrev Nobody_in : Env → Block → Type 0
  Nobody_in env g = (r : ℕ) → r < w.total → takes_part (at_rank r env) r g ≡ false

  block_out : (o : Opener) (K : List Frame) (g : Block) (left : ℕ → Answers) → Keeps w.total (env_over o (env_of K)) g → Continued w.total (env_over o (env_of K)) g → Nobody_in (env_over o (env_of K)) g → Comes (record { stack = record { opener = o; rest = g } ∷ K; left = left }) K
  block_out o K stop left k s h = (1, refl)
  block_out o K (message origin p q l g) left k s h =
      let yes : ((p == p) || ((q == p) || takes_part (at_rank p (env_over o (env_of K))) p g)) ≡ true = or_left (p == p) _ (eq-eqb p p refl) in
      let out = h p k.0 in
      cc
  block_out o K (compute origin p j g) left k s h =
      let yes : ((p == p) || takes_part (at_rank p (env_over o (env_of K))) p g) ≡ true = or_left (p == p) _ (eq-eqb p p refl) in
      let out = h p k.0 in
      cc
  block_out o K (together origin j g) left k s h = let out = h 0 k.0 in cc
  block_out o K (choice origin p j bs g) left k s h =
      let e = at_rank p (env_over o (env_of K)) in
      let yes : (((p == p) || takes_part_among e p bs) || takes_part e p g) ≡ true = or_left _ (takes_part e p g) (or_left (p == p) (takes_part_among e p bs) (eq-eqb p p refl)) in
      let out = h p k.0 in
      cc
  block_out o K (looped origin x g) left k s h =
      let env = env_over o (env_of K) in
      let here : List Frame = record { opener = o; rest = g } ∷ K in
      let q : State = record { stack = record { opener = o; rest = looped origin x g } ∷ K; left = left } in
      let inside : Nobody_in (env_over (Body x) env) x = λ r lt. (let no = (or_parts _ (takes_part (at_rank r env) r g) (h r lt)).0 in subst (λ u. takes_part (u ∷ at_rank r env) r x ≡ false) (sym no) no) in
      let walk = comes_then (next w q) here K (block_out (Body x) here x (next w q).left k.0 s.0 inside) (λ left'. block_out o K g left' k.1 s.1 (λ r lt. (or_parts _ (takes_part (at_rank r env) r g) (h r lt)).1)) in
      (suc walk.0, walk.1)
  block_out o K (again n) left k s h = let out = h s.0 s.1 in let yes = s.2 in cc

  abbrev Nobody : List Frame → Type 0
  Nobody K = (r : ℕ) → r < w.total → involved r K ≡ false

  runs_out : (K : List Frame) (left : ℕ → Answers) → Stack_keeps w.total K → Stack_people K → Nobody K → Comes (record { stack = K; left = left }) []
  runs_out [] left k s h = (0, refl)
  runs_out (f ∷ K) left k s h =
      comes_then (record { stack = f ∷ K; left = left }) K [] (block_out f.opener K f.rest left k.0 s.0 (λ r lt. (or_parts _ (involved r K) (h r lt)).0))
      (λ left'. runs_out K left' k.2 s.2 (λ r lt. (or_parts (takes_part (at_rank r (env_of (f ∷ K))) r f.rest) (involved r K) (h r lt)).1))

  -- some rank takes part, or none does
  someone : (K : List Frame) (n : ℕ) → n ≤ w.total → ((r : ℕ) × (r < w.total) × (involved r K ≡ true)) ⊎ ((r : ℕ) → r < n → involved r K ≡ false)
  someone K zero le = inr (λ r h. absurd (omega arith))
  someone K (suc n) le =
      elim (someone K n (omega arith)) [
        | inl h ↦ inl h
        | inr all ↦ elim (cases_Bool (involved n K)) [
          | inl y ↦ inl (n, omega arith, y)
          | inr y ↦ inr (λ r h. elim (eqb_cases r n) [ inl e ↦ subst (λ k. involved k K ≡ false) (sym e.0) y | inr e ↦ all r (let ne = e.0 in omega arith) ])
        ]
      ]

  ends_or_acts : (q : State) → Inv q.stack → ((n : ℕ) × (is_over_at (state_after (emit w) (next w) n q).stack ≡ true)) ⊎ ((n : ℕ) × (r : ℕ) × (a : Action) × (s : List Action) × (r < w.total) × (of_rank r (emitted (emit w) (next w) n q) ≡ a ∷ s))
  ends_or_acts q i =
      elim (someone q.stack w.total (le_refl w.total)) [
        | inl h ↦ (let m = later h.0 h.1 (suc (budget w.total q.left)) q (omega arith) i h.2 in inr (m.0, h.0, m.1, m.2, h.1, m.3))
        | inr none ↦ (let e = runs_out q.stack q.left i.1 i.3 none in inl (e.0, ap is_over_at e.1))
      ]

  module _ (accepted : Obeys w.total protocol) where
    inv_after : (m : ℕ) (q : State) → Inv q.stack → Inv (state_after (emit w) (next w) m q).stack
    inv_after zero q i = i
    inv_after (suc m) q i = inv_after m (next w q) (inv_next q.stack q.left i)

    inv_first : (A : AnswerTable) → Inv (first_state w protocol A).stack
    inv_first A =
        ((λ r. ((λ h. refl), (λ h. refl), tt)), (accepted.keeps, tt, tt), (accepted.ends, tt, (λ h. cc), tt), (accepted.people, tt, tt))

    pub laws_kept : Depends w → Laws (family w protocol)
    laws_kept depends =
        laws w protocol accepted.keeps
        (λ q g r lt h. later r lt (suc (budget w.total q.left)) q (omega arith) (subst (λ x. Inv x.stack) g.2.2 (inv_after g.2.1 (first_state w protocol g.2.0) (inv_first g.2.0))) h)
        depends
        (λ q g. ends_or_acts q (subst (λ x. Inv x.stack) g.2.2 (inv_after g.2.1 (first_state w protocol g.2.0) (inv_first g.2.0))))

pub bridge_is : EndpointsDo
bridge_is w protocol depends accepted =
    let obeys = obeyed w protocol accepted in
    (laws_kept w protocol obeys depends, all_ranks (family w protocol) (laws_kept w protocol obeys depends))
