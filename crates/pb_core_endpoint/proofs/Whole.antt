-- The endpoints keep the laws of a family, where the protocol makes progress.
use Rattle.std.proofs.Common.{◌≡◌, ℕ, zero, suc, ◌<◌, ◌==◌, Bool, cond, true, false, ◌||◌, ◌⊎◌, List, [], ◌∷◌, ◌++◌, length, refl, sym, ap, ◌∙◌, subst, inl, inr}
use Rattle.std.proofs.lemmas.Bool.{or_right, cases_Bool, or_parts}
use Rattle.pb_world.specs.Actions.{Action, Recv, of_rank, Answers, AnswerTable}
use Rattle.pb_world.specs.Machine.{Follows, ended}
use Rattle.pb_world.specs.Family.{Family, Laws, Statement, nothing}
use Rattle.pb_world.specs.Sequencer.{answers_after_all, emitted, state_after}
use Rattle.pb_world.proofs.Lists.{not_eqb, of_append}
use Rattle.pb_world.proofs.Sequential.{internal_other}
use Rattle.pb_world.proofs.Local.{Leads, there, leads_on, leads_follows, UsesAll, none}
use Rattle.pb_world.proofs.Shadow.{More, Moves, acts, asks, shadow_laws}
use Rattle.pb_core_language.specs.Flat.{Block, stop, message, compute, together, choice, looped, again, takes_part, takes_part_among, branch_at}
use Rattle.pb_core_language.specs.Run.{first_state, Setting, Depends, Opener, Chosen, Frame, at_rank, env_over, env_of, live, State, is_allowed, branch_now, taken_at, emit, next, is_over_at}
use Rattle.pb_core_endpoint.proofs.Kept.{Receives_first, Keeps}
use Rattle.pb_core_language.specs.Lists.{is_among}
use Rattle.pb_core_language.specs.Outcomes.{firsts, firsts_among, source_of, labels_of}
use Rattle.pb_core_endpoint.specs.Endpoint.{Part, code, machine, body_of, shadow}
use Rattle.pb_core_endpoint.specs.Theorem.{family}
use Rattle.pb_core_endpoint.proofs.Clean.{involved, Clean, Stack_keeps}
use Rattle.pb_core_endpoint.proofs.Stacks.{move_dead}
use Rattle.pb_core_endpoint.proofs.Branches.{receives_in, part_first}
use Rattle.pb_core_endpoint.proofs.Keep.{branch_less, clean_move, keeps_move, statement_of, uses_of, First_in, first_live, emits_none, first_step}
use Rattle.pb_core_endpoint.proofs.Moves.{Goes, stop_moves, dead_moves, message_moves, compute_moves, together_moves, loop_moves, again_moves, choice_moves}

module _ (w : Setting) (protocol : Block) (keeps : Keeps w.total [] protocol) where
  abbrev F : Family (List Part)
  F = family w protocol

  abbrev first_at : AnswerTable → State
  first_at = first_state w protocol

  abbrev steps : State → State
  steps = next w

  abbrev does : State → List (ℕ × Action)
  does = emit w

  abbrev over_at : State → Bool
  over_at q = is_over_at q.stack

  abbrev left_of : State → ℕ → Answers
  left_of q r = q.left r

  abbrev shadow_of : State → ℕ → List Part
  shadow_of q r = shadow r q.stack

  -- a state of one of the protocol's runs
  abbrev pub Is_of_run : State → Type 0
  Is_of_run q = (A : AnswerTable) × (n : ℕ) × (state_after does steps n (first_at A) ≡ q)

  state_last : (n : ℕ) (q : State) → state_after does steps (suc n) q ≡ steps (state_after does steps n q)
  state_last zero q = refl
  state_last (suc n) q = state_last n (steps q)

  of_run_next : (q : State) → Is_of_run q → Is_of_run (steps q)
  of_run_next q h = (h.0, suc h.1, state_last h.1 (first_at h.0) ∙ ap steps h.2)

  abbrev pub IsGood : State → Type 0
  IsGood q = ((r : ℕ) → Clean r q.stack) × Stack_keeps w.total q.stack × Is_of_run q

  abbrev pub Acts_on : State → ℕ → Type 0
  Acts_on q r = More F first_at does steps over_at left_of IsGood shadow_of q r

  abbrev Moves_so : State → ℕ → Type 0
  Moves_so q r = Moves F first_at does steps over_at left_of IsGood shadow_of q r

  good_first : (A : AnswerTable) → IsGood (first_at A)
  good_first A = ((λ r. ((λ h. refl), (λ h. refl), tt)), (keeps, tt, tt), (A, zero, refl))

  good_next : (K : List Frame) (left : ℕ → Answers) → IsGood (record { stack = K; left = left }) → IsGood (steps (record { stack = K; left = left }))
  good_next [] left g = (g.0, g.1, of_run_next (record { stack = []; left = left }) g.2)
  good_next (f ∷ K) left g = ((λ r. clean_move r f.opener K f.rest (taken_at w f.rest left) (g.0 r)), keeps_move w.total f.opener K f.rest (taken_at w f.rest left) g.1, of_run_next (record { stack = f ∷ K; left = left }) g.2)

  -- the first action of a rank that receives first
  begins : (r p : ℕ) (test : ℕ → Bool) (n : ℕ) (K : List Frame) (left : ℕ → Answers) → IsGood (record { stack = K; left = left }) → First_in r p test K → (a : Action) (s : List Action) → of_rank r (emitted does steps n (record { stack = K; left = left })) ≡ a ∷ s → (l : ℕ) × (ws : List ℕ) × (a ≡ Recv p l ws) × (test l ≡ true)
  begins r p test zero K left g h a s e = cc
  begins r p test (suc n) [] left g h a s e = absurd h
  begins r p test (suc n) (f ∷ K) left g h a s e =
      let q : State = record { stack = f ∷ K; left = left } in
      let split : of_rank r (does q) ++ of_rank r (emitted does steps n (steps q)) ≡ a ∷ s = sym (of_append r (does q) (emitted does steps n (steps q))) ∙ e in
      let g' = good_next (f ∷ K) left g in
      elim (first_step r p test w left w.total f.opener K f.rest (g.0 r) g.1.0 h) [
        | inl x ↦ begins r p test n (steps q).stack (steps q).left g' x.1 a s (ap (λ l. l ++ of_rank r (emitted does steps n (steps q))) (sym x.0) ∙ split)
        | inr x ↦
            let e' : Recv p x.label x.words ∷ (x.rest ++ of_rank r (emitted does steps n (steps q))) ≡ a ∷ s = ap (λ l. l ++ of_rank r (emitted does steps n (steps q))) (sym x.is) ∙ split in
            let same : a ≡ Recv p x.label x.words = cc in
            (x.label, x.words, same, x.told)
      ]

  -- a step in which the rank takes no part leaves it where it is
  not_live : (r : ℕ) (f : Frame) (K : List Frame) (left : ℕ → Answers) → IsGood (record { stack = f ∷ K; left = left }) → live r f.opener (env_of K) ≡ false → Moves_so (record { stack = f ∷ K; left = left }) r
  not_live r f K left g l =
      let q : State = record { stack = f ∷ K; left = left } in
      let out : takes_part (at_rank r (env_of (f ∷ K))) r f.rest ≡ false = elim (cases_Bool (takes_part (at_rank r (env_of (f ∷ K))) r f.rest)) [ inl y ↦ (let z = (g.0 r).0 y in cc) | inr y ↦ y ] in
      let none : of_rank r (does q) ≡ [] = emits_none r 0 (λ l. true) w left (at_rank r (env_of (f ∷ K))) f.rest out in
      let scope : (n : ℕ) → f.rest ≡ again n → n < length (env_of (f ∷ K)) = λ n e. subst (λ x. Keeps w.total (env_over f.opener (env_of K)) x) e g.1.0 in
      let P : List Frame → Type 0 = λ X. shadow r X ≡ shadow r K in
      let whole : Frame → List Frame → Bool → List Part = λ h X b. cond b (record { body = body_of r h.opener (env_of X); code = code (at_rank r (env_over h.opener (env_of X))) r h.rest } ∷ shadow r X) (shadow r X) in
      let put : (h : Frame) (X : List Frame) → live r h.opener (env_of X) ≡ false → P X → P (h ∷ X) = λ h X d e. ap (whole h X) d ∙ e in
      let drop : (h : Frame) (X : List Frame) → live r h.opener (env_of X) ≡ false → P (h ∷ X) → P X = λ h X d e. sym (ap (whole h X) d) ∙ e in
      let there_is : shadow r (steps q).stack ≡ shadow r K = move_dead r P put drop f K (taken_at w f.rest left) (g.0 r) scope l refl in
      let here_is : shadow r (f ∷ K) ≡ shadow r K = ap (whole f K) l in
      acts (subst (λ s. Leads machine (is_allowed w r) (shadow r (f ∷ K)) s (shadow r (steps q).stack)) (sym none)
      (subst (λ X. Leads machine (is_allowed w r) (shadow r (f ∷ K)) [] X) (here_is ∙ sym there_is) there))

  module _ (acts_later : (q : State) → IsGood q → (r : ℕ) → r < w.total → involved r q.stack ≡ true → Acts_on q r) where
    live_moves : (r : ℕ) → r < w.total → (o : Opener) (K : List Frame) (x : Block) (left : ℕ → Answers) → IsGood (record { stack = record { opener = o; rest = x } ∷ K; left = left }) → live r o (env_of K) ≡ true → Moves_so (record { stack = record { opener = o; rest = x } ∷ K; left = left }) r
    live_moves r lt o K stop left g l = acts (stop_moves w r o K l)
    live_moves r lt o K (message origin p q m x) left g l = acts (message_moves w r o K l origin p q m x left g.1.0.2)
    live_moves r lt o K (compute origin p k x) left g l = acts (compute_moves w r o K l origin p k x left)
    live_moves r lt o K (together origin j x) left g l = acts (together_moves w r o K l origin protocol j x left lt)
    live_moves r lt o K (looped origin b x) left g l = acts (loop_moves w r o K l origin b x)
    live_moves r lt o K (again n) left g l = acts (again_moves w r o K l (g.0 r).2 ((g.0 r).1 l) n g.1.0)
    live_moves r lt o K (choice origin p k bs x) left g l =
        let q : State = record { stack = record { opener = o; rest = choice origin p k bs x } ∷ K; left = left } in
        let e = at_rank r (env_over o (env_of K)) in
        let c = branch_now w left p k bs in
        let less = branch_less w left p k bs g.1.0.1 in
        let g' = good_next q.stack left g in
        let top : Frame = record { opener = Chosen p bs; rest = branch_at c bs } in
        let here : Frame = record { opener = o; rest = x } in
        elim (choice_moves w r o K l origin p k bs x left g.1.0.1 (λ ne y. g.1.0.2 r lt ne y) less) [
          | inl m ↦ acts m
          | inr h ↦
              let test : ℕ → Bool = λ l. is_among l (labels_of (firsts e r (branch_at c bs))) in
              let src = source_of (firsts_among e r bs) in
              let told = g.1.0.2 r lt (not_eqb p r h.0) h.1 in
              let first : Receives_first e r src (branch_at c bs) = receives_in e r src bs c less told.receives in
              let inside : First_in r src test (top ∷ here ∷ K) = first_live r src test top (here ∷ K) (or_right (p == r) (takes_part_among e r bs) h.1) (record { first = first; labels = λ l f. told.labels c l f }) in
              let part_is : involved r (top ∷ here ∷ K) ≡ true = ap (λ u. u || involved r (here ∷ K)) (part_first e r src (branch_at c bs) first) in
              asks (shadow r q.stack) src test (internal_other p r _ h.0) there h.2.is h.2.reads
              (λ n a' s e'. begins r src test n (steps q).stack (steps q).left g' inside a' s e') (acts_later (steps q) g' r lt part_is)
        ]

    moves_at : (r : ℕ) → r < w.total → (K : List Frame) (left : ℕ → Answers) → IsGood (record { stack = K; left = left }) → Moves_so (record { stack = K; left = left }) r
    moves_at r lt [] left g = acts there
    moves_at r lt (f ∷ K) left g =
        elim (cases_Bool (live r f.opener (env_of K))) [ inl l ↦ live_moves r lt f.opener K f.rest left g l | inr l ↦ not_live r f K left g l ]

    -- a rank that takes part in nothing that is left comes to its end
    quiet_stack : (r : ℕ) (K : List Frame) → involved r K ≡ false → Goes w r (shadow r K) [] []
    quiet_stack r [] out = there
    quiet_stack r (f ∷ K) out =
        let parts = or_parts _ _ out in
        let rest = quiet_stack r K parts.1 in
        elim (cases_Bool (live r f.opener (env_of K))) [
          | inl l ↦ leads_on machine (is_allowed w r) [] (dead_moves w r f.opener K l f.rest parts.0) rest
          | inr l ↦
              let here : shadow r (f ∷ K) ≡ shadow r K = ap (λ b. cond b (record { body = body_of r f.opener (env_of K); code = code (at_rank r (env_over f.opener (env_of K))) r f.rest } ∷ shadow r K) (shadow r K)) l in
              subst (λ X. Goes w r X [] []) (sym here) rest
        ]

    goes : (q : State) → IsGood q → (r : ℕ) → r < w.total → Follows machine (is_allowed w r) (shadow_of q r) [] true ⊎ Acts_on q r
    goes q g r lt =
        elim (cases_Bool (involved r q.stack)) [
          | inl y ↦ inr (acts_later q g r lt y)
          | inr y ↦ inl (leads_follows machine (is_allowed w r) [] true (quiet_stack r q.stack y) (ended refl))
        ]

    module _ (depends : Depends w) (finishes : (q : State) → IsGood q → ((n : ℕ) × (over_at (state_after does steps n q) ≡ true)) ⊎ ((n : ℕ) × (r : ℕ) × (a : Action) × (s : List Action) × (r < w.total) × (of_rank r (emitted does steps n q) ≡ a ∷ s))) where
      statement_at : (K : List Frame) (left : ℕ → Answers) → IsGood (record { stack = K; left = left }) → Statement F (does (record { stack = K; left = left }))
      statement_at [] left g = nothing
      statement_at (f ∷ K) left g = statement_of w protocol left (env_of (f ∷ K)) f.rest g.1.0

      used_at : (K : List Frame) (left : ℕ → Answers) → IsGood (record { stack = K; left = left }) → (r : ℕ) → r < w.total → UsesAll (is_allowed w r) (left r) (of_rank r (does (record { stack = K; left = left }))) (answers_after_all (of_rank r (does (record { stack = K; left = left }))) (left r))
      used_at [] left g r lt = none
      used_at (f ∷ K) left g r lt = uses_of w protocol left (env_of (f ∷ K)) f.rest r lt g.1.0

      pub laws : Laws F
      laws = shadow_laws F first_at does steps over_at left_of IsGood shadow_of (record {
        run_is = λ A m. refl;
        over_is = λ A m. refl;
        depends = depends;
        good_first = good_first;
        good_next = λ q g. good_next q.stack q.left g;
        left_first = λ A r. refl;
        statement = λ q g. statement_at q.stack q.left g;
        used = λ q g r lt. used_at q.stack q.left g r lt;
        shadow_first = λ A r lt. refl;
        moves = λ q g r lt. moves_at r lt q.stack q.left g;
        shadow_goes = goes;
        finishes = finishes;
      })
