-- Ways through stacks and blocks, and what one rank does on them.
use Rattle.std.proofs.Common.{◌≡◌, ◌≢◌, ℕ, zero, suc, ◌<◌, ◌==◌, Bool, true, false, cond, ◌||◌, ◌⊎◌, MatchBool, List, [], ◌∷◌, ◌++◌, length, refl, sym, ap, ap₂, ◌∙◌, subst, inl, inr, append_assoc, append-nil, lt-ltb, arith}
use Rattle.std.proofs.lemmas.Bool.{eq-eqb, or_cases, or_left, or_right, or_parts, cases_Bool}
use Rattle.pb_world.specs.Actions.{Action, Choose, Recv, of_rank, AnswerTable}
use Rattle.pb_world.specs.Sequencer.{first_or}
use Rattle.pb_world.proofs.Lists.{eqb_cases, of_append}
use Rattle.pb_world.proofs.Sequential.{message_receiver, message_other, internal_other}
use Rattle.pb_core_language.specs.Flat.{Origin, Block, stop, message, compute, together, choice, looped, again, Branches, takes_part, takes_part_among, count, branch_at, first_ending}
use Rattle.pb_core_language.specs.Run.{Setting, Opener, Top, Chosen, Body, Frame, Env, at_rank, env_over, env_of, live, move, is_allowed, branch_now, words_now, emit_at, taken_at}
use Rattle.pb_core_endpoint.proofs.Kept.{Receives_first, Receives_each, first_label, first_label_among, Keeps}
use Rattle.pb_core_endpoint.proofs.Clean.{Clean, Stack_keeps}
use Rattle.pb_core_endpoint.proofs.Branches.{no_part_at, receives_in, label_at}
use Rattle.pb_core_endpoint.proofs.Keep.{clean_move, keeps_move, emits_none, First_in, Received, first_step}
use Rattle.pb_core_endpoint.proofs.Progress.{Stack_ends, ends_move}
use Rattle.pb_core_road.specs.Roads.{mute, none, is_choice, Road, here, goes, chooses, Across, at_once, by_message, by_compute, by_together, by_choice, by_loop}
use Rattle.pb_core_road.proofs.Runs.{of_own, of_other}

module _ (w : Setting) where
  -- ---- one way after another

  pub road_on : {K : List Frame} {s : List (ℕ × Action)} {K1 : List Frame} {t : List (ℕ × Action)} {K2 : List Frame} → Road w K s K1 → Road w K1 t K2 → Road w K (s ++ t) K2
  road_on here b = b
  road_on {t = t} {K2 = K2} (goes {o = o} {K = K} g {s = s} h a) b = subst (λ l. Road w (record { opener = o; rest = g } ∷ K) l K2) (sym (append_assoc (emit_at w g (mute none)) s t)) (goes g h (road_on a b))
  road_on (chooses y lt a) b = chooses y lt (road_on a b)

  pub across_on : {g : Block} {s : List (ℕ × Action)} {g1 : Block} {t : List (ℕ × Action)} {g2 : Block} → Across w g s g1 → Across w g1 t g2 → Across w g (s ++ t) g2
  across_on at_once b = b
  across_on (by_message a) b = by_message (across_on a b)
  across_on (by_compute a) b = by_compute (across_on a b)
  across_on {t = t} {g2 = g2} (by_together {origin = origin} {j = j} {g = g} {s = s} a) b =
      subst (λ l. Across w (together origin j g) l g2) (sym (append_assoc (emit_at w (together origin j g) (mute none)) s t)) (by_together (across_on a b))
  across_on {t = u} {g2 = g2} (by_choice {origin = origin} {p = p} {k = k} {bs = bs} {g = g} {s = s} {t = t} y lt a c) b =
      subst (λ l. Across w (choice origin p k bs g) ((p, Choose k (count bs) y) ∷ l) g2) (sym (append_assoc s t u)) (by_choice y lt a (across_on c b))
  across_on {t = u} {g2 = g2} (by_loop {origin = origin} {b = b'} {g = g} {s = s} {t = t} a c) b =
      subst (λ l. Across w (looped origin b' g) l g2) (sym (append_assoc s t u)) (by_loop a (across_on c b))

  -- through a block is through a stack
  pub across_road : {g : Block} {s : List (ℕ × Action)} {g' : Block} → Across w g s g' → (o : Opener) (K : List Frame) → Road w (record { opener = o; rest = g } ∷ K) s (record { opener = o; rest = g' } ∷ K)
  across_road at_once o K = here
  across_road (by_message a) o K = goes _ refl (across_road a o K)
  across_road (by_compute a) o K = goes _ refl (across_road a o K)
  across_road (by_together a) o K = goes _ refl (across_road a o K)
  across_road (by_choice {p = p} {bs = bs} {g = g} y lt a c) o K =
      chooses y lt (road_on (across_road a (Chosen p bs) (record { opener = o; rest = g } ∷ K)) (goes stop refl (across_road c o K)))
  across_road (by_loop {origin = origin} {b = b} {g = g} a c) o K =
      goes (looped origin b g) refl (road_on (across_road a (Body b) (record { opener = o; rest = g } ∷ K)) (goes stop refl (across_road c o K)))

  -- ---- one rank

  module _ (r : ℕ) where
    -- who takes no part does nothing
    pub across_none : (held : List Bool) {g : Block} {s : List (ℕ × Action)} {g' : Block} → Across w g s g' → takes_part held r g ≡ false → of_rank r s ≡ []
    across_none held at_once h = refl
    across_none held (by_message {origin = origin} {p = p} {q = q} {l = l} {g = g} {s = s} a) h =
        let rest = (or_parts (q == r) (takes_part held r g) (or_parts (p == r) ((q == r) || takes_part held r g) h).1).1 in
        of_append r (emit_at w (message origin p q l g) (mute none)) s ∙ ap₂ (λ x y. x ++ y) (emits_none r 0 (λ l. true) w (mute none) held (message origin p q l g) h) (across_none held a rest)
    across_none held (by_compute {origin = origin} {p = p} {k = k} {g = g} {s = s} a) h =
        of_append r (emit_at w (compute origin p k g) (mute none)) s ∙ ap₂ (λ x y. x ++ y) (emits_none r 0 (λ l. true) w (mute none) held (compute origin p k g) h) (across_none held a (or_parts (p == r) (takes_part held r g) h).1)
    across_none held (by_together a) h = cc
    across_none held (by_choice {origin = origin} {p = p} {k = k} {bs = bs} {g = g} {s = s} {t = t} y lt a c) h =
        let parts = or_parts ((p == r) || takes_part_among held r bs) (takes_part held r g) h in
        let inner = or_parts (p == r) (takes_part_among held r bs) parts.0 in
        chooser_other p k (count bs) y (s ++ t) inner.0 ∙ of_append r s t ∙ ap₂ (λ x y. x ++ y) (across_none held a (no_part_at held r bs y inner.1)) (across_none held c parts.1)
      where
        chooser_other : (p k n y : ℕ) (s : List (ℕ × Action)) → (p == r) ≡ false → of_rank r ((p, Choose k n y) ∷ s) ≡ of_rank r s
        chooser_other p k n y s e = elim (eqb_cases p r) [ inl z ↦ (let no' = sym z.1 ∙ e in cc) | inr z ↦ of_other p r (Choose k n y) s z.0 ]
    across_none held (by_loop {b = b} {g = g} {s = s} {t = t} a c) h =
        let parts = or_parts (takes_part (false ∷ held) r b) (takes_part held r g) h in
        of_append r s t ∙ ap₂ (λ x y. x ++ y) (across_none (false ∷ held) a parts.0) (across_none held c parts.1)

    -- who receives first does so on the way through the block
    pub record Receives (held : List Bool) (p : ℕ) (g : Block) (s : List Action) : Type 0 where
      pub label : ℕ
      pub words : List ℕ
      pub rest : List Action
      pub is : s ≡ Recv p label words ∷ rest
      pub first : first_label held r g label ≡ true

    abbrev Found : List Bool → ℕ → Block → List (ℕ × Action) → Type 0
    Found held p g s = Receives held p g (of_rank r s)

    -- a later receive, where nothing is done before
    receives_later : (held held' : List Bool) (p : ℕ) (g g' : Block) (s t : List Action) → s ≡ t → ((l : ℕ) → first_label held' r g' l ≡ true → first_label held r g l ≡ true) → Receives held' p g' t → Receives held p g s
    receives_later held held' p g g' s t e more x = record { label = x.label; words = x.words; rest = x.rest; is = e ∙ x.is; first = more x.label x.first }

    -- what is received first, and then something else
    receives_before : (held : List Bool) (p : ℕ) (g : Block) (s t : List Action) → Receives held p g s → Receives held p g (s ++ t)
    receives_before held p g s t x = record { label = x.label; words = x.words; rest = x.rest ++ t; is = ap (λ l. l ++ t) x.is; first = x.first }

    pub across_first : (held : List Bool) (p : ℕ) {g : Block} {s : List (ℕ × Action)} → Across w g s stop → Receives_first held r p g → Receives held p g (of_rank r s)
    across_first held p at_once h = absurd h
    across_first held p (by_message {origin = origin} {p = p'} {q = q'} {l = l} {g = g} {s = s} a) h =
        elim (eqb_cases p' r) [
          | inl y ↦ absurd (subst (λ u. MatchBool u ⊥ (MatchBool (q' == r) (p' ≡ p) (Receives_first held r p g))) y.1 h)
          | inr y ↦
              let h' = subst (λ b. MatchBool b ⊥ (MatchBool (q' == r) (p' ≡ p) (Receives_first held r p g))) y.1 h in
              let ws = words_now w (mute none) p' q' l in
              elim (eqb_cases q' r) [
                | inl z ↦
                    let from : p' ≡ p = subst (λ b. MatchBool b (p' ≡ p) (Receives_first held r p g)) z.1 h' in
                    let ne : p' ≢ q' = λ e. y.0 (e ∙ z.0) in
                    record {
                      label = l;
                      words = ws;
                      rest = of_rank r s;
                      is =
                          of_append r (emit_at w (message origin p' q' l g) (mute none)) s
                          ∙ ap (λ x. x ++ of_rank r s) (subst (λ k. of_rank k (emit_at w (message origin p' q' l g) (mute none)) ≡ Recv p' l ws ∷ []) z.0 (message_receiver p' q' l ws ne))
                          ∙ ap (λ k. Recv k l ws ∷ of_rank r s) from;
                      first = ap (λ b. cond b (l == l) (first_label held r g l)) z.1 ∙ eq-eqb l l refl;
                    }
                | inr z ↦
                    receives_later held held p (message origin p' q' l g) g _ (of_rank r s)
                    (of_append r (emit_at w (message origin p' q' l g) (mute none)) s ∙ ap (λ x. x ++ of_rank r s) (message_other p' q' l ws r y.0 z.0))
                    (λ i e. ap (λ b. cond b (l == i) (first_label held r g i)) z.1 ∙ e)
                    (across_first held p a (subst (λ b. MatchBool b (p' ≡ p) (Receives_first held r p g)) z.1 h'))
              ]
        ]
    across_first held p (by_compute {origin = origin} {p = p'} {k = k} {g = g} {s = s} a) h =
        elim (eqb_cases p' r) [
          | inl y ↦ absurd (subst (λ u. MatchBool u ⊥ (Receives_first held r p g)) y.1 h)
          | inr y ↦
              receives_later held held p (compute origin p' k g) g _ (of_rank r s) (of_other p' r _ s y.0) (λ i e. e)
              (across_first held p a (subst (λ b. MatchBool b ⊥ (Receives_first held r p g)) y.1 h))
        ]
    across_first held p (by_together a) h = absurd h
    across_first held p (by_choice {origin = origin} {p = p'} {k = k} {bs = bs} {g = g} {s = s} {t = t} y lt a c) h =
        elim (eqb_cases p' r) [
          | inl v ↦ absurd (subst (λ u. MatchBool u ⊥ (MatchBool (takes_part_among held r bs) (Receives_each held r p bs) (Receives_first held r p g))) v.1 h)
          | inr v ↦
              let h' = subst (λ u. MatchBool u ⊥ (MatchBool (takes_part_among held r bs) (Receives_each held r p bs) (Receives_first held r p g))) v.1 h in
              let list = of_other p' r (Choose k (count bs) y) (s ++ t) v.0 ∙ of_append r s t in
              elim (cases_Bool (takes_part_among held r bs)) [
                | inl z ↦
                    let all = subst (λ u. MatchBool u (Receives_each held r p bs) (Receives_first held r p g)) z h' in
                    receives_later held held p (choice origin p' k bs g) (branch_at y bs) _ (of_rank r s ++ of_rank r t) list
                    (λ i e. ap (λ u. cond u (first_label_among held r bs i) (first_label held r g i)) z ∙ label_at held r bs y i e)
                    (receives_before held p (branch_at y bs) (of_rank r s) (of_rank r t) (across_first held p a (receives_in held r p bs y lt all)))
                | inr z ↦
                    receives_later held held p (choice origin p' k bs g) g _ (of_rank r t)
                    (list ∙ ap (λ x. x ++ of_rank r t) (across_none held a (no_part_at held r bs y z)))
                    (λ i e. ap (λ u. cond u (first_label_among held r bs i) (first_label held r g i)) z ∙ e)
                    (across_first held p c (subst (λ u. MatchBool u (Receives_each held r p bs) (Receives_first held r p g)) z h'))
              ]
        ]
    across_first held p (by_loop {origin = origin} {b = b} {g = g} {s = s} {t = t} a c) h =
        elim (cases_Bool (takes_part (false ∷ held) r b)) [
          | inl z ↦
              receives_later held (true ∷ held) p (looped origin b g) b _ (of_rank r s ++ of_rank r t) (of_append r s t)
              (λ i e. ap (λ u. cond u (first_label (true ∷ held) r b i) (first_label held r g i)) z ∙ e)
              (receives_before (true ∷ held) p b (of_rank r s) (of_rank r t) (across_first (true ∷ held) p a (subst (λ u. MatchBool u (Receives_first (true ∷ held) r p b) (Receives_first held r p g)) z h)))
          | inr z ↦
              receives_later held held p (looped origin b g) g _ (of_rank r t)
              (of_append r s t ∙ ap (λ x. x ++ of_rank r t) (across_none (false ∷ held) a z))
              (λ i e. ap (λ u. cond u (first_label (true ∷ held) r b i) (first_label held r g i)) z ∙ e)
              (across_first held p c (subst (λ u. MatchBool u (Receives_first (true ∷ held) r p b) (Receives_first held r p g)) z h))
        ]

    -- ---- what stacks keep on the way

    pub record IsGood (K : List Frame) : Type 0 where
      pub clean : Clean r K
      pub keeps : Stack_keeps w.total K
      pub ends : Stack_ends K

    good_move : (o : Opener) (K : List Frame) (g : Block) (y : ℕ) → IsGood (record { opener = o; rest = g } ∷ K) → IsGood (move o K g y)
    good_move o K g y h = record { clean = clean_move r o K g y h.clean; keeps = keeps_move w.total o K g y h.keeps; ends = ends_move o K g y h.ends }

    pub good_road : {K : List Frame} {s : List (ℕ × Action)} {K' : List Frame} → Road w K s K' → IsGood K → IsGood K'
    good_road here h = h
    good_road (goes {o = o} {K = K} g e road) h = good_road road (good_move o K g 0 h)
    good_road (chooses {origin = origin} {o = o} {K = K} {p = p} {k = k} {bs = bs} {g = g} y lt road) h = good_road road (good_move o K (choice origin p k bs g) y h)

    -- with a rank that receives next, nothing is done for it, and it still does, or that is done
    abbrev pub Still : ℕ → (ℕ → Bool) → List (ℕ × Action) → List Frame → Type 0
    Still p test s K = ((of_rank r s ≡ []) × First_in r p test K) ⊎ Received r p test (of_rank r s)

    still_after : (p : ℕ) (test : ℕ → Bool) (e s : List (ℕ × Action)) (K1 K2 : List Frame) → Still p test e K1 → (First_in r p test K1 → Still p test s K2) → Still p test (e ++ s) K2
    still_after p test e s K1 K2 (inl h) go =
        elim (go h.1) [
          | inl k ↦ inl (of_append r e s ∙ ap₂ (λ x y. x ++ y) h.0 k.0, k.1)
          | inr k ↦ inr (record { label = k.label; words = k.words; rest = k.rest; is = of_append r e s ∙ ap (λ x. x ++ of_rank r s) h.0 ∙ k.is; told = k.told })
        ]
    still_after p test e s K1 K2 (inr h) go = inr (record { label = h.label; words = h.words; rest = h.rest ++ of_rank r s; is = of_append r e s ∙ ap (λ x. x ++ of_rank r s) h.is; told = h.told })

    first_move : (p : ℕ) (test : ℕ → Bool) (left : AnswerTable) (o : Opener) (K : List Frame) (g : Block) → IsGood (record { opener = o; rest = g } ∷ K) → First_in r p test (record { opener = o; rest = g } ∷ K) → Still p test (emit_at w g left) (move o K g (taken_at w g left))
    first_move p test left o K g h f = first_step r p test w left w.total o K g h.clean h.keeps.0 f

    takes_first : (g : Block) → is_choice g ≡ false → taken_at w g (mute none) ≡ 0
    takes_first stop h = refl
    takes_first (message origin p q l g) h = refl
    takes_first (compute origin p k g) h = refl
    takes_first (together origin j g) h = refl
    takes_first (choice origin p k bs g) h = cc
    takes_first (looped origin b g) h = refl
    takes_first (again n) h = refl

    one_branch : ℕ → AnswerTable
    one_branch y r = record { branches = y ∷ []; words = [] }

    takes_it : (p k y : ℕ) (bs : Branches) → y < count bs → branch_now w (one_branch y) p k bs ≡ y
    unfolding one_branch
    takes_it p k y bs lt = ap (λ b. cond b y (first_ending bs)) (lt-ltb y (count bs) lt)

    chooses_it : (p : ℕ) (test : ℕ → Bool) (origin : Origin) (o : Opener) (K : List Frame) (q k : ℕ) (bs : Branches) (g : Block) (y : ℕ) → y < count bs →
        IsGood (record { opener = o; rest = choice origin q k bs g } ∷ K) → First_in r p test (record { opener = o; rest = choice origin q k bs g } ∷ K) →
        Still p test ((q, Choose k (count bs) y) ∷ []) (move o K (choice origin q k bs g) y)
    chooses_it p test origin o K q k bs g y lt h f =
        subst (λ z. Still p test ((q, Choose k (count bs) z) ∷ []) (move o K (choice origin q k bs g) z)) (takes_it q k y bs lt) (first_move p test (one_branch y) o K (choice origin q k bs g) h f)

    pub first_road : (p : ℕ) (test : ℕ → Bool) {K : List Frame} {s : List (ℕ × Action)} {K' : List Frame} → Road w K s K' → IsGood K → First_in r p test K → Still p test s K'
    first_road p test here h f = inl (refl, f)
    first_road p test (goes {o = o} {K = K} g {s = s} {K' = K'} e road) h f =
        still_after p test (emit_at w g (mute none)) s (move o K g 0) K'
        (subst (λ y. Still p test (emit_at w g (mute none)) (move o K g y)) (takes_first g e) (first_move p test (mute none) o K g h f))
        (λ f'. first_road p test road (good_move o K g 0 h) f')
    first_road p test (chooses {origin = origin} {o = o} {K = K} {p = q} {k = k} {bs = bs} {g = g} {s = s} {K' = K'} y lt road) h f =
        still_after p test ((q, Choose k (count bs) y) ∷ []) s (move o K (choice origin q k bs g) y) K'
        (chooses_it p test origin o K q k bs g y lt h f)
        (λ f'. first_road p test road (good_move o K (choice origin q k bs g) y h) f')
