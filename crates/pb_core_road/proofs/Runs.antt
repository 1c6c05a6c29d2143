-- A way on which each choice may take any branch is a run under the answers that name these branches.
use Rattle.std.proofs.Common.{◌≡◌, ◌≢◌, ℕ, zero, suc, ◌<◌, ◌==◌, Bool, true, false, cond, nat_lt, List, [], ◌∷◌, ◌++◌, refl, sym, ap, ap₂, ◌∙◌, subst, inl, inr, lt-ltb}
use Rattle.std.proofs.Math.Path.{fun_ext}
use Rattle.std.proofs.lemmas.Bool.{eq-eqb}
use Rattle.pb_world.specs.Actions.{Action, Choose, Run, Send, Recv, Enter, Leave, Answers, of_rank, AnswerTable, Collective}
use Rattle.pb_world.specs.Family.{each}
use Rattle.pb_world.specs.Sequencer.{behind_first, answers_after, answers_after_all, first_or, state_after, emitted}
use Rattle.pb_world.proofs.Lists.{eqb_cases, of_append}
use Rattle.pb_world.proofs.Sequential.{internal_self, internal_other}
use Rattle.pb_core_language.specs.Flat.{Origin, Block, stop, message, compute, together, choice, looped, again, Branches, count, branch_at, first_ending}
use Rattle.pb_core_language.specs.Run.{Setting, Opener, Top, Chosen, Frame, State, move, is_allowed, branch_now, entered_now, emit_at, taken_at, emit, next, first_state}
use Rattle.pb_core_road.specs.Roads.{mute, none, is_choice, Road, here, goes, chooses, IsRun, RoadsAreRuns}

-- ---- actions that are no choice use no branches

abbrev IsQuiet : Action → Type 0
IsQuiet (Choose k n y) = ⊥
IsQuiet (Run k) = Unit {0}
IsQuiet (Send q l ws) = Unit {0}
IsQuiet (Recv p l ws) = Unit {0}
IsQuiet (Enter j ws) = Unit {0}
IsQuiet (Leave j ws) = Unit {0}

abbrev AreQuiet : List (ℕ × Action) → Type 0
AreQuiet [] = Unit {0}
AreQuiet (e ∷ s) = IsQuiet e.1 × AreQuiet s

abbrev only : List ℕ → Answers
only bs = record { branches = bs; words = [] }

after_one : (a : Action) (bs : List ℕ) → IsQuiet a → answers_after a (only bs) ≡ only bs
after_one (Choose k n y) bs h = absurd h
after_one (Run k) bs h = refl
after_one (Send q l ws) bs h = refl
after_one (Recv p l ws) bs h = refl
after_one (Enter j []) bs h = refl
after_one (Enter j (x ∷ ws)) bs h = refl
after_one (Leave j ws) bs h = refl

pub of_own : (r : ℕ) (a : Action) (s : List (ℕ × Action)) → of_rank r ((r, a) ∷ s) ≡ a ∷ of_rank r s
of_own r a s = of_append r ((r, a) ∷ []) s ∙ ap (λ l. l ++ of_rank r s) (internal_self r a)

pub of_other : (q r : ℕ) (a : Action) (s : List (ℕ × Action)) → q ≢ r → of_rank r ((q, a) ∷ s) ≡ of_rank r s
of_other q r a s ne = of_append r ((q, a) ∷ []) s ∙ ap (λ l. l ++ of_rank r s) (internal_other q r a ne)

after_all : (r : ℕ) (s : List (ℕ × Action)) (bs : List ℕ) → AreQuiet s → answers_after_all (of_rank r s) (only bs) ≡ only bs
after_all r [] bs h = refl
after_all r (e ∷ s) bs h =
    elim (eqb_cases e.0 r) [
      | inl y ↦ ap (λ l. answers_after_all l (only bs)) (ap (λ q. of_rank r ((q, e.1) ∷ s)) y.0 ∙ of_own r e.1 s) ∙ ap (answers_after_all (of_rank r s)) (after_one e.1 bs h.0) ∙ after_all r s bs h.1
      | inr y ↦ ap (λ l. answers_after_all l (only bs)) (of_other e.0 r e.1 s y.0) ∙ after_all r s bs h.1
    ]

both_quiet : (s t : List (ℕ × Action)) → AreQuiet s → AreQuiet t → AreQuiet (s ++ t)
both_quiet [] t h k = k
both_quiet (e ∷ s) t h k = (h.0, both_quiet s t h.1 k)

each_quiet : (n : ℕ) (f : ℕ → Action) → ((r : ℕ) → IsQuiet (f r)) → AreQuiet (each n f)
each_quiet zero f h = tt
each_quiet (suc n) f h = both_quiet (each n f) ((n, f n) ∷ []) (each_quiet n f h) (h n, tt)

module _ (w : Setting) where
  abbrev at : List Frame → (ℕ → List ℕ) → State
  at K f = record { stack = K; left = mute f }

  emits_quiet : (g : Block) (f : ℕ → List ℕ) → is_choice g ≡ false → AreQuiet (emit_at w g (mute f))
  emits_quiet stop f h = tt
  emits_quiet (message origin p q l g) f h = (tt, (tt, tt))
  emits_quiet (compute origin p k g) f h = (tt, tt)
  emits_quiet (together origin j g) f h =
      both_quiet (each w.total (λ r. Enter j (entered_now w (mute f) j r))) (each w.total (λ r. Leave j (w.outcome j r (entered_now w (mute f) j))))
      (each_quiet w.total (λ r. Enter j (entered_now w (mute f) j r)) (λ r. tt)) (each_quiet w.total (λ r. Leave j (w.outcome j r (entered_now w (mute f) j))) (λ r. tt))
  emits_quiet (choice origin p k bs g) f h = cc
  emits_quiet (looped origin b g) f h = tt
  emits_quiet (again n) f h = tt

  emits_same : (g : Block) (f : ℕ → List ℕ) → is_choice g ≡ false → emit_at w g (mute f) ≡ emit_at w g (mute none)
  emits_same stop f h = refl
  emits_same (message origin p q l g) f h = refl
  emits_same (compute origin p k g) f h = refl
  emits_same (together origin j g) f h = refl
  emits_same (choice origin p k bs g) f h = cc
  emits_same (looped origin b g) f h = refl
  emits_same (again n) f h = refl

  takes_none : (g : Block) (f : ℕ → List ℕ) → is_choice g ≡ false → taken_at w g (mute f) ≡ 0
  takes_none stop f h = refl
  takes_none (message origin p q l g) f h = refl
  takes_none (compute origin p k g) f h = refl
  takes_none (together origin j g) f h = refl
  takes_none (choice origin p k bs g) f h = cc
  takes_none (looped origin b g) f h = refl
  takes_none (again n) f h = refl

  next_is : (o : Opener) (K : List Frame) (g : Block) (f : ℕ → List ℕ) → is_choice g ≡ false → next w (at (record { opener = o; rest = g } ∷ K) f) ≡ at (move o K g 0) f
  next_is o K g f h =
      ap₂ (λ t left. record { stack = move o K g t; left = left }) (takes_none g f h)
      (fun_ext (λ r. after_all r (emit_at w g (mute f)) (f r) (emits_quiet g f h)))

  -- from a stack with these branches left, a run comes to another with those left
  pub record Runs (K : List Frame) (s : List (ℕ × Action)) (K' : List Frame) (f : ℕ → List ℕ) : Type 0 where
    pub before : ℕ → List ℕ
    pub steps : ℕ
    pub does : emitted (emit w) (next w) steps (at K before) ≡ s
    pub to : state_after (emit w) (next w) steps (at K before) ≡ at K' f

  -- one branch more for the chooser
  abbrev asked : ℕ → ℕ → (ℕ → List ℕ) → ℕ → List ℕ
  asked p y f r = cond (p == r) (y ∷ f r) (f r)

  takes_branch : (p k y : ℕ) (bs : Branches) (f : ℕ → List ℕ) → y < count bs → branch_now w (mute (asked p y f)) p k bs ≡ y
  takes_branch p k y bs f lt =
      ap (λ b. first_or (cond b (y ∷ f p) (f p)) (λ z. is_allowed w p (Choose k (count bs) z)) (first_ending bs)) (eq-eqb p p refl)
      ∙ ap (λ b. cond b y (first_ending bs)) (lt-ltb y (count bs) lt)

  left_is : (p k n y : ℕ) (f : ℕ → List ℕ) (r : ℕ) → answers_after_all (of_rank r ((p, Choose k n y) ∷ [])) (only (asked p y f r)) ≡ only (f r)
  left_is p k n y f r =
      elim (eqb_cases p r) [
        | inl e ↦ ap₂ (λ l b. answers_after_all l (only (cond b (y ∷ f r) (f r)))) (subst (λ q. of_rank q ((p, Choose k n y) ∷ []) ≡ Choose k n y ∷ []) e.0 (internal_self p (Choose k n y))) e.1
        | inr e ↦ ap₂ (λ l b. answers_after_all l (only (cond b (y ∷ f r) (f r)))) (internal_other p r (Choose k n y) e.0) e.1
      ]

  next_branch : (origin : Origin) (o : Opener) (K : List Frame) (p k : ℕ) (bs : Branches) (g : Block) (y : ℕ) (f : ℕ → List ℕ) → y < count bs →
      next w (at (record { opener = o; rest = choice origin p k bs g } ∷ K) (asked p y f)) ≡ at (record { opener = Chosen p bs; rest = branch_at y bs } ∷ record { opener = o; rest = g } ∷ K) f
  next_branch origin o K p k bs g y f lt =
      let e = takes_branch p k y bs f lt in
      ap₂ (λ t left. record { stack = record { opener = Chosen p bs; rest = branch_at t bs } ∷ record { opener = o; rest = g } ∷ K; left = left }) e
      (fun_ext (λ r. ap (λ t. answers_after_all (of_rank r ((p, Choose k (count bs) t) ∷ [])) (only (asked p y f r))) e ∙ left_is p k (count bs) y f r))

  pub road_runs : {K : List Frame} {s : List (ℕ × Action)} {K' : List Frame} → Road w K s K' → (f : ℕ → List ℕ) → Runs K s K' f
  road_runs here f = record { before = f; steps = zero; does = refl; to = refl }
  road_runs (goes {o = o} {K = K} g {s = s} h road) f =
      let r = road_runs road f in
      let e = next_is o K g r.before h in
      record {
        before = r.before;
        steps = suc r.steps;
        does = ap₂ (λ l q. l ++ emitted (emit w) (next w) r.steps q) (emits_same g r.before h) e ∙ ap (λ l. emit_at w g (mute none) ++ l) r.does;
        to = ap (state_after (emit w) (next w) r.steps) e ∙ r.to;
      }
  road_runs (chooses {origin = origin} {o = o} {K = K} {p = p} {k = k} {bs = bs} {g = g} {s = s} y lt road) f =
      let r = road_runs road f in
      let e = next_branch origin o K p k bs g y r.before lt in
      record {
        before = asked p y r.before;
        steps = suc r.steps;
        does =
            ap₂ (λ t q. (p, Choose k (count bs) t) ∷ emitted (emit w) (next w) r.steps q) (takes_branch p k y bs r.before lt) e
            ∙ ap (λ l. (p, Choose k (count bs) y) ∷ l) r.does;
        to = ap (state_after (emit w) (next w) r.steps) e ∙ r.to;
      }

  pub roads_are_runs : RoadsAreRuns w
  roads_are_runs protocol s K road =
      let r = road_runs road none in
      record { answers = mute r.before; steps = r.steps; does = r.does; comes = ap (λ q. q.stack) r.to }
