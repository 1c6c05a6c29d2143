-- Some answers make a run end that sends the least, or the most: choices are free, since a rank's answers are used in order,
-- and each choice uses one of its own.
use Rattle.std.proofs.Common.{◌≡◌, ℕ, zero, suc, ◌+◌, ◌<◌, ◌≤◌, ◌==◌, cond, Bool, true, false, ◌⊎◌, inl, inr, List, [], ◌∷◌, ◌++◌, Option, Some, None, filter_map, nat_lt, lt-ltb, refl, sym, ap, ◌∙◌, subst, arith}
use Rattle.pb_world.specs.Actions.{Action, Choose, Run, Send, Recv, Enter, Leave, Collective, Answers, AnswerTable, done_by, of_rank}
use Rattle.pb_world.specs.Family.{each}
use Rattle.pb_world.specs.Sequencer.{answers_after, answers_after_all, first_or, state_after, emitted}
use Rattle.pb_core_language.specs.Flat.{Origin, Block, stop, message, compute, together, choice, looped, again, Branches, no_branch, branch, count, branch_at, first_ending}
use Rattle.pb_core_language.specs.Run.{Setting, Opener, Chosen, Frame, State, emit, emit_at, next, branch_now, is_over_at}
use Rattle.pb_cost_laws.specs.Sent.{Counted, sent_in, Way, Least, Most, picked}
use Rattle.pb_cost_laws.specs.Flats.{extreme, extreme_among, extreme_behind}
use Rattle.pb_cost_laws.proofs.Counting.{sent_append, step_sends, size_at}
use Rattle.pb_cost_laws.proofs.Bounds.{of_stack, StackStraight, branch_straight}

-- ---- answers with no words

abbrev NoWords : AnswerTable → Type 0
NoWords A = (r : ℕ) → (A r).words ≡ []

-- no choice
abbrev IsPlain : Action → Type 0
IsPlain (Choose kernel n b) = ⊥
IsPlain (Run kernel) = Unit {0}
IsPlain (Send to label words) = Unit {0}
IsPlain (Recv from label words) = Unit {0}
IsPlain (Enter collective words) = Unit {0}
IsPlain (Leave collective words) = Unit {0}

abbrev ArePlain : List (ℕ × Action) → Type 0
ArePlain [] = Unit {0}
ArePlain (e ∷ s) = IsPlain e.1 × ArePlain s

plain_append : (s t : List (ℕ × Action)) → ArePlain s → ArePlain t → ArePlain (s ++ t)
plain_append [] t h g = g
plain_append (e ∷ s) t h g = (h.0, plain_append s t h.1 g)

plain_each : (n : ℕ) (f : ℕ → Action) → ((r : ℕ) → IsPlain (f r)) → ArePlain (each n f)
plain_each zero f h = tt
plain_each (suc n) f h = plain_append (each n f) ((n, f n) ∷ []) (plain_each n f h) (h n, tt)

abbrev without_words : List ℕ → Answers
without_words branches = record { branches = branches; words = [] }

plain_one : (a : Action) (branches : List ℕ) → IsPlain a → answers_after a (without_words branches) ≡ without_words branches
plain_one (Choose kernel n b) branches h = absurd h
plain_one (Run kernel) branches h = refl
plain_one (Send to label words) branches h = refl
plain_one (Recv from label words) branches h = refl
plain_one (Enter collective []) branches h = refl
plain_one (Enter collective (x ∷ words)) branches h = refl
plain_one (Leave collective words) branches h = refl

abbrev pick : {X : Type 0} → Option X → List X → List X
pick None xs = xs
pick (Some x) xs = x ∷ xs

pick_first : {X Y : Type 0} (f : X → Option Y) (x : X) (xs : List X) → filter_map f (x ∷ xs) ≡ pick (f x) (filter_map f xs)
pick_first {X} {Y} f x xs = at (f x) refl
  where
    at : (o : Option Y) → f x ≡ o → filter_map f (x ∷ xs) ≡ pick o (filter_map f xs)
    at None e = rw e refl
    at (Some y) e = rw e refl

plain_first : (c : Bool) (a : Action) (s : List Action) (branches : List ℕ) → IsPlain a → answers_after_all (pick (cond c (Some a) None) s) (without_words branches) ≡ answers_after_all s (without_words branches)
plain_first true a s branches h = ap (answers_after_all s) (plain_one a branches h)
plain_first false a s branches h = refl

plain_all : (r : ℕ) (s : List (ℕ × Action)) (branches : List ℕ) → ArePlain s → answers_after_all (of_rank r s) (without_words branches) ≡ without_words branches
plain_all r [] branches h = refl
plain_all r (e ∷ s) branches h = ap (λ t. answers_after_all t (without_words branches)) (pick_first (done_by r) e s) ∙ plain_first (e.0 == r) e.1 (of_rank r s) branches h.0 ∙ plain_all r s branches h.1

-- a choice uses the first answer of its rank
chosen_first : (c : Bool) (k n b x : ℕ) (branches : List ℕ) → answers_after_all (pick (cond c (Some (Choose k n b)) None) []) (cond c (without_words (x ∷ branches)) (without_words branches)) ≡ without_words branches
chosen_first true k n b x branches = refl
chosen_first false k n b x branches = refl

-- a table with one answer more for this rank
abbrev with_answer : ℕ → ℕ → AnswerTable → AnswerTable
with_answer at n A r = cond (at == r) (without_words (n ∷ (A r).branches)) (without_words (A r).branches)

wordless : (x : Answers) → x.words ≡ [] → x ≡ without_words x.branches
wordless x e = ap (λ ws. record { branches = x.branches; words = ws }) e

-- ---- the branch that is the least, or the most

either_picked : (way : Way) (x y : ℕ) → (picked way x y ≡ x) ⊎ (picked way x y ≡ y)
either_picked Least x y = grind arith
either_picked Most x y = grind arith

module _ (w : Setting) (way : Way) (what : Counted) where
  abbrev of : Block → ℕ
  of b = extreme way what w.size b

  -- one of these branches is the extreme, or the best before is
  behind_at : (best : ℕ) (bs : Branches) → (extreme_behind way what w.size best bs ≡ best) ⊎ ((n : ℕ) × (n < count bs) × (extreme way what w.size (branch_at n bs) ≡ extreme_behind way what w.size best bs))
  behind_at best no_branch = inl refl
  behind_at best (branch mark first rest) = elim (behind_at (picked way best (of first)) rest) [
    | inr it ↦ inr (suc it.0, (let lt = it.1 in omega (arith, lt)), it.2)
    | inl e ↦ elim (either_picked way best (of first)) [ inl f ↦ inl (e ∙ f) | inr f ↦ inr (0, omega arith, sym (e ∙ f)) ]
  ]

  among_at : (bs : Branches) → 1 ≤ count bs → (n : ℕ) × (n < count bs) × (extreme way what w.size (branch_at n bs) ≡ extreme_among way what w.size bs)
  among_at no_branch some = absurd (omega (arith, some))
  among_at (branch mark first rest) some = elim (behind_at (of first) rest) [ inl e ↦ (0, omega arith, sym e) | inr it ↦ (suc it.0, (let lt = it.1 in omega (arith, lt)), it.2) ]

  -- ---- stacks

  -- with these answers the run from this stack ends, and sends the extreme
  pub record Plan (K : List Frame) : Type 0 where
    pub answers : AnswerTable
    pub no_words : NoWords answers
    pub steps : ℕ
    pub over : (left : AnswerTable) → ((r : ℕ) → left r ≡ answers r) → is_over_at (state_after (emit w) (next w) steps (record { stack = K; left = left })).stack ≡ true
    pub is : (left : AnswerTable) → ((r : ℕ) → left r ≡ answers r) → sent_in what (emitted (emit w) (next w) steps (record { stack = K; left = left })) ≡ of_stack w way what K

  -- one step further, where the answers stay
  later : (o : Opener) (b : Block) (frames K : List Frame) → ((left : AnswerTable) → (next w (record { stack = record { opener = o; rest = b } ∷ frames; left = left })).stack ≡ K) → ((left : AnswerTable) → ArePlain (emit_at w b left)) →
      of_stack w way what (record { opener = o; rest = b } ∷ frames) ≡ size_at what w.size b + of_stack w way what K → Plan K → Plan (record { opener = o; rest = b } ∷ frames)
  later o b frames K goes plain adds plan = record {
    answers = plan.answers;
    no_words = plan.no_words;
    steps = suc plan.steps;
    over = λ left same. subst (λ S. is_over_at (state_after (emit w) (next w) plan.steps (record { stack = S; left = (next w (start left)).left })).stack ≡ true) (sym (goes left)) (plan.over (next w (start left)).left (stays left same));
    is = λ left same.
        sent_append what (emit_at w b left) (emitted (emit w) (next w) plan.steps (next w (start left)))
        ∙ ap (λ x. x + sent_in what (emitted (emit w) (next w) plan.steps (next w (start left)))) (step_sends w what b left)
        ∙ ap (λ x. size_at what w.size b + x) (subst (λ S. sent_in what (emitted (emit w) (next w) plan.steps (record { stack = S; left = (next w (start left)).left })) ≡ of_stack w way what K) (sym (goes left)) (plan.is (next w (start left)).left (stays left same)))
        ∙ sym adds;
  } where
    start : AnswerTable → State
    start left = record { stack = record { opener = o; rest = b } ∷ frames; left = left }

    stays : (left : AnswerTable) → ((r : ℕ) → left r ≡ plan.answers r) → (r : ℕ) → (next w (start left)).left r ≡ plan.answers r
    stays left same r =
        let e : left r ≡ without_words (plan.answers r).branches = same r ∙ wordless (plan.answers r) (plan.no_words r) in
        ap (answers_after_all (of_rank r (emit_at w b left))) e ∙ plain_all r (emit_at w b left) (plan.answers r).branches (plain left) ∙ sym (wordless (plan.answers r) (plan.no_words r))

  same_test : (a : ℕ) → (a == a) ≡ true
  same_test a = grind arith

  -- what is still to do once this branch is taken
  abbrev behind_choice : Opener → ℕ → Branches → Block → List Frame → ℕ → List Frame
  behind_choice o at bs rest frames b = record { opener = Chosen at bs; rest = branch_at b bs } ∷ record { opener = o; rest = rest } ∷ frames

  -- a choice of this branch, before a plan behind it
  choose : (o : Opener) (origin : Origin) (at kernel n : ℕ) (bs : Branches) (rest : Block) (frames : List Frame) → n < count bs → extreme way what w.size (branch_at n bs) ≡ extreme_among way what w.size bs →
      Plan (record { opener = Chosen at bs; rest = branch_at n bs } ∷ record { opener = o; rest = rest } ∷ frames) → Plan (record { opener = o; rest = choice origin at kernel bs rest } ∷ frames)
  choose o origin at kernel n bs rest frames lt best plan = record {
    answers = with_answer at n plan.answers;
    no_words = λ r. wordless_case (at == r) (plan.answers r);
    steps = suc plan.steps;
    over = λ left same. subst (λ b. is_over_at (state_after (emit w) (next w) plan.steps (record { stack = behind_choice o at bs rest frames b; left = (next w (start left)).left })).stack ≡ true) (sym (taken left same)) (plan.over (next w (start left)).left (used left same));
    is = λ left same.
        zero_more _
        ∙ subst (λ b. sent_in what (emitted (emit w) (next w) plan.steps (record { stack = behind_choice o at bs rest frames b; left = (next w (start left)).left })) ≡ of_stack w way what (behind_choice o at bs rest frames n)) (sym (taken left same)) (plan.is (next w (start left)).left (used left same))
        ∙ adds;
  } where
    start : AnswerTable → State
    start left = record { stack = record { opener = o; rest = choice origin at kernel bs rest } ∷ frames; left = left }

    wordless_case : (c : Bool) (x : Answers) → (cond c (without_words (n ∷ x.branches)) (without_words x.branches)).words ≡ []
    wordless_case true x = refl
    wordless_case false x = refl

    zero_more : (x : ℕ) → 0 + x ≡ x
    zero_more x = omega arith

    adds : of_stack w way what (behind_choice o at bs rest frames n) ≡ extreme_among way what w.size bs + extreme way what w.size rest + of_stack w way what frames
    adds = omega (arith, best)

    taken : (left : AnswerTable) → ((r : ℕ) → left r ≡ with_answer at n plan.answers r) → branch_now w left at kernel bs ≡ n
    taken left same =
        ap (λ (x : Answers). first_or x.branches (λ b. nat_lt b (count bs)) (first_ending bs)) (same at ∙ ap (λ c. cond c (without_words (n ∷ (plan.answers at).branches)) (without_words (plan.answers at).branches)) (same_test at))
        ∙ ap (λ c. cond c n (first_ending bs)) (lt-ltb n (count bs) lt)

    used : (left : AnswerTable) → ((r : ℕ) → left r ≡ with_answer at n plan.answers r) → (r : ℕ) → (next w (start left)).left r ≡ plan.answers r
    used left same r =
        ap (answers_after_all (of_rank r (emit w (start left)))) (same r)
        ∙ ap (λ t. answers_after_all t (with_answer at n plan.answers r)) (pick_first (done_by r) (at, Choose kernel (count bs) (branch_now w left at kernel bs)) [])
        ∙ chosen_first (at == r) kernel (count bs) (branch_now w left at kernel bs) n (plan.answers r).branches
        ∙ sym (wordless (plan.answers r) (plan.no_words r))

  -- ---- any stack

  abbrev mutual
    long : Block → ℕ
    long stop = 0
    long (message origin from to label rest) = suc (long rest)
    long (compute origin at kernel rest) = suc (long rest)
    long (together origin joint rest) = suc (long rest)
    long (choice origin at kernel bs rest) = suc (long_among bs + suc (long rest))
    long (looped origin body rest) = 0
    long (again between) = 0

    long_among : Branches → ℕ
    long_among no_branch = 0
    long_among (branch mark first rest) = long first + long_among rest

  abbrev pub long_stack : List Frame → ℕ
  long_stack [] = 0
  long_stack (frame ∷ frames) = suc (long frame.rest) + long_stack frames

  long_branch : (bs : Branches) (n : ℕ) → long (branch_at n bs) ≤ long_among bs
  long_branch no_branch n = omega arith
  long_branch (branch mark first rest) zero = omega arith
  long_branch (branch mark first rest) (suc n) = let h = long_branch rest n in omega (arith, h)

  joint_plain : (joint : Collective) (f g : ℕ → List ℕ) → ArePlain (each w.total (λ r. Enter joint (f r)) ++ each w.total (λ r. Leave joint (g r)))
  joint_plain joint f g = plain_append (each w.total (λ r. Enter joint (f r))) (each w.total (λ r. Leave joint (g r))) (plain_each w.total (λ r. Enter joint (f r)) (λ r. tt)) (plain_each w.total (λ r. Leave joint (g r)) (λ r. tt))

  abbrev no_answers : AnswerTable
  no_answers r = record { branches = []; words = [] }

  any_plan : (fuel : ℕ) (K : List Frame) → long_stack K ≤ fuel → StackStraight w way what K →
      ((o : Opener) (b : Block) (frames : List Frame) → long_stack (record { opener = o; rest = b } ∷ frames) ≤ fuel → StackStraight w way what (record { opener = o; rest = b } ∷ frames) → Plan (record { opener = o; rest = b } ∷ frames)) → Plan K
  any_plan fuel [] le h each_frame = record { answers = no_answers; no_words = λ r. refl; steps = 0; over = λ left same. refl; is = λ left same. refl }
  any_plan fuel (frame ∷ frames) le h each_frame = each_frame frame.opener frame.rest frames le h

  pub planned : (fuel : ℕ) (o : Opener) (b : Block) (frames : List Frame) → long_stack (record { opener = o; rest = b } ∷ frames) ≤ fuel → StackStraight w way what (record { opener = o; rest = b } ∷ frames) → Plan (record { opener = o; rest = b } ∷ frames)
  planned zero o b frames le h = absurd (omega (arith, le))
  planned (suc fuel) o stop frames le h = later o stop frames frames (λ left. refl) (λ left. tt) (omega arith) (any_plan fuel frames (omega (arith, le)) h.1 (λ o' b' frames' le' h'. planned fuel o' b' frames' le' h'))
  planned (suc fuel) o (message origin from to label rest) frames le h =
      later o (message origin from to label rest) frames (record { opener = o; rest = rest } ∷ frames) (λ left. refl) (λ left. (tt, (tt, tt))) (omega arith) (planned fuel o rest frames (omega (arith, le)) h)
  planned (suc fuel) o (compute origin at kernel rest) frames le h =
      later o (compute origin at kernel rest) frames (record { opener = o; rest = rest } ∷ frames) (λ left. refl) (λ left. (tt, tt)) (omega arith) (planned fuel o rest frames (omega (arith, le)) h)
  planned (suc fuel) o (together origin joint rest) frames le h =
      later o (together origin joint rest) frames (record { opener = o; rest = rest } ∷ frames) (λ left. refl) (λ left. joint_plain joint _ _) (omega arith) (planned fuel o rest frames (omega (arith, le)) h)
  planned (suc fuel) o (choice origin at kernel bs rest) frames le h =
      let it = among_at bs h.0.0 in
      let small = long_branch bs it.0 in
      choose o origin at kernel it.0 bs rest frames it.1 it.2
      (planned fuel (Chosen at bs) (branch_at it.0 bs) (record { opener = o; rest = rest } ∷ frames) (omega (arith, le, small)) (branch_straight w way what bs it.0 h.0.1.0, (h.0.1.1, h.1)))
  planned (suc fuel) o (looped origin body rest) frames le h = absurd h.0
  planned (suc fuel) o (again between) frames le h = absurd h.0
