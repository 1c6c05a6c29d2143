-- Without answers a block that can end is passed within a bound of its own.
use Rattle.std.proofs.Common.{◌≡◌, ℕ, zero, suc, ◌+◌, ◌<◌, ◌≤◌, cond, Bool, true, false, List, [], ◌∷◌, inl, inr, refl, sym, ap, ◌∙◌, subst, nat_lt, lt-ltb, arith}
use Rattle.std.proofs.lemmas.Bool.{or_cases, and_parts}
use Rattle.pb_world.specs.Actions.{Action, Choose, Run, Send, Recv, Enter, Leave, Answers, AnswerTable, of_rank}
use Rattle.pb_world.specs.Sequencer.{answers_after, answers_after_all, first_or, state_after}
use Rattle.pb_core_language.specs.Flat.{Block, stop, message, compute, together, choice, looped, again, Branches, no_branch, branch, count, branch_at, can_end, some_can_end, ending, first_ending}
use Rattle.pb_core_language.specs.Run.{Setting, Opener, Chosen, Body, Frame, State, emit, next, branch_now}
use Rattle.pb_plain_run.specs.Passing.{followed_by, IsEmpty, standing, Passed}

-- ---- the branch that is taken by default

ending_at : (bs : Branches) → some_can_end bs ≡ true → (ending bs < count bs) × (can_end (branch_at (ending bs) bs) ≡ true)
ending_at no_branch h = cc
ending_at (branch mark b bs) h = go (can_end b) refl (ending_at bs)
  where
    go : (c : Bool) → can_end b ≡ c → (some_can_end bs ≡ true → (ending bs < count bs) × (can_end (branch_at (ending bs) bs) ≡ true)) → (cond c 0 (suc (ending bs)) < suc (count bs)) × (can_end (branch_at (cond c 0 (suc (ending bs))) (branch mark b bs)) ≡ true)
    go true e more = (omega arith, e)
    go false e more =
        let it = more (elim (or_cases (can_end b) (some_can_end bs) h) [ inl y ↦ (let z = e in cc) | inr y ↦ y ]) in
        ((let lt = it.0 in omega arith), it.1)

first_ending_ends : (bs : Branches) → some_can_end bs ≡ true → can_end (branch_at (first_ending bs) bs) ≡ true
first_ending_ends bs h =
    let it = ending_at bs h in
    subst (λ c. can_end (branch_at (cond c (ending bs) 0) bs) ≡ true) (sym (lt-ltb (ending bs) (count bs) it.0)) it.1

-- ---- an empty table stays empty

abbrev none : Answers
none = record { branches = []; words = [] }

none_after : (a : Action) → answers_after a none ≡ none
none_after (Choose k n b) = refl
none_after (Run k) = refl
none_after (Send q l ws) = refl
none_after (Recv p l ws) = refl
none_after (Enter j []) = refl
none_after (Enter j (x ∷ ws)) = refl
none_after (Leave j ws) = refl

none_after_all : (s : List Action) → answers_after_all s none ≡ none
none_after_all [] = refl
none_after_all (a ∷ s) = ap (answers_after_all s) (none_after a) ∙ none_after_all s

module _ (w : Setting) where
  still_empty : (q : State) → IsEmpty q.left → IsEmpty (next w q).left
  still_empty q e r = ap (answers_after_all (of_rank r (emit w q))) (e r) ∙ none_after_all (of_rank r (emit w q))

  default_taken : (A : AnswerTable) (p k : ℕ) (bs : Branches) → IsEmpty A → branch_now w A p k bs ≡ first_ending bs
  default_taken A p k bs e = ap (λ (x : Answers). first_or x.branches (λ c. nat_lt c (count bs)) (first_ending bs)) (e p)

  -- from a state the run comes within so many steps to this frame, with no answers
  abbrev Comes : ℕ → State → Opener → Block → List Frame → Type 0
  Comes bound q opener rest around =
      (steps : ℕ) × (B : AnswerTable) × (steps ≤ bound) × IsEmpty B × (state_after (emit w) (next w) steps q ≡ standing opener rest around B)

  after_more : (m n : ℕ) (q : State) → state_after (emit w) (next w) (m + n) q ≡ state_after (emit w) (next w) n (state_after (emit w) (next w) m q)
  after_more zero n q = let e : 0 + n ≡ n = omega arith in ap (λ k. state_after (emit w) (next w) k q) e
  after_more (suc m) n q = let e : suc m + n ≡ suc (m + n) = omega arith in ap (λ k. state_after (emit w) (next w) k q) e ∙ after_more m n (next w q)

  at_once : (bound : ℕ) (o : Opener) (g : Block) (K : List Frame) (A : AnswerTable) → IsEmpty A → Comes bound (standing o g K A) o g K
  at_once bound o g K A e = (0, A, omega arith, e, refl)

  one_more : (n : ℕ) (q : State) (o : Opener) (g : Block) (K : List Frame) → Comes n (next w q) o g K → Comes (suc n) q o g K
  one_more n q o g K c = (suc c.0, c.1, (let le = c.2 in omega arith), c.3, c.4)

  later : (m n : ℕ) (q : State) (o : Opener) (g : Block) (K : List Frame) → m ≤ n → Comes m q o g K → Comes n q o g K
  later m n q o g K h c = (c.0, c.1, (let le = c.2 in omega arith), c.3, c.4)

  then_comes : (m n : ℕ) (q : State) (o o' : Opener) (g g' : Block) (K K' : List Frame) → Comes m q o g K → ((B : AnswerTable) → IsEmpty B → Comes n (standing o g K B) o' g' K') → Comes (m + n) q o' g' K'
  then_comes m n q o o' g g' K K' c d =
      let c' = d c.1 c.3 in
      (c.0 + c'.0, c'.1, (let x = c.2 in let y = c'.2 in omega arith), c'.3, after_more c.0 c'.0 q ∙ ap (state_after (emit w) (next w) c'.0) c.4 ∙ c'.4)

-- ---- the bound

abbrev mutual
  most : Block → ℕ
  most stop = 0
  most (message a p q l g) = suc (most g)
  most (compute a p k g) = suc (most g)
  most (together a j g) = suc (most g)
  most (choice a p k bs g) = suc (most_among bs + suc (most g))
  most (looped a b g) = suc (most b + suc (most g))
  most (again n) = 0

  most_among : Branches → ℕ
  most_among no_branch = 0
  most_among (branch m b bs) = most b + most_among bs

followed_by_nothing : (b : Block) → followed_by b stop ≡ b
followed_by_nothing stop = refl
followed_by_nothing (message a p q l g) = ap (message a p q l) (followed_by_nothing g)
followed_by_nothing (compute a p k g) = ap (compute a p k) (followed_by_nothing g)
followed_by_nothing (together a j g) = ap (together a j) (followed_by_nothing g)
followed_by_nothing (choice a p k bs g) = ap (choice a p k bs) (followed_by_nothing g)
followed_by_nothing (looped a b g) = ap (looped a b) (followed_by_nothing g)
followed_by_nothing (again n) = refl

abbrev frame : Opener → Block → Frame
frame o g = record { opener = o; rest = g }

module _ (w : Setting) where
  mutual
    passes : (b : Block) → can_end b ≡ true → (o : Opener) (rest : Block) (K : List Frame) (A : AnswerTable) → IsEmpty A → Comes w (most b) (standing o (followed_by b rest) K A) o rest K
    passes stop h o rest K A e = at_once w 0 o rest K A e
    passes (message a p q l g) h o rest K A e =
        let s = standing o (message a p q l (followed_by g rest)) K A in
        one_more w (most g) s o rest K (passes g h o rest K (next w s).left (still_empty w s e))
    passes (compute a p k g) h o rest K A e =
        let s = standing o (compute a p k (followed_by g rest)) K A in
        one_more w (most g) s o rest K (passes g h o rest K (next w s).left (still_empty w s e))
    passes (together a j g) h o rest K A e =
        let s = standing o (together a j (followed_by g rest)) K A in
        one_more w (most g) s o rest K (passes g h o rest K (next w s).left (still_empty w s e))
    passes (choice a p k bs g) h o rest K A e =
        let s = standing o (choice a p k bs (followed_by g rest)) K A in
        let f = frame o (followed_by g rest) in
        let ends = first_ending_ends bs (and_parts (some_can_end bs) (can_end g) h).0 in
        one_more w (most_among bs + suc (most g)) s o rest K
        (subst (λ c. Comes w (most_among bs + suc (most g)) (standing (Chosen p bs) (branch_at c bs) (f ∷ K) (next w s).left) o rest K) (sym (default_taken w A p k bs e))
        (then_comes w (most_among bs) (suc (most g)) (standing (Chosen p bs) (branch_at (first_ending bs) bs) (f ∷ K) (next w s).left) (Chosen p bs) o stop rest (f ∷ K) K
        (passes_at bs (first_ending bs) ends (Chosen p bs) (f ∷ K) (next w s).left (still_empty w s e))
        (λ B e'. one_more w (most g) (standing (Chosen p bs) stop (f ∷ K) B) o rest K (passes g (and_parts (some_can_end bs) (can_end g) h).1 o rest K B e'))))
    passes (looped a b g) h o rest K A e =
        let s = standing o (looped a b (followed_by g rest)) K A in
        let f = frame o (followed_by g rest) in
        one_more w (most b + suc (most g)) s o rest K
        (then_comes w (most b) (suc (most g)) (standing (Body b) b (f ∷ K) (next w s).left) (Body b) o stop rest (f ∷ K) K
        (subst (λ c. Comes w (most b) (standing (Body b) c (f ∷ K) (next w s).left) (Body b) stop (f ∷ K)) (followed_by_nothing b) (passes b (and_parts (can_end b) (can_end g) h).0 (Body b) stop (f ∷ K) (next w s).left (still_empty w s e)))
        (λ B e'. one_more w (most g) (standing (Body b) stop (f ∷ K) B) o rest K (passes g (and_parts (can_end b) (can_end g) h).1 o rest K B e')))
    passes (again n) h o rest K A e = absurd (let n : false ≡ true = h in cc)

    passes_at : (bs : Branches) (x : ℕ) → can_end (branch_at x bs) ≡ true → (o : Opener) (K : List Frame) (A : AnswerTable) → IsEmpty A → Comes w (most_among bs) (standing o (branch_at x bs) K A) o stop K
    passes_at no_branch x h o K A e = at_once w 0 o stop K A e
    passes_at (branch m b bs) zero h o K A e =
        later w (most b) (most b + most_among bs) (standing o b K A) o stop K (omega arith)
        (subst (λ c. Comes w (most b) (standing o c K A) o stop K) (followed_by_nothing b) (passes b h o stop K A e))
    passes_at (branch m b bs) (suc x) h o K A e =
        later w (most_among bs) (most b + most_among bs) (standing o (branch_at x bs) K A) o stop K (omega arith) (passes_at bs x h o K A e)

pub passed : Passed
passed block h = (most block, λ w o rest K A e. passes w block h o rest K A e)
