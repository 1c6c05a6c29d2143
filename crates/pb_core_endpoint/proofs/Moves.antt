-- A rank's endpoint moves with the run.
use Rattle.std.proofs.Common.{◌≡◌, ◌≢◌, ℕ, zero, suc, ◌<◌, ◌==◌, Bool, cond, true, false, ◌||◌, ◌⊎◌, List, [], ◌∷◌, ◌++◌, length, Some, None, refl, sym, ap, ap₂, ◌∙◌, subst, inl, inr, arith}
use Rattle.std.proofs.lemmas.Bool.{or_cases, or_right, or_left, cases_Bool, or_parts}
use Rattle.pb_world.specs.Actions.{Action, Choose, Run, Send, Recv, Enter, Leave, of_rank, Answers, Chooses}
use Rattle.pb_world.specs.Machine.{Does, Probe}
use Rattle.pb_world.proofs.Lists.{eqb_cases}
use Rattle.pb_world.proofs.Sequential.{internal_self, internal_other, message_sender, message_receiver, message_other}
use Rattle.pb_world.proofs.Local.{Leads, there, by_silent, by_act}
use Rattle.pb_core_language.specs.Lists.{nth, is_among}
use Rattle.pb_core_language.specs.Flat.{Origin, Block, stop, message, compute, together, choice, looped, again, Branches, no_branch, branch, takes_part, takes_part_among, in_choice, count, branch_at}
use Rattle.pb_core_language.specs.Run.{Setting, Opener, Chosen, Body, Frame, at_rank, env_over, env_of, live, back, back_over, is_allowed, branch_now, words_now, entered_now, emit_at}
use Rattle.pb_core_endpoint.proofs.Kept.{Apart, IsTold}
use Rattle.pb_core_endpoint.specs.Endpoint.{Code, done, send, receive, run, enter, leave, choose, told, loop, Arms, code, arms, Part, count_arms, arm_at, arm_of, next_at, return_to, read_at, chosen, machine, body_of, shadow}
use Rattle.pb_core_language.specs.Outcomes.{Outcome, nothing_first, receives, other_first, again_first, firsts, firsts_among, source_of, labels_of}
use Rattle.pb_core_endpoint.specs.Endpoint as E
use Rattle.pb_core_endpoint.proofs.Clean.{top_live, Clean}
use Rattle.pb_core_endpoint.proofs.Stacks.{live_env, back_live}
use Rattle.pb_core_endpoint.proofs.Keep.{sends_fine, branch_fine, entry_fine, together_of}

-- ---- the arms of a choice are its branches

arms_count : (held : List Bool) (r : ℕ) (bs : Branches) → count_arms (arms held r bs) ≡ count bs
arms_count held r no_branch = refl
arms_count held r (branch mark b bs) = ap suc (arms_count held r bs)

pub arm_is : (held : List Bool) (r : ℕ) (bs : Branches) (x : ℕ) → arm_at x (arms held r bs) ≡ code held r (branch_at x bs)
arm_is held r no_branch x = refl
arm_is held r (branch mark b bs) zero = refl
arm_is held r (branch mark b bs) (suc x) = arm_is held r bs x

pub labels_append : (xs ys : List Outcome) → labels_of (xs ++ ys) ≡ labels_of xs ++ labels_of ys
labels_append [] ys = refl
labels_append (receives s l ∷ xs) ys = ap (λ k. l ∷ k) (labels_append xs ys)
labels_append (nothing_first ∷ xs) ys = labels_append xs ys
labels_append (other_first ∷ xs) ys = labels_append xs ys
labels_append (again_first ∷ xs) ys = labels_append xs ys

pub among_left : (l : ℕ) (xs ys : List ℕ) → is_among l xs ≡ true → is_among l (xs ++ ys) ≡ true
among_left l [] ys h = cc
among_left l (x ∷ xs) ys h = elim (or_cases (x == l) (is_among l xs) h) [ inl y ↦ or_left (x == l) (is_among l (xs ++ ys)) y | inr y ↦ or_right (x == l) _ (among_left l xs ys y) ]

pub among_right : (l : ℕ) (xs ys : List ℕ) → is_among l ys ≡ true → is_among l (xs ++ ys) ≡ true
among_right l [] ys h = h
among_right l (x ∷ xs) ys h = or_right (x == l) _ (among_right l xs ys h)

-- the labels of a branch are among those of all
pub among_at : (held : List Bool) (r : ℕ) (bs : Branches) (x l : ℕ) → is_among l (labels_of (firsts held r (branch_at x bs))) ≡ true → is_among l (labels_of (firsts_among held r bs)) ≡ true
among_at held r no_branch x l h = h
among_at held r (branch mark b bs) zero l h = ap (is_among l) (labels_append (firsts held r b) (firsts_among held r bs)) ∙ among_left l (labels_of (firsts held r b)) (labels_of (firsts_among held r bs)) h
among_at held r (branch mark b bs) (suc x) l h = ap (is_among l) (labels_append (firsts held r b) (firsts_among held r bs)) ∙ among_right l (labels_of (firsts held r b)) (labels_of (firsts_among held r bs)) (among_at held r bs x l h)

-- a first label of a branch says that it is this one
arm_reads : (held : List Bool) (r : ℕ) (bs : Branches) (x l : ℕ) → x < count bs → Apart held r bs → is_among l (labels_of (firsts held r (branch_at x bs))) ≡ true → arm_of (arms held r bs) l ≡ Some (code held r (branch_at x bs))
arm_reads held r no_branch x l lt a h = absurd (omega arith)
arm_reads held r (branch mark b bs) zero l lt a h = ap (λ t. cond t (Some (code held r b)) (arm_of (arms held r bs) l)) h
arm_reads held r (branch mark b bs) (suc x) l lt a h =
    let not : is_among l (labels_of (firsts held r b)) ≡ false = elim (cases_Bool (is_among l (labels_of (firsts held r b)))) [ inl v ↦ absurd (a.0 l v (among_at held r bs x l h)) | inr v ↦ v ] in
    ap (λ t. cond t (Some (code held r b)) (arm_of (arms held r bs) l)) not ∙ arm_reads held r bs x l (omega arith) a.1 h

-- of a block in which the rank takes no part nothing is left
pub code_dead : (held : List Bool) (r : ℕ) (g : Block) → takes_part held r g ≡ false → code held r g ≡ done
code_dead held r stop h = refl
code_dead held r (message origin p q l g) h =
    let a = or_parts (p == r) _ h in
    let b = or_parts (q == r) _ a.1 in
    let c = code held r g in
    ap₂ (λ u v. cond u (send q l c) (cond v (receive p l c) c)) a.0 b.0 ∙ code_dead held r g b.1
code_dead held r (compute origin p k g) h =
    let a = or_parts (p == r) _ h in
    ap (λ u. cond u (run k (code held r g)) (code held r g)) a.0 ∙ code_dead held r g a.1
code_dead held r (together origin j g) h = cc
code_dead held r (choice origin p k bs g) h =
    let a = or_parts _ (takes_part held r g) h in
    let b = or_parts (p == r) _ a.0 in
    let c = code held r g in
    ap₂ (λ u v. cond u (choose k (arms held r bs) c) (cond v (told (source_of (firsts_among held r bs)) (arms held r bs) c) c)) b.0 b.1 ∙ code_dead held r g a.1
code_dead held r (looped origin b g) h =
    let a = or_parts (takes_part (false ∷ held) r b) _ h in
    let c = code held r g in
    ap (λ u. cond u (loop (code (takes_part (false ∷ held) r b ∷ held) r b) c) c) a.0 ∙ code_dead held r g a.1
code_dead held r (again n) h = ap (λ u. cond u (E.again n) done) h

module _ (w : Setting) (r : ℕ) where
  abbrev pub Goes : List Part → List Action → List Part → Type 0
  Goes K s M = Leads machine (is_allowed w r) K s M

  module _ (o : Opener) (K : List Frame) (is_live : live r o (env_of K) ≡ true) where
    abbrev pub held : List Bool
    held = at_rank r (env_over o (env_of K))

    -- the stack of a rank that takes part
    abbrev pub mine : Code → List Part
    mine c = record { body = body_of r o (env_of K); code = c } ∷ shadow r K

    abbrev pub now : Block → List Part
    now g = shadow r (record { opener = o; rest = g } ∷ K)

    pub now_is : (g : Block) → now g ≡ mine (code held r g)
    now_is g = ap (λ b. cond b (mine (code held r g)) (shadow r K)) is_live

    -- it is enough to move from what it is
    from_now : (g : Block) (c : Code) (s : List Action) (M N : List Part) → code held r g ≡ c → Goes (mine c) s M → M ≡ N → Goes (now g) s N
    from_now g c s M N e l m = subst (λ X. Goes X s N) (sym (now_is g ∙ ap mine e)) (subst (λ X. Goes (mine c) s X) m l)

    pub stop_moves : Goes (now stop) [] (shadow r K)
    stop_moves = from_now stop done [] (shadow r K) (shadow r K) refl (by_silent refl there) refl

    -- where it takes no part in what is left of a block
    pub dead_moves : (g : Block) → takes_part held r g ≡ false → Goes (now g) [] (shadow r K)
    dead_moves g h = from_now g done [] (shadow r K) (shadow r K) (code_dead held r g h) (by_silent refl there) refl

    pub message_moves : (origin : Origin) (p q l : ℕ) (g : Block) (left : ℕ → Answers) → p ≢ q → Goes (now (message origin p q l g)) (of_rank r (emit_at w (message origin p q l g) left)) (now g)
    message_moves origin p q l g left ne =
        let c = code held r g in
        let st = emit_at w (message origin p q l g) left in
        let ws = words_now w left p q l in
        elim (eqb_cases p r) [
          | inl y ↦
              let acts : of_rank r st ≡ Send q l ws ∷ [] = subst (λ k. of_rank k st ≡ Send q l ws ∷ []) y.0 (message_sender p q l ws ne) in
              subst (λ s. Goes (now (message origin p q l g)) s (now g)) (sym acts)
              (from_now (message origin p q l g) (send q l c) (Send q l ws ∷ []) (mine c) (now g)
              (ap (λ u. cond u (send q l c) (cond (q == r) (receive p l c) c)) y.1)
              (by_act refl (sends_fine w left p q l r y.0) there) (sym (now_is g)))
          | inr y ↦ elim (eqb_cases q r) [
            | inl z ↦
                let acts : of_rank r st ≡ Recv p l ws ∷ [] = subst (λ k. of_rank k st ≡ Recv p l ws ∷ []) z.0 (message_receiver p q l ws ne) in
                subst (λ s. Goes (now (message origin p q l g)) s (now g)) (sym acts)
                (from_now (message origin p q l g) (receive p l c) (Recv p l ws ∷ []) (mine c) (now g)
                (ap₂ (λ u v. cond u (send q l c) (cond v (receive p l c) c)) y.1 z.1) (by_act refl refl there) (sym (now_is g)))
            | inr z ↦
                subst (λ s. Goes (now (message origin p q l g)) s (now g)) (sym (message_other p q l ws r y.0 z.0))
                (from_now (message origin p q l g) c [] (mine c) (now g) (ap₂ (λ u v. cond u (send q l c) (cond v (receive p l c) c)) y.1 z.1) there (sym (now_is g)))
          ]
        ]

    pub compute_moves : (origin : Origin) (p k : ℕ) (g : Block) (left : ℕ → Answers) → Goes (now (compute origin p k g)) (of_rank r (emit_at w (compute origin p k g) left)) (now g)
    compute_moves origin p k g left =
        let c = code held r g in
        elim (eqb_cases p r) [
          | inl y ↦
              subst (λ s. Goes (now (compute origin p k g)) s (now g)) (sym (subst (λ x. of_rank x ((p, Run k) ∷ []) ≡ Run k ∷ []) y.0 (internal_self p (Run k))))
              (from_now (compute origin p k g) (run k c) (Run k ∷ []) (mine c) (now g) (ap (λ u. cond u (run k c) c) y.1) (by_act refl refl there) (sym (now_is g)))
          | inr y ↦
              subst (λ s. Goes (now (compute origin p k g)) s (now g)) (sym (internal_other p r (Run k) y.0))
              (from_now (compute origin p k g) c [] (mine c) (now g) (ap (λ u. cond u (run k c) c) y.1) there (sym (now_is g)))
        ]

    pub together_moves : (origin : Origin) (protocol : Block) (j : _) (g : Block) (left : ℕ → Answers) → r < w.total → Goes (now (together origin j g)) (of_rank r (emit_at w (together origin j g) left)) (now g)
    together_moves origin protocol j g left lt =
        let c = code held r g in
        let v = entered_now w left j r in
        let u = w.outcome j r (entered_now w left j) in
        subst (λ s. Goes (now (together origin j g)) s (now g)) (sym (together_of w protocol left origin j g r lt))
        (from_now (together origin j g) (enter j (leave j c)) (Enter j v ∷ Leave j u ∷ []) (mine c) (now g) refl (by_act refl (entry_fine w left r j) (by_act refl refl there)) (sym (now_is g)))

    pub loop_moves : (origin : Origin) (b g : Block) → Goes (now (looped origin b g)) [] (shadow r (record { opener = Body b; rest = b } ∷ record { opener = o; rest = g } ∷ K))
    loop_moves origin b g =
        let c = code held r g in
        let t = takes_part (false ∷ held) r b in
        let cb = code (t ∷ held) r b in
        let whole : Bool → List Part → List Part = λ t M. cond t (record { body = Some cb; code = cb } ∷ M) M in
        let is : (u : Bool) → t ≡ u → code held r (looped origin b g) ≡ cond u (loop cb c) c = λ u e. ap (λ u. cond u (loop cb c) c) e in
        elim (cases_Bool t) [
          | inl y ↦ from_now (looped origin b g) (loop cb c) [] (record { body = Some cb; code = cb } ∷ mine c) (whole t (now g)) (is true y) (by_silent refl there) (ap₂ (λ t M. whole t M) (sym y) (sym (now_is g)))
          | inr y ↦ from_now (looped origin b g) c [] (mine c) (whole t (now g)) (is false y) there (ap₂ (λ t M. whole t M) (sym y) (sym (now_is g)))
        ]

    pub again_moves : Clean r K → top_live r K ≡ true → (n : ℕ) → n < length (env_over o (env_of K)) → Goes (now (again n)) [] (shadow r (back_over o n K (back K)))
    again_moves c down n lt =
        let all : Clean r (record { opener = o; rest = again n } ∷ K) = ((λ h. is_live), (λ h. down), c) in
        let open_is : nth held n ≡ true = live_env r (record { opener = o; rest = again n } ∷ K) all is_live n lt in
        from_now (again n) (E.again n) [] (return_to (mine (E.again n)) n) (shadow r (back_over o n K (back K))) (ap (λ u. cond u (E.again n) done) open_is) (by_silent refl there)
        (sym (back_live r (record { opener = o; rest = again n } ∷ K) all is_live n ∙ ap (λ X. return_to X n) (now_is (again n))))

    -- what a rank that isn't the chooser does at a choice
    pub record Asked (p : ℕ) (test : ℕ → Bool) (from to : List Part) : Type 0 where
      pub is : next_at from ≡ Probe p
      pub reads : (l : ℕ) → test l ≡ true → read_at from l ≡ Some to

    pub choice_moves : (origin : Origin) (p k : ℕ) (bs : Branches) (g : Block) (left : ℕ → Answers) → 0 < count bs → ((p == r) ≡ false → takes_part_among held r bs ≡ true → IsTold held r bs) → branch_now w left p k bs < count bs →
        let x = branch_now w left p k bs in
        let M = shadow r (record { opener = Chosen p bs; rest = branch_at x bs } ∷ record { opener = o; rest = g } ∷ K) in
        Goes (now (choice origin p k bs g)) (of_rank r ((p, Choose k (count bs) x) ∷ [])) M
        ⊎ ((p ≢ r) × (takes_part_among held r bs ≡ true) × Asked (source_of (firsts_among held r bs)) (λ l. is_among l (labels_of (firsts held r (branch_at x bs)))) (now (choice origin p k bs g)) M)
    choice_moves origin p k bs g left some told_is less =
        let x = branch_now w left p k bs in
        let n = count bs in
        let c = code held r g in
        let xs = arms held r bs in
        let src = source_of (firsts_among held r bs) in
        let cx = code held r (branch_at x bs) in
        let whole : Bool → List Part → List Part = λ u N. cond u (record { body = None; code = cx } ∷ N) N in
        let M = whole (in_choice held r p bs) (now g) in
        let is : (u v : Bool) → (p == r) ≡ u → takes_part_among held r bs ≡ v → code held r (choice origin p k bs g) ≡ cond u (choose k xs c) (cond v (told src xs c) c) = λ u v e f. ap₂ (λ u v. cond u (choose k xs c) (cond v (told src xs c) c)) e f in
        elim (eqb_cases p r) [
          | inl z ↦
              let chooses : next_at (mine (choose k xs c)) ≡ Does (Chooses k n) = ap (λ i. Does (Chooses k i)) (arms_count held r bs) in
              let taken : List Part = record { body = None; code = arm_at x xs } ∷ mine c in
              inl (subst (λ s. Goes (now (choice origin p k bs g)) s M) (sym (subst (λ q. of_rank q ((p, Choose k n x) ∷ []) ≡ Choose k n x ∷ []) z.0 (internal_self p (Choose k n x))))
              (from_now (choice origin p k bs g) (choose k xs c) (Choose k n x ∷ []) taken M (is true (takes_part_among held r bs) z.1 refl)
              (by_act chooses (branch_fine w left r p k bs some) there)
              (ap₂ (λ d N. record { body = None; code = d } ∷ N) (arm_is held r bs x) (sym (now_is g)) ∙ ap (λ u. whole u (now g)) (sym (or_left (p == r) (takes_part_among held r bs) z.1)))))
          | inr z ↦ elim (cases_Bool (takes_part_among held r bs)) [
            | inr y ↦
                inl (subst (λ s. Goes (now (choice origin p k bs g)) s M) (sym (internal_other p r (Choose k n x) z.0))
                (from_now (choice origin p k bs g) c [] (mine c) M (is false false z.1 y) there (sym (now_is g) ∙ ap (λ u. whole u (now g)) (sym (ap₂ (λ u v. u || v) z.1 y)))))
            | inl y ↦
                let told_now = told_is z.1 y in
                let at : now (choice origin p k bs g) ≡ mine (told src xs c) = now_is (choice origin p k bs g) ∙ ap mine (is false true z.1 y) in
                inr (
                  z.0,
                  y,
                  record {
                    is = ap next_at at;
                    reads = λ l f.
                        ap (λ X. read_at X l) at ∙ ap (λ d. chosen (mine c) d) (arm_reads held r bs x l less told_now.apart f)
                        ∙ ap (λ N. Some (record { body = None; code = cx } ∷ N)) (sym (now_is g)) ∙ ap (λ u. Some (whole u (now g))) (sym (or_right (p == r) (takes_part_among held r bs) y));
                  },
                )
          ]
        ]
