-- An endpoint doesn't go back to a loop twice without an action between.
use Rattle.std.proofs.Common.{◌≡◌, ℕ, zero, suc, ◌<◌, ◌==◌, Bool, cond, true, false, ◌||◌, ◌&&◌, List, [], ◌∷◌, Option, Some, None, refl, sym, ap, ◌∙◌, subst, inl, inr}
use Rattle.std.proofs.lemmas.Bool.{eq-eqb, eqb-true, or_cases, or_right, or_left, cases_Bool}
use Rattle.pb_world.specs.Actions.{Action}
use Rattle.pb_world.specs.Machine.{Silent}
use Rattle.pb_world.specs.Family.{Laws}
use Rattle.pb_world.specs.Once.{once_start, once}
use Rattle.pb_world.proofs.OnceFollows.{KeepsOnce, follows_once}
use Rattle.pb_world.proofs.OnMachine.{laws_on}
use Rattle.pb_world.proofs.Theorem.{all_ranks}
use Rattle.pb_core_language.specs.Lists.{nth, is_among}
use Rattle.pb_core_language.specs.Flat.{Block, stop, message, compute, together, choice, looped, again, Branches, no_branch, branch, takes_part, takes_part_among}
use Rattle.pb_core_language.specs.Run.{Setting, is_allowed}
use Rattle.pb_core_endpoint.specs.Endpoint.{Code, done, send, receive, run, enter, leave, choose, told, loop, Arms, no_arm, arm, code, arms, Part, arm_at, arm_of, next_at, return_to, quiet_at, branch_of, act_at, chosen, read_at, machine, endpoint}
use Rattle.pb_core_endpoint.specs.Endpoint as E
use Rattle.pb_core_endpoint.specs.Theorem.{family}
use Rattle.pb_core_endpoint.specs.Once.{is_at_again, once_family, EndpointsDoOnce}
use Rattle.pb_core_endpoint.proofs.Kept.{Obeys}
use Rattle.pb_core_endpoint.proofs.Derive.{obeyed}
use Rattle.pb_core_endpoint.proofs.Accepted.{bridge_is}
use Rattle.pb_core_endpoint.proofs.Starts.{Start, Acts, Returns, Ends, lower, then_start, start_of, has_again, has_again_arms, Acting_arms, Fine, Fine_arms, message_code, choice_code, loop_code, fine}

-- ---- stacks

abbrev starts_over : Option Code → List Start → List Start
starts_over None S = S
starts_over (Some b) S = start_of b ∷ S

-- with what the bodies of the open loops start
abbrev starts : List Part → List Start
starts [] = []
starts (f ∷ K) = starts_over f.body (starts K)

abbrev Acting : List Start → ℕ → Type 0
Acting [] n = ⊥
Acting (s ∷ S) zero = s ≡ Acts
Acting (s ∷ S) (suc n) = Acting S n

abbrev Body_ok : Option Code → List Start → Type 0
Body_ok None S = Unit {0}
Body_ok (Some b) S = Fine b × ((n : ℕ) → has_again n b ≡ true → Acting (start_of b ∷ S) n)

abbrev Stack_ok : List Part → Type 0
Stack_ok [] = Unit {0}
Stack_ok (f ∷ K) = Fine f.code × ((n : ℕ) → has_again n f.code ≡ true → Acting (starts_over f.body (starts K)) n) × Body_ok f.body (starts K) × Stack_ok K

abbrev stack_start : List Part → Start
stack_start [] = Ends
stack_start (f ∷ K) = then_start (start_of f.code) (stack_start K)

-- where it went back since its last action, it starts with an action
abbrev Inv : List Part → Bool → Type 0
Inv X back = Stack_ok X × (back ≡ true → stack_start X ≡ Acts)

return_ok : (X : List Part) → Stack_ok X → (n : ℕ) → Acting (starts X) n → Stack_ok (return_to X n) × (stack_start (return_to X n) ≡ Acts)
return_ok [] ok n a = absurd a
return_ok (f ∷ K) ok n a = go f.body n ok.2 a (return_ok K ok.3)
  where
    go : (o : Option Code) (n : ℕ) → Body_ok o (starts K) → Acting (starts_over o (starts K)) n → ((n : ℕ) → Acting (starts K) n → Stack_ok (return_to K n) × (stack_start (return_to K n) ≡ Acts)) →
        Stack_ok (E.return_over o n K (return_to K)) × (stack_start (E.return_over o n K (return_to K)) ≡ Acts)
    go None n b a ih = ih n a
    go (Some b) zero bo a ih = ((bo.0, bo.1, bo, ok.3), ap (λ s. then_start s (stack_start K)) a)
    go (Some b) (suc n) bo a ih = ih n a

loop_start : (s t v : Start) → then_start (then_start (lower s) t) v ≡ Acts → then_start s (then_start t v) ≡ Acts
loop_start Acts t v e = refl
loop_start (Returns zero) t v e = cc
loop_start (Returns (suc n)) t v e = cc
loop_start Ends Acts v e = refl
loop_start Ends (Returns n) v e = e
loop_start Ends Ends v e = e

quiet_ok : (X : List Part) (back : Bool) → Inv X back → next_at X ≡ Silent → Inv (quiet_at X) (is_at_again X || back)
quiet_ok [] back i e = cc
quiet_ok (f ∷ K) back i e = go f.code i e
  where
    go : (c : Code) → Inv (record { body = f.body; code = c } ∷ K) back → next_at (record { body = f.body; code = c } ∷ K) ≡ Silent → Inv (quiet_at (record { body = f.body; code = c } ∷ K)) (is_at_again (record { body = f.body; code = c } ∷ K) || back)
    go done i e = (i.0.3, i.1)
    go (send q l c) i e = cc
    go (receive p l c) i e = cc
    go (run k c) i e = cc
    go (enter j c) i e = cc
    go (leave j c) i e = cc
    go (choose k xs c) i e = cc
    go (told p xs c) i e = cc
    go (loop b c) i e = ((i.0.0.1, inner, (i.0.0.1, inner), (i.0.0.2, (λ n h. i.0.1 n (or_right (has_again (suc n) b) (has_again n c) h)), i.0.2, i.0.3)), (λ t. loop_start (start_of b) (start_of c) (stack_start K) (i.1 t)))
      where
        inner : (n : ℕ) → has_again n b ≡ true → Acting (start_of b ∷ starts_over f.body (starts K)) n
        inner zero h = i.0.0.0 h
        inner (suc n) h = i.0.1 n (or_left (has_again (suc n) b) (has_again n c) h)
    go (E.again n) i e =
        let back_is = return_ok (record { body = f.body; code = E.again n } ∷ K) i.0 n (i.0.1 n (eq-eqb n n refl)) in
        (back_is.0, λ t. back_is.1)

-- ---- actions and probes

fine_arm : (xs : Arms) (x : ℕ) → Fine_arms xs → Fine (arm_at x xs)
fine_arm no_arm x f = tt
fine_arm (arm ls c xs) zero f = f.0
fine_arm (arm ls c xs) (suc x) f = fine_arm xs x f.1

again_arm : (xs : Arms) (x n : ℕ) → has_again n (arm_at x xs) ≡ true → has_again_arms n xs ≡ true
again_arm no_arm x n h = h
again_arm (arm ls c xs) zero n h = or_left (has_again n c) (has_again_arms n xs) h
again_arm (arm ls c xs) (suc x) n h = or_right (has_again n c) (has_again_arms n xs) (again_arm xs x n h)

act_ok : (X : List Part) (x : ℕ) → Stack_ok X → Stack_ok (act_at X x)
act_ok [] x ok = tt
act_ok (f ∷ K) x ok = go f.code ok
  where
    go : (c : Code) → Stack_ok (record { body = f.body; code = c } ∷ K) → Stack_ok (act_at (record { body = f.body; code = c } ∷ K) x)
    go done ok = tt
    go (send q l c) ok = ok
    go (receive p l c) ok = ok
    go (run k c) ok = ok
    go (enter j c) ok = ok
    go (leave j c) ok = ok
    go (choose k xs c) ok = (fine_arm xs x ok.0.0, (λ n h. ok.1 n (or_left (has_again_arms n xs) (has_again n c) (again_arm xs x n h))), tt, (ok.0.1, (λ n h. ok.1 n (or_right (has_again_arms n xs) (has_again n c) h)), ok.2, ok.3))
    go (told p xs c) ok = tt
    go (loop b c) ok = tt
    go (E.again n) ok = tt

record Arm (xs : Arms) (c : Code) : Type 0 where
  acting : start_of c ≡ Acts
  good : Fine c
  way : (n : ℕ) → has_again n c ≡ true → has_again_arms n xs ≡ true

arm_ok : (xs : Arms) (l : ℕ) (c : Code) → arm_of xs l ≡ Some c → Acting_arms xs → Fine_arms xs → Arm xs c
arm_ok no_arm l c e a f = cc
arm_ok (arm ls d xs) l c e a f =
    elim (cases_Bool (is_among l ls)) [
      | inl y ↦
          let e' : Some d ≡ Some c = sym (ap (λ u. cond u (Some d) (arm_of xs l)) y) ∙ e in
          let same : d ≡ c = cc in
          subst (Arm (arm ls d xs)) same (record { acting = a.0; good = f.0; way = λ n h. or_left (has_again n d) (has_again_arms n xs) h })
      | inr y ↦
          let ih = arm_ok xs l c (sym (ap (λ u. cond u (Some d) (arm_of xs l)) y) ∙ e) a.1 f.1 in
          record { acting = ih.acting; good = ih.good; way = λ n h. or_right (has_again n d) (has_again_arms n xs) (ih.way n h) }
    ]

read_ok : (X Y : List Part) (l : ℕ) → Stack_ok X → read_at X l ≡ Some Y → Stack_ok Y × (stack_start Y ≡ Acts)
read_ok [] Y l ok e = cc
read_ok (f ∷ K) Y l ok e = go f.code ok e
  where
    go : (c : Code) → Stack_ok (record { body = f.body; code = c } ∷ K) → read_at (record { body = f.body; code = c } ∷ K) l ≡ Some Y → Stack_ok Y × (stack_start Y ≡ Acts)
    go done ok e = cc
    go (send q m c) ok e = cc
    go (receive p m c) ok e = cc
    go (run k c) ok e = cc
    go (enter j c) ok e = cc
    go (leave j c) ok e = cc
    go (choose k xs c) ok e = cc
    go (loop b c) ok e = cc
    go (E.again n) ok e = cc
    go (told p xs c) ok e = by (arm_of xs l) refl
      where
        by : (m : Option Code) → arm_of xs l ≡ m → Stack_ok Y × (stack_start Y ≡ Acts)
        by None i = (let e' = sym (ap (chosen (record { body = f.body; code = c } ∷ K)) i) ∙ e in cc)
        by (Some d) i =
            let e' : Some (record { body = None; code = d } ∷ record { body = f.body; code = c } ∷ K) ≡ Some Y = sym (ap (chosen (record { body = f.body; code = c } ∷ K)) i) ∙ e in
            let same : ◌≡◌ {A = List Part} (record { body = None; code = d } ∷ record { body = f.body; code = c } ∷ K) Y = cc in
            let it = arm_ok xs l d i ok.0.0 ok.0.1 in
            subst (λ Z. Stack_ok Z × (stack_start Z ≡ Acts)) same (
              (it.good, (λ n h. ok.1 n (or_left (has_again_arms n xs) (has_again n c) (it.way n h))), tt, (ok.0.2, (λ n h. ok.1 n (or_right (has_again_arms n xs) (has_again n c) h)), ok.2, ok.3)),
              ap (λ s. then_start s (then_start (start_of c) (stack_start K))) it.acting,
            )

-- it isn't at a second way back
not_bad : (X : List Part) (back : Bool) → Inv X back → (is_at_again X && back) ≡ false
not_bad [] back i = refl
not_bad (f ∷ K) back i = go f.code back i
  where
    go : (c : Code) (back : Bool) → Inv (record { body = f.body; code = c } ∷ K) back → (is_at_again (record { body = f.body; code = c } ∷ K) && back) ≡ false
    go done back i = refl
    go (send q l c) back i = refl
    go (receive p l c) back i = refl
    go (run k c) back i = refl
    go (enter j c) back i = refl
    go (leave j c) back i = refl
    go (choose k xs c) back i = refl
    go (told p xs c) back i = refl
    go (loop b c) back i = refl
    go (E.again n) true i = (let x = i.1 refl in cc)
    go (E.again n) false i = refl

keeps_once : (allowed : Action → Bool) → KeepsOnce is_at_again machine allowed Inv
keeps_once allowed = record {
  never_twice = not_bad;
  quiet = quiet_ok;
  act = λ X back a i h. (act_ok X (branch_of a) i.0, λ t. cc);
  read = λ X Y back l i rd. (let it = read_ok X Y l i.0 rd in (it.0, λ t. it.1));
}

-- ---- a way back is to a loop in which the rank takes part
module _ (r : ℕ) where
  mutual
    open_again : (held : List Bool) (g : Block) (n : ℕ) → has_again n (code held r g) ≡ true → nth held n ≡ true
    open_again held stop n h = cc
    open_again held (message origin p q l g) n h =
        let c = code held r g in
        go (p == r) (q == r) h (open_again held g n)
      where
        go : (u v : Bool) → has_again n (message_code u v p q l (code held r g)) ≡ true → (has_again n (code held r g) ≡ true → nth held n ≡ true) → nth held n ≡ true
        go true v h ih = ih h
        go false true h ih = ih h
        go false false h ih = ih h
    open_again held (compute origin p k g) n h = go (p == r) h (open_again held g n)
      where
        go : (u : Bool) → has_again n (cond u (run k (code held r g)) (code held r g)) ≡ true → (has_again n (code held r g) ≡ true → nth held n ≡ true) → nth held n ≡ true
        go true h ih = ih h
        go false h ih = ih h
    open_again held (together origin j g) n h = open_again held g n h
    open_again held (choice origin p k bs g) n h = go (p == r) (takes_part_among held r bs) h (open_again_arms held bs n) (open_again held g n)
      where
        go : (u v : Bool) → has_again n (choice_code u v held r k bs (code held r g)) ≡ true → (has_again_arms n (arms held r bs) ≡ true → nth held n ≡ true) → (has_again n (code held r g) ≡ true → nth held n ≡ true) → nth held n ≡ true
        go true v h ia ih = elim (or_cases (has_again_arms n (arms held r bs)) _ h) [ inl x ↦ ia x | inr x ↦ ih x ]
        go false true h ia ih = elim (or_cases (has_again_arms n (arms held r bs)) _ h) [ inl x ↦ ia x | inr x ↦ ih x ]
        go false false h ia ih = ih h
    open_again held (looped origin b g) n h = go (takes_part (false ∷ held) r b) h (open_again (takes_part (false ∷ held) r b ∷ held) b (suc n)) (open_again held g n)
      where
        go : (u : Bool) → has_again n (loop_code u (code (takes_part (false ∷ held) r b ∷ held) r b) (code held r g)) ≡ true → (has_again (suc n) (code (takes_part (false ∷ held) r b ∷ held) r b) ≡ true → nth held n ≡ true) → (has_again n (code held r g) ≡ true → nth held n ≡ true) → nth held n ≡ true
        go true h ib ih = elim (or_cases (has_again (suc n) (code (takes_part (false ∷ held) r b ∷ held) r b)) _ h) [ inl x ↦ ib x | inr x ↦ ih x ]
        go false h ib ih = ih h
    open_again held (again m) n h =
        elim (cases_Bool (nth held m)) [
          | inl y ↦ subst (λ k. nth held k ≡ true) (eqb-true m n (sym (ap (λ u. has_again n (cond u (E.again m) done)) y) ∙ h)) y
          | inr y ↦ (let no' = sym (ap (λ u. has_again n (cond u (E.again m) done)) y) ∙ h in cc)
        ]

    open_again_arms : (held : List Bool) (bs : Branches) (n : ℕ) → has_again_arms n (arms held r bs) ≡ true → nth held n ≡ true
    open_again_arms held no_branch n h = cc
    open_again_arms held (branch mark b bs) n h =
        elim (or_cases (has_again n (code held r b)) (has_again_arms n (arms held r bs)) h) [ inl x ↦ open_again held b n x | inr x ↦ open_again_arms held bs n x ]

module _ (w : Setting) (protocol : Block) (obeys : Obeys w.total protocol) where
  inv_start : (r : ℕ) → r < w.total → Inv (endpoint protocol r) false
  inv_start r lt = ((fine r w.total lt [] protocol obeys.keeps obeys.ends, (λ n h. (let out = open_again r [] protocol n h in cc)), tt, tt), λ t. cc)

  laws_once : Laws (family w protocol) → Laws (once_family w protocol)
  laws_once = laws_on (family w protocol) (once is_at_again machine) (λ r. once_start (endpoint protocol r)) (λ r lt s ends f. follows_once is_at_again machine (is_allowed w r) Inv (keeps_once (is_allowed w r)) false (inv_start r lt) f)

pub once_is : EndpointsDoOnce
once_is w protocol depends accepted =
    let laws = laws_once w protocol (obeyed w protocol accepted) (bridge_is w protocol depends accepted).0 in
    (laws, all_ranks (once_family w protocol) laws)
