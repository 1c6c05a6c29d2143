-- The rules on loops and choices as tests, and that they hold where the lists of breaches are empty.
use Rattle.std.proofs.Common.{◌≡◌, ◌⊎◌, ℕ, zero, suc, ◌<◌, ◌==◌, Bool, true, false, ◌||◌, ◌&&◌, not, List, [], ◌∷◌, ◌++◌, refl, sym, ap, ap₂, ◌∙◌, subst, inl, inr, append_assoc, append-nil, arith, if◌then◌else◌}
use Rattle.pb_core_language.specs.Flat.{Block, stop, message, compute, together, choice, looped, again, Branches, no_branch, branch, takes_part, takes_part_among}
use Rattle.pb_core_language.specs.Run.{Env, at_rank}
use Rattle.pb_core_language.specs.Lists.{some_below, is_among, none_shared}
use Rattle.pb_core_language.specs.Outcomes.{Outcome, nothing_first, receives, other_first, again_first, firsts, firsts_among, only_receives, only_from, source_of, comes_from_one, labels_of}
use Rattle.pb_core_language.specs.Rules.{holds_again, deserted, deserted_among, misfits, misfits_among, receives_only, keeps_source, keeps_labels}
use Rattle.std.proofs.lemmas.Bool.{eqb-true, or_cases, or_right, or_left, and_parts}
use Rattle.pb_core_endpoint.proofs.Kept.{Apart}
use Rattle.pb_core_endpoint.proofs.Moves.{labels_append, among_left, among_right}

-- ---- the tests

abbrev pub all_below : ℕ → (ℕ → Bool) → Bool
all_below zero f = true
all_below (suc n) f = f n && all_below n f

abbrev mutual
  pub is_peopled : ℕ → Env → Block → Bool
  is_peopled T env stop = true
  is_peopled T env (message origin p q l g) = is_peopled T env g
  is_peopled T env (compute origin p k g) = is_peopled T env g
  is_peopled T env (together origin j g) = is_peopled T env g
  is_peopled T env (choice origin p k bs g) = are_peopled T env bs && is_peopled T env g
  is_peopled T env (looped origin b g) =
      (not (holds_again 0 b) || some_below T (λ r. takes_part (false ∷ at_rank r env) r b)) && (is_peopled T ((λ r. takes_part (false ∷ at_rank r env) r b) ∷ env) b && is_peopled T env g)
  is_peopled T env (again n) = true

  pub are_peopled : ℕ → Env → Branches → Bool
  are_peopled T env no_branch = true
  are_peopled T env (branch mark b bs) = is_peopled T env b && are_peopled T env bs

-- ---- choices

-- The test holds at each choice, for each rank that takes part in some branch and isn't the chooser
module _ (test : List Bool → ℕ → Branches → Bool) where
  abbrev mutual
    pub at_choices : ℕ → Env → Block → Bool
    at_choices T env stop = true
    at_choices T env (message origin p q l g) = at_choices T env g
    at_choices T env (compute origin p k g) = at_choices T env g
    at_choices T env (together origin j g) = at_choices T env g
    at_choices T env (choice origin p k bs g) =
        all_below T (λ r. (p == r) || (not (takes_part_among (at_rank r env) r bs) || test (at_rank r env) r bs)) && (at_choices_among T env bs && at_choices T env g)
    at_choices T env (looped origin b g) = at_choices T ((λ r. takes_part (false ∷ at_rank r env) r b) ∷ env) b && at_choices T env g
    at_choices T env (again n) = true

    pub at_choices_among : ℕ → Env → Branches → Bool
    at_choices_among T env no_branch = true
    at_choices_among T env (branch mark b bs) = at_choices T env b && at_choices_among T env bs

-- it finds only receives in the branches
abbrev pub all_receives : List Bool → ℕ → Branches → Bool
all_receives held r bs = only_receives (firsts_among held r bs)

-- all of them from one rank
abbrev pub from_one : List Bool → ℕ → Branches → Bool
from_one held r bs = only_from (source_of (firsts_among held r bs)) (firsts_among held r bs)

-- the outcomes of each branch fit, beside those of the branches before it
abbrev pub all_fit : (List Outcome → List Outcome → Bool) → List Outcome → List Bool → ℕ → Branches → Bool
all_fit fits before held r no_branch = true
all_fit fits before held r (branch mark b bs) = fits before (firsts held r b) && all_fit fits (before ++ firsts held r b) held r bs

abbrev pub labels_fit : List Bool → ℕ → Branches → Bool
labels_fit held r bs = all_fit keeps_labels [] held r bs

-- ---- empty lists

pub none_both : {A : Type 0} (xs ys : List A) → xs ++ ys ≡ [] → (xs ≡ []) × (ys ≡ [])
none_both [] ys h = (refl, h)
none_both (x ∷ xs) ys h = cc

pub not_listed : {A : Type 0} (t : Bool) (x : A) → (if t then x ∷ [] else []) ≡ [] → t ≡ false
not_listed true x h = cc
not_listed false x h = refl

every_below : (T : ℕ) (f : ℕ → Bool) → ((r : ℕ) → r < T → f r ≡ true) → all_below T f ≡ true
every_below zero f h = refl
every_below (suc n) f h = ap₂ (λ u v. u && v) (h n (omega arith)) (every_below n f (λ r lt. h r (omega arith)))

-- ---- loops

either_of : (a b : Bool) → (a && not b) ≡ false → (not a || b) ≡ true
either_of true true h = refl
either_of true false h = cc
either_of false b h = refl

mutual
  pub peopled_of : (T : ℕ) (env : Env) (g : Block) → deserted T env g ≡ [] → is_peopled T env g ≡ true
  peopled_of T env stop h = refl
  peopled_of T env (message origin p q l g) h = peopled_of T env g h
  peopled_of T env (compute origin p k g) h = peopled_of T env g h
  peopled_of T env (together origin j g) h = peopled_of T env g h
  peopled_of T env (choice origin p k bs g) h =
      let both = none_both (deserted_among T env bs) (deserted T env g) h in
      ap₂ (λ u v. u && v) (peopled_each T env bs both.0) (peopled_of T env g both.1)
  peopled_of T env (looped origin b g) h =
      let taker : ℕ → Bool = λ r. takes_part (false ∷ at_rank r env) r b in
      let first = none_both (if holds_again 0 b && not (some_below T taker) then origin.mark ∷ [] else []) _ h in
      let both = none_both (deserted T (taker ∷ env) b) (deserted T env g) first.1 in
      ap₂ (λ u v. u && v) (either_of (holds_again 0 b) (some_below T taker) (not_listed _ origin.mark first.0)) (ap₂ (λ u v. u && v) (peopled_of T (taker ∷ env) b both.0) (peopled_of T env g both.1))
  peopled_of T env (again n) h = refl

  peopled_each : (T : ℕ) (env : Env) (bs : Branches) → deserted_among T env bs ≡ [] → are_peopled T env bs ≡ true
  peopled_each T env no_branch h = refl
  peopled_each T env (branch mark b bs) h =
      let both = none_both (deserted T env b) (deserted_among T env bs) h in
      ap₂ (λ u v. u && v) (peopled_of T env b both.0) (peopled_each T env bs both.1)

-- ---- choices

told_fits : (t f : Bool) → (t && not f) ≡ false → t ≡ true → f ≡ true
told_fits true true h e = refl
told_fits true false h e = cc
told_fits false f h e = cc

passes : (c t f : Bool) → ((not c && t) ≡ true → f ≡ true) → (c || (not t || f)) ≡ true
passes true t f h = refl
passes false false f h = refl
passes false true f h = h refl

module _ (fits : List Outcome → List Outcome → Bool) (test : List Bool → ℕ → Branches → Bool) (says : (held : List Bool) (r : ℕ) (bs : Branches) → all_fit fits [] held r bs ≡ true → test held r bs ≡ true) (T : ℕ) where
  abbrev NoMisfits : Env → Block → Type 0
  NoMisfits env g = (r : ℕ) → r < T → misfits fits (at_rank r env) r g ≡ []

  mutual
    pub choices_of : (env : Env) (g : Block) → NoMisfits env g → at_choices test T env g ≡ true
    choices_of env stop h = refl
    choices_of env (message origin p q l g) h = choices_of env g h
    choices_of env (compute origin p k g) h = choices_of env g h
    choices_of env (together origin j g) h = choices_of env g h
    choices_of env (choice origin p k bs g) h =
        let told : ℕ → Bool = λ r. not (p == r) && takes_part_among (at_rank r env) r bs in
        let each = choices_among env told (λ r. []) bs (λ r lt. (none_both (misfits_among fits (at_rank r env) r (told r) [] bs) (misfits fits (at_rank r env) r g) (h r lt)).0) in
        ap₂ (λ u v. u && v)
        (every_below T (λ r. (p == r) || (not (takes_part_among (at_rank r env) r bs) || test (at_rank r env) r bs)) (λ r lt. passes (p == r) (takes_part_among (at_rank r env) r bs) (test (at_rank r env) r bs) (λ e. says (at_rank r env) r bs (each.0 r lt e))))
        (ap₂ (λ u v. u && v) each.1 (choices_of env g (λ r lt. (none_both (misfits_among fits (at_rank r env) r (told r) [] bs) (misfits fits (at_rank r env) r g) (h r lt)).1)))
    choices_of env (looped origin b g) h =
        let env' : Env = (λ r. takes_part (false ∷ at_rank r env) r b) ∷ env in
        ap₂ (λ u v. u && v) (choices_of env' b (λ r lt. (none_both (misfits fits (at_rank r env') r b) (misfits fits (at_rank r env) r g) (h r lt)).0))
        (choices_of env g (λ r lt. (none_both (misfits fits (at_rank r env') r b) (misfits fits (at_rank r env) r g) (h r lt)).1))
    choices_of env (again n) h = refl

    choices_among : (env : Env) (told : ℕ → Bool) (before : ℕ → List Outcome) (bs : Branches) → ((r : ℕ) → r < T → misfits_among fits (at_rank r env) r (told r) (before r) bs ≡ []) → ((r : ℕ) → r < T → told r ≡ true → all_fit fits (before r) (at_rank r env) r bs ≡ true) × (at_choices_among test T env bs ≡ true)
    choices_among env told before no_branch h = ((λ r lt e. refl), refl)
    choices_among env told before (branch mark b bs) h =
        let here : ℕ → List Outcome = λ r. firsts (at_rank r env) r b in
        let misfit : ℕ → Bool = λ r. told r && not (fits (before r) (here r)) in
        let first = λ (r : ℕ) (lt : r < T). none_both (if misfit r then mark ∷ [] else []) (misfits fits (at_rank r env) r b ++ misfits_among fits (at_rank r env) r (told r) (before r ++ here r) bs) (h r lt) in
        let both = λ (r : ℕ) (lt : r < T). none_both (misfits fits (at_rank r env) r b) (misfits_among fits (at_rank r env) r (told r) (before r ++ here r) bs) (first r lt).1 in
        let rest = choices_among env told (λ r. before r ++ here r) bs (λ r lt. (both r lt).1) in (
          (λ r lt e. ap₂ (λ u v. u && v) (told_fits (told r) (fits (before r) (here r)) (not_listed (misfit r) mark (first r lt).0) e) (rest.0 r lt e)),
          ap₂ (λ u v. u && v) (choices_of env b (λ r lt. (both r lt).0)) rest.1,
        )

-- ---- what the tests say of a choice

receives_both : (xs ys : List Outcome) → only_receives xs ≡ true → only_receives ys ≡ true → only_receives (xs ++ ys) ≡ true
receives_both [] ys h k = k
receives_both (receives s l ∷ xs) ys h k = receives_both xs ys h k
receives_both (nothing_first ∷ xs) ys h k = cc
receives_both (other_first ∷ xs) ys h k = cc
receives_both (again_first ∷ xs) ys h k = cc

pub says_receives : (before : List Outcome) (held : List Bool) (r : ℕ) (bs : Branches) → all_fit receives_only before held r bs ≡ true → all_receives held r bs ≡ true
says_receives before held r no_branch h = refl
says_receives before held r (branch mark b bs) h =
    let both = and_parts (only_receives (firsts held r b)) _ h in
    receives_both (firsts held r b) (firsts_among held r bs) both.0 (says_receives (before ++ firsts held r b) held r bs both.1)

keeps_one : (a b : Bool) → (a || not b) ≡ true → b ≡ true → a ≡ true
keeps_one true b h e = refl
keeps_one false true h e = cc
keeps_one false false h e = cc

sources_after : (before : List Outcome) (held : List Bool) (r : ℕ) (bs : Branches) → comes_from_one before ≡ true → all_fit keeps_source before held r bs ≡ true → comes_from_one (before ++ firsts_among held r bs) ≡ true
sources_after before held r no_branch c h = ap comes_from_one (append-nil before) ∙ c
sources_after before held r (branch mark b bs) c h =
    let here = firsts held r b in
    let both = and_parts (keeps_source before here) _ h in
    ap comes_from_one (sym (append_assoc before here (firsts_among held r bs))) ∙ sources_after (before ++ here) held r bs (keeps_one (comes_from_one (before ++ here)) (comes_from_one before) both.0 c) both.1

pub says_source : (held : List Bool) (r : ℕ) (bs : Branches) → all_fit keeps_source [] held r bs ≡ true → from_one held r bs ≡ true
says_source held r bs h = sources_after [] held r bs refl h

pub not_shared : (xs ys : List ℕ) → none_shared xs ys ≡ true → (l : ℕ) → is_among l xs ≡ true → is_among l ys ≡ true → ⊥
not_shared [] ys h l a b = cc
not_shared (x ∷ xs) ys h l a b =
    let both = and_parts (not (is_among x ys)) (none_shared xs ys) h in
    elim (or_cases (x == l) (is_among l xs) a) [
      | inl y ↦
          let in_ys : is_among x ys ≡ true = subst (λ k. is_among k ys ≡ true) (sym (eqb-true x l y)) b in
          let out : not (is_among x ys) ≡ false = ap not in_ys in
          let n = both.0 in
          cc
      | inr y ↦ not_shared xs ys both.1 l y b
    ]

among_one : (l : ℕ) (xs ys : List ℕ) → is_among l (xs ++ ys) ≡ true → (is_among l xs ≡ true) ⊎ (is_among l ys ≡ true)
among_one l [] ys h = inr h
among_one l (x ∷ xs) ys h =
    elim (or_cases (x == l) (is_among l (xs ++ ys)) h) [
      | inl y ↦ inl (or_left (x == l) (is_among l xs) y)
      | inr y ↦ elim (among_one l xs ys y) [ inl z ↦ inl (or_right (x == l) (is_among l xs) z) | inr z ↦ inr z ]
    ]

-- the labels of no branch are those of a later one, and none of them stood before
apart_after : (before : List Outcome) (held : List Bool) (r : ℕ) (bs : Branches) → all_fit keeps_labels before held r bs ≡ true → Apart held r bs × ((l : ℕ) → is_among l (labels_of before) ≡ true → is_among l (labels_of (firsts_among held r bs)) ≡ true → ⊥)
apart_after before held r no_branch h = (tt, λ l a b. cc)
apart_after before held r (branch mark b bs) h =
    let here = firsts held r b in
    let rest = firsts_among held r bs in
    let both = and_parts (keeps_labels before here) _ h in
    let later = apart_after (before ++ here) held r bs both.1 in (
      ((λ l x y. later.1 l (ap (is_among l) (labels_append before here) ∙ among_right l (labels_of before) (labels_of here) x) y), later.0),
      λ l x y. elim (among_one l (labels_of here) (labels_of rest) (sym (ap (is_among l) (labels_append here rest)) ∙ y)) [
        | inl z ↦ not_shared (labels_of here) (labels_of before) both.0 l z x
        | inr z ↦ later.1 l (ap (is_among l) (labels_append before here) ∙ among_left l (labels_of before) (labels_of here) x) z
      ],
    )

pub apart_of : (held : List Bool) (r : ℕ) (bs : Branches) → labels_fit held r bs ≡ true → Apart held r bs
apart_of held r bs h = (apart_after [] held r bs h).0
