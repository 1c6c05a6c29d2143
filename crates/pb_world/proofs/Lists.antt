-- Prefixes, and the lists of one rank.
use Rattle.std.proofs.Common.{◌≡◌, ◌≢◌, ℕ, zero, suc, ◌≤◌, ◌==◌, cond, true, false, ◌⊎◌, List, [], ◌∷◌, ◌++◌, length, map, filter_map, slice_get, Option, Some, None, refl, sym, ap, ◌∙◌, subst, inl, inr, append_assoc, append-nil, arith, length-append}
use Rattle.std.proofs.lemmas.Bool.{eq-eqb, eqb-true, eqb-false}
use Rattle.std.proofs.lemmas.List.Elements.{filter_map-append}
use Rattle.pb_world.specs.Actions.{Action, done_by, of_rank, Answers, answer_of, IsPrefixOf, IsAnswered, branch_in, words_in}
use Rattle.pb_world.specs.World.{updated}

-- a test of two numbers, decided
pub eqb_cases : (a b : ℕ) → ((a ≡ b) × ((a == b) ≡ true)) ⊎ ((a ≢ b) × ((a == b) ≡ false))
eqb_cases a b =
    (elim (a == b) as (λ t. (a == b) ≡ t → ((a ≡ b) × ((a == b) ≡ true)) ⊎ ((a ≢ b) × ((a == b) ≡ false))) [
      | true ↦ λ e. inl (eqb-true a b e, e)
      | false ↦ λ e. inr (eqb-false a b e, e)
    ]) refl

pub not_eqb : (a b : ℕ) → a ≢ b → (a == b) ≡ false
not_eqb a b ne = elim (eqb_cases a b) [ inl h ↦ absurd (ne h.0) | inr h ↦ h.1 ]

pub at_same : {A : Type 0} (f : ℕ → A) (r : ℕ) (x : A) → updated f r x r ≡ x
at_same f r x = ap (λ b. cond b x (f r)) (eq-eqb r r refl)

pub at_other : {A : Type 0} (f : ℕ → A) (r : ℕ) (x : A) (q : ℕ) → q ≢ r → updated f r x q ≡ f q
at_other f r x q ne = ap (λ b. cond b x (f q)) (not_eqb q r ne)

pub prefix_refl : {A : Type 0} (xs : List A) → IsPrefixOf xs xs
prefix_refl xs = ([], append-nil xs)

pub prefix_trans : {A : Type 0} (xs ys zs : List A) → IsPrefixOf xs ys → IsPrefixOf ys zs → IsPrefixOf xs zs
prefix_trans xs ys zs p q = (p.0 ++ q.0, sym (append_assoc xs p.0 q.0) ∙ ap (λ l. l ++ q.0) p.1 ∙ q.1)

pub prefix_append : {A : Type 0} (xs ys : List A) → IsPrefixOf xs (xs ++ ys)
prefix_append xs ys = (ys, refl)

pub prefix_filter : {A B : Type 0} (f : A → Option B) (xs ys : List A) → IsPrefixOf xs ys → IsPrefixOf (filter_map f xs) (filter_map f ys)
prefix_filter f xs ys p = (filter_map f p.0, sym (filter_map-append f xs p.0) ∙ ap (filter_map f) p.1)

pub prefix_length : {A : Type 0} (xs ys : List A) → IsPrefixOf xs ys → length xs ≤ length ys
prefix_length xs ys p = let e = ap length p.1 in omega (arith, e, length-append xs p.0)

pub no_elements : {A : Type 0} (xs : List A) → length xs ≡ 0 → xs ≡ []
no_elements [] e = refl
no_elements (x ∷ xs) e = cc

-- two prefixes of each other are equal
pub prefix_both : {A : Type 0} (xs ys : List A) → IsPrefixOf xs ys → IsPrefixOf ys xs → xs ≡ ys
prefix_both xs ys p q =
    let n : length p.0 ≡ 0 = omega (arith, ap length p.1, ap length q.1, length-append xs p.0, length-append ys q.0) in
    sym (append-nil xs) ∙ ap (λ l. xs ++ l) (sym (no_elements p.0 n)) ∙ p.1

get_more : {A : Type 0} (xs zs : List A) (i : ℕ) (x : A) → slice_get xs i ≡ Some x → slice_get (xs ++ zs) i ≡ Some x
get_more [] zs i x h = cc
get_more (y ∷ xs) zs zero x h = h
get_more (y ∷ xs) zs (suc i) x h = get_more xs zs i x h

-- what a prefix has at a place, the list has there
pub prefix_get : {A : Type 0} (xs ys : List A) (i : ℕ) (x : A) → IsPrefixOf xs ys → slice_get xs i ≡ Some x → slice_get ys i ≡ Some x
prefix_get xs ys i x p h = subst (λ l. slice_get l i ≡ Some x) p.1 (get_more xs p.0 i x h)

pub get_end : {A : Type 0} (xs : List A) (y : A) (ys : List A) → slice_get (xs ++ y ∷ ys) (length xs) ≡ Some y
get_end [] y ys = refl
get_end (x ∷ xs) y ys = get_end xs y ys

-- Of u and d, both of which begin one list, d begins u, or u is shorter and d goes on
pub behind : {A : Type 0} (u v d t : List A) → u ++ v ≡ d ++ t → IsPrefixOf d u ⊎ ((c : A) × (cs : List A) × (d ≡ u ++ c ∷ cs))
behind u v [] t e = inl (u, refl)
behind [] v (c ∷ cs) t e = inr (c, cs, refl)
behind (x ∷ u) v (y ∷ d) t e =
    let same : x ≡ y = cc in
    let rest : u ++ v ≡ d ++ t = cc in
    elim (behind u v d t rest) [
      | inl p ↦ inl (p.0, ap (λ z. z ∷ (d ++ p.0)) (sym same) ∙ ap (λ l. x ∷ l) p.1)
      | inr h ↦ inr (h.0, h.1, ap (λ l. y ∷ l) h.2 ∙ ap (λ z. z ∷ (u ++ h.0 ∷ h.1)) (sym same))
    ]

-- what goes on isn't the beginning
pub not_before : {A : Type 0} (u : List A) (c : A) (cs : List A) → ¬ IsPrefixOf (u ++ c ∷ cs) u
not_before u c cs p = let h = prefix_length (u ++ c ∷ cs) u p in omega (arith, h, length-append u (c ∷ cs))

-- of two lists that begin one, the first begins the second or not
pub begins_or_not : {A : Type 0} (d u zs : List A) → IsPrefixOf d zs → IsPrefixOf u zs → IsPrefixOf d u ⊎ ((c : A) × (cs : List A) × (d ≡ u ++ c ∷ cs))
begins_or_not d u zs p q = behind u q.0 d p.0 (q.1 ∙ sym p.1)

-- one more action of a rank
pub of_more : (w : List (ℕ × Action)) (r : ℕ) (a : Action) → of_rank r (w ++ (r, a) ∷ []) ≡ of_rank r w ++ a ∷ []
of_more w r a = filter_map-append (done_by r) w ((r, a) ∷ []) ∙ ap (λ b. of_rank r w ++ filter_map (λ (x : ℕ × Action). cond b (Some x.1) None) ((r, a) ∷ [])) (eq-eqb r r refl)

pub of_other : (w : List (ℕ × Action)) (r q : ℕ) (a : Action) → q ≢ r → of_rank q (w ++ (r, a) ∷ []) ≡ of_rank q w
of_other w r q a ne =
    let ne' : r ≢ q = λ e. ne (sym e) in
    filter_map-append (done_by q) w ((r, a) ∷ []) ∙ ap (λ b. of_rank q w ++ filter_map (λ (x : ℕ × Action). cond b (Some x.1) None) ((r, a) ∷ [])) (not_eqb r q ne') ∙ append-nil (of_rank q w)

pub of_append : (r : ℕ) (v w : List (ℕ × Action)) → of_rank r (v ++ w) ≡ of_rank r v ++ of_rank r w
of_append r v w = filter_map-append (done_by r) v w

pub last_first : {A : Type 0} (xs : List A) (a : A) (ys : List A) → (xs ++ a ∷ []) ++ ys ≡ xs ++ a ∷ ys
last_first xs a ys = append_assoc xs (a ∷ []) ys

-- the answers of fewer actions
pub answered_before : (s t : List Action) (a : Answers) → IsAnswered (s ++ t) a → IsAnswered s a
answered_before s t a h = record {
  branches = prefix_trans _ _ _ (prefix_filter branch_in s (s ++ t) (prefix_append s t)) h.branches;
  words = prefix_trans _ _ _ (prefix_filter words_in s (s ++ t) (prefix_append s t)) h.words;
}

pub answered_self : (s : List Action) → IsAnswered s (answer_of s)
answered_self s = record { branches = prefix_refl _; words = prefix_refl _ }

-- what a mapped list has at a place comes from what the list has there
pub picked : {A B : Type 0} (f : A → B) (xs : List A) (i : ℕ) (y : B) → slice_get (map f xs) i ≡ Some y → (x : A) × (slice_get xs i ≡ Some x) × (f x ≡ y)
picked f [] i y h = cc
picked f (x ∷ xs) zero y h = (x, refl, cc)
picked f (x ∷ xs) (suc i) y h = picked f xs i y h

pub picks : {A B : Type 0} (f : A → B) (xs : List A) (i : ℕ) (x : A) → slice_get xs i ≡ Some x → slice_get (map f xs) i ≡ Some (f x)
picks f [] i x h = cc
picks f (y ∷ xs) zero x h = cc
picks f (y ∷ xs) (suc i) x h = picks f xs i x h

-- a table of tables with another list at one place
pub at2_same : {A : Type 0} (f : ℕ → ℕ → A) (r q : ℕ) (x : A) → updated f r (updated (f r) q x) r q ≡ x
at2_same f r q x = ap (λ (h : ℕ → _). h q) (at_same f r (updated (f r) q x)) ∙ at_same (f r) q x

pub at2_row : {A : Type 0} (f : ℕ → ℕ → A) (r q : ℕ) (x : A) (p o : ℕ) → p ≢ r → updated f r (updated (f r) q x) p o ≡ f p o
at2_row f r q x p o ne = ap (λ (h : ℕ → _). h o) (at_other f r (updated (f r) q x) p ne)

pub at2_place : {A : Type 0} (f : ℕ → ℕ → A) (r q : ℕ) (x : A) (p o : ℕ) → o ≢ q → updated f r (updated (f r) q x) p o ≡ f p o
at2_place f r q x p o ne =
    elim (eqb_cases p r) [
      | inl y ↦ subst (λ n. updated f r (updated (f r) q x) n o ≡ f n o) (sym y.0) (ap (λ (h : ℕ → _). h o) (at_same f r (updated (f r) q x)) ∙ at_other (f r) q x o ne)
      | inr y ↦ at2_row f r q x p o y.0
    ]

-- what more actions show
pub seen : {B : Type 0} (f : Action → Option B) (w : List (ℕ × Action)) (r : ℕ) (a : Action) → filter_map f (of_rank r (w ++ (r, a) ∷ [])) ≡ filter_map f (of_rank r w) ++ filter_map f (a ∷ [])
seen f w r a = ap (filter_map f) (of_more w r a) ∙ filter_map-append f (of_rank r w) (a ∷ [])

pub elsewhere : {B : Type 0} (f : Action → Option B) (w : List (ℕ × Action)) (r : ℕ) (a : Action) (q : ℕ) → q ≢ r → filter_map f (of_rank q (w ++ (r, a) ∷ [])) ≡ filter_map f (of_rank q w)
elsewhere f w r a q ne = ap (filter_map f) (of_other w r q a ne)

pub unseen : {B : Type 0} (f : Action → Option B) (w : List (ℕ × Action)) (r : ℕ) (a : Action) (q : ℕ) → filter_map f (a ∷ []) ≡ [] → filter_map f (of_rank q (w ++ (r, a) ∷ [])) ≡ filter_map f (of_rank q w)
unseen f w r a q h =
    elim (eqb_cases q r) [
      | inl y ↦ subst (λ n. filter_map f (of_rank n (w ++ (r, a) ∷ [])) ≡ filter_map f (of_rank n w)) (sym y.0) (seen f w r a ∙ ap (λ l. filter_map f (of_rank r w) ++ l) h ∙ append-nil _)
      | inr y ↦ elsewhere f w r a q y.0
    ]
