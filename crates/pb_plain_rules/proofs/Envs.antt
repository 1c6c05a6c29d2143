-- What is known of the loops around, for one rank and for all.
use Rattle.std.proofs.Common.{◌≡◌, ℕ, zero, suc, ◌+◌, ◌<◌, ◌⊎◌, inl, inr, Result, Ok, Err, OnOk, Bool, true, false, ◌||◌, ◌&&◌, not, if◌then◌else◌, List, [], ◌∷◌, ◌++◌, length, length-append, refl, ap, ap₂, sym, ◌∙◌, subst, arith, Bor}
use Rattle.pb_core_language.specs.Tree.{Mark}
use Rattle.pb_core_language.specs.Lists.{nth, some_below, over_below}
use Rattle.pb_core_language.specs.Flat.{Block, stop, message, compute, together, choice, looped, again, Branches, no_branch, branch, takes_part}
use Rattle.pb_core_language.specs.Run.{Env, at_rank}
use Rattle.pb_core_language.specs.Rules.{holds_again, deserted, deserted_among}
use Rattle.pb_plain.specs.declared.held.Held.{Held, Held-F, fold-roll-Held, map-Held, ind-Held}
use Rattle.pb_plain.specs.declared.held.Held.TheVariants.{Just, Each, rolls-Each}
use Rattle.pb_plain.specs.declared.held.Held.TheOpen as L
use Rattle.pb_plain.specs.Loops.{held_at, held_layer}
use Rattle.pb_plain.proofs.Tables.{just_is}
use Rattle.pb_plain_rules.specs.Depth.{env_of, env_layer}
use Rattle.pb_plain_rules.specs.Lonely.{inside}

layers : (r : ℕ) (y : Held-F ((h : Held) × (at_rank r (env_of h) ≡ held_at r h))) →
    at_rank r (env_layer (map-Held _ _ env_of (map-Held _ _ (λ e. e.0) y))) ≡ held_layer r (map-Held _ _ (held_at r) (map-Held _ _ (λ e. e.0) y))
layers r L.Top = refl
layers r (L.Just b rest) = ap (λ x. b ∷ x) rest.now.1
layers r (L.Each table rest) = ap (λ x. nth table.now r ∷ x) rest.now.1

pub at_held : (r : ℕ) (h : Held) → at_rank r (env_of h) ≡ held_at r h
at_held r = ind-Held (λ h. at_rank r (env_of h) ≡ held_at r h) (λ x y is.
    ap (at_rank r) (fold-roll-Held Env env_layer x)
    ∙ subst (λ z. at_rank r (env_layer (map-Held _ _ env_of z)) ≡ held_layer r (map-Held _ _ (held_at r) z)) is (layers r y)
    ∙ sym (fold-roll-Held (List Bool) (held_layer r) x))

pub env_each : (table : Bor (List Bool)) (rest : Bor Held) → env_of (Each table rest) ≡ (λ r. nth table.now r) ∷ env_of rest.now
env_each table rest = ap env_of (sym (rolls-Each table rest)) ∙ fold-roll-Held Env env_layer (L.Each table rest)

pub some_below_same : (n : ℕ) (f g : ℕ → Bool) → ((r : ℕ) → r < n → f r ≡ g r) → some_below n f ≡ some_below n g
some_below_same zero f g same = refl
some_below_same (suc n) f g same = ap₂ (λ a b. a || b) (same n (omega arith)) (some_below_same n f g (λ r lt. same r (omega arith)))

nth_front : (xs ys : List Bool) (k : ℕ) → k < length xs → nth (xs ++ ys) k ≡ nth xs k
nth_front [] ys k h = absurd (omega arith)
nth_front (x ∷ xs) ys zero h = refl
nth_front (x ∷ xs) ys (suc k) h = nth_front xs ys k (omega arith)

nth_end : (xs : List Bool) (y : Bool) (k : ℕ) → k ≡ length xs → nth (xs ++ y ∷ []) k ≡ y
nth_end [] y zero h = refl
nth_end [] y (suc k) h = absurd (omega arith)
nth_end (x ∷ xs) y zero h = absurd (omega arith)
nth_end (x ∷ xs) y (suc k) h = nth_end xs y k (omega arith)

table_length : (n : ℕ) (f : ℕ → Bool) → length (over_below n (λ r. f r ∷ [])) ≡ n
table_length zero f = refl
table_length (suc n) f = omega (arith, length-append (over_below n (λ r. f r ∷ [])) (f n ∷ []), table_length n f)

two_cases : (k n : ℕ) → k < suc n → (k < n) ⊎ (k ≡ n)
two_cases zero zero h = inr refl
two_cases zero (suc n) h = inl (omega arith)
two_cases (suc k) zero h = absurd (omega arith)
two_cases (suc k) (suc n) h = elim (two_cases k n (omega arith)) [ inl lt ↦ inl (omega (arith, lt)) | inr is ↦ inr (ap suc is) ]

-- a table of what holds of each number below n
pub table_at : (n : ℕ) (f : ℕ → Bool) (k : ℕ) → k < n → nth (over_below n (λ r. f r ∷ [])) k ≡ f k
table_at zero f k h = absurd (omega arith)
table_at (suc n) f k h = elim (two_cases k n (omega arith)) [
  | inl lt ↦ nth_front (over_below n (λ r. f r ∷ [])) (f n ∷ []) k (omega (arith, lt, table_length n f)) ∙ table_at n f k lt
  | inr is ↦ nth_end (over_below n (λ r. f r ∷ [])) (f n) k (is ∙ sym (table_length n f)) ∙ ap f (sym is)
]

-- who takes part in a continue is asked of the ranks alone
mutual
  deserted_same : (T : ℕ) (c d : Env) (b : Block) → ((r : ℕ) → r < T → at_rank r c ≡ at_rank r d) → deserted T c b ≡ deserted T d b
  deserted_same T c d stop same = refl
  deserted_same T c d (message a p q l g) same = deserted_same T c d g same
  deserted_same T c d (compute a p k g) same = deserted_same T c d g same
  deserted_same T c d (together a j g) same = deserted_same T c d g same
  deserted_same T c d (choice a p k bs g) same = ap₂ (λ x y. x ++ y) (deserted_among_same T c d bs same) (deserted_same T c d g same)
  deserted_same T c d (looped a b g) same =
      ap₂ (λ x y. x ++ y)
      (ap (λ x. if holds_again 0 b && not x then a.mark ∷ [] else []) (some_below_same T (λ r. takes_part (false ∷ at_rank r c) r b) (λ r. takes_part (false ∷ at_rank r d) r b) (λ r lt. ap (λ h. takes_part (false ∷ h) r b) (same r lt))))
      (ap₂ (λ x y. x ++ y)
      (deserted_same T ((λ r. takes_part (false ∷ at_rank r c) r b) ∷ c) ((λ r. takes_part (false ∷ at_rank r d) r b) ∷ d) b (λ r lt. ap (λ h. takes_part (false ∷ h) r b ∷ h) (same r lt)))
      (deserted_same T c d g same))
  deserted_same T c d (again n) same = refl

  deserted_among_same : (T : ℕ) (c d : Env) (bs : Branches) → ((r : ℕ) → r < T → at_rank r c ≡ at_rank r d) → deserted_among T c bs ≡ deserted_among T d bs
  deserted_among_same T c d no_branch same = refl
  deserted_among_same T c d (branch m b bs) same = ap₂ (λ x y. x ++ y) (deserted_same T c d b same) (deserted_among_same T c d bs same)

-- what is asked of the rank with number k, with the loop itself among the loops around
is_taker : (k : ℕ) (h : Held) (rest : Bor Held) (b : Block) (t : Bool) → rest.now ≡ h → t ≡ takes_part (held_at k (Just false rest)) k b →
    takes_part (false ∷ at_rank k (env_of h)) k b ≡ t
is_taker k h rest b t same is =
    ap (λ x. takes_part (false ∷ at_rank k (env_of x)) k b) (sym same)
    ∙ ap (λ x. takes_part (false ∷ x) k b) (at_held k rest.now)
    ∙ ap (λ x. takes_part x k b) (sym (just_is k false rest))
    ∙ sym is

pub found : (n k : ℕ) (h : Held) (rest : Bor Held) (b : Block) (t : Bool) → 0 < n → k + 1 ≡ n → rest.now ≡ h → t ≡ takes_part (held_at k (Just false rest)) k b → t ≡ true →
    true ≡ some_below n (λ r. takes_part (false ∷ at_rank r (env_of h)) r b)
found zero k h rest b t some next same is holds = absurd (omega arith)
found (suc n) k h rest b t some next same is holds =
    let e : k ≡ n = omega arith in
    sym (ap (λ x. x || some_below n (λ r. takes_part (false ∷ at_rank r (env_of h)) r b))
    (subst (λ m. takes_part (false ∷ at_rank m (env_of h)) m b ≡ true) e (is_taker k h rest b t same is ∙ holds)))

pub passed : (n k : ℕ) (h : Held) (rest : Bor Held) (b : Block) (t : Bool) → 0 < n → k + 1 ≡ n → rest.now ≡ h → t ≡ takes_part (held_at k (Just false rest)) k b → t ≡ false →
    some_below k (λ r. takes_part (false ∷ at_rank r (env_of h)) r b) ≡ some_below n (λ r. takes_part (false ∷ at_rank r (env_of h)) r b)
passed zero k h rest b t some next same is fails = absurd (omega arith)
passed (suc n) k h rest b t some next same is fails =
    let e : k ≡ n = omega arith in
    ap (λ m. some_below m (λ r. takes_part (false ∷ at_rank r (env_of h)) r b)) e
    ∙ sym (ap (λ x. x || some_below n (λ r. takes_part (false ∷ at_rank r (env_of h)) r b))
    (subst (λ m. takes_part (false ∷ at_rank m (env_of h)) m b ≡ false) e (is_taker k h rest b t same is ∙ fails)))

inside_table : (T : ℕ) (table : Bor (List Bool)) (rest : Bor Held) (b : Block) → table.now ≡ over_below T (λ r. takes_part (false ∷ held_at r rest.now) r b ∷ []) →
    deserted T (env_of (Each table rest)) b ≡ inside T (env_of rest.now) b
inside_table T table rest b is =
    ap (λ e. deserted T e b) (env_each table rest)
    ∙ deserted_same T ((λ r. nth table.now r) ∷ env_of rest.now) ((λ r. takes_part (false ∷ at_rank r (env_of rest.now)) r b) ∷ env_of rest.now) b
    (λ r lt. ap (λ x. x ∷ at_rank r (env_of rest.now))
    (ap (λ t. nth t r) is ∙ table_at T (λ r. takes_part (false ∷ held_at r rest.now) r b) r lt ∙ ap (λ k. takes_part (false ∷ k) r b) (sym (at_held r rest.now))))

pub inside_done : {E : Type 0} (T : ℕ) (table : Bor (List Bool)) (rest : Bor Held) (h : Held) (b : Block) (r : Result (Unit {0}) E) (new old : List Mark) →
    rest.now ≡ h → table.now ≡ over_below T (λ r. takes_part (false ∷ held_at r h) r b ∷ []) →
    OnOk r (new ≡ old ++ deserted T (env_of (Each table rest)) b) → OnOk r (new ≡ old ++ inside T (env_of h) b)
inside_done T table rest h b (Err e) new old same is done = tt
inside_done T table rest h b (Ok u) new old same is done =
    done ∙ ap (λ x. old ++ x) (inside_table T table rest b (subst (λ x. table.now ≡ over_below T (λ r. takes_part (false ∷ held_at r x) r b ∷ [])) (sym same) is))
    ∙ ap (λ x. old ++ inside T (env_of x) b) same
