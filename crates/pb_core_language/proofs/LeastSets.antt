-- What is computed is the least sets.
use Rattle.std.proofs.Common.{◌≡◌, ℕ, zero, suc, ◌==◌, Bool, true, false, ◌||◌, List, [], ◌∷◌, refl, arith, ap, ◌∙◌, subst, inl, inr}
use Rattle.std.proofs.lemmas.Bool.{cases_Bool, eq-eqb, eqb-true, or_cases, or_left, or_right}
use Rattle.pb_core_language.specs.Lists.{nth}
use Rattle.pb_core_language.specs.Flat.{Block, stop, message, compute, together, choice, looped, again, Branches, no_branch, branch, takes_part, takes_part_among}
use Rattle.pb_core_language.specs.TakesPart.{BodyIs, loops_from, Takes, sends, receives, after_message, computes, after_compute, joins, chooses, in_branch, after_choice, in_loop, after_loop, continues, Takes_some, in_first, in_later, values, Least}

module _ (r : ℕ) where
  -- a loop's own continue adds nobody
  own_adds : (v : List Bool) (b : Block) → takes_part (takes_part (false ∷ v) r b ∷ v) r b ≡ true → takes_part (false ∷ v) r b ≡ true
  own_adds v b h = elim (cases_Bool (takes_part (false ∷ v) r b)) [ inl y ↦ y | inr y ↦ subst (λ u. takes_part (u ∷ v) r b ≡ true) y h ]

  value_is : (n : ℕ) (E : List Block) (b : Block) (around : List Block) → loops_from n E ≡ b ∷ around → nth (values r E) n ≡ nth (values r (b ∷ around)) 0
  value_is zero E b around e = ap (λ X. nth (values r X) 0) e
  value_is (suc n) [] b around e = cc
  value_is (suc n) (x ∷ E) b around e = value_is n E b around e

  mutual
    sound : {E : List Block} {barred : List Bool} {g : Block} → Takes r E barred g → takes_part (values r E) r g ≡ true
    sound {E = E} (sends {from = p} {to = q} {rest = g} e) = or_left (p == r) ((q == r) || takes_part (values r E) r g) (eq-eqb p r e)
    sound {E = E} (receives {from = p} {to = q} {rest = g} e) = or_right (p == r) _ (or_left (q == r) (takes_part (values r E) r g) (eq-eqb q r e))
    sound {E = E} (after_message {from = p} {to = q} {rest = g} t) = or_right (p == r) _ (or_right (q == r) _ (sound t))
    sound {E = E} (computes {at = p} {rest = g} e) = or_left (p == r) (takes_part (values r E) r g) (eq-eqb p r e)
    sound {E = E} (after_compute {at = p} t) = or_right (p == r) _ (sound t)
    sound joins = refl
    sound {E = E} (chooses {at = p} {branches = bs} {rest = g} e) = or_left ((p == r) || takes_part_among (values r E) r bs) (takes_part (values r E) r g) (or_left (p == r) (takes_part_among (values r E) r bs) (eq-eqb p r e))
    sound {E = E} (in_branch {at = p} {branches = bs} {rest = g} t) = or_left ((p == r) || takes_part_among (values r E) r bs) (takes_part (values r E) r g) (or_right (p == r) _ (sound_some t))
    sound {E = E} (after_choice {at = p} {branches = bs} t) = or_right ((p == r) || takes_part_among (values r E) r bs) _ (sound t)
    sound {E = E} (in_loop {body = b} {rest = g} t) = or_left (takes_part (false ∷ values r E) r b) (takes_part (values r E) r g) (own_adds (values r E) b (sound t))
    sound {E = E} (after_loop {body = b} t) = or_right (takes_part (false ∷ values r E) r b) _ (sound t)
    sound {E = E} (continues {between = n} b around out is t) = value_is n E b around is ∙ own_adds (values r around) b (sound t)

    sound_some : {E : List Block} {barred : List Bool} {bs : Branches} → Takes_some r E barred bs → takes_part_among (values r E) r bs ≡ true
    sound_some {E = E} (in_first {first = b} {rest = bs} t) = or_left (takes_part (values r E) r b) (takes_part_among (values r E) r bs) (sound t)
    sound_some {E = E} (in_later {first = b} t) = or_right (takes_part (values r E) r b) _ (sound_some t)

  -- a reason that holds comes from the loop's body, and isn't barred
  record Reason (E : List Block) (barred : List Bool) (n : ℕ) : Type 0 where
    free : nth barred n ≡ false
    body : Block
    around : List Block
    is : loops_from n E ≡ body ∷ around
    takes : Takes r (body ∷ around) (true ∷ []) body

  abbrev Reasons : List Block → List Bool → List Bool → Type 0
  Reasons E barred u = (n : ℕ) → nth u n ≡ true → Reason E barred n

  inner : (E : List Block) (barred u : List Bool) (b : Block) (x : Bool) → Reasons E barred u → Reasons (b ∷ E) (x ∷ barred) (false ∷ u)
  inner E barred u b x rs zero h = cc
  inner E barred u b x rs (suc n) h = let it = rs n h in record { free = it.free; body = it.body; around = it.around; is = it.is; takes = it.takes }

  mutual
    complete : (E : List Block) (barred u : List Bool) (g : Block) → Reasons E barred u → takes_part u r g ≡ true → Takes r E barred g
    complete E barred u stop rs h = cc
    complete E barred u (message a p q l g) rs h =
        elim (or_cases (p == r) _ h) [
          | inl y ↦ sends (eqb-true p r y)
          | inr y ↦ elim (or_cases (q == r) _ y) [ inl z ↦ receives (eqb-true q r z) | inr z ↦ after_message (complete E barred u g rs z) ]
        ]
    complete E barred u (compute a p k g) rs h =
        elim (or_cases (p == r) _ h) [ inl y ↦ computes (eqb-true p r y) | inr y ↦ after_compute (complete E barred u g rs y) ]
    complete E barred u (together a j g) rs h = joins
    complete E barred u (choice a p k bs g) rs h =
        elim (or_cases ((p == r) || takes_part_among u r bs) (takes_part u r g) h) [
          | inl y ↦ elim (or_cases (p == r) _ y) [ inl z ↦ chooses (eqb-true p r z) | inr z ↦ in_branch (complete_some E barred u bs rs z) ]
          | inr y ↦ after_choice (complete E barred u g rs y)
        ]
    complete E barred u (looped a b g) rs h =
        elim (or_cases (takes_part (false ∷ u) r b) (takes_part u r g) h) [
          | inl y ↦ in_loop (complete (b ∷ E) (false ∷ barred) (false ∷ u) b (inner E barred u b false rs) y)
          | inr y ↦ after_loop (complete E barred u g rs y)
        ]
    complete E barred u (again n) rs h = (let it = rs n h in continues it.body it.around it.free it.is it.takes)

    complete_some : (E : List Block) (barred u : List Bool) (bs : Branches) → Reasons E barred u → takes_part_among u r bs ≡ true → Takes_some r E barred bs
    complete_some E barred u no_branch rs h = cc
    complete_some E barred u (branch m b bs) rs h =
        elim (or_cases (takes_part u r b) (takes_part_among u r bs) h) [ inl y ↦ in_first (complete E barred u b rs y) | inr y ↦ in_later (complete_some E barred u bs rs y) ]

  reasons : (E : List Block) → Reasons E [] (values r E)
  reasons [] n h = cc
  reasons (b ∷ E) zero h = record { free = refl; body = b; around = E; is = refl; takes = complete (b ∷ E) (true ∷ []) (false ∷ values r E) b (inner E [] (values r E) b true (reasons E)) h }
  reasons (b ∷ E) (suc n) h = let it = reasons E n h in record { free = refl; body = it.body; around = it.around; is = it.is; takes = it.takes }

pub least_is : Least
least_is r E g = ((λ t. sound r t), (λ h. complete r E [] (values r E) g (reasons r E) h))

-- more reasons take nobody away
abbrev Above : List Bool → List Bool → Type 0
Above u v = (n : ℕ) → nth u n ≡ true → nth v n ≡ true

inside : (u v : List Bool) (x : Bool) → Above u v → Above (x ∷ u) (x ∷ v)
inside u v x f zero h = h
inside u v x f (suc n) h = f n h

or_grows : (a b c d : Bool) → (a ≡ true → c ≡ true) → (b ≡ true → d ≡ true) → a || b ≡ true → c || d ≡ true
or_grows a b c d f g h = grind arith

mutual
  grows : (u v : List Bool) → Above u v → (r : ℕ) (g : Block) → takes_part u r g ≡ true → takes_part v r g ≡ true
  grows u v f r stop h = h
  grows u v f r (message a p q l g) h = or_grows (p == r) ((q == r) || takes_part u r g) (p == r) ((q == r) || takes_part v r g) (λ e. e) (or_grows (q == r) (takes_part u r g) (q == r) (takes_part v r g) (λ e. e) (grows u v f r g)) h
  grows u v f r (compute a p k g) h = or_grows (p == r) (takes_part u r g) (p == r) (takes_part v r g) (λ e. e) (grows u v f r g) h
  grows u v f r (together a j g) h = h
  grows u v f r (choice a p k bs g) h = or_grows ((p == r) || takes_part_among u r bs) (takes_part u r g) ((p == r) || takes_part_among v r bs) (takes_part v r g) (or_grows (p == r) (takes_part_among u r bs) (p == r) (takes_part_among v r bs) (λ e. e) (grows_among u v f r bs)) (grows u v f r g) h
  grows u v f r (looped a b g) h = or_grows (takes_part (false ∷ u) r b) (takes_part u r g) (takes_part (false ∷ v) r b) (takes_part v r g) (grows (false ∷ u) (false ∷ v) (inside u v false f) r b) (grows u v f r g) h
  grows u v f r (again n) h = f n h

  grows_among : (u v : List Bool) → Above u v → (r : ℕ) (bs : Branches) → takes_part_among u r bs ≡ true → takes_part_among v r bs ≡ true
  grows_among u v f r no_branch h = h
  grows_among u v f r (branch m b bs) h = or_grows (takes_part u r b) (takes_part_among u r bs) (takes_part v r b) (takes_part_among v r bs) (grows u v f r b) (grows_among u v f r bs) h

one_more : (v : List Bool) → Above (false ∷ v) (true ∷ v)
one_more v zero h = cc
one_more v (suc n) h = h

-- the loop's own continue neither adds nor removes a rank
pub body_is : BodyIs
body_is r E b = at (takes_part (false ∷ values r E) r b) refl
  where
    at : (x : Bool) → takes_part (false ∷ values r E) r b ≡ x → takes_part (x ∷ values r E) r b ≡ x
    at true y = grows (false ∷ values r E) (true ∷ values r E) (one_more (values r E)) r b y
    at false y = y
