-- A range of whole numbers, one number at a time.
use Rattle.std.proofs.Common.{◌≡◌, ◌-◌, ◌^◌, ℕ, zero, suc, ℤ, pos, negsuc, ◌+ℤ◌, ◌-ℤ◌, ◌≤ℤ◌, ◌<ℤ◌, List, [], ◌∷◌, ◌++◌, ap, ap₂, ◌∙◌, sym, subst, arith, append_assoc, Vec, Result, Ok, Err, IfOk}
use Rattle.std.proofs.lemmas.Int.{ints}
use Rattle.std.specs.List.{All}
use Rattle.std.specs.declared.alloc.Global.{Global}
use Rattle.std.proofs.lemmas.List.Elements.{All-nil, All-cons}
use Rattle.pb_affine.specs.Values.{count_of, count_from, range}
use Rattle.pb_plain.specs.Small.{IsTurn}

count_suc : (x high : ℤ) → x ≤ℤ high → count_of (high +ℤ pos 1 -ℤ x) ≡ suc (count_of (high +ℤ pos 1 -ℤ (x +ℤ pos 1)))
count_suc x high h = grind (arith, ints)

count_none : (x high : ℤ) → high <ℤ x → count_of (high +ℤ pos 1 -ℤ x) ≡ 0
count_none x high h = grind (arith, ints)

pub range_more : (x high : ℤ) → x ≤ℤ high → range x high ≡ x ∷ range (x +ℤ pos 1) high
range_more x high h = ap (λ n. count_from n x) (count_suc x high h)

pub range_none : (x high : ℤ) → high <ℤ x → range x high ≡ []
range_none x high h = ap (λ n. count_from n x) (count_none x high h)

pub range_last : (x : ℤ) → range x x ≡ x ∷ []
range_last x = range_more x x (omega (arith, ints)) ∙ ap (λ l. x ∷ l) (range_none (x +ℤ pos 1) x (omega (arith, ints)))

-- a loop's step, which pushes x
pub range_step : (items list : List ℤ) (low high x y : ℤ) → y ≡ x +ℤ pos 1 → list ≡ items ++ x ∷ [] → x ≤ℤ high → items ++ range x high ≡ range low high → list ++ range y high ≡ range low high
range_step items list low high x y e pushed le so_far =
    ap₂ (λ l z. l ++ range z high) pushed e ∙ append_assoc items (x ∷ []) _ ∙ ap (λ r. items ++ r) (sym (range_more x high le)) ∙ so_far

-- the last number is pushed
pub range_full : (items list : List ℤ) (low high x : ℤ) → x ≡ high → list ≡ items ++ x ∷ [] → items ++ range x high ≡ range low high → list ≡ range low high
range_full items list low high x e pushed so_far =
    pushed ∙ ap (λ l. items ++ l) (sym (range_last x)) ∙ ap (λ z. items ++ range x z) e ∙ so_far

-- ---- the numbers of a range between turns are turns

counted_turns : (k : ℕ) (a : ℤ) → (negsuc (2 ^ 41 - 1) ≤ℤ a) → ((a +ℤ pos k) ≤ℤ (pos (2 ^ 41) +ℤ pos 1)) → All IsTurn (count_from k a)
counted_turns zero a low high = All-nil IsTurn
counted_turns (suc k) a low high =
    All-cons IsTurn a (count_from k (a +ℤ pos 1)) (record { low = low; high = omega (arith, ints) }) (counted_turns k (a +ℤ pos 1) (omega (arith, ints)) (omega (arith, ints)))

count_ends : (low high : ℤ) → (low ≤ℤ pos (2 ^ 41)) → (high ≤ℤ pos (2 ^ 41)) → ((low +ℤ pos (count_of (high +ℤ pos 1 -ℤ low))) ≤ℤ (pos (2 ^ 41) +ℤ pos 1))
count_ends low high h k = grind (arith, ints)

pub range_turns : (low high : ℤ) → IsTurn low → IsTurn high → All IsTurn (range low high)
range_turns low high l h = counted_turns (count_of (high +ℤ pos 1 -ℤ low)) low l.low (count_ends low high l.high h.high)

pub each_turns : {E : Type 0} (r : Result (Vec ℤ Global) E) (low high a b : ℤ) → a ≡ low → b ≡ high → IsTurn low → IsTurn high → IfOk r (λ v. v.items ≡ range a b) → IfOk r (λ v. All IsTurn v.items)
each_turns (Err e) low high a b ea eb l h is = tt
each_turns (Ok v) low high a b ea eb l h is = subst (λ xs. All IsTurn xs) (sym (is ∙ ap₂ (λ x y. range x y) ea eb)) (range_turns low high l h)
