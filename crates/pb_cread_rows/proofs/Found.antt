-- A name that has a position is among the names.
use Rattle.std.proofs.Common.{◌≡◌, ℕ, suc, ◌+◌, ◌||◌, Bool, true, false, cond, not, nat_eq, nat_lt, Some, None, List, [], ◌∷◌, length, refl, ◌∙◌, arith}
use Rattle.std.proofs.lemmas.Bool.Decides.{nat_tests}
use Rattle.std.specs.Cmp.Lexicographic.{pointwise}
use Rattle.std.specs.List.{list_any, position_or_len}
use Rattle.std.specs.Option.{is_some}
use Rattle.pb_text.specs.Tables.{position_of}
use Rattle.pb_ctree.specs.Rules.{is_among}

pub any_within : {X : Type 0} (p : X → Bool) (xs : List X) → nat_lt (position_or_len p xs) (length xs) ≡ list_any p xs
any_within p [] = refl
any_within p (x ∷ xs) = by_test (p x) (any_within p xs) where
  next : (m n : ℕ) → nat_lt (1 + m) (suc n) ≡ nat_lt m n
  next m n = grind (arith, nat_tests)

  by_test : (b : Bool) → nat_lt (position_or_len p xs) (length xs) ≡ list_any p xs → nat_lt (cond (not b) (1 + position_or_len p xs) 0) (suc (length xs)) ≡ (b || list_any p xs)
  by_test true e = grind (arith, nat_tests)
  by_test false e = next (position_or_len p xs) (length xs) ∙ e

some_by : (b : Bool) (place : ℕ) → is_some (cond b (Some place) None) ≡ b
some_by true place = refl
some_by false place = refl

pub found_among : (name : List ℕ) (names : List (List ℕ)) → is_some (position_of name names) ≡ is_among name names
found_among name names = some_by (nat_lt (position_or_len (pointwise nat_eq name) names) (length names)) (position_or_len (pointwise nat_eq name) names) ∙ any_within (pointwise nat_eq name) names
