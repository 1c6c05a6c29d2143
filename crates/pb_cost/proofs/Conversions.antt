-- A list of stretches, made into pieces.
use Rattle.std.proofs.Common.{◌≡◌, ◌<◌, ◌≤◌, ◌+◌, ℕ, Option, List, [], ◌∷◌, ◌++◌, map, length, get_or, drop, drop_of_length-le, append_assoc, append-nil, refl, sym, ap, ◌∙◌, arith}
use Rattle.pb_cost_pieces.specs.declared.stretch.Stretch.{Stretch}
use Rattle.pb_cost_blocks.proofs.Steps.{from_place}
use Rattle.pb_cost.specs.declared.piece.Piece.{Piece}
use Rattle.pb_cost.specs.Pieces.{piece_to, last_of, as_pieces}
use Rattle.pb_cost.specs.Closed.{closed}

whole : (high : Option ℕ) (others : List Stretch) (last : Stretch) → as_pieces high (others ++ last ∷ []) ≡ map closed others ++ piece_to (last_of high) last ∷ []
whole high [] last = refl
whole high (s ∷ []) last = refl
whole high (s ∷ t ∷ others) last = ap (λ z. closed s ∷ z) (whole high (t ∷ others) last)

pub whole_list : (high : Option ℕ) (list others : List Stretch) (last : Stretch) → list ≡ others ++ last ∷ [] → map closed others ++ piece_to (last_of high) last ∷ [] ≡ as_pieces high list
whole_list high list others last e = sym (ap (as_pieces high) e ∙ whole high others last)

pub no_list : (high : Option ℕ) (list : List Stretch) → length list ≡ 0 → [] ≡ as_pieces high list
no_list high [] e = refl
no_list high (s ∷ rest) e = absurd (omega (arith, e))

-- ---- one more is pushed

pub push_step : (xs : List Stretch) (i : ℕ) (s : Stretch) (old new all : List Piece) → i < length xs → s ≡ get_or xs i s → new ≡ old ++ closed s ∷ [] → old ++ map closed (drop i xs) ≡ all → new ++ map closed (drop (i + 1) xs) ≡ all
push_step xs i s old new all lt is pushed so_far =
    ap (λ z. z ++ map closed (drop (i + 1) xs)) pushed ∙ append_assoc old (closed s ∷ []) (map closed (drop (i + 1) xs)) ∙ ap (λ z. old ++ map closed z) (sym (from_place xs i s lt is)) ∙ so_far

pub push_end : (xs : List Stretch) (i : ℕ) (items all : List Piece) → length xs ≤ i → items ++ map closed (drop i xs) ≡ all → items ≡ all
push_end xs i items all le so_far = sym (append-nil items) ∙ ap (λ z. items ++ map closed z) (sym (drop_of_length-le xs le)) ∙ so_far
