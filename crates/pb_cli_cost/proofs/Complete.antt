-- Of a protocol without loops and with few pieces all is told, or memory is wanting.
use Rattle.std.proofs.Common.{◌≡◌, ◌⊎◌, ◌<◌, ◌≤◌, inl, inr, ℕ, List, length, Option, None, Some, refl, subst, arith}
use Rattle.pb_text.specs.declared.place.Place.{Place}
use Rattle.pb_core_language.specs.Plain.{Protocol}
use Rattle.pb_cost.specs.Costs.{HasMany}
use Rattle.pb_cost.specs.declared.piece.Piece.{Piece}
use Rattle.pb_cost.proofs.Unique.{one_list_law}
use Rattle.pb_cli_status.specs.declared.status.Status.{Status}
use Rattle.pb_cli_status.specs.declared.status.Status.TheVariants as S
use Rattle.pb_cli_cost.specs.Cost.{HasCost, IsCostAnswer}

none_is : (place : Place) (o : Option Place) → o ≡ None → o ≡ Some place → ⊥
none_is place o e f = absurd cc

not_both : (xs ys : List Piece) → xs ≡ ys → length xs ≤ 4096 → 4096 < length ys → ⊥
not_both xs ys e few many = let less : length ys ≤ 4096 = subst (λ l. length l ≤ 4096) e few in absurd (omega (arith, less, many))

not_many : (p : Protocol) → HasCost p → HasMany p → ⊥
not_many p has m =
    let few = has.1 m.way m.what m.part m.there in
    not_both few.0 m.list (one_list_law p m.way m.what m.part few.0 m.list few.1 m.pieces) few.2 m.many

-- no other status belongs to it
pub cost_comes : (p : Protocol) → HasCost p → (status : Status) (text : List ℕ) → IsCostAnswer p status text → (status ≡ S.Done) ⊎ (status ≡ S.NoMemory)
cost_comes p has S.Done text is = inl refl
cost_comes p has S.NoMemory text is = inr refl
cost_comes p has S.CostFault text (place, loop, line) = absurd (none_is place _ has.0 loop)
cost_comes p has S.Limit text (none, many, line) = absurd (not_many p has many)
cost_comes p has other text is = absurd is
