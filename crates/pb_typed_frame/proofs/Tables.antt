-- What stands at a place of a table.
use Rattle.std.proofs.Common.{◌≡◌, ℕ, zero, suc, ◌+◌, List, [], ◌∷◌, drop, get_or, refl, sym, ap, ◌∙◌, add-one}
use Rattle.std.specs.List.{All}
use Rattle.std.specs.Prelude.{IsTrue}
use Rattle.pb_local.specs.Names.{is_name}
use Rattle.pb_local.specs.Tree.{Program}
use Rattle.pb_local.specs.WellMade.{IsWellMade}
use Rattle.pb_types.specs.declared.carried.Carried.{Carried}
use Rattle.pb_types.specs.declared.carried.Carried.TheVariants.{Words}
use Rattle.pb_typed.specs.Frame.{first_carried, others_carried}

pub first_of : (types : List Carried) (at : ℕ) → first_carried (drop at types) ≡ get_or types at Words
first_of [] zero = refl
first_of [] (suc at) = refl
first_of (c ∷ cs) zero = refl
first_of (c ∷ cs) (suc at) = first_of cs at

pub others_of : (types : List Carried) (at : ℕ) → others_carried (drop at types) ≡ drop (at + 1) types
others_of types at = behind types at ∙ ap (λ n. drop n types) (sym (add-one at)) where
  behind : (types : List Carried) (at : ℕ) → others_carried (drop at types) ≡ drop (suc at) types
  behind [] zero = refl
  behind [] (suc at) = refl
  behind (c ∷ cs) zero = refl
  behind (c ∷ cs) (suc at) = behind cs at

pub label_names : (p : Program) → IsWellMade p → All (λ l. IsTrue (is_name l.name)) p.labels
label_names p is = λ at other below. (is.labels.each at other below).name
