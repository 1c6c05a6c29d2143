-- The plain trees of branches.
use Rattle.std.proofs.Common.{◌≡◌, suc, List, [], ◌∷◌, ◌++◌, length, map, refl, ap, ◌∙◌, Vec}
use Rattle.std.proofs.lemmas.List.{map-append}
use Rattle.std.specs.declared.alloc.Global.{Global}
use Rattle.pb_local.specs.declared.stmt.Stmt.{Stmt}
use Rattle.pb_local.specs.Tree.{plain}
use Rattle.pb_cread_statements.specs.Views.{plains}

-- a branch more
pub part_added : (old new : List (Vec Stmt Global)) (b : Vec Stmt Global) → new ≡ old ++ b ∷ [] → plains new ≡ plains old ++ map plain b.items ∷ []
part_added old new b is = ap plains is ∙ map-append (λ v. map plain v.items) old (b ∷ [])

pub plains_length : (bs : List (Vec Stmt Global)) → length (plains bs) ≡ length bs
plains_length [] = refl
plains_length (b ∷ bs) = ap (λ x. suc x) (plains_length bs)
