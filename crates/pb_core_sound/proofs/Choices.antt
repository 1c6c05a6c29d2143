-- Whether a choice has a branch.
use Rattle.std.proofs.Common.{◌≡◌, ℕ, not, List, [], ◌∷◌, nat_eq, length, map, refl, arith}
use Rattle.std.proofs.lemmas.Bool.Decides.{nat_tests}
use Rattle.pb_core_language.specs.declared.tree.CoreBlock.{CoreBlock}
use Rattle.pb_core_language.specs.Plain.{plain_block, branches_of}
use Rattle.pb_core_language.specs.Sound.{has_branch}

pub some_branch : (bs : List CoreBlock) → has_branch (branches_of (map plain_block bs)) ≡ not (nat_eq (length bs) 0)
some_branch [] = refl
some_branch (b ∷ bs) = grind (arith, nat_tests)
