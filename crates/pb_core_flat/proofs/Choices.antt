-- A choice's outcomes as a set, whether or not the rank takes part in a branch.
use Rattle.std.proofs.Common.{◌≡◌, ℕ, ◌==◌, cond, Bool, true, false, ◌||◌, List, [], ◌∷◌, ◌++◌, refl, ap, sym, ◌∙◌, arith}
use Rattle.std.proofs.lemmas.Bool.{or_parts}
use Rattle.std.proofs.lemmas.Bool.Decides.{nat_tests}
use Rattle.pb_core_language.specs.Tree.{Mark}
use Rattle.pb_core_language.specs.Flat.{Block, Branches, no_branch, branch, takes_part, takes_part_among}
use Rattle.pb_core_language.specs.Outcomes.{Outcome, nothing_first, other_first, or_then, firsts_among}
use Rattle.pb_core_flat.specs.OutcomeSets.{outcome_eq, is_outcome}
use Rattle.pb_core_flat.specs.Laws.{ChoiceFinds}
use Rattle.pb_core_flat.proofs.OutcomeSets.{or_then_right}
use Rattle.pb_core_flat.proofs.OutcomesAdd.{bystander_finds}

twice : (e r : Bool) → r ≡ e || false → e || r ≡ e || false
twice e r h = grind (arith, nat_tests)

-- who takes part in no branch finds nothing but Nothing in them
among_nothing : (held : List Bool) (r : ℕ) (m : Mark) (b : Block) (bs : Branches) (o : Outcome) → takes_part_among held r (branch m b bs) ≡ false → is_outcome o (firsts_among held r (branch m b bs)) ≡ is_outcome o (nothing_first ∷ [])
among_nothing held r m b no_branch o h =
    let hs = or_parts (takes_part held r b) false h in
    ap (λ z. is_outcome o (z ++ [])) (bystander_finds held r b hs.0)
among_nothing held r m b (branch k d ds) o h =
    let hs = or_parts (takes_part held r b) (takes_part_among held r (branch k d ds)) h in
    ap (λ z. is_outcome o (z ++ firsts_among held r (branch k d ds))) (bystander_finds held r b hs.0)
    ∙ twice (outcome_eq nothing_first o) (is_outcome o (firsts_among held r (branch k d ds))) (among_nothing held r k d ds o hs.1)

by_part : (a t : Bool) (os : List Outcome) (o : Outcome) → (t ≡ false → is_outcome o os ≡ is_outcome o (nothing_first ∷ [])) →
    is_outcome o (cond a (other_first ∷ []) (cond t (or_then os (nothing_first ∷ [])) (nothing_first ∷ []))) ≡ is_outcome o (cond a (other_first ∷ []) os)
by_part true t os o h = refl
by_part false true os o h = ap (is_outcome o) (or_then_right os)
by_part false false os o h = sym (h refl)

pub choice_finds : ChoiceFinds
choice_finds held r a p k m b bs o =
    by_part (p == r) (takes_part_among held r (branch m b bs)) (firsts_among held r (branch m b bs)) o (among_nothing held r m b bs o)
