-- How many words a label has.
use Rattle.std.proofs.Common.{◌≡◌, ℕ, zero, suc, ◌<◌, ◌≤◌, List, [], ◌∷◌, length, slice_index_or, refl, arith}
use Rattle.pb_syntax.specs.declared.core_label.CoreLabel.{CoreLabel}
use Rattle.pb_core_language.specs.Collectives.{word_count}
use Rattle.pb_cost_blocks.specs.Asked.{size_in}

pub row_size : (xs : List CoreLabel) (l : ℕ) (d : CoreLabel) → l < length xs → word_count (slice_index_or xs l d).payload ≡ size_in xs l
row_size [] l d h = absurd (omega (arith, h))
row_size (x ∷ xs) zero d h = refl
row_size (x ∷ xs) (suc l) d h = row_size xs l d (omega (arith, h))

pub past_rows : (xs : List CoreLabel) (l : ℕ) → length xs ≤ l → 0 ≡ size_in xs l
past_rows [] l h = refl
past_rows (x ∷ xs) zero h = absurd (omega (arith, h))
past_rows (x ∷ xs) (suc l) h = past_rows xs l (omega (arith, h))
