-- The longest front of which each byte passes a test.
use Rattle.std.proofs.Common.{◌≡◌, ℕ, ◌<◌, ◌≤◌, Bool, true, List, length, take, get_or, ap, ◌∙◌, arith}
use Rattle.std.specs.List.{prefix_len, All}
use Rattle.std.proofs.lemmas.List.{get_or-take}
use Rattle.std.proofs.lemmas.List.Sums.{prefix_len-drop_yes, prefix_len-le-length, prefix_len_passes}
use Rattle.std.proofs.lemmas.List.Folds.{length-prefix_len}

pub prefix_some : (p : ℕ → Bool) (text : List ℕ) → 0 < length text → p (get_or text 0 0) ≡ true → 0 < prefix_len p text
prefix_some p text some begun = omega (arith, prefix_len-drop_yes p text 0 0 some begun)

pub prefix_within : (p : ℕ → Bool) (text : List ℕ) → prefix_len p text ≤ length text
prefix_within p text = prefix_len-le-length p text

pub prefix_passes : (p : ℕ → Bool) (text : List ℕ) → All (λ byte. p byte ≡ true) (take (prefix_len p text) text)
prefix_passes p text k d below =
    let near : k < prefix_len p text = omega (arith, length-prefix_len p text) in
    ap p (get_or-take (prefix_len p text) text k d near) ∙ prefix_len_passes p text k d near
