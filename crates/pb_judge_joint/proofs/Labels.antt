-- What a label carries.
use Rattle.std.proofs.Common.{◌≡◌, ◌<◌, ◌≤◌, ℕ, zero, suc, List, [], ◌∷◌, length, get_or, refl, arith}
use Rattle.pb_syntax.specs.declared.core_label.CoreLabel.{CoreLabel}
use Rattle.pb_syntax.specs.declared.tree.Payload.TheVariants.{Unit as Signal}
use Rattle.pb_core_language.specs.Collectives.{payload_of}

pub payload_found : (labels : List CoreLabel) (k : ℕ) (other : CoreLabel) → k < length labels → (get_or labels k other).payload ≡ payload_of labels k
payload_found [] k other lt = absurd (omega (arith, lt))
payload_found (l ∷ ls) zero other lt = refl
payload_found (l ∷ ls) (suc k) other lt = payload_found ls k other (omega (arith, lt))

pub payload_past : (labels : List CoreLabel) (k : ℕ) → length labels ≤ k → Signal ≡ payload_of labels k
payload_past [] k le = refl
payload_past (l ∷ ls) zero le = absurd (omega (arith, le))
payload_past (l ∷ ls) (suc k) le = payload_past ls k (omega (arith, le))
