-- What is known of a text that begins with some bytes.
use Rattle.std.proofs.Common.{◌≡◌, ℕ, ◌<◌, ◌≤◌, true, List, ◌-◌, length, length-drop, take, drop, get_or, ap, sym, ◌∙◌, arith}
use Rattle.std.proofs.Math.Seq.{take-length}
use Rattle.std.proofs.lemmas.List.{get_or-take, length-take}
use Rattle.std.proofs.lemmas.Slice.Eq.{bytes_eq-Decides}
use Rattle.pb_text.specs.Spellings.{begins_with}

pub front_is : (front text : List ℕ) → begins_with front text ≡ true → front ≡ take (length front) text
front_is front text begun = (bytes_eq-Decides front (take (length front) text)).0 begun

pub front_within : (front text : List ℕ) → begins_with front text ≡ true → length front ≤ length text
front_within front text begun = omega (arith, ap length (front_is front text begun), length-take (length front) text)

pub front_first : (front text : List ℕ) → begins_with front text ≡ true → 0 < length front → get_or text 0 0 ≡ get_or front 0 0
front_first front text begun some =
    sym (ap (λ (l : List ℕ). get_or l 0 0) (front_is front text begun) ∙ get_or-take (length front) text 0 0 some)

-- what a slice without an end is
pub rest_is : {A : Type 0} (items : List A) (at : ℕ) → take (length items - at) (drop at items) ≡ drop at items
rest_is items at = ap (λ n. take n (drop at items)) (sym (length-drop at items)) ∙ take-length (drop at items)
