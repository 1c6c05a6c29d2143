-- What may stand behind the lines, one case at a time.
use Rattle.std.proofs.Common.{◌≡◌, inl, inr, ◌↔◌, ℕ, Bool, true, List, [], Some, refl}
use Rattle.std.specs.Prelude.{IsTrue, codes}
use Rattle.pb_text_read.specs.Fronts.{strip}
use Rattle.pb_draw_log.specs.Ends.{IsEnd, TellsWhy}

pub ends_empty : (rest : List ℕ) → rest ≡ [] → IsTrue true ↔ IsEnd rest
ends_empty rest e = (λ _. inl e, λ _. refl)

pub ends_ended : (rest : List ℕ) → strip (codes "ended\n") rest ≡ Some [] → IsTrue true ↔ IsEnd rest
ends_ended rest e = (λ _. inr (inl e), λ _. refl)

only_told : (b : Bool) (rest : List ℕ) → (rest ≡ [] → ⊥) → (strip (codes "ended\n") rest ≡ Some [] → ⊥) → (IsTrue b ↔ TellsWhy rest) → IsEnd rest → IsTrue b
only_told b rest some other told (inl e) = absurd (some e)
only_told b rest some other told (inr (inl e)) = absurd (other e)
only_told b rest some other told (inr (inr h)) = told.1 h

pub ends_told : (b : Bool) (rest : List ℕ) → (rest ≡ [] → ⊥) → (strip (codes "ended\n") rest ≡ Some [] → ⊥) → (IsTrue b ↔ TellsWhy rest) → IsTrue b ↔ IsEnd rest
ends_told b rest some other told = (λ t. inr (inr (told.0 t)), only_told b rest some other told)
