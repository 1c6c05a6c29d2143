-- Lists from an index on.
use Rattle.std.proofs.Common.{◌≡◌, ◌<◌, ◌+◌, ℕ, List, ◌∷◌, drop, get_or, length, ap, sym, ◌∙◌}
use Rattle.std.proofs.lemmas.List.{at_drop_more}

pub drop_is : {X : Type 0} (items : List X) (i : ℕ) (x : X) → i < length items → x ≡ get_or items i x → drop i items ≡ x ∷ drop (i + 1) items
drop_is items i x lt is = at_drop_more (λ l. l) items i x lt ∙ ap (λ y. y ∷ drop (i + 1) items) (sym is)
