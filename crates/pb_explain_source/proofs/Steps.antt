-- The places of a file, one after the other.
use Rattle.std.proofs.Common.{◌≡◌, ◌∙◌, refl, sym, ap, arith, ℕ, zero, suc, ◌+◌, ◌<◌, List, [], ◌∷◌, length, take, slice_index_or}
use Rattle.pb_text.specs.Places.{first_place, place_after, place_behind}
use Rattle.pb_text.specs.declared.place.Place.{Place}

pub after_one : (p : Place) (bytes : List ℕ) (i d : ℕ) → i < length bytes
    → place_after p (take (suc i) bytes) ≡ place_behind (place_after p (take i bytes)) (slice_index_or bytes i d)
after_one p [] i d h = let no : ⊥ = omega (arith, h) in elim no [ ]
after_one p (b ∷ bs) zero d h = refl
after_one p (b ∷ bs) (suc i) d h = let less : i < length bs = omega (arith, h) in after_one (place_behind p b) bs i d less

pub goes_on : (bytes : List ℕ) (i d : ℕ) {here next : Place} → i < length bytes → here ≡ place_after first_place (take i bytes)
    → next ≡ place_behind here (slice_index_or bytes i d) → next ≡ place_after first_place (take (i + 1) bytes)
goes_on bytes i d less here_is next_is =
    let one : suc i ≡ i + 1 = omega arith in
    next_is ∙ ap (λ (p : Place). place_behind p (slice_index_or bytes i d)) here_is
    ∙ sym (after_one first_place bytes i d less) ∙ ap (λ (k : ℕ). place_after first_place (take k bytes)) one
