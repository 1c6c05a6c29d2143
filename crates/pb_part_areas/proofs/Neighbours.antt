-- Areas that one area could stand for.
use Rattle.std.proofs.Common.{◌≡◌, ◌<◌, ◌≤◌, ◌+◌, ℕ, ℤ, pos, ◌&&◌, int_le, false, ◌⊎◌, ⊎_elim, arith, refl, sym, subst, ◌∙◌, Option, List, [], ◌∷◌, ◌++◌, length, get_or}
use Rattle.std.specs.List.{remove}
use Rattle.std.proofs.lemmas.Int.{ints}
use Rattle.std.proofs.lemmas.Bool.{cases_lt, true≢false}
use Rattle.std.proofs.lemmas.List.{length_push, get_or_push, get_or_append_left}
use Rattle.std.proofs.lemmas.List.Edits.{length-remove, get_or-remove_below, get_or-remove_above}
use Rattle.pb_part_areas.specs.declared.area.Area.{Area}
use Rattle.pb_part_areas.specs.Areas.{IsUpright, LiesBack, is_before}
use Rattle.pb_part_areas.specs.Joins.{blank, IsOpen, IsBeside, AreNeighbours, tried, HasNoNeighbour, IsJoinedFrom, IsJoinedLast}
use Rattle.pb_part_areas.proofs.Wide.{within_bools, before_first}

pub back_or_upright : (a : Area) → IsUpright a → LiesBack a → ⊥
back_or_upright a u l =
    let up = u.upright l.n l.when in
    let down = l.back in
    omega (arith, ints)

pub second_opens : (a b : Area) → IsBeside a b → IsOpen b.from b.until
second_opens a b h = subst (λ z. IsOpen b.from z) h.until (subst (λ z. IsOpen z a.until) h.from h.opens)

pub open_or_over : (from : ℕ) (until : Option ℕ) → IsOpen from until → ((n : ℤ) → int_le (pos from) n && is_before n until ≡ false) → ⊥
open_or_over from until h over = true≢false (sym (within_bools from (pos from) (is_before (pos from) until) (omega (arith, ints)) (before_first from until h)) ∙ over (pos from))

-- ---- in a list

-- no neighbour stands before a place
pub record IsAloneBefore (place : ℕ) (list : List Area) (a : Area) : Type 0 where
  pub none : (k : ℕ) → k < place → length list ≤ k + tried → AreNeighbours (get_or list k blank) a → ⊥

pub alone_first : (place : ℕ) (list : List Area) (a : Area) → place + tried ≤ length list ⊎ (place ≡ 0) → IsAloneBefore place list a
alone_first place list a h = record { none = λ k lt le. ⊎_elim (λ far. omega (arith)) (λ start. omega (arith)) h }

pub alone_next : (place : ℕ) (list : List Area) (a : Area) → (AreNeighbours (get_or list place blank) a → ⊥) → IsAloneBefore place list a → IsAloneBefore (place + 1) list a
alone_next place list a here before = record {
  none = λ k lt le. ⊎_elim
      (λ below. before.none k below le)
      (λ above. let e : place ≡ k = omega (arith) in subst (λ z. AreNeighbours (get_or list z blank) a → ⊥) e here)
      (cases_lt k place);
}

pub joined_nothing : IsJoinedFrom 0 []
joined_nothing = record { apart = λ i j le lt within. absurd (omega (arith)) }

pub short_removed : (xs ys : List Area) (p : ℕ) → p < length xs → ys ≡ remove xs p → length ys ≤ length xs
short_removed xs ys p within e =
    let long = length-remove xs p within in
    subst (λ z. length z ≤ length xs) (sym e) (omega (arith))

pub joined_removed : (xs ys : List Area) (p from : ℕ) → p < length xs → ys ≡ remove xs p → IsJoinedFrom from xs → IsJoinedFrom from ys
joined_removed xs ys p from within e h =
    let long = length-remove xs p within in
    subst (IsJoinedFrom from) (sym e) (record {
      apart = λ i j le lt short. ⊎_elim
          (λ jp. rw (get_or-remove_below xs p blank i (omega (arith)) within, get_or-remove_below xs p blank j jp within) (h.apart i j le lt (omega (arith))))
          (λ pj. ⊎_elim
          (λ below. rw (get_or-remove_below xs p blank i below within, get_or-remove_above xs p blank j pj within) (h.apart i (j + 1) le (omega (arith)) (omega (arith))))
          (λ above. rw (get_or-remove_above xs p blank i above within, get_or-remove_above xs p blank j pj within) (h.apart (i + 1) (j + 1) (omega (arith)) (omega (arith)) (omega (arith))))
          (cases_lt i p))
          (cases_lt j p);
    })

-- the new one at the end
last_apart : (xs : List Area) (a : Area) → HasNoNeighbour xs a → (i : ℕ) → i < length xs → length xs ≤ i + tried →
    AreNeighbours (get_or (xs ++ a ∷ []) i blank) (get_or (xs ++ a ∷ []) (length xs) blank) → ⊥
last_apart xs a h i lt le = rw (get_or_append_left xs (a ∷ []) blank i lt, get_or_push xs a blank (length xs) refl) (h.none i lt le)

pub joined_pushed : (xs ys : List Area) (a : Area) (from : ℕ) → ys ≡ xs ++ a ∷ [] → length xs ≤ from + tried → HasNoNeighbour xs a → IsJoinedFrom from xs → IsJoinedFrom from ys
joined_pushed xs ys a from e few alone h =
    let long = length_push xs a in
    subst (IsJoinedFrom from) (sym e) (record {
      apart = λ i j le lt short. ⊎_elim
          (λ old. rw (get_or_append_left xs (a ∷ []) blank i (omega (arith)), get_or_append_left xs (a ∷ []) blank j old) (h.apart i j le lt old))
          (λ new. let at : length xs ≡ j = omega (arith) in
          subst (λ z. AreNeighbours (get_or (xs ++ a ∷ []) i blank) (get_or (xs ++ a ∷ []) z blank) → ⊥) at (last_apart xs a alone i (omega (arith)) (omega (arith))))
          (cases_lt j (length xs));
    })

pub last_pushed : (xs ys : List Area) (a : Area) → ys ≡ xs ++ a ∷ [] → HasNoNeighbour xs a → IsJoinedLast ys
last_pushed xs ys a e alone =
    let long = length_push xs a in
    subst IsJoinedLast (sym e) (record {
      apart = λ i j lt end near.
          let at : length xs ≡ j = omega (arith) in
          subst (λ z. AreNeighbours (get_or (xs ++ a ∷ []) i blank) (get_or (xs ++ a ∷ []) z blank) → ⊥) at (last_apart xs a alone i (omega (arith)) (omega (arith)));
    })
