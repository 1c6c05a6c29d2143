-- Tables of which each row has a name of its own.
use Rattle.std.proofs.Common.{◌≡◌, ℕ, ◌+◌, ◌<◌, ◌≤◌, Bool, true, ◌&&◌, List, [], ◌∷◌, ◌++◌, length, map, arith, Decides, All}
use Rattle.std.proofs.lemmas.Bool.Decides.{Decides-and}
use Rattle.std.proofs.lemmas.List.{length_push}
use Rattle.std.proofs.lemmas.List.Elements.{All-nil, All-cons, All-head, All-tail}
use Rattle.pb_ctree_laws.proofs.Names.{IsNew, AreDistinctFrom, none_behind, distinct_more, first_new, others_distinct}
use Rattle.pb_ctree_laws.proofs.Tests.{itself}

module _ {A : Type 0} (name : A → List ℕ) (P : A → Type 0) (most : ℕ) where
  -- what a row keeps behind those with these names
  pub record IsRow (before : List (List ℕ)) (x : A) : Type 0 where
    pub fits : P x
    pub fresh : IsNew before (name x)
    pub room : length before < most

  -- what rows keep behind those with these names
  pub record AreRows (before : List (List ℕ)) (xs : List A) : Type 0 where
    pub each : All P xs
    pub distinct : AreDistinctFrom (length before) (before ++ map name xs)
    pub room : length before + length xs ≤ most

  rows_more : (before : List (List ℕ)) (x : A) (xs : List A) → IsRow before x → AreRows (before ++ name x ∷ []) xs → AreRows before (x ∷ xs)
  rows_more before x xs row rest = record {
    each = All-cons P x xs row.fits rest.each;
    distinct = distinct_more before (name x) (map name xs) row.fresh rest.distinct;
    room = omega (arith, rest.room, length_push before (name x));
  }

  row_first : (before : List (List ℕ)) (x : A) (xs : List A) → AreRows before (x ∷ xs) → IsRow before x
  row_first before x xs rows = record {
    fits = All-head P x xs rows.each;
    fresh = first_new before (name x) (map name xs) rows.distinct;
    room = omega (arith, rows.room);
  }

  rows_rest : (before : List (List ℕ)) (x : A) (xs : List A) → AreRows before (x ∷ xs) → AreRows (before ++ name x ∷ []) xs
  rows_rest before x xs rows = record {
    each = All-tail P x xs rows.each;
    distinct = others_distinct before (name x) (map name xs) rows.distinct;
    room = omega (arith, rows.room, length_push before (name x));
  }

  module _ (test : List (List ℕ) → A → Bool) (tests : List (List ℕ) → List A → Bool) (none : (before : List (List ℕ)) → tests before [] ≡ true)
      (more : (before : List (List ℕ)) (x : A) (xs : List A) → tests before (x ∷ xs) ≡ (test before x && tests (before ++ name x ∷ []) xs))
      (each : (before : List (List ℕ)) (x : A) → Decides (test before x) (IsRow before x)) where
    row_is : (before : List (List ℕ)) (x : A) (xs : List A) → (length (before ++ name x ∷ []) ≤ most → Decides (tests (before ++ name x ∷ []) xs) (AreRows (before ++ name x ∷ []) xs)) →
        Decides (test before x && tests (before ++ name x ∷ []) xs) (AreRows before (x ∷ xs))
    row_is before x xs rest =
        let both = Decides-and (test before x) (tests (before ++ name x ∷ []) xs) (each before x) (itself (tests (before ++ name x ∷ []) xs)) in (
          λ e. let w = both.0 e in rows_more before x xs w.0 ((rest (room w.0)).0 w.1),
          λ rows. let row = row_first before x xs rows in both.1 (row, (rest (room row)).1 (rows_rest before x xs rows)),
        ) where
          room : IsRow before x → length (before ++ name x ∷ []) ≤ most
          room row = omega (arith, row.room, length_push before (name x))

    pub rows_are : (before : List (List ℕ)) (xs : List A) → length before ≤ most → Decides (tests before xs) (AreRows before xs)
    rows_are before [] room = (λ e. record { each = All-nil P; distinct = none_behind before; room = omega arith }, λ rows. none before)
    rows_are before (x ∷ xs) room =
        rw (more before x xs) (row_is before x xs (λ less. rows_are (before ++ name x ∷ []) xs less))
