-- The `==` of names compares their bytes, so a set of names that it tells apart is a table.
use Rattle.std.proofs.Common.{◌≡◌, ℕ, List, [], length, take, refl, sym, ap, ◌∙◌, nat_eq, true≢false, Decides}
use Rattle.std.proofs.lemmas.List.{take_at}
use Rattle.std.proofs.lemmas.Bool.Decides.{Decides-and, Decides-eqb, Decides-like, same_from_decides}
use Rattle.std.proofs.lemmas.Slice.Eq.{bytes_eq-Decides}
use Rattle.std.proofs.lemmas.Map.Keys.{apart_from_distinct}
use Rattle.std.specs.Cmp.Lexicographic.{pointwise}
use Rattle.std.specs.List.{IsDistinct}
use Rattle.pb_text.specs.Padded.{padded}
use Rattle.pb_text.specs.Tables.{AreDistinct}
use Rattle.pb_text.specs.contracts.name.NamePartialEq.TheImpl.{eq-value}

unpadded : (v w : List ℕ) → (padded v ≡ padded w) × (length v ≡ length w) → v ≡ w
unpadded v w h =
    sym (take_at v _ (length v) refl) ∙ ap (take (length v)) h.0 ∙ take_at w _ (length v) (sym h.1)

pub same_decides : (v w : List ℕ) → Decides (eq-value.it v w) (v ≡ w)
same_decides v w =
    Decides-like (eq-value.it v w) (unpadded v w) (λ e. (ap padded e, ap length e))
    (Decides-and (pointwise nat_eq (padded v) (padded w)) (nat_eq (length v) (length w)) (bytes_eq-Decides (padded v) (padded w)) (Decides-eqb (length v) (length w)))

pub same_names : (v w : List ℕ) → eq-value.it v w ≡ pointwise nat_eq v w
same_names v w = same_from_decides _ _ (same_decides v w) (bytes_eq-Decides v w)

pub same_test : (v : List ℕ) → eq-value.it v ≡ pointwise nat_eq v
same_test v = λ j w. same_names v w j

pub distinct_names : (names : List (List ℕ)) → IsDistinct eq-value.it names → AreDistinct names
distinct_names names h i j before there same =
    true≢false (sym ((same_decides _ _).1 same) ∙ apart_from_distinct eq-value.it names i j [] h before there)
