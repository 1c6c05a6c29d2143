-- What halves of entries add, and entries whose ranks are there.
use Rattle.std.proofs.Common.{◌≡◌, ◌<◌, ℕ, ℤ, Bool, true, false, ◌&&◌, ◌||◌, List, [], ◌∷◌, ◌++◌, drop, get_or, length, pos, nat_eq, int_le, int_lt, refl, sym, ap, subst, ◌∙◌, arith}
use Rattle.std.specs.List.{list_any}
use Rattle.std.proofs.lemmas.Bool.{and_parts, false≢true}
use Rattle.std.proofs.lemmas.Bool.Decides.{nat_tests}
use Rattle.std.proofs.lemmas.List.Folds.{list_any-append}
use Rattle.std.proofs.Math.Bool.{or-false}
use Rattle.pb_part_areas.specs.declared.area.Area.{Area}
use Rattle.pb_part_areas.specs.Areas.{has, have, at, is_before}
use Rattle.pb_part_areas.specs.Joins.{blank}
use Rattle.pb_part_areas.proofs.Covers.{have_at}
use Rattle.pb_part_firsts.specs.declared.firsts.Entry.{Entry}
use Rattle.pb_part_firsts.specs.Firsts.{are_small}
use Rattle.pb_choice_entries.specs.declared.pair.Pairing.{Pairing}
use Rattle.pb_choice_entries.specs.Clashes.{AddsWhere, pair, pair_any, pairs}
use Rattle.pb_choice_entries.proofs.Alikes.{or_none}
use Rattle.pb_choice_entries.proofs.Closes.{are_small_append, no_pair}
use Rattle.pb_choice_entries.proofs.Adds.{SoFar}

-- ---- halves

two_adds : (w0 w1 w2 b q all : Bool) → w1 ≡ w0 || b → w2 ≡ w1 || q → all ≡ b || q → w2 ≡ w0 || all
two_adds w0 w1 w2 b q all e f g = grind (arith, nat_tests)

pub both_halves : (p : Pairing) (here others first second : List Entry) (old mid new : List Area) → here ≡ first ++ second →
    (are_small first ≡ true → are_small others ≡ true → AddsWhere old mid (pairs p first others)) → (are_small second ≡ true → are_small others ≡ true → AddsWhere mid new (pairs p second others)) →
    are_small here ≡ true → are_small others ≡ true → AddsWhere old new (pairs p here others)
both_halves p here others first second old mid new whole adds adds2 sh so =
    let parts = and_parts (are_small first) (are_small second) (sym (are_small_append first second) ∙ sym (ap are_small whole) ∙ sh) in
    record {
      is = λ n role x z. two_adds (have old n role x) (have mid n role x) (have new n role x) (pairs p first others n role x) (pairs p second others n role x) (pairs p here others n role x)
          ((adds parts.0 so).is n role x z) ((adds2 parts.1 so).is n role x z)
          (ap (λ l. pairs p l others n role x) whole ∙ list_any-append (λ e. pair_any p others e n role x) first second);
    }

-- ---- an entry whose ranks are there

pair_absent : (p : Pairing) (e : Entry) (fs : List Entry) (n : ℤ) (role : ℕ) (x : ℤ) → has e.area n role x ≡ false → pair_any p fs e n role x ≡ false
pair_absent p e [] n role x h = refl
pair_absent p e (f ∷ fs) n role x h =
    or_none (pair p e f n role x) (pair_any p fs e n role x) (no_pair p e f n role x (ap (λ b. b && has f.area n role x) h)) (pair_absent p e fs n role x h)

held_bools : (a o k : Bool) → (a ≡ true → o ≡ true) → (a ≡ false → k ≡ false) → o ≡ o || k
held_bools true true k h g = refl
held_bools true false k h g = absurd (false≢true (h refl))
held_bools false o k h g = sym (ap (λ z. o || z) (g refl) ∙ or-false o)

pub held_pairs : (p : Pairing) (e : Entry) (fs : List Entry) (old : List Area) → ((n : ℤ) (role : ℕ) (x : ℤ) → has e.area n role x ≡ true → have old n role x ≡ true) → AddsWhere old old (pair_any p fs e)
held_pairs p e fs old h = record { is = λ n role x z. held_bools (has e.area n role x) (have old n role x) (pair_any p fs e n role x) (h n role x) (pair_absent p e fs n role x) }

passed_bools : (a b rest o all : Bool) → (a ≡ true → b ≡ true) → (a ≡ false → rest ≡ false) → b || rest ≡ o || all → b ≡ o || all
passed_bools true true rest o all h g e = e
passed_bools true false rest o all h g e = absurd (false≢true (h refl))
passed_bools false b rest o all h g e = sym (ap (λ z. b || z) (g refl) ∙ or-false b) ∙ e

-- the entries from here on add nothing more
pub held_rest : (p : Pairing) (small : Bool) (e : Entry) (fs : List Entry) (i : ℕ) (old best : List Area) → ((n : ℤ) (role : ℕ) (x : ℤ) → has e.area n role x ≡ true → have best n role x ≡ true) →
    SoFar small fs i old best (λ z n role x. list_any (λ f. pair p e f n role x) z) → small ≡ true → are_small fs ≡ true → AddsWhere old best (pair_any p fs e)
held_rest p small e fs i old best h so_far s k = record {
  is = λ n role x z. passed_bools (has e.area n role x) (have best n role x) (pair_any p (drop i fs) e n role x) (have old n role x) (pair_any p fs e n role x)
      (h n role x) (pair_absent p e (drop i fs) n role x) ((so_far.is s k).1 n role x z);
}

pub carried : (old new next : List Area) (test : ℤ → ℕ → ℤ → Bool) → new ≡ next → AddsWhere old new test → AddsWhere old next test
carried old new next test e h = subst (λ z. AddsWhere old z test) e h

pub same_has : (b a : Area) → b.role ≡ a.role → b.low ≡ a.low → b.end ≡ a.end → b.from ≡ a.from → b.until ≡ a.until → (n : ℤ) (role : ℕ) (x : ℤ) → has b n role x ≡ has a n role x
same_has b a er el ee ef eu n role x =
    ap (λ z. nat_eq role z && int_le (at b.low n) x && int_lt x (at b.end n) && int_le (pos b.from) n && is_before n b.until) er
    ∙ ap (λ z. nat_eq role a.role && int_le (at z n) x && int_lt x (at b.end n) && int_le (pos b.from) n && is_before n b.until) el
    ∙ ap (λ z. nat_eq role a.role && int_le (at a.low n) x && int_lt x (at z n) && int_le (pos b.from) n && is_before n b.until) ee
    ∙ ap (λ z. nat_eq role a.role && int_le (at a.low n) x && int_lt x (at a.end n) && int_le (pos z) n && is_before n b.until) ef
    ∙ ap (λ z. nat_eq role a.role && int_le (at a.low n) x && int_lt x (at a.end n) && int_le (pos a.from) n && is_before n z) eu

pub listed : (xs : List Area) (i : ℕ) (a : Area) → i < length xs → (get_or xs i blank).role ≡ a.role → (get_or xs i blank).low ≡ a.low → (get_or xs i blank).end ≡ a.end
    → (get_or xs i blank).from ≡ a.from → (get_or xs i blank).until ≡ a.until → (n : ℤ) (role : ℕ) (x : ℤ) → has a n role x ≡ true → have xs n role x ≡ true
listed xs i a lt er el ee ef eu n role x h = have_at xs i n role x lt (same_has (get_or xs i blank) a er el ee ef eu n role x ∙ h)
