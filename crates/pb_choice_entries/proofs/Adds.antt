-- What a walk over entries adds, an entry at a time.
use Rattle.std.proofs.Common.{◌≡◌, ◌<◌, ◌≤◌, ◌+◌, ℕ, ℤ, pos, ◌≤ℤ◌, Bool, true, false, not, ◌&&◌, ◌||◌, nat_eq, ◌+ℤ◌, List, [], drop, get_or, length, refl, sym, ap, ◌∙◌, arith}
use Rattle.std.specs.List.{list_any}
use Rattle.std.proofs.lemmas.Bool.{and_parts, false≢true}
use Rattle.std.proofs.lemmas.Int.{ints}
use Rattle.std.specs.Ordering.{int_eq}
use Rattle.pb_affine.specs.Values.{base_value}
use Rattle.std.proofs.lemmas.Bool.Decides.{nat_tests}
use Rattle.std.proofs.lemmas.List.{at_drop_more}
use Rattle.pb_part_areas.specs.declared.area.Area.{Area}
use Rattle.pb_part_areas.specs.Areas.{has, have}
use Rattle.pb_part_firsts.specs.declared.firsts.Entry.{Entry}
use Rattle.pb_part_firsts.specs.declared.firsts.Source.{Source}
use Rattle.pb_part_firsts.specs.Firsts.{is_small_kind, are_small}
use Rattle.pb_part_visits.specs.Visits.{is_small_off}
use Rattle.pb_choice_entries.proofs.Anys.{any_step, any_done, base_is}
use Rattle.pb_choice_entries.specs.Clashes.{AddsWhere, AreWhere, agrees, clashes, forks, same_base, IsAgreement}

-- ---- small offsets

small_at : (xs : List Entry) (i : ℕ) (d : Entry) → i < length xs → are_small (drop i xs) ≡ true → (is_small_kind (get_or xs i d).kind ≡ true) × (are_small (drop (i + 1) xs) ≡ true)
small_at xs i d lt h = and_parts (is_small_kind (get_or xs i d).kind) (are_small (drop (i + 1) xs)) (sym (at_drop_more are_small xs i d lt) ∙ h)

-- what was added so far, and what is to be added with the entries from here on
pub record SoFar (small : Bool) (xs : List Entry) (i : ℕ) (old new : List Area) (test : List Entry → ℤ → ℕ → ℤ → Bool) : Type 0 where
  pub is : small ≡ true → are_small xs ≡ true → (are_small (drop i xs) ≡ true) × ((n : ℤ) (role : ℕ) (x : ℤ) → pos 0 ≤ℤ n →
      have new n role x || test (drop i xs) n role x ≡ have old n role x || test xs n role x)

pub far_step : (small : Bool) (one : Entry → ℤ → ℕ → ℤ → Bool) (xs : List Entry) (i : ℕ) (d : Entry) (old best next : List Area) → i < length xs →
    (small ≡ true → is_small_kind (get_or xs i d).kind ≡ true → AddsWhere best next (one (get_or xs i d))) →
    SoFar small xs i old best (λ l n role x. list_any (λ e. one e n role x) l) → SoFar small xs (i + 1) old next (λ l n role x. list_any (λ e. one e n role x) l)
far_step small one xs i d old best next lt adds so_far = record {
  is = λ s h.
      let t = so_far.is s h in
      let parts = small_at xs i d lt t.0 in
      (parts.1, λ n role x z. any_step (λ e. one e n role x) xs i d (have best n role x) (have next n role x) _ lt ((adds s parts.0).is n role x z) (t.1 n role x z));
}

pub far_done : (small : Bool) (one : Entry → ℤ → ℕ → ℤ → Bool) (xs : List Entry) (i : ℕ) (old best : List Area) → length xs ≤ i →
    SoFar small xs i old best (λ l n role x. list_any (λ e. one e n role x) l) → small ≡ true → are_small xs ≡ true → AddsWhere old best (λ n role x. list_any (λ e. one e n role x) xs)
far_done small one xs i old best le so_far s h = record {
  is = λ n role x z. any_done (λ e. one e n role x) xs i (have best n role x) _ le ((so_far.is s h).1 n role x z);
}

-- ---- two sources

apart_bools : (a b g m w0 w1 both met apart : Bool) → both ≡ a && b → met ≡ g → (a ≡ true → g ≡ m) → apart ≡ both && not met → w1 ≡ w0 || apart → w1 ≡ w0 || ((a && b) && not m)
apart_bools true b g m w0 w1 both met apart e1 e2 e3 e4 e5 = let k : g ≡ m = e3 refl in grind (arith, nat_tests)
apart_bools false b g m w0 w1 both met apart e1 e2 e3 e4 e5 = grind (arith, nat_tests)

pub adds_apart : (a b agreed : Area) (s t : Source) (both met seen apart apart_seen old new : List Area) →
    ((n : ℤ) (role : ℕ) (x : ℤ) → have both n role x ≡ has a n role x && has b n role x) →
    ((n : ℤ) (role : ℕ) (x : ℤ) → have met n role x ≡ has agreed n role x) → IsAgreement a s t agreed → seen ≡ met →
    ((n : ℤ) (role : ℕ) (x : ℤ) → have apart n role x ≡ have both n role x && not (have seen n role x)) → apart_seen ≡ apart →
    ((n : ℤ) (role : ℕ) (x : ℤ) → have new n role x ≡ have old n role x || have apart_seen n role x) →
    is_small_off s.at.off ≡ true → is_small_off t.at.off ≡ true → AddsWhere old new (λ n role x. (has a n role x && has b n role x) && not (agrees s t n x))
adds_apart a b agreed s t both met seen apart apart_seen old new is_both is_met agree same is_apart same2 is_new ss st = record {
  is = λ n role x z.
      apart_bools (has a n role x) (has b n role x) (has agreed n role x) (agrees s t n x) (have old n role x) (have new n role x) (have both n role x) (have met n role x) (have apart n role x)
      (is_both n role x) (is_met n role x) (λ h. agree.is n role x ss st z h)
      (is_apart n role x ∙ ap (λ l. have both n role x && not (have l n role x)) same) (is_new n role x ∙ ap (λ l. have old n role x || have l n role x) same2);
}

one_add : (w0 w1 p : Bool) → w0 ≡ false → w1 ≡ w0 || p → w1 ≡ p
one_add w0 w1 p e f = grind (arith, nat_tests)

two_adds : (w0 w1 w2 p q : Bool) → w0 ≡ false → w1 ≡ w0 || p → w2 ≡ w1 || q → w2 ≡ p || q
two_adds w0 w1 w2 p q e f g = grind (arith, nat_tests)

pub all_clashes : (here mine before : List Entry) (none new : List Area) → none ≡ [] → ((n : ℤ) (role : ℕ) (x : ℤ) → clashes mine before n role x ≡ clashes here before n role x) →
    (are_small here ≡ true → are_small mine ≡ true) → (are_small mine ≡ true → are_small before ≡ true → AddsWhere none new (clashes mine before)) →
    are_small here ≡ true → are_small before ≡ true → AreWhere new (clashes here before)
all_clashes here mine before none new is_none same small adds sh sb = record {
  is = λ n role x z. one_add (have none n role x) (have new n role x) (clashes mine before n role x) (ap (λ l. have l n role x) is_none) ((adds (small sh) sb).is n role x z) ∙ same n role x;
}

pub all_forks : (here before : List Entry) (none mid new : List Area) → none ≡ [] → (are_small here ≡ true → are_small before ≡ true → AddsWhere none mid (forks here before)) →
    (are_small here ≡ true → are_small here ≡ true → AddsWhere mid new (forks here here)) → are_small here ≡ true → are_small before ≡ true →
    AreWhere new (λ n role x. forks here before n role x || forks here here n role x)
all_forks here before none mid new is_none a b sh sb = record {
  is = λ n role x z. two_adds (have none n role x) (have mid n role x) (have new n role x) (forks here before n role x) (forks here here n role x)
      (ap (λ l. have l n role x) is_none) ((a sh sb).is n role x z) ((b sh sh).is n role x z);
}

-- ---- one source

same_values : (r s : ℕ) (a b v w : ℤ) → nat_eq r s ≡ true → int_eq a b ≡ true → v ≡ w → nat_eq r s && int_eq (a +ℤ v) (b +ℤ w) ≡ true
same_values r s a b v w h k e = grind (arith, ints, nat_tests)

nothing_new : (w t g : Bool) → g ≡ true → w ≡ w || (t && not g)
nothing_new w t g e = grind (arith, nat_tests)

none_common : (o a b d : Bool) → a && not b ≡ a → o ≡ o || ((a && b) && d)
none_common true a b d e = refl
none_common false true true d e = absurd (false≢true e)
none_common false true false d e = refl
none_common false false b d e = refl

-- areas that have nothing in common add nothing
pub adds_none : (a b : Area) (from second : Source) (old : List Area) → ((n : ℤ) (role : ℕ) (x : ℤ) → has a n role x && not (has b n role x) ≡ has a n role x)
    → AddsWhere old old (λ n role x. (has a n role x && has b n role x) && not (agrees from second n x))
adds_none a b from second old h = record { is = λ n role x _. none_common (have old n role x) (has a n role x) (has b n role x) (not (agrees from second n x)) (h n role x) }

pub adds_same : (a b : Area) (s t : Source) (old : List Area) (r : Bool) → r ≡ (nat_eq s.role t.role && same_base s.at.base t.at.base && int_eq s.at.off t.at.off) → r ≡ true →
    AddsWhere old old (λ n role x. (has a n role x && has b n role x) && not (agrees s t n x))
adds_same a b s t old r e y =
    let p = and_parts (nat_eq s.role t.role && same_base s.at.base t.at.base) (int_eq s.at.off t.at.off) (sym e ∙ y) in
    let q = and_parts (nat_eq s.role t.role) (same_base s.at.base t.at.base) p.0 in
    record {
      is = λ n role x z. nothing_new (have old n role x) (has a n role x && has b n role x) (agrees s t n x)
          (same_values s.role t.role s.at.off t.at.off (base_value s.at.base n x) (base_value t.at.base n x) q.0 p.1 (base_is s.at.base t.at.base n x q.1));
    }
