-- Entries that stand for others where senders are compared.
use Rattle.std.proofs.Common.{◌≡◌, ℕ, ℤ, Bool, true, false, not, ◌&&◌, ◌||◌, List, [], ◌∷◌, ◌++◌, refl, sym, ap, ap₂, subst, ◌∙◌, arith}
use Rattle.std.proofs.lemmas.Bool.{and_parts, and_from}
use Rattle.std.proofs.lemmas.Bool.Decides.{nat_tests}
use Rattle.std.proofs.lemmas.List.Folds.{list_any-append}
use Rattle.pb_part_areas.specs.declared.area.Area.{Area}
use Rattle.pb_part_areas.specs.Areas.{have}
use Rattle.pb_part_firsts.specs.declared.firsts.Entry.{Entry}
use Rattle.pb_part_firsts.specs.Firsts.{are_small}
use Rattle.pb_choice_entries.specs.Clashes.{AreSplit, fork, fork_any, forks}
use Rattle.pb_choice_entries.proofs.Closes.{are_small_append}
use Rattle.pb_choice.specs.Senders.{AreAlike}

-- what `sources_of` says of a list
abbrev pub AreFirst : List Entry → List Entry → Type 0
AreFirst mine here = (others : List Entry) (n : ℤ) (role : ℕ) (x : ℤ) → forks mine others n role x ≡ forks here others n role x

abbrev pub AreSecond : List Entry → List Entry → Type 0
AreSecond mine here = (others : List Entry) (n : ℤ) (role : ℕ) (x : ℤ) → forks others mine n role x ≡ forks others here n role x

abbrev pub AreSmallToo : List Entry → List Entry → Type 0
AreSmallToo mine here = are_small here ≡ true → are_small mine ≡ true

pub alike_of : (sources seen entries : List Entry) → seen ≡ entries → AreSmallToo sources seen → AreSecond sources seen → AreAlike sources entries
alike_of sources seen entries e small second = subst (λ z. AreAlike sources z) e (record { small = small; same = second })

-- ---- behind more entries

mixed_or : (a b c d : Bool) → (a || b) || (c || d) ≡ (a || c) || (b || d)
mixed_or a b c d = grind (arith, nat_tests)

forks_append : (here xs ys : List Entry) (n : ℤ) (role : ℕ) (x : ℤ) → forks here (xs ++ ys) n role x ≡ forks here xs n role x || forks here ys n role x
forks_append [] xs ys n role x = refl
forks_append (e ∷ here) xs ys n role x =
    ap₂ (λ a b. a || b) (list_any-append (λ f. fork e f n role x) xs ys) (forks_append here xs ys n role x)
    ∙ mixed_or (fork_any xs e n role x) (fork_any ys e n role x) (forks here xs n role x) (forks here ys n role x)

small_both : (xs ys : List Entry) → are_small xs ≡ true → are_small ys ≡ true → are_small (xs ++ ys) ≡ true
small_both xs ys h k = are_small_append xs ys ∙ and_from (are_small xs) (are_small ys) h k

small_parts : (xs ys : List Entry) → are_small (xs ++ ys) ≡ true → (are_small xs ≡ true) × (are_small ys ≡ true)
small_parts xs ys h = and_parts (are_small xs) (are_small ys) (sym (are_small_append xs ys) ∙ h)

pub alike_appended : (sources mine both entries here : List Entry) → both ≡ sources ++ mine → AreAlike sources entries → AreAlike mine here → AreAlike both (entries ++ here)
alike_appended sources mine both entries here e a b = record {
  small = λ h. let p = small_parts entries here h in
      ap are_small e ∙ small_both sources mine (a.small p.0) (b.small p.1);
  same = λ others n role x.
      ap (λ l. forks others l n role x) e ∙ forks_append others sources mine n role x
      ∙ ap₂ (λ u v. u || v) (a.same others n role x) (b.same others n role x) ∙ sym (forks_append others entries here n role x);
}

-- ---- who receives from a second rank

pub split_alike : (here before mine sources : List Entry) (mixed split : List Area) → AreFirst mine here → AreSecond mine here → AreAlike sources before →
    AreSplit mine sources mixed split → AreSplit here before mixed split
split_alike here before mine sources mixed split first second alike s = record {
  is = λ n role x z.
      s.is n role x z
      ∙ ap₂ (λ u v. (u || v) && not (have mixed n role x)) (first sources n role x ∙ alike.same here n role x) (first mine n role x ∙ second here n role x);
}

none_bools : (f g m : Bool) → f ≡ false → g ≡ false → false ≡ (f || g) && not m
none_bools f g m h k = grind (arith, nat_tests)

pub split_none : (here before : List Entry) (mixed split : List Area) → split ≡ [] → ((n : ℤ) (role : ℕ) (x : ℤ) → forks here before n role x ≡ false) →
    ((n : ℤ) (role : ℕ) (x : ℤ) → forks here here n role x ≡ false) → AreSplit here before mixed split
split_none here before mixed split e f g = record {
  is = λ n role x z. ap (λ l. have l n role x) e ∙ none_bools (forks here before n role x) (forks here here n role x) (have mixed n role x) (f n role x) (g n role x);
}
