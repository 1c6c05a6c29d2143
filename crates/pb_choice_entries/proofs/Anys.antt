-- Some entry of a list, an entry at a time.
use Rattle.std.proofs.Common.{◌≡◌, ◌<◌, ◌≤◌, ◌+◌, ℕ, ℤ, Bool, true, ◌||◌, List, drop, get_or, length, refl, sym, ap, ◌∙◌, drop_of_length-le, arith}
use Rattle.std.specs.List.{list_any}
use Rattle.std.proofs.lemmas.Bool.{false≢true}
use Rattle.pb_affine.specs.declared.lin.Base.{Base}
use Rattle.pb_affine.specs.declared.lin.Base.TheVariants.{Fixed, Param, Var}
use Rattle.pb_affine.specs.Values.{base_value}
use Rattle.std.proofs.lemmas.Bool.Decides.{nat_tests}
use Rattle.std.proofs.lemmas.List.{at_drop_more}
use Rattle.std.proofs.Math.Bool.{or-false}
use Rattle.pb_part_firsts.specs.declared.firsts.Entry.{Entry}
use Rattle.pb_choice_entries.specs.Clashes.{same_base}

or_step : (w1 w t q all : Bool) → w1 ≡ w || t → w || (t || q) ≡ all → w1 || q ≡ all
or_step w1 w t q all e h = grind (arith, nat_tests)

pub any_step : (t : Entry → Bool) (xs : List Entry) (i : ℕ) (d : Entry) (w w1 all : Bool) → i < length xs → w1 ≡ w || t (get_or xs i d) →
    w || list_any t (drop i xs) ≡ all → w1 || list_any t (drop (i + 1) xs) ≡ all
any_step t xs i d w w1 all lt e h =
    or_step w1 w (t (get_or xs i d)) (list_any t (drop (i + 1) xs)) all e (ap (λ z. w || z) (sym (at_drop_more (λ l. list_any t l) xs i d lt)) ∙ h)

pub any_done : (t : Entry → Bool) (xs : List Entry) (i : ℕ) (w all : Bool) → length xs ≤ i → w || list_any t (drop i xs) ≡ all → w ≡ all
any_done t xs i w all le h = sym (or-false w) ∙ ap (λ l. w || list_any t l) (sym (drop_of_length-le xs le)) ∙ h

-- ---- one source

pub base_is : (a b : Base) (n x : ℤ) → same_base a b ≡ true → base_value a n x ≡ base_value b n x
base_is Fixed Fixed n x h = refl
base_is Param Param n x h = refl
base_is Var Var n x h = refl
base_is Fixed Param n x h = absurd (false≢true h)
base_is Fixed Var n x h = absurd (false≢true h)
base_is Param Fixed n x h = absurd (false≢true h)
base_is Param Var n x h = absurd (false≢true h)
base_is Var Fixed n x h = absurd (false≢true h)
base_is Var Param n x h = absurd (false≢true h)
