-- Tests that decide facts, and lines in a row that keep their rules.
use Rattle.std.proofs.Common.{◌≡◌, ℕ, ◌≤◌, ℤ, ◌≤ℤ◌, Bool, true, false, ◌&&◌, T, List, [], ◌∷◌, ◌++◌, refl, sym, ap, subst, ◌∙◌, Decides, int_le, nat_le, All, Contains, nat_eq}
use Rattle.std.specs.List.{list_all, list_any}
use Rattle.std.proofs.lemmas.Bool.{leb-true, le-leb, eqb-true}
use Rattle.std.proofs.lemmas.Bool.Decides.{Decides-by_and}
use Rattle.std.proofs.lemmas.Cmp.{nat_eq_equiv}
use Rattle.std.proofs.lemmas.List.{get_or_default}
use Rattle.std.proofs.lemmas.List.Folds.{Any-from_list_any}
use Rattle.std.proofs.lemmas.Map.Views.{list_any-from_Contains}
use Rattle.std.proofs.Math.Bool.{and_assoc}
use lib.Signed.{le_z_yes}
use Rattle.pb_ctree.specs.Lines.{Line}
use Rattle.pb_ctree.specs.Texts.{all_kept}

-- ---- tests

pub always : (b : Bool) → b ≡ true → Decides b (Unit {0})
always b e = (λ h. tt, λ u. e)

pub itself : (b : Bool) → Decides b (b ≡ true)
itself b = (λ e. e, λ e. e)

-- the second test decides its fact where the first fact holds
pub and_then : {P Q : Type 0} (x y : Bool) → Decides x P → (P → Decides y Q) → Decides (x && y) (P × Q)
and_then true y h k = (λ e. (h.0 refl, (k (h.0 refl)).0 e), λ w. (k w.0).1 w.1)
and_then false y h k = (λ e. cc, λ w. h.1 w.0)

pub and_true : {P : Type 0} (b : Bool) → Decides b P → Decides (b && true) P
and_true true h = h
and_true false h = h

T_from : (b : Bool) → b ≡ true → T b
T_from b e = subst T (sym e) tt

from_T : (b : Bool) → T b → b ≡ true
from_T true t = refl
from_T false t = absurd t

pub int_le_is : (a b : ℤ) → Decides (int_le a b) (a ≤ℤ b)
int_le_is a b = (λ e. le_z_yes (T_from (int_le a b) e), λ h. from_T (int_le a b) h.le)

pub nat_le_is : (a b : ℕ) → Decides (nat_le a b) (a ≤ b)
nat_le_is a b = (leb-true a b, le-leb a b)

pub all_is : {A : Type 0} (test : A → Bool) (P : A → Type 0) → ((x : A) → Decides (test x) (P x)) → (xs : List A) → Decides (list_all test xs) (All P xs)
all_is test P each xs = Decides-by_and test P (list_all test) each refl (λ _ _. refl) xs

pub contains_is : (xs : List ℕ) (x : ℕ) → Decides (list_any (nat_eq x) xs) (Contains xs x)
contains_is xs x = (found, λ w. list_any-from_Contains nat_eq_equiv x xs w) where
  found : list_any (nat_eq x) xs ≡ true → Contains xs x
  found e =
      let a = Any-from_list_any (nat_eq x) xs e in
      (a.0, a.2, get_or_default xs a.0 x a.1 a.2 ∙ a.3 ∙ sym (eqb-true x a.1 a.4))

-- ---- lines

pub kept_append : (xs ys : List Line) → all_kept (xs ++ ys) ≡ (all_kept xs && all_kept ys)
kept_append [] ys = refl
kept_append (x ∷ xs) ys = ap (λ b. x.kept && b) (kept_append xs ys) ∙ sym (and_assoc x.kept (all_kept xs) (all_kept ys))

pub lines_then : {P Q : Type 0} (xs ys : List Line) → Decides (all_kept xs) P → (P → Decides (all_kept ys) Q) → Decides (all_kept (xs ++ ys)) (P × Q)
lines_then {P} {Q} xs ys h k = subst (λ b. Decides b (P × Q)) (sym (kept_append xs ys)) (and_then (all_kept xs) (all_kept ys) h k)

pub lines_and : {P Q : Type 0} (xs ys : List Line) → Decides (all_kept xs) P → Decides (all_kept ys) Q → Decides (all_kept (xs ++ ys)) (P × Q)
lines_and xs ys h k = lines_then xs ys h (λ _. k)

-- lines, and some that always keep their rules
pub lines_before : {P : Type 0} (xs ys : List Line) → Decides (all_kept xs) P → all_kept ys ≡ true → Decides (all_kept (xs ++ ys)) P
lines_before {P} xs ys h e =
    subst (λ b. Decides b P) (sym (kept_append xs ys ∙ ap (λ b. all_kept xs && b) e)) (and_true (all_kept xs) h)

pub lines_behind : {P : Type 0} (xs ys : List Line) → all_kept xs ≡ true → Decides (all_kept ys) P → Decides (all_kept (xs ++ ys)) P
lines_behind {P} xs ys e h = subst (λ b. Decides b P) (sym (kept_append xs ys ∙ ap (λ b. b && all_kept ys) e)) h
