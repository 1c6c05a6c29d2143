-- What holds for some number of a range.
use Rattle.std.proofs.Common.{◌≡◌, ℕ, zero, suc, ℤ, pos, ◌+ℤ◌, ◌-ℤ◌, int_le, int_lt, nat_eq, nat_lt, Bool, true, false, ◌||◌, ◌&&◌, if◌then◌else◌, List, [], ◌∷◌, refl, ap, ap₂, ◌∙◌, arith}
use Rattle.std.specs.List.{list_any}
use Rattle.std.specs.Ordering.{int_eq}
use Rattle.std.proofs.lemmas.Bool.Decides.{nat_tests}
use Rattle.std.proofs.lemmas.Int.{ints}
use Rattle.pb_affine.specs.declared.lin.Base.{Base}
use Rattle.pb_affine.specs.declared.lin.Base.TheVariants.{Fixed, Param, Var}
use Rattle.pb_affine.specs.Values.{base_value, range, count_of, count_from}
use Rattle.pb_core_language.specs.declared.tree.CoreEnd.{CoreEnd}
use Rattle.pb_core_flat.specs.Seated.{is_at}
use Rattle.pb_core_flat.specs.Meets.{is_var, is_passed, is_met}

shuffle : (a b c d : Bool) → (a || b) || (c || d) ≡ (a || c) || (b || d)
shuffle a b c d = grind (arith, nat_tests)

pub any_or : {A : Type 0} (p q : A → Bool) (xs : List A) → list_any (λ i. p i || q i) xs ≡ list_any p xs || list_any q xs
any_or p q [] = refl
any_or p q (i ∷ xs) = ap (λ z. (p i || q i) || z) (any_or p q xs) ∙ shuffle (p i) (q i) (list_any p xs) (list_any q xs)

pub any_none : {A : Type 0} (xs : List A) → list_any (λ i. false) xs ≡ false
any_none [] = refl
any_none (i ∷ xs) = any_none xs

pub any_and : {A : Type 0} (b : Bool) (p : A → Bool) (xs : List A) → list_any (λ i. b && p i) xs ≡ b && list_any p xs
any_and false p xs = any_none xs
any_and true p xs = refl

pub any_same : {A : Type 0} (p q : A → Bool) → ((i : A) → p i ≡ q i) → (xs : List A) → list_any p xs ≡ list_any q xs
any_same p q e [] = refl
any_same p q e (i ∷ xs) = ap₂ (λ y z. y || z) (e i) (any_same p q e xs)

none_meets : (a c x : ℤ) → false ≡ int_le (a +ℤ c) x && int_lt x (a +ℤ c +ℤ pos 0)
none_meets a c x = grind (arith, ints)

more_meets : (a c x : ℤ) (k : ℕ) → int_eq (c +ℤ a) x || (int_le (a +ℤ pos 1 +ℤ c) x && int_lt x (a +ℤ pos 1 +ℤ c +ℤ pos k)) ≡ int_le (a +ℤ c) x && int_lt x (a +ℤ c +ℤ pos (suc k))
more_meets a c x k = grind (arith, ints)

any_from : (k : ℕ) (a c x : ℤ) → list_any (λ i. int_eq (c +ℤ i) x) (count_from k a) ≡ int_le (a +ℤ c) x && int_lt x (a +ℤ c +ℤ pos k)
any_from zero a c x = none_meets a c x
any_from (suc k) a c x = ap (λ z. int_eq (c +ℤ a) x || z) (any_from k (a +ℤ pos 1) c x) ∙ more_meets a c x k

pub count_ends : (low high c x : ℤ) → int_le (low +ℤ c) x && int_lt x (low +ℤ c +ℤ pos (count_of (high +ℤ pos 1 -ℤ low))) ≡ int_le (low +ℤ c) x && int_le x (high +ℤ c)
count_ends low high c x = grind (arith, ints)

-- an end that moves with the variable
pub any_passes : (low high c x : ℤ) → list_any (λ i. int_eq (c +ℤ i) x) (range low high) ≡ is_passed c low high x
any_passes low high c x = any_from (count_of (high +ℤ pos 1 -ℤ low)) low c x ∙ count_ends low high c x

const_more : (b : Bool) (k : ℕ) → b || (b && nat_lt 0 k) ≡ b && nat_lt 0 (suc k)
const_more b k = grind (arith, nat_tests)

const_none : (b : Bool) → false ≡ b && nat_lt 0 0
const_none b = grind (arith, nat_tests)

any_const : (k : ℕ) (a : ℤ) (b : Bool) → list_any (λ i. b) (count_from k a) ≡ b && nat_lt 0 k
any_const zero a b = const_none b
any_const (suc k) a b = ap (λ z. b || z) (any_const k (a +ℤ pos 1) b) ∙ const_more b k

pub count_some : (low high : ℤ) → nat_lt 0 (count_of (high +ℤ pos 1 -ℤ low)) ≡ int_le low high
count_some low high = grind (arith, ints, nat_tests)

-- an end that stays where it is
pub any_stays : (low high : ℤ) (b : Bool) → list_any (λ i. b) (range low high) ≡ b && int_le low high
any_stays low high b = any_const (count_of (high +ℤ pos 1 -ℤ low)) low b ∙ ap (λ z. b && z) (count_some low high)

turned : (a b c : Bool) → (a && b) && c ≡ a && (c && b)
turned a b c = grind (arith, nat_tests)

met_with : (base : Base) (off low high n x : ℤ) (same : Bool) →
    list_any (λ i. same && int_eq (off +ℤ base_value base n i) x) (range low high)
    ≡ same && (if is_var base then is_passed off low high x else int_le low high && int_eq (off +ℤ base_value base n (pos 0)) x)
met_with Fixed off low high n x same = any_stays low high (same && int_eq (off +ℤ pos 0) x) ∙ turned same (int_eq (off +ℤ pos 0) x) (int_le low high)
met_with Param off low high n x same = any_stays low high (same && int_eq (off +ℤ n) x) ∙ turned same (int_eq (off +ℤ n) x) (int_le low high)
met_with Var off low high n x same =
    any_and same (λ i. int_eq (off +ℤ i) x) (range low high) ∙ ap (λ z. same && z) (any_passes low high off x)

-- an end, for some value of the variable
pub end_is_met : (e : CoreEnd) (low high n : ℤ) (role : ℕ) (x : ℤ) → list_any (λ i. is_at e n i role x) (range low high) ≡ is_met e low high n role x
end_is_met e low high n role x = met_with e.at.base e.at.off low high n x (nat_eq e.role role)
