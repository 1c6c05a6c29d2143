-- How many numbers a range has, and how many ranks there are role by role.
use Rattle.std.proofs.Common.{◌≡◌, ◌<◌, ◌≤ℤ◌, ◌^◌, ℕ, zero, suc, ◌+◌, true, ◌&&◌, List, [], ◌∷◌, length, map, get_or, drop, refl, sym, ap, subst, ◌∙◌, arith, length-append}
use Rattle.std.proofs.lemmas.List.{length-map}
use Rattle.std.specs.Prelude.{ℤ, pos, negsuc, ◌+ℤ◌, ◌-ℤ◌}
use Rattle.std.proofs.Math.Seq.{drop-cons}
use Rattle.std.proofs.lemmas.Int.{ints}
use Rattle.std.proofs.lemmas.Bool.{and_parts}
use Rattle.std.proofs.lemmas.Bool.Decides.{nat_tests}
use Rattle.pb_affine.specs.declared.lin.Base.{Base}
use Rattle.pb_affine.specs.declared.lin.Base.TheVariants.{Fixed, Param, Var}
use Rattle.pb_affine.specs.declared.lin.Lin.{Lin}
use Rattle.pb_affine.specs.Values.{IsNear, base_value, value, count_of, count_from, range}
use Rattle.pb_core_language.specs.declared.protocol.CoreRole.{CoreRole}
use Rattle.pb_core_language.specs.Ranks.{seats_from, total}
use Rattle.pb_core_language.specs.Sound.{is_small, is_over_n, is_bound, are_roles}

length_count : (n : ℕ) (a : ℤ) → length (count_from n a) ≡ n
length_count zero a = refl
length_count (suc n) a = ap suc (length_count n (a +ℤ pos 1))

pub range_length : (low high : ℤ) → length (range low high) ≡ count_of (high +ℤ pos 1 -ℤ low)
range_length low high = length_count (count_of (high +ℤ pos 1 -ℤ low)) low

-- ---- how far the ends of a role are

pub record IsWithin (x : ℤ) : Type 0 where
  pub low : negsuc (2 ^ 41) ≤ℤ x
  pub high : x ≤ℤ pos (2 ^ 41)

record IsNearZero (x : ℤ) : Type 0 where
  low : negsuc 99999 ≤ℤ x
  high : x ≤ℤ pos 100000

near_zero : (x : ℤ) → is_small x ≡ true → IsNearZero x
near_zero x h = record { low = grind (arith, ints, nat_tests); high = grind (arith, ints, nat_tests) }

sum_within : (off n : ℤ) → IsNearZero off → IsNear n → (b : Base) → is_over_n b ≡ true → IsWithin (off +ℤ base_value b n (pos 0))
sum_within off n s h Fixed e = record { low = omega (arith, ints, s.low); high = omega (arith, ints, s.high) }
sum_within off n s h Param e = record { low = omega (arith, ints, s.low, h.low); high = omega (arith, ints, s.high, h.high) }
sum_within off n s h Var e = absurd cc

pub bound_within : (l : Lin) (n x : ℤ) → is_bound l ≡ true → IsNear n → x ≡ value l n (pos 0) → IsWithin x
bound_within l n x h near e =
    let parts = and_parts (is_over_n l.base) (is_small l.off) h in
    subst IsWithin (sym e) (sum_within l.off n (near_zero l.off parts.1) near l.base parts.0)

-- ---- role by role

seats_length : (j k : ℕ) (roles : List CoreRole) (n : ℤ) → length (seats_from j roles n) ≡ length (seats_from k roles n)
seats_length j k [] n = refl
seats_length j k (r ∷ rs) n =
    let indices = range (value r.low n (pos 0)) (value r.high n (pos 0)) in
    length-append (map (λ x. record { role = j; index = x }) indices) (seats_from (suc j) rs n)
    ∙ ap (λ m. m + length (seats_from (suc j) rs n)) (length-map indices (λ x. record { role = j; index = x }))
    ∙ ap (λ m. length indices + m) (seats_length (suc j) (suc k) rs n)
    ∙ sym (ap (λ m. m + length (seats_from (suc k) rs n)) (length-map indices (λ x. record { role = k; index = x })))
    ∙ sym (length-append (map (λ x. record { role = k; index = x }) indices) (seats_from (suc k) rs n))

total_of : (r : CoreRole) (rs : List CoreRole) (n : ℤ) → total (r ∷ rs) n ≡ length (range (value r.low n (pos 0)) (value r.high n (pos 0))) + total rs n
total_of r rs n =
    let indices = range (value r.low n (pos 0)) (value r.high n (pos 0)) in
    length-append (map (λ x. record { role = 0; index = x }) indices) (seats_from 1 rs n)
    ∙ ap (λ m. m + length (seats_from 1 rs n)) (length-map indices (λ x. record { role = 0; index = x }))
    ∙ ap (λ m. length indices + m) (seats_length 1 0 rs n)

from_place : (roles : List CoreRole) (i : ℕ) (r : CoreRole) → i < length roles → r ≡ get_or roles i r → drop i roles ≡ r ∷ drop (i + 1) roles
from_place roles i r lt is =
    let next : suc i ≡ i + 1 = omega arith in
    drop-cons roles i r lt ∙ ap (λ x. x ∷ drop (suc i) roles) (sym is) ∙ ap (λ k. r ∷ drop k roles) next

pub record IsNext (roles : List CoreRole) (i : ℕ) (r : CoreRole) (n : ℤ) : Type 0 where
  pub low : is_bound r.low ≡ true
  pub high : is_bound r.high ≡ true
  pub others : are_roles (drop (i + 1) roles) ≡ true
  pub total_is : total (drop i roles) n ≡ length (range (value r.low n (pos 0)) (value r.high n (pos 0))) + total (drop (i + 1) roles) n

pub next_role : (roles : List CoreRole) (i : ℕ) (r : CoreRole) (n : ℤ) → i < length roles → r ≡ get_or roles i r → are_roles (drop i roles) ≡ true → IsNext roles i r n
next_role roles i r n lt is h =
    let here = from_place roles i r lt is in
    let k : are_roles (r ∷ drop (i + 1) roles) ≡ true = subst (λ z. are_roles z ≡ true) here h in
    let a = and_parts (is_bound r.low) (is_bound r.high && are_roles (drop (i + 1) roles)) k in
    let b = and_parts (is_bound r.high) (are_roles (drop (i + 1) roles)) a.1 in
    record { low = a.0; high = b.0; others = b.1; total_is = ap (λ z. total z n) here ∙ total_of r (drop (i + 1) roles) n }
