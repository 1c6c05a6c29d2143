-- Early on a protocol has at most 2,000,000,000 ranks.
use Rattle.std.proofs.Common.{◌≡◌, ◌≤◌, ℕ, zero, suc, ◌+◌, ◌*◌, ℤ, pos, ◌+ℤ◌, ◌-ℤ◌, ◌≤ℤ◌, ◌<ℤ◌, negsuc, true, false, ◌&&◌, List, [], ◌∷◌, ◌++◌, map, length, refl, ap, ap₂, ◌∙◌, arith}
use Rattle.std.proofs.lemmas.Int.{ints}
use Rattle.std.proofs.lemmas.Bool.{and_parts}
use Rattle.std.proofs.lemmas.List.{length-append, length-map}
use Rattle.pb_affine.specs.declared.lin.Base.{Base}
use Rattle.pb_affine.specs.declared.lin.Base.TheVariants.{Fixed, Param, Var}
use Rattle.pb_affine.specs.Values.{value, base_value, range, count_from, count_of}
use Rattle.pb_core_language.specs.declared.protocol.CoreRole.{CoreRole}
use Rattle.pb_core_language.specs.Ranks.{Seat, seats_from, total}
use Rattle.pb_core_language.specs.Sound.{is_over_n, is_bound, are_roles}
use Rattle.pb_project_piece.specs.Ranked.{late}
use Rattle.pb_project_piece.proofs.Brought.{IsLittle, bound_parts, bound_little}

abbrev seat : ℕ → ℤ → Seat
seat k x = record { role = k; index = x }

length-count_from : (c : ℕ) (low : ℤ) → length (count_from c low) ≡ c
length-count_from zero low = refl
length-count_from (suc c) low = ap suc (length-count_from c (low +ℤ pos 1))

length_first : (k : ℕ) (r : CoreRole) (rs : List CoreRole) (n : ℤ) → length (seats_from k (r ∷ rs) n) ≡ count_of (value r.high n (pos 0) +ℤ pos 1 -ℤ value r.low n (pos 0)) + length (seats_from (suc k) rs n)
length_first k r rs n =
    length-append (map (seat k) (range (value r.low n (pos 0)) (value r.high n (pos 0)))) (seats_from (suc k) rs n)
    ∙ ap (λ c. c + length (seats_from (suc k) rs n)) (length-map (range (value r.low n (pos 0)) (value r.high n (pos 0))) (seat k) ∙ length-count_from _ (value r.low n (pos 0)))

count_few : (a : ℤ) (m : ℕ) → a ≤ℤ pos m → count_of a ≤ m
count_few (pos a) m h = omega (arith, ints)
count_few (negsuc a) m h = omega arith

least : (b : Base) (n : ℤ) → is_over_n b ≡ true → pos 0 ≤ℤ n → pos 0 ≤ℤ base_value b n (pos 0)
least Fixed n o h = omega (arith, ints)
least Param n o h = h
least Var n o h = cc

most : (b : Base) (n : ℤ) → is_over_n b ≡ true → pos 0 ≤ℤ n → base_value b n (pos 0) ≤ℤ n
most Fixed n o h = h
most Param n o h = omega (arith, ints)
most Var n o h = cc

few_in : (r : CoreRole) (n : ℤ) → is_bound r.low ≡ true → is_bound r.high ≡ true → pos 0 ≤ℤ n → n ≤ℤ late → count_of (value r.high n (pos 0) +ℤ pos 1 -ℤ value r.low n (pos 0)) ≤ 4000000
few_in r n hl hh z le =
    let a = least r.low.base n (bound_parts r.low hl).0 z in
    let b = most r.high.base n (bound_parts r.high hh).0 z in
    let c = (bound_little r.low hl).low in
    let d = (bound_little r.high hh).high in
    count_few (value r.high n (pos 0) +ℤ pos 1 -ℤ value r.low n (pos 0)) 4000000 (omega (arith, ints))

few_from : (k : ℕ) (roles : List CoreRole) (n : ℤ) → are_roles roles ≡ true → pos 0 ≤ℤ n → n ≤ℤ late → length (seats_from k roles n) ≤ length roles * 4000000
few_from k [] n h z le = omega arith
few_from k (r ∷ rs) n h z le =
    let p = and_parts (is_bound r.low) (is_bound r.high && are_roles rs) h in
    let q = and_parts (is_bound r.high) (are_roles rs) p.1 in
    let one = few_in r n p.0 q.0 z le in
    let more = few_from (suc k) rs n q.1 z le in
    rw (length_first k r rs n) (omega arith)

pub few_early : (roles : List CoreRole) (n : ℤ) → are_roles roles ≡ true → length roles ≤ 64 → pos 0 ≤ℤ n → n ≤ℤ late → total roles n ≤ 2000000000
few_early roles n h few z le = let k = few_from 0 roles n h z le in omega (arith, few)
