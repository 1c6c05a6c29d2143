-- How large N is, and the seats of one role more.
use Rattle.std.proofs.Common.{drop-cons, drop_of_length-le, add-one, ◌≡◌, ◌≤◌, ◌<◌, ◌^◌, ℕ, zero, suc, ◌+◌, ◌-◌, ◌*◌, ℤ, pos, negsuc, ◌+ℤ◌, ◌-ℤ◌, ◌*ℤ◌, ◌≤ℤ◌, List, [], ◌∷◌, ◌++◌, map, drop, length, get_or, ap, sym, ◌∙◌, refl, arith, subst, ◌⊎◌, inl, inr, Option, Some}
use Rattle.std.specs.List.{All}
use Rattle.std.proofs.lemmas.Int.{ints}
use Rattle.std.proofs.lemmas.List.{length-append, length-map}
use Rattle.pb_affine.specs.Values.{value, count_from, count_of, range}
use Rattle.pb_local.specs.declared.tables.Role.{Role}
use Rattle.pb_local.specs.Ranks.{Sum, Seat, at, with_role, size_with, ranks_of, no_ranks, seats_from, seat_at, total}
use Rattle.pb_local.specs.Tree.{program_of}
use Rattle.pb_local.specs.WellMade.{IsUpTo, IsInRange, IsSingle}
use Rattle.pb_ctree.specs.declared.tree.CTree.{CTree}
use Rattle.pb_ctree.specs.Sums.{HasSmallEnds}
use Rattle.pb_ctree.specs.Trees.{IsTree, NumbersRanks}
use Rattle.pb_ctree.proofs.Emitted.{numbers_ranks, small_ends}
use Rattle.pb_machine.specs.Seats.{IsModest}

-- ---- N

factor_least : (roles : List Role) (f : Sum) → All HasSmallEnds roles → (f.b -ℤ pos (2000001 * length roles)) ≤ℤ (size_with f roles).b
factor_least [] f small = omega (arith, ints)
factor_least (r ∷ rs) f small =
    let first : HasSmallEnds r = small 0 r (omega arith) in
    let others : All HasSmallEnds rs = λ k d less. small (suc k) d (omega (arith, less)) in
    let next : ((with_role f r).b -ℤ pos (2000001 * length rs)) ≤ℤ (size_with (with_role f r) rs).b = factor_least rs (with_role f r) others in
    omega (arith, ints, next, first.low.low, first.low.high, first.high.low, first.high.high)

times_more : (a : ℤ) (k : ℕ) → pos 1 ≤ℤ a → pos k ≤ℤ (a *ℤ pos k)
times_more (pos zero) k h = absurd (omega (arith, ints, h))
times_more (pos (suc m)) k h = omega (arith, ints)
times_more (negsuc m) k h = absurd (omega (arith, ints, h))

open_modest : (f : Sum) (k t : ℕ) → pos 1 ≤ℤ f.a → (pos 0 -ℤ pos 128000064) ≤ℤ f.b → at f (pos k) ≡ pos t → t ≤ 2000000000 → k ≤ 2 ^ 32
open_modest f k t some least is few =
    let more = times_more f.a k some in
    omega (arith, ints, more, least, is, few)

single_modest : (low k : ℕ) (high : Option ℕ) → high ≡ Some low → IsUpTo k high → low ≤ 2000000000 → k ≤ 2 ^ 32
single_modest low k high e within most =
    let h : k ≤ low = subst (IsUpTo k) e within in
    omega (arith, h, most)

pub modest : (tree : CTree) (n : ℤ) → IsTree tree → pos 0 ≤ℤ n → IsInRange tree.local.range (count_of n) → total tree.local.roles.items n ≤ 2000000000 → IsModest n
modest tree (negsuc k) is some within few = absurd (omega (arith, ints, some))
modest tree (pos k) is some within few =
    let numbers : NumbersRanks tree (pos k) = numbers_ranks tree k is within in
    let size : at (ranks_of tree.local.roles.items) (pos k) ≡ pos (total tree.local.roles.items (pos k)) = ap (λ (s : Sum). at s (pos k)) (sym is.size) ∙ numbers.size in
    let least : ((no_ranks).b -ℤ pos (2000001 * length tree.local.roles.items)) ≤ℤ (ranks_of tree.local.roles.items).b = factor_least tree.local.roles.items no_ranks (small_ends (program_of tree.local) is.made) in
    let low : (pos 0 -ℤ pos 128000064) ≤ℤ (ranks_of tree.local.roles.items).b = omega (arith, ints, least, is.made.roles.most) in
    let high : k ≤ 2 ^ 32 = by_size is.made.roles.size size low in
    record { low = omega (arith, ints); high = omega (arith, ints, high) } where
      by_size : (pos 1 ≤ℤ (ranks_of tree.local.roles.items).a) ⊎ IsSingle tree.local.range → at (ranks_of tree.local.roles.items) (pos k) ≡ pos (total tree.local.roles.items (pos k)) → (pos 0 -ℤ pos 128000064) ≤ℤ (ranks_of tree.local.roles.items).b → k ≤ 2 ^ 32
      by_size (inl more) size low = open_modest (ranks_of tree.local.roles.items) k (total tree.local.roles.items (pos k)) more low size few
      by_size (inr single) size low = single_modest tree.local.range.low k tree.local.range.high single within.high is.made.range.most

-- ---- seats

-- how many ranks a role has
abbrev pub count_at : Role → ℤ → ℕ
count_at r n = count_of (value r.high n (pos 0) +ℤ pos 1 -ℤ value r.low n (pos 0))

abbrev seat : ℕ → ℤ → Seat
seat k x = record { role = k; index = x }

length-from : (c : ℕ) (low : ℤ) → length (count_from c low) ≡ c
length-from zero low = refl
length-from (suc c) low = ap suc (length-from c (low +ℤ pos 1))

pub length-seats : (r : Role) (rs : List Role) (j : ℕ) (n : ℤ) → length (seats_from j (r ∷ rs) n) ≡ count_at r n + length (seats_from (suc j) rs n)
length-seats r rs j n =
    length-append (map (seat j) (range (value r.low n (pos 0)) (value r.high n (pos 0)))) (seats_from (suc j) rs n)
    ∙ ap (λ k. k + length (seats_from (suc j) rs n)) (length-map (range (value r.low n (pos 0)) (value r.high n (pos 0))) (seat j) ∙ length-from (count_at r n) (value r.low n (pos 0)))

here : (k c m : ℕ) (low : ℤ) (ys : List Seat) → m < c → seat_at m (map (seat k) (count_from c low) ++ ys) ≡ seat k (low +ℤ pos m)
here k zero m low ys less = absurd (omega (arith, less))
here k (suc c) zero low ys less = ap (seat k) (omega (arith, ints))
here k (suc c) (suc m) low ys less = here k c m (low +ℤ pos 1) ys (omega (arith, less)) ∙ ap (seat k) (omega (arith, ints))

past : (k c m : ℕ) (low : ℤ) (ys : List Seat) → c ≤ m → seat_at m (map (seat k) (count_from c low) ++ ys) ≡ seat_at (m - c) ys
past k zero m low ys most = ap (λ i. seat_at i ys) (omega arith)
past k (suc c) zero low ys most = absurd (omega (arith, most))
past k (suc c) (suc m) low ys most = past k c m (low +ℤ pos 1) ys (omega (arith, most)) ∙ ap (λ i. seat_at i ys) (omega arith)

pub seat_here : (r : Role) (rs : List Role) (k m : ℕ) (n : ℤ) → m < count_at r n → seat_at m (seats_from k (r ∷ rs) n) ≡ seat k (value r.low n (pos 0) +ℤ pos m)
seat_here r rs k m n less = here k (count_at r n) m (value r.low n (pos 0)) (seats_from (suc k) rs n) less

pub seat_past : (r : Role) (rs : List Role) (k m : ℕ) (n : ℤ) → count_at r n ≤ m → seat_at m (seats_from k (r ∷ rs) n) ≡ seat_at (m - count_at r n) (seats_from (suc k) rs n)
seat_past r rs k m n most = past k (count_at r n) m (value r.low n (pos 0)) (seats_from (suc k) rs n) most

-- ---- one role more

cut : (roles : List Role) (i : ℕ) (r : Role) → i < length roles → r ≡ get_or roles i r → drop i roles ≡ r ∷ drop (i + 1) roles
cut roles i r less is = drop-cons roles i r less ∙ ap (λ x. x ∷ drop (suc i) roles) (sym is) ∙ ap (λ k. r ∷ drop k roles) (sym (add-one i))

pub length_round : (roles : List Role) (i : ℕ) (r : Role) (n : ℤ) → i < length roles → r ≡ get_or roles i r →
    length (seats_from i (drop i roles) n) ≡ count_at r n + length (seats_from (i + 1) (drop (i + 1) roles) n)
length_round roles i r n less is =
    ap (λ rs. length (seats_from i rs n)) (cut roles i r less is)
    ∙ length-seats r (drop (i + 1) roles) i n
    ∙ ap (λ k. count_at r n + length (seats_from k (drop (i + 1) roles) n)) (sym (add-one i))

pub here_round : (roles : List Role) (i m : ℕ) (r : Role) (n : ℤ) → i < length roles → r ≡ get_or roles i r → m < count_at r n →
    seat_at m (seats_from i (drop i roles) n) ≡ seat i (value r.low n (pos 0) +ℤ pos m)
here_round roles i m r n less is inside = ap (λ rs. seat_at m (seats_from i rs n)) (cut roles i r less is) ∙ seat_here r (drop (i + 1) roles) i m n inside

pub past_round : (roles : List Role) (i m : ℕ) (r : Role) (n : ℤ) → i < length roles → r ≡ get_or roles i r → count_at r n ≤ m →
    seat_at m (seats_from i (drop i roles) n) ≡ seat_at (m - count_at r n) (seats_from (i + 1) (drop (i + 1) roles) n)
past_round roles i m r n less is outside =
    ap (λ rs. seat_at m (seats_from i rs n)) (cut roles i r less is)
    ∙ seat_past r (drop (i + 1) roles) i m n outside
    ∙ ap (λ k. seat_at (m - count_at r n) (seats_from k (drop (i + 1) roles) n)) (sym (add-one i))

pub no_round : (roles : List Role) (i m : ℕ) (n : ℤ) → length roles ≤ i → seat_at m (seats_from i (drop i roles) n) ≡ seat 0 (pos 0)
no_round roles i m n past = ap (λ rs. seat_at m (seats_from i rs n)) (drop_of_length-le roles past)
