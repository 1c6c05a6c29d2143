-- How many ends the segments of a foreach have, and how many segments there are.
use Rattle.std.proofs.Common.{◌≡◌, ◌≤◌, ◌+◌, ◌*◌, ℕ, suc, ℤ, ◌<ℤ◌, int_lt, nat_eq, nat_lt, Bool, true, false, ◌&&◌, ◌||◌, if◌then◌else◌, List, [], ◌∷◌, length, refl, sym, ap, ◌∙◌, subst, arith}
use Rattle.std.specs.Ordering.{int_eq}
use Rattle.std.proofs.lemmas.Int.{ints}
use Rattle.std.proofs.lemmas.Bool.{false≢true}
use Rattle.std.proofs.lemmas.Bool.Decides.{nat_tests}
use Rattle.pb_core_language.specs.declared.tree.CoreEnd.{CoreEnd}
use Rattle.pb_core_language.specs.Tree as T
use Rattle.pb_core_language.specs.Tree.{StmtTree, BlockTree}
use Rattle.pb_core_flat.specs.Meets.{is_moving}
use Rattle.pb_local.specs.Tree as L
use Rattle.pb_local.specs.Tree.{Code, Codes, size, size_all}
use Rattle.pb_local.specs.WellMade.{loops_at, loops_in}
use Rattle.pb_shape.specs.Sizes.{braces, braces_all}
use Rattle.pb_shape.specs.Places.{peer_of}
use Rattle.pb_shape.specs.Segments.{is_at_offset, put, put_in, put_end, offsets, offsets_at, segment_code, segment_codes}
use Rattle.pb_project_piece.specs.Weights.{each_room, end_count, count_at, count_in, segment_sum}

-- ---- the codes of a segment

put_size : (t : Bool) (c : Code) (cs : Codes) → size c ≡ 1 → size_all (put t c cs) ≡ (if t then 1 else 0) + size_all cs
put_size true c cs h = ap (λ z. z + size_all cs) h
put_size false c cs h = omega arith

put_braces : (t : Bool) (c : Code) (cs : Codes) → braces c ≡ 0 → braces_all cs ≡ 0 → braces_all (put t c cs) ≡ 0
put_braces true c cs h k = omega (arith, h, k)
put_braces false c cs h k = k

put_loops : (t : Bool) (c : Code) (cs : Codes) → loops_at c ≡ 0 → loops_in cs ≡ 0 → loops_in (put t c cs) ≡ 0
put_loops true c cs h k = omega (arith, h, k)
put_loops false c cs h k = k

add_up : (a b c : ℕ) → a + (b + c) ≡ (a + b) + c
add_up a b c = omega arith

nothing_more : (a : ℕ) → a ≡ 0 + a
nothing_more a = omega arith

at_size : (k : ℕ) (c : ℤ) (s : StmtTree) (rest : Codes) → size_all (segment_code k c s rest) ≡ count_at k c s + size_all rest
at_size k c (T.message l f t) rest =
    put_size (is_at_offset k c f) (L.send l (peer_of t)) (put (is_at_offset k c t) (L.recv l (peer_of f)) rest) refl
    ∙ ap (λ z. end_count k c f + z) (put_size (is_at_offset k c t) (L.recv l (peer_of f)) rest refl) ∙ add_up (end_count k c f) (end_count k c t) (size_all rest)
at_size k c (T.foreach b m items) rest = nothing_more (size_all rest)
at_size k c (T.loop id m body) rest = nothing_more (size_all rest)
at_size k c (T.again id) rest = nothing_more (size_all rest)
at_size k c (T.choice kernel at bs) rest = nothing_more (size_all rest)
at_size k c (T.run kernel at) rest = put_size (is_at_offset k c at) (L.run kernel) rest refl
at_size k c T.barrier rest = nothing_more (size_all rest)
at_size k c (T.broadcast l root) rest = nothing_more (size_all rest)
at_size k c (T.reduce l op root) rest = nothing_more (size_all rest)
at_size k c (T.allreduce l op) rest = nothing_more (size_all rest)

pub codes_size : (k : ℕ) (c : ℤ) (b : BlockTree) → size_all (segment_codes k c b) ≡ count_in k c b
codes_size k c T.nothing = refl
codes_size k c (T.more m s rest) = at_size k c s (segment_codes k c rest) ∙ ap (λ z. count_at k c s + z) (codes_size k c rest)

at_braces : (k : ℕ) (c : ℤ) (s : StmtTree) (rest : Codes) → braces_all rest ≡ 0 → braces_all (segment_code k c s rest) ≡ 0
at_braces k c (T.message l f t) rest h =
    put_braces (is_at_offset k c f) (L.send l (peer_of t)) (put (is_at_offset k c t) (L.recv l (peer_of f)) rest) refl (put_braces (is_at_offset k c t) (L.recv l (peer_of f)) rest refl h)
at_braces k c (T.foreach b m items) rest h = h
at_braces k c (T.loop id m body) rest h = h
at_braces k c (T.again id) rest h = h
at_braces k c (T.choice kernel at bs) rest h = h
at_braces k c (T.run kernel at) rest h = put_braces (is_at_offset k c at) (L.run kernel) rest refl h
at_braces k c T.barrier rest h = h
at_braces k c (T.broadcast l root) rest h = h
at_braces k c (T.reduce l op root) rest h = h
at_braces k c (T.allreduce l op) rest h = h

pub codes_braces : (k : ℕ) (c : ℤ) (b : BlockTree) → braces_all (segment_codes k c b) ≡ 0
codes_braces k c T.nothing = refl
codes_braces k c (T.more m s rest) = at_braces k c s (segment_codes k c rest) (codes_braces k c rest)

at_loops : (k : ℕ) (c : ℤ) (s : StmtTree) (rest : Codes) → loops_in rest ≡ 0 → loops_in (segment_code k c s rest) ≡ 0
at_loops k c (T.message l f t) rest h =
    put_loops (is_at_offset k c f) (L.send l (peer_of t)) (put (is_at_offset k c t) (L.recv l (peer_of f)) rest) refl (put_loops (is_at_offset k c t) (L.recv l (peer_of f)) rest refl h)
at_loops k c (T.foreach b m items) rest h = h
at_loops k c (T.loop id m body) rest h = h
at_loops k c (T.again id) rest h = h
at_loops k c (T.choice kernel at bs) rest h = h
at_loops k c (T.run kernel at) rest h = put_loops (is_at_offset k c at) (L.run kernel) rest refl h
at_loops k c T.barrier rest h = h
at_loops k c (T.broadcast l root) rest h = h
at_loops k c (T.reduce l op root) rest h = h
at_loops k c (T.allreduce l op) rest h = h

pub codes_loops : (k : ℕ) (c : ℤ) (b : BlockTree) → loops_in (segment_codes k c b) ≡ 0
codes_loops k c T.nothing = refl
codes_loops k c (T.more m s rest) = at_loops k c s (segment_codes k c rest) (codes_loops k c rest)

-- ---- where the ends of a role are, each as often as there are ends

abbrev spots_at : ℕ → StmtTree → List ℤ → List ℤ
spots_at k (T.message l f t) os = if nat_eq k f.role && is_moving f then f.at.off ∷ (if nat_eq k t.role && is_moving t then t.at.off ∷ os else os) else (if nat_eq k t.role && is_moving t then t.at.off ∷ os else os)
spots_at k (T.foreach b m items) os = os
spots_at k (T.loop id m body) os = os
spots_at k (T.again id) os = os
spots_at k (T.choice kernel at bs) os = os
spots_at k (T.run kernel e) os = if nat_eq k e.role && is_moving e then e.at.off ∷ os else os
spots_at k T.barrier os = os
spots_at k (T.broadcast l root) os = os
spots_at k (T.reduce l op root) os = os
spots_at k (T.allreduce l op) os = os

abbrev pub spots : ℕ → BlockTree → List ℤ
spots k T.nothing = []
spots k (T.more m s rest) = spots_at k s (spots k rest)

-- each once, descending
abbrev uniq : List ℤ → List ℤ
uniq [] = []
uniq (o ∷ os) = put_in o (uniq os)

uniq_if : (t : Bool) (o : ℤ) (os : List ℤ) → uniq (if t then o ∷ os else os) ≡ (if t then put_in o (uniq os) else uniq os)
uniq_if true o os = refl
uniq_if false o os = refl

uniq_end : (k : ℕ) (e : CoreEnd) (os : List ℤ) → uniq (if nat_eq k e.role && is_moving e then e.at.off ∷ os else os) ≡ put_end k e (uniq os)
uniq_end k e os = uniq_if (nat_eq k e.role && is_moving e) e.at.off os

uniq_two : (k : ℕ) (f t : CoreEnd) (os : List ℤ) → uniq (if nat_eq k f.role && is_moving f then f.at.off ∷ (if nat_eq k t.role && is_moving t then t.at.off ∷ os else os) else (if nat_eq k t.role && is_moving t then t.at.off ∷ os else os)) ≡ put_end k f (put_end k t (uniq os))
uniq_two k f t os = uniq_end k f (if nat_eq k t.role && is_moving t then t.at.off ∷ os else os) ∙ ap (put_end k f) (uniq_end k t os)

uniq_at : (k : ℕ) (s : StmtTree) (os : List ℤ) → uniq (spots_at k s os) ≡ offsets_at k s (uniq os)
uniq_at k (T.message l f t) os = uniq_two k f t os
uniq_at k (T.foreach b m items) os = refl
uniq_at k (T.loop id m body) os = refl
uniq_at k (T.again id) os = refl
uniq_at k (T.choice kernel at bs) os = refl
uniq_at k (T.run kernel e) os = uniq_end k e os
uniq_at k T.barrier os = refl
uniq_at k (T.broadcast l root) os = refl
uniq_at k (T.reduce l op root) os = refl
uniq_at k (T.allreduce l op) os = refl

uniq_offsets : (k : ℕ) (b : BlockTree) → uniq (spots k b) ≡ offsets k b
uniq_offsets k T.nothing = refl
uniq_offsets k (T.more m s rest) = uniq_at k s (spots k rest) ∙ ap (offsets_at k s) (uniq_offsets k rest)

-- how often an offset is among them
abbrev hit : ℤ → ℤ → ℕ
hit c o = if int_eq c o then 1 else 0

abbrev occ : ℤ → List ℤ → ℕ
occ c [] = 0
occ c (o ∷ os) = hit c o + occ c os

hit_bools : (a b m : Bool) (n : ℕ) → (if a && (b && m) then 1 else 0) + n ≡ (if a && m then (if b then 1 else 0) + n else n)
hit_bools true true true n = refl
hit_bools true false true n = refl
hit_bools true true false n = omega arith
hit_bools true false false n = omega arith
hit_bools false b m n = omega arith

occ_if : (t : Bool) (c o : ℤ) (os : List ℤ) → occ c (if t then o ∷ os else os) ≡ (if t then hit c o + occ c os else occ c os)
occ_if true c o os = refl
occ_if false c o os = refl

occ_end : (k : ℕ) (c : ℤ) (e : CoreEnd) (os : List ℤ) → end_count k c e + occ c os ≡ occ c (if nat_eq k e.role && is_moving e then e.at.off ∷ os else os)
occ_end k c e os = hit_bools (nat_eq k e.role) (int_eq c e.at.off) (is_moving e) (occ c os) ∙ sym (occ_if (nat_eq k e.role && is_moving e) c e.at.off os)

occ_at : (k : ℕ) (c : ℤ) (s : StmtTree) (os : List ℤ) → count_at k c s + occ c os ≡ occ c (spots_at k s os)
occ_at k c (T.message l f t) os =
    sym (add_up (end_count k c f) (end_count k c t) (occ c os)) ∙ ap (λ z. end_count k c f + z) (occ_end k c t os)
    ∙ occ_end k c f (if nat_eq k t.role && is_moving t then t.at.off ∷ os else os)
occ_at k c (T.foreach b m items) os = sym (nothing_more (occ c os))
occ_at k c (T.loop id m body) os = sym (nothing_more (occ c os))
occ_at k c (T.again id) os = sym (nothing_more (occ c os))
occ_at k c (T.choice kernel at bs) os = sym (nothing_more (occ c os))
occ_at k c (T.run kernel e) os = occ_end k c e os
occ_at k c T.barrier os = sym (nothing_more (occ c os))
occ_at k c (T.broadcast l root) os = sym (nothing_more (occ c os))
occ_at k c (T.reduce l op root) os = sym (nothing_more (occ c os))
occ_at k c (T.allreduce l op) os = sym (nothing_more (occ c os))

occ_count : (k : ℕ) (c : ℤ) (b : BlockTree) → count_in k c b ≡ occ c (spots k b)
occ_count k c T.nothing = refl
occ_count k c (T.more m s rest) = ap (λ z. count_at k c s + z) (occ_count k c rest) ∙ occ_at k c s (spots k rest)

-- ---- descending lists

abbrev AreBelow : ℤ → List ℤ → Type 0
AreBelow c [] = Unit {0}
AreBelow c (d ∷ ds) = (d <ℤ c) × AreBelow c ds

abbrev Descend : List ℤ → Type 0
Descend [] = Unit {0}
Descend (c ∷ cs) = AreBelow c cs × Descend cs

before : (a b c : ℤ) → a <ℤ b → b <ℤ c → a <ℤ c
before a b c h k = omega (arith, ints, h, k)

below_below : (c d : ℤ) (ds : List ℤ) → c <ℤ d → AreBelow c ds → AreBelow d ds
below_below c d [] h k = tt
below_below c d (e ∷ es) h k = (before e c d k.0 h, below_below c d es h k.1)

less_is : (a b : ℤ) → int_lt a b ≡ true → a <ℤ b
less_is a b h = grind (arith, ints, nat_tests, h)

below_if : (t : Bool) (d : ℤ) (a b : List ℤ) → (t ≡ true → AreBelow d a) → (t ≡ false → AreBelow d b) → AreBelow d (if t then a else b)
below_if true d a b h k = h refl
below_if false d a b h k = k refl

descend_if : (t : Bool) (a b : List ℤ) → (t ≡ true → Descend a) → (t ≡ false → Descend b) → Descend (if t then a else b)
descend_if true a b h k = h refl
descend_if false a b h k = k refl

put_below : (c d : ℤ) (ds : List ℤ) → c <ℤ d → AreBelow d ds → AreBelow d (put_in c ds)
put_below c d [] h k = (h, tt)
put_below c d (e ∷ es) h k =
    below_if (int_lt e c) d (c ∷ e ∷ es) (if int_lt c e then e ∷ put_in c es else e ∷ es) (λ x. (h, k))
    (λ x. below_if (int_lt c e) d (e ∷ put_in c es) (e ∷ es) (λ y. (k.0, put_below c d es h k.1)) (λ y. k))

put_descend : (c : ℤ) (ds : List ℤ) → Descend ds → Descend (put_in c ds)
put_descend c [] h = (tt, tt)
put_descend c (d ∷ ds) h =
    descend_if (int_lt d c) (c ∷ d ∷ ds) (if int_lt c d then d ∷ put_in c ds else d ∷ ds) (λ x. ((less_is d c x, below_below d c ds (less_is d c x) h.0), h))
    (λ x. descend_if (int_lt c d) (d ∷ put_in c ds) (d ∷ ds) (λ y. (put_below c d ds (less_is c d y) h.0, put_descend c ds h.1)) (λ y. h))

uniq_descend : (os : List ℤ) → Descend (uniq os)
uniq_descend [] = tt
uniq_descend (o ∷ os) = put_descend o (uniq os) (uniq_descend os)

length_if : (t : Bool) (a b : List ℤ) (n : ℕ) → length a ≤ n → length b ≤ n → length (if t then a else b) ≤ n
length_if true a b n h k = h
length_if false a b n h k = k

one_longer : (a b : ℕ) → a ≤ suc b → suc a ≤ suc (suc b)
one_longer a b h = omega (arith, h)

no_longer : (b : ℕ) → suc b ≤ suc (suc b)
no_longer b = omega arith

same_length : (b : ℕ) → suc (suc b) ≤ suc (suc b)
same_length b = omega arith

one_is : 1 ≤ 1
one_is = omega arith

put_length : (c : ℤ) (ds : List ℤ) → length (put_in c ds) ≤ suc (length ds)
put_length c [] = one_is
put_length c (d ∷ ds) =
    length_if (int_lt d c) (c ∷ d ∷ ds) (if int_lt c d then d ∷ put_in c ds else d ∷ ds) (suc (suc (length ds))) (same_length (length ds))
    (length_if (int_lt c d) (d ∷ put_in c ds) (d ∷ ds) (suc (suc (length ds))) (one_longer (length (put_in c ds)) (length ds) (put_length c ds)) (no_longer (length ds)))

longer : (a b c : ℕ) → a ≤ suc b → b ≤ c → a ≤ suc c
longer a b c h k = omega (arith, h, k)

none_is : 0 ≤ 0
none_is = omega arith

uniq_length : (os : List ℤ) → length (uniq os) ≤ length os
uniq_length [] = none_is
uniq_length (o ∷ os) = longer (length (put_in o (uniq os))) (length (uniq os)) (length os) (put_length o (uniq os)) (uniq_length os)

-- ---- each end is of one segment

abbrev hits : ℤ → List ℤ → ℕ
hits o [] = 0
hits o (c ∷ cs) = hit c o + hits o cs

abbrev occ_sum : List ℤ → List ℤ → ℕ
occ_sum [] os = 0
occ_sum (c ∷ cs) os = occ c os + occ_sum cs os

other_is : (c o : ℤ) → c <ℤ o → int_eq c o ≡ false
other_is c o h = grind (arith, ints, nat_tests, h)

same_is : (c o : ℤ) → int_eq c o ≡ true → c ≡ o
same_is c o h = grind (arith, ints, nat_tests, h)

no_hits : (o : ℤ) (cs : List ℤ) → AreBelow o cs → hits o cs ≡ 0
no_hits o [] h = refl
no_hits o (c ∷ cs) h = ap (λ t. (if t then 1 else 0) + hits o cs) (other_is c o h.0) ∙ sym (nothing_more (hits o cs)) ∙ no_hits o cs h.1

one_and : (n : ℕ) → n ≡ 0 → 1 + n ≤ 1
one_and n h = omega (arith, h)

none_and : (n : ℕ) → n ≤ 1 → 0 + n ≤ 1
none_and n h = omega (arith, h)

hit_once : (t : Bool) (n : ℕ) → (t ≡ true → n ≡ 0) → n ≤ 1 → (if t then 1 else 0) + n ≤ 1
hit_once true n h k = one_and n (h refl)
hit_once false n h k = none_and n k

none_one : 0 ≤ 1
none_one = omega arith

hits_once : (o : ℤ) (cs : List ℤ) → Descend cs → hits o cs ≤ 1
hits_once o [] h = none_one
hits_once o (c ∷ cs) h = hit_once (int_eq c o) (hits o cs) (λ e. no_hits o cs (subst (λ z. AreBelow z cs) (same_is c o e) h.0)) (hits_once o cs h.1)

exchange : (a b c d : ℕ) → (a + b) + (c + d) ≡ (a + c) + (b + d)
exchange a b c d = omega arith

sum_more : (list : List ℤ) (o : ℤ) (os : List ℤ) → occ_sum list (o ∷ os) ≡ hits o list + occ_sum list os
sum_more [] o os = refl
sum_more (c ∷ cs) o os = ap (λ z. (hit c o + occ c os) + z) (sum_more cs o os) ∙ exchange (hit c o) (occ c os) (hits o cs) (occ_sum cs os)

sum_none : (list : List ℤ) → occ_sum list [] ≡ 0
sum_none [] = refl
sum_none (c ∷ cs) = sym (nothing_more (occ_sum cs [])) ∙ sum_none cs

zero_most : (a : ℕ) → a ≡ 0 → a ≤ 0
zero_most a h = omega (arith, h)

most_more : (s a b n : ℕ) → s ≡ a + b → a ≤ 1 → b ≤ n → s ≤ suc n
most_more s a b n e h k = omega (arith, e, h, k)

sum_most : (list os : List ℤ) → Descend list → occ_sum list os ≤ length os
sum_most list [] h = zero_most (occ_sum list []) (sum_none list)
sum_most list (o ∷ os) h = most_more (occ_sum list (o ∷ os)) (hits o list) (occ_sum list os) (length os) (sum_more list o os) (hits_once o list h) (sum_most list os h)

sum_step : (a b n s : ℕ) → b ≡ (n + n) + s → (2 + a) + b ≡ (suc n + suc n) + (a + s)
sum_step a b n s e = omega (arith, e)

sum_is : (k : ℕ) (b : BlockTree) (list : List ℤ) → segment_sum k b list ≡ (length list + length list) + occ_sum list (spots k b)
sum_is k b [] = refl
sum_is k b (c ∷ cs) =
    ap (λ z. (2 + z) + segment_sum k b cs) (occ_count k c b)
    ∙ sum_step (occ c (spots k b)) (segment_sum k b cs) (length cs) (occ_sum cs (spots k b)) (sum_is k b cs)

three_times : (s n o m : ℕ) → s ≡ (n + n) + o → n ≤ m → o ≤ m → s ≤ 3 * m
three_times s n o m e h k = omega (arith, e, h, k)

pub sum_at_most : (k : ℕ) (b : BlockTree) → segment_sum k b (offsets k b) ≤ 3 * length (spots k b)
sum_at_most k b =
    subst (λ l. segment_sum k b l ≤ 3 * length (spots k b)) (uniq_offsets k b)
    (three_times (segment_sum k b (uniq (spots k b))) (length (uniq (spots k b))) (occ_sum (uniq (spots k b)) (spots k b)) (length (spots k b)) (sum_is k b (uniq (spots k b)))
    (uniq_length (spots k b)) (sum_most (uniq (spots k b)) (spots k b) (uniq_descend (spots k b))))

-- ---- all roles

-- the ends that move of the roles below number n
abbrev low_end : ℕ → CoreEnd → ℕ
low_end n e = if nat_lt e.role n && is_moving e then 1 else 0

abbrev low_at : ℕ → StmtTree → ℕ
low_at n (T.message l f t) = low_end n f + low_end n t
low_at n (T.foreach b m items) = 0
low_at n (T.loop id m body) = 0
low_at n (T.again id) = 0
low_at n (T.choice kernel at bs) = 0
low_at n (T.run kernel e) = low_end n e
low_at n T.barrier = 0
low_at n (T.broadcast l root) = 0
low_at n (T.reduce l op root) = 0
low_at n (T.allreduce l op) = 0

abbrev pub low_in : ℕ → BlockTree → ℕ
low_in n T.nothing = 0
low_in n (T.more m s rest) = low_at n s + low_in n rest

none_below : (r : ℕ) → nat_lt r 0 ≡ false
none_below r = grind (arith, nat_tests)

end_none : (e : CoreEnd) → low_end 0 e ≡ 0
end_none e = ap (λ t. if t && is_moving e then 1 else 0) (none_below e.role)

two_none : (a b : ℕ) → a ≡ 0 → b ≡ 0 → a + b ≡ 0
two_none a b h k = omega (arith, h, k)

at_none : (s : StmtTree) → low_at 0 s ≡ 0
at_none (T.message l f t) = two_none (low_end 0 f) (low_end 0 t) (end_none f) (end_none t)
at_none (T.foreach b m items) = refl
at_none (T.loop id m body) = refl
at_none (T.again id) = refl
at_none (T.choice kernel at bs) = refl
at_none (T.run kernel e) = end_none e
at_none T.barrier = refl
at_none (T.broadcast l root) = refl
at_none (T.reduce l op root) = refl
at_none (T.allreduce l op) = refl

pub low_none : (b : BlockTree) → low_in 0 b ≡ 0
low_none T.nothing = refl
low_none (T.more m s rest) = two_none (low_at 0 s) (low_in 0 rest) (at_none s) (low_none rest)

abbrev spot_count : ℕ → CoreEnd → ℕ
spot_count k e = if nat_eq k e.role && is_moving e then 1 else 0

next_tests : (r k : ℕ) → (nat_lt r (k + 1) ≡ nat_lt r k || nat_eq k r) × (nat_lt r k && nat_eq k r ≡ false)
next_tests r k = (grind (arith, nat_tests), grind (arith, nat_tests))

next_bools : (n l q m : Bool) → n ≡ l || q → l && q ≡ false → (if n && m then 1 else 0) ≡ (if l && m then 1 else 0) + (if q && m then 1 else 0)
next_bools n true true m e h = absurd (false≢true (sym h))
next_bools n true false true e h = ap (λ t. if t && true then 1 else 0) e
next_bools n true false false e h = ap (λ t. if t && false then 1 else 0) e
next_bools n false true true e h = ap (λ t. if t && true then 1 else 0) e
next_bools n false true false e h = ap (λ t. if t && false then 1 else 0) e
next_bools n false false true e h = ap (λ t. if t && true then 1 else 0) e
next_bools n false false false e h = ap (λ t. if t && false then 1 else 0) e

end_next : (k : ℕ) (e : CoreEnd) → low_end (k + 1) e ≡ low_end k e + spot_count k e
end_next k e = let z = next_tests e.role k in next_bools (nat_lt e.role (k + 1)) (nat_lt e.role k) (nat_eq k e.role) (is_moving e) z.0 z.1

one_plus : (n : ℕ) → suc n ≡ 1 + n
one_plus n = omega arith

length_end : (t : Bool) (o : ℤ) (os : List ℤ) → length (if t then o ∷ os else os) ≡ (if t then 1 else 0) + length os
length_end true o os = one_plus (length os)
length_end false o os = nothing_more (length os)

next_two : (a b c d n p q l : ℕ) → a ≡ c + p → b ≡ d + q → l ≡ p + (q + n) → (a + b) + n ≡ (c + d) + l
next_two a b c d n p q l e f g = omega (arith, e, f, g)

next_one : (a c n p l : ℕ) → a ≡ c + p → l ≡ p + n → a + n ≡ c + l
next_one a c n p l e g = omega (arith, e, g)

at_next : (k : ℕ) (s : StmtTree) (os : List ℤ) → low_at (k + 1) s + length os ≡ low_at k s + length (spots_at k s os)
at_next k (T.message l f t) os =
    next_two (low_end (k + 1) f) (low_end (k + 1) t) (low_end k f) (low_end k t) (length os) (spot_count k f) (spot_count k t) (length (spots_at k (T.message l f t) os)) (end_next k f) (end_next k t)
    (length_end (nat_eq k f.role && is_moving f) f.at.off (if nat_eq k t.role && is_moving t then t.at.off ∷ os else os)
    ∙ ap (λ z. spot_count k f + z) (length_end (nat_eq k t.role && is_moving t) t.at.off os))
at_next k (T.foreach b m items) os = refl
at_next k (T.loop id m body) os = refl
at_next k (T.again id) os = refl
at_next k (T.choice kernel at bs) os = refl
at_next k (T.run kernel e) os =
    next_one (low_end (k + 1) e) (low_end k e) (length os) (spot_count k e) (length (spots_at k (T.run kernel e) os)) (end_next k e) (length_end (nat_eq k e.role && is_moving e) e.at.off os)
at_next k T.barrier os = refl
at_next k (T.broadcast l root) os = refl
at_next k (T.reduce l op root) os = refl
at_next k (T.allreduce l op) os = refl

next_sum : (a r n c s l : ℕ) → r ≡ s + n → a + n ≡ c + l → a + r ≡ (c + s) + l
next_sum a r n c s l e f = omega (arith, e, f)

pub low_next : (k : ℕ) (b : BlockTree) → low_in (k + 1) b ≡ low_in k b + length (spots k b)
low_next k T.nothing = refl
low_next k (T.more m s rest) =
    next_sum (low_at (k + 1) s) (low_in (k + 1) rest) (length (spots k rest)) (low_at k s) (low_in k rest) (length (spots_at k s (spots k rest))) (low_next k rest) (at_next k s (spots k rest))

one_most : (t : Bool) → (if t then 1 else 0) ≤ 1
one_most true = one_is
one_most false = none_one

two_most : (a b : ℕ) → a ≤ 1 → b ≤ 1 → a + b ≤ 2
two_most a b h k = omega (arith, h, k)

one_two : (a : ℕ) → a ≤ 1 → a ≤ 2
one_two a h = omega (arith, h)

none_two : 0 ≤ 2
none_two = omega arith

at_most_two : (n : ℕ) (s : StmtTree) → low_at n s ≤ 2
at_most_two n (T.message l f t) = two_most (low_end n f) (low_end n t) (one_most (nat_lt f.role n && is_moving f)) (one_most (nat_lt t.role n && is_moving t))
at_most_two n (T.foreach b m items) = none_two
at_most_two n (T.loop id m body) = none_two
at_most_two n (T.again id) = none_two
at_most_two n (T.choice kernel at bs) = none_two
at_most_two n (T.run kernel e) = one_two (low_end n e) (one_most (nat_lt e.role n && is_moving e))
at_most_two n T.barrier = none_two
at_most_two n (T.broadcast l root) = none_two
at_most_two n (T.reduce l op root) = none_two
at_most_two n (T.allreduce l op) = none_two

six_times : (a l r : ℕ) → a ≤ 2 → 3 * l ≤ r → 3 * (a + l) ≤ 6 + r
six_times a l r h k = omega (arith, h, k)

nothing_times : 3 * 0 ≤ 0
nothing_times = omega arith

pub low_most : (n : ℕ) (b : BlockTree) → 3 * low_in n b ≤ each_room 6 b
low_most n T.nothing = nothing_times
low_most n (T.more m s rest) = six_times (low_at n s) (low_in n rest) (each_room 6 rest) (at_most_two n s) (low_most n rest)
