-- A core whose ends are ranks has a well-formed flat protocol.
use Rattle.std.proofs.Common.{◌≡◌, ◌<◌, ℕ, suc, ℤ, pos, ◌==◌, ◌+◌, ◌*◌, Bool, true, false, ◌&&◌, ◌||◌, not, cond, List, [], ◌∷◌, ◌++◌, length, if◌then◌else◌, nat_eq, nat_lt, refl, sym, ap, ap₂, ◌∙◌, subst, inl, inr, arith, lt-ltb}
use Rattle.std.proofs.lemmas.Bool.{eqb-true, not-false, and_from, and_parts, cases_Bool}
use Rattle.std.proofs.lemmas.Int.{ints}
use Rattle.std.specs.Ordering.{int_eq}
use Rattle.pb_affine.specs.Values.{value, range}
use Rattle.pb_core_language.specs.declared.protocol.CoreRole.{CoreRole}
use Rattle.pb_core_language.specs.declared.tree.CoreEnd.{CoreEnd}
use Rattle.pb_core_language.specs.Ranks.{Seat, seat_eq, seats, total, number_in}
use Rattle.pb_core_language.specs.Tree.{Mark, StmtTree, message, foreach, loop, again, choice, run, barrier, broadcast, reduce, allreduce, BlockTree, nothing, more, BranchTrees, no_branch, branch}
use Rattle.pb_core_language.specs.Flat as F
use Rattle.pb_core_language.specs.Flat.{Asked, Origin}
use Rattle.pb_core_language.specs.FlatOf.{seat, asked, for_each, between, from_one, from_two, flat_stmt, flat_block, flat_branches, flat}
use Rattle.pb_core_language.specs.Rules.{is_seat, each_origin, each_origin_among, strays, loners}
use Rattle.pb_core_endpoint.specs.Rules.{is_formed, are_formed}
use Rattle.pb_core_endpoint.specs.Core.{is_open, has_branch, is_scoped, are_scoped, branches_are_scoped}
use Rattle.pb_core_endpoint.proofs.Tests.{none_both, not_listed}

or_rest : (a b : Bool) → (a || b) ≡ true → a ≡ false → b ≡ true
or_rest false b h e = h
or_rest true b h e = cc

-- ---- seats and their numbers

int_same : (a b : ℤ) → int_eq a b ≡ true → a ≡ b
int_same a b h = grind (arith, ints)

seat_same : (a b : Seat) → seat_eq a b ≡ true → (a.role ≡ b.role) × (a.index ≡ b.index)
seat_same a b h = let hs = and_parts (nat_eq a.role b.role) (int_eq a.index b.index) h in (eqb-true a.role b.role hs.0, int_same a.index b.index hs.1)

-- two seats that are both a third
seat_meets : (a b c : Seat) → seat_eq a c ≡ true → seat_eq b c ≡ true → seat_eq a b ≡ true
seat_meets a b c x y =
    let p = seat_same b c y in
    ap₂ (λ u v. nat_eq a.role u && int_eq a.index v) p.0 p.1 ∙ x

number_less : (a : Seat) (xs : List Seat) → is_seat a xs ≡ true → number_in a xs < length xs
number_less a [] h = cc
number_less a (b ∷ bs) h =
    elim (cases_Bool (seat_eq a b)) [
      | inl y ↦ subst (λ k. k < suc (length bs)) (sym (ap (λ u. if u then 0 else suc (number_in a bs)) y)) (omega arith)
      | inr y ↦ subst (λ k. k < suc (length bs)) (sym (ap (λ u. if u then 0 else suc (number_in a bs)) y)) (let lt = number_less a bs (or_rest _ _ h y) in omega arith)
    ]

number_same : (a b : Seat) (xs : List Seat) → is_seat a xs ≡ true → is_seat b xs ≡ true → number_in a xs ≡ number_in b xs → seat_eq a b ≡ true
number_same a b [] h k e = cc
number_same a b (c ∷ cs) h k e =
    let num : Seat → Bool → ℕ = λ s u. if u then 0 else suc (number_in s cs) in
    elim (cases_Bool (seat_eq a c)) [
      | inl x ↦ elim (cases_Bool (seat_eq b c)) [
        | inl y ↦ seat_meets a b c x y
        | inr y ↦ (let no' : 0 ≡ suc (number_in b cs) = sym (ap (num a) x) ∙ e ∙ ap (num b) y in absurd (omega arith))
      ]
      | inr x ↦ elim (cases_Bool (seat_eq b c)) [
        | inl y ↦ (let no' : suc (number_in a cs) ≡ 0 = sym (ap (num a) x) ∙ e ∙ ap (num b) y in absurd (omega arith))
        | inr y ↦
            let more : suc (number_in a cs) ≡ suc (number_in b cs) = sym (ap (num a) x) ∙ e ∙ ap (num b) y in
            number_same a b cs (or_rest _ _ h x) (or_rest _ _ k y) (omega arith)
      ]
    ]

between_less : (id : ℕ) (xs : List ℕ) → is_open id xs ≡ true → between id xs < length xs
between_less id [] h = cc
between_less id (x ∷ xs) h =
    elim (cases_Bool (nat_eq id x)) [
      | inl y ↦ subst (λ k. k < suc (length xs)) (sym (ap (λ u. if u then 0 else suc (between id xs)) y)) (omega arith)
      | inr y ↦ subst (λ k. k < suc (length xs)) (sym (ap (λ u. if u then 0 else suc (between id xs)) y)) (let lt = between_less id xs (or_rest _ _ h y) in omega arith)
    ]

-- ---- what empty lists say

not_kept : {A : Type 0} (t : Bool) (x : A) (xs : List A) → cond t (x ∷ xs) xs ≡ [] → (t ≡ false) × (xs ≡ [])
not_kept true x xs h = cc
not_kept false x xs h = (refl, h)

module _ (roles : List CoreRole) (n : ℤ) where
  abbrev T : ℕ
  T = total roles n

  abbrev S : List Seat
  S = seats roles n

  -- no end asks for a seat that isn't there, and no message for one seat twice
  abbrev Clean : F.Block → Type 0
  Clean g = (each_origin (strays S) g ≡ []) × (each_origin loners g ≡ [])

  abbrev Clean_among : F.Branches → Type 0
  Clean_among bs = (each_origin_among (strays S) bs ≡ []) × (each_origin_among loners bs ≡ [])

  one_sits : (m : Mark) (e : CoreEnd) (i : ℤ) → strays S (from_one m e n i) ≡ [] → is_seat (seat e n i) S ≡ true
  one_sits m e i h = not-false _ (not_kept (not (is_seat (seat e n i) S)) _ [] h).0

  two_sit : (m : Mark) (f t : CoreEnd) (i : ℤ) → strays S (from_two m f t n i) ≡ [] → (is_seat (seat f n i) S ≡ true) × (is_seat (seat t n i) S ≡ true)
  two_sit m f t i h =
      let first = not_kept (not (is_seat (seat f n i) S)) _ (cond (not (is_seat (seat t n i) S)) (asked t (2 * m.number + 1) n i ∷ []) []) h in
      (not-false _ first.0, not-false _ (not_kept (not (is_seat (seat t n i) S)) _ [] first.1).0)

  rank_less : (e : CoreEnd) (i : ℤ) → is_seat (seat e n i) S ≡ true → nat_lt (number_in (seat e n i) S) T ≡ true
  rank_less e i h = lt-ltb _ _ (number_less (seat e n i) S h)

  ends_differ : (f t : CoreEnd) (i : ℤ) → is_seat (seat f n i) S ≡ true → is_seat (seat t n i) S ≡ true → seat_eq (seat f n i) (seat t n i) ≡ false → not (number_in (seat f n i) S == number_in (seat t n i) S) ≡ true
  ends_differ f t i hf ht ne =
      elim (cases_Bool (number_in (seat f n i) S == number_in (seat t n i) S)) [
        | inr y ↦ ap not y
        | inl y ↦ (let same = number_same (seat f n i) (seat t n i) S hf ht (eqb-true _ _ y) in let no' : true ≡ false = sym same ∙ ne in cc)
      ]

  some_count : (opens : List ℕ) (i : ℤ) (bs : BranchTrees) → has_branch bs ≡ true → nat_lt 0 (F.count (flat_branches roles n opens i bs)) ≡ true
  some_count opens i no_branch h = cc
  some_count opens i (branch m b bs) h = lt-ltb 0 (suc (F.count (flat_branches roles n opens i bs))) (omega arith)

  module _ (someone : nat_lt 0 T ≡ true) where
    -- what holds of the block of each number holds of all
    form_each : (d : ℕ) (xs : List ℤ) (f : ℤ → F.Block → F.Block) → ((x : ℤ) (rest : F.Block) → Clean (f x rest) → (Clean rest → is_formed T d rest ≡ true) → is_formed T d (f x rest) ≡ true) → (rest : F.Block) → Clean (for_each xs f rest) → (Clean rest → is_formed T d rest ≡ true) → is_formed T d (for_each xs f rest) ≡ true
    form_each d [] f each rest c k = k c
    form_each d (x ∷ xs) f each rest c k = each x (for_each xs f rest) c (λ c'. form_each d xs f each rest c' k)

    mutual
      form_stmt : (opens : List ℕ) (i : ℤ) (m : Mark) (s : StmtTree) (rest : F.Block) → is_scoped opens s ≡ true → Clean (flat_stmt roles n opens i m s rest) → (Clean rest → is_formed T (length opens) rest ≡ true) → is_formed T (length opens) (flat_stmt roles n opens i m s rest) ≡ true
      form_stmt opens i m (message l f t) rest h c k =
          let a = none_both (strays S (from_two m f t n i)) (each_origin (strays S) rest) c.0 in
          let b = none_both (loners (from_two m f t n i)) (each_origin loners rest) c.1 in
          let sit = two_sit m f t i a.0 in
          and_from _ _ (and_from _ _ (rank_less f i sit.0) (and_from _ _ (rank_less t i sit.1) (ends_differ f t i sit.0 sit.1 (not_listed _ _ b.0)))) (k (a.1, b.1))
      form_stmt opens i m (foreach x k' items) rest h c k =
          form_each (length opens) (range (value x.low n i) (value x.high n i)) (λ y. flat_block roles n opens y items) (λ y g d e. form_block opens y items g h d e) rest c k
      form_stmt opens i m (loop id k' body) rest h c k =
          let g = flat_block roles n (id ∷ opens) i body F.stop in
          let a = none_both (each_origin (strays S) g) (each_origin (strays S) rest) c.0 in
          let b = none_both (each_origin loners g) (each_origin loners rest) c.1 in
          and_from _ _ (form_block (id ∷ opens) i body F.stop h (a.0, b.0) (λ d. refl)) (k (a.1, b.1))
      form_stmt opens i m (again id) rest h c k = lt-ltb _ _ (between_less id opens h)
      form_stmt opens i m (choice j at bs) rest h c k =
          let gs = flat_branches roles n opens i bs in
          let hs = and_parts (has_branch bs) _ h in
          let a = none_both (strays S (from_one m at n i)) (each_origin_among (strays S) gs ++ each_origin (strays S) rest) c.0 in
          let a' = none_both (each_origin_among (strays S) gs) (each_origin (strays S) rest) a.1 in
          let b = none_both (each_origin_among loners gs) (each_origin loners rest) c.1 in
          and_from _ _ (and_from _ _ (rank_less at i (one_sits m at i a.0)) (some_count opens i bs hs.0)) (and_from _ _ (form_branches opens i bs hs.1 (a'.0, b.0)) (k (a'.1, b.1)))
      form_stmt opens i m (run j at) rest h c k =
          let a = none_both (strays S (from_one m at n i)) (each_origin (strays S) rest) c.0 in
          and_from _ _ (rank_less at i (one_sits m at i a.0)) (k (a.1, c.1))
      form_stmt opens i m barrier rest h c k = and_from _ _ someone (k c)
      form_stmt opens i m (broadcast l root) rest h c k =
          let a = none_both (strays S (from_one m root n i)) (each_origin (strays S) rest) c.0 in
          and_from _ _ someone (k (a.1, c.1))
      form_stmt opens i m (reduce l op root) rest h c k =
          let a = none_both (strays S (from_one m root n i)) (each_origin (strays S) rest) c.0 in
          and_from _ _ someone (k (a.1, c.1))
      form_stmt opens i m (allreduce l op) rest h c k = and_from _ _ someone (k c)

      form_block : (opens : List ℕ) (i : ℤ) (b : BlockTree) (rest : F.Block) → are_scoped opens b ≡ true → Clean (flat_block roles n opens i b rest) → (Clean rest → is_formed T (length opens) rest ≡ true) → is_formed T (length opens) (flat_block roles n opens i b rest) ≡ true
      form_block opens i nothing rest h c k = k c
      form_block opens i (more m s b) rest h c k =
          let hs = and_parts (is_scoped opens s) _ h in
          form_stmt opens i m s (flat_block roles n opens i b rest) hs.0 c (λ d. form_block opens i b rest hs.1 d k)

      form_branches : (opens : List ℕ) (i : ℤ) (bs : BranchTrees) → branches_are_scoped opens bs ≡ true → Clean_among (flat_branches roles n opens i bs) → are_formed T (length opens) (flat_branches roles n opens i bs) ≡ true
      form_branches opens i no_branch h c = refl
      form_branches opens i (branch m b bs) h c =
          let g = flat_block roles n opens i b F.stop in
          let gs = flat_branches roles n opens i bs in
          let hs = and_parts (are_scoped opens b) _ h in
          let x = none_both (each_origin (strays S) g) (each_origin_among (strays S) gs) c.0 in
          let y = none_both (each_origin loners g) (each_origin_among loners gs) c.1 in
          and_from _ _ (form_block opens i b F.stop hs.0 (x.0, y.0) (λ d. refl)) (form_branches opens i bs hs.1 (x.1, y.1))

pub formed_down : (roles : List CoreRole) (n : ℤ) (body : BlockTree) → nat_lt 0 (total roles n) ≡ true → are_scoped [] body ≡ true → each_origin (strays (seats roles n)) (flat roles n body) ≡ [] → each_origin loners (flat roles n body) ≡ [] → is_formed (total roles n) 0 (flat roles n body) ≡ true
formed_down roles n body someone h a b = form_block roles n someone [] (pos 0) body F.stop h (a, b) (λ d. refl)
