-- Where the rules on ends are kept, each end is a rank, and no message goes from a rank to itself.
use Rattle.std.proofs.Common.{◌≡◌, ℕ, zero, suc, ◌+◌, ◌*◌, cond, ℤ, pos, ◌+ℤ◌, ◌-ℤ◌, ◌≤ℤ◌, ◌<ℤ◌, Bool, true, false, ◌&&◌, not, nat_lt, nat_le, length, if◌then◌else◌, List, [], ◌∷◌, ◌++◌, map, ◌⊎◌, inl, inr, refl, sym, ◌∙◌, subst, arith}
use Rattle.std.proofs.lemmas.Int.{ints}
use Rattle.std.proofs.lemmas.Bool.{eq-eqb, and_parts}
use Rattle.pb_affine.specs.Values.{value, count_from, count_of}
use Rattle.pb_core_language.specs.declared.tree.CoreEnd.{CoreEnd}
use Rattle.pb_core_language.specs.Ranks.{Seat, seat_eq, seats}
use Rattle.pb_core_language.specs.Tree as T
use Rattle.pb_core_language.specs.Tree.{Mark, StmtTree, BlockTree, BranchTrees, is_again}
use Rattle.pb_core_language.specs.Plain.{Protocol}
use Rattle.pb_core_language.specs.Flat.{Asked, Block, stop, Branches}
use Rattle.pb_core_language.specs.FlatOf.{seat, asked, from_one, from_two, for_each, flat_stmt, flat_block, flat_branches}
use Rattle.pb_core_language.specs.Rules.{is_seat, each_origin, each_origin_among, strays, loners, somebody, flat_at, broken_6, broken_7, broken_8, broken_9, broken_10, broken_11, broken_12}
use Rattle.pb_core_language.specs.Sound.{is_end, is_bound, is_item, is_stmt, is_block, are_branches, has_branch, rows_of, are_roles, is_range}
use Rattle.pb_core_flat.proofs.Seats.{same_number}
use Rattle.pb_shape.specs.Straight.{IsEnd, IsItem, AreItems, IsFine, AreFine, BranchesAreFine}
use Rattle.pb_shape_straight.specs.Ends.{EndsAreFine}
use Rattle.pb_shape_straight.proofs.Passing.{never}

-- ---- lists without elements

first_none : {A : Type 0} (xs ys : List A) → xs ++ ys ≡ [] → xs ≡ []
first_none [] ys h = refl
first_none (x ∷ xs) ys h = cc

last_none : {A : Type 0} (xs ys : List A) → xs ++ ys ≡ [] → ys ≡ []
last_none [] ys h = h
last_none (x ∷ xs) ys h = cc

map_none : {A B : Type 0} (f : A → B) (xs : List A) → map f xs ≡ [] → xs ≡ []
map_none f [] h = refl
map_none f (x ∷ xs) h = cc

module _ (p : Protocol) (n : ℤ) where
  abbrev ranks : List Seat
  ranks = seats p.roles n

  -- nothing in the block breaks the rules on ends
  record IsClean (b : Block) : Type 0 where
    seated : each_origin (strays ranks) b ≡ []
    apart : each_origin loners b ≡ []

  record AreClean (bs : Branches) : Type 0 where
    seated : each_origin_among (strays ranks) bs ≡ []
    apart : each_origin_among loners bs ≡ []

  -- the ends of a statement, before the rest
  seated_first : (a : Asked) (others : List Asked) (m : Mark) → strays ranks (record { mark = m; ends = a ∷ others }) ≡ [] → is_seat a.seat ranks ≡ true
  seated_first a others m h = by (is_seat a.seat ranks) (strays ranks (record { mark = m; ends = others })) h
    where
      by : (b : Bool) (xs : List Asked) → cond (not b) (a ∷ xs) xs ≡ [] → b ≡ true
      by true xs h = refl
      by false xs h = cc

  seated_rest : (a : Asked) (others : List Asked) (m : Mark) → strays ranks (record { mark = m; ends = a ∷ others }) ≡ [] → strays ranks (record { mark = m; ends = others }) ≡ []
  seated_rest a others m h = by (is_seat a.seat ranks) (strays ranks (record { mark = m; ends = others })) h
    where
      by : (b : Bool) (xs : List Asked) → cond (not b) (a ∷ xs) xs ≡ [] → xs ≡ []
      by true xs h = h
      by false xs h = cc

  not_alike : (f t : Asked) (m : Mark) → loners (record { mark = m; ends = f ∷ t ∷ [] }) ≡ [] → seat_eq f.seat t.seat ≡ true → ⊥
  not_alike f t m h e = by (seat_eq f.seat t.seat) (record { mark = m; seat = f.seat }) h e
    where
      by : (b : Bool) (x : Asked) → (if b then x ∷ [] else []) ≡ [] → b ≡ true → ⊥
      by true x h e = cc
      by false x h e = never (sym e)

  -- a statement with one end
  record IsOne (varies : Bool) (i : ℤ) (e : CoreEnd) (rest : Block) : Type 0 where
    end : IsEnd p n varies i e
    clean : IsClean rest

  one_fine : (varies : Bool) (i : ℤ) (e : CoreEnd) (m : Mark) (rest : Block) → is_end (rows_of p) varies e ≡ true →
      strays ranks (from_one m e n i) ++ each_origin (strays ranks) rest ≡ [] → each_origin loners rest ≡ [] → IsOne varies i e rest
  one_fine varies i e m rest sound seated apart = record {
    end = record { sound = sound; is = seated_first (asked e (2 * m.number) n i) [] m (first_none (strays ranks (from_one m e n i)) (each_origin (strays ranks) rest) seated) };
    clean = record { seated = last_none (strays ranks (from_one m e n i)) (each_origin (strays ranks) rest) seated; apart = apart };
  }

  item_fine : (varies : Bool) (ids opens : List ℕ) (i : ℤ) (m : Mark) (s : StmtTree) (rest : Block) → is_item s ≡ true → is_stmt (rows_of p) varies ids s ≡ true →
      IsClean (flat_stmt p.roles n opens i m s rest) → IsItem p n varies i s × IsClean rest
  item_fine varies ids opens i m (T.message l f t) rest item sound clean =
      let ends = (and_parts (nat_lt l (rows_of p).labels) (is_end (rows_of p) varies f && is_end (rows_of p) varies t) sound).1 in
      let a = from_two m f t n i in
      let x = asked f (2 * m.number) n i in
      let y = asked t (2 * m.number + 1) n i in
      let stray = first_none (strays ranks a) (each_origin (strays ranks) rest) clean.seated in
      let lone = first_none (loners a) (each_origin loners rest) clean.apart in
      let one = seated_first x (y ∷ []) m stray in
      let two = seated_first y [] m (seated_rest x (y ∷ []) m stray) in (
        (
          record { sound = (and_parts (is_end (rows_of p) varies f) (is_end (rows_of p) varies t) ends).0; is = one },
          record { sound = (and_parts (is_end (rows_of p) varies f) (is_end (rows_of p) varies t) ends).1; is = two },
          λ e. not_alike x y m lone (sym (same_number ranks (seat f n i) (seat t n i) two) ∙ eq-eqb _ _ e),
        ),
        record { seated = last_none (strays ranks a) (each_origin (strays ranks) rest) clean.seated; apart = last_none (loners a) (each_origin loners rest) clean.apart },
      )
  item_fine varies ids opens i m (T.run k e) rest item sound clean =
      let h = one_fine varies i e m rest (and_parts (nat_lt k (rows_of p).kernels) (is_end (rows_of p) varies e) sound).1 clean.seated clean.apart in (h.end, h.clean)
  item_fine varies ids opens i m (T.foreach b k items) rest item sound clean = cc
  item_fine varies ids opens i m (T.loop id k body) rest item sound clean = cc
  item_fine varies ids opens i m (T.again id) rest item sound clean = cc
  item_fine varies ids opens i m (T.choice k at bs) rest item sound clean = cc
  item_fine varies ids opens i m T.barrier rest item sound clean = cc
  item_fine varies ids opens i m (T.broadcast l root) rest item sound clean = cc
  item_fine varies ids opens i m (T.reduce l op root) rest item sound clean = cc
  item_fine varies ids opens i m (T.allreduce l op) rest item sound clean = cc

  items_fine : (ids opens : List ℕ) (i : ℤ) (items : BlockTree) (rest : Block) → is_block (rows_of p) true ids items ≡ true →
      IsClean (flat_block p.roles n opens i items rest) → AreItems p n true i items × IsClean rest
  items_fine ids opens i T.nothing rest sound clean = (tt, clean)
  items_fine ids opens i (T.more m s items) rest sound clean =
      let st = is_stmt (rows_of p) true ids s in
      let bl = is_block (rows_of p) true ids items in
      let both = (and_parts (is_item s) (st && bl) sound).1 in
      let one = item_fine true ids opens i m s (flat_block p.roles n opens i items rest) (and_parts (is_item s) (st && bl) sound).0 (and_parts st bl both).0 clean in
      let others = items_fine ids opens i items rest (and_parts st bl both).1 one.1 in
      ((one.0, others.0), others.1)

  rounds_fine : (ids opens : List ℕ) (c : ℕ) (low : ℤ) (items : BlockTree) (rest : Block) → is_block (rows_of p) true ids items ≡ true →
      IsClean (for_each (count_from c low) (λ v. flat_block p.roles n opens v items) rest) → ((i : ℤ) → low ≤ℤ i → i <ℤ (low +ℤ pos c) → AreItems p n true i items) × IsClean rest
  rounds_fine ids opens zero low items rest sound clean = (λ i a b. absurd (omega (arith, ints, a, b)), clean)
  rounds_fine ids opens (suc c) low items rest sound clean =
      let one = items_fine ids opens low items (for_each (count_from c (low +ℤ pos 1)) (λ v. flat_block p.roles n opens v items) rest) sound clean in
      let others = rounds_fine ids opens c (low +ℤ pos 1) items rest sound one.1 in
      (λ i a b. elim (first_or low i a) [ inl e ↦ subst (λ v. AreItems p n true v items) e one.0 | inr h ↦ others.0 i h (omega (arith, ints, b)) ], others.1)
    where
      first_or : (low i : ℤ) → low ≤ℤ i → (low ≡ i) ⊎ ((low +ℤ pos 1) ≤ℤ i)
      first_or low i a = grind (arith, ints)

  counted : (low high i : ℤ) → low ≤ℤ i → i ≤ℤ high → i <ℤ (low +ℤ pos (count_of (high +ℤ pos 1 -ℤ low)))
  counted low high i a b = grind (arith, ints)

  -- a statement, and what is done behind it
  abbrev Behind : StmtTree → Block → Type 0
  Behind s rest = is_again s ≡ false → IsClean rest

  mutual
    stmt_fine : (ids opens : List ℕ) (m : Mark) (s : StmtTree) (rest : Block) → is_stmt (rows_of p) false ids s ≡ true →
        IsClean (flat_stmt p.roles n opens (pos 0) m s rest) → IsFine p n s × Behind s rest
    stmt_fine ids opens m (T.message l f t) rest sound clean = let h = item_fine false ids opens (pos 0) m (T.message l f t) rest refl sound clean in (h.0, λ e. h.1)
    stmt_fine ids opens m (T.run k at) rest sound clean = let h = item_fine false ids opens (pos 0) m (T.run k at) rest refl sound clean in (h.0, λ e. h.1)
    stmt_fine ids opens m (T.foreach b k items) rest sound clean =
        let low = value b.low n (pos 0) in let high = value b.high n (pos 0) in
        let bl = is_block (rows_of p) true ids items in
        let others = (and_parts (is_bound b.low) (is_bound b.high && bl) sound).1 in
        let h = rounds_fine ids opens (count_of (high +ℤ pos 1 -ℤ low)) low items rest (and_parts (is_bound b.high) bl others).1 clean in (
          record { low = (and_parts (is_bound b.low) (is_bound b.high && bl) sound).0; high = (and_parts (is_bound b.high) bl others).0; each = λ i x y. h.0 i x (counted low high i x y) },
          λ e. h.1,
        )
    stmt_fine ids opens m (T.loop id k body) rest sound clean =
        let inner = flat_block p.roles n (id ∷ opens) (pos 0) body stop in (
          block_fine (id ∷ ids) (id ∷ opens) body (and_parts (nat_lt (length ids) 64) (is_block (rows_of p) false (id ∷ ids) body) sound).1
              (record { seated = first_none (each_origin (strays ranks) inner) (each_origin (strays ranks) rest) clean.seated; apart = first_none (each_origin loners inner) (each_origin loners rest) clean.apart }),
          λ e. record { seated = last_none (each_origin (strays ranks) inner) (each_origin (strays ranks) rest) clean.seated; apart = last_none (each_origin loners inner) (each_origin loners rest) clean.apart },
        )
    stmt_fine ids opens m (T.again id) rest sound clean = (tt, λ e. absurd (never e))
    stmt_fine ids opens m (T.choice k at bs) rest sound clean =
        let among = has_branch bs && are_branches (rows_of p) ids bs in
        let ends = (and_parts (nat_lt k (rows_of p).kernels) (is_end (rows_of p) false at && among) sound).1 in
        let fs = flat_branches p.roles n opens (pos 0) bs in
        let seated_in = each_origin_among (strays ranks) fs in
        let apart_in = each_origin_among loners fs in
        let a = from_one m at n (pos 0) in
        let inner = last_none (strays ranks a) (seated_in ++ each_origin (strays ranks) rest) clean.seated in (
          (
            record {
              sound = (and_parts (is_end (rows_of p) false at) among ends).0;
              is = seated_first (asked at (2 * m.number) n (pos 0)) [] m (first_none (strays ranks a) (seated_in ++ each_origin (strays ranks) rest) clean.seated);
            },
            branches_fine ids opens bs (and_parts (has_branch bs) (are_branches (rows_of p) ids bs) (and_parts (is_end (rows_of p) false at) among ends).1).1
                (record { seated = first_none seated_in (each_origin (strays ranks) rest) inner; apart = first_none apart_in (each_origin loners rest) clean.apart }),
          ),
          λ e. record { seated = last_none seated_in (each_origin (strays ranks) rest) inner; apart = last_none apart_in (each_origin loners rest) clean.apart },
        )
    stmt_fine ids opens m T.barrier rest sound clean = (tt, λ e. record { seated = clean.seated; apart = clean.apart })
    stmt_fine ids opens m (T.broadcast l root) rest sound clean =
        let h = one_fine false (pos 0) root m rest (and_parts (nat_lt l (rows_of p).labels) (is_end (rows_of p) false root) sound).1 clean.seated clean.apart in (h.end, λ e. h.clean)
    stmt_fine ids opens m (T.reduce l op root) rest sound clean =
        let h = one_fine false (pos 0) root m rest (and_parts (nat_lt l (rows_of p).labels) (is_end (rows_of p) false root) sound).1 clean.seated clean.apart in (h.end, λ e. h.clean)
    stmt_fine ids opens m (T.allreduce l op) rest sound clean = (tt, λ e. record { seated = clean.seated; apart = clean.apart })

    block_fine : (ids opens : List ℕ) (b : BlockTree) → is_block (rows_of p) false ids b ≡ true → IsClean (flat_block p.roles n opens (pos 0) b stop) → AreFine p n b
    block_fine ids opens T.nothing sound clean = tt
    block_fine ids opens (T.more m s b) sound clean =
        let st = is_stmt (rows_of p) false ids s in
        let bl = is_block (rows_of p) false ids b in
        let h = stmt_fine ids opens m s (flat_block p.roles n opens (pos 0) b stop) (and_parts st bl sound).0 clean in
        (h.0, λ e. block_fine ids opens b (and_parts st bl sound).1 (h.1 e))

    branches_fine : (ids opens : List ℕ) (bs : BranchTrees) → are_branches (rows_of p) ids bs ≡ true → AreClean (flat_branches p.roles n opens (pos 0) bs) → BranchesAreFine p n bs
    branches_fine ids opens T.no_branch sound clean = tt
    branches_fine ids opens (T.branch m b bs) sound clean =
        let one = flat_block p.roles n opens (pos 0) b stop in
        let others = flat_branches p.roles n opens (pos 0) bs in
        let x = is_block (rows_of p) false ids b in
        let y = are_branches (rows_of p) ids bs in (
          block_fine ids opens b (and_parts x y sound).0
              (record { seated = first_none (each_origin (strays ranks) one) (each_origin_among (strays ranks) others) clean.seated; apart = first_none (each_origin loners one) (each_origin_among loners others) clean.apart }),
          branches_fine ids opens bs (and_parts x y sound).1
              (record { seated = last_none (each_origin (strays ranks) one) (each_origin_among (strays ranks) others) clean.seated; apart = last_none (each_origin loners one) (each_origin_among loners others) clean.apart }),
        )

pub ends_are_fine : EndsAreFine
ends_are_fine p n sound within none =
    let bl = is_block (rows_of p) false [] p.body.block in
    let others = (and_parts (is_range p.range) (nat_le (length p.roles) 64 && (are_roles p.roles && bl)) sound).1 in
    let body = (and_parts (are_roles p.roles) bl (and_parts (nat_le (length p.roles) 64) (are_roles p.roles && bl) others).1).1 in
    let eight_on = broken_8 p n ++ (broken_9 p n ++ (broken_10 p n ++ (broken_11 p n ++ broken_12 p n))) in
    let nine_on = broken_9 p n ++ (broken_10 p n ++ (broken_11 p n ++ broken_12 p n)) in
    let seven = last_none (broken_6 p n) (broken_7 p n ++ eight_on) none in
    let eight = last_none (broken_7 p n) eight_on seven in
    block_fine p n [] [] p.body.block body (record {
      seated = map_none (somebody 7) (each_origin (strays (seats p.roles n)) (flat_at p n)) (first_none (broken_7 p n) eight_on seven);
      apart = map_none (somebody 8) (each_origin loners (flat_at p n)) (first_none (broken_8 p n) nine_on eight);
    })
