-- The segments of a foreach.
use Rattle.std.proofs.Common.{◌≡◌, ◌<◌, ◌≤◌, ◌+◌, ◌*◌, max, ℕ, suc, ℤ, pos, ◌+ℤ◌, ◌-ℤ◌, int_le, int_lt, nat_eq, nat_lt, Bool, true, false, ◌&&◌, not, if◌then◌else◌, Some, None, List, [], ◌∷◌, ◌++◌, map, drop, get_or, length, refl, sym, ap, ◌∙◌, subst, drop_of_length-le, arith}
use Rattle.std.specs.Ordering.{int_eq}
use Rattle.std.proofs.lemmas.Int.{ints}
use Rattle.std.proofs.lemmas.List.{at_drop_more}
use Rattle.std.proofs.lemmas.Bool.{and_parts, false≢true, and_from, false_from_ne_true, not-true, or_left, or_right}
use Rattle.std.proofs.lemmas.Bool.Decides.{nat_tests}
use Rattle.std.proofs.Math.Bool.{or-false}
use Rattle.pb_affine.specs.declared.lin.Base.TheVariants.{Var}
use Rattle.pb_affine.specs.declared.lin.Lin.{Lin}
use Rattle.pb_affine.specs.declared.guard.Guard.{Guard}
use Rattle.pb_affine.specs.declared.range.NRange.{NRange}
use Rattle.pb_affine.specs.Values.{value, shifted, hold, holds, IsSmall}
use Rattle.pb_part_areas.specs.declared.area.Area.{Area}
use Rattle.pb_part_areas.specs.Areas.{have}
use Rattle.pb_core_language.specs.declared.protocol.CoreRole.{CoreRole}
use Rattle.pb_core_language.specs.declared.tree.CoreEnd.{CoreEnd}
use Rattle.pb_core_language.specs.declared.tree.CoreBlock.{CoreBlock, out-CoreBlock}
use Rattle.pb_core_language.specs.declared.tree.CoreStmt.{CoreStmt}
use Rattle.pb_core_language.specs.Plain.{plain_block, plain_stmt, block_of}
use Rattle.pb_core_language.specs.Plain.{Protocol}
use Rattle.pb_core_language.specs.Sound.{Rows, rows_of, is_end, is_small, is_bound, is_item, is_stmt, is_block}
use Rattle.pb_core_language.specs.Tree as T
use Rattle.pb_core_language.specs.Tree.{StmtTree, BlockTree}
use Rattle.pb_core_language.specs.declared.tree.Bounds.{Bounds}
use Rattle.pb_core_flat.specs.Meets.{is_var, is_moving, is_passed, is_met, meets, meet}
use Rattle.pb_core_flat.proofs.Sources.{over_n_is}
use Rattle.pb_part_takers.specs.Sums.{IsSum}
use Rattle.pb_part_takers.proofs.Among.{bound_parts, near}
use Rattle.pb_part_takers.proofs.EndAreas.{sum_is}
use Rattle.pb_core_language.proofs.Plains.{plain_list}
use Rattle.pb_local.specs.declared.stmt.Stmt.{Stmt}
use Rattle.pb_local.specs.Tree as L
use Rattle.pb_local.specs.Tree.{Code, Codes, Program, size, size_all, plain, plain_all, codes_of}
use Rattle.pb_local.specs.WellMade as W
use Rattle.pb_local.specs.WellMade.{IsMade, AreMade, IsGuard, AreGuards, behind, loops_at, loops_in}
use Rattle.pb_shape.specs.Sizes.{braces, braces_all}
use Rattle.pb_shape.specs.Tabled.{Goes, GoAll}
use Rattle.pb_project_piece.specs.Weights.{IsWeighed, IsSimple, IsTabledAs, AreFlat, each_room, count_in, segment_sum}
use Rattle.pb_project_piece.proofs.Weights.{weighed_two, weighed_less, weighed_none, flat_append, peer_made, one_guard, label_below, kernel_below, kind_is}
use Rattle.pb_shape.specs.Places.{Scope, Here, peer_of}
use Rattle.pb_shape.specs.Guards.{One}
use Rattle.pb_shape.specs.Segments.{is_at_offset, put, put_end, put_in, segment_code, segment_codes, in_segment, offsets, offsets_at, OfRole, Segments}
use Rattle.pb_project_piece.specs.declared.offsets.Off.{Off}
use Rattle.pb_project_piece.specs.Adding.{onto, Added}
use Rattle.pb_project_piece.specs.Seen.{Found, IsFound}
use Rattle.pb_project_piece.proofs.Brought.{segment_brought}
use Rattle.pb_project_piece.specs.Comers.{AreBounds}
use Rattle.pb_project_piece.specs.Standing.{Stands}
use Rattle.pb_project_piece.specs.Offsets.{off_of}
use Rattle.pb_project_piece.specs.Ones.{only_when}
use Rattle.pb_project_piece.specs.Segments.{IsCodes, IsApart, is_left, IsLeft, Offers, AllOffer, codes_in, IsCodesOf, IsSegmentOf, IsSegment, IsRoleSegments, AreSegments}
use Rattle.pb_project_piece.proofs.Added.{onto_append, onto_nothing, added_one, added_none, added_as, added_two}
use Rattle.pb_project_piece.proofs.Items.{drop_is}
use Rattle.pb_project_piece.proofs.Ones.{inside_range, outside_range, rank_is, few_at}
use Rattle.pb_project_piece.proofs.Counting.{spots, sum_at_most, low_in, low_next, low_most, codes_size, codes_braces, codes_loops}

-- ---- what an item is to a segment

pub put_one : (t b : Bool) (c : Code) (old new : List Stmt) (s : Stmt) → t ≡ b → t ≡ true → plain s ≡ c → new ≡ old ++ s ∷ [] → Added old new (IsCodes (put b c))
put_one t b c old new s is there made pushed =
    added_one (IsCodes (put b c)) old new s c pushed made (record { is = λ rest. ap (λ z. if z then L.more c rest else rest) (sym there ∙ is) })

pub put_none : (t b : Bool) (c : Code) (old : List Stmt) → t ≡ b → t ≡ false → Added old old (IsCodes (put b c))
put_none t b c old is gone = added_none (IsCodes (put b c)) old (record { is = λ rest. ap (λ z. if z then L.more c rest else rest) (sym gone ∙ is) })

pub two_codes : (f g : Codes → Codes) (old mid new : List Stmt) → Added old mid (IsCodes f) → Added mid new (IsCodes g) → Added old new (IsCodes (λ rest. f (g rest)))
two_codes f g old mid new a b = added_two (IsCodes f) (IsCodes g) (IsCodes (λ rest. f (g rest))) old mid new
    (λ p q x y. record { is = λ rest. onto_append p q rest ∙ x.is (onto q rest) ∙ ap f (y.is rest) }) a b

pub message_codes : (k : ℕ) (c : ℤ) (l : ℕ) (f t : CoreEnd) (sent received : Code) (old mid new : List Stmt) → sent ≡ L.send l (peer_of t) → received ≡ L.recv l (peer_of f) →
    Added old mid (IsCodes (put (is_at_offset k c f) sent)) → Added mid new (IsCodes (put (is_at_offset k c t) received)) → Added old new (IsCodes (segment_code k c (T.message l f t)))
message_codes k c l f t sent received old mid new e g a b =
    two_codes (put (is_at_offset k c f) (L.send l (peer_of t))) (put (is_at_offset k c t) (L.recv l (peer_of f))) old mid new
    (subst (λ z. Added old mid (IsCodes (put (is_at_offset k c f) z))) e a) (subst (λ z. Added mid new (IsCodes (put (is_at_offset k c t) z))) g b)

pub run_codes : (k : ℕ) (c : ℤ) (kernel : ℕ) (e : CoreEnd) (running : Code) (old new : List Stmt) → running ≡ L.run kernel →
    Added old new (IsCodes (put (is_at_offset k c e) running)) → Added old new (IsCodes (segment_code k c (T.run kernel e)))
run_codes k c kernel e running old new is a = subst (λ z. Added old new (IsCodes (put (is_at_offset k c e) z))) is a

-- ---- what the ranks of a segment do

pub record CodesSoFar (k : ℕ) (c : ℤ) (items : List CoreStmt) (i : ℕ) (list : List Stmt) : Type 0 where
  pub first : Code
  pub simple : IsSimple first
  pub exact : is_small c ≡ true → first ≡ L.own (pos 0 -ℤ c)
  pub is : onto (map plain list) (segment_codes k c (block_of (map plain_stmt (drop i items)))) ≡ L.more first (segment_codes k c (block_of (map plain_stmt items)))

pub codes_start : (k : ℕ) (c : ℤ) (items : List CoreStmt) (s : Stmt) (none list : List Stmt) → none ≡ [] → list ≡ none ++ s ∷ [] → (is_small c ≡ true → plain s ≡ L.own (pos 0 -ℤ c)) → IsSimple (plain s) → CodesSoFar k c items 0 list
codes_start k c items s none list empty is own simple = record {
  first = plain s;
  simple = simple;
  exact = own;
  is = ap (λ l. onto (map plain l) (segment_codes k c (block_of (map plain_stmt items)))) (is ∙ ap (λ l. l ++ s ∷ []) empty);
}

pub codes_step : (k : ℕ) (c : ℤ) (items : List CoreStmt) (i : ℕ) (x : CoreStmt) (old new : List Stmt) → i < length items → x ≡ get_or items i x →
    Added old new (IsCodes (segment_code k c (plain_stmt x).stmt)) → CodesSoFar k c items i old → CodesSoFar k c items (i + 1) new
codes_step k c items i x old new lt is a so_far =
    let rest : Codes = segment_codes k c (block_of (map plain_stmt (drop (i + 1) items))) in
    record {
      first = so_far.first;
      simple = so_far.simple;
      exact = so_far.exact;
      is = ap (λ l. onto l rest) a.is ∙ onto_append (map plain old) a.piece rest ∙ ap (onto (map plain old)) (a.has.is rest)
          ∙ ap (λ l. onto (map plain old) (segment_codes k c (block_of (map plain_stmt l)))) (sym (drop_is items i x lt is)) ∙ so_far.is;
    }

pub codes_done : (k : ℕ) (c : ℤ) (b : CoreBlock) (items : List CoreStmt) (i : ℕ) (list : List Stmt) → items ≡ (out-CoreBlock b).list.items → length items ≤ i →
    CodesSoFar k c items i list → IsCodesOf k c (plain_block b).block (plain_all list)
codes_done k c b items i list same le so_far = record {
  first = so_far.first;
  simple = so_far.simple;
  exact = so_far.exact;
  is = sym (onto_nothing (map plain list)) ∙ ap (λ l. onto (map plain list) (segment_codes k c (block_of (map plain_stmt l)))) (sym (drop_of_length-le items le)) ∙ so_far.is
      ∙ ap (λ l. L.more so_far.first (segment_codes k c (block_of (map plain_stmt l)))) same ∙ ap (λ z. L.more so_far.first (segment_codes k c z)) (sym (plain_list b));
}

-- ---- whose it is

hold_ints : (k role : ℕ) (x v w a b c : ℤ) → v ≡ a +ℤ c → w ≡ b +ℤ c → nat_eq role k && int_le v x && int_le x w && true && true ≡ nat_eq k role && (int_le (a +ℤ c) x && int_le x (b +ℤ c))
hold_ints k role x v w a b c e f = grind (arith, ints, nat_tests)

adding : (l : Lin) (c n : ℤ) → value (shifted l c) n (pos 0) ≡ value l n (pos 0) +ℤ c
adding l c n = omega (arith, ints)

value_moved : (l m : Lin) (c n i : ℤ) → IsSum l c m → is_bound l ≡ true → is_small c ≡ true → value m n i ≡ value l n (pos 0) +ℤ c
value_moved l m c n i s bound small =
    let z = bound_parts l bound in
    ap (λ y. value y n i) (sum_is l m c s z.1 small) ∙ over_n_is (shifted l c) n i (pos 0) z.0 ∙ adding l c n

pub guard_is : (k : ℕ) (c : ℤ) (over : Bounds) (low high : Lin) → IsSum over.low c low → IsSum over.high c high → (n i : ℤ) (role : ℕ) (x : ℤ) → AreBounds over → is_small c ≡ true →
    holds (record { role = k; low = Some low; high = Some high; from = None; to = None }) n i role x ≡ in_segment over k c n i role x
guard_is k c over low high sl sh n i role x bounds small =
    hold_ints k role x (value low n i) (value high n i) (value over.low n (pos 0)) (value over.high n (pos 0)) c (value_moved over.low low c n i sl bounds.0 small) (value_moved over.high high c n i sh bounds.1 small)

pub met_segment : (e : CoreEnd) (k : ℕ) (c lo hi n : ℤ) (role : ℕ) (x : ℤ) → e.role ≡ k → e.at.base ≡ Var → e.at.off ≡ c → is_met e lo hi n role x ≡ nat_eq k role && is_passed c lo hi x
met_segment e k c lo hi n role x r b o =
    ap (λ z. nat_eq z role && (if is_var e.at.base then is_passed e.at.off lo hi x else int_le lo hi && int_eq (value e.at n (pos 0)) x)) r
    ∙ ap (λ z. nat_eq k role && (if is_var z then is_passed e.at.off lo hi x else int_le lo hi && int_eq (value e.at n (pos 0)) x)) b
    ∙ ap (λ z. nat_eq k role && is_passed z lo hi x) o

small_sum : (a c : ℤ) → is_small a ≡ true → is_small c ≡ true → IsSmall (a +ℤ c)
small_sum a c h k =
    let x = near a h in
    let y = near c k in
    record { low = omega (arith, ints, x.low, y.low); high = omega (arith, ints, x.high, y.high) }

small_moved : (l m : Lin) (c : ℤ) → IsSum l c m → is_bound l ≡ true → is_small c ≡ true → IsSmall m.off
small_moved l m c s bound small =
    let z = bound_parts l bound in
    subst (λ y. IsSmall y.off) (sym (sum_is l m c s z.1 small)) (small_sum l.off c z.1 small)

pub guard_is_made : (k : ℕ) (c : ℤ) (over : Bounds) (low high : Lin) → IsSum over.low c low → IsSum over.high c high → (l : Program) → k < length l.roles → AreBounds over → is_small c ≡ true →
    IsGuard l (record { role = k; low = Some low; high = Some high; from = None; to = None })
guard_is_made k c over low high sl sh l within bounds small = record {
  role = within;
  small = record { low = small_moved over.low low c sl bounds.0 small; high = small_moved over.high high c sh bounds.1 small };
  from = tt;
  to = tt;
}

pub segment_made : (over : Bounds) (k : ℕ) (c : ℤ) (b : BlockTree) (g : Guard) (gs : List Guard) (first : List Stmt) (s : Stmt) → gs ≡ g ∷ [] →
    ((n i : ℤ) (role : ℕ) (x : ℤ) → AreBounds over → is_small c ≡ true → holds g n i role x ≡ in_segment over k c n i role x) →
    ((l : Program) → k < length l.roles → AreBounds over → is_small c ≡ true → IsGuard l g) →
    IsCodesOf k c b (plain_all first) → plain s ≡ only_when gs (plain_all first) → IsSegmentOf over b k c (plain s)
segment_made over k c b g gs first s one holding made codes is = record {
  guards = gs;
  codes = plain_all first;
  of = codes;
  is = is;
  hold_of = λ n i role x bounds small. ap (λ l. hold l n i role x) one ∙ or-false (holds g n i role x) ∙ holding n i role x bounds small;
  made = λ l within bounds small. subst (AreGuards l) (sym one) (one_guard l g (made l within bounds small));
}

-- ---- how large it is, and that it is made

segment_few : (c1 n codes : ℕ) → c1 ≡ 1 → codes ≡ c1 + n → suc (codes + 0) + 0 ≤ 2 + n
segment_few c1 n codes h e = omega (arith, h, e)

segment_shallow : (c1 n codes : ℕ) → c1 ≡ 0 → n ≡ 0 → codes ≡ max c1 n → max (suc (max codes 0)) 0 ≤ 1
segment_shallow c1 n codes h k e = omega (arith, h, k, e)

segment_none : (c1 n codes : ℕ) → c1 ≡ 0 → n ≡ 0 → codes ≡ c1 + n → (codes + 0) + 0 ≡ 0
segment_none c1 n codes h k e = omega (arith, h, k, e)

segment_weighed : (over : Bounds) (b : BlockTree) (k : ℕ) (c : ℤ) (code : Code) → IsSegmentOf over b k c code → IsWeighed (2 + count_in k c b) 1 (code ∷ [])
segment_weighed over b k c code s =
    subst (λ z. IsWeighed (2 + count_in k c b) 1 (z ∷ [])) (sym s.is) (record {
      few = segment_few (size s.of.first) (count_in k c b) (size_all s.codes) s.of.simple.one (ap size_all s.of.is ∙ ap (λ z. size s.of.first + z) (codes_size k c b));
      shallow = segment_shallow (braces s.of.first) (braces_all (segment_codes k c b)) (braces_all s.codes) s.of.simple.flat (codes_braces k c b) (ap braces_all s.of.is);
      none = segment_none (loops_at s.of.first) (loops_in (segment_codes k c b)) (loops_in s.codes) s.of.simple.none (codes_loops k c b) (ap loops_in s.of.is);
    })

back_ints : (c : ℤ) → is_small c ≡ true → IsSmall (pos 0 -ℤ c)
back_ints c h = let x = near c h in record { low = omega (arith, ints, x.high); high = omega (arith, ints, x.low) }

module _ (p : Protocol) (l : Program) (tabled : IsTabledAs p l) (k : ℕ) (c : ℤ) where
  put_made : (t : Bool) (x : Code) (rest : Codes) → ((at : W.Scope) → IsMade l at x) → ((at : W.Scope) → AreMade l at rest) → (at : W.Scope) → AreMade l at (put t x rest)
  put_made true x rest h r at = (h at, r (behind at (loops_at x)))
  put_made false x rest h r at = r at

  code_made : (s : StmtTree) (ids : List ℕ) (rest : Codes) → is_item s ≡ true → is_stmt (rows_of p) true ids s ≡ true → Goes p s → ((at : W.Scope) → AreMade l at rest) → (at : W.Scope) → AreMade l at (segment_code k c s rest)
  code_made (T.message lab f t) ids rest item sound goes r at =
      let three = and_parts (nat_lt lab (length p.labels)) (is_end (rows_of p) true f && is_end (rows_of p) true t) sound in
      let two = and_parts (is_end (rows_of p) true f) (is_end (rows_of p) true t) three.1 in
      let label = label_below p l lab tabled three.0 in
      put_made (is_at_offset k c f) (L.send lab (peer_of t)) (put (is_at_offset k c t) (L.recv lab (peer_of f)) rest) (λ s. (label, peer_made p l t tabled two.1))
      (put_made (is_at_offset k c t) (L.recv lab (peer_of f)) rest (λ s. (label, peer_made p l f tabled two.0)) r) at
  code_made (T.foreach b m items) ids rest item sound goes r at = r at
  code_made (T.loop id m body) ids rest item sound goes r at = r at
  code_made (T.again id) ids rest item sound goes r at = r at
  code_made (T.choice kernel e bs) ids rest item sound goes r at = r at
  code_made (T.run kernel e) ids rest item sound goes r at =
      let two = and_parts (nat_lt kernel (length p.kernels)) (is_end (rows_of p) true e) sound in
      put_made (is_at_offset k c e) (L.run kernel) rest (λ s. (kernel_below p l kernel tabled two.0, kind_is p l kernel tabled goes)) r at
  code_made T.barrier ids rest item sound goes r at = r at
  code_made (T.broadcast lab root) ids rest item sound goes r at = r at
  code_made (T.reduce lab op root) ids rest item sound goes r at = r at
  code_made (T.allreduce lab op) ids rest item sound goes r at = r at

  codes_made : (b : BlockTree) (ids : List ℕ) → is_block (rows_of p) true ids b ≡ true → GoAll p b → (at : W.Scope) → AreMade l at (segment_codes k c b)
  codes_made T.nothing ids sound goes at = tt
  codes_made (T.more m s rest) ids sound goes at =
      let a = and_parts (is_item s) (is_stmt (rows_of p) true ids s && is_block (rows_of p) true ids rest) sound in
      let z = and_parts (is_stmt (rows_of p) true ids s) (is_block (rows_of p) true ids rest) a.1 in
      code_made s ids (segment_codes k c rest) a.0 z.0 goes.0 (codes_made rest ids z.1 goes.1) at

  segment_flat : (over : Bounds) (b : BlockTree) (code : Code) (ids : List ℕ) → IsSegmentOf over b k c code → k < length l.roles → AreBounds over → is_small c ≡ true → is_block (rows_of p) true ids b ≡ true → GoAll p b →
      AreFlat l (code ∷ [])
  segment_flat over b code ids s within bounds small sound goes =
      subst (λ z. AreFlat l (z ∷ [])) (sym s.is) (
        λ at. (
          s.made l within bounds small,
          subst (AreMade l at) (sym (s.of.is ∙ ap (λ z. L.more z (segment_codes k c b)) (s.of.exact small)))
              (back_ints c small, codes_made b ids sound goes (behind at 0)),
          tt,
        ),
        tt,
      )

-- ---- the `If`

module _ (range : NRange) (roles : ℕ) (whole : List Area) (over : Bounds) (less : List Area) (b : BlockTree) (k : ℕ) (c : ℤ) where
  pub segment_there : (t : Bool) (old new : List Stmt) (s : Stmt) → IsLeft range whole over k c less t → t ≡ true → IsSegmentOf over b k c (plain s) → new ≡ old ++ s ∷ [] →
      Added old new (IsSegment range roles whole over less b k c)
  segment_there t old new s left so made pushed =
      let there : IsLeft range whole over k c less true = subst (IsLeft range whole over k c less) so left in
      added_one (IsSegment range roles whole over less b k c) old new s (plain s) pushed refl (record {
        is = λ sc h stands apart bounds small offers.
            let r : Found range whole (λ n role x. is_left over k c less n role x) = there.is bounds small in
            let both = and_parts (in_segment over k c r.n (pos 0) r.role r.index) (not (have less r.n r.role r.index)) r.there in
            let within = outside_range range roles whole sc stands r.n r.within in
            let rank = sym (rank_is range roles whole sc stands r.n r.role r.index r.within) ∙ r.rank in
            record {
              one = λ tail. subst (λ z. One sc h (in_segment over k c) (codes_in k c b) tail (L.more z tail)) (sym (made.is ∙ ap (only_when made.guards) (made.of.is ∙ ap (λ z. L.more z (segment_codes k c b)) (made.of.exact small))))
                  (One.there (λ n i role x within rank at. made.hold_of n i role x bounds small) (record {
                    n = r.n;
                    i = pos 0;
                    role = r.role;
                    index = r.index;
                    within = within;
                    few = few_at range roles whole sc stands (λ n role x. is_left over k c less n role x) r (λ le.
                        and_from _ _ (sym (segment_brought over k c bounds.0 bounds.1 small r.n r.role r.index le) ∙ both.0) (ap not (sym (apart.steady r.n r.role r.index le)) ∙ both.1));
                    rank = rank;
                    at = apart.at r.n (pos 0);
                    comes = apart.come r.n (pos 0) r.role r.index within rank (offers r.n (pos 0) r.role r.index both.0) (not-true (have less r.n r.role r.index) both.1);
                    is = both.0;
                  }));
            };
        weighed = segment_weighed over b k c (plain s) made;
        made = λ p l ids tabled within bounds small sound goes. segment_flat p l tabled k c over b (plain s) ids made within bounds small sound goes;
      })

  pub segment_gone : (t : Bool) (old : List Stmt) → IsLeft range whole over k c less t → t ≡ false → Added old old (IsSegment range roles whole over less b k c)
  segment_gone t old left so =
      let gone : IsLeft range whole over k c less false = subst (IsLeft range whole over k c less) so left in
      added_none (IsSegment range roles whole over less b k c) old (record {
        is = λ sc h stands apart bounds small offers.
            let none : IsFound range whole (λ n role x. is_left over k c less n role x) false = gone.is bounds small in
            record {
              one = λ tail. One.gone (λ n i role x within rank at comes.
                  let w = inside_range range roles whole sc stands n within in
                  false_from_ne_true (in_segment over k c n i role x) (λ met.
                  false≢true (sym (none n role x w (rank_is range roles whole sc stands n role x w ∙ rank)) ∙ and_from _ _ met (ap not (apart.comes n i role x within rank comes)))));
            };
        weighed = weighed_none (2 + count_in k c b) 1;
        made = λ p l ids tabled within bounds small sound goes. tt;
      })

-- ---- a role's segments

-- the offsets are small
abbrev are_small : List ℤ → Bool
are_small [] = true
are_small (d ∷ ds) = is_small d && are_small ds

if_small : (t : Bool) (a b : List ℤ) → are_small a ≡ true → are_small b ≡ true → are_small (if t then a else b) ≡ true
if_small true a b h k = h
if_small false a b h k = k

small_in : (c : ℤ) (ds : List ℤ) → is_small c ≡ true → are_small ds ≡ true → are_small (put_in c ds) ≡ true
small_in c [] h k = and_from _ _ h refl
small_in c (d ∷ ds) h k =
    let z = and_parts (is_small d) (are_small ds) k in
    if_small (int_lt d c) (c ∷ d ∷ ds) (if int_lt c d then d ∷ put_in c ds else d ∷ ds) (and_from _ _ h k)
    (if_small (int_lt c d) (d ∷ put_in c ds) (d ∷ ds) (and_from _ _ z.0 (small_in c ds h z.1)) k)

small_end : (k : ℕ) (rows : Rows) (e : CoreEnd) (ds : List ℤ) → is_end rows true e ≡ true → are_small ds ≡ true → are_small (put_end k e ds) ≡ true
small_end k rows e ds h s =
    if_small (nat_eq k e.role && is_var e.at.base) (put_in e.at.off ds) ds (small_in e.at.off ds (and_parts (nat_lt e.role rows.roles) (is_small e.at.off) h).1 s) s

small_at : (k : ℕ) (rows : Rows) (ids : List ℕ) (s : StmtTree) (ds : List ℤ) → is_item s ≡ true → is_stmt rows true ids s ≡ true → are_small ds ≡ true → are_small (offsets_at k s ds) ≡ true
small_at k rows ids (T.message l f t) ds i h s =
    let z = and_parts (is_end rows true f) (is_end rows true t) (and_parts (nat_lt l rows.labels) _ h).1 in
    small_end k rows f (put_end k t ds) z.0 (small_end k rows t ds z.1 s)
small_at k rows ids (T.foreach b m items) ds i h s = s
small_at k rows ids (T.loop id m body) ds i h s = s
small_at k rows ids (T.again id) ds i h s = s
small_at k rows ids (T.choice kernel at bs) ds i h s = s
small_at k rows ids (T.run kernel at) ds i h s = small_end k rows at ds (and_parts (nat_lt kernel rows.kernels) (is_end rows true at) h).1 s
small_at k rows ids T.barrier ds i h s = s
small_at k rows ids (T.broadcast l root) ds i h s = s
small_at k rows ids (T.reduce l op root) ds i h s = s
small_at k rows ids (T.allreduce l op) ds i h s = s

small_offsets : (k : ℕ) (rows : Rows) (ids : List ℕ) (b : BlockTree) → is_block rows true ids b ≡ true → are_small (offsets k b) ≡ true
small_offsets k rows ids T.nothing h = refl
small_offsets k rows ids (T.more m s rest) h =
    let a = and_parts (is_item s) (is_stmt rows true ids s && is_block rows true ids rest) h in
    let z = and_parts (is_stmt rows true ids s) (is_block rows true ids rest) a.1 in
    small_at k rows ids s (offsets k rest) a.0 z.0 (small_offsets k rows ids rest z.1)

-- the ranks of each segment are at an end of the items for some value of the variable

at_offset : (r k role : ℕ) (m p q : Bool) → nat_eq k r && m ≡ true → nat_eq k role && p ≡ true → nat_eq r role && (if m then p else q) ≡ true
at_offset r k role true p q a b = grind (arith, nat_tests, a, b)
at_offset r k role false p q a b = grind (arith, nat_tests, a, b)

module _ (over : Bounds) (k : ℕ) (all : BlockTree) where
  offer_if : (t : Bool) (a b : List ℤ) → AllOffer over all k a → AllOffer over all k b → AllOffer over all k (if t then a else b)
  offer_if true a b h g = h
  offer_if false a b h g = g

  offer_in : (c : ℤ) (ds : List ℤ) → Offers over all k c → AllOffer over all k ds → AllOffer over all k (put_in c ds)
  offer_in c [] h g = (h, tt)
  offer_in c (d ∷ ds) h g =
      offer_if (int_lt d c) (c ∷ d ∷ ds) (if int_lt c d then d ∷ put_in c ds else d ∷ ds) (h, g)
      (offer_if (int_lt c d) (d ∷ put_in c ds) (d ∷ ds) (g.0, offer_in c ds h g.1) g)

  offer_end : (e : CoreEnd) (ds : List ℤ) → ((low high n : ℤ) (role : ℕ) (x : ℤ) → is_met e low high n role x ≡ true → meet all low high n role x ≡ true) → AllOffer over all k ds → AllOffer over all k (put_end k e ds)
  offer_end e ds h g = at (nat_eq k e.role && is_moving e) refl
    where
      at : (t : Bool) → nat_eq k e.role && is_moving e ≡ t → AllOffer over all k (if t then put_in e.at.off ds else ds)
      at true y =
          offer_in e.at.off ds
          (λ n i role x seg.
          h (value over.low n (pos 0)) (value over.high n (pos 0)) n role x
          (at_offset e.role k role (is_moving e) (is_passed e.at.off (value over.low n (pos 0)) (value over.high n (pos 0)) x) (int_le (value over.low n (pos 0)) (value over.high n (pos 0)) && int_eq (value e.at n (pos 0)) x) y seg)) g
      at false y = g

  offer_at : (s : StmtTree) (ds : List ℤ) → ((low high n : ℤ) (role : ℕ) (x : ℤ) → meets s low high n role x ≡ true → meet all low high n role x ≡ true) → AllOffer over all k ds → AllOffer over all k (offsets_at k s ds)
  offer_at (T.message l f t) ds h g =
      offer_end f (put_end k t ds) (λ low high n role x m. h low high n role x (or_left _ _ m)) (offer_end t ds (λ low high n role x m. h low high n role x (or_right _ _ m)) g)
  offer_at (T.foreach b m items) ds h g = g
  offer_at (T.loop id m body) ds h g = g
  offer_at (T.again id) ds h g = g
  offer_at (T.choice kernel at bs) ds h g = g
  offer_at (T.run kernel at) ds h g = offer_end at ds h g
  offer_at T.barrier ds h g = g
  offer_at (T.broadcast l root) ds h g = g
  offer_at (T.reduce l op root) ds h g = g
  offer_at (T.allreduce l op) ds h g = g

  all_offer : (b : BlockTree) → ((low high n : ℤ) (role : ℕ) (x : ℤ) → meet b low high n role x ≡ true → meet all low high n role x ≡ true) → AllOffer over all k (offsets k b)
  all_offer T.nothing h = tt
  all_offer (T.more m s rest) h = offer_at s (offsets k rest) (λ low high n role x t. h low high n role x (or_left _ _ t)) (all_offer rest (λ low high n role x t. h low high n role x (or_right _ _ t)))

-- a list with one more in front
record IsMore (all rest : List CoreRole) : Type 0 where
  first : CoreRole
  is : all ≡ first ∷ rest

none_below : (k : ℕ) → k < 0 → ⊥
none_below k lt = omega (arith, lt)

left_over : (list : List CoreRole) (k : ℕ) → k < length list → IsMore (drop k list) (drop (k + 1) list)
left_over [] k lt = absurd (none_below k lt)
left_over (r ∷ rs) k lt = record { first = get_or (r ∷ rs) k r; is = at_drop_more (λ l. l) (r ∷ rs) k r lt }

nothing_left : (n : ℕ) → 0 + n ≤ n
nothing_left n = omega arith

left_after : (used more rest now all : ℕ) → used + now ≤ all → now ≡ more + rest → (used + more) + rest ≤ all
left_after used more rest now all h e = omega (arith, h, e)

left_over_is : (used now all : ℕ) → used + now ≤ all → used ≤ all
left_over_is used now all h = omega (arith, h)

one_one : 1 ≤ 1
one_one = omega arith

one_more_role : (a s n m : ℕ) → s ≤ 3 * n → m ≡ a + n → 3 * a + s ≤ 3 * m
one_more_role a s n m h e = omega (arith, h, e)

no_role : (a : ℕ) → a ≡ 0 → 0 ≤ 3 * a
no_role a h = omega arith

module _ (range : NRange) (roles : ℕ) (whole : List Area) (over : Bounds) (less : List Area) (b : BlockTree) where
  -- the piece has the segments of the first i offsets
  pub record OffsSoFar (k : ℕ) (offs : List Off) (i : ℕ) (piece : List Code) : Type 0 where
    pub is : (sc : Scope) (h : Here) → Stands range roles whole sc → IsApart over b less sc h → AreBounds over → are_small (map off_of offs) ≡ true → AllOffer over b k (map off_of offs) →
        (are_small (map off_of (drop i offs)) ≡ true) × AllOffer over b k (map off_of (drop i offs)) × ((tail codes : Codes) → OfRole sc h over b k tail (map off_of (drop i offs)) codes → OfRole sc h over b k tail (map off_of offs) (onto piece codes))
    pub used : ℕ
    pub weighed : IsWeighed used 1 piece
    pub left : used + segment_sum k b (map off_of (drop i offs)) ≤ segment_sum k b (map off_of offs)
    pub made : (p : Protocol) (l : Program) (ids : List ℕ) → IsTabledAs p l → k < length l.roles → AreBounds over → is_block (rows_of p) true ids b ≡ true → GoAll p b → are_small (map off_of offs) ≡ true →
        AreFlat l piece × (are_small (map off_of (drop i offs)) ≡ true)

  pub offs_start : (k : ℕ) (offs : List Off) (old : List Stmt) → Added old old (OffsSoFar k offs 0)
  offs_start k offs old = added_none (OffsSoFar k offs 0) old (record {
    is = λ sc h stands apart bounds small offer. (small, offer, λ tail codes z. z);
    used = 0;
    weighed = weighed_none 0 1;
    left = nothing_left (segment_sum k b (map off_of offs));
    made = λ p l ids tabled within bounds sound goes small. (tt, small);
  })

  pub offs_step : (k : ℕ) (offs : List Off) (i : ℕ) (d : Off) (role : ℕ) (c : ℤ) (old mid new : List Stmt) → i < length offs → role ≡ k → c ≡ (get_or offs i d).off →
      Added mid new (IsSegment range roles whole over less b role c) → Added old mid (OffsSoFar k offs i) → Added old new (OffsSoFar k offs (i + 1))
  offs_step k offs i d role c old mid new lt role_is off_is a so_far =
      let next : drop i offs ≡ get_or offs i d ∷ drop (i + 1) offs = at_drop_more (λ l. l) offs i d lt in
      let one : Added mid new (IsSegment range roles whole over less b k (get_or offs i d).off) =
      subst (λ z. Added mid new (IsSegment range roles whole over less b k z)) off_is (subst (λ z. Added mid new (IsSegment range roles whole over less b z c)) role_is a) in
      added_two (OffsSoFar k offs i) (IsSegment range roles whole over less b k (get_or offs i d).off) (OffsSoFar k offs (i + 1)) old mid new
      (λ p q x y. record {
        is = λ sc h stands apart bounds small offer.
            let z = x.is sc h stands apart bounds small offer in
            let parts = and_parts (is_small (get_or offs i d).off) (are_small (map off_of (drop (i + 1) offs))) (ap (λ l. are_small (map off_of l)) (sym next) ∙ z.0) in
            let offers : Offers over b k (get_or offs i d).off × AllOffer over b k (map off_of (drop (i + 1) offs)) = subst (λ l. AllOffer over b k (map off_of l)) next z.1 in
            let segment = y.is sc h stands apart bounds parts.0 offers.0 in (
              parts.1,
              offers.1,
              λ tail codes w. subst (OfRole sc h over b k tail (map off_of offs)) (sym (onto_append p q codes))
                  (z.2 tail (onto q codes) (subst (λ l. OfRole sc h over b k tail (map off_of l) (onto q codes)) (sym next) (OfRole.segment (segment.one codes) w))),
            );
        used = x.used + (2 + count_in k (get_or offs i d).off b);
        weighed = weighed_two x.used (2 + count_in k (get_or offs i d).off b) 1 p q x.weighed y.weighed;
        left = left_after x.used (2 + count_in k (get_or offs i d).off b) (segment_sum k b (map off_of (drop (i + 1) offs))) (segment_sum k b (map off_of (drop i offs))) (segment_sum k b (map off_of offs))
            x.left (ap (λ l. segment_sum k b (map off_of l)) next);
        made = λ pr l ids tabled within bounds sound goes small.
            let z = x.made pr l ids tabled within bounds sound goes small in
            let parts = and_parts (is_small (get_or offs i d).off) (are_small (map off_of (drop (i + 1) offs))) (ap (λ l. are_small (map off_of l)) (sym next) ∙ z.1) in
            (flat_append l p q z.0 (y.made pr l ids tabled within bounds parts.0 sound goes), parts.1);
      }) so_far one

  pub offs_done : (k : ℕ) (offs : List Off) (i : ℕ) (old new : List Stmt) → length offs ≤ i → map off_of offs ≡ offsets k b → Added old new (OffsSoFar k offs i) → Added old new (IsRoleSegments range roles whole over less b k)
  offs_done k offs i old new le all a = added_as (OffsSoFar k offs i) (IsRoleSegments range roles whole over less b k) old new
      (λ p x. record {
        is = λ sc h rows ids stands apart bounds sound tail.
            let z = x.is sc h stands apart bounds (ap are_small all ∙ small_offsets k rows ids b sound) (subst (AllOffer over b k) (sym all) (all_offer over k b b (λ low high n role x h. h))) in
            subst (λ l. OfRole sc h over b k tail l (onto p tail)) all (z.2 tail tail (subst (λ l. OfRole sc h over b k tail (map off_of l) tail) (sym (drop_of_length-le offs le)) OfRole.none));
        weighed = subst (λ l. IsWeighed (segment_sum k b l) 1 p) all
            (weighed_less x.used (segment_sum k b (map off_of offs)) 1 1 p (left_over_is x.used (segment_sum k b (map off_of (drop i offs))) (segment_sum k b (map off_of offs)) x.left) one_one x.weighed);
        made = λ pr l ids tabled within bounds sound goes. (x.made pr l ids tabled within bounds sound goes (ap are_small all ∙ small_offsets k (rows_of pr) ids b sound)).0;
      }) a

  -- the piece has the segments of the first k roles
  pub record RolesSoFar (k : ℕ) (piece : List Code) : Type 0 where
    pub is : (sc : Scope) (h : Here) (rows : Rows) (ids : List ℕ) → Stands range roles whole sc → IsApart over b less sc h → AreBounds over → is_block rows true ids b ≡ true →
        (tail codes : Codes) → Segments sc h over b tail k (drop k sc.roles) codes → Segments sc h over b tail 0 sc.roles (onto piece codes)
    pub weighed : IsWeighed (3 * low_in k b) 1 piece
    pub made : (p : Protocol) (l : Program) (ids : List ℕ) → IsTabledAs p l → roles ≡ length l.roles → AreBounds over → is_block (rows_of p) true ids b ≡ true → GoAll p b → AreFlat l piece

  pub roles_start : (old : List Stmt) → Added old old (RolesSoFar 0)
  roles_start old = added_none (RolesSoFar 0) old (record {
    is = λ sc h rows ids stands apart bounds sound tail codes z. z;
    weighed = weighed_none (3 * low_in 0 b) 1;
    made = λ p l ids tabled same bounds sound goes. tt;
  })

  some_role : (sc : Scope) (h : Here) (tail now codes : Codes) (k : ℕ) (all rest : List CoreRole) → OfRole sc h over b k codes (offsets k b) now →
      Segments sc h over b tail (suc k) rest codes → IsMore all rest → Segments sc h over b tail k all now
  some_role sc h tail now codes k all rest first later left = subst (λ l. Segments sc h over b tail k l now) (sym left.is) (Segments.of_role first later)

  -- the segments of role k, and those of the roles after it
  roles_next : (sc : Scope) (h : Here) (tail now codes : Codes) (k : ℕ) → k < length sc.roles → OfRole sc h over b k codes (offsets k b) now →
      Segments sc h over b tail (suc k) (drop (k + 1) sc.roles) codes → Segments sc h over b tail k (drop k sc.roles) now
  roles_next sc h tail now codes k lt first rest = some_role sc h tail now codes k (drop k sc.roles) (drop (k + 1) sc.roles) first rest (left_over sc.roles k lt)

  one_more : (k : ℕ) → k + 1 ≡ suc k
  one_more k = omega arith

  pub roles_step : (k : ℕ) (old mid new : List Stmt) → k < roles → Added mid new (IsRoleSegments range roles whole over less b k) → Added old mid (RolesSoFar k) → Added old new (RolesSoFar (k + 1))
  roles_step k old mid new lt a so_far =
      added_two (RolesSoFar k) (IsRoleSegments range roles whole over less b k) (RolesSoFar (k + 1)) old mid new
      (λ p q x y. record {
        is = λ sc h rows ids stands apart bounds sound tail codes z.
            let within : k < length sc.roles = subst (λ m. k < m) stands.roles_is lt in
            subst (Segments sc h over b tail 0 sc.roles) (sym (onto_append p q codes))
            (x.is sc h rows ids stands apart bounds sound tail (onto q codes)
            (roles_next sc h tail (onto q codes) codes k within (y.is sc h rows ids stands apart bounds sound codes) (subst (λ m. Segments sc h over b tail m (drop (k + 1) sc.roles) codes) (one_more k) z)));
        weighed = weighed_less (3 * low_in k b + segment_sum k b (offsets k b)) (3 * low_in (k + 1) b) 1 1 (p ++ q)
            (one_more_role (low_in k b) (segment_sum k b (offsets k b)) (length (spots k b)) (low_in (k + 1) b) (sum_at_most k b) (low_next k b)) one_one
            (weighed_two (3 * low_in k b) (segment_sum k b (offsets k b)) 1 p q x.weighed y.weighed);
        made = λ pr l ids tabled same bounds sound goes.
            flat_append l p q (x.made pr l ids tabled same bounds sound goes) (y.made pr l ids tabled (subst (λ m. k < m) same lt) bounds sound goes);
      }) so_far a

  pub roles_done : (k : ℕ) (old new : List Stmt) → roles ≤ k → Added old new (RolesSoFar k) → Added old new (AreSegments range roles whole over less b)
  roles_done k old new le a = added_as (RolesSoFar k) (AreSegments range roles whole over less b) old new
      (λ p x. record {
        are = λ sc h rows ids stands apart bounds sound tail.
            x.is sc h rows ids stands apart bounds sound tail tail
            (subst (λ l. Segments sc h over b tail k l tail) (sym (drop_of_length-le sc.roles (subst (λ m. m ≤ k) stands.roles_is le))) Segments.none);
        weighed = weighed_less (3 * low_in k b) (each_room 6 b) 1 1 p (low_most k b) one_one x.weighed;
        made = x.made;
      }) a
