-- The areas of ends fit the cuts of a file.
use Rattle.std.proofs.Common.{◌≡◌, ◌<◌, ℕ, zero, suc, ℤ, pos, ◌+ℤ◌, Bool, true, false, if◌then◌else◌, Some, None, List, [], ◌∷◌, ◌++◌, map, length, get_or, int_le, refl, ap, sym, ◌∙◌, subst, arith}
use Rattle.std.specs.List.{Contains}
use Rattle.std.proofs.lemmas.Int.{ints}
use Rattle.std.proofs.lemmas.Bool.{false≢true}
use Rattle.pb_affine.specs.declared.lin.Base.{Base}
use Rattle.pb_affine.specs.declared.lin.Base.TheVariants.{Fixed, Param, Var}
use Rattle.pb_affine.specs.declared.lin.Lin.{Lin}
use Rattle.pb_affine.specs.declared.range.NRange.{NRange}
use Rattle.pb_affine.specs.Values.{shifted}
use Rattle.pb_core_language.specs.declared.tree.CoreEnd.{CoreEnd}
use Rattle.pb_core_language.specs.Cuts.{edges, end_cuts, lin_cuts, moving, stmt_cuts, block_cuts}
use Rattle.pb_core_language.specs.Sound.{is_small, is_over_n}
use Rattle.pb_core_language.specs.Tree.{StmtTree, message, foreach, loop, again, choice, run, barrier, broadcast, reduce, allreduce, BlockTree, nothing, more}
use Rattle.pb_core_language.specs.declared.tree.Bounds.{Bounds}
use Rattle.pb_part_areas.specs.declared.area.Area.{Area}
use Rattle.pb_part_areas.specs.Fits.{Fits, IsCutOf}
use Rattle.pb_part_areas.proofs.Meets.{zero_edge}
use Rattle.pb_core_flat.specs.Meets.{is_moving, is_var}
use Rattle.pb_core_flat.specs.Stops as S
use Rattle.pb_core_flat.specs.Stops.{visits, visits_of, put_behind, off_of}
use Rattle.pb_part_takers.specs.Pieces.{AreAmong}
use Rattle.pb_part_takers.proofs.Among.{near, cut_of, over_base, end_still, end_moving, end_alike, among_left, among_right}
use Rattle.pb_part_visits.specs.declared.visit.Visit.{Visit}
use Rattle.pb_part_visits.specs.Visits.{is_small_off}
use Rattle.pb_part_visits.specs.Visits.{visit_of, IsBounded, VisitsAmong, MoversAmong}
use Rattle.pb_part_visits.proofs.VisitLists.{blank}
use Rattle.pb_part_visits.proofs.Meets.{small_off, small_next, small_sum, small_sum_next, small_of_bound, over_of_bound}

cut_near : (cuts : List Lin) (l : Lin) → Contains cuts l → is_over_n l.base ≡ true → is_small l.off ≡ true → IsCutOf cuts l
cut_near cuts l there over small = let z = near l.off small in cut_of cuts l there over (omega (arith, ints, z.low)) (omega (arith, ints, z.high))

cut_next : (cuts : List Lin) (l : Lin) → Contains cuts (shifted l (pos 1)) → is_over_n l.base ≡ true → is_small l.off ≡ true → IsCutOf cuts (shifted l (pos 1))
cut_next cuts l there over small = let z = near l.off small in cut_of cuts (shifted l (pos 1)) there over (omega (arith, ints, z.low)) (omega (arith, ints, z.high))

cut_moved : (cuts : List Lin) (l : Lin) (c : ℤ) → Contains cuts (shifted l c) → is_over_n l.base ≡ true → is_small l.off ≡ true → is_small c ≡ true → IsCutOf cuts (shifted l c)
cut_moved cuts l c there over small k = let z = near l.off small in let w = near c k in cut_of cuts (shifted l c) there over (omega (arith, ints, z.low, w.low)) (omega (arith, ints, z.high, w.high))

cut_moved_next : (cuts : List Lin) (l : Lin) (c : ℤ) → Contains cuts (shifted (shifted l c) (pos 1)) → is_over_n l.base ≡ true → is_small l.off ≡ true → is_small c ≡ true → IsCutOf cuts (shifted (shifted l c) (pos 1))
cut_moved_next cuts l c there over small k = let z = near l.off small in let w = near c k in cut_of cuts (shifted (shifted l c) (pos 1)) there over (omega (arith, ints, z.low, w.low)) (omega (arith, ints, z.high, w.high))

pub staying_fits : (range : NRange) (cuts : List Lin) (e : CoreEnd) (t : Bounds) (next : Lin) (a r : Area) → is_moving e ≡ false → is_small e.at.off ≡ true → IsBounded t → AreAmong (edges t.low t.high) cuts → AreAmong (end_cuts (Some t) e) cuts →
    (is_small_off (t.high.off +ℤ pos 1) ≡ true → next ≡ shifted t.high (pos 1)) → (is_over_n e.at.base ≡ true → AreAmong (end_cuts None e) cuts → Fits range cuts a) →
    (is_small_off t.low.off ≡ true → is_small_off next.off ≡ true → Fits range cuts a → IsCutOf cuts t.low → IsCutOf cuts next → Fits range cuts r) → Fits range cuts r
staying_fits range cuts e t next a r v h k among ends en ea er =
    let sl : is_small t.low.off ≡ true = small_of_bound t.low k.low in
    let sh : is_small t.high.off ≡ true = small_of_bound t.high k.high in
    let high : is_small_off (t.high.off +ℤ pos 1) ≡ true = small_next t.high.off sh in
    let is : next ≡ shifted t.high (pos 1) = en high in
    er (small_off t.low.off sl) (subst (λ l. is_small_off l.off ≡ true) (sym is) high) (ea (over_base e.at.base v) (end_alike t e cuts v ends))
    (cut_near cuts t.low among.0 (over_of_bound t.low k.low) sl) (subst (IsCutOf cuts) (sym is) (cut_next cuts t.high among.1.0 (over_of_bound t.high k.high) sh))

-- the place of an end at the first value
pub moving_cut : (cuts : List Lin) (e : CoreEnd) (t : Bounds) (place : Lin) → is_moving e ≡ true → is_small e.at.off ≡ true → IsBounded t → AreAmong (end_cuts (Some t) e) cuts → place ≡ shifted t.low e.at.off → IsCutOf cuts place
moving_cut cuts e t place v h k among is =
    subst (IsCutOf cuts) (sym is) (cut_moved cuts t.low e.at.off (end_moving t e cuts v among).0 (over_of_bound t.low k.low) (small_of_bound t.low k.low) h)

pub staying_cut : (cuts : List Lin) (e : CoreEnd) (t : Bounds) → is_moving e ≡ false → is_small e.at.off ≡ true → AreAmong (end_cuts (Some t) e) cuts → IsCutOf cuts e.at
staying_cut cuts e t v h among = cut_near cuts e.at (end_still (Some t) e cuts v among).0 (over_base e.at.base v) h

pub passed_fits : (range : NRange) (cuts : List Lin) (e : CoreEnd) (t : Bounds) (low high next : Lin) → is_small e.at.off ≡ true → IsBounded t → AreAmong (moving (Some t) e.at.off) cuts →
    (is_small_off (t.low.off +ℤ e.at.off) ≡ true → low ≡ shifted t.low e.at.off) → (is_small_off (t.high.off +ℤ e.at.off) ≡ true → high ≡ shifted t.high e.at.off) →
    (is_small_off (high.off +ℤ pos 1) ≡ true → next ≡ shifted high (pos 1)) →
    Fits range cuts (record { role = e.role; low = low; end = next; from = 0; until = None })
passed_fits range cuts e t low high next h k among el eh en =
    let sl : is_small t.low.off ≡ true = small_of_bound t.low k.low in
    let sh : is_small t.high.off ≡ true = small_of_bound t.high k.high in
    let low_is : low ≡ shifted t.low e.at.off = el (small_sum t.low.off e.at.off sl h) in
    let high_is : high ≡ shifted t.high e.at.off = eh (small_sum t.high.off e.at.off sh h) in
    let next_is : next ≡ shifted (shifted t.high e.at.off) (pos 1) =
    en (subst (λ l. is_small_off (l.off +ℤ pos 1) ≡ true) (sym high_is) (small_sum_next t.high.off e.at.off sh h)) ∙ ap (λ l. shifted l (pos 1)) high_is in
    record {
      low = subst (IsCutOf cuts) (sym low_is) (cut_moved cuts t.low e.at.off among.0 (over_of_bound t.low k.low) sl h);
      end = subst (IsCutOf cuts) (sym next_is) (cut_moved_next cuts t.high e.at.off among.1.0 (over_of_bound t.high k.high) sh h);
      from = zero_edge range cuts;
      until = tt;
    }

-- ---- lists of ends

pub shorter : (i n : ℕ) → suc i < suc n → i < n
shorter i n h = omega arith

pub among_at : (h : Bounds) (cuts : List Lin) (list : List Visit) (i : ℕ) → i < length list → VisitsAmong h cuts (map visit_of list) → AreAmong (end_cuts (Some h) (get_or list i blank).end) cuts
among_at h cuts [] i lt a = absurd (omega (arith, lt))
among_at h cuts (v ∷ vs) zero lt a = a.0
among_at h cuts (v ∷ vs) (suc i) lt a = among_at h cuts vs i (shorter i (length vs) lt) a.1

pub movers_at : (h : Bounds) (cuts : List Lin) (list : List Visit) (i : ℕ) → i < length list → MoversAmong h cuts (map visit_of list) → AreAmong (moving (Some h) (get_or list i blank).end.at.off) cuts
movers_at h cuts [] i lt a = absurd (omega (arith, lt))
movers_at h cuts (v ∷ vs) zero lt a = a.0
movers_at h cuts (v ∷ vs) (suc i) lt a = movers_at h cuts vs i (shorter i (length vs) lt) a.1

mover_of : (h : Bounds) (b : Base) (c : ℤ) (cuts : List Lin) → is_var b ≡ true → AreAmong (lin_cuts (Some h) b c) cuts → AreAmong (moving (Some h) c) cuts
mover_of h Fixed c cuts e a = absurd (false≢true e)
mover_of h Param c cuts e a = absurd (false≢true e)
mover_of h Var c cuts e a = a

behind_among : (h : Bounds) (cuts : List Lin) (v : S.Visit) (vs : List S.Visit) → AreAmong (moving (Some h) (off_of v)) cuts → MoversAmong h cuts vs → MoversAmong h cuts (put_behind v vs)
behind_among h cuts v [] a b = (a, tt)
behind_among h cuts v (w ∷ ws) a b = by_test (int_le (off_of v) (off_of w)) (b.0, behind_among h cuts v ws a b.1) where
  by_test : (t : Bool) → MoversAmong h cuts (w ∷ put_behind v ws) → MoversAmong h cuts (if t then w ∷ put_behind v ws else v ∷ w ∷ ws)
  by_test true e = e
  by_test false e = (a, b)

by_moving : (h : Bounds) (cuts : List Lin) (t : Bool) (v : S.Visit) (vs : List S.Visit) → (t ≡ true → AreAmong (moving (Some h) (off_of v)) cuts) → MoversAmong h cuts vs → MoversAmong h cuts (if t then put_behind v vs else vs)
by_moving h cuts true v vs a b = behind_among h cuts v vs (a refl) b
by_moving h cuts false v vs a b = b

pub moving_among : (h : Bounds) (cuts : List Lin) (list : List Visit) (i : ℕ) (old new : List S.Visit) → i < length list →
    new ≡ (if is_moving (get_or list i blank).end then put_behind (visit_of (get_or list i blank)) old else old) →
    VisitsAmong h cuts (map visit_of list) → MoversAmong h cuts old → MoversAmong h cuts new
moving_among h cuts list i old new lt e a b =
    let one : Visit = get_or list i blank in
    subst (MoversAmong h cuts) (sym e) (by_moving h cuts (is_moving one.end) (visit_of one) old (λ m. mover_of h one.end.at.base one.end.at.off cuts m (among_at h cuts list i lt a)) b)

pub none_among : (h : Bounds) (cuts : List Lin) (sorted : List Visit) → sorted ≡ [] → MoversAmong h cuts (map visit_of sorted)
none_among h cuts sorted e = subst (λ l. MoversAmong h cuts (map visit_of l)) (sym e) tt

-- ---- the ends of a foreach's items

pub visits_both : (h : Bounds) (cuts : List Lin) (xs ys : List S.Visit) → VisitsAmong h cuts xs → VisitsAmong h cuts ys → VisitsAmong h cuts (xs ++ ys)
visits_both h cuts [] ys a b = b
visits_both h cuts (v ∷ xs) ys a b = (a.0, visits_both h cuts xs ys a.1 b)

visits_of_among : (h : Bounds) (cuts : List Lin) (s : StmtTree) → AreAmong (stmt_cuts (Some h) s) cuts → VisitsAmong h cuts (visits_of s)
visits_of_among h cuts (message l f t) a = (among_left (end_cuts (Some h) f) (end_cuts (Some h) t) cuts a, (among_right (end_cuts (Some h) f) (end_cuts (Some h) t) cuts a, tt))
visits_of_among h cuts (foreach b k items) a = tt
visits_of_among h cuts (loop id k body) a = tt
visits_of_among h cuts (again id) a = tt
visits_of_among h cuts (choice k e bs) a = tt
visits_of_among h cuts (run k e) a = (a, tt)
visits_of_among h cuts barrier a = tt
visits_of_among h cuts (broadcast l root) a = tt
visits_of_among h cuts (reduce l op root) a = tt
visits_of_among h cuts (allreduce l op) a = tt

visits_among : (h : Bounds) (cuts : List Lin) (items : BlockTree) → AreAmong (block_cuts (Some h) items) cuts → VisitsAmong h cuts (visits items)
visits_among h cuts nothing a = tt
visits_among h cuts (more m s rest) a =
    visits_both h cuts (visits_of s) (visits rest) (visits_of_among h cuts s (among_left (stmt_cuts (Some h) s) (block_cuts (Some h) rest) cuts a))
    (visits_among h cuts rest (among_right (stmt_cuts (Some h) s) (block_cuts (Some h) rest) cuts a))

pub each_among : (t : Bounds) (cuts : List Lin) (items : BlockTree) (vs : List S.Visit) → vs ≡ visits items → AreAmong (edges t.low t.high ++ block_cuts (Some t) items) cuts → VisitsAmong t cuts vs
each_among t cuts items vs e a = subst (VisitsAmong t cuts) (sym e) (visits_among t cuts items (among_right (edges t.low t.high) (block_cuts (Some t) items) cuts a))

pub each_edges : (t : Bounds) (cuts : List Lin) (items : BlockTree) → AreAmong (edges t.low t.high ++ block_cuts (Some t) items) cuts → AreAmong (edges t.low t.high) cuts
each_edges t cuts items a = among_left (edges t.low t.high) (block_cuts (Some t) items) cuts a
