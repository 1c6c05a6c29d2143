-- What a rank finds first in a foreach, one stop after the other.
use Rattle.std.proofs.Common.{◌≡◌, ◌<◌, ◌≤◌, ◌+◌, ℕ, nat_lt, ℤ, pos, ◌+ℤ◌, ◌-ℤ◌, neg_ℤ, Bool, true, false, ◌&&◌, List, [], ◌∷◌, ◌++◌, map, drop, length, get_or, refl, ap, sym, ◌∙◌, subst, arith, if◌then◌else◌, drop_of_length-le}
use Rattle.std.proofs.lemmas.Bool.{and_parts, and_from}
use Rattle.std.proofs.lemmas.Int.{ints}
use Rattle.std.proofs.lemmas.Bool.Decides.{nat_tests}
use Rattle.std.proofs.lemmas.List.{at_drop_more}
use Rattle.pb_affine.specs.declared.lin.Base.TheVariants.{Var}
use Rattle.pb_affine.specs.declared.lin.Lin.{Lin}
use Rattle.pb_affine.specs.declared.range.NRange.{NRange}
use Rattle.pb_affine.specs.Values.{value, put}
use Rattle.pb_core_language.specs.declared.protocol.CoreRole.{CoreRole}
use Rattle.pb_core_language.specs.declared.tree.CoreEnd.{CoreEnd}
use Rattle.pb_core_language.specs.Outcomes.{Outcome, nothing_first, receives, other_first, or_then}
use Rattle.pb_core_language.specs.Sound.{Rows, is_small, is_bound, is_end, is_stmt, is_block}
use Rattle.pb_core_language.specs.Tree.{Mark, StmtTree, message, foreach, loop, again, choice, run, barrier, broadcast, reduce, allreduce, BlockTree, nothing, more}
use Rattle.pb_core_language.specs.declared.tree.Bounds.{Bounds}
use Rattle.pb_part_areas.specs.Areas.{at}
use Rattle.pb_core_flat.specs.Seated.{rank}
use Rattle.pb_core_flat.specs.OutcomeSets.{is_nothing, found}
use Rattle.pb_core_flat.specs.Stops as S
use Rattle.pb_core_flat.specs.Stops.{Stop, first_of, at_fixed, at_some, few_stops, outcome_at, visits, visits_of, moving, IsByFalling}
use Rattle.pb_core_flat.proofs.EachStops.{each_few_stops}
use Rattle.pb_core_flat.proofs.OutcomeSets.{or_then_assoc, or_then_left, or_then_right}
use Rattle.pb_core_flat.proofs.SoundOnes.{sound_items}
use Rattle.pb_core_flat.proofs.Sources.{put_is, over_n_is}
use Rattle.pb_core_flat.proofs.Turns.{stops_in_turn, finding_is}
use Rattle.pb_part_visits.proofs.VisitLists.{blank}
use Rattle.pb_part_firsts.specs.declared.firsts.Entry.{Entry}
use Rattle.pb_part_takers.specs.declared.held.Held.{Held}
use Rattle.pb_part_visits.specs.declared.visit.Finding.{Finding}
use Rattle.pb_part_visits.specs.declared.visit.Finding.TheVariants.{Acts, Gets}
use Rattle.pb_part_visits.specs.declared.visit.Visit.{Visit}
use Rattle.pb_part_takers.specs.Loops.{held_of, ids_of}
use Rattle.pb_part_visits.specs.Visits.{is_small_off}
use Rattle.pb_part_firsts.specs.Stopping.{first_at}
use Rattle.pb_part_firsts.specs.Turns.{AddsStops, first_stop}
use Rattle.pb_part_visits.specs.Visits.{visit_of, finding_of, is_narrow, is_narrow_finding, are_narrow, IsBounded}
use Rattle.pb_part_visits.proofs.Meets.{small_off, small_sum, small_back, over_of_bound}

-- ---- what is found

gets_small : (f : Finding) (s : CoreEnd) (l : ℕ) → f ≡ Gets s l → is_narrow_finding (finding_of f) ≡ true → is_small s.at.off ≡ true
gets_small f s l e h = subst (λ z. is_narrow_finding (finding_of z) ≡ true) e h

pub kind_gets : (roles : List CoreRole) (f : Finding) (s : CoreEnd) (l : ℕ) (by p : Lin) (n x : ℤ) → f ≡ Gets s l → (is_small_off (by.off +ℤ s.at.off) ≡ true → p ≡ put s.at by) →
    is_small by.off ≡ true → is_narrow_finding (finding_of f) ≡ true →
    receives (rank roles n s.role (value p n x)) l ≡ outcome_at roles n (value by n x) (finding_of f)
kind_gets roles f s l by p n x e h hb hf =
    let is : p ≡ put s.at by = h (small_sum by.off s.at.off hb (gets_small f s l e hf)) in
    ap (λ z. receives (rank roles n s.role z) l) (ap (λ q. value q n x) is ∙ put_is s.at by n x) ∙ ap (λ z. outcome_at roles n (value by n x) (finding_of z)) (sym e)

pub kind_acts : (roles : List CoreRole) (f : Finding) (n i : ℤ) → f ≡ Acts → other_first ≡ outcome_at roles n i (finding_of f)
kind_acts roles f n i e = ap (λ z. outcome_at roles n i (finding_of z)) (sym e)

pub kind_small : (f : Finding) (s : CoreEnd) (l : ℕ) (p : Lin) → f ≡ Gets s l → (is_small_off s.at.off ≡ true → is_small_off p.off ≡ true) → is_narrow_finding (finding_of f) ≡ true → is_small_off p.off ≡ true
kind_small f s l p e h k = h (small_off s.at.off (gets_small f s l e k))

-- ---- one stop

abbrev pub found_at : (S.Visit → Stop) → List Visit → ℕ → ℤ → List Outcome
found_at stop_at list role x = found (first_of (map stop_at (map visit_of list)) role x) ∷ []

pub turn_step : (roles : List CoreRole) (stop_at : S.Visit → Stop) (list : List Visit) (i : ℕ) (old new : List Entry) (p : Bool) (o : Outcome) (n : ℤ) (role : ℕ) (x : ℤ) (all : List Outcome) →
    ((v : S.Visit) → is_nothing ((stop_at v).finds x) ≡ false) → i < length list →
    first_stop roles new n role x ≡ or_then (first_stop roles old n role x) (if p then o ∷ [] else nothing_first ∷ []) →
    p ≡ (stop_at (visit_of (get_or list i blank))).has role x → o ≡ (stop_at (visit_of (get_or list i blank))).finds x →
    or_then (first_stop roles old n role x) (found_at stop_at (drop i list) role x) ≡ all →
    or_then (first_stop roles new n role x) (found_at stop_at (drop (i + 1) list) role x) ≡ all
turn_step roles stop_at list i old new p o n role x all some lt adds has finds h =
    let before : List Outcome = first_stop roles old n role x in
    let rest : List Outcome = found_at stop_at (drop (i + 1) list) role x in
    let one : Stop = stop_at (visit_of (get_or list i blank)) in
    let here : List Outcome = if one.has role x then one.finds x ∷ [] else nothing_first ∷ [] in
    ap (λ z. or_then z rest) (adds ∙ ap (λ t. or_then before (if t then o ∷ [] else nothing_first ∷ [])) has ∙ ap (λ q. or_then before (if one.has role x then q ∷ [] else nothing_first ∷ [])) finds)
    ∙ or_then_assoc before here rest
    ∙ ap (or_then before)
    (sym (stops_in_turn one (map stop_at (map visit_of (drop (i + 1) list))) role x (some (visit_of (get_or list i blank))))
    ∙ sym (at_drop_more (λ z. found_at stop_at z role x) list i blank lt))
    ∙ h

pub turns_done : (stop_at : S.Visit → Stop) (list : List Visit) (i : ℕ) (now : List Outcome) (role : ℕ) (x : ℤ) (all : List Outcome) → length list ≤ i →
    or_then now (found_at stop_at (drop i list) role x) ≡ all → now ≡ all
turns_done stop_at list i now role x all le h =
    sym (or_then_right now) ∙ sym (ap (λ z. or_then now (found_at stop_at z role x)) (drop_of_length-le list le)) ∙ h

-- ---- all stops at the first value, and then those at ends that move

module _ (f : S.Visit → Stop) (role : ℕ) (x : ℤ) (some : (v : S.Visit) → is_nothing ((f v).finds x) ≡ false) where
  stops_joined : (vs : List S.Visit) (ys : List Stop) →
      or_then (found (first_of (map f vs) role x) ∷ []) (found (first_of ys role x) ∷ []) ≡ found (first_of (map f vs ++ ys) role x) ∷ []
  stops_joined [] ys = or_then_left (found (first_of ys role x) ∷ [])
  stops_joined (v ∷ vs) ys =
      let here : List Outcome = if (f v).has role x then (f v).finds x ∷ [] else nothing_first ∷ [] in
      ap (λ z. or_then z (found (first_of ys role x) ∷ [])) (stops_in_turn (f v) (map f vs) role x (some v))
      ∙ or_then_assoc here (found (first_of (map f vs) role x) ∷ []) (found (first_of ys role x) ∷ [])
      ∙ ap (or_then here) (stops_joined vs ys)
      ∙ sym (stops_in_turn (f v) (map f vs ++ ys) role x (some v))

pub fixed_some : (roles : List CoreRole) (t : Bounds) (vs : List S.Visit) (n x : ℤ) (v : S.Visit) → is_nothing ((at_fixed roles n (at t.low n) (at t.high n) vs v).finds x) ≡ false
fixed_some roles t vs n x v = finding_is roles n (at t.low n) v.finding

pub some_some : (roles : List CoreRole) (t : Bounds) (n x : ℤ) (v : S.Visit) → is_nothing ((at_some roles n (at t.low n) (at t.high n) v).finds x) ≡ false
some_some roles t n x v = finding_is roles n (x -ℤ v.end.at.off) v.finding

pub each_gives : {range : NRange} {roles : List CoreRole} {old now new : List Entry} (rows : Rows) (held : List Held) (m k : Mark) (t : Bounds) (items : BlockTree) (vs sorted : List S.Visit) →
    is_stmt rows false (ids_of held) (foreach (record { low = t.low; high = t.high }) k items) ≡ true → vs ≡ visits items → IsByFalling sorted (moving vs) →
    AddsStops range roles old now (λ n role x. found (first_of (map (at_fixed roles n (at t.low n) (at t.high n) vs) vs) role x) ∷ []) →
    AddsStops range roles now new (λ n role x. found (first_of (map (at_some roles n (at t.low n) (at t.high n)) sorted) role x) ∷ []) →
    AddsStops range roles old new (first_at roles held m (foreach (record { low = t.low; high = t.high }) k items))
each_gives {roles = roles} {old = old} rows held m k t items vs sorted h e falls a b =
    let parts = and_parts (is_bound t.high) (is_block rows true (ids_of held) items) (and_parts (is_bound t.low) _ h).1 in
    let sorts : IsByFalling sorted (moving (visits items)) = subst (λ z. IsByFalling sorted (moving z)) e falls in
    record {
      is = λ n role x w r.
          let before : List Outcome = first_stop roles old n role x in
          let first : List Outcome = found (first_of (map (at_fixed roles n (at t.low n) (at t.high n) vs) vs) role x) ∷ [] in
          let others : List Outcome = found (first_of (map (at_some roles n (at t.low n) (at t.high n)) sorted) role x) ∷ [] in
          b.is n role x w r
          ∙ ap (λ z. or_then z others) (a.is n role x w r)
          ∙ or_then_assoc before first others
          ∙ ap (or_then before)
          (stops_joined (at_fixed roles n (at t.low n) (at t.high n) vs) role x (fixed_some roles t vs n x) vs (map (at_some roles n (at t.low n) (at t.high n)) sorted)
          ∙ ap (λ z. found (first_of (few_stops roles n (at t.low n) (at t.high n) z sorted) role x) ∷ []) e
          ∙ sym (each_few_stops roles n (pos 0) role x (held_of held n role x) (ids_of held) m (record { low = t.low; high = t.high }) k items sorted r (sound_items rows (ids_of held) items parts.1) sorts));
    }

-- ---- what a sound foreach has

pub turns_bounded : (rows : Rows) (ids : List ℕ) (t : Bounds) (k : Mark) (items : BlockTree) → is_stmt rows false ids (foreach (record { low = t.low; high = t.high }) k items) ≡ true → IsBounded t
turns_bounded rows ids t k items h =
    let both = and_parts (is_bound t.low) (is_bound t.high && is_block rows true ids items) h in
    record { low = both.0; high = (and_parts (is_bound t.high) (is_block rows true ids items) both.1).0 }

any_small : (rows : Rows) (e : CoreEnd) → is_end rows true e ≡ true → is_small e.at.off ≡ true
any_small rows e h = (and_parts (nat_lt e.role rows.roles) (is_small e.at.off) h).1

narrow_append : (xs ys : List S.Visit) → are_narrow xs ≡ true → are_narrow ys ≡ true → are_narrow (xs ++ ys) ≡ true
narrow_append [] ys h k = k
narrow_append (v ∷ xs) ys h k = let hs = and_parts (is_narrow v) (are_narrow xs) h in and_from (is_narrow v) (are_narrow (xs ++ ys)) hs.0 (narrow_append xs ys hs.1 k)

narrow_of : (rows : Rows) (ids : List ℕ) (s : StmtTree) → is_stmt rows true ids s ≡ true → are_narrow (visits_of s) ≡ true
narrow_of rows ids (message l f t) h =
    let ends = (and_parts _ (is_end rows true f && is_end rows true t) h).1 in
    let both = and_parts (is_end rows true f) (is_end rows true t) ends in
    let sf = any_small rows f both.0 in
    let st = any_small rows t both.1 in
    and_from (is_small f.at.off && true) (are_narrow (record { end = t; finding = S.gets f l } ∷ [])) (and_from (is_small f.at.off) true sf refl)
    (and_from (is_small t.at.off && is_small f.at.off) true (and_from (is_small t.at.off) (is_small f.at.off) st sf) refl)
narrow_of rows ids (foreach b k items) h = refl
narrow_of rows ids (loop id k body) h = refl
narrow_of rows ids (again id) h = refl
narrow_of rows ids (choice k e bs) h = refl
narrow_of rows ids (run k e) h = and_from (is_small e.at.off && true) true (and_from (is_small e.at.off) true (any_small rows e (and_parts _ (is_end rows true e) h).1) refl) refl
narrow_of rows ids barrier h = refl
narrow_of rows ids (broadcast l root) h = refl
narrow_of rows ids (reduce l op root) h = refl
narrow_of rows ids (allreduce l op) h = refl

narrow_visits : (rows : Rows) (ids : List ℕ) (items : BlockTree) → is_block rows true ids items ≡ true → are_narrow (visits items) ≡ true
narrow_visits rows ids nothing h = refl
narrow_visits rows ids (more m s rest) h =
    let both = and_parts (is_stmt rows true ids s) (is_block rows true ids rest) (and_parts _ (is_stmt rows true ids s && is_block rows true ids rest) h).1 in
    narrow_append (visits_of s) (visits rest) (narrow_of rows ids s both.0) (narrow_visits rows ids rest both.1)

pub each_narrow : (rows : Rows) (ids : List ℕ) (t : Bounds) (k : Mark) (items : BlockTree) (vs : List S.Visit) → is_stmt rows false ids (foreach (record { low = t.low; high = t.high }) k items) ≡ true → vs ≡ visits items → are_narrow vs ≡ true
each_narrow rows ids t k items vs h e =
    let both = and_parts (is_bound t.low) (is_bound t.high && is_block rows true ids items) h in
    ap are_narrow e ∙ narrow_visits rows ids items (and_parts (is_bound t.high) (is_block rows true ids items) both.1).1

-- ---- the values of the variable

pub low_is : (t : Bounds) (n x : ℤ) → IsBounded t → value t.low n x ≡ at t.low n
low_is t n x k = over_n_is t.low n x (pos 0) (over_of_bound t.low k.low)

back_ints : (a x : ℤ) → neg_ℤ a +ℤ x ≡ x -ℤ a
back_ints a x = omega (arith, ints)

pub back_is : (l b : Lin) (n x : ℤ) → is_small l.off ≡ true → (is_small_off (neg_ℤ l.off) ≡ true → b ≡ record { base = Var; off = neg_ℤ l.off }) → value b n x ≡ x -ℤ l.off
back_is l b n x h k = ap (λ z. value z n x) (k (small_back l.off h)) ∙ back_ints l.off x

neg_small : (a : ℤ) → is_small a ≡ true → is_small (neg_ℤ a) ≡ true
neg_small a h = grind (arith, ints, nat_tests)

pub back_small : (l b : Lin) → is_small l.off ≡ true → (is_small_off (neg_ℤ l.off) ≡ true → b ≡ record { base = Var; off = neg_ℤ l.off }) → is_small b.off ≡ true
back_small l b h k = ap (λ z. is_small z.off) (k (small_back l.off h)) ∙ neg_small l.off h
