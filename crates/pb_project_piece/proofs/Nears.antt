-- Where areas that fit small cuts hold of a rank, they do so at an early N.
use Rattle.std.proofs.Common.{◌≡◌, ◌≢◌, ◌≤◌, ℕ, suc, ℤ, pos, negsuc, ◌+ℤ◌, ◌-ℤ◌, ◌≤ℤ◌, ◌<ℤ◌, Bool, true, false, ◌&&◌, ◌||◌, nat_eq, int_le, int_lt, ◌⊎◌, inl, inr, Option, Some, None, MatchOption, List, [], ◌∷◌, All, Contains, refl, sym, ◌∙◌, ap, subst, arith}
use Rattle.std.proofs.lemmas.Int.{ints}
use Rattle.std.proofs.lemmas.Bool.{and_parts, and_from, or_cases, or_left, or_right, cases_Bool}
use Rattle.std.proofs.lemmas.List.Elements.{All-head, All-tail, All-contains}
use Rattle.pb_affine.specs.declared.lin.Base.{Base}
use Rattle.pb_affine.specs.declared.lin.Base.TheVariants.{Fixed, Param, Var}
use Rattle.pb_affine.specs.declared.lin.Lin.{Lin}
use Rattle.pb_affine.specs.declared.range.NRange.{NRange}
use Rattle.pb_affine.specs.Values.{value, base_value, is_up_to, IsSmall}
use Rattle.pb_cases.specs.Breakpoints.{IsInRange, IsCut, IsMeeting, IsBreakpoint}
use Rattle.pb_part_areas.specs.declared.area.Area.{Area}
use Rattle.pb_part_areas.specs.Areas.{at, has, have, is_before}
use Rattle.pb_part_areas.specs.Fits.{Fits, IsCutOf, IsEdgeOf}
use Rattle.pb_core_language.specs.Verdict.{IsIn, IsUpTo}
use Rattle.pb_core_language.specs.Ranks.{total}
use Rattle.pb_shape.specs.Places.{Scope}
use Rattle.pb_project_piece.specs.Ranked.{Ranked, late, Fitting}
use Rattle.pb_project_piece.specs.Standing.{Stands}
use Rattle.pb_project_piece.proofs.Ones.{is_late, not_late}

abbrev early : ℤ
early = late

-- ---- lins keep their order from there on

pub record IsLow (l : Lin) : Type 0 where
  pub no_var : l.base ≢ Var
  pub least : negsuc 1000000 ≤ℤ l.off
  pub most : l.off ≤ℤ pos 1000001

cut_low : (cuts : List Lin) (l : Lin) → IsCutOf cuts l → IsLow l
cut_low cuts l h = let a = h.least in let b = h.most in record { no_var = h.no_var; least = omega (arith, ints); most = omega (arith, ints) }

before_by : (b c : Base) (x y n : ℤ) → b ≢ Var → c ≢ Var → negsuc 1000000 ≤ℤ x → x ≤ℤ pos 1000001 → negsuc 1000000 ≤ℤ y → y ≤ℤ pos 1000001 → early ≤ℤ n →
    (x +ℤ base_value b n (pos 0)) <ℤ (y +ℤ base_value c n (pos 0)) → (x +ℤ base_value b early (pos 0)) <ℤ (y +ℤ base_value c early (pos 0))
before_by Fixed Fixed x y n u v a b c d le h = h
before_by Fixed Param x y n u v a b c d le h = omega (arith, ints)
before_by Param Fixed x y n u v a b c d le h = omega (arith, ints)
before_by Param Param x y n u v a b c d le h = omega (arith, ints)
before_by Var c' x y n u v a b c d le h = absurd (u refl)
before_by Fixed Var x y n u v a b c d le h = absurd (v refl)
before_by Param Var x y n u v a b c d le h = absurd (v refl)

before : (l m : Lin) (n : ℤ) → IsLow l → IsLow m → early ≤ℤ n → at l n <ℤ at m n → at l early <ℤ at m early
before l m n hl hm le h = before_by l.base m.base l.off m.off n hl.no_var hm.no_var hl.least hl.most hm.least hm.most le h

-- ---- areas

-- what an area says at some N
pub record Says (a : Area) (n : ℤ) (role : ℕ) (x : ℤ) : Type 0 where
  pub role_is : nat_eq role a.role ≡ true
  pub low : at a.low n ≤ℤ x
  pub end : x <ℤ at a.end n
  pub from : pos a.from ≤ℤ n
  pub until : is_before n a.until ≡ true

says_ints : (r l e f u : Bool) → r && l && e && f && u ≡ true → (r ≡ true) × (l ≡ true) × (e ≡ true) × (f ≡ true) × (u ≡ true)
says_ints r l e f u h = (grind arith, grind arith, grind arith, grind arith, grind arith)

le_is : (x y : ℤ) → int_le x y ≡ true → x ≤ℤ y
le_is x y h = grind (arith, ints)

lt_is : (x y : ℤ) → int_lt x y ≡ true → x <ℤ y
lt_is x y h = grind (arith, ints)

is_le : (x y : ℤ) → x ≤ℤ y → int_le x y ≡ true
is_le x y h = grind (arith, ints)

is_lt : (x y : ℤ) → x <ℤ y → int_lt x y ≡ true
is_lt x y h = grind (arith, ints)

says : (a : Area) (n : ℤ) (role : ℕ) (x : ℤ) → has a n role x ≡ true → Says a n role x
says a n role x h =
    let q = says_ints (nat_eq role a.role) (int_le (at a.low n) x) (int_lt x (at a.end n)) (int_le (pos a.from) n) (is_before n a.until) h in
    record { role_is = q.0; low = le_is _ _ q.1; end = lt_is _ _ q.2; from = le_is _ _ q.3; until = q.4 }

said_ints : (r l e f u : Bool) → r ≡ true → l ≡ true → e ≡ true → f ≡ true → u ≡ true → r && l && e && f && u ≡ true
said_ints r l e f u a b c d g = grind arith

said : (a : Area) (n : ℤ) (role : ℕ) (x : ℤ) → Says a n role x → has a n role x ≡ true
said a n role x s = said_ints _ _ _ _ _ s.role_is (is_le _ _ s.low) (is_lt _ _ s.end) (is_le _ _ s.from) s.until

sooner : (m n : ℤ) (until : Option ℕ) → m ≤ℤ n → is_before n until ≡ true → is_before m until ≡ true
sooner m n None le h = refl
sooner m n (Some b) le h = let k = lt_is n (pos b) h in is_lt m (pos b) (omega (arith, ints))

-- both ends are low, and it begins early
pub record IsNear (a : Area) : Type 0 where
  pub low : IsLow a.low
  pub end : IsLow a.end
  pub from : pos a.from ≤ℤ early

meeting_early : (cuts : List Lin) (m : ℤ) → All IsCut cuts → IsMeeting cuts m → m ≤ℤ early
meeting_early cuts m small h =
    let d = (All-contains IsCut cuts h.d small h.d_in).small in
    let c = (All-contains IsCut cuts h.c small h.c_in).small in
    let dh = d.high in
    let cl = c.low in
    elim h.here [ inl e ↦ omega (arith, ints) | inr e ↦ omega (arith, ints) ]

edge_early : (range : NRange) (cuts : List Lin) (m n : ℤ) → range.low ≤ 100000 → All IsCut cuts → IsEdgeOf range cuts m → m ≤ℤ n → is_up_to n range.high ≡ true → m ≤ℤ early
edge_early range cuts m n low small h le up =
    elim h.edge [
      | inl b ↦ elim b.why [ inl e ↦ omega (arith, ints, low) | inr k ↦ meeting_early cuts m small k ]
      | inr k ↦ elim k [
        | inl below ↦ omega (arith, ints, low)
        | inr above ↦ absurd (not_above range.high up above)
      ]
    ]
  where
    not_above : (high : Option ℕ) → is_up_to n high ≡ true → is_up_to m high ≡ false → ⊥
    not_above None u a = cc
    not_above (Some b) u a = let k = le_is n (pos b) u in let j = is_le m (pos b) (omega (arith, ints)) in cc

near : (range : NRange) (cuts : List Lin) (a : Area) (n : ℤ) (role : ℕ) (x : ℤ) → range.low ≤ 100000 → All IsCut cuts → Fits range cuts a → is_up_to n range.high ≡ true → has a n role x ≡ true → IsNear a
near range cuts a n role x low small fits up h =
    let s = says a n role x h in
    record { low = cut_low cuts a.low fits.low; end = cut_low cuts a.end fits.end; from = edge_early range cuts (pos a.from) n low small fits.from s.from up }

-- ---- two areas that meet late meet early, too

pub record Both (a b : Area) (n : ℤ) : Type 0 where
  pub role : ℕ
  pub index : ℤ
  pub first : has a n role index ≡ true
  pub second : has b n role index ≡ true

both_early : (a b : Area) (n : ℤ) (role : ℕ) (x : ℤ) → early ≤ℤ n → IsNear a → IsNear b → has a n role x ≡ true → has b n role x ≡ true → Both a b early
both_early a b n role x le na nb ha hb = go (int_le (at a.low early) (at b.low early)) refl
  where
    sa : Says a n role x
    sa = says a n role x ha

    sb : Says b n role x
    sb = says b n role x hb

    aa : at a.low early <ℤ at a.end early
    aa = before a.low a.end n na.low na.end le (let u = sa.low in let v = sa.end in omega (arith, ints))

    ab : at a.low early <ℤ at b.end early
    ab = before a.low b.end n na.low nb.end le (let u = sa.low in let v = sb.end in omega (arith, ints))

    ba : at b.low early <ℤ at a.end early
    ba = before b.low a.end n nb.low na.end le (let u = sb.low in let v = sa.end in omega (arith, ints))

    bb : at b.low early <ℤ at b.end early
    bb = before b.low b.end n nb.low nb.end le (let u = sb.low in let v = sb.end in omega (arith, ints))

    in_a : (y : ℤ) → at a.low early ≤ℤ y → y <ℤ at a.end early → has a early role y ≡ true
    in_a y u v = said a early role y (record { role_is = sa.role_is; low = u; end = v; from = na.from; until = sooner early n a.until le sa.until })

    in_b : (y : ℤ) → at b.low early ≤ℤ y → y <ℤ at b.end early → has b early role y ≡ true
    in_b y u v = said b early role y (record { role_is = sb.role_is; low = u; end = v; from = nb.from; until = sooner early n b.until le sb.until })

    go : (t : Bool) → int_le (at a.low early) (at b.low early) ≡ t → Both a b early
    go true e = let k = le_is _ _ e in record { role = role; index = at b.low early; first = in_a (at b.low early) k ba; second = in_b (at b.low early) (omega (arith, ints)) bb }
    go false e = let k : at b.low early ≤ℤ at a.low early = above (at a.low early) (at b.low early) e in record { role = role; index = at a.low early; first = in_a (at a.low early) (omega (arith, ints)) aa; second = in_b (at a.low early) k ab }
      where
        above : (x y : ℤ) → int_le x y ≡ false → y ≤ℤ x
        above x y h = grind (arith, ints)

-- ---- lists

pub record Holder (P : Area → Type 0) (list : List Area) (n : ℤ) (role : ℕ) (x : ℤ) : Type 0 where
  pub area : Area
  pub is : P area
  pub holds : has area n role x ≡ true
  pub back : (m : ℤ) (r : ℕ) (y : ℤ) → has area m r y ≡ true → have list m r y ≡ true

holder : (P : Area → Type 0) (list : List Area) (n : ℤ) (role : ℕ) (x : ℤ) → All P list → have list n role x ≡ true → Holder P list n role x
holder P [] n role x all h = cc
holder P (a ∷ rest) n role x all h =
    elim (cases_Bool (has a n role x)) [
      | inl e ↦ record { area = a; is = All-head P a rest all; holds = e; back = λ m r y k. or_left (has a m r y) (have rest m r y) k }
      | inr e ↦ (let q = holder P rest n role x (All-tail P a rest all) (other (has a n role x) (have rest n role x) h e) in record { area = q.area; is = q.is; holds = q.holds; back = λ m r y k. or_right (has a m r y) (have rest m r y) (q.back m r y k) })
    ]
  where
    other : (u v : Bool) → u || v ≡ true → u ≡ false → v ≡ true
    other u v h e = grind arith

-- ---- the first N

in_range : (range : NRange) (n : ℤ) → IsIn range n → IsInRange range n
in_range range n h = record { low = h.low; high = up range.high h.high }
  where
    up : (high : Option ℕ) → IsUpTo n high → is_up_to n high ≡ true
    up None h = refl
    up (Some b) h = is_le n (pos b) h

pub is_in : (range : NRange) (n : ℤ) → IsInRange range n → IsIn range n
is_in range n h = record { low = h.low; high = up range.high h.high }
  where
    up : (high : Option ℕ) → is_up_to n high ≡ true → IsUpTo n high
    up None h = tt
    up (Some b) h = le_is n (pos b) h

sooner_up : (m n : ℤ) (high : Option ℕ) → m ≤ℤ n → is_up_to n high ≡ true → is_up_to m high ≡ true
sooner_up m n None le h = refl
sooner_up m n (Some b) le h = let k = le_is n (pos b) h in is_le m (pos b) (omega (arith, ints))

-- where areas that fit cuts first hold of a rank is early
pub fitting_early : (range : NRange) (whole areas : List Area) (r : Ranked range whole areas) → range.low ≤ 100000 → Fitting range whole → Fitting range areas → r.n ≤ℤ early
fitting_early range whole areas r low fw fa = go (int_le early r.n) refl
  where
    go : (t : Bool) → int_le early r.n ≡ t → r.n ≤ℤ early
    go false e = not_late r.n e
    go true e =
        let le = is_late r.n e in
        let up = (in_range range r.n r.within).high in
        let a = holder (Fits range fa.cuts) areas r.n r.role r.index fa.fits r.there in
        let b = holder (Fits range fw.cuts) whole r.n r.role r.index fw.fits r.rank in
        let na = near range fa.cuts a.area r.n r.role r.index low fa.small a.is up a.holds in
        let nb = near range fw.cuts b.area r.n r.role r.index low fw.small b.is up b.holds in
        let two = both_early a.area b.area r.n r.role r.index le na nb a.holds b.holds in
        let early_in : IsInRange range early = record { low = omega (arith, ints, low); high = sooner_up early r.n range.high le up } in
        r.least early two.role two.index (is_in range early early_in) (b.back early two.role two.index two.second) (a.back early two.role two.index two.first)

-- and there are at most 2,000,000,000 ranks there
pub few_fitting : (range : NRange) (roles : ℕ) (whole : List Area) (sc : Scope) → Stands range roles whole sc → (areas : List Area) → (r : Ranked range whole areas) → Fitting range areas → total sc.roles r.n ≤ 2000000000
few_fitting range roles whole sc st areas r fit = st.few r.n r.within (fitting_early range whole areas r st.early st.fitting fit)
