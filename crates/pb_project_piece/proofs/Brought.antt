-- What is said of ranks by ends with small offsets is said of some ranks at an early N.
use Rattle.std.proofs.Common.{◌≡◌, ℕ, suc, ℤ, pos, negsuc, ◌+ℤ◌, ◌-ℤ◌, ◌≤ℤ◌, ◌<ℤ◌, Bool, true, false, ◌&&◌, ◌||◌, not, nat_eq, nat_lt, int_le, if◌then◌else◌, Option, Some, None, List, [], ◌∷◌, refl, sym, ◌∙◌, ap, ap₂, subst, arith}
use Rattle.std.specs.Ordering.{int_eq}
use Rattle.std.proofs.lemmas.Int.{ints}
use Rattle.std.proofs.lemmas.Bool.{and_parts, and_from, false≢true}
use Rattle.pb_affine.specs.declared.lin.Base.{Base}
use Rattle.pb_affine.specs.declared.lin.Base.TheVariants.{Fixed, Param, Var}
use Rattle.pb_affine.specs.declared.lin.Lin.{Lin}
use Rattle.pb_affine.specs.declared.range.NRange.{NRange}
use Rattle.pb_affine.specs.Values.{value, base_value}
use Rattle.pb_core_language.specs.declared.protocol.CoreRole.{CoreRole}
use Rattle.pb_core_language.specs.declared.tree.Bounds.{Bounds}
use Rattle.pb_core_language.specs.declared.tree.CoreEnd.{CoreEnd}
use Rattle.pb_core_language.specs.Ranks.{seats_from}
use Rattle.pb_core_language.specs.Rules.{is_seat}
use Rattle.pb_core_language.specs.Sound.{Rows, is_end, is_small, is_over_n, is_bound, are_roles}
use Rattle.pb_core_language.specs.Tree as T
use Rattle.pb_core_language.specs.Tree.{StmtTree, BlockTree}
use Rattle.pb_core_flat.specs.Meets.{is_moving, is_met, is_var}
use Rattle.pb_core_flat.specs.Seated.{is_rank, is_at}
use Rattle.pb_core_flat.proofs.Seats.{seat_in_role}
use Rattle.pb_shape.specs.Pieces.{is_fixed, is_fixed_at, fixed_in}
use Rattle.pb_shape.specs.Segments.{in_segment}
use Rattle.pb_project_piece.specs.Fixed.{is_fair_item, are_fair_items}
use Rattle.pb_project_piece.specs.Ranked.{late, brought, IsBrought}

-- ---- one lin

-- within 300,000 of zero
pub record IsLittle (c : ℤ) : Type 0 where
  pub low : negsuc 299999 ≤ℤ c
  pub high : c ≤ℤ pos 300000

pub little_small : (c : ℤ) → is_small c ≡ true → IsLittle c
little_small c h = record { low = least c h; high = most c h }
  where
    least : (c : ℤ) → is_small c ≡ true → negsuc 299999 ≤ℤ c
    least c h = grind (arith, ints)

    most : (c : ℤ) → is_small c ≡ true → c ≤ℤ pos 300000
    most c h = grind (arith, ints)

-- where the index is brought to
data Region (n x : ℤ) : ℤ → Type 0 where
  near_zero : x ≤ℤ pos 1500000 → Region n x x
  near_n : pos 1500000 <ℤ x → n ≤ℤ (x +ℤ pos 1500000) → Region n x ((x -ℤ n) +ℤ pos 3000000)
  between : pos 1500000 <ℤ x → (x +ℤ pos 1500000) <ℤ n → Region n x (pos 1500000)

region : (n x : ℤ) → Region n x (brought n x)
region n x = go (int_le x (pos 1500000)) (int_le n (x +ℤ pos 1500000)) refl refl
  where
    le_is : (a b : ℤ) → int_le a b ≡ true → a ≤ℤ b
    le_is a b h = grind (arith, ints)

    lt_is : (a b : ℤ) → int_le a b ≡ false → b <ℤ a
    lt_is a b h = grind (arith, ints)

    go : (u v : Bool) → int_le x (pos 1500000) ≡ u → int_le n (x +ℤ pos 1500000) ≡ v → Region n x (if u then x else (if v then (x -ℤ n) +ℤ pos 3000000 else pos 1500000))
    go true v e f = near_zero (le_is x (pos 1500000) e)
    go false true e f = near_n (lt_is x (pos 1500000) e) (le_is n (x +ℤ pos 1500000) f)
    go false false e f = between (lt_is x (pos 1500000) e) (lt_is n (x +ℤ pos 1500000) f)

-- two tests of numbers that are decided alike
both_le : (a b c d : ℤ) → (a ≤ℤ b → c ≤ℤ d) → (b <ℤ a → d <ℤ c) → int_le a b ≡ int_le c d
both_le a b c d f g = go (int_le a b) refl
  where
    le_is : (a b : ℤ) → int_le a b ≡ true → a ≤ℤ b
    le_is a b h = grind (arith, ints)

    lt_is : (a b : ℤ) → int_le a b ≡ false → b <ℤ a
    lt_is a b h = grind (arith, ints)

    is_le : (a b : ℤ) → a ≤ℤ b → true ≡ int_le a b
    is_le a b h = grind (arith, ints)

    is_lt : (a b : ℤ) → b <ℤ a → false ≡ int_le a b
    is_lt a b h = grind (arith, ints)

    go : (t : Bool) → int_le a b ≡ t → int_le a b ≡ int_le c d
    go true e = e ∙ is_le c d (f (le_is a b e))
    go false e = e ∙ is_lt c d (g (lt_is a b e))

module _ (n x : ℤ) (le : late ≤ℤ n) where
  below_by : (b : Base) (c y : ℤ) → is_over_n b ≡ true → IsLittle c → Region n x y → int_le (c +ℤ base_value b n (pos 0)) x ≡ int_le (c +ℤ base_value b late (pos 0)) y
  below_by Fixed c y o s (near_zero h) = refl
  below_by Fixed c y o s (near_n h k) = let a = s.low in let b = s.high in both_le (c +ℤ pos 0) x (c +ℤ pos 0) ((x -ℤ n) +ℤ pos 3000000) (λ u. omega (arith, ints)) (λ u. absurd (omega (arith, ints)))
  below_by Fixed c y o s (between h k) = let a = s.low in let b = s.high in both_le (c +ℤ pos 0) x (c +ℤ pos 0) (pos 1500000) (λ u. omega (arith, ints)) (λ u. absurd (omega (arith, ints)))
  below_by Param c y o s (near_zero h) = let a = s.low in let b = s.high in both_le (c +ℤ n) x (c +ℤ late) x (λ u. absurd (omega (arith, ints))) (λ u. omega (arith, ints))
  below_by Param c y o s (near_n h k) = both_le (c +ℤ n) x (c +ℤ late) ((x -ℤ n) +ℤ pos 3000000) (λ u. omega (arith, ints)) (λ u. omega (arith, ints))
  below_by Param c y o s (between h k) = let a = s.low in let b = s.high in both_le (c +ℤ n) x (c +ℤ late) (pos 1500000) (λ u. absurd (omega (arith, ints))) (λ u. omega (arith, ints))
  below_by Var c y o s r = cc

  above_by : (b : Base) (c y : ℤ) → is_over_n b ≡ true → IsLittle c → Region n x y → int_le x (c +ℤ base_value b n (pos 0)) ≡ int_le y (c +ℤ base_value b late (pos 0))
  above_by Fixed c y o s (near_zero h) = refl
  above_by Fixed c y o s (near_n h k) = let a = s.low in let b = s.high in both_le x (c +ℤ pos 0) ((x -ℤ n) +ℤ pos 3000000) (c +ℤ pos 0) (λ u. absurd (omega (arith, ints))) (λ u. omega (arith, ints))
  above_by Fixed c y o s (between h k) = let a = s.low in let b = s.high in both_le x (c +ℤ pos 0) (pos 1500000) (c +ℤ pos 0) (λ u. absurd (omega (arith, ints))) (λ u. omega (arith, ints))
  above_by Param c y o s (near_zero h) = let a = s.low in let b = s.high in both_le x (c +ℤ n) x (c +ℤ late) (λ u. omega (arith, ints)) (λ u. absurd (omega (arith, ints)))
  above_by Param c y o s (near_n h k) = both_le x (c +ℤ n) ((x -ℤ n) +ℤ pos 3000000) (c +ℤ late) (λ u. omega (arith, ints)) (λ u. omega (arith, ints))
  above_by Param c y o s (between h k) = let a = s.low in let b = s.high in both_le x (c +ℤ n) (pos 1500000) (c +ℤ late) (λ u. omega (arith, ints)) (λ u. absurd (omega (arith, ints)))
  above_by Var c y o s r = cc

  below_lin : (b : Base) (c : ℤ) → is_over_n b ≡ true → IsLittle c → int_le (c +ℤ base_value b n (pos 0)) x ≡ int_le (c +ℤ base_value b late (pos 0)) (brought n x)
  below_lin b c o s = below_by b c (brought n x) o s (region n x)

  above_lin : (b : Base) (c : ℤ) → is_over_n b ≡ true → IsLittle c → int_le x (c +ℤ base_value b n (pos 0)) ≡ int_le (brought n x) (c +ℤ base_value b late (pos 0))
  above_lin b c o s = above_by b c (brought n x) o s (region n x)

  eq_both : (a b : ℤ) → int_eq a b ≡ int_le a b && int_le b a
  eq_both a b = grind (arith, ints)

  same_lin : (b : Base) (c : ℤ) → is_over_n b ≡ true → IsLittle c → int_eq (c +ℤ base_value b n (pos 0)) x ≡ int_eq (c +ℤ base_value b late (pos 0)) (brought n x)
  same_lin b c o s =
      eq_both (c +ℤ base_value b n (pos 0)) x
      ∙ ap₂ (λ u v. u && v) (below_lin b c o s) (above_lin b c o s)
      ∙ sym (eq_both (c +ℤ base_value b late (pos 0)) (brought n x))

-- two lins
module _ (n : ℤ) (le : late ≤ℤ n) where
  order_by : (b d : Base) (x y : ℤ) → is_over_n b ≡ true → is_over_n d ≡ true → IsLittle x → IsLittle y → int_le (x +ℤ base_value b n (pos 0)) (y +ℤ base_value d n (pos 0)) ≡ int_le (x +ℤ base_value b late (pos 0)) (y +ℤ base_value d late (pos 0))
  order_by Fixed Fixed x y o q s t = refl
  order_by Fixed Param x y o q s t = let a = s.high in let b = t.low in both_le (x +ℤ pos 0) (y +ℤ n) (x +ℤ pos 0) (y +ℤ late) (λ u. omega (arith, ints)) (λ u. absurd (omega (arith, ints)))
  order_by Param Fixed x y o q s t = let a = s.low in let b = t.high in both_le (x +ℤ n) (y +ℤ pos 0) (x +ℤ late) (y +ℤ pos 0) (λ u. absurd (omega (arith, ints))) (λ u. omega (arith, ints))
  order_by Param Param x y o q s t = both_le (x +ℤ n) (y +ℤ n) (x +ℤ late) (y +ℤ late) (λ u. omega (arith, ints)) (λ u. omega (arith, ints))
  order_by Fixed Var x y o q s t = cc
  order_by Param Var x y o q s t = cc
  order_by Var d x y o q s t = cc

pub bound_parts : (l : Lin) → is_bound l ≡ true → (is_over_n l.base ≡ true) × (is_small l.off ≡ true)
bound_parts l h = and_parts (is_over_n l.base) (is_small l.off) h

pub bound_little : (l : Lin) → is_bound l ≡ true → IsLittle l.off
bound_little l h = little_small l.off (bound_parts l h).1

-- ---- ranks

three : (a b c d e : Bool) (u v w : Bool) → a ≡ u → b ≡ v → c ≡ w → (d && (a && b)) || c ≡ (d && (u && v)) || w
three a b c d e u v w i j k = rw (i, j, k) refl

ranks_brought : (k : ℕ) (roles : List CoreRole) (n : ℤ) (role : ℕ) (x : ℤ) → late ≤ℤ n → are_roles roles ≡ true → is_seat (record { role = role; index = x }) (seats_from k roles n) ≡ is_seat (record { role = role; index = brought n x }) (seats_from k roles late)
ranks_brought k [] n role x le h = refl
ranks_brought k (r ∷ rs) n role x le h =
    let p = and_parts (is_bound r.low) (is_bound r.high && are_roles rs) h in
    let q = and_parts (is_bound r.high) (are_roles rs) p.1 in
    seat_in_role k r rs n role x
    ∙ three (int_le (value r.low n (pos 0)) x) (int_le x (value r.high n (pos 0))) _ (nat_eq role k) true _ _ _
    (below_lin n x le r.low.base r.low.off (bound_parts r.low p.0).0 (bound_little r.low p.0))
    (above_lin n x le r.high.base r.high.off (bound_parts r.high q.0).0 (bound_little r.high q.0))
    (ranks_brought (suc k) rs n role x le q.1)
    ∙ sym (seat_in_role k r rs late role (brought n x))

pub rank_brought : (roles : List CoreRole) → are_roles roles ≡ true → IsBrought (λ n role x. is_rank roles n role x)
rank_brought roles h n role x le = ranks_brought 0 roles n role x le h

-- ---- ends

pub at_brought : (e : CoreEnd) → is_over_n e.at.base ≡ true → is_small e.at.off ≡ true → IsBrought (λ n role x. is_at e n (pos 0) role x)
at_brought e o s n role x le = ap (λ t. nat_eq e.role role && t) (same_lin n x le e.at.base e.at.off o (little_small e.at.off s))

over_still : (b : Base) → is_var b ≡ false → is_over_n b ≡ true
over_still Fixed h = refl
over_still Param h = refl
over_still Var h = cc

fixed_by : (r : ℕ) (b : Base) (c : ℤ) (n : ℤ) (role : ℕ) (x : ℤ) → late ≤ℤ n → is_small c ≡ true →
    not (is_var b) && (nat_eq r role && int_eq (c +ℤ base_value b n (pos 0)) x) ≡ not (is_var b) && (nat_eq r role && int_eq (c +ℤ base_value b late (pos 0)) (brought n x))
fixed_by r Fixed c n role x le s = ap (λ t. nat_eq r role && t) (same_lin n x le Fixed c refl (little_small c s))
fixed_by r Param c n role x le s = ap (λ t. nat_eq r role && t) (same_lin n x le Param c refl (little_small c s))
fixed_by r Var c n role x le s = refl

fixed_end_brought : (e : CoreEnd) → is_small e.at.off ≡ true → IsBrought (λ n role x. is_fixed e n role x)
fixed_end_brought e s n role x le = fixed_by e.role e.at.base e.at.off n role x le s

small_end : (rows : Rows) (e : CoreEnd) → is_end rows true e ≡ true → is_small e.at.off ≡ true
small_end rows e h = (and_parts (nat_lt e.role rows.roles) (is_small e.at.off) h).1

fixed_item_brought : (rows : Rows) (s : StmtTree) → is_fair_item rows s ≡ true → IsBrought (λ n role x. is_fixed_at s n role x)
fixed_item_brought rows (T.message l f t) h n role x le =
    let two = and_parts (is_end rows true f) (is_end rows true t) h in
    ap₂ (λ u v. u || v) (fixed_end_brought f (small_end rows f two.0) n role x le) (fixed_end_brought t (small_end rows t two.1) n role x le)
fixed_item_brought rows (T.run k e) h n role x le = fixed_end_brought e (small_end rows e h) n role x le
fixed_item_brought rows (T.foreach b m items) h n role x le = refl
fixed_item_brought rows (T.loop id m body) h n role x le = refl
fixed_item_brought rows (T.again id) h n role x le = refl
fixed_item_brought rows (T.choice k e bs) h n role x le = refl
fixed_item_brought rows T.barrier h n role x le = refl
fixed_item_brought rows (T.broadcast l e) h n role x le = refl
fixed_item_brought rows (T.reduce l op e) h n role x le = refl
fixed_item_brought rows (T.allreduce l op) h n role x le = refl

pub fixed_brought : (rows : Rows) (b : BlockTree) → are_fair_items rows b ≡ true → IsBrought (λ n role x. fixed_in b n role x)
fixed_brought rows T.nothing h n role x le = refl
fixed_brought rows (T.more m s rest) h n role x le =
    let two = and_parts (is_fair_item rows s) (are_fair_items rows rest) h in
    ap₂ (λ u v. u || v) (fixed_item_brought rows s two.0 n role x le) (fixed_brought rows rest two.1 n role x le)

-- ---- for some value of a foreach's variable

little_two : (a c : ℤ) → is_small a ≡ true → is_small c ≡ true → IsLittle (a +ℤ c)
little_two a c h k = record { low = least a c h k; high = most a c h k }
  where
    least : (a c : ℤ) → is_small a ≡ true → is_small c ≡ true → negsuc 299999 ≤ℤ (a +ℤ c)
    least a c h k = grind (arith, ints)

    most : (a c : ℤ) → is_small a ≡ true → is_small c ≡ true → (a +ℤ c) ≤ℤ pos 300000
    most a c h k = grind (arith, ints)

-- an end of the bounds, moved by an offset
moved_is : (l : Lin) (c n : ℤ) → value l n (pos 0) +ℤ c ≡ (l.off +ℤ c) +ℤ base_value l.base n (pos 0)
moved_is l c n = omega (arith, ints)

passed_brought : (over : Bounds) (c : ℤ) → is_bound over.low ≡ true → is_bound over.high ≡ true → is_small c ≡ true → (n x : ℤ) → late ≤ℤ n →
    int_le (value over.low n (pos 0) +ℤ c) x && int_le x (value over.high n (pos 0) +ℤ c) ≡ int_le (value over.low late (pos 0) +ℤ c) (brought n x) && int_le (brought n x) (value over.high late (pos 0) +ℤ c)
passed_brought over c hl hh s n x le =
    let a = bound_parts over.low hl in
    let b = bound_parts over.high hh in
    ap₂ (λ u v. u && v)
    (ap (λ z. int_le z x) (moved_is over.low c n) ∙ below_lin n x le over.low.base (over.low.off +ℤ c) a.0 (little_two over.low.off c a.1 s) ∙ ap (λ z. int_le z (brought n x)) (sym (moved_is over.low c late)))
    (ap (λ z. int_le x z) (moved_is over.high c n) ∙ above_lin n x le over.high.base (over.high.off +ℤ c) b.0 (little_two over.high.off c b.1 s) ∙ ap (λ z. int_le (brought n x) z) (sym (moved_is over.high c late)))

valued_brought : (over : Bounds) → is_bound over.low ≡ true → is_bound over.high ≡ true → (n : ℤ) → late ≤ℤ n → int_le (value over.low n (pos 0)) (value over.high n (pos 0)) ≡ int_le (value over.low late (pos 0)) (value over.high late (pos 0))
valued_brought over hl hh n le =
    let a = bound_parts over.low hl in
    let b = bound_parts over.high hh in
    order_by n le over.low.base over.high.base over.low.off over.high.off a.0 b.0 (bound_little over.low hl) (bound_little over.high hh)

pub segment_brought : (over : Bounds) (k : ℕ) (c : ℤ) → is_bound over.low ≡ true → is_bound over.high ≡ true → is_small c ≡ true → IsBrought (λ n role x. in_segment over k c n (pos 0) role x)
segment_brought over k c hl hh s n role x le = ap (λ t. nat_eq k role && t) (passed_brought over c hl hh s n x le)

met_by : (over : Bounds) (r : ℕ) (b : Base) (c : ℤ) → is_bound over.low ≡ true → is_bound over.high ≡ true → is_small c ≡ true → (n : ℤ) (role : ℕ) (x : ℤ) → late ≤ℤ n →
    nat_eq r role && (if is_var b then int_le (value over.low n (pos 0) +ℤ c) x && int_le x (value over.high n (pos 0) +ℤ c) else int_le (value over.low n (pos 0)) (value over.high n (pos 0)) && int_eq (c +ℤ base_value b n (pos 0)) x)
    ≡ nat_eq r role && (if is_var b then int_le (value over.low late (pos 0) +ℤ c) (brought n x) && int_le (brought n x) (value over.high late (pos 0) +ℤ c) else int_le (value over.low late (pos 0)) (value over.high late (pos 0)) && int_eq (c +ℤ base_value b late (pos 0)) (brought n x))
met_by over r Fixed c hl hh s n role x le = ap₂ (λ u v. nat_eq r role && (u && v)) (valued_brought over hl hh n le) (same_lin n x le Fixed c refl (little_small c s))
met_by over r Param c hl hh s n role x le = ap₂ (λ u v. nat_eq r role && (u && v)) (valued_brought over hl hh n le) (same_lin n x le Param c refl (little_small c s))
met_by over r Var c hl hh s n role x le = ap (λ t. nat_eq r role && t) (passed_brought over c hl hh s n x le)

pub met_brought : (over : Bounds) (e : CoreEnd) → is_bound over.low ≡ true → is_bound over.high ≡ true → is_small e.at.off ≡ true → IsBrought (λ n role x. is_met e (value over.low n (pos 0)) (value over.high n (pos 0)) n role x)
met_brought over e hl hh s n role x le = met_by over e.role e.at.base e.at.off hl hh s n role x le

pub bounds_brought : (over : Bounds) → is_bound over.low ≡ true → is_bound over.high ≡ true → (n : ℤ) → late ≤ℤ n → int_le (value over.low n (pos 0)) (value over.high n (pos 0)) ≡ int_le (value over.low late (pos 0)) (value over.high late (pos 0))
bounds_brought = valued_brought
