-- What a foreach sends: so much for each value of its variable.
use Rattle.std.proofs.Common.{◌≡◌, ◌<◌, ◌≤◌, ◌+◌, ◌*◌, zero, suc, ℕ, Bool, true, false, ◌&&◌, ℤ, pos, negsuc, ◌+ℤ◌, ◌-ℤ◌, ◌*ℤ◌, ◌≤ℤ◌, int_le, List, refl, sym, ap, ap₂, ◌∙◌, subst, arith}
use Rattle.std.proofs.Math.Nat.{mul_comm}
use Rattle.std.proofs.lemmas.Int.{ints, clamps}
use Rattle.std.proofs.lemmas.Bool.{and_parts}
use Rattle.std.specs.Int.{int_max}
use lib.IntN.{neg_ℤ, zero-*ℤ, suc_ℤ-*ℤ}
use Rattle.pb_affine.specs.declared.lin.Base.{Base}
use Rattle.pb_affine.specs.declared.lin.Base.TheVariants.{Fixed, Param, Var}
use Rattle.pb_affine.specs.declared.lin.Lin.{Lin}
use Rattle.pb_affine.specs.Values.{value, count_of, count_from}
use Rattle.pb_syntax.specs.declared.core_label.CoreLabel.{CoreLabel}
use Rattle.pb_core_language.specs.Sound.{is_bound, is_item, is_small, is_over_n}
use Rattle.pb_core_language.specs.Tree.{Mark, StmtTree, message, foreach, loop, again, choice, run, barrier, broadcast, reduce, allreduce, BlockTree, nothing, more}
use Rattle.pb_cost_pieces.specs.declared.ray.Ray.{Ray}
use Rattle.pb_cost_pieces.specs.Joined.{ray_at}
use Rattle.pb_cost_pieces.specs.Lines.{along}
use Rattle.pb_cost_pieces.proofs.Lines.{along_is, along_flat, along_difference}
use Rattle.pb_cost_pieces.proofs.Products.{times_sum, sum_times}
use Rattle.pb_cost_joins.specs.declared.count.Count.{Count}
use Rattle.pb_cost_joins.specs.declared.span.Span.{Span}
use Rattle.pb_cost_joins.specs.declared.line.Line.{Line}
use Rattle.pb_cost_joins.specs.Counts.{IsCount, Says}
use Rattle.pb_cost_joins.specs.Clipped.{clipped, IsMild}
use Rattle.pb_cost_laws.specs.Sent.{Counted, Way}
use Rattle.pb_cost_laws.specs.Trees as T
use Rattle.pb_cost_laws.specs.Trees.{sum_over}
use Rattle.pb_cost_blocks.specs.declared.asked.Asked.{Asked}
use Rattle.pb_cost_blocks.specs.declared.end.End.{End}
use Rattle.pb_cost_blocks.specs.Asked.{way_of, counted, size_in}
use Rattle.pb_cost_blocks.specs.Few.{stmt_at}
use Rattle.pb_cost_blocks.specs.Fit.{are_items, weight_of, weight_of_stmt}
use Rattle.pb_cost_blocks.specs.Sums.{IsOnce}
use Rattle.pb_cost_blocks.specs.Values.{IsEndOf, IsValuesOf}
use Rattle.pb_cost_blocks.proofs.Products.{times_le}
use Rattle.pb_cost_blocks.proofs.Steps.{StmtTold}

-- ---- the items, once

module _ (way : Way) (what : Counted) (size : ℕ → ℕ) (n i : ℤ) where
  item_once : (stmt : StmtTree) → is_item stmt ≡ true → T.of_stmt way what size n i stmt ≡ weight_of_stmt what size stmt
  item_once (message label from to) h = refl
  item_once (foreach bounds mark items) h = absurd (let e : false ≡ true = h in cc)
  item_once (loop id mark body) h = absurd (let e : false ≡ true = h in cc)
  item_once (again id) h = absurd (let e : false ≡ true = h in cc)
  item_once (choice kernel at branches) h = absurd (let e : false ≡ true = h in cc)
  item_once (run kernel at) h = refl
  item_once barrier h = absurd (let e : false ≡ true = h in cc)
  item_once (broadcast label root) h = absurd (let e : false ≡ true = h in cc)
  item_once (reduce label op root) h = absurd (let e : false ≡ true = h in cc)
  item_once (allreduce label op) h = absurd (let e : false ≡ true = h in cc)

  pub items_once : (items : BlockTree) → are_items items ≡ true → T.of_block way what size n i items ≡ weight_of what size items
  items_once nothing h = refl
  items_once (more mark first rest) h = ap₂ (λ x y. x + y) (item_once first (and_parts (is_item first) (are_items rest) h).0) (items_once rest (and_parts (is_item first) (are_items rest) h).1)

-- ---- one item more

once_begun : (w : ℕ) → w ≡ 0 + w
once_begun w = omega arith

once_moved : (w o f r : ℕ) → w ≡ o + (f + r) → w ≡ (o + f) + r
once_moved w o f r e = omega (arith, e)

once_heavy : (w o f r : ℕ) → w ≡ o + (f + r) → 4100000 < (o + f) → w ≤ 4100000 → ⊥
once_heavy w o f r e h k = omega (arith, e, h, k)

once_ended : (w o : ℕ) → w ≡ o + 0 → w ≡ o
once_ended w o e = omega (arith, e)

module _ (asked : Asked) (labels : List CoreLabel) where
  pub once_begins : (items : BlockTree) → IsOnce asked labels 0 items items
  once_begins items = record { all_items = λ h. h; rest_items = λ h. h; weighs = once_begun (weight_of (counted asked.what) (size_in labels) items); light = omega arith }

  pub once_ends : (once : ℕ) (items : BlockTree) → IsOnce asked labels once nothing items → (are_items items ≡ true) × (weight_of (counted asked.what) (size_in labels) items ≡ once) × (once ≤ 4100000)
  once_ends once items so_far = (so_far.all_items refl, once_ended (weight_of (counted asked.what) (size_in labels) items) once so_far.weighs, so_far.light)

  module _ (once : ℕ) (mark : Mark) (first : StmtTree) (rest items : BlockTree) (so_far : IsOnce asked labels once (more mark first rest) items) where
    pub item_not : (is_item first ≡ true → ⊥) → are_items items ≡ true → weight_of (counted asked.what) (size_in labels) items ≤ 4100000 → ⊥
    item_not h are light = h (and_parts (is_item first) (are_items rest) (so_far.rest_items are)).0

    module _ (f now : ℕ) (is : is_item first ≡ true) (weighs : weight_of_stmt (counted asked.what) (size_in labels) first ≡ f) (now_is : now ≡ once + f) where
      with_weight : weight_of (counted asked.what) (size_in labels) items ≡ once + (f + weight_of (counted asked.what) (size_in labels) rest)
      with_weight = so_far.weighs ∙ ap (λ x. once + (x + weight_of (counted asked.what) (size_in labels) rest)) weighs

      pub items_heavy : 4100000 < now → are_items items ≡ true → weight_of (counted asked.what) (size_in labels) items ≤ 4100000 → ⊥
      items_heavy h are light = once_heavy (weight_of (counted asked.what) (size_in labels) items) once f (weight_of (counted asked.what) (size_in labels) rest) with_weight (subst (λ x. 4100000 < x) now_is h) light

      pub once_goes_on : now ≤ 4100000 → IsOnce asked labels now rest items
      once_goes_on light = record {
        all_items = λ h. so_far.all_items (and_both (is_item first) (are_items rest) is h);
        rest_items = λ h. (and_parts (is_item first) (are_items rest) (so_far.rest_items h)).1;
        weighs = once_moved (weight_of (counted asked.what) (size_in labels) items) once f (weight_of (counted asked.what) (size_in labels) rest) with_weight ∙ ap (λ x. x + weight_of (counted asked.what) (size_in labels) rest) (sym now_is);
        light = light;
      } where
        and_both : (a b : Bool) → a ≡ true → b ≡ true → (a && b) ≡ true
        and_both a b ea eb = ap₂ (λ x y. x && y) ea eb

-- ---- the sum over the values

times_suc : (o k s : ℕ) → s ≡ k * o → o + s ≡ suc k * o
times_suc o k s e = omega (arith, e)

pub none_of : (a : ℕ) → 0 ≡ 0 * a
none_of a = omega arith

pub same_sum : (f : ℤ → ℕ) (once : ℕ) → ((j : ℤ) → f j ≡ once) → (k : ℕ) (a : ℤ) → sum_over f (count_from k a) ≡ k * once
same_sum f once same zero a = none_of once
same_sum f once same (suc k) a = ap (λ x. x + sum_over f (count_from k (a +ℤ pos 1))) (same a) ∙ times_suc once k (sum_over f (count_from k (a +ℤ pos 1))) (same_sum f once same k (a +ℤ pos 1))

-- a product that is cut off at zero
nat_max : (x : ℕ) → int_max (pos 0) (pos x) ≡ pos x
nat_max x = omega (arith, ints, clamps)

neg_max : (x : ℕ) → int_max (pos 0) (neg_ℤ (pos x)) ≡ pos 0
neg_max x = omega (arith, ints, clamps)

pub cut_product : (once : ℕ) (v : ℤ) → int_max (pos 0) (pos once *ℤ v) ≡ pos (count_of v * once)
cut_product once (pos k) = nat_max (once * k) ∙ ap pos (mul_comm once k)
cut_product once (negsuc k) = neg_max (once * suc k) ∙ ap pos (none_of once)

-- ---- lines

times_over : (a : ℕ) (b c : ℤ) → (pos a *ℤ b) *ℤ c ≡ pos a *ℤ (b *ℤ c)
times_over zero b c = ap (λ x. x *ℤ c) (zero-*ℤ b) ∙ zero-*ℤ c ∙ sym (zero-*ℤ (b *ℤ c))
times_over (suc a) b c =
    ap (λ x. x *ℤ c) (suc_ℤ-*ℤ (pos a) b)
    ∙ sum_times (pos a *ℤ b) b c
    ∙ ap (λ x. x +ℤ b *ℤ c) (times_over a b c)
    ∙ sym (suc_ℤ-*ℤ (pos a) (b *ℤ c))

along_times : (w : ℕ) (start slope from n : ℤ) → along (pos w *ℤ start) (pos w *ℤ slope) from n ≡ pos w *ℤ along start slope from n
along_times w start slope from n =
    along_is (pos w *ℤ start) (pos w *ℤ slope) from n
    ∙ ap (λ x. pos w *ℤ start +ℤ x) (times_over w slope (n -ℤ from))
    ∙ sym (times_sum (pos w) start (slope *ℤ (n -ℤ from)))
    ∙ ap (λ x. pos w *ℤ x) (sym (along_is start slope from n))

one_up : (x y s p : ℤ) → x ≡ (s +ℤ pos 1) +ℤ p → y ≡ s +ℤ p → x ≡ y +ℤ pos 1
one_up x y s p e f = omega (arith, ints, e, f)

along_up : (start slope from n : ℤ) → along (start +ℤ pos 1) slope from n ≡ along start slope from n +ℤ pos 1
along_up start slope from n = one_up _ _ start (slope *ℤ (n -ℤ from)) (along_is (start +ℤ pos 1) slope from n) (along_is start slope from n)

-- ---- the ends of a foreach

pub small_low : (x : ℤ) → is_small x ≡ true → negsuc 99999 ≤ℤ x
small_low x h = within (negsuc 99999) x (and_parts (int_le (negsuc 99999) x) (int_le x (pos 100000)) h).0 where
  within : (n m : ℤ) → int_le n m ≡ true → n ≤ℤ m
  within n m h = omega (arith, ints, h)

pub small_high : (x : ℤ) → is_small x ≡ true → x ≤ℤ pos 100000
small_high x h = within x (pos 100000) (and_parts (int_le (negsuc 99999) x) (int_le x (pos 100000)) h).1 where
  within : (n m : ℤ) → int_le n m ≡ true → n ≤ℤ m
  within n m h = omega (arith, ints, h)

fixed_low : (v x : ℤ) → v ≡ x +ℤ pos 0 → negsuc 99999 ≤ℤ x → negsuc 99999 ≤ℤ v
fixed_low v x e h = omega (arith, ints, e, h)

fixed_high : (v x : ℤ) → v ≡ x +ℤ pos 0 → x ≤ℤ pos 100000 → v ≤ℤ pos 900000100000
fixed_high v x e h = omega (arith, ints, e, h)

no_base : (v x : ℤ) → v ≡ x +ℤ pos 0 → x ≡ v
no_base v x e = omega (arith, ints, e)

param_low : (v x n from : ℤ) → v ≡ x +ℤ n → negsuc 99999 ≤ℤ x → pos 0 ≤ℤ from → from ≤ℤ n → negsuc 99999 ≤ℤ v
param_low v x n from e h k l = omega (arith, ints, e, h, k, l)

param_high : (v x n to : ℤ) → v ≡ x +ℤ n → x ≤ℤ pos 100000 → n ≤ℤ to → to ≤ℤ pos 900000000000 → v ≤ℤ pos 900000100000
param_high v x n to e h k l = omega (arith, ints, e, h, k, l)

param_line : (v w x n from : ℤ) → v ≡ x +ℤ n → w ≡ (from +ℤ x) +ℤ pos 1 *ℤ (n -ℤ from) → w ≡ v
param_line v w x n from e f = omega (arith, ints, e, f)

value_as : (lin : Lin) (base : Base) (n : ℤ) → lin.base ≡ base → value lin n (pos 0) ≡ value (record { base = base; off = lin.off }) n (pos 0)
value_as lin base n e = ap (λ b. value (record { base = b; off = lin.off }) n (pos 0)) e

line_as : (e : End) (start slope from n : ℤ) → e.start ≡ start → e.slope ≡ slope → along e.start e.slope from n ≡ along start slope from n
line_as e start slope from n s t = ap₂ (λ x y. along x y from n) s t

pub fixed_found : (span : Span) (lin : Lin) (e : End) (off : ℤ) → lin.base ≡ Fixed → off ≡ lin.off → is_small off ≡ true → e.start ≡ off → e.slope ≡ pos 0 → (is_bound lin ≡ true) × IsEndOf span lin e
fixed_found span lin e off base same small start slope = (
  bound,
  record {
    is = λ n. line_as e lin.off (pos 0) span.from n (start ∙ same) slope ∙ along_flat lin.off span.from n ∙ no_base (value lin n (pos 0)) lin.off (value_as lin Fixed n base);
    low = λ n from. fixed_low (value lin n (pos 0)) lin.off (value_as lin Fixed n base) (small_low lin.off own);
    high = λ n to from. fixed_high (value lin n (pos 0)) lin.off (value_as lin Fixed n base) (small_high lin.off own);
  },
) where
  own : is_small lin.off ≡ true
  own = subst (λ x. is_small x ≡ true) same small

  bound : is_bound lin ≡ true
  bound = ap (λ b. is_over_n b && is_small lin.off) base ∙ own

pub param_found : (span : Span) (lin : Lin) (e : End) (off : ℤ) → lin.base ≡ Param → off ≡ lin.off → is_small off ≡ true → e.start ≡ span.from +ℤ off → e.slope ≡ pos 1 → (is_bound lin ≡ true) × IsEndOf span lin e
param_found span lin e off base same small start slope = (
  bound,
  record {
    is = λ n. param_line (value lin n (pos 0)) _ lin.off n span.from (value_as lin Param n base) (line_as e (span.from +ℤ lin.off) (pos 1) span.from n (start ∙ ap (λ x. span.from +ℤ x) same) slope ∙ along_is (span.from +ℤ lin.off) (pos 1) span.from n);
    low = λ n from. param_low (value lin n (pos 0)) lin.off n span.from (value_as lin Param n base) (small_low lin.off own) span.from_low from;
    high = λ n to from. param_high (value lin n (pos 0)) lin.off n span.to (value_as lin Param n base) (small_high lin.off own) to span.to_high;
  },
) where
  own : is_small lin.off ≡ true
  own = subst (λ x. is_small x ≡ true) same small

  bound : is_bound lin ≡ true
  bound = ap (λ b. is_over_n b && is_small lin.off) base ∙ own

-- no end of a foreach
pub var_not : (lin : Lin) → lin.base ≡ Var → is_bound lin ≡ true → ⊥
var_not lin base h = absurd_of (sym (ap (λ b. is_over_n b && is_small lin.off) base) ∙ h) where
  absurd_of : false ≡ true → ⊥
  absurd_of e = cc

pub far_not : (lin : Lin) (off : ℤ) → off ≡ lin.off → is_small off ≡ false → is_bound lin ≡ true → ⊥
far_not lin off same far h = absurd_of (sym (ap is_small same ∙ ((and_parts (is_over_n lin.base) (is_small lin.off) h).1)) ∙ far) where
  absurd_of : true ≡ false → ⊥
  absurd_of e = cc

-- ---- how many values there are

range_low : (r h l : ℤ) → r ≡ (h +ℤ pos 1) -ℤ l → negsuc 99999 ≤ℤ h → l ≤ℤ pos 900000100000 → negsuc 900000200000 ≤ℤ r
range_low r h l e a b = omega (arith, ints, e, a, b)

range_high : (r h l : ℤ) → r ≡ (h +ℤ pos 1) -ℤ l → h ≤ℤ pos 900000100000 → negsuc 99999 ≤ℤ l → r ≤ℤ pos 900000200001
range_high r h l e a b = omega (arith, ints, e, a, b)

slope_least : (r h l : ℤ) → r ≡ h -ℤ l → pos 0 ≤ℤ h → l ≤ℤ pos 1 → negsuc 0 ≤ℤ r
slope_least r h l e a b = omega (arith, ints, e, a, b)

slope_most : (r h l : ℤ) → r ≡ h -ℤ l → h ≤ℤ pos 1 → pos 0 ≤ℤ l → r ≤ℤ pos 1
slope_most r h l e a b = omega (arith, ints, e, a, b)

pub values_are : (span : Span) (low high : Lin) (first last : End) (ray : Ray) → IsEndOf span low first → IsEndOf span high last → ray.start ≡ (last.start +ℤ pos 1) -ℤ first.start → ray.slope ≡ last.slope -ℤ first.slope → IsValuesOf span low high ray
values_are span low high first last ray a b start slope = record {
  is = line;
  least = λ n from to. range_low (ray_at ray span.from n) (value high n (pos 0)) (value low n (pos 0)) (line n) (b.low n from) (a.high n to from);
  most = λ n from to. range_high (ray_at ray span.from n) (value high n (pos 0)) (value low n (pos 0)) (line n) (b.high n to from) (a.low n from);
  start_low = range_low ray.start last.start first.start start last.start_low first.start_high;
  start_high = range_high ray.start last.start first.start start last.start_high first.start_low;
  slope_low = slope_least ray.slope last.slope first.slope slope last.slope_low first.slope_high;
  slope_high = slope_most ray.slope last.slope first.slope slope last.slope_high first.slope_low;
} where
  line : (n : ℤ) → ray_at ray span.from n ≡ (value high n (pos 0) +ℤ pos 1) -ℤ value low n (pos 0)
  line n =
      ap₂ (λ x y. along x y span.from n) start slope
      ∙ along_difference (last.start +ℤ pos 1) first.start last.slope first.slope span.from n
      ∙ ap₂ (λ x y. x -ℤ y) (along_up last.start last.slope span.from n ∙ ap (λ x. x +ℤ pos 1) (b.is n)) (a.is n)

-- ---- the whole line

mild_low : (p q w : ℤ) → p ≡ q → (w *ℤ negsuc 900000200000) ≤ℤ q → pos 0 ≤ℤ (p +ℤ w *ℤ pos 900000200001)
mild_low p q w e h = omega (arith, ints, e, h)

mild_slope : (p q w : ℤ) → p ≡ q → (w *ℤ negsuc 0) ≤ℤ q → pos 0 ≤ℤ (p +ℤ w)
mild_slope p q w e h = omega (arith, ints, e, h)

mild_steep : (p q w : ℤ) → p ≡ q → q ≤ℤ (w *ℤ pos 1) → p ≤ℤ w
mild_steep p q w e h = omega (arith, ints, e, h)

le_from : (p q m : ℤ) → p ≡ q → q ≤ℤ m → p ≤ℤ m
le_from p q m e h = omega (arith, ints, e, h)

weight_small : (once : ℕ) (w : ℤ) → w ≡ pos once → once ≤ 4100000 → w ≤ℤ pos 4100000
weight_small once w e h = omega (arith, ints, e, h)

weight_natural : (once : ℕ) (w : ℤ) → w ≡ pos once → pos 0 ≤ℤ w
weight_natural once w e = omega (arith, ints, e)

module _ (span : Span) (low high : Lin) (ray : Ray) (values : IsValuesOf span low high ray) (once : ℕ) (line : Line) (weight : line.weight ≡ pos once) (start : line.ray.start ≡ pos once *ℤ ray.start) (slope : line.ray.slope ≡ pos once *ℤ ray.slope) where
  line_is : (n : ℤ) → ray_at line.ray span.from n ≡ pos once *ℤ ray_at ray span.from n
  line_is n = ap₂ (λ x y. along x y span.from n) start slope ∙ along_times once ray.start ray.slope span.from n

  weighted : (x : ℤ) → pos once *ℤ x ≡ line.weight *ℤ x
  weighted x = ap (λ w. w *ℤ x) (sym weight)

  pub line_mild : once ≤ 4100000 → IsMild span line
  line_mild light = record {
    weight_low = natural;
    weight_high = weight_small once line.weight weight light;
    slope_low = mild_slope line.ray.slope (line.weight *ℤ ray.slope) line.weight (slope ∙ weighted ray.slope) (times_le line.weight (negsuc 0) ray.slope natural values.slope_low);
    slope_high = mild_steep line.ray.slope (line.weight *ℤ ray.slope) line.weight (slope ∙ weighted ray.slope) (times_le line.weight ray.slope (pos 1) natural values.slope_high);
    low = λ n from to. mild_low (ray_at line.ray span.from n) (line.weight *ℤ ray_at ray span.from n) line.weight (line_is n ∙ weighted (ray_at ray span.from n)) (times_le line.weight (negsuc 900000200000) (ray_at ray span.from n) natural (values.least n from to));
    high = λ n from to. le_from (ray_at line.ray span.from n) (line.weight *ℤ ray_at ray span.from n) (line.weight *ℤ pos 900000200001) (line_is n ∙ weighted (ray_at ray span.from n)) (times_le line.weight (ray_at ray span.from n) (pos 900000200001) natural (values.most n from to));
  } where
    natural : pos 0 ≤ℤ line.weight
    natural = weight_natural once line.weight weight

  line_clipped : (n : ℤ) → clipped span line n ≡ pos (count_of ((value high n (pos 0) +ℤ pos 1) -ℤ value low n (pos 0)) * once)
  line_clipped n = ap (λ x. int_max (pos 0) x) (line_is n ∙ ap (λ x. pos once *ℤ x) (values.is n)) ∙ cut_product once ((value high n (pos 0) +ℤ pos 1) -ℤ value low n (pos 0))

  pub foreach_told : (asked : Asked) (labels : List CoreLabel) (mark : Mark) (items : BlockTree) (c : Count) → asked.span ≡ span → are_items items ≡ true → weight_of (counted asked.what) (size_in labels) items ≡ once →
      IsCount c → Says c (clipped span line) → c.span ≡ span → c.weight ≡ line.weight → StmtTold asked labels (foreach (record { low = low; high = high }) mark items) c
  foreach_told asked labels mark items c asked_on are is count says on weighs = record {
    count = count;
    on = on ∙ sym asked_on;
    says = record { is = λ n from to. says.is n from to ∙ line_clipped n ∙ sym (ap pos (each_once n)) };
    weighs = weighs ∙ weight ∙ ap pos (sym is);
    parts = tt;
  } where
    each_once : (n : ℤ) → stmt_at asked labels (foreach (record { low = low; high = high }) mark items) n ≡ count_of ((value high n (pos 0) +ℤ pos 1) -ℤ value low n (pos 0)) * once
    each_once n =
        same_sum (λ j. T.of_block (way_of asked.way) (counted asked.what) (size_in labels) n j items) once (λ j. items_once (way_of asked.way) (counted asked.what) (size_in labels) n j items are ∙ is)
        (count_of ((value high n (pos 0) +ℤ pos 1) -ℤ value low n (pos 0))) (value low n (pos 0))
