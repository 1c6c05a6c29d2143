-- How many more roles a sum has room for.
use Rattle.std.proofs.Common.{◌≡◌, ℕ, suc, pos, ◌+ℤ◌, ◌-ℤ◌, ◌≤ℤ◌, ap, arith}
use Rattle.std.proofs.lemmas.Int.{ints}
use Rattle.pb_affine.specs.declared.lin.Base.{Base}
use Rattle.pb_affine.specs.declared.lin.Base.TheVariants.{Fixed, Param, Var}
use Rattle.pb_local.specs.declared.tables.Role.{Role}
use Rattle.pb_local.specs.Ranks.{Sum, factor, with_role}
use Rattle.pb_ctree.specs.declared.tree.Formula.{Formula}
use Rattle.pb_ctree.specs.Sums.{HasSmallEnds, HasRoomFor, HasRoom}
use Rattle.pb_ctree.specs.Trees.{sum_of}

factor_some : (b : Base) → pos 0 ≤ℤ factor b
factor_some Fixed = omega (arith, ints)
factor_some Param = omega (arith, ints)
factor_some Var = omega (arith, ints)

factor_most : (b : Base) → factor b ≤ℤ pos 1
factor_most Fixed = omega (arith, ints)
factor_most Param = omega (arith, ints)
factor_most Var = omega (arith, ints)

pub room_after : (roles left : ℕ) (f g : Formula) (r : Role) → HasRoomFor roles f → HasSmallEnds r → sum_of g ≡ with_role (sum_of f) r → roles ≡ suc left → HasRoomFor left g
room_after roles left f g r room small is next =
    let a_is : g.a ≡ f.a +ℤ factor r.high.base -ℤ factor r.low.base = ap (λ (x : Sum). x.a) is in
    let b_is : g.b ≡ f.b +ℤ r.high.off -ℤ r.low.off +ℤ pos 1 = ap (λ (x : Sum). x.b) is in
    record {
      a_low = omega (arith, ints, room.a_low, a_is, next, factor_some r.high.base, factor_most r.low.base);
      a_high = omega (arith, ints, room.a_high, a_is, next, factor_most r.high.base, factor_some r.low.base);
      b_low = omega (arith, ints, room.b_low, b_is, next, small.low.low, small.low.high, small.high.low, small.high.high);
      b_high = omega (arith, ints, room.b_high, b_is, next, small.low.low, small.low.high, small.high.low, small.high.high);
    }

pub room_now : (roles : ℕ) (f : Formula) → HasRoomFor roles f → HasRoom f
room_now roles f room = record {
  a_low = omega (arith, ints, room.a_low);
  a_high = omega (arith, ints, room.a_high);
  b_low = omega (arith, ints, room.b_low);
  b_high = omega (arith, ints, room.b_high);
}
