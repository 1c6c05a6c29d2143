use Rattle.std.proofs.Common.{◌≡◌, rules, SFits, w64, to_z-of_z, ◌≤ℤ◌, ◌-ℤ◌, ◌+ℤ◌, pos, inl, inr, refl, arith, ℤ, true, false}
use lib.Signed.{lt_z}
use Rattle.std.proofs.lemmas.Int.{ints}
use Rattle.pb_part_first.proofs.Firsts.{grown_earliest}
use Rattle.pb_part_first.proofs.first.grown_start.Goals as goal

less_is : (a b : ℤ) → lt_z a b ≡ true → a ≤ℤ b
less_is a b h = grind (arith, ints)

not_less_is : (a b : ℤ) → lt_z a b ≡ false → b ≤ℤ a
not_less_is a b h = grind (arith, ints)

pub returns-then-from-gap-clause-is : goal.returns-then-from-gap-clause-is
returns-then-from-gap-clause-is c =
    let a = c.args.a in
    let from = c.start_of-from in
    let gap = c.gap_of-gap in
    let from_fits : SFits w64 from.result = search rules in
    let gap_fits : SFits w64 gap.result = search rules in
    let test = simp to_z-of_z at c.if-from-gap.true in
    let over : from.result ≤ℤ gap.result = less_is from.result gap.result test in
    let own : ((a.low.off -ℤ a.end.off) +ℤ pos 1) ≤ℤ gap.result = omega (arith, ints, gap.ensures.is) in
    simp to_z-of_z (grown_earliest a c.args.range from.result gap.result c.requires.still c.requires.grows from.ensures.from from.ensures.low from.ensures.either over own (inr gap.ensures.is))

pub returns-else-from-gap-clause-is : goal.returns-else-from-gap-clause-is
returns-else-from-gap-clause-is c =
    let a = c.args.a in
    let from = c.start_of-from in
    let gap = c.gap_of-gap in
    let from_fits : SFits w64 from.result = search rules in
    let gap_fits : SFits w64 gap.result = search rules in
    let test = simp to_z-of_z at c.if-from-gap.false in
    let over : from.result ≤ℤ from.result = omega (arith, ints) in
    let less : gap.result ≤ℤ from.result = not_less_is from.result gap.result test in
    let own : ((a.low.off -ℤ a.end.off) +ℤ pos 1) ≤ℤ from.result = omega (arith, ints, gap.ensures.is) in
    simp to_z-of_z (grown_earliest a c.args.range from.result from.result c.requires.still c.requires.grows from.ensures.from from.ensures.low from.ensures.either over own (inl refl))
