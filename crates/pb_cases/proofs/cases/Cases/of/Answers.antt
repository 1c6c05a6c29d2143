use Rattle.std.proofs.Common.{◌<◌, ◌^◌, refl, subst, sym, arith, List}
use Rattle.pb_affine.specs.declared.lin.Lin.{Lin}
use Rattle.pb_cases.specs.Breakpoints.{IsDivision}
use Rattle.pb_cases.proofs.Built.{divided, near_list}
use Rattle.pb_cases.proofs.cases.Cases.of.Goals as goal

pub invariant_of-result : goal.invariant_of-result
invariant_of-result c =
    let low : c.args.range.low < 2 ^ 32 = omega (arith, c.low_of-low.ensures.is, c.low_of-low.ensures.fits) in
    let all = c.in_ok-breakpoints.ensures in
    let items = c.in_ok-breakpoints.breakpoints.items in (
      subst (λ (l : List Lin). IsDivision (record { range = c.args.range; cuts = l; breakpoints = items })) (sym c.in_ok-cuts.ensures) (divided c.args.range c.args.cuts.now items c.requires.cuts all),
      near_list c.args.range c.args.cuts.now items low c.requires.cuts all.part,
    )

pub returns : goal.returns
returns c =
    let all = c.in_ok-breakpoints.ensures in
    let items = c.in_ok-breakpoints.breakpoints.items in
    (refl, c.in_ok-cuts.ensures, subst (λ (l : List Lin). IsDivision (record { range = c.args.range; cuts = l; breakpoints = items })) (sym c.in_ok-cuts.ensures) (divided c.args.range c.args.cuts.now items c.requires.cuts all), all.few)
