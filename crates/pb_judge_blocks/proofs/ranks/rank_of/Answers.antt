use Rattle.std.proofs.Common.{rules, to_z-of_z, SFits, w64, arith}
use Rattle.pb_affine.specs.Values.{value}
use Rattle.pb_judge_blocks.proofs.Numbering.{none_passed, passes_role, finds_role, all_passed, zero_turn, zero_near, turn_fits}
use Rattle.pb_judge_blocks.proofs.ranks.rank_of.Goals as goal

pub loop-number-init : goal.loop-number-init
loop-number-init c = λ st tu. none_passed _ _ _

pub loop-number-preserved : goal.loop-number-preserved
loop-number-preserved c = λ st tu.
    let site = c.args.site.now in
    let low = c.value-low.ensures.turn st.near zero_near in
    let high = c.value-high.ensures.turn st.near zero_near in
    let fits_low : SFits w64 c.value-low.result = turn_fits _ low in
    let fits_high : SFits w64 c.value-high.result = turn_fits _ high in
    let fits : SFits w64 c.value-index.result = search rules in
    let counted = simp to_z-of_z at c.count.ensures in
    let apart = simp to_z-of_z at c.in-None.ensures in
    passes_role site.roles.now site.n (value c.args.end.now.at site.n c.args.i.now) c.args.end.now.role c.loop-number.number c.loop-number.before c.role-item.result c.loop-number-test.true c.role-item.is (c.loop-number.invariant st tu)
    c.value-low.result c.value-high.result c.value-index.result c.count.result c.behind-before.result st.few (c.value-low.ensures.value st.near zero_turn) (c.value-high.ensures.value st.near zero_turn) (c.value-index.ensures.value st.near tu) (counted low high)
    (λ same a b. apart low high same a b) c.behind-before.ensures

pub returns-in-Some : goal.returns-in-Some
returns-in-Some c = λ st tu.
    let site = c.args.site.now in
    let low = c.value-low.ensures.turn st.near zero_near in
    let high = c.value-high.ensures.turn st.near zero_near in
    let fits_low : SFits w64 c.value-low.result = turn_fits _ low in
    let fits_high : SFits w64 c.value-high.result = turn_fits _ high in
    let fits : SFits w64 c.value-index.result = search rules in
    let found = simp to_z-of_z at c.in-Some.ensures in
    finds_role site.roles.now site.n (value c.args.end.now.at site.n c.args.i.now) c.args.end.now.role c.loop-number.number c.loop-number.before c.role-item.result c.loop-number-test.true c.role-item.is (c.loop-number.invariant st tu)
    c.value-low.result c.value-high.result c.value-index.result c.in-Some.far c.behind.result st.few (c.value-low.ensures.value st.near zero_turn) (c.value-high.ensures.value st.near zero_turn) (c.value-index.ensures.value st.near tu)
    found.0 found.1 found.2 found.3 c.behind.ensures

pub returns : goal.returns
returns c = λ st tu. all_passed _ _ _ c.loop-number.number c.loop-number.before (omega (arith, c.loop-number-test.false)) (c.loop-number.invariant st tu)
