use Rattle.std.proofs.Common.{◌≡◌, ap, sym, ◌∙◌, pos, ◌+ℤ◌, w64, to_z, of_z, arith}
use Rattle.std.specs.Prelude.{◌-ℤ◌}
use Rattle.std.proofs.lemmas.Int.{ints}
use Rattle.pb_affine.specs.Values.{value, count_of}
use Rattle.pb_judge_log.proofs.Counts.{range_length, bound_within}
use Rattle.pb_judge_log.proofs.ranks.indices.Goals as goal

pub returns : goal.returns
returns c =
    let n = c.args.n in
    let l = c.value-low.result in
    let h = c.value-high.result in
    let n_is : to_z w64 (of_z w64 n) ≡ n = omega (arith, ints) in
    let low : l ≡ value c.args.role.now.low n (pos 0) = c.value-low.ensures ∙ ap (λ x. value c.args.role.now.low x (pos 0)) n_is in
    let high : h ≡ value c.args.role.now.high n (pos 0) = c.value-high.ensures ∙ ap (λ x. value c.args.role.now.high x (pos 0)) n_is in
    let a = bound_within c.args.role.now.low n l c.requires.low c.requires.near low in
    let b = bound_within c.args.role.now.high n h c.requires.high c.requires.near high in
    let sum : to_z w64 (of_z w64 (to_z w64 (of_z w64 (to_z w64 (of_z w64 h) +ℤ pos 1)) -ℤ to_z w64 (of_z w64 l))) ≡ h +ℤ pos 1 -ℤ l = omega (arith, ints, a.low, a.high, b.low, b.high) in
    c.count_of.ensures ∙ ap count_of sum ∙ ap (λ x. count_of (x +ℤ pos 1 -ℤ l)) high ∙ ap (λ x. count_of (value c.args.role.now.high n (pos 0) +ℤ pos 1 -ℤ x)) low
    ∙ sym (range_length (value c.args.role.now.low n (pos 0)) (value c.args.role.now.high n (pos 0)))
