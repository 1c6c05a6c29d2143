use Rattle.std.proofs.Common.{◌≡◌, ◌+ℤ◌, ◌≤ℤ◌, pos, ap, ◌∙◌, rules, SFits, w64, to_z-of_z}
use Rattle.pb_affine.specs.Values.{value}
use Rattle.pb_diff_apart.specs.Adding.{Adds}
use Rattle.pb_diff_apart.proofs.Steps.{adds_same}
use Rattle.pb_diff_apart.proofs.Meanings.{least_same}
use Rattle.pb_diff_apart.proofs.facts.from_least.Goals as goal

pub returns-clause-adds : goal.returns-clause-adds
returns-clause-adds c =
    let fits : SFits w64 c.value.result = search rules in
    let from_fits : SFits w64 c.from.result = search rules in
    let is : c.value.result ≡ value c.args.low (pos c.args.range.low) (pos 0) = (simp to_z-of_z at c.value.ensures) ∙ ap (λ n. value c.args.low n (pos 0)) c.from.ensures in
    let adds : Adds c.args.system.now c.at_most.new.system 1 (λ s. (s 0 +ℤ c.value.result) ≤ℤ (s 2 +ℤ pos 0)) = simp to_z-of_z at c.at_most.ensures.adds in
    adds_same c.args.system.now c.at_most.new.system 1 _ _ (least_same c.value.result (value c.args.low (pos c.args.range.low) (pos 0)) is) adds
