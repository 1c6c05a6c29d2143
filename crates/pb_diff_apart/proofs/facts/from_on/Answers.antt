use Rattle.std.proofs.Common.{◌≡◌, ℕ, Option, true, sym, subst}
use Rattle.pb_affine.specs.Values.{is_from_on}
use Rattle.pb_diff_apart.specs.Adding.{Adds}
use Rattle.pb_diff_apart.proofs.Steps.{adds_same}
use Rattle.pb_diff_apart.proofs.Meanings.{from_same}
use Rattle.pb_diff_apart.proofs.facts.from_on.Goals as goal

pub returns-in-Some : goal.returns-in-Some
returns-in-Some c =
    subst (λ (o : Option ℕ). Adds c.args.system.now c.at_most.new.system 1 (λ s. is_from_on (s 1) o ≡ true)) (sym c.in-Some.is)
    (adds_same c.args.system.now c.at_most.new.system 1 _ _ (from_same c.in-Some.from c.number_of.result c.number_of.ensures.is) c.at_most.ensures.adds)
