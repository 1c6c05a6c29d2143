use Rattle.std.proofs.Common.{◌≡◌, pos, Option, true, sym, subst}
use Rattle.pb_affine.specs.declared.lin.Lin.{Lin}
use Rattle.pb_affine.specs.Values.{is_at_most}
use Rattle.pb_diff_apart.specs.Adding.{Adds}
use Rattle.pb_diff_apart.proofs.Steps.{adds_same}
use Rattle.pb_diff_apart.proofs.Meanings.{high_same}
use Rattle.pb_diff_apart.proofs.facts.up_to_high_end.Goals as goal

pub returns-in-Some : goal.returns-in-Some
returns-in-Some c =
    subst (λ (o : Option Lin). Adds c.args.system.now c.at_most.new.system 1 (λ s. is_at_most (s 2) o (s 1) (pos 0) ≡ true)) (sym c.in-Some.is)
    (adds_same c.args.system.now c.at_most.new.system 1 _ _ (high_same c.in-Some.high c.term_of.result c.term_of.ensures.is) c.at_most.ensures.adds)
