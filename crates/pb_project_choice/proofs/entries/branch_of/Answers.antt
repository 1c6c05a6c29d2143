use Rattle.std.proofs.Common.{sym, subst}
use Rattle.pb_core_language.specs.Plain.{plain_block}
use Rattle.pb_part_firsts.specs.Fitting.{EntriesFit}
use Rattle.pb_part_firsts.specs.Firsts.{are_small}
use Rattle.std.proofs.Common.{◌≡◌, true, refl}
use Rattle.pb_project_choice.proofs.Firsts.{first_found}
use Rattle.pb_project_choice.proofs.entries.branch_of.Goals as goal

pub returns : goal.returns
returns c = λ sc a rows cuts w around sound among whole_fits held_fits.
    first_found sc a c.args.held.now c.args.whole.now c.in_ok-all.all.items _ (plain_block c.args.branch.now).block cuts c.new-entries.result.items _ c.new-entries.ensures.items
    (c.in_ok-all.ensures.is) w around (c.in_ok-_left.ensures.gives sc.range sc.roles rows w sound)
    (c.in_ok-_left.ensures.small rows sound (subst (λ z. are_small z ≡ true) (sym c.new-entries.ensures.items) refl))
    (c.in_ok-_left.ensures.fits sc.range cuts rows sound among whole_fits held_fits (c.in_ok-all.ensures.fits sc.range cuts whole_fits) (subst (EntriesFit sc.range cuts) (sym c.new-entries.ensures.items) tt)).entries
