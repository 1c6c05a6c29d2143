use Rattle.std.proofs.Common.{◌≤◌, ◌+◌, ◌*◌, refl, sym, subst}
use Rattle.pb_core_language.specs.Plain.{plain}
use Rattle.pb_core_language.specs.Rules.{breaches}
use Rattle.pb_core_endpoint.proofs.FileDone.{no_breach}
use Rattle.pb_local.specs.Tree.{plain_all, program_of, size_all}
use Rattle.pb_shape.specs.Sizes.{room_all, depth_all, braces_all}
use Rattle.pb_shape_filled.proofs.Filled.{text_is_filled}
use Rattle.pb_project.proofs.Wholes.{has_shape, is_well_made}
use Rattle.pb_project.proofs.local.project.Goals as goal

pub returns-clause-shape : goal.returns-clause-shape
returns-clause-shape c = has_shape (plain c.args.core.now) c.requires.sound c.requires.tabled c.requires.keeps (plain_all c.in_ok-body.body.items) c.in_ok-body.ensures (program_of c.in_ok-local.local) c.in_ok-local.ensures

pub returns-clause-filled : goal.returns-clause-filled
returns-clause-filled c = text_is_filled (plain c.args.core.now) (program_of c.in_ok-local.local) (has_shape (plain c.args.core.now) c.requires.sound c.requires.tabled c.requires.keeps (plain_all c.in_ok-body.body.items) c.in_ok-body.ensures (program_of c.in_ok-local.local) c.in_ok-local.ensures)

pub returns-clause-made : goal.returns-clause-made
returns-clause-made c = is_well_made (plain c.args.core.now) c.requires.sound c.requires.tabled c.requires.keeps (plain_all c.in_ok-body.body.items) c.in_ok-body.ensures (program_of c.in_ok-local.local) c.in_ok-local.ensures

pub returns-clause-reached : goal.returns-clause-reached
returns-clause-reached c = λ proper.
    c.text_is_reached.ensures (plain c.args.core.now) (program_of c.in_ok-local.local) c.requires.sound proper
    (has_shape (plain c.args.core.now) c.requires.sound c.requires.tabled c.requires.keeps (plain_all c.in_ok-body.body.items) c.in_ok-body.ensures (program_of c.in_ok-local.local) c.in_ok-local.ensures)
    (is_well_made (plain c.args.core.now) c.requires.sound c.requires.tabled c.requires.keeps (plain_all c.in_ok-body.body.items) c.in_ok-body.ensures (program_of c.in_ok-local.local) c.in_ok-local.ensures)
    (λ n within. no_breach (plain c.args.core.now) n within c.requires.keeps (breaches (plain c.args.core.now) n) refl)

pub returns-clause-size : goal.returns-clause-size
returns-clause-size c = subst (λ cs. size_all cs ≤ room_all (plain c.args.core.now).body.block) (sym c.in_ok-local.ensures.body) c.in_ok-body.ensures.block.size

pub returns-clause-braces : goal.returns-clause-braces
returns-clause-braces c = subst (λ cs. braces_all cs ≤ 2 * depth_all (plain c.args.core.now).body.block + 1) (sym c.in_ok-local.ensures.body) c.in_ok-body.ensures.block.braces
