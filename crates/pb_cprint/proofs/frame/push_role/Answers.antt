use Rattle.std.proofs.Common.{◌∷◌, []}
use Rattle.std.specs.Prelude.{codes, decimal}
use Rattle.std.specs.Fmt.{signed_decimal}
use Rattle.pb_ctree.specs.Frame.{high_text, payload_text, element_text, kernel_letter, kernel_type, above_text}
use Rattle.pb_ctree.specs.Small.{lin_text, sum_text}
use Rattle.pb_ctree.specs.Trees.{sum_of}
use Rattle.pb_cprint.specs.Framed.{role_line}
use Rattle.pb_cprint_lines.proofs.Steps.{done, step, steps, line_of, flat_line}
use Rattle.pb_cprint.proofs.frame.push_role.Goals as goal

pub returns : goal.returns
unfolding role_line
returns c =
    flat_line ((codes "/* role ") ∷ (c.args.role.now.name) ∷ (codes " ") ∷ (lin_text c.args.role.now.low) ∷ (codes " to ") ∷ (lin_text c.args.role.now.high) ∷ (codes " */") ∷ []) c.args.out.now.items c.push_pieces-4.new.out.items c.push.new.self.items
    (steps c.args.out.now.items c.push_pieces.new.out.items c.push_pieces-4.new.out.items ((codes "/* role ") ∷ []) ((c.args.role.now.name) ∷ (codes " ") ∷ (lin_text c.args.role.now.low) ∷ (codes " to ") ∷ (lin_text c.args.role.now.high) ∷ (codes " */") ∷ []) c.in_ok-push_pieces.ensures
    (step c.push_pieces.new.out.items c.push_name.new.out.items c.push_pieces-4.new.out.items (c.args.role.now.name) ((codes " ") ∷ (lin_text c.args.role.now.low) ∷ (codes " to ") ∷ (lin_text c.args.role.now.high) ∷ (codes " */") ∷ []) c.in_ok-push_name.ensures
    (steps c.push_name.new.out.items c.push_pieces-2.new.out.items c.push_pieces-4.new.out.items ((codes " ") ∷ []) ((lin_text c.args.role.now.low) ∷ (codes " to ") ∷ (lin_text c.args.role.now.high) ∷ (codes " */") ∷ []) c.in_ok-push_pieces-2.ensures
    (step c.push_pieces-2.new.out.items c.push_lin.new.out.items c.push_pieces-4.new.out.items (lin_text c.args.role.now.low) ((codes " to ") ∷ (lin_text c.args.role.now.high) ∷ (codes " */") ∷ []) c.in_ok-push_lin.ensures
    (steps c.push_lin.new.out.items c.push_pieces-3.new.out.items c.push_pieces-4.new.out.items ((codes " to ") ∷ []) ((lin_text c.args.role.now.high) ∷ (codes " */") ∷ []) c.in_ok-push_pieces-3.ensures
    (step c.push_pieces-3.new.out.items c.push_lin-2.new.out.items c.push_pieces-4.new.out.items (lin_text c.args.role.now.high) ((codes " */") ∷ []) c.in_ok-push_lin-2.ensures
    (steps c.push_lin-2.new.out.items c.push_pieces-4.new.out.items c.push_pieces-4.new.out.items ((codes " */") ∷ []) [] c.in_ok-push_pieces-4.ensures
    (done c.push_pieces-4.new.out.items))))))))
    c.in_ok-push.ensures.items
