use Rattle.std.proofs.Common.{◌∷◌, []}
use Rattle.std.specs.Prelude.{codes, decimal}
use Rattle.std.specs.Fmt.{signed_decimal}
use Rattle.pb_ctree.specs.Frame.{high_text, payload_text, element_text, kernel_letter, kernel_type, above_text}
use Rattle.pb_ctree.specs.Small.{lin_text, sum_text}
use Rattle.pb_ctree.specs.Trees.{sum_of}
use Rattle.pb_cprint.specs.Framed.{take_line}
use Rattle.pb_cprint_lines.proofs.Steps.{done, step, steps, line_of, flat_line}
use Rattle.pb_cprint.proofs.frame.push_take_head.Goals as goal

pub returns : goal.returns
unfolding take_line
returns c =
    flat_line ((codes "static void take_") ∷ (c.args.label.now.name) ∷ (codes "(int32_t N, int32_t role, int32_t index, const ") ∷ (element_text c.args.label.now.payload) ∷ (codes " *v)") ∷ []) c.args.out.now.items c.push_pieces-3.new.out.items c.push.new.self.items
    (steps c.args.out.now.items c.push_pieces.new.out.items c.push_pieces-3.new.out.items ((codes "static void take_") ∷ []) ((c.args.label.now.name) ∷ (codes "(int32_t N, int32_t role, int32_t index, const ") ∷ (element_text c.args.label.now.payload) ∷ (codes " *v)") ∷ []) c.in_ok-push_pieces.ensures
    (step c.push_pieces.new.out.items c.push_name.new.out.items c.push_pieces-3.new.out.items (c.args.label.now.name) ((codes "(int32_t N, int32_t role, int32_t index, const ") ∷ (element_text c.args.label.now.payload) ∷ (codes " *v)") ∷ []) c.in_ok-push_name.ensures
    (steps c.push_name.new.out.items c.push_pieces-2.new.out.items c.push_pieces-3.new.out.items ((codes "(int32_t N, int32_t role, int32_t index, const ") ∷ []) ((element_text c.args.label.now.payload) ∷ (codes " *v)") ∷ []) c.in_ok-push_pieces-2.ensures
    (step c.push_pieces-2.new.out.items c.push_element.new.out.items c.push_pieces-3.new.out.items (element_text c.args.label.now.payload) ((codes " *v)") ∷ []) c.in_ok-push_element.ensures
    (steps c.push_element.new.out.items c.push_pieces-3.new.out.items c.push_pieces-3.new.out.items ((codes " *v)") ∷ []) [] c.in_ok-push_pieces-3.ensures
    (done c.push_pieces-3.new.out.items))))))
    c.in_ok-push.ensures.items
