use Rattle.std.proofs.Common.{◌∷◌, [], ◌++◌, ap, ◌∙◌}
use Rattle.std.specs.Prelude.{codes, decimal}
use Rattle.std.specs.Fmt.{signed_decimal}
use Rattle.pb_ctree.specs.Frame.{high_text, payload_text, element_text, kernel_letter, kernel_type, above_text}
use Rattle.pb_ctree.specs.Small.{lin_text, sum_text}
use Rattle.pb_ctree.specs.Trees.{sum_of}
use Rattle.pb_cprint.specs.Framed.{test_size}
use Rattle.pb_cprint_lines.proofs.Steps.{done, step, steps, line_of, flat_line}
use Rattle.pb_cprint.proofs.frame.push_test_size.Goals as goal

pub returns : goal.returns
unfolding test_size
returns c =
    line_of 1 ((codes "if (N < ") ∷ (decimal c.args.range.low) ∷ (above_text c.args.range.high) ∷ (codes " || ") ∷ (sum_text (sum_of c.args.size)) ∷ (codes " != size) {") ∷ []) c.args.out.now.items c.push_indent.new.out.items c.push_pieces-3.new.out.items c.push.new.self.items c.in_ok-push_indent.ensures
    (steps c.push_indent.new.out.items c.push_pieces.new.out.items c.push_pieces-3.new.out.items ((codes "if (N < ") ∷ []) ((decimal c.args.range.low) ∷ (above_text c.args.range.high) ∷ (codes " || ") ∷ (sum_text (sum_of c.args.size)) ∷ (codes " != size) {") ∷ []) c.in_ok-push_pieces.ensures
    (step c.push_pieces.new.out.items c.push_decimal.new.out.items c.push_pieces-3.new.out.items (decimal c.args.range.low) ((above_text c.args.range.high) ∷ (codes " || ") ∷ (sum_text (sum_of c.args.size)) ∷ (codes " != size) {") ∷ []) (c.in_ok-push_decimal.ensures.ok ∙ ap (λ n. c.push_pieces.new.out.items ++ decimal n) c.from.ensures)
    (step c.push_decimal.new.out.items c.push_above.new.out.items c.push_pieces-3.new.out.items (above_text c.args.range.high) ((codes " || ") ∷ (sum_text (sum_of c.args.size)) ∷ (codes " != size) {") ∷ []) c.in_ok-push_above.ensures
    (steps c.push_above.new.out.items c.push_pieces-2.new.out.items c.push_pieces-3.new.out.items ((codes " || ") ∷ []) ((sum_text (sum_of c.args.size)) ∷ (codes " != size) {") ∷ []) c.in_ok-push_pieces-2.ensures
    (step c.push_pieces-2.new.out.items c.push_sum.new.out.items c.push_pieces-3.new.out.items (sum_text (sum_of c.args.size)) ((codes " != size) {") ∷ []) c.in_ok-push_sum.ensures
    (steps c.push_sum.new.out.items c.push_pieces-3.new.out.items c.push_pieces-3.new.out.items ((codes " != size) {") ∷ []) [] c.in_ok-push_pieces-3.ensures
    (done c.push_pieces-3.new.out.items)))))))
    c.in_ok-push.ensures.items
