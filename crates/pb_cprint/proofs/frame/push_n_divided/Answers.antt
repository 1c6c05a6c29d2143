use Rattle.std.proofs.Common.{◌∷◌, []}
use Rattle.std.specs.Prelude.{codes, decimal}
use Rattle.std.specs.Fmt.{signed_decimal}
use Rattle.pb_ctree.specs.Frame.{high_text, payload_text, element_text, kernel_letter, kernel_type, above_text}
use Rattle.pb_ctree.specs.Small.{lin_text, sum_text}
use Rattle.pb_ctree.specs.Trees.{sum_of}
use Rattle.pb_cprint.specs.Framed.{n_divided}
use Rattle.pb_cprint_lines.proofs.Steps.{done, step, steps, line_of, flat_line}
use Rattle.pb_cprint.proofs.frame.push_n_divided.Goals as goal

pub returns : goal.returns
unfolding n_divided
returns c =
    line_of 1 ((codes "N = (size - ") ∷ (signed_decimal c.args.size.b) ∷ (codes ") / ") ∷ (signed_decimal c.args.size.a) ∷ (codes ";") ∷ []) c.args.out.now.items c.push_indent.new.out.items c.push_pieces-3.new.out.items c.push.new.self.items c.in_ok-push_indent.ensures
    (steps c.push_indent.new.out.items c.push_pieces.new.out.items c.push_pieces-3.new.out.items ((codes "N = (size - ") ∷ []) ((signed_decimal c.args.size.b) ∷ (codes ") / ") ∷ (signed_decimal c.args.size.a) ∷ (codes ";") ∷ []) c.in_ok-push_pieces.ensures
    (step c.push_pieces.new.out.items c.push_b.new.out.items c.push_pieces-3.new.out.items (signed_decimal c.args.size.b) ((codes ") / ") ∷ (signed_decimal c.args.size.a) ∷ (codes ";") ∷ []) c.in_ok-push_b.ensures
    (steps c.push_b.new.out.items c.push_pieces-2.new.out.items c.push_pieces-3.new.out.items ((codes ") / ") ∷ []) ((signed_decimal c.args.size.a) ∷ (codes ";") ∷ []) c.in_ok-push_pieces-2.ensures
    (step c.push_pieces-2.new.out.items c.push_a.new.out.items c.push_pieces-3.new.out.items (signed_decimal c.args.size.a) ((codes ";") ∷ []) c.in_ok-push_a.ensures
    (steps c.push_a.new.out.items c.push_pieces-3.new.out.items c.push_pieces-3.new.out.items ((codes ";") ∷ []) [] c.in_ok-push_pieces-3.ensures
    (done c.push_pieces-3.new.out.items))))))
    c.in_ok-push.ensures.items
