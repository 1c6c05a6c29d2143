use Rattle.std.proofs.Common.{◌∷◌, [], ◌++◌, ap, ◌∙◌}
use Rattle.std.specs.Prelude.{codes, decimal}
use Rattle.std.specs.Fmt.{signed_decimal}
use Rattle.pb_ctree.specs.Frame.{high_text, payload_text, element_text, kernel_letter, kernel_type, above_text}
use Rattle.pb_ctree.specs.Small.{lin_text, sum_text}
use Rattle.pb_ctree.specs.Trees.{sum_of}
use Rattle.pb_cprint.specs.Framed.{n_single}
use Rattle.pb_cprint_lines.proofs.Steps.{done, step, steps, line_of, flat_line}
use Rattle.pb_cprint.proofs.frame.push_n_single.Goals as goal

pub returns : goal.returns
unfolding n_single
returns c =
    line_of 1 ((codes "N = ") ∷ (decimal c.args.range.low) ∷ (codes ";") ∷ []) c.args.out.now.items c.push_indent.new.out.items c.push_pieces-2.new.out.items c.push.new.self.items c.in_ok-push_indent.ensures
    (steps c.push_indent.new.out.items c.push_pieces.new.out.items c.push_pieces-2.new.out.items ((codes "N = ") ∷ []) ((decimal c.args.range.low) ∷ (codes ";") ∷ []) c.in_ok-push_pieces.ensures
    (step c.push_pieces.new.out.items c.push_decimal.new.out.items c.push_pieces-2.new.out.items (decimal c.args.range.low) ((codes ";") ∷ []) (c.in_ok-push_decimal.ensures.ok ∙ ap (λ n. c.push_pieces.new.out.items ++ decimal n) c.from.ensures)
    (steps c.push_decimal.new.out.items c.push_pieces-2.new.out.items c.push_pieces-2.new.out.items ((codes ";") ∷ []) [] c.in_ok-push_pieces-2.ensures
    (done c.push_pieces-2.new.out.items))))
    c.in_ok-push.ensures.items
