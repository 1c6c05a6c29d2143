use Rattle.std.proofs.Common.{◌∷◌, []}
use Rattle.std.specs.Prelude.{codes, decimal}
use Rattle.pb_cprint_lines.proofs.Steps.{done, step, steps, line_of}
use Rattle.pb_cprint_lines.proofs.lines.push_else_pick.Goals as goal

pub returns : goal.returns
returns c =
    line_of c.args.depth ((codes "} else if (a == ") ∷ (decimal c.args.branch) ∷ (codes ") {") ∷ []) c.args.out.now.items c.push_indent.new.out.items c.push_pieces-2.new.out.items c.push.new.self.items c.in_ok-push_indent.ensures
    (steps c.push_indent.new.out.items c.push_pieces.new.out.items c.push_pieces-2.new.out.items ((codes "} else if (a == ") ∷ []) ((decimal c.args.branch) ∷ (codes ") {") ∷ []) c.in_ok-push_pieces.ensures
    (step c.push_pieces.new.out.items c.push_decimal.new.out.items c.push_pieces-2.new.out.items (decimal c.args.branch) ((codes ") {") ∷ []) c.in_ok-push_decimal.ensures.ok
    (steps c.push_decimal.new.out.items c.push_pieces-2.new.out.items c.push_pieces-2.new.out.items ((codes ") {") ∷ []) [] c.in_ok-push_pieces-2.ensures
    (done c.push_pieces-2.new.out.items))))
    c.in_ok-push.ensures.items
