use Rattle.std.proofs.Common.{◌∷◌, []}
use Rattle.std.specs.Prelude.{codes}
use Rattle.pb_ctree.specs.Small.{cond_text}
use Rattle.pb_cprint_lines.proofs.Steps.{done, step, steps, line_of}
use Rattle.pb_cprint_lines.proofs.lines.push_else_if.Goals as goal

pub returns : goal.returns
returns c =
    line_of c.args.depth ((codes "} else if (") ∷ (cond_text c.args.guards.now) ∷ (codes ") {") ∷ []) c.args.out.now.items c.push_indent.new.out.items c.push_pieces-2.new.out.items c.push.new.self.items c.in_ok-push_indent.ensures
    (steps c.push_indent.new.out.items c.push_pieces.new.out.items c.push_pieces-2.new.out.items ((codes "} else if (") ∷ []) ((cond_text c.args.guards.now) ∷ (codes ") {") ∷ []) c.in_ok-push_pieces.ensures
    (step c.push_pieces.new.out.items c.push_cond.new.out.items c.push_pieces-2.new.out.items (cond_text c.args.guards.now) ((codes ") {") ∷ []) c.in_ok-push_cond.ensures
    (steps c.push_cond.new.out.items c.push_pieces-2.new.out.items c.push_pieces-2.new.out.items ((codes ") {") ∷ []) [] c.in_ok-push_pieces-2.ensures
    (done c.push_pieces-2.new.out.items))))
    c.in_ok-push.ensures.items
