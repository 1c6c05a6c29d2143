use Rattle.std.proofs.Common.{◌∷◌, []}
use Rattle.std.specs.Prelude.{codes}
use Rattle.pb_local.specs.Tables.{kernel_at}
use Rattle.pb_local.specs.Tree.{program_of}
use Rattle.pb_cprint_lines.proofs.Steps.{done, step, steps, line_of}
use Rattle.pb_cprint_lines.proofs.lines.push_calls.Goals as goal

pub returns : goal.returns
returns c =
    line_of c.args.depth ((codes "k_") ∷ ((kernel_at (program_of c.args.local.now) c.args.kernel).name) ∷ (codes "(N, R, I);") ∷ []) c.args.out.now.items c.push_indent.new.out.items c.push_pieces-2.new.out.items c.push.new.self.items c.in_ok-push_indent.ensures
    (steps c.push_indent.new.out.items c.push_pieces.new.out.items c.push_pieces-2.new.out.items ((codes "k_") ∷ []) (((kernel_at (program_of c.args.local.now) c.args.kernel).name) ∷ (codes "(N, R, I);") ∷ []) c.in_ok-push_pieces.ensures
    (step c.push_pieces.new.out.items c.push_kernel_name.new.out.items c.push_pieces-2.new.out.items ((kernel_at (program_of c.args.local.now) c.args.kernel).name) ((codes "(N, R, I);") ∷ []) c.in_ok-push_kernel_name.ensures
    (steps c.push_kernel_name.new.out.items c.push_pieces-2.new.out.items c.push_pieces-2.new.out.items ((codes "(N, R, I);") ∷ []) [] c.in_ok-push_pieces-2.ensures
    (done c.push_pieces-2.new.out.items))))
    c.in_ok-push.ensures.items
