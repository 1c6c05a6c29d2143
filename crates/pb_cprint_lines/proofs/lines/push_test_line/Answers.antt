use Rattle.std.proofs.Common.{◌∷◌, ◌++◌, []}
use Rattle.std.specs.Prelude.{codes}
use Rattle.pb_local.specs.Pieces.{indent}
use Rattle.pb_ctree.specs.Lines.{test_text}
use Rattle.pb_cprint_lines.proofs.Steps.{onto}
use Rattle.pb_cprint_lines.proofs.lines.push_test_line.Goals as goal

pub returns : goal.returns
returns c =
    onto c.args.out.now.items c.push_test.new.out.items c.push.new.self.items (indent c.args.depth ++ (codes "if (st.MPI_TAG == " ++ test_text c.args.label c.args.guards.now)) (10 ∷ [])
    (onto c.args.out.now.items c.push_indent.new.out.items c.push_test.new.out.items (indent c.args.depth) (codes "if (st.MPI_TAG == " ++ test_text c.args.label c.args.guards.now) c.in_ok-push_indent.ensures
    (onto c.push_indent.new.out.items c.extend_from_slice.new.self.items c.push_test.new.out.items (codes "if (st.MPI_TAG == ") (test_text c.args.label c.args.guards.now) c.in_ok-extend_from_slice.ensures.items c.in_ok-push_test.ensures))
    c.in_ok-push.ensures.items
