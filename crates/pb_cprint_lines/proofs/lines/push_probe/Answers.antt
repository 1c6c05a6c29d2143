use Rattle.std.proofs.Common.{◌∷◌, []}
use Rattle.std.specs.Prelude.{codes}
use Rattle.pb_local.specs.Tree.{program_of}
use Rattle.pb_ctree.specs.Small.{peer_text}
use Rattle.pb_cprint_lines.proofs.Steps.{done, step, steps, line_of}
use Rattle.pb_cprint_lines.proofs.lines.push_probe.Goals as goal

pub returns : goal.returns
returns c =
    line_of c.args.depth ((codes "MPI_Probe(") ∷ (peer_text (program_of c.args.local.now) c.args.from) ∷ (codes ", MPI_ANY_TAG, MPI_COMM_WORLD, &st);") ∷ []) c.args.out.now.items c.push_indent.new.out.items c.push_pieces-2.new.out.items c.push.new.self.items c.in_ok-push_indent.ensures
    (steps c.push_indent.new.out.items c.push_pieces.new.out.items c.push_pieces-2.new.out.items ((codes "MPI_Probe(") ∷ []) ((peer_text (program_of c.args.local.now) c.args.from) ∷ (codes ", MPI_ANY_TAG, MPI_COMM_WORLD, &st);") ∷ []) c.in_ok-push_pieces.ensures
    (step c.push_pieces.new.out.items c.push_peer.new.out.items c.push_pieces-2.new.out.items (peer_text (program_of c.args.local.now) c.args.from) ((codes ", MPI_ANY_TAG, MPI_COMM_WORLD, &st);") ∷ []) c.in_ok-push_peer.ensures
    (steps c.push_peer.new.out.items c.push_pieces-2.new.out.items c.push_pieces-2.new.out.items ((codes ", MPI_ANY_TAG, MPI_COMM_WORLD, &st);") ∷ []) [] c.in_ok-push_pieces-2.ensures
    (done c.push_pieces-2.new.out.items))))
    c.in_ok-push.ensures.items
