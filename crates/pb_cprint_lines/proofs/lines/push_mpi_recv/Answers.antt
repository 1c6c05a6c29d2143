use Rattle.std.proofs.Common.{◌∷◌, [], ◌++◌, ap, ◌∙◌}
use Rattle.std.specs.Prelude.{codes, decimal}
use Rattle.pb_local.specs.Tree.{program_of}
use Rattle.pb_ctree.specs.Small.{peer_text, words_text, incoming}
use Rattle.pb_cprint_lines.proofs.Steps.{done, step, steps, line_of}
use Rattle.pb_cprint_lines.proofs.lines.push_mpi_recv.Goals as goal

pub returns : goal.returns
returns c =
    line_of c.args.depth ((codes "MPI_Recv(") ∷ (words_text (program_of c.args.local.now) c.args.label incoming) ∷ (codes ", ") ∷ (peer_text (program_of c.args.local.now) c.args.from) ∷ (codes ", ") ∷ (decimal c.args.label) ∷ (codes ", MPI_COMM_WORLD, MPI_STATUS_IGNORE);") ∷ []) c.args.out.now.items c.push_indent.new.out.items c.push_pieces-4.new.out.items c.push.new.self.items c.in_ok-push_indent.ensures
    (steps c.push_indent.new.out.items c.push_pieces.new.out.items c.push_pieces-4.new.out.items ((codes "MPI_Recv(") ∷ []) ((words_text (program_of c.args.local.now) c.args.label incoming) ∷ (codes ", ") ∷ (peer_text (program_of c.args.local.now) c.args.from) ∷ (codes ", ") ∷ (decimal c.args.label) ∷ (codes ", MPI_COMM_WORLD, MPI_STATUS_IGNORE);") ∷ []) c.in_ok-push_pieces.ensures
    (step c.push_pieces.new.out.items c.push_received.new.out.items c.push_pieces-4.new.out.items (words_text (program_of c.args.local.now) c.args.label incoming) ((codes ", ") ∷ (peer_text (program_of c.args.local.now) c.args.from) ∷ (codes ", ") ∷ (decimal c.args.label) ∷ (codes ", MPI_COMM_WORLD, MPI_STATUS_IGNORE);") ∷ []) c.in_ok-push_received.ensures
    (steps c.push_received.new.out.items c.push_pieces-2.new.out.items c.push_pieces-4.new.out.items ((codes ", ") ∷ []) ((peer_text (program_of c.args.local.now) c.args.from) ∷ (codes ", ") ∷ (decimal c.args.label) ∷ (codes ", MPI_COMM_WORLD, MPI_STATUS_IGNORE);") ∷ []) c.in_ok-push_pieces-2.ensures
    (step c.push_pieces-2.new.out.items c.push_peer.new.out.items c.push_pieces-4.new.out.items (peer_text (program_of c.args.local.now) c.args.from) ((codes ", ") ∷ (decimal c.args.label) ∷ (codes ", MPI_COMM_WORLD, MPI_STATUS_IGNORE);") ∷ []) c.in_ok-push_peer.ensures
    (steps c.push_peer.new.out.items c.push_pieces-3.new.out.items c.push_pieces-4.new.out.items ((codes ", ") ∷ []) ((decimal c.args.label) ∷ (codes ", MPI_COMM_WORLD, MPI_STATUS_IGNORE);") ∷ []) c.in_ok-push_pieces-3.ensures
    (step c.push_pieces-3.new.out.items c.push_decimal.new.out.items c.push_pieces-4.new.out.items (decimal c.args.label) ((codes ", MPI_COMM_WORLD, MPI_STATUS_IGNORE);") ∷ []) (c.in_ok-push_decimal.ensures.ok ∙ ap (λ n. c.push_pieces-3.new.out.items ++ decimal n) c.from.ensures)
    (steps c.push_decimal.new.out.items c.push_pieces-4.new.out.items c.push_pieces-4.new.out.items ((codes ", MPI_COMM_WORLD, MPI_STATUS_IGNORE);") ∷ []) [] c.in_ok-push_pieces-4.ensures
    (done c.push_pieces-4.new.out.items))))))))
    c.in_ok-push.ensures.items
