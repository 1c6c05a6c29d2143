use Rattle.std.proofs.Common.{◌∷◌, [], ◌++◌, ◌∙◌, ap}
use Rattle.std.specs.Prelude.{codes}
use Rattle.pb_local.specs.Pieces.{joined, line}
use Rattle.pb_local.specs.Tree.{program_of}
use Rattle.pb_typed.specs.Carrying.{name_at}
use Rattle.pb_typed_actions.proofs.memory.push_came.Goals as goal

pub returns : goal.returns
returns c =
    c.in_ok-push_line.ensures
    ∙ ap (λ w. c.args.out.now.items ++ line c.args.depth (joined (codes "MPI_Get_count(&st, " ∷ w ∷ codes ", &m_" ∷ name_at (program_of c.args.local.now) c.args.label ∷ codes ");" ∷ []))) c.mpi_name.ensures
