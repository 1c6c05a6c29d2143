use Rattle.std.proofs.Common.{◌∷◌, []}
use Rattle.pb_local.specs.Tree.{program_of}
use Rattle.pb_ctree.specs.Lines.{mpi_barrier}
use Rattle.pb_typed.specs.Hooks.{barrier_enter, barrier_leave}
use Rattle.pb_typed.specs.Pieces.{same, added}
use Rattle.pb_typed.proofs.Spelling.{step, last}
use Rattle.pb_typed_actions.proofs.actions.push_barrier.Goals as goal

pub returns : goal.returns
returns c =
    let p = program_of c.args.local.now in
    let d = c.args.depth in
    step p (added d barrier_enter) (same d mpi_barrier ∷ added d barrier_leave ∷ []) c.args.out.now.items c.push_word.new.out.items c.push_word-3.new.out.items c.in_ok-push_word.ensures
    (step p (same d mpi_barrier) (added d barrier_leave ∷ []) c.push_word.new.out.items c.push_word-2.new.out.items c.push_word-3.new.out.items c.in_ok-push_word-2.ensures
    (last p (added d barrier_leave) c.push_word-2.new.out.items c.push_word-3.new.out.items c.in_ok-push_word-3.ensures))
