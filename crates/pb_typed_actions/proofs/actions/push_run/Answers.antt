use Rattle.std.proofs.Common.{◌∷◌, []}
use Rattle.pb_local.specs.Tree.{program_of}
use Rattle.pb_ctree.specs.Lines.{calls}
use Rattle.pb_typed.specs.Hooks.{run_hook}
use Rattle.pb_typed.specs.Pieces.{same, added}
use Rattle.pb_typed.proofs.Spelling.{step, last}
use Rattle.pb_typed_actions.proofs.actions.push_run.Goals as goal

pub returns : goal.returns
returns c =
    let p = program_of c.args.local.now in
    let t = c.args.types.now in
    let d = c.args.depth in
    step p (same d (calls c.args.kernel)) (added d (run_hook p c.args.kernel) ∷ []) c.args.out.now.items c.push_calls.new.out.items c.push_run_hook.new.out.items c.in_ok-push_calls.ensures (last p (added d (run_hook p c.args.kernel)) c.push_calls.new.out.items c.push_run_hook.new.out.items c.in_ok-push_run_hook.ensures)
