use Rattle.std.proofs.Common.{◌∷◌, []}
use Rattle.pb_local.specs.Tree.{program_of}
use Rattle.pb_ctree.specs.Lines.{chooses}
use Rattle.pb_typed.specs.Hooks.{choose_hook}
use Rattle.pb_typed.specs.Pieces.{same, added}
use Rattle.pb_typed.proofs.Spelling.{step, last}
use Rattle.pb_typed_actions.proofs.actions.push_choose.Goals as goal

pub returns : goal.returns
returns c =
    let p = program_of c.args.local.now in
    let t = c.args.types.now in
    let d = c.args.depth in
    let h = choose_hook p c.args.kernel c.args.branches in
    step p (same d (chooses c.args.kernel)) (added d h ∷ []) c.args.out.now.items c.push_chooses.new.out.items c.push_choose_hook.new.out.items c.in_ok-push_chooses.ensures (last p (added d h) c.push_chooses.new.out.items c.push_choose_hook.new.out.items c.in_ok-push_choose_hook.ensures)
