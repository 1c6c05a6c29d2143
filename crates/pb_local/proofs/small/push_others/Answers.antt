use Rattle.std.proofs.Common.{get_or, None}
use Rattle.std.proofs.lemmas.List.{get_or_default}
use Rattle.pb_local.specs.Tree.{program_of}
use Rattle.pb_local.proofs.Texts.{others_step}
use Rattle.pb_local.proofs.small.push_others.Goals as goal

pub loop-guard-preserved : goal.loop-guard-preserved
loop-guard-preserved c =
    others_step (program_of c.args.local.now) c.args.guards.now c.loop-guard.guard-index (get_or c.args.guards.now c.loop-guard.guard-index (record { role = 0; low = None; high = None; from = None; to = None }))
    c.loop-guard.out.items c.push_pieces.new.out.items c.push_guard.new.out.items _
    c.loop-guard-test.true (get_or_default _ _ _ _ c.loop-guard-test.true) c.in_ok-push_pieces.ensures c.in_ok-push_guard.ensures c.loop-guard.invariant
