use Rattle.std.proofs.Common.{refl}
use Rattle.pb_local.specs.Layout.{relay_line, relay_lines}
use Rattle.pb_local.specs.Tree.{program_of}
use Rattle.pb_local.proofs.Steps.{text_step}
use Rattle.pb_local.proofs.lines.push_relays.Goals as goal

pub loop-relay-preserved : goal.loop-relay-preserved
loop-relay-preserved c =
    let p = program_of c.args.local.now in
    text_step (relay_lines p c.args.depth) (relay_line p c.args.depth) c.args.relays.now _ c.relay-item.result _ _ _ (λ y ys. refl) c.loop-relay-test.true c.relay-item.is c.in_ok-push_relay.ensures c.loop-relay.invariant
