use Rattle.std.proofs.Common.{refl}
use Rattle.pb_local.specs.Tree.{program_of}
use Rattle.pb_cprint.specs.Written.{relay_written, relays_written}
use Rattle.pb_cprint.proofs.Blocks.{one_round}
use Rattle.pb_cprint.proofs.choices.push_relays.Goals as goal

pub loop-relay-preserved : goal.loop-relay-preserved
loop-relay-preserved c =
    let p = program_of c.args.local.now in
    one_round (λ rs. relays_written p c.args.depth rs c.args.from) (relay_written p c.args.depth) c.args.relays.now _ c.relay-item.result _ _ _ (λ r rs. refl)
    c.loop-relay-test.true c.relay-item.is c.in_ok-push_relay.ensures c.loop-relay.invariant
