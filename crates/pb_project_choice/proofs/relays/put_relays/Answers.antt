use Rattle.pb_project_choice.proofs.Relaying.{relayed_start, relayed_step, relayed_end}
use Rattle.pb_project_choice.proofs.relays.put_relays.Goals as goal

pub loop-source-init : goal.loop-source-init
loop-source-init c = let s = c.args.setting.now in relayed_start s.range s.roles s.whole.now c.args.chooser c.args.entries.now c.args.sources.now c.new-relays.result.items c.new-relays.ensures.items

pub loop-source-preserved : goal.loop-source-preserved
loop-source-preserved c =
    let s = c.args.setting.now in
    relayed_step s.range s.roles s.whole.now c.args.chooser c.args.entries.now c.args.sources.now c.loop-source.source-index _ c.loop-source.relays.items _ c.loop-source-test.true c.in_ok-put_relay.ensures c.loop-source.invariant

pub returns : goal.returns
returns c =
    let s = c.args.setting.now in
    relayed_end s.range s.roles s.whole.now c.args.chooser c.args.entries.now c.args.sources.now c.loop-source.source-index c.loop-source.relays.items c.loop-source-test.false c.loop-source.invariant
