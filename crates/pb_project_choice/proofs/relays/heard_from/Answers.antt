use Rattle.pb_project_choice.proofs.Hearing.{heard_start, heard_step, heard_end}
use Rattle.pb_project_choice.proofs.relays.heard_from.Goals as goal

pub loop-entry-init : goal.loop-entry-init
loop-entry-init c = heard_start c.args.chooser c.args.source c.args.entries.now c.new-areas.result.items c.new-areas.ensures.items

pub loop-entry-preserved : goal.loop-entry-preserved
loop-entry-preserved c = heard_step c.args.chooser c.args.source c.args.entries.now c.loop-entry.entry-index _ c.loop-entry.areas.items _ c.loop-entry-test.true c.in_ok-add_heard.ensures c.loop-entry.invariant

pub returns : goal.returns
returns c = heard_end c.args.chooser c.args.source c.args.entries.now c.loop-entry.entry-index c.loop-entry.areas.items c.loop-entry-test.false c.loop-entry.invariant
