use Rattle.std.proofs.Common.{inr, ap}
use Rattle.pb_project_choice.specs.Sources.{are_once}
use Rattle.pb_project_choice.proofs.Hearing.{listed_step, listed_end}
use Rattle.pb_project_choice.proofs.relays.sources_of.Goals as goal

pub loop-entry-init : goal.loop-entry-init
loop-entry-init c = record { there = λ s h. inr h; once = ap are_once c.new-list.ensures.items }

pub loop-entry-preserved : goal.loop-entry-preserved
loop-entry-preserved c = record {
  there =
      listed_step c.args.entries.now c.loop-entry.entry-index _ c.loop-entry.list.items _ c.loop-entry-test.true c.in_ok-add_source_of.ensures.kept c.in_ok-add_source_of.ensures.there c.loop-entry.invariant.there;
  once = c.in_ok-add_source_of.ensures.once c.loop-entry.invariant.once;
}

pub returns-clause-there : goal.returns-clause-there
returns-clause-there c = listed_end c.args.entries.now c.loop-entry.entry-index c.loop-entry.list.items c.loop-entry-test.false c.loop-entry.invariant.there
