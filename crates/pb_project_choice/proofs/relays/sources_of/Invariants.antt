use Rattle.std.proofs.Common.{◌≡◌, true}
use Rattle.pb_project_choice.specs.Sources.{are_once}
use Rattle.pb_project_choice.proofs.Hearing.{ListedSoFar}
use Rattle.pb_project_choice.proofs.relays.sources_of.Given as goal

abbrev pub invariant-loop-entry : goal.invariant-loop-entry
invariant-loop-entry l = record {
  there : ListedSoFar l.entries l.entry-index l.list.items;
  once : are_once l.list.items ≡ true;
}
