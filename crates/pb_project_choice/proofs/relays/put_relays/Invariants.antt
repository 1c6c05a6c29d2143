use Rattle.pb_project_choice.proofs.Relaying.{RelayedSoFar}
use Rattle.pb_project_choice.proofs.relays.put_relays.Given as goal

abbrev pub invariant-loop-source : goal.invariant-loop-source
invariant-loop-source l = RelayedSoFar l.setting.range l.setting.roles l.setting.whole.now l.chooser l.entries l.sources l.source-index l.relays.items
