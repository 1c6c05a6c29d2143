use Rattle.std.proofs.Common.{rules, ◌≤◌, List, ℕ, length, subst}
use Rattle.pb_cli_simulate.specs.Sources.{IsNoSchedule}
use Rattle.pb_cli_simulate.proofs.Taken.{no_schedule}
use Rattle.pb_cli_simulate.proofs.commands.schedule_in.Goals as goal

pub returns-clause-denied : goal.returns-clause-denied
returns-clause-denied g c =
    let few : length c.in-Ok.bytes.items ≤ 67108864 = search rules in
    no_schedule (g.F.Folder.holds c.args.folder.now) c.args.name.now c.in-Ok.bytes.items c.in-Err.why c.in-Ok.ensures.whole few (subst (λ (b : List ℕ). IsNoSchedule b c.in-Err.why) c.deref.ensures.value c.in-Err.ensures.denied)
