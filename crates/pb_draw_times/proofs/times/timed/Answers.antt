use Rattle.std.proofs.Common.{rules}
use Rattle.pb_draw_times.specs.Ascents.{AreSound}
use Rattle.pb_draw_times.proofs.Single.{single}
use Rattle.pb_draw_times.proofs.times.timed.Goals as goal

pub returns-then-branch-clause-single : goal.returns-then-branch-clause-single
returns-then-branch-clause-single c =
    let sound : AreSound c.args.entries.now c.in_ok-found.found.mates.items c.in_ok-found.found.times.items = search rules in
    single c.args.entries.now c.in_ok-found.found.mates.items sound.pairs
