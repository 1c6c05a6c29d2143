use Rattle.std.proofs.Common.{rules}
use Rattle.pb_draw_times.specs.Ascents.{AreSound}
use Rattle.pb_draw_times.proofs.Single.{single}
use Rattle.pb_draw_layout.proofs.layout.laid_out.Goals as goal

pub returns-then-branch-clause-single : goal.returns-then-branch-clause-single
returns-then-branch-clause-single c =
    let sound : AreSound c.in_ok-layout.layout.entries.items c.in_ok-layout.layout.mates.items c.in_ok-layout.layout.columns.items = search rules in
    single c.in_ok-layout.layout.entries.items c.in_ok-layout.layout.mates.items sound.pairs
