-- Which events can be asked for.
use Rattle.std.specs.Prelude.{◌≤◌}
use Rattle.pb_draw_layout.specs.declared.cut.Cut.{Cut}

-- lines from 1 on, some line and some rank, and at most 100,000 events
pub record IsCut (cut : Cut) : Type 0 where
  pub counted : 1 ≤ cut.from
  pub lines : cut.from ≤ cut.to
  pub ranks : cut.low ≤ cut.high
  pub few : cut.most ≤ 100000
