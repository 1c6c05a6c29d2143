-- A switch from one line to another that is the least, or the most, of both.
use Rattle.std.specs.Prelude.{◌≡◌, ℤ, ◌≤ℤ◌}
use Rattle.pb_cost_pieces.specs.declared.join.Join.{Join}
use Rattle.pb_cost_pieces.specs.declared.ray.Ray.{Ray}
use Rattle.pb_cost_pieces.specs.declared.switch.Switch.{Switch}
use Rattle.pb_cost_pieces.specs.Lines.{joined}
use Rattle.pb_cost_pieces.specs.Joined.{both, switched}

pub record IsSwitch (join : Join) (a b : Ray) (s : Switch) : Type 0 where
  pub start : s.kept.start ≡ joined join a.start b.start
  pub is : (x n : ℤ) → x ≤ℤ n → both join x a b n ≡ switched s.steps x s.kept s.other n
