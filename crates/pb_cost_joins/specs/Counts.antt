-- Counts: functions of N on a span.
use Rattle.std.specs.Prelude.{◌≡◌, ℤ, pos, ◌*ℤ◌, ◌≤ℤ◌}
use Rattle.pb_cost_pieces.specs.Lines.{value_in, AreStretches, IsTame}
use Rattle.pb_cost_joins.specs.declared.count.Count.{Count}

-- The stretches are those of the function that they say, so a function has one list of them. From one number to the next it
-- changes by the weight at most, and it is at most 900,000,200,001 times the weight.
pub record IsCount (c : Count) : Type 0 where
  pub stretches : AreStretches (value_in c.list.items) c.span.to c.span.from c.list.items
  pub tame : IsTame c.weight (c.weight *ℤ pos 900000200001) (value_in c.list.items) c.span.from c.span.to

-- the count is this function on its span
pub record Says (c : Count) (f : ℤ → ℤ) : Type 0 where
  pub is : (n : ℤ) → c.span.from ≤ℤ n → n ≤ℤ c.span.to → value_in c.list.items n ≡ f n
