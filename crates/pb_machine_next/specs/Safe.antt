-- That a step stays within the rank's memory.
use Rattle.std.specs.Prelude.{ℕ, ◌≤◌, ◌<◌}
use Rattle.pb_machine_next.specs.declared.ahead.Go.{Go}
use Rattle.pb_machine_next.specs.declared.ahead.Go.TheVariants.{Stay, Enter}
use Rattle.pb_machine_next.specs.declared.ahead.Ahead.{Ahead}
use Rattle.pb_machine_next.specs.declared.ahead.Ahead.TheVariants as A

-- a depth on a path of length n at which a step may be put, in a tree of height h
pub record IsIn (n h d : ℕ) : Type 0 where
  pub inside : d ≤ n
  pub below : d < h

-- from a path of length n, in a tree of height h
abbrev pub IsRoom : ℕ → ℕ → Go → Type 0
IsRoom n h (Stay d k) = d ≤ n
IsRoom n h (Enter d k p) = IsIn n h d

abbrev pub IsSafe : ℕ → ℕ → Ahead → Type 0
IsSafe n h A.Ended = Unit {0}
IsSafe n h A.Undefined = Unit {0}
IsSafe n h (A.Silent j go) = IsRoom n h go
IsSafe n h (A.Choose kernel branches d k) = IsIn n h d
IsSafe n h (A.Run kernel go) = IsRoom n h go
IsSafe n h (A.Send to label go) = IsRoom n h go
IsSafe n h (A.Recv from label go) = IsRoom n h go
IsSafe n h (A.Join call go) = IsRoom n h go
IsSafe n h (A.Leave call go) = IsRoom n h go
IsSafe n h (A.Probe from d k) = IsIn n h d
