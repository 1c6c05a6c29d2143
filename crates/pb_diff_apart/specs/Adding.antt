-- What a step adds to a system.
use Rattle.std.specs.Prelude.{◌≡◌, ◌↔◌, ℕ, ◌+◌, ◌≤◌, ℤ, length, true}
use Rattle.pb_diff.specs.Systems.{Differences, Satisfies, has_pair}

-- the new system has the old one's solutions for which the fact holds, and at most so many constraints more
pub record Adds (old new : Differences) (count : ℕ) (Fact : (ℕ → ℤ) → Type 0) : Type 0 where
  pub vars : new.vars ≡ old.vars
  pub few : length new.list ≤ length old.list + count
  pub pairs : (v : ℕ) → has_pair 0 v old.list ≡ true → has_pair 0 v new.list ≡ true
  pub solutions : (s : ℕ → ℤ) → Satisfies new s ↔ (Satisfies old s × Fact s)
