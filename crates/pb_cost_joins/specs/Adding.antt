-- What a builder goes on with behind its latest number.
--
-- g is the function there, and x is a number.
use Rattle.std.specs.Prelude.{◌≡◌, ℕ, ℤ, pos, ◌+ℤ◌, ◌≤ℤ◌, ◌<ℤ◌, true, false, Option, List}
use Rattle.std.specs.Int.{int_min}
use Rattle.pb_cost_pieces.specs.declared.join.Join.{Join}
use Rattle.pb_cost_pieces.specs.declared.stretch.Stretch.{Stretch}
use Rattle.pb_cost_pieces.specs.Lines.{value_at, joined, IsStep, IsTame}
use Rattle.pb_cost_pieces.specs.Joined.{lasts_to}
use Rattle.pb_cost_pieces.specs.Building.{Adds}
use Rattle.pb_cost_joins.specs.declared.span.Span.{Span}

abbrev pub steep : ℤ
steep = pos 4100000

abbrev pub tall : ℤ
tall = pos 4000000000000000000

-- the span begins behind the latest number, and on it and from there to it the function is tame
pub record GoesOn (g : ℤ → ℤ) (latest : Stretch) (span : Span) : Type 0 where
  pub next : span.from ≡ latest.to +ℤ pos 1
  pub step : IsStep steep (value_at latest latest.to) (g span.from)
  pub tame : IsTame steep tall g span.from span.to

-- the numbers up to `to` were added
pub record Added (g : ℤ → ℤ) (to : ℤ) (done : List Stretch) (latest : Stretch) (longer : List Stretch) (later : Stretch) : Type 0 where
  pub ends : later.to ≡ to
  pub adds : Adds g done latest longer later

-- two stretches joined
abbrev pub both_at : Join → Stretch → Stretch → ℤ → ℤ
both_at join s t n = joined join (value_at s n) (value_at t n)

abbrev pub first_end : Stretch → Stretch → ℤ
first_end s t = int_min s.to t.to

-- both stretches have the numbers behind the latest one, and they and both joined are tame there
pub record Continues (join : Join) (latest s t : Stretch) : Type 0 where
  pub s_from : s.from ≤ℤ (latest.to +ℤ pos 1)
  pub t_from : t.from ≤ℤ (latest.to +ℤ pos 1)
  pub s_to : latest.to ≤ℤ s.to
  pub t_to : latest.to ≤ℤ t.to
  pub s_tame : IsTame steep tall (value_at s) (latest.to +ℤ pos 1) (first_end s t)
  pub t_tame : IsTame steep tall (value_at t) (latest.to +ℤ pos 1) (first_end s t)
  pub tame : IsTame steep tall (both_at join s t) (latest.to +ℤ pos 1) (first_end s t)
  pub step : latest.to <ℤ first_end s t → IsStep steep (value_at latest latest.to) (both_at join s t (latest.to +ℤ pos 1))

abbrev pub JoinsOn : Join → Stretch → Stretch → List Stretch → Stretch → List Stretch → Stretch → Type 0
JoinsOn join s t done latest longer later = Added (both_at join s t) (first_end s t) done latest longer later

-- the first numbers of the span, which are at most so many behind the first one, or all of them
pub record IsKept (steps : Option ℕ) (span part : Span) : Type 0 where
  pub from : part.from ≡ span.from
  pub within : part.to ≤ℤ span.to
  pub kept : (n : ℤ) → span.from ≤ℤ n → n ≤ℤ part.to → lasts_to steps span.from n ≡ true
  pub other : (n : ℤ) → part.to <ℤ n → n ≤ℤ span.to → lasts_to steps span.from n ≡ false
