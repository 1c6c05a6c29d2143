-- The guards of a role that are live at an N, as spans.
use Rattle.std.specs.Prelude.{◌≡◌, ℕ, ℤ, pos, Bool, true, ◌⊎◌, List, drop, length, None}
use Rattle.pb_affine.specs.declared.guard.Guard.{Guard}
use Rattle.pb_affine.specs.Values.{holds, hold}
use Rattle.pb_cases.specs.declared.cover.Cover.{Cover}
use Rattle.pb_cases.specs.Spans.{IsCovered, IsSpans, IsTops}

-- the guard without its ends
abbrev pub without_ends : Guard → Guard
without_ends g = record { role = g.role; low = None; high = None; from = g.from; to = g.to }

-- the guard is of the role, and n is one of its N
abbrev pub is_live : Guard → ℤ → ℕ → Bool
is_live g n role = holds (without_ends g) n (pos 0) role (pos 0)

-- the spans stand for the first guards
pub record IsSpansOf (gs : List Guard) (n : ℤ) (role : ℕ) (done : ℕ) (lows highs : List ℤ) : Type 0 where
  pub spans : IsSpans lows highs
  pub all : (x : ℤ) → hold gs n (pos 0) role x ≡ true → IsCovered lows highs x ⊎ (hold (drop done gs) n (pos 0) role x ≡ true)
  pub only : (x : ℤ) → IsCovered lows highs x → hold gs n (pos 0) role x ≡ true

-- the spans are those of the guards
pub record IsCoverOf (gs : List Guard) (n : ℤ) (role : ℕ) (lows highs : List ℤ) : Type 0 where
  pub spans : IsSpans lows highs
  pub all : (x : ℤ) → hold gs n (pos 0) role x ≡ true → IsCovered lows highs x
  pub only : (x : ℤ) → IsCovered lows highs x → hold gs n (pos 0) role x ≡ true

-- the cover stands for the guards of the role at n
pub record IsTestOf (gs : List Guard) (n : ℤ) (role : ℕ) (c : Cover) : Type 0 where
  pub cover : IsCoverOf gs n role c.lows.items c.highs.items
  pub tops : IsTops c.highs.items c.tops.items (length c.lows.items)
