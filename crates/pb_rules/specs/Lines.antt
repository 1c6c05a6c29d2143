-- Lines, which are lins where no variable runs, and the spans of N in which they keep an order.
use Rattle.std.specs.Prelude.{ℕ, ◌^◌, ℤ, pos, negsuc, ◌+ℤ◌, ◌-ℤ◌, ◌≤ℤ◌, int_le, Bool, true, false, if◌then◌else◌, Option, Some, None}
use Rattle.pb_affine.specs.declared.lin.Base.{Base}
use Rattle.pb_affine.specs.declared.lin.Base.TheVariants.{Fixed, Param, Var}
use Rattle.pb_affine.specs.declared.lin.Lin.{Lin}
use Rattle.pb_affine.specs.declared.range.NRange.{NRange}
use Rattle.pb_rules.specs.declared.line.Line.{Line}
use Rattle.pb_rules.specs.declared.span.Span.{Span}

-- ---- lines

abbrev pub moves : Base → Bool
moves Fixed = false
moves Param = true
moves Var = false

-- the lin with 0 for the variable
abbrev pub line_of : Lin → Line
line_of l = record { moves = moves l.base; off = l.off }

abbrev pub raised : Line → ℤ → Line
raised l c = record { moves = l.moves; off = l.off +ℤ c }

abbrev pub part_of_n : Bool → ℤ → ℤ
part_of_n false n = pos 0
part_of_n true n = n

abbrev pub value_at : Line → ℤ → ℤ
value_at l n = l.off +ℤ part_of_n l.moves n

-- within 2 ^ 31, and within 2 ^ 33 of zero
pub record IsWord (x : ℤ) : Type 0 where
  pub low : negsuc (2 ^ 31) ≤ℤ x
  pub high : x ≤ℤ pos (2 ^ 31)

pub record IsShort (x : ℤ) : Type 0 where
  pub low : negsuc (2 ^ 33) ≤ℤ x
  pub high : x ≤ℤ pos (2 ^ 33)

-- within 2 ^ 35 of zero
pub record IsLong (x : ℤ) : Type 0 where
  pub low : negsuc (2 ^ 35) ≤ℤ x
  pub high : x ≤ℤ pos (2 ^ 35)

-- ---- spans

abbrev pub IsUpTo : ℤ → Option ℤ → Type 0
IsUpTo n None = Unit {0}
IsUpTo n (Some u) = n ≤ℤ u

-- n is one of the span's numbers
pub record IsInSpan (s : Span) (n : ℤ) : Type 0 where
  pub low : s.from ≤ℤ n
  pub high : IsUpTo n s.until

abbrev pub number_if : Option ℕ → Option ℤ
number_if None = None
number_if (Some n) = Some (pos n)

abbrev pub whole : NRange → Span
whole range = record { from = pos range.low; until = number_if range.high }

abbrev pub nowhere : Span
nowhere = record { from = pos 1; until = Some (pos 0) }

abbrev pub later : ℤ → ℤ → ℤ
later a b = if int_le a b then b else a

abbrev pub earlier_end : Option ℤ → ℤ → ℤ
earlier_end None b = b
earlier_end (Some a) b = if int_le a b then a else b

-- the numbers n of the span with d, and n if the first is true, at most 0, and n if the second is true
abbrev pub kept_where : Span → Bool → Bool → ℤ → Span
kept_where s false false d = if int_le d (pos 0) then s else nowhere
kept_where s true true d = if int_le d (pos 0) then s else nowhere
kept_where s false true d = record { from = later s.from d; until = s.until }
kept_where s true false d = record { from = s.from; until = Some (earlier_end s.until (pos 0 -ℤ d)) }

-- where the first line is at most the second, and where it is below it
abbrev pub at_most : Span → Line → Line → Span
at_most s a b = kept_where s a.moves b.moves (a.off -ℤ b.off)

abbrev pub below : Span → Line → Line → Span
below s a b = kept_where s a.moves b.moves (a.off -ℤ b.off +ℤ pos 1)

abbrev pub first_before : ℤ → Option ℤ → Option ℤ
first_before n None = Some n
first_before n (Some u) = if int_le n u then Some n else None

-- the least number of the span
abbrev pub first_of : Span → Option ℤ
first_of s = first_before s.from s.until
