-- How the parts of a line are read. What is read is spelled once more and compared with the line, so these take more than
-- what is spelled.
use Rattle.std.specs.Prelude.{◌≡◌, ℕ, ℤ, pos, negsuc, ◌-◌, ◌^◌, neg_ℤ, int_le, if◌then◌else◌, ◌&&◌, List, Option, Some, None, codes, Result, Ok, Err}
use Rattle.pb_text_read.specs.Fronts.{◌>>=◌, strip as front, after, number_below}
use Rattle.pb_affine.specs.declared.lin.Base.{Base}
use Rattle.pb_affine.specs.declared.lin.Base.TheVariants.{Fixed, Param, Var}
use Rattle.pb_affine.specs.declared.lin.Lin.{Lin}
use Rattle.pb_affine.specs.declared.guard.Guard.{Guard}
use Rattle.pb_cread_lines.specs.declared.cursor.Stop.{Stop}
use Rattle.pb_cread_lines.specs.declared.cursor.Stop.TheVariants.{Unread, NoMemory}

-- the bytes behind a text
unfoldable pub strip : List ℕ → List ℕ → Option (List ℕ)
strip text bytes = front text bytes

-- a number that fits 32 bits, and the bytes behind it
abbrev pub number_at : List ℕ → Option (ℕ × List ℕ)
number_at bytes = number_below (2 ^ 32) bytes

-- ---- lins

unfoldable pub offset_at : List ℕ → Option (ℤ × List ℕ)
offset_at bytes =
    after (strip (codes " + ") bytes) (λ b. number_at b >>= λ n. Some (pos n.0, n.1))
    (after (strip (codes " - ") bytes) (λ b. number_at b >>= λ n. Some (neg_ℤ (pos n.0), n.1)) (Some (pos 0, bytes)))

unfoldable pub signed_at : List ℕ → Option (ℤ × List ℕ)
signed_at bytes = after (strip (codes "-") bytes) (λ b. number_at b >>= λ n. Some (neg_ℤ (pos n.0), n.1)) (number_at bytes >>= λ n. Some (pos n.0, n.1))

-- a number that fits 32 bits with its sign
unfoldable pub narrow : ℤ → Option ℤ
narrow z = if int_le (negsuc (2 ^ 31 - 1)) z && int_le z (pos (2 ^ 31 - 1)) then Some z else None

unfoldable pub based_at : List ℕ → Option ((Base × ℤ) × List ℕ)
based_at bytes =
    after (strip (codes "N") bytes) (λ b. offset_at b >>= λ z. Some ((Param, z.0), z.1))
    (after (strip (codes "i") bytes) (λ b. offset_at b >>= λ z. Some ((Var, z.0), z.1)) (signed_at bytes >>= λ z. Some ((Fixed, z.0), z.1)))

abbrev pub lin_of : Base → ℤ → Lin
lin_of base off = record { base = base; off = off }

unfoldable pub lin_at : List ℕ → Option (Lin × List ℕ)
lin_at bytes = based_at bytes >>= λ l. narrow l.0.1 >>= λ off. Some (lin_of l.0.0 off, l.1)

-- ---- guards

-- a lin behind a text, where the text is there
unfoldable pub lin_behind : List ℕ → List ℕ → Option (Option Lin × List ℕ)
lin_behind text bytes = after (strip text bytes) (λ b. lin_at b >>= λ x. Some (Some x.0, x.1)) (Some (None, bytes))

unfoldable pub number_behind : List ℕ → List ℕ → Option (Option ℕ × List ℕ)
number_behind text bytes = after (strip text bytes) (λ b. number_at b >>= λ x. Some (Some x.0, x.1)) (Some (None, bytes))

unfoldable pub bounds_at : List ℕ → Option ((Option Lin × Option Lin) × List ℕ)
bounds_at bytes = lin_behind (codes " && I >= ") bytes >>= λ low. lin_behind (codes " && I <= ") low.1 >>= λ high. Some ((low.0, high.0), high.1)

unfoldable pub index_at : List ℕ → Option ((Option Lin × Option Lin) × List ℕ)
index_at bytes = after (strip (codes " && I == ") bytes) (λ b. lin_at b >>= λ x. Some ((Some x.0, Some x.0), x.1)) (bounds_at bytes)

abbrev pub guard_of : ℕ → Option Lin → Option Lin → Option ℕ → Option ℕ → Guard
guard_of role low high from to = record { role = role; low = low; high = high; from = from; to = to }

unfoldable pub guard_at : List ℕ → Option (Guard × List ℕ)
guard_at bytes =
    after (strip (codes "R == ") bytes)
    (λ b. number_at b >>= λ r. index_at r.1 >>= λ x. number_behind (codes " && N >= ") x.1 >>= λ f. number_behind (codes " && N <= ") f.1 >>= λ t. Some (guard_of r.0 x.0.0 x.0.1 f.0 t.0, t.1))
    None

-- ---- what a function gives

abbrev pub StopsAt : {Y : Type 0} → Stop → Option Y → Type 0
StopsAt NoMemory read = Unit {0}
StopsAt Unread read = read ≡ None

-- the function returned what reading gives, and it stands before the rest
abbrev pub GivesTo : {Y : Type 0} → Result Y Stop → List ℕ → Option (Y × List ℕ) → Type 0
GivesTo (Ok x) rest read = read ≡ Some (x, rest)
GivesTo (Err e) rest read = StopsAt e read

-- the function returned what reading gives
abbrev pub Gives : {Y : Type 0} → Result Y Stop → Option Y → Type 0
Gives (Ok x) read = read ≡ Some x
Gives (Err e) read = StopsAt e read
