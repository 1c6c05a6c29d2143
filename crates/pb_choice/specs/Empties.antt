-- The numbers N at which areas hold of nobody.
use Rattle.std.specs.Prelude.{◌≡◌, ℕ, ℤ, pos, ◌-ℤ◌, ◌≤ℤ◌, ◌^◌, negsuc, Bool, true, false, ◌&&◌, ◌||◌, int_le, int_lt, if◌then◌else◌, Option, Some, None, List}
use Rattle.std.specs.List.{list_any}
use Rattle.std.specs.Ordering.{int_eq}
use Rattle.pb_affine.specs.declared.range.NRange.{NRange}
use Rattle.pb_affine.specs.Values.{is_up_to}
use Rattle.pb_part_areas.specs.declared.area.Area.{Area}
use Rattle.pb_part_areas.specs.Areas.{at, is_before}

-- the area holds of somebody
abbrev pub is_open : ℤ → Area → Bool
is_open n a = int_lt (at a.low n) (at a.end n) && int_le (pos a.from) n && is_before n a.until

abbrev pub any_open : List Area → ℤ → Bool
any_open list n = list_any (is_open n) list

abbrev pub is_within : NRange → ℤ → Bool
is_within range n = int_le (pos range.low) n && is_up_to n range.high

-- the N at which an area may end
abbrev pub gap_of : Area → ℤ
gap_of a = a.end.off -ℤ a.low.off

abbrev pub is_until : ℤ → Option ℕ → Bool
is_until c None = false
is_until c (Some b) = int_eq c (pos b)

abbrev pub is_end : ℤ → Area → Bool
is_end c a = is_until c a.until || int_eq c (gap_of a)

-- the best so far is at most this
abbrev pub reached : Option ℤ → ℤ → Bool
reached None c = false
reached (Some b) c = int_le b c

abbrev pub sooner : Option ℤ → ℤ → Option ℤ
sooner None n = Some n
sooner (Some b) n = Some (if int_lt n b then n else b)

-- a number of the range at which nobody is held
pub record IsEmptyAt (range : NRange) (list : List Area) (n : ℤ) : Type 0 where
  pub within : is_within range n ≡ true
  pub empty : any_open list n ≡ false

abbrev pub IsEmptyIf : NRange → List Area → Option ℤ → Type 0
IsEmptyIf range list None = Unit {0}
IsEmptyIf range list (Some n) = IsEmptyAt range list n

-- one more number, and the ends of one more area, were tried
pub record Tried (range : NRange) (list : List Area) (n : ℤ) (best new : Option ℤ) : Type 0 where
  pub good : IsEmptyIf range list best → IsEmptyIf range list new
  pub keeps : (c : ℤ) → reached best c ≡ true → reached new c ≡ true
  pub tries : IsEmptyAt range list n → reached new n ≡ true

pub record TriedIf (range : NRange) (list : List Area) (until : Option ℕ) (best new : Option ℤ) : Type 0 where
  pub good : IsEmptyIf range list best → IsEmptyIf range list new
  pub keeps : (c : ℤ) → reached best c ≡ true → reached new c ≡ true
  pub tries : (c : ℤ) → IsEmptyAt range list c → is_until c until ≡ true → reached new c ≡ true

pub record TriedEnds (range : NRange) (list : List Area) (a : Area) (best new : Option ℤ) : Type 0 where
  pub good : IsEmptyIf range list best → IsEmptyIf range list new
  pub keeps : (c : ℤ) → reached best c ≡ true → reached new c ≡ true
  pub tries : (c : ℤ) → IsEmptyAt range list c → is_end c a ≡ true → reached new c ≡ true

-- the least of these numbers, or none
pub record IsFirstEmpty (range : NRange) (list : List Area) (n : ℤ) : Type 0 where
  pub there : IsEmptyAt range list n
  pub least : (m : ℤ) → IsEmptyAt range list m → n ≤ℤ m

pub record IsNeverEmpty (range : NRange) (list : List Area) : Type 0 where
  pub none : (m : ℤ) → IsEmptyAt range list m → ⊥

-- small enough to compute with
pub record IsShortN (n : ℤ) : Type 0 where
  pub low : negsuc (2 ^ 34) ≤ℤ n
  pub high : n ≤ℤ pos (2 ^ 34)
