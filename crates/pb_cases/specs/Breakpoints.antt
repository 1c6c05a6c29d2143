-- Breakpoints: the N of a range between which the order of all cuts doesn't change.
use Rattle.std.specs.Prelude.{◌≡◌, ◌≢◌, ◌<◌, ℤ, pos, ◌+ℤ◌, ◌-ℤ◌, ◌≤ℤ◌, ◌⊎◌, List, length, true}
use Rattle.std.specs.List.{All, Contains}
use Rattle.pb_affine.specs.declared.lin.Base.TheVariants.{Fixed, Param, Var}
use Rattle.pb_affine.specs.declared.lin.Lin.{Lin}
use Rattle.pb_affine.specs.declared.range.NRange.{NRange}
use Rattle.pb_affine.specs.Values.{is_up_to, IsSmall}
use Rattle.pb_cases.specs.declared.fault.CaseFault.{CaseFault}
use Rattle.pb_cases.specs.declared.fault.CaseFault.TheVariants.{TooManyCases, NoMemory}
use Rattle.pb_cases.specs.Numbers.{IsAscending}

pub record IsInRange (range : NRange) (n : ℤ) : Type 0 where
  pub low : pos range.low ≤ℤ n
  pub high : is_up_to n range.high ≡ true

-- a cut is a number, or N with an offset
pub record IsCut (l : Lin) : Type 0 where
  pub no_var : l.base ≢ Var
  pub small : IsSmall l.off

-- n is where a fixed cut d meets a moving one N + c, so d - c, or the number after it
pub record IsMeeting (cuts : List Lin) (n : ℤ) : Type 0 where
  pub d : Lin
  pub c : Lin
  pub d_in : Contains cuts d
  pub c_in : Contains cuts c
  pub d_fixed : d.base ≡ Fixed
  pub c_moves : c.base ≡ Param
  pub here : (n ≡ d.off -ℤ c.off) ⊎ (n ≡ (d.off -ℤ c.off) +ℤ pos 1)

-- the range's low end, and each N of the range at a meeting of cuts
pub record IsBreakpoint (range : NRange) (cuts : List Lin) (n : ℤ) : Type 0 where
  pub in_range : IsInRange range n
  pub why : (n ≡ pos range.low) ⊎ IsMeeting cuts n

-- what a range with its cases is seen as
pub record Division : Type 0 where
  pub range : NRange
  pub cuts : List Lin
  pub breakpoints : List ℤ

-- the breakpoints are those of the range and the cuts, ascending, each once
pub record IsDivision (d : Division) : Type 0 where
  pub cuts : All IsCut d.cuts
  pub ascending : IsAscending d.breakpoints
  pub sound : All (IsBreakpoint d.range d.cuts) d.breakpoints
  pub complete : (n : ℤ) → IsBreakpoint d.range d.cuts n → Contains d.breakpoints n

-- there are more than 4,096 breakpoints
pub record HasTooMany (range : NRange) (cuts : List Lin) : Type 0 where
  pub list : List ℤ
  pub ascending : IsAscending list
  pub sound : All (IsBreakpoint range cuts) list
  pub many : 4096 < length list

-- what each fault says
abbrev pub Explains : NRange → List Lin → CaseFault → Type 0
Explains range cuts TooManyCases = HasTooMany range cuts
Explains range cuts NoMemory = Unit {0}
