-- The broken rule of a file: the least rule, at its first place, with the least N that breaks it there and the least rank.
use Rattle.std.specs.Prelude.{◌≡◌, ℕ, ℤ, pos, ◌≤ℤ◌, int_lt, Bool, true, false, ◌||◌, ◌&&◌, nat_eq, nat_lt, Option, Some, None, Contains}
use Rattle.std.specs.Ordering.{int_eq}
use Rattle.pb_affine.specs.declared.range.NRange.{NRange}
use Rattle.pb_text.specs.declared.place.Place.{Place}
use Rattle.pb_syntax.specs.Tree.{PlainFile}
use Rattle.pb_core_language.specs.Ranks.{Seat}
use Rattle.pb_core_language.specs.Plain.{Protocol}
use Rattle.pb_core_language.specs.Rules.{Breach, breaches}
use Rattle.pb_core_language.specs.FileRules.{broken}
use Rattle.pb_core_language.specs.Meaning.{meaning}

abbrev pub IsUpTo : ℤ → Option ℕ → Type 0
IsUpTo n None = Unit {0}
IsUpTo n (Some high) = n ≤ℤ pos high

-- n is a number of the range
pub record IsIn (range : NRange) (n : ℤ) : Type 0 where
  pub low : pos range.low ≤ℤ n
  pub high : IsUpTo n range.high

-- a rule from 6 to 12 that is broken at some N
pub record Broken : Type 0 where
  pub n : ℤ
  pub breach : Breach

-- by role and then index
abbrev pub is_before_seat : Option Seat → Option Seat → Bool
is_before_seat None b = false
is_before_seat (Some a) None = false
is_before_seat (Some a) (Some b) = nat_lt a.role b.role || (nat_eq a.role b.role && int_lt a.index b.index)

-- The first comes before the second: by rule, then by place, as the numbers of places ascend in the file, then by N, then
-- by role and index.
abbrev pub is_before : Broken → Broken → Bool
is_before a b =
    nat_lt a.breach.rule b.breach.rule || (nat_eq a.breach.rule b.breach.rule &&
    (nat_lt a.breach.mark.number b.breach.mark.number || (nat_eq a.breach.mark.number b.breach.mark.number &&
    (int_lt a.n b.n || (int_eq a.n b.n && is_before_seat a.breach.at b.breach.at)))))

-- the protocol breaks a rule from 6 to 12 at an N of its range
pub record IsBroken (p : Protocol) (b : Broken) : Type 0 where
  pub within : IsIn p.range b.n
  pub there : Contains (breaches p b.n) b.breach

-- and no other one comes before it
pub record IsFirstBroken (p : Protocol) (b : Broken) : Type 0 where
  pub broken : IsBroken p b
  pub first : (c : Broken) → IsBroken p c → is_before c b ≡ false

-- the protocol keeps the rules 6 to 12 at every N of its range
abbrev pub KeepsAll : Protocol → Type 0
KeepsAll p = (b : Broken) → IsBroken p b → ⊥

-- a file that breaks one of the rules 1 to 5, one that breaks another at some N, and one that breaks none
abbrev pub IsRefused : PlainFile → ℕ → Place → Type 0
IsRefused f rule place = broken f ≡ Some (rule, place)

pub record IsRefusedAt (f : PlainFile) (b : Broken) : Type 0 where
  pub earlier : broken f ≡ None
  pub broken_at : IsFirstBroken (meaning f) b

pub record IsAccepted (f : PlainFile) : Type 0 where
  pub earlier : broken f ≡ None
  pub keeps : KeepsAll (meaning f)
