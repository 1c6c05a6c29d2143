-- What the lines of a kernel file are that stand outside of bodies.
use Rattle.std.specs.Prelude.{◌≡◌, ℕ, Bool, List, codes, None, Some, nat_eq, if◌then◌else◌}
use Rattle.std.specs.List.{starts_with}
use Rattle.pb_ctree.specs.Texts.{Spells}
use Rattle.pb_cread.specs.declared.fault.TextFault.{TextFault}
use Rattle.pb_cread.specs.declared.fault.TextFault.TheVariants as fault
use Rattle.pb_cread.specs.Faults.{IsFault}
use Rattle.pb_renew_lines.specs.Lines.{first_stray}
use Rattle.pb_renew_lines.specs.declared.outside.Outside.{Outside}
use Rattle.pb_renew_lines.specs.declared.outside.Outside.TheVariants as outside

-- the first line is that of a text
abbrev pub is_text : List ℕ → Bool
is_text bytes = starts_with nat_eq bytes (codes "/* pabble 1 */\n")

-- a text goes no further than this line
abbrev pub StopsAt : TextFault → ℕ → Type 0
StopsAt (fault.Unexpected place) line = place.line ≡ line
StopsAt (fault.TooDeep place) line = place.line ≡ line
StopsAt (fault.TooMany place) line = place.line ≡ line
StopsAt fault.NoMemory line = ⊥

-- the compiler doesn't spell the bytes, of which a text goes no further than this line
pub record IsUnread (bytes : List ℕ) (line : ℕ) : Type 0 where
  pub fault : TextFault
  pub is : IsFault bytes fault
  pub stops : StopsAt fault line

-- some line would be lost: of a text the first with which none goes on is told, and else the first that stands outside and isn't blank
pub record IsLost (bytes : List ℕ) (n : ℕ) : Type 0 where
  pub line : ℕ
  pub unread : IsUnread bytes line
  pub stray : ℕ
  pub first : first_stray bytes ≡ Some stray
  pub is : n ≡ (if is_text bytes then line else stray)

abbrev pub AreBlank : List ℕ → Type 0
AreBlank bytes = first_stray bytes ≡ None

abbrev pub IsOutside : List ℕ → Outside → Type 0
IsOutside bytes (outside.Text text) = Spells text.tree text.bodies bytes
IsOutside bytes outside.Blank = AreBlank bytes
IsOutside bytes (outside.Line n) = IsLost bytes n
