-- The text that an OUT gets.
use Rattle.std.specs.Prelude.{◌≡◌, ℕ, Bool, true, false, List}
use Rattle.std.specs.Prelude.{None}
use Rattle.pb_renew_text.specs.declared.wanted.Wanted.{Wanted}
use Rattle.pb_renew.specs.Plans.{SparesLines}
use Rattle.pb_renew.specs.declared.made.Made.{Made}
use Rattle.pb_renew_lines.specs.Lines.{first_indented}
use Rattle.pb_renew_lines.specs.declared.outside.Outside.{Outside}
use Rattle.pb_renew_lines.specs.declared.outside.Outside.TheVariants as outside
use Rattle.pb_renew_merge.specs.Renewed.{IsRenewal}

-- it renews the bytes, and is told where lines of them are lost
pub record IsMade (bytes : List ℕ) (wanted : Wanted) (made : Made) : Type 0 where
  pub renewal : IsRenewal bytes wanted made.renewed
  pub lines : made.is_losing ≡ false → SparesLines bytes

-- without a mark no line looks like a marker that is indented
abbrev pub IsMarked : List ℕ → Bool → Type 0
IsMarked bytes mark = mark ≡ false → first_indented bytes ≡ None

-- some lines would be lost
abbrev pub is_line : Outside → Bool
is_line (outside.Text text) = false
is_line outside.Blank = false
is_line (outside.Line line) = true

-- no line is lost where none is told
pub record IsTold (mark : Bool) (lines : Outside) (losing : Bool) : Type 0 where
  pub markers : losing ≡ false → mark ≡ false
  pub outside : losing ≡ false → is_line lines ≡ false
