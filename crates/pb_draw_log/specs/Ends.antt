-- What may stand behind the lines of a log, and what bytes are: a log, or bytes with a first bad line.
use Rattle.std.specs.Prelude.{◌≡◌, ℕ, ◌+◌, ◌⊎◌, ⊤, List, [], ◌∷◌, ◌++◌, length, Some, codes}
use Rattle.std.specs.List.{Contains}
use Rattle.pb_text.specs.Tables.{AreDistinct}
use Rattle.pb_text_read.specs.Fronts.{strip}
use Rattle.pb_draw_log.specs.Lines.{IsLine, Reads}
use Rattle.pb_draw_log.specs.declared.entry.Entry.{Entry}
use Rattle.pb_draw_log.specs.declared.entry.Log.{Log}
use Rattle.pb_draw_log.specs.declared.line.Line.{Line}
use Rattle.pb_draw_log.specs.declared.fault.LogFault.{LogFault}
use Rattle.pb_draw_log.specs.declared.fault.LogFault.TheVariants.{BadLine, NoMemory}

-- one line feed, at the end
pub record IsOneLine (text : List ℕ) : Type 0 where
  pub front : List ℕ
  pub is : text ≡ front ++ 10 ∷ []
  pub single : Contains front 10 → ⊥

-- one line that tells why a run stopped
pub record TellsWhy (rest : List ℕ) : Type 0 where
  pub told : List ℕ
  pub is : rest ≡ codes "pabble: " ++ told
  pub line : IsOneLine told

-- nothing, or one line that tells how the run ended
abbrev pub IsEnd : List ℕ → Type 0
IsEnd rest = (rest ≡ []) ⊎ ((strip (codes "ended\n") rest ≡ Some []) ⊎ TellsWhy rest)

-- the bytes are a log: lines, and then an end
pub record IsLog (bytes : List ℕ) (log : Log) : Type 0 where
  pub rest : List ℕ
  pub lines : Reads (length bytes) log.names.items bytes log.entries.items rest
  pub distinct : AreDistinct log.names.items
  pub ends : IsEnd rest
  pub place : log.end + length rest ≡ length bytes

-- line n is the first in no form: the lines before it are lines of a log, and what follows is neither a line nor an end
pub record IsBadLine (bytes : List ℕ) (n : ℕ) : Type 0 where
  pub names : List (List ℕ)
  pub entries : List Entry
  pub rest : List ℕ
  pub lines : Reads (length bytes) names bytes entries rest
  pub count : n ≡ length entries + 1
  pub no_line : (line : Line) (tail next : List ℕ) → IsLine rest line tail next → ⊥
  pub no_end : IsEnd rest → ⊥

-- want of memory says nothing of the bytes
abbrev pub IsFault : List ℕ → LogFault → Type 0
IsFault bytes (BadLine n) = IsBadLine bytes n
IsFault bytes NoMemory = ⊤
