-- A log that is being read: the lines so far, and what one more line adds.
use Rattle.std.specs.Prelude.{◌≡◌, ℕ, ◌+◌, ◌≤◌, List, [], ◌∷◌, ◌++◌, length, Some, slice_get}
use Rattle.pb_text.specs.Tables.{IsTable}
use Rattle.pb_draw_log.specs.Lines.{IsLine, Reads}
use Rattle.pb_draw_log.specs.declared.entry.Entry.{Entry}
use Rattle.pb_draw_log.specs.declared.entry.Log.{Log}
use Rattle.pb_draw_log.specs.declared.line.Line.{Line}

-- names keep their numbers
abbrev pub Keeps : List (List ℕ) → List (List ℕ) → Type 0
Keeps old new = (i : ℕ) (name : List ℕ) → slice_get old i ≡ Some name → slice_get new i ≡ Some name

-- a name has this number in the new names, which are the table
pub record Numbers (old table names : List (List ℕ)) (name : List ℕ) (id : ℕ) : Type 0 where
  pub same : table ≡ names
  pub keeps : Keeps old names
  pub there : slice_get names id ≡ Some name
  pub few : length names ≤ length old + 1
  pub is_table : IsTable table

-- one more entry: what a line says whose tail begins there
pub record Adds (table : List (List ℕ)) (log : Log) (table_new : List (List ℕ)) (log_new : Log) (line : Line) (start : ℕ) : Type 0 where
  pub entry : Entry
  pub entries : log_new.entries.items ≡ log.entries.items ++ entry ∷ []
  pub rank : entry.step.rank ≡ line.head.rank
  pub deed : entry.step.deed ≡ line.head.deed
  pub words : entry.words ≡ line.words
  pub from : entry.start ≡ start
  pub name : Numbers table table_new log_new.names.items line.head.name entry.step.name
  pub end : log_new.end ≡ log.end

-- the lines in front of the bytes are read, and then comes the rest
pub record HasRead (bytes : List ℕ) (table : List (List ℕ)) (log : Log) (rest : List ℕ) : Type 0 where
  pub lines : Reads (length bytes) log.names.items bytes log.entries.items rest
  pub same : table ≡ log.names.items
  pub is_table : IsTable table
  pub room : length log.entries.items + length rest ≤ length bytes
  pub few : length table ≤ length log.entries.items

-- and no line stands in front of the rest
pub record HasReadAll (bytes : List ℕ) (table : List (List ℕ)) (log : Log) (rest : List ℕ) : Type 0 where
  pub read : HasRead bytes table log rest
  pub stops : (line : Line) (tail next : List ℕ) → IsLine rest line tail next → ⊥
