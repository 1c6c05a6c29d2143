-- A line of a log, and lines one after the other.
use Rattle.std.specs.Prelude.{◌≡◌, ℕ, suc, ◌+◌, List, [], ◌∷◌, length, Some, None, slice_get, codes}
use Rattle.pb_text_read.specs.Fronts.{strip}
use Rattle.pb_draw_log.specs.Parts.{word_at}
use Rattle.pb_draw_log.specs.Heads.{head_at}
use Rattle.pb_draw_log.specs.declared.entry.Deed.{Deed}
use Rattle.pb_draw_log.specs.declared.entry.Deed.TheVariants.{Choose, Run, Send, Recv, Enter, Leave}
use Rattle.pb_draw_log.specs.declared.entry.Entry.{Entry}
use Rattle.pb_draw_log.specs.declared.line.Line.{Line}

-- so many words stand in front, each after one space, and no more
pub data HasWords : List ℕ → ℕ → List ℕ → Type 0 where
  no_word : (text : List ℕ) → strip (codes " ") text ≡ None → HasWords text 0 text
  word : (text next behind rest : List ℕ) (count : ℕ) → strip (codes " ") text ≡ Some next → word_at next ≡ Some behind → HasWords behind count rest
      → HasWords text (suc count) rest

-- the words of a choice and of a run: there are none
abbrev pub NoWords : List ℕ → ℕ → List ℕ → Type 0
NoWords text count rest = (count ≡ 0) × (rest ≡ text)

-- the words that stand behind the head of a line
abbrev pub WordsOf : Deed → List ℕ → ℕ → List ℕ → Type 0
WordsOf (Choose branch) text count rest = NoWords text count rest
WordsOf Run text count rest = NoWords text count rest
WordsOf (Send to) text count rest = HasWords text count rest
WordsOf (Recv from) text count rest = HasWords text count rest
WordsOf Enter text count rest = HasWords text count rest
WordsOf Leave text count rest = HasWords text count rest

-- a line stands in front of a text: its head, behind which the tail stands, its words, its line feed, and then the rest
pub record IsLine (text : List ℕ) (line : Line) (tail rest : List ℕ) : Type 0 where
  pub last : List ℕ
  pub head : head_at text ≡ Some (line.head, tail)
  pub words : WordsOf line.head.deed tail line.words last
  pub feed : strip (codes "\n") last ≡ Some rest

-- an entry is what a line says, with the number of its name, in bytes of this size of which the tail stands at the end
pub record Says (size : ℕ) (names : List (List ℕ)) (entry : Entry) (line : Line) (tail : List ℕ) : Type 0 where
  pub rank : entry.step.rank ≡ line.head.rank
  pub deed : entry.step.deed ≡ line.head.deed
  pub name : slice_get names entry.step.name ≡ Some line.head.name
  pub words : entry.words ≡ line.words
  pub start : entry.start + length tail ≡ size

-- the lines in front of a text say these entries, and then comes the rest
pub data Reads (size : ℕ) (names : List (List ℕ)) : List ℕ → List Entry → List ℕ → Type 0 where
  no_line : (text : List ℕ) → Reads size names text [] text
  line : (text tail next rest : List ℕ) (line : Line) (entry : Entry) (entries : List Entry) → IsLine text line tail next → Says size names entry line tail
      → Reads size names next entries rest → Reads size names text (entry ∷ entries) rest
