-- Which line of a text is at fault.
use Rattle.std.specs.Prelude.{◌≡◌, ℕ, ◌+◌, ◌-◌, ◌<◌, ◌≤◌, true, All, List, [], ◌∷◌, ◌++◌, length, map}
use Rattle.pb_text.specs.declared.place.Place.{Place}
use Rattle.pb_local.specs.Tree.{Program}
use Rattle.pb_ctree.specs.declared.body.Bodies.{Bodies}
use Rattle.pb_ctree.specs.declared.tree.CTree.{CTree}
use Rattle.pb_ctree.specs.Bodies.{is_body}
use Rattle.pb_ctree.specs.Frame.{text_lines}
use Rattle.pb_ctree.specs.Texts.{Spells, Starts, IsFront}
use Rattle.pb_cread_frame.specs.Frames.{frame_lines}
use Rattle.pb_cread_frame.specs.Rows.{is_line, bare}
use Rattle.pb_cread.specs.declared.fault.TextFault.{TextFault}
use Rattle.pb_cread.specs.declared.fault.TextFault.TheVariants.{Unexpected, TooDeep, TooMany, NoMemory}
use Rattle.pb_cread.specs.Rows as W
use Rattle.pb_cread.specs.Rows.{line_place}
use Rattle.pb_cread.specs.Limits.{open_behind, begun_behind, IsWithin}

-- how many of the first k lines of a text stand behind the lines before main's statements
abbrev pub past_frame : Program → List ℕ → List (List ℕ) → ℕ → ℕ
past_frame p prelude bodies k = k - length (frame_lines p prelude bodies)

-- the lines begin the spelling of this program, and of these bodies, line by line and without their line feeds
abbrev pub Spell : List (List ℕ) → Program → List ℕ → List (List ℕ) → Type 0
Spell lines p prelude bodies = Starts p (map bare lines) (text_lines p prelude bodies)

-- the lines begin a spelling, and behind none of them a limit is passed
pub record IsGood (lines : List (List ℕ)) : Type 0 where
  pub program : Program
  pub prelude : List ℕ
  pub bodies : List (List ℕ)
  pub spell : Spell lines program prelude bodies
  pub within : IsWithin program (past_frame program prelude bodies (length lines))

-- no spelling goes on with the line that comes next, and where none does, none ends here
pub record IsUnexpected (text : List ℕ) (lines : List (List ℕ)) (rest : List ℕ) : Type 0 where
  pub no_line : (line more : List ℕ) → rest ≡ line ++ more → is_line line ≡ true → IsFront (map bare (lines ++ line ∷ [])) → ⊥
  pub no_end : rest ≡ [] → (tree : CTree) (bodies : Bodies) → is_body bodies.prelude ≡ true → All (λ b. is_body b ≡ true) bodies.list.items → Spells tree bodies text → ⊥

-- the line that comes next goes on, and behind it too many braces are open
pub record IsTooDeep (text : List ℕ) (lines : List (List ℕ)) (rest : List ℕ) : Type 0 where
  pub line : List ℕ
  pub more : List ℕ
  pub next : rest ≡ line ++ more
  pub is : is_line line ≡ true
  pub program : Program
  pub prelude : List ℕ
  pub bodies : List (List ℕ)
  pub spell : Spell (lines ++ line ∷ []) program prelude bodies
  pub deep : 256 < open_behind program (past_frame program prelude bodies (length lines + 1))

-- the line that comes next goes on, not too deep, and with it too many statements have begun
pub record IsTooMany (text : List ℕ) (lines : List (List ℕ)) (rest : List ℕ) : Type 0 where
  pub line : List ℕ
  pub more : List ℕ
  pub next : rest ≡ line ++ more
  pub is : is_line line ≡ true
  pub program : Program
  pub prelude : List ℕ
  pub bodies : List (List ℕ)
  pub spell : Spell (lines ++ line ∷ []) program prelude bodies
  pub deep : open_behind program (past_frame program prelude bodies (length lines + 1)) ≤ 256
  pub many : 50000 < begun_behind program (past_frame program prelude bodies (length lines + 1))

-- behind good lines this is said of the line that comes next, which stands at the place
pub record Comes (text : List ℕ) (place : Place) (fault : List ℕ → List (List ℕ) → List ℕ → Type 0) : Type 0 where
  pub lines : List (List ℕ)
  pub rest : List ℕ
  pub begins : W.Begins text lines rest
  pub good : IsGood lines
  pub place_is : place ≡ line_place (length lines)
  pub is : fault text lines rest

abbrev pub IsFault : List ℕ → TextFault → Type 0
IsFault text (Unexpected place) = Comes text place IsUnexpected
IsFault text (TooDeep place) = Comes text place IsTooDeep
IsFault text (TooMany place) = Comes text place IsTooMany
IsFault text NoMemory = Unit {0}
