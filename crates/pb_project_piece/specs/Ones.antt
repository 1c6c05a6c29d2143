-- The statements of an `If` that stands alone, or isn't there.
use Rattle.std.specs.Prelude.{◌≡◌, ℕ, true, Option, Some, None, List}
use Rattle.pb_affine.specs.declared.guard.Guard.{Guard}
use Rattle.pb_core_language.specs.declared.tree.CoreEnd.{CoreEnd}
use Rattle.pb_affine.specs.declared.range.NRange.{NRange}
use Rattle.pb_part_areas.specs.declared.area.Area.{Area}
use Rattle.pb_core_language.specs.Tree.{StmtTree, BlockTree}
use Rattle.pb_core_language.specs.declared.tree.Bounds.{Bounds}
use Rattle.pb_core_language.specs.Plain.{Protocol}
use Rattle.pb_core_language.specs.Sound as Q
use Rattle.pb_core_language.specs.Sound.{Rows, rows_of, is_item, is_stmt, is_block}
use Rattle.pb_local.specs.Tree as L
use Rattle.pb_local.specs.Tree.{Code, Codes, Program}
use Rattle.pb_local.specs.WellMade as W
use Rattle.pb_local.specs.WellMade.{IsMade, AreMade}
use Rattle.pb_shape.specs.Tabled.{Goes, GoAll}
use Rattle.pb_shape.specs.Places.{Scope, Here, Who, is_end}
use Rattle.pb_shape.specs.Guards.{One, alone}
use Rattle.pb_shape.specs.Items.{Item, Items}
use Rattle.pb_project_piece.specs.Adding.{onto}
use Rattle.pb_project_piece.specs.Weights.{IsSimple, IsTabledAs, IsWeighed, AreWeighed, AreFlat, item_room, each_room}
use Rattle.pb_project_piece.specs.Standing.{Stands, at_ends, IsHere, IsEach, ComeIf, is_end_if, varies}

abbrev pub end_guard : CoreEnd → Guard
end_guard e = record { role = e.role; low = Some e.at; high = Some e.at; from = None; to = None }

abbrev pub only_when : List Guard → Codes → Code
only_when gs first = L.when gs first L.nothing

-- the piece is the `If` of these ranks, before whatever follows
pub record IsOne (sc : Scope) (h : Here) (who : Who) (first : Codes) (piece : List Code) : Type 0 where
  pub one : (tail : Codes) → One sc h who first tail (onto piece tail)

-- the piece is a message or a compute, before whatever follows
pub record IsItem (sc : Scope) (h : Here) (s : StmtTree) (piece : List Code) : Type 0 where
  pub item : (tail : Codes) → Item sc h tail s (onto piece tail)

-- what a statement at an end adds, in a place of this kind
pub record IsAt (range : NRange) (roles : ℕ) (whole : List Area) (over : Option Bounds) (fixed : List Area) (e : CoreEnd) (c : Code) (piece : List Code) : Type 0 where
  pub is : (sc : Scope) (h : Here) → Stands range roles whole sc → IsHere over fixed sc h → ComeIf over sc h (is_end e) → is_end_if over e ≡ true → IsOne sc h (is_end e) (alone c) piece
  pub weighed : IsSimple c → IsWeighed 2 1 piece
  pub made : (p : Protocol) (l : Program) → IsTabledAs p l → Q.is_end (rows_of p) true e ≡ true → ((at : W.Scope) → IsMade l at c) → AreFlat l piece

-- what an item adds
pub record IsItemOf (range : NRange) (roles : ℕ) (whole : List Area) (over : Option Bounds) (fixed : List Area) (s : StmtTree) (piece : List Code) : Type 0 where
  pub is : (sc : Scope) (h : Here) (rows : Rows) (ids : List ℕ) → Stands range roles whole sc → IsHere over fixed sc h → ComeIf over sc h (at_ends s) → is_stmt rows (varies over) ids s ≡ true → is_item s ≡ true → IsItem sc h s piece
  pub weighed : IsWeighed (item_room s) 1 piece
  pub made : (p : Protocol) (l : Program) (ids : List ℕ) → IsTabledAs p l → is_stmt (rows_of p) (varies over) ids s ≡ true → is_item s ≡ true → Goes p s → AreFlat l piece

-- what items are, in a foreach
pub record AreItemsOf (range : NRange) (roles : ℕ) (whole : List Area) (over : Bounds) (fixed : List Area) (b : BlockTree) (codes : Codes) : Type 0 where
  pub are : (sc : Scope) (h : Here) (rows : Rows) (ids : List ℕ) → Stands range roles whole sc → IsEach over fixed sc h → is_block rows true ids b ≡ true → Items sc h b codes
  pub weighed : AreWeighed (each_room 4 b) 1 codes
  pub made : (p : Protocol) (l : Program) (ids : List ℕ) → IsTabledAs p l → is_block (rows_of p) true ids b ≡ true → GoAll p b → (at : W.Scope) → AreMade l at codes
