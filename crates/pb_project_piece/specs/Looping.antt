-- The loop of a foreach, and a foreach as it is added.
use Rattle.std.specs.Prelude.{◌≡◌, ℕ, ◌+◌, ℤ, pos, ◌≤ℤ◌, int_le, Bool, true, false, List, map, length}
use Rattle.pb_affine.specs.declared.range.NRange.{NRange}
use Rattle.pb_affine.specs.Values.{value}
use Rattle.pb_part_areas.specs.declared.area.Area.{Area}
use Rattle.pb_part_areas.specs.Areas.{have}
use Rattle.pb_core_language.specs.declared.protocol.CoreRole.{CoreRole}
use Rattle.pb_core_language.specs.declared.tree.CoreEnd.{CoreEnd}
use Rattle.pb_core_language.specs.Plain.{Protocol}
use Rattle.pb_core_language.specs.Sound.{Rows, rows_of, is_block}
use Rattle.pb_core_language.specs.Tree.{BlockTree}
use Rattle.pb_core_language.specs.declared.tree.Bounds.{Bounds}
use Rattle.pb_core_language.specs.Verdict.{IsIn}
use Rattle.pb_core_flat.specs.Seated.{is_rank}
use Rattle.pb_local.specs.declared.stmt.Stmt.{Stmt}
use Rattle.pb_local.specs.Tree as L
use Rattle.pb_local.specs.Tree.{Code, Codes, Program, plain, plain_all}
use Rattle.pb_shape.specs.Sizes.{room_each}
use Rattle.pb_shape.specs.Tabled.{GoAll}
use Rattle.pb_shape.specs.Places.{Scope, Here}
use Rattle.pb_shape.specs.Guards.{alone}
use Rattle.pb_shape.specs.Items.{Items}
use Rattle.pb_shape.specs.Pieces.{fixed_in, in_for, ForEach}
use Rattle.pb_project_piece.specs.Adding.{onto}
use Rattle.pb_project_piece.specs.Weights.{IsWeighed, IsTabledAs, AreFlat, each_room}
use Rattle.pb_project_piece.specs.Comers.{AreBounds}
use Rattle.pb_project_piece.specs.Standing.{Stands, Come, meeting, IsOpen}
use Rattle.pb_project_piece.specs.Fixed.{are_fair_items, AreFixed}

-- the areas are of the ranks at ends without the variable
pub record AreStill (b : BlockTree) (fixed : List Area) : Type 0 where
  pub is : (rows : Rows) (n : ℤ) (role : ℕ) (x : ℤ) → are_fair_items rows b ≡ true → pos 0 ≤ℤ n → have fixed n role x ≡ fixed_in b n role x

-- a rank at an end without the variable, at the first N at which there is one and the variable has a value
pub record Runner (range : NRange) (whole : List Area) (over : Bounds) (fixed : List Area) (b : BlockTree) : Type 0 where
  pub n : ℤ
  pub role : ℕ
  pub index : ℤ
  pub within : IsIn range n
  pub rank : have whole n role index ≡ true
  pub there : have fixed n role index ≡ true
  pub valued : (rows : Rows) (ids : List ℕ) (roles : List CoreRole) → AreBounds over → is_block rows true ids b ≡ true → is_rank roles n role index ≡ true →
      int_le (value over.low n (pos 0)) (value over.high n (pos 0)) ≡ true
  pub least : (rows : Rows) (ids : List ℕ) (roles : List CoreRole) → AreBounds over → is_block rows true ids b ≡ true → AreStill b fixed →
      (m : ℤ) (role : ℕ) (x : ℤ) → IsIn range m → is_rank roles m role x ≡ true → have whole m role x ≡ true → have fixed m role x ≡ true → int_le (value over.low m (pos 0)) (value over.high m (pos 0)) ≡ true → n ≤ℤ m

-- where the answer is yes, one of these ranks runs the loop, and where it is no, none does
abbrev pub Runs : NRange → List Area → Bounds → List Area → BlockTree → Bool → Type 0
Runs range whole over fixed b true = Runner range whole over fixed b
Runs range whole over fixed b false =
    (rows : Rows) (ids : List ℕ) (roles : List CoreRole) (n : ℤ) (role : ℕ) (x : ℤ) → AreBounds over → is_block rows true ids b ≡ true → AreStill b fixed →
    IsIn range n → is_rank roles n role x ≡ true → have whole n role x ≡ true → fixed_in b n role x ≡ true → int_le (value over.low n (pos 0)) (value over.high n (pos 0)) ≡ true → ⊥

-- the loop
pub record IsRounds (range : NRange) (roles : ℕ) (whole : List Area) (over : Bounds) (fixed : List Area) (b : BlockTree) (list : List Stmt) : Type 0 where
  pub body : Codes
  pub is : plain_all list ≡ alone (L.for_each over.low over.high body)
  pub items : (sc : Scope) (h : Here) (rows : Rows) (ids : List ℕ) → Stands range roles whole sc → Come sc h (meeting over b) → AreBounds over → is_block rows true ids b ≡ true → AreStill b fixed →
      Items sc (in_for h over b) b body
  pub weighed : IsWeighed (1 + each_room 4 b) 2 (map plain list)
  pub made : (p : Protocol) (l : Program) (ids : List ℕ) → IsTabledAs p l → AreBounds over → is_block (rows_of p) true ids b ≡ true → GoAll p b → AreFlat l (map plain list)

-- the piece is a foreach whose loop some rank runs
pub record IsBoth (range : NRange) (roles : ℕ) (whole : List Area) (over : Bounds) (ends : List CoreEnd) (fixed : List Area) (b : BlockTree) (piece : List Code) : Type 0 where
  pub is : (sc : Scope) (h : Here) (rows : Rows) (ids : List ℕ) → Stands range roles whole sc → IsOpen h → Come sc h (meeting over b) → AreBounds over → is_block rows true ids b ≡ true → AreFixed b ends → AreStill b fixed →
      Runner range whole over fixed b → (tail : Codes) → ForEach sc h over b tail (onto piece tail)
  pub weighed : IsWeighed (2 + (each_room 4 b + each_room 6 b)) 3 piece
  pub made : (p : Protocol) (l : Program) (ids : List ℕ) → IsTabledAs p l → roles ≡ length l.roles → AreBounds over → is_block (rows_of p) true ids b ≡ true → GoAll p b → AreFixed b ends → AreStill b fixed →
      Runner range whole over fixed b → AreFlat l piece

-- the piece is a foreach
pub record IsForEach (range : NRange) (roles : ℕ) (whole : List Area) (over : Bounds) (b : BlockTree) (piece : List Code) : Type 0 where
  pub is : (sc : Scope) (h : Here) (rows : Rows) (ids : List ℕ) → Stands range roles whole sc → IsOpen h → Come sc h (meeting over b) → AreBounds over → is_block rows true ids b ≡ true →
      (tail : Codes) → ForEach sc h over b tail (onto piece tail)
  pub weighed : IsWeighed (2 + room_each b) 3 piece
  pub made : (p : Protocol) (l : Program) (ids : List ℕ) → IsTabledAs p l → roles ≡ length l.roles → AreBounds over → is_block (rows_of p) true ids b ≡ true → GoAll p b → AreFlat l piece
