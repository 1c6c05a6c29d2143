-- A statement that is no loop, no continue and no choice, as it is added.
use Rattle.std.specs.Prelude.{◌≡◌, ℕ, ◌+◌, ◌*◌, ◌≤◌, max, length, Bool, true, false, List, [], ◌∷◌}
use Rattle.pb_affine.specs.declared.range.NRange.{NRange}
use Rattle.pb_part_areas.specs.declared.area.Area.{Area}
use Rattle.pb_core_language.specs.Plain.{Protocol}
use Rattle.pb_core_language.specs.Sound.{Rows, rows_of, is_stmt}
use Rattle.pb_core_language.specs.Tree.{StmtTree, message, foreach, loop, again, choice, run, barrier, broadcast, reduce, allreduce}
use Rattle.pb_local.specs.Tree as L
use Rattle.pb_local.specs.Tree.{Code, Codes, Program, size_all}
use Rattle.pb_local.specs.WellMade as W
use Rattle.pb_local.specs.WellMade.{AreMade, loops_in}
use Rattle.pb_shape.specs.Sizes.{room, depth, braces_all}
use Rattle.pb_shape.specs.Tabled.{Goes}
pub use Rattle.pb_project_piece.specs.Weights.{IsTabledAs}
use Rattle.pb_shape.specs.Places.{Scope, Here, peer_of}
use Rattle.pb_shape.specs.Pieces.{Piece}
use Rattle.pb_project_piece.specs.Adding.{onto}
use Rattle.pb_project_piece.specs.Standing.{Stands, Come, at_ends, IsOpen}

abbrev pub is_straight : StmtTree → Bool
is_straight (message l f t) = true
is_straight (foreach b m items) = true
is_straight (loop id m body) = false
is_straight (again id) = false
is_straight (choice k at bs) = false
is_straight (run k at) = true
is_straight barrier = true
is_straight (broadcast l root) = true
is_straight (reduce l op root) = true
is_straight (allreduce l op) = true

pub record IsPieceOf (range : NRange) (roles : ℕ) (whole : List Area) (s : StmtTree) (piece : List Code) : Type 0 where
  pub is : (sc : Scope) (h : Here) (rows : Rows) (ids : List ℕ) → Stands range roles whole sc → IsOpen h → Come sc h (at_ends s) → is_stmt rows false ids s ≡ true → is_straight s ≡ true →
      (tail : Codes) → Piece sc h tail s (onto piece tail)
  pub made : (p : Protocol) (l : Program) (at : W.Scope) (ids : List ℕ) → IsTabledAs p l → roles ≡ length l.roles → is_stmt (rows_of p) false ids s ≡ true → is_straight s ≡ true → Goes p s →
      (tail : Codes) → AreMade l at tail → AreMade l at (onto piece tail)
  pub loops : (tail : Codes) → loops_in (onto piece tail) ≡ loops_in tail
  pub size : (tail : Codes) → size_all (onto piece tail) ≤ room s + size_all tail
  pub braces : (tail : Codes) → braces_all (onto piece tail) ≤ max (2 * depth s + 1) (braces_all tail)

-- what a collective is in the text
abbrev pub is_collective : StmtTree → Bool
is_collective (message l f t) = false
is_collective (foreach b m items) = false
is_collective (loop id m body) = false
is_collective (again id) = false
is_collective (choice k at bs) = false
is_collective (run k at) = false
is_collective barrier = true
is_collective (broadcast l root) = true
is_collective (reduce l op root) = true
is_collective (allreduce l op) = true

abbrev pub code_of : StmtTree → Code
code_of (message l f t) = L.barrier
code_of (foreach b m items) = L.barrier
code_of (loop id m body) = L.barrier
code_of (again id) = L.barrier
code_of (choice k at bs) = L.barrier
code_of (run k at) = L.barrier
code_of barrier = L.barrier
code_of (broadcast l root) = L.broadcast l (peer_of root)
code_of (reduce l op root) = L.reduce l op (peer_of root)
code_of (allreduce l op) = L.allreduce l op

pub record IsCodeOf (s : StmtTree) (c : Code) : Type 0 where
  pub is : c ≡ code_of s

-- the piece is the collective
pub record IsCollective (s : StmtTree) (piece : List Code) : Type 0 where
  pub is : is_collective s ≡ true → piece ≡ code_of s ∷ []
