-- What the parts of a protocol are in the text.
use Rattle.std.specs.Prelude.{◌≡◌, ◌≤◌, ℕ, suc, ◌+◌, ◌*◌, max, List, ◌∷◌, map, Vec}
use Rattle.std.specs.declared.alloc.Global.{Global}
use Rattle.pb_affine.specs.declared.range.NRange.{NRange}
use Rattle.pb_local.specs.declared.stmt.Stmt.{Stmt}
use Rattle.pb_affine.specs.declared.lin.Lin.{Lin}
use Rattle.pb_part_areas.specs.declared.area.Area.{Area}
use Rattle.pb_core_language.specs.Plain.{Protocol}
use Rattle.pb_core_language.specs.declared.tree.CoreEnd.{CoreEnd}
use Rattle.pb_core_language.specs.Tree as T
use Rattle.pb_core_language.specs.Tree.{Mark, StmtTree, BlockTree, BranchTrees}
use Rattle.pb_local.specs.Tree as L
use Rattle.pb_local.specs.Tree.{Code, Codes, Parts, Program, plain, parts_of, size_all, size_parts}
use Rattle.pb_local.specs.WellMade as W
use Rattle.pb_local.specs.WellMade.{AreMade, ArePartsMade, loops_in, loops_among, count_parts}
use Rattle.pb_part_takers.specs.declared.held.Held.{Held}
use Rattle.pb_part_takers.specs.Loops.{IsInside}
use Rattle.pb_project_piece.specs.Adding.{onto}
use Rattle.pb_project_piece.specs.Ones.{end_guard}
use Rattle.pb_shape.specs.Places.{Here, scope_of, peer_of}
use Rattle.pb_shape.specs.Loops.{Around, takers}
use Rattle.pb_shape.specs.Choices.{told_by}
use Rattle.pb_shape.specs.Shape.{Shape, Shapes}
use Rattle.pb_shape.specs.Sizes.{room, room_all, room_among, depth, depth_all, depth_among, braces_all, braces_among}
use Rattle.pb_shape.specs.Tabled.{count}
use Rattle.pb_local.specs.declared.stmt.Relay.{Relay}
use Rattle.pb_local.specs.declared.stmt.Test.{Test}
use Rattle.pb_project_choice.specs.declared.entries.Branch.{Branch}
use Rattle.pb_project.specs.Learning.{AreFound, AreTests, AreRelays}
use Rattle.pb_project.specs.Places.{Known, IsPlace, IsGoodStmt, IsGood, AreGood, block_takers, among_takers, IsReached}

-- inside these loops of the text, of which there are so many before
abbrev pub behind : ℕ → List ℕ → W.Scope
behind loops numbers = record { loops = loops; around = numbers }

-- The piece is this statement, before the rest of its block: of the loops `before` stand in front of it, and then there are `after`
pub record IsStmtOf (k : Known) (before after : ℕ) (m : Mark) (s : StmtTree) (piece : List Code) : Type 0 where
  pub shape : (p : Protocol) (l : Program) (cuts : List Lin) (a : Around) (h : Here) → IsPlace k p l cuts a → IsGoodStmt p cuts a m s → IsReached (scope_of p) h (takers (scope_of p) a m s) →
      (rest : BlockTree) (tail : Codes) → Shape (scope_of p) h a rest tail → Shape (scope_of p) h a (T.more m s rest) (onto piece tail)
  pub made : (p : Protocol) (l : Program) (cuts : List Lin) (a : Around) → IsPlace k p l cuts a → IsGoodStmt p cuts a m s →
      (tail : Codes) → AreMade l (behind after k.numbers) tail → AreMade l (behind before k.numbers) (onto piece tail)
  pub loops : (tail : Codes) → before + loops_in (onto piece tail) ≡ after + loops_in tail
  pub size : (tail : Codes) → size_all (onto piece tail) ≤ room s + size_all tail
  pub braces : (tail : Codes) → braces_all (onto piece tail) ≤ max (2 * depth s + 1) (braces_all tail)

pub record IsBlockOf (k : Known) (before after : ℕ) (b : BlockTree) (codes : Codes) : Type 0 where
  pub shape : (p : Protocol) (l : Program) (cuts : List Lin) (a : Around) (h : Here) → IsPlace k p l cuts a → IsGood p cuts a b → IsReached (scope_of p) h (block_takers (scope_of p) a b) → Shape (scope_of p) h a b codes
  pub made : (p : Protocol) (l : Program) (cuts : List Lin) (a : Around) → IsPlace k p l cuts a → IsGood p cuts a b → AreMade l (behind before k.numbers) codes
  pub loops : before + loops_in codes ≡ after
  pub size : size_all codes ≤ room_all b
  pub braces : braces_all codes ≤ 2 * depth_all b + 1

pub record ArePartsOf (k : Known) (before after : ℕ) (bs : BranchTrees) (parts : Parts) : Type 0 where
  pub shape : (p : Protocol) (l : Program) (cuts : List Lin) (a : Around) (h : Here) → IsPlace k p l cuts a → AreGood p cuts a bs → IsReached (scope_of p) h (among_takers (scope_of p) a bs) → Shapes (scope_of p) h a bs parts
  pub made : (p : Protocol) (l : Program) (cuts : List Lin) (a : Around) → IsPlace k p l cuts a → AreGood p cuts a bs → ArePartsMade l (behind before k.numbers) parts
  pub loops : before + loops_among parts ≡ after
  pub size : size_parts parts ≤ room_among bs
  pub braces : braces_among parts ≤ 2 * depth_among bs + 1
  pub many : count_parts parts ≡ count bs

-- inside one more loop, of which these areas take part
abbrev pub entered : Known → List Held → ℕ → Known
entered k held number = record { range = k.range; roles = k.roles; whole = k.whole; held = held; numbers = number ∷ k.numbers }

-- a loop with the next number
pub record IsLoopOf (k : Known) (id : ℕ) (takers : List Area) (before after : ℕ) (body : BlockTree) (c : Code) : Type 0 where
  pub inner : List Held
  pub inside : IsInside k.held id takers inner
  pub codes : Codes
  pub is : c ≡ L.loop before codes
  pub block : IsBlockOf (entered k inner before) (suc before) after body codes

-- a choice, for those that take part in it
pub record IsChoiceOf (k : Known) (kernel : ℕ) (at : CoreEnd) (before after : ℕ) (bs : BranchTrees) (codes : Codes) : Type 0 where
  pub found : List Branch
  pub relays : List Relay
  pub tests : List Test
  pub parts : Parts
  pub is : codes ≡ told_by relays (L.choice (end_guard at) kernel relays (peer_of at) tests parts)
  pub found_are : AreFound k.whole k.held bs found
  pub tests_are : AreTests k.range k.roles k.whole found tests
  pub relays_are : AreRelays k.range k.roles k.whole at found tests relays
  pub parts_are : ArePartsOf k before after bs parts

-- what the program knows there
abbrev pub known : NRange → ℕ → List Area → List Held → List ℕ → Known
known range roles whole held numbers = record { range = range; roles = roles; whole = whole; held = held; numbers = numbers }

-- the branches' statements
abbrev pub parts_now : List (Vec Stmt Global) → Parts
parts_now branches = parts_of (map (λ v. map plain v.items) branches)
