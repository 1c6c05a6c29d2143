-- What is known where a part of a protocol stands.
use Rattle.std.specs.Prelude.{◌≡◌, ℕ, ℤ, pos, true, List, [], length, None}
use Rattle.std.specs.List.{All}
use Rattle.pb_affine.specs.declared.lin.Lin.{Lin}
use Rattle.pb_affine.specs.declared.range.NRange.{NRange}
use Rattle.pb_part_areas.specs.declared.area.Area.{Area}
use Rattle.pb_part_areas.specs.Fits.{Fits}
use Rattle.pb_cases.specs.Breakpoints.{IsCut}
use Rattle.pb_choice.specs.declared.rule.ChoiceRule.{ChoiceRule}
use Rattle.pb_choice.specs.Flaws.{fits_of}
use Rattle.pb_choice.specs.Scenes.{IsFairStmt, IsFair}
use Rattle.pb_core_language.specs.Cuts.{stmt_cuts, block_cuts}
use Rattle.pb_core_language.specs.Flat.{stop, takes_part, takes_part_among}
use Rattle.pb_core_language.specs.FlatOf.{flat_stmt, flat_block, flat_branches}
use Rattle.pb_core_language.specs.Plain.{Protocol}
use Rattle.pb_core_language.specs.Rules.{misfits}
use Rattle.pb_core_language.specs.Sound.{rows_of}
use Rattle.pb_core_language.specs.Tree.{Mark, StmtTree, BlockTree, BranchTrees, no_branch, branch}
use Rattle.pb_core_language.specs.Verdict.{IsIn}
use Rattle.pb_core_flat.specs.Seated.{rank, is_rank}
use Rattle.pb_local.specs.Tree.{Program}
use Rattle.pb_local.specs.WellMade.{IsRange}
use Rattle.pb_part_takers.specs.declared.held.Held.{Held}
use Rattle.pb_part_takers.specs.Loops.{HeldFit}
use Rattle.pb_part_takers.specs.Pieces.{AreAmong}
use Rattle.pb_project_piece.specs.Pieces.{IsTabledAs}
use Rattle.pb_project_piece.specs.Standing.{Stands, Come, IsOpen}
use Rattle.pb_shape.specs.Places.{Scope, Who, everyone, Here, scope_of}
use Rattle.pb_shape.specs.Guards.{Somebody}
use Rattle.pb_shape.specs.Loops.{Around}
use Rattle.pb_shape.specs.Tabled.{Goes, GoAll}
use Rattle.pb_project_choice.specs.Found.{IsAround}

-- what the program knows where the walk stands
pub record Known : Type 0 where
  pub range : NRange
  pub roles : ℕ
  pub whole : List Area
  -- the loops around, the innermost first, and their numbers in the text
  pub held : List Held
  pub numbers : List ℕ

-- it is so inside these loops of the protocol, in a program with its tables; the areas fit these cuts
pub record IsPlace (k : Known) (p : Protocol) (l : Program) (cuts : List Lin) (a : Around) : Type 0 where
  pub stands : Stands k.range k.roles k.whole (scope_of p)
  pub around : IsAround (scope_of p) a k.held
  pub numbers_are : a.numbers ≡ k.numbers
  pub as_many : length k.numbers ≡ length a.opens
  pub tabled : IsTabledAs p l
  pub range_is : IsRange k.range
  pub small : All IsCut cuts
  pub whole_fits : All (Fits k.range cuts) k.whole
  pub held_fits : HeldFit k.range cuts k.held

-- A statement, a block or branches, sound within these loops, whose ends are ranks, which go with the tables and have their
-- cuts among these, and in which all ranks that are told of a choice learn of it from what they receive first
module _ (p : Protocol) (cuts : List Lin) (a : Around) where
  pub record IsGoodStmt (m : Mark) (s : StmtTree) : Type 0 where
    pub fair : IsFairStmt p.range p.roles (rows_of p) a.opens m s
    pub goes : Goes p s
    pub among : AreAmong (stmt_cuts None s) cuts
    pub keeps : (k : ChoiceRule) (n : ℤ) (role : ℕ) (x : ℤ) → IsIn p.range n → is_rank p.roles n role x ≡ true →
        misfits (fits_of k) (a.held n role x) (rank p.roles n role x) (flat_stmt p.roles n a.opens (pos 0) m s stop) ≡ []

  pub record IsGood (b : BlockTree) : Type 0 where
    pub fair : IsFair p.range p.roles (rows_of p) a.opens b
    pub goes : GoAll p b
    pub among : AreAmong (block_cuts None b) cuts
    pub keeps : (k : ChoiceRule) (n : ℤ) (role : ℕ) (x : ℤ) → IsIn p.range n → is_rank p.roles n role x ≡ true →
        misfits (fits_of k) (a.held n role x) (rank p.roles n role x) (flat_block p.roles n a.opens (pos 0) b stop) ≡ []

  abbrev pub AreGood : BranchTrees → Type 0
  AreGood no_branch = Unit {0}
  AreGood (branch m b bs) = IsGood b × AreGood bs

-- those that take part in a block, or in some branch
abbrev pub block_takers : Scope → Around → BlockTree → Who
block_takers sc a b n i role x = takes_part (a.held n role x) (rank sc.roles n role x) (flat_block sc.roles n a.opens (pos 0) b stop)

abbrev pub among_takers : Scope → Around → BranchTrees → Who
among_takers sc a bs n i role x = takes_part_among (a.held n role x) (rank sc.roles n role x) (flat_branches sc.roles n a.opens (pos 0) bs)

-- outside of each For; somebody comes here, and all of these ranks do
pub record IsReached (sc : Scope) (h : Here) (who : Who) : Type 0 where
  pub free : IsOpen h
  pub some : Somebody sc h everyone
  pub come : Come sc h who
