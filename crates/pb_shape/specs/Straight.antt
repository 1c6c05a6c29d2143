-- That the code of a straight statement does a rank's part of it.
use Rattle.std.specs.Prelude.{◌≡◌, ℕ, ◌+◌, ◌*◌, ◌≤◌, ℤ, pos, negsuc, ◌≤ℤ◌, Bool, true, false, List}
use Rattle.pb_text.specs.declared.limits.TheConstants.{MOST_NUMBER}
use Rattle.pb_affine.specs.Values.{value}
use Rattle.pb_world.specs.Actions.{Kind}
use Rattle.pb_core_language.specs.declared.tree.CoreEnd.{CoreEnd}
use Rattle.pb_core_language.specs.Ranks.{total}
use Rattle.pb_core_language.specs.Tree as T
use Rattle.pb_core_language.specs.Tree.{Mark, StmtTree, BlockTree, BranchTrees, is_again}
use Rattle.pb_core_language.specs.declared.tree.Bounds.{Bounds}
use Rattle.pb_core_language.specs.Plain.{Protocol}
use Rattle.pb_core_language.specs.Flat.{stop}
use Rattle.pb_core_language.specs.FlatOf.{flat_stmt}
use Rattle.pb_core_language.specs.Sound.{is_sound, is_bound, is_end, rows_of}
use Rattle.pb_core_language.specs.Verdict.{IsIn}
use Rattle.pb_core_flat.specs.Seated.{rank, is_rank}
use Rattle.pb_local.specs.Ranks.{Seat}
use Rattle.pb_local.specs.Tree.{Codes, size_all, Program}
use Rattle.pb_local.specs.WellMade as W
use Rattle.pb_local.specs.WellMade.{AreMade, IsWellMade}
use Rattle.pb_local.specs.Machine.{Todo, pushed, Rank, machine}
use Rattle.pb_local.specs.Family.{most_silent}
use Rattle.pb_shape.specs.Places.{Here, scope_of}
use Rattle.pb_shape.specs.Pieces.{Piece}
use Rattle.pb_shape.specs.Shape.{HasShape}
use Rattle.pb_shape.specs.Ways.{mine, Way, renewed}

-- rank r of the program at N = n, with its role and index
pub record IsSeated (p : Protocol) (l : Program) (n : ℤ) (r : ℕ) (me : Seat) : Type 0 where
  pub sound : is_sound p ≡ true
  pub shape : HasShape p l
  pub made : IsWellMade l
  pub within : IsIn p.range n
  pub few : total p.roles n ≤ MOST_NUMBER
  pub is : is_rank p.roles n me.role me.index ≡ true
  pub number : rank p.roles n me.role me.index ≡ r

-- a value that the variable may have
pub record IsVariable (x : ℤ) : Type 0 where
  pub low : negsuc 2019999999 ≤ℤ x
  pub high : x ≤ℤ pos 2020000000

-- ---- each end is a rank, for each value of the variable, and a message has two

module _ (p : Protocol) (n : ℤ) where
  pub record IsEnd (varies : Bool) (i : ℤ) (e : CoreEnd) : Type 0 where
    pub sound : is_end (rows_of p) varies e ≡ true
    pub is : is_rank p.roles n e.role (value e.at n i) ≡ true

  abbrev pub IsItem : Bool → ℤ → StmtTree → Type 0
  IsItem varies i (T.message l f t) =
      IsEnd varies i f × IsEnd varies i t × (rank p.roles n f.role (value f.at n i) ≡ rank p.roles n t.role (value t.at n i) → ⊥)
  IsItem varies i (T.run k e) = IsEnd varies i e
  IsItem varies i (T.foreach b m items) = ⊥
  IsItem varies i (T.loop id m body) = ⊥
  IsItem varies i (T.again id) = ⊥
  IsItem varies i (T.choice k at bs) = ⊥
  IsItem varies i T.barrier = ⊥
  IsItem varies i (T.broadcast l root) = ⊥
  IsItem varies i (T.reduce l op root) = ⊥
  IsItem varies i (T.allreduce l op) = ⊥

  abbrev pub AreItems : Bool → ℤ → BlockTree → Type 0
  AreItems varies i T.nothing = Unit {0}
  AreItems varies i (T.more m s rest) = IsItem varies i s × AreItems varies i rest

  pub record IsEach (b : Bounds) (items : BlockTree) : Type 0 where
    pub low : is_bound b.low ≡ true
    pub high : is_bound b.high ≡ true
    pub each : (i : ℤ) → value b.low n (pos 0) ≤ℤ i → i ≤ℤ value b.high n (pos 0) → AreItems true i items

  abbrev mutual
    pub IsFine : StmtTree → Type 0
    IsFine (T.message l f t) = IsItem false (pos 0) (T.message l f t)
    IsFine (T.run k e) = IsEnd false (pos 0) e
    IsFine (T.foreach b m items) = IsEach b items
    IsFine (T.loop id m body) = AreFine body
    IsFine (T.again id) = Unit {0}
    IsFine (T.choice k at bs) = IsEnd false (pos 0) at × BranchesAreFine bs
    IsFine T.barrier = Unit {0}
    IsFine (T.broadcast l root) = IsEnd false (pos 0) root
    IsFine (T.reduce l op root) = IsEnd false (pos 0) root
    IsFine (T.allreduce l op) = Unit {0}

    -- what stands behind a continue isn't done
    pub AreFine : BlockTree → Type 0
    AreFine T.nothing = Unit {0}
    AreFine (T.more m s rest) = IsFine s × (is_again s ≡ false → AreFine rest)

    pub BranchesAreFine : BranchTrees → Type 0
    BranchesAreFine T.no_branch = Unit {0}
    BranchesAreFine (T.branch m b bs) = AreFine b × BranchesAreFine bs

-- ---- the way through the code

abbrev pub at_todo : Seat → ℤ → Todo → Rank
at_todo me i todo = record { seat = me; i = i; todo = todo }

-- From the code of a statement to what follows it, with these actions. Silent steps since the last action, or on the whole way where there is none, are no more than the code has statements
pub record Passes (l : Program) (n : ℤ) (me : Seat) (k number : ℕ) (i : ℤ) (codes tail : Codes) (rest : Todo) (kinds : List Kind) : Type 0 where
  pub variable : ℤ
  pub near : IsVariable variable
  pub behind : ℕ
  pub left : ℕ
  pub counts : behind + size_all tail ≡ number + size_all codes  -- the number of what follows
  pub enough : renewed (most_silent l) k kinds + size_all tail ≤ left + size_all codes
  pub way : Way (machine l n) (most_silent l) (at_todo me variable (pushed behind tail rest)) left k (at_todo me i (pushed number codes rest)) kinds

-- a place outside of each For, to which the rank comes
pub record IsOpenTo (h : Here) (n : ℤ) (me : Seat) : Type 0 where
  pub at : (i : ℤ) → h.at n i ≡ true
  pub comes : (i : ℤ) → h.comes n i me.role me.index ≡ true

abbrev pub StraightPasses : Type 0
StraightPasses =
    (p : Protocol) (l : Program) (n : ℤ) (r : ℕ) (me : Seat) → IsSeated p l n r me → (h : Here) → IsOpenTo h n me →
    (opens : List ℕ) (m : Mark) (s : StmtTree) (tail codes : Codes) → Piece (scope_of p) h tail s codes → IsFine p n s → (at : W.Scope) → AreMade l at codes →
    (rest : Todo) (k number : ℕ) (i : ℤ) → IsVariable i → size_all codes ≤ k → 2 * size_all codes ≤ most_silent l →
    Passes l n me k number i codes tail rest (mine r (flat_stmt p.roles n opens (pos 0) m s stop))
