-- What the parts of the walk answer: the first of the best so far and the breaches of a part.
use Rattle.std.specs.Prelude.{◌≡◌, ◌<◌, ℕ, ℤ, Bool, true, false, not, ◌&&◌, Option, List, [], ◌∷◌, ◌++◌}
use Rattle.pb_affine.specs.declared.range.NRange.{NRange}
use Rattle.pb_core_language.specs.declared.protocol.CoreRole.{CoreRole}
use Rattle.pb_core_language.specs.Ranks.{total}
use Rattle.pb_core_language.specs.Tree.{Mark, StmtTree, BlockTree, BranchTrees}
use Rattle.pb_core_language.specs.Run.{Env}
use Rattle.pb_core_language.specs.Outcomes.{Outcome, nothing_first, receives, comes_from_one}
use Rattle.pb_core_language.specs.Sound.{Rows}
use Rattle.pb_core_language.specs.Verdict.{IsIn}
use Rattle.pb_part_areas.specs.declared.area.Area.{Area}
use Rattle.pb_core_flat.specs.Seated.{rank, is_rank}
use Rattle.pb_core_flat.specs.OutcomeSets.{is_nothing, is_outcome}
use Rattle.pb_part_takers.specs.declared.held.Held.{Held}
use Rattle.pb_part_firsts.specs.declared.firsts.Entry.{Entry}
use Rattle.pb_part_takers.specs.Loops.{ids_of}
use Rattle.pb_part_firsts.specs.Takers.{IsWhole}
use Rattle.pb_part_firsts.specs.Firsts.{finds, are_small}
use Rattle.pb_choice.specs.declared.found.Found.{Found}
use Rattle.pb_choice.specs.Flaws.{IsFlaw, lone_at, of_rules, of_tellings, of_block, of_stmt, is_deserted, in_body, found_in, misses}
use Rattle.pb_choice.specs.Found.{Improves}
use Rattle.pb_choice.specs.Scenes.{Stands, IsFairStmt, IsFair, AreFair, Are}

pub record FirstIn (range : NRange) (whole : List Area) (held : List Held) (b : BlockTree) (old new : Option Found) : Type 0 where
  pub is : (roles : List CoreRole) (rows : Rows) (env : ℤ → Env) → Stands range roles env whole held → IsFair range roles rows (ids_of held) b →
      Improves (IsFlaw range roles (of_block roles env (ids_of held) b)) old new

pub record FirstAt (range : NRange) (whole : List Area) (held : List Held) (m : Mark) (s : StmtTree) (old new : Option Found) : Type 0 where
  pub is : (roles : List CoreRole) (rows : Rows) (env : ℤ → Env) → Stands range roles env whole held → IsFairStmt range roles rows (ids_of held) m s →
      Improves (IsFlaw range roles (of_stmt roles env (ids_of held) m s)) old new

-- the rules on choices at branches, of which these areas are told
pub record FirstAmong (range : NRange) (whole : List Area) (held : List Held) (told : List Area) (bs : BranchTrees) (old new : Option Found) : Type 0 where
  pub is : (roles : List CoreRole) (rows : Rows) (env : ℤ → Env) (test : ℤ → ℕ → ℤ → Bool) → Stands range roles env whole held →
      AreFair range roles rows (ids_of held) bs → Are range roles told test →
      Improves (IsFlaw range roles (of_tellings roles env (ids_of held) test (λ n role x. []) bs)) old new

-- The entries give the receives that the told ranks found first so far, and those with two sources are mixed.
pub record IsPast (range : NRange) (roles : List CoreRole) (test : ℤ → ℕ → ℤ → Bool) (before : ℤ → ℕ → ℤ → List Outcome) (entries : List Entry) (mixed : List Area) : Type 0 where
  pub small : are_small entries ≡ true
  pub found : (n : ℤ) (role : ℕ) (x : ℤ) → IsIn range n → is_rank roles n role x ≡ true → (s l : ℕ) →
      finds roles entries n role x (receives s l) ≡ test n role x && is_outcome (receives s l) (before n role x)
  pub mixed_is : Are range roles mixed (λ n role x. test n role x && not (comes_from_one (before n role x)))

-- The entries give what the told ranks find first in a branch, and those that find nothing are left.
pub record IsHere (range : NRange) (roles : List CoreRole) (test : ℤ → ℕ → ℤ → Bool) (here : ℤ → ℕ → ℤ → List Outcome) (entries : List Entry) (left : List Area) : Type 0 where
  pub small : are_small entries ≡ true
  pub found : (n : ℤ) (role : ℕ) (x : ℤ) (o : Outcome) → IsIn range n → is_rank roles n role x ≡ true → is_nothing o ≡ false →
      finds roles entries n role x o ≡ test n role x && is_outcome o (here n role x)
  pub rest : Are range roles left (λ n role x. test n role x && is_outcome nothing_first (here n role x))
  pub seated : (n : ℤ) (role : ℕ) (x : ℤ) (s l : ℕ) → IsIn range n → is_outcome (receives s l) (here n role x) ≡ true → s < total roles n

-- the branch with these entries, behind others
pub record FirstOf (range : NRange) (whole : List Area) (here : List Entry) (left : List Area) (m : Mark) (entries : List Entry) (mixed : List Area) (now : List Entry) (now_mixed : List Area) (old new : Option Found) : Type 0 where
  pub is : (roles : List CoreRole) (test : ℤ → ℕ → ℤ → Bool) (before found : ℤ → ℕ → ℤ → List Outcome) → IsWhole range roles whole →
      IsHere range roles test found here left → IsPast range roles test before entries mixed →
      Improves (IsFlaw range roles (of_rules m (λ k n role x. misses test (before n role x) (found n role x) k n role x))) old new
  pub past : (roles : List CoreRole) (test : ℤ → ℕ → ℤ → Bool) (before found : ℤ → ℕ → ℤ → List Outcome) → IsWhole range roles whole →
      IsHere range roles test found here left → IsPast range roles test before entries mixed →
      IsPast range roles test (λ n role x. before n role x ++ found n role x) now now_mixed

-- these rules at a branch
pub record FirstWithin (range : NRange) (whole : List Area) (held : List Held) (told : List Area) (m : Mark) (b : BlockTree) (entries : List Entry) (mixed : List Area) (now : List Entry) (now_mixed : List Area) (old new : Option Found) : Type 0 where
  pub is : (roles : List CoreRole) (rows : Rows) (env : ℤ → Env) (test : ℤ → ℕ → ℤ → Bool) (before : ℤ → ℕ → ℤ → List Outcome) → Stands range roles env whole held →
      IsFair range roles rows (ids_of held) b → Are range roles told test → IsPast range roles test before entries mixed →
      Improves (IsFlaw range roles (of_rules m (λ k n role x. misses test (before n role x) (found_in roles env (ids_of held) b n role x) k n role x))) old new
  pub past : (roles : List CoreRole) (rows : Rows) (env : ℤ → Env) (test : ℤ → ℕ → ℤ → Bool) (before : ℤ → ℕ → ℤ → List Outcome) → Stands range roles env whole held →
      IsFair range roles rows (ids_of held) b → Are range roles told test → IsPast range roles test before entries mixed →
      IsPast range roles test (λ n role x. before n role x ++ found_in roles env (ids_of held) b n role x) now now_mixed

-- the areas are of those in the body of a loop
pub record AreInBody (range : NRange) (whole : List Area) (held : List Held) (id : ℕ) (body : BlockTree) (areas : List Area) : Type 0 where
  pub is : (roles : List CoreRole) (rows : Rows) (env : ℤ → Env) → Stands range roles env whole held → IsFair range roles rows (id ∷ ids_of held) body →
      Are range roles areas (λ n role x. in_body roles env (ids_of held) id body n (rank roles n role x))

-- the loop, where nobody takes part in it
pub record FirstLone (range : NRange) (whole : List Area) (held : List Held) (m : Mark) (id : ℕ) (body : BlockTree) (areas : List Area) (old new : Option Found) : Type 0 where
  pub is : (roles : List CoreRole) (rows : Rows) (env : ℤ → Env) → Stands range roles env whole held → IsFair range roles rows (id ∷ ids_of held) body →
      Are range roles areas (λ n role x. in_body roles env (ids_of held) id body n (rank roles n role x)) →
      Improves (IsFlaw range roles (lone_at m (is_deserted roles env (ids_of held) id body))) old new
