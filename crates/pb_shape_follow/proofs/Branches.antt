-- The branches of a choice: in the core, in the endpoint and in the text.
use Rattle.std.proofs.Common.{◌≡◌, ◌≤◌, ◌<◌, ℕ, zero, suc, ◌+◌, ◌==◌, ℤ, pos, Bool, true, false, cond, MatchBool, List, ◌∷◌, Some, refl, ap, ◌∙◌, subst, arith}
use Rattle.std.proofs.lemmas.Bool.Decides.{nat_tests}
use Rattle.std.proofs.lemmas.Bool.{or_left, and_parts}
use Rattle.pb_core_language.specs.declared.protocol.CoreRole.{CoreRole}
use Rattle.pb_core_language.specs.Tree as T
use Rattle.pb_core_language.specs.Tree.{BlockTree, BranchTrees}
use Rattle.pb_core_language.specs.Plain.{Protocol}
use Rattle.pb_core_language.specs.Flat.{Block, stop, message, compute, together, choice, looped, again, Branches, no_branch, branch, takes_part, takes_part_among, count, branch_at}
use Rattle.pb_core_language.specs.FlatOf.{flat_block, flat_branches}
use Rattle.pb_core_language.specs.Lists.{is_among}
use Rattle.pb_core_language.specs.Outcomes.{firsts, labels_of}
use Rattle.pb_core_language.specs.Run.{Env}
use Rattle.pb_core_endpoint.specs.Core.{have_simple_items, branches_have_simple_items}
use Rattle.pb_core_endpoint.specs.Endpoint.{Code, code, arms, count_arms, arm_at, arm_of}
use Rattle.pb_core_endpoint.proofs.Kept.{Receives_first, Receives_each, first_label, first_label_among, Apart, Keeps, Keeps_each}
use Rattle.pb_core_endpoint.proofs.Moves.{arm_is as arm_is_branch, among_at}
use Rattle.pb_local.specs.Tree.{Codes, nothing, size_all, size_parts, Parts, no_part, part, Program}
use Rattle.pb_local.specs.WellMade as W
use Rattle.pb_local.specs.WellMade.{AreMade, ArePartsMade, count_parts}
use Rattle.pb_local.specs.Machine.{Todo, pushed, entered}
use Rattle.pb_shape.specs.Shape as S
use Rattle.pb_shape.specs.Places.{Scope, Here}
use Rattle.pb_shape.specs.Loops.{Around}
use Rattle.pb_shape.specs.Shape.{Shape, Shapes}
use Rattle.pb_shape.specs.Straight.{AreFine, BranchesAreFine}

-- ---- by the branch's number

abbrev pub tree_at : ℕ → BranchTrees → BlockTree
tree_at y T.no_branch = T.nothing
tree_at zero (T.branch m b bs) = b
tree_at (suc y) (T.branch m b bs) = tree_at y bs

abbrev pub part_at : ℕ → Parts → Codes
part_at y no_part = nothing
part_at zero (part a rest) = a
part_at (suc y) (part a rest) = part_at y rest

pub shape_at : {sc : Scope} {h : Here} {a : Around} (bs : BranchTrees) (parts : Parts) (y : ℕ) → Shapes sc h a bs parts → Shape sc h a (tree_at y bs) (part_at y parts)
shape_at T.no_branch no_part y S.no_shape = S.none
shape_at T.no_branch (part a parts) y h = elim h [ ]
shape_at (T.branch m b bs) no_part y h = elim h [ ]
shape_at (T.branch m b bs) (part a parts) zero (S.branch s ss) = s
shape_at (T.branch m b bs) (part a parts) (suc y) (S.branch s ss) = shape_at bs parts y ss

pub size_at : (y : ℕ) (parts : Parts) → size_all (part_at y parts) ≤ size_parts parts
size_at y no_part = omega arith
size_at zero (part a rest) = omega arith
size_at (suc y) (part a rest) = omega (arith, size_at y rest)

pub fine_at : (p : Protocol) (n : ℤ) (bs : BranchTrees) (y : ℕ) → BranchesAreFine p n bs → AreFine p n (tree_at y bs)
fine_at p n T.no_branch y h = tt
fine_at p n (T.branch m b bs) zero h = h.0
fine_at p n (T.branch m b bs) (suc y) h = fine_at p n bs y h.1

pub simple_at : (bs : BranchTrees) (y : ℕ) → branches_have_simple_items bs ≡ true → have_simple_items (tree_at y bs) ≡ true
simple_at T.no_branch y h = refl
simple_at (T.branch m b bs) zero h = (and_parts (have_simple_items b) (branches_have_simple_items bs) h).0
simple_at (T.branch m b bs) (suc y) h = simple_at bs y (and_parts (have_simple_items b) (branches_have_simple_items bs) h).1

-- where a branch's code is made
pub record MadeAt (l : Program) (s : W.Scope) (codes : Codes) : Type 0 where
  pub at : W.Scope
  pub made : AreMade l at codes
  pub later : s.loops ≤ at.loops

pub made_at : (l : Program) (parts : Parts) (y : ℕ) (s : W.Scope) → ArePartsMade l s parts → MadeAt l s (part_at y parts)
made_at l no_part y s h = record { at = s; made = tt; later = omega arith }
made_at l (part a rest) zero s h = record { at = s; made = h.0; later = omega arith }
made_at l (part a rest) (suc y) s h = let r = made_at l rest y (W.behind s (W.loops_in a)) h.1 in record { at = r.at; made = r.made; later = (let e = r.later in omega arith) }

-- what is to do of a branch, and its number
pub record IsEntered (k y : ℕ) (parts : Parts) (rest : Todo) : Type 0 where
  pub from : ℕ
  pub is : entered k y parts rest ≡ pushed from (part_at y parts) rest

pub entered_is : (k y : ℕ) (parts : Parts) (rest : Todo) → IsEntered k y parts rest
entered_is k y no_part rest = record { from = k; is = refl }
entered_is k zero (part a bs) rest = record { from = k; is = refl }
entered_is k (suc y) (part a bs) rest = let r = entered_is (k + size_all a) y bs rest in record { from = r.from; is = r.is }

module _ (roles : List CoreRole) (n : ℤ) (opens : List ℕ) where
  abbrev flats : BranchTrees → Branches
  flats bs = flat_branches roles n opens (pos 0) bs

  pub branch_is : (bs : BranchTrees) (y : ℕ) → branch_at y (flats bs) ≡ flat_block roles n opens (pos 0) (tree_at y bs) stop
  branch_is T.no_branch y = refl
  branch_is (T.branch m b bs) zero = refl
  branch_is (T.branch m b bs) (suc y) = branch_is bs y

  pub keeps_at : (world : ℕ) (env : Env) (bs : BranchTrees) (y : ℕ) → Keeps_each world env (flats bs) → Keeps world env (flat_block roles n opens (pos 0) (tree_at y bs) stop)
  keeps_at world env T.no_branch y h = tt
  keeps_at world env (T.branch m b bs) zero h = h.0
  keeps_at world env (T.branch m b bs) (suc y) h = keeps_at world env bs y h.1

  pub counts_are : {sc : Scope} {h : Here} {a : Around} (held : List Bool) (r : ℕ) (bs : BranchTrees) (parts : Parts) → Shapes sc h a bs parts → count_arms (arms held r (flats bs)) ≡ count_parts parts
  counts_are held r T.no_branch no_part S.no_shape = refl
  counts_are held r T.no_branch (part a parts) h = elim h [ ]
  counts_are held r (T.branch m b bs) no_part h = elim h [ ]
  counts_are held r (T.branch m b bs) (part a parts) (S.branch s ss) = ap suc (counts_are held r bs parts ss)

  pub arm_is : (held : List Bool) (r : ℕ) (bs : BranchTrees) (y : ℕ) → arm_at y (arms held r (flats bs)) ≡ code held r (flat_block roles n opens (pos 0) (tree_at y bs) stop)
  arm_is held r bs y = arm_is_branch held r (flats bs) y ∙ ap (code held r) (branch_is bs y)

-- ---- by a label

module _ (held : List Bool) (r : ℕ) where
  abbrev labels_at : ℕ → Branches → List ℕ
  labels_at y bs = labels_of (firsts held r (branch_at y bs))

  -- the branch that a label tells
  pub record FoundArm (bs : Branches) (label : ℕ) (c : Code) : Type 0 where
    pub branch : ℕ
    pub is : c ≡ code held r (branch_at branch bs)
    pub told : is_among label (labels_at branch bs) ≡ true

  pub found_arm : (bs : Branches) (label : ℕ) (c : Code) → arm_of (arms held r bs) label ≡ Some c → FoundArm bs label c
  found_arm no_branch label c h = cc
  found_arm (branch m b bs) label c h = go (is_among label (labels_of (firsts held r b))) refl h (found_arm bs label c)
    where
      go : (u : Bool) → is_among label (labels_of (firsts held r b)) ≡ u → cond u (Some (code held r b)) (arm_of (arms held r bs) label) ≡ Some c → (arm_of (arms held r bs) label ≡ Some c → FoundArm bs label c) → FoundArm (branch m b bs) label c
      go true e h ih = record { branch = zero; is = cc; told = e }
      go false e h ih = let f = ih h in record { branch = suc f.branch; is = f.is; told = f.told }

  -- no label tells two branches
  pub one_branch : (bs : Branches) (x y label : ℕ) → Apart held r bs → is_among label (labels_at x bs) ≡ true → is_among label (labels_at y bs) ≡ true → x ≡ y
  one_branch no_branch x y label apart h k = cc
  one_branch (branch m b bs) zero zero label apart h k = refl
  one_branch (branch m b bs) zero (suc y) label apart h k = absurd (apart.0 label h (among_at held r bs y label k))
  one_branch (branch m b bs) (suc x) zero label apart h k = absurd (apart.0 label k (among_at held r bs x label h))
  one_branch (branch m b bs) (suc x) (suc y) label apart h k = ap suc (one_branch bs x y label apart.1 h k)

-- ---- whoever is told, is told by a rank, and by some label

abbrev pub HasFirst : List Bool → ℕ → ℕ → ℕ → Block → Type 0
HasFirst held r q world g = (label : ℕ) × (first_label held r g label ≡ true) × (q < world)

abbrev pub HasFirstAmong : List Bool → ℕ → ℕ → ℕ → Branches → Type 0
HasFirstAmong held r q world bs = (label : ℕ) × (first_label_among held r bs label ≡ true) × (q < world)

module _ (r q world : ℕ) where
  mutual
    pub has_first : (held : List Bool) (env : Env) (g : Block) → Keeps world env g → Receives_first held r q g → HasFirst held r q world g
    has_first held env stop k h = absurd h
    has_first held env (message origin p' q' m g) k h = go (p' == r) (q' == r) h (has_first held env g k.3)
      where
        go : (u v : Bool) → MatchBool u ⊥ (MatchBool v (p' ≡ q) (Receives_first held r q g)) → (Receives_first held r q g → HasFirst held r q world g) →
            (label : ℕ) × (cond v (m == label) (first_label held r g label) ≡ true) × (q < world)
        go true v h ih = absurd h
        go false true h ih = (m, grind (arith, nat_tests), subst (λ z. z < world) h k.0)
        go false false h ih = ih h
    has_first held env (compute origin p' k' g) k h = go (p' == r) h (has_first held env g k.1)
      where
        go : (u : Bool) → MatchBool u ⊥ (Receives_first held r q g) → (Receives_first held r q g → HasFirst held r q world g) → HasFirst held r q world g
        go true h ih = absurd h
        go false h ih = ih h
    has_first held env (together origin j g) k h = absurd h
    has_first held env (choice origin p' k' bs g) k h = go (p' == r) (takes_part_among held r bs) h (has_first_among held env bs k.1 k.3) (has_first held env g k.4)
      where
        go : (u v : Bool) → MatchBool u ⊥ (MatchBool v (Receives_each held r q bs) (Receives_first held r q g)) → (Receives_each held r q bs → HasFirstAmong held r q world bs) → (Receives_first held r q g → HasFirst held r q world g) →
            (label : ℕ) × (cond v (first_label_among held r bs label) (first_label held r g label) ≡ true) × (q < world)
        go true v h some ih = absurd h
        go false true h some ih = some h
        go false false h some ih = ih h
    has_first held env (looped origin b g) k h = go (takes_part (false ∷ held) r b) h (has_first (true ∷ held) _ b k.0) (has_first held env g k.1)
      where
        go : (u : Bool) → MatchBool u (Receives_first (true ∷ held) r q b) (Receives_first held r q g) → (Receives_first (true ∷ held) r q b → HasFirst (true ∷ held) r q world b) → (Receives_first held r q g → HasFirst held r q world g) →
            (label : ℕ) × (cond u (first_label (true ∷ held) r b label) (first_label held r g label) ≡ true) × (q < world)
        go true h some ih = some h
        go false h some ih = ih h
    has_first held env (again m) k h = absurd h

    pub has_first_among : (held : List Bool) (env : Env) (bs : Branches) → 0 < count bs → Keeps_each world env bs → Receives_each held r q bs → HasFirstAmong held r q world bs
    has_first_among held env no_branch some k h = absurd (omega arith)
    has_first_among held env (branch m b bs) some k h = let f = has_first held env b k.0 h.0 in (f.0, or_left (first_label held r b f.0) (first_label_among held r bs f.0) f.1, f.2)

-- the same, with the first branch
pub record IsToldBy (held : List Bool) (r q world : ℕ) (bs : Branches) : Type 0 where
  pub label : ℕ
  pub told : first_label held r (branch_at 0 bs) label ≡ true
  pub source : q < world

pub told_by_one : (held : List Bool) (r q world : ℕ) (env : Env) (bs : Branches) → 0 < count bs → Keeps_each world env bs → Receives_each held r q bs → IsToldBy held r q world bs
told_by_one held r q world env no_branch some k h = absurd (omega arith)
told_by_one held r q world env (branch m b bs) some k h = let f = has_first r q world held env b k.0 h.0 in record { label = f.0; told = f.1; source = f.2 }
