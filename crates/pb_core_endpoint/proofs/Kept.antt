-- The rules in the form that the proofs use.
use Rattle.std.proofs.Common.{◌≡◌, ◌≢◌, ℕ, ◌<◌, ◌==◌, cond, Bool, true, false, ◌||◌, MatchBool, List, [], ◌∷◌, length}
use Rattle.pb_core_language.specs.Lists.{nth, is_among}
use Rattle.pb_core_language.specs.Flat.{Block, stop, message, compute, together, choice, looped, again, Branches, no_branch, branch, takes_part, takes_part_among, count, branch_at, can_end, some_can_end}
use Rattle.pb_core_language.specs.Outcomes.{firsts, firsts_among, source_of, labels_of}
use Rattle.pb_core_language.specs.Run.{Env, at_rank}
use Rattle.pb_core_endpoint.specs.Rules.{is_stop}

-- ---- first outcomes

-- each first outcome of the rank in the block is a receive from p
abbrev mutual
  pub Receives_first : List Bool → ℕ → ℕ → Block → Type 0
  Receives_first held r p stop = ⊥
  Receives_first held r p (message origin p' q' l g) = MatchBool (p' == r) ⊥ (MatchBool (q' == r) (p' ≡ p) (Receives_first held r p g))
  Receives_first held r p (compute origin p' k g) = MatchBool (p' == r) ⊥ (Receives_first held r p g)
  Receives_first held r p (together origin j g) = ⊥
  Receives_first held r p (choice origin p' k bs g) = MatchBool (p' == r) ⊥ (MatchBool (takes_part_among held r bs) (Receives_each held r p bs) (Receives_first held r p g))
  Receives_first held r p (looped origin b g) = MatchBool (takes_part (false ∷ held) r b) (Receives_first (true ∷ held) r p b) (Receives_first held r p g)
  Receives_first held r p (again n) = ⊥

  pub Receives_each : List Bool → ℕ → ℕ → Branches → Type 0
  Receives_each held r p no_branch = Unit {0}
  Receives_each held r p (branch mark b bs) = Receives_first held r p b × Receives_each held r p bs

-- the labels of these receives
abbrev mutual
  pub first_label : List Bool → ℕ → Block → ℕ → Bool
  first_label held r stop l = false
  first_label held r (message origin p' q' m g) l = cond (q' == r) (m == l) (first_label held r g l)
  first_label held r (compute origin p' k g) l = first_label held r g l
  first_label held r (together origin j g) l = false
  first_label held r (choice origin p' k bs g) l = cond (takes_part_among held r bs) (first_label_among held r bs l) (first_label held r g l)
  first_label held r (looped origin b g) l = cond (takes_part (false ∷ held) r b) (first_label (true ∷ held) r b l) (first_label held r g l)
  first_label held r (again n) l = false

  pub first_label_among : List Bool → ℕ → Branches → ℕ → Bool
  first_label_among held r no_branch l = false
  first_label_among held r (branch mark b bs) l = first_label held r b l || first_label_among held r bs l

-- no label of a branch is one of a later branch
abbrev pub Apart : List Bool → ℕ → Branches → Type 0
Apart held r no_branch = Unit {0}
Apart held r (branch mark b bs) = ((l : ℕ) → is_among l (labels_of (firsts held r b)) ≡ true → is_among l (labels_of (firsts_among held r bs)) ≡ true → ⊥) × Apart held r bs

-- a rank that isn't the chooser receives first in each branch, everywhere from one rank, and the labels tell the branches apart
pub record IsTold (held : List Bool) (r : ℕ) (bs : Branches) : Type 0 where
  pub receives : Receives_each held r (source_of (firsts_among held r bs)) bs
  pub labels : (x l : ℕ) → first_label held r (branch_at x bs) l ≡ true → is_among l (labels_of (firsts held r (branch_at x bs))) ≡ true
  pub apart : Apart held r bs

-- ends are ranks, the two of a message differ, a continue stands inside its loop, and the choices keep their rules
abbrev mutual
  pub Keeps : ℕ → Env → Block → Type 0
  Keeps T env stop = Unit {0}
  Keeps T env (message origin p q l g) = (p < T) × (q < T) × (p ≢ q) × Keeps T env g
  Keeps T env (compute origin p k g) = (p < T) × Keeps T env g
  Keeps T env (together origin j g) = (0 < T) × Keeps T env g
  Keeps T env (choice origin p k bs g) = (p < T) × (0 < count bs) × ((r : ℕ) → r < T → (p == r) ≡ false → takes_part_among (at_rank r env) r bs ≡ true → IsTold (at_rank r env) r bs) × Keeps_each T env bs × Keeps T env g
  Keeps T env (looped origin b g) = Keeps T ((λ r. takes_part (false ∷ at_rank r env) r b) ∷ env) b × Keeps T env g
  Keeps T env (again n) = n < length env

  pub Keeps_each : ℕ → Env → Branches → Type 0
  Keeps_each T env no_branch = Unit {0}
  Keeps_each T env (branch mark b bs) = Keeps T env b × Keeps_each T env bs

-- ---- what can end

-- each loop in it can end
abbrev mutual
  pub Loops_end : Block → Type 0
  Loops_end stop = Unit {0}
  Loops_end (message origin p q l g) = Loops_end g
  Loops_end (compute origin p k g) = Loops_end g
  Loops_end (together origin j g) = Loops_end g
  Loops_end (choice origin p k bs g) = Loops_end_each bs × Loops_end g
  Loops_end (looped origin b g) = (can_end b ≡ true) × Loops_end b × Loops_end g
  Loops_end (again n) = Unit {0}

  pub Loops_end_each : Branches → Type 0
  Loops_end_each no_branch = Unit {0}
  Loops_end_each (branch mark b bs) = Loops_end b × Loops_end_each bs

-- what another statement follows can end, and so can each loop in it
abbrev mutual
  pub Ends_before : Block → Type 0
  Ends_before stop = Unit {0}
  Ends_before (message origin p q l g) = Ends_before g
  Ends_before (compute origin p k g) = Ends_before g
  Ends_before (together origin j g) = Ends_before g
  Ends_before (choice origin p k bs g) = (is_stop g ≡ false → (some_can_end bs ≡ true) × Loops_end_each bs) × Ends_before_each bs × Ends_before g
  Ends_before (looped origin b g) = (is_stop g ≡ false → (can_end b ≡ true) × Loops_end b) × Ends_before b × Ends_before g
  Ends_before (again n) = Unit {0}

  pub Ends_before_each : Branches → Type 0
  Ends_before_each no_branch = Unit {0}
  Ends_before_each (branch mark b bs) = Ends_before b × Ends_before_each bs

-- each continue has a rank that takes part in its loop
abbrev pub Has : ℕ → Env → ℕ → Type 0
Has T env n = (r : ℕ) × (r < T) × (nth (at_rank r env) n ≡ true)

abbrev mutual
  pub Continued : ℕ → Env → Block → Type 0
  Continued T env stop = Unit {0}
  Continued T env (message origin p q l g) = Continued T env g
  Continued T env (compute origin p k g) = Continued T env g
  Continued T env (together origin j g) = Continued T env g
  Continued T env (choice origin p k bs g) = Continued_each T env bs × Continued T env g
  Continued T env (looped origin b g) = Continued T ((λ r. takes_part (false ∷ at_rank r env) r b) ∷ env) b × Continued T env g
  Continued T env (again n) = Has T env n

  pub Continued_each : ℕ → Env → Branches → Type 0
  Continued_each T env no_branch = Unit {0}
  Continued_each T env (branch mark b bs) = Continued T env b × Continued_each T env bs

pub record Obeys (T : ℕ) (protocol : Block) : Type 0 where
  pub keeps : Keeps T [] protocol
  pub ends : Ends_before protocol
  pub people : Continued T [] protocol
