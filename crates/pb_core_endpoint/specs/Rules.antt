-- What a flat protocol keeps at one number of ranks, where its endpoints are to do it.
use Rattle.std.specs.Prelude.{◌≡◌, ℕ, ◌<◌, suc, ◌==◌, Bool, true, false, ◌||◌, ◌&&◌, not, [], nat_lt}
use Rattle.pb_core_language.specs.Flat.{Block, stop, message, compute, together, choice, looped, again, Branches, no_branch, branch, count, can_end, some_can_end}
use Rattle.pb_core_language.specs.Run.{Setting}
use Rattle.pb_core_language.specs.Rules.{deserted, misfits, receives_only, keeps_source, keeps_labels}

-- Ends are ranks, and the two of a message differ; a choice has a branch; a continue stands inside its loop, of which there are so many around
abbrev mutual
  pub is_formed : ℕ → ℕ → Block → Bool
  is_formed T open_loops stop = true
  is_formed T open_loops (message origin p q l g) = (nat_lt p T && (nat_lt q T && not (p == q))) && is_formed T open_loops g
  is_formed T open_loops (compute origin p k g) = nat_lt p T && is_formed T open_loops g
  is_formed T open_loops (together origin j g) = nat_lt 0 T && is_formed T open_loops g
  is_formed T open_loops (choice origin p k bs g) = (nat_lt p T && nat_lt 0 (count bs)) && (are_formed T open_loops bs && is_formed T open_loops g)
  is_formed T open_loops (looped origin b g) = is_formed T (suc open_loops) b && is_formed T open_loops g
  is_formed T open_loops (again n) = nat_lt n open_loops

  pub are_formed : ℕ → ℕ → Branches → Bool
  are_formed T open_loops no_branch = true
  are_formed T open_loops (branch mark b bs) = is_formed T open_loops b && are_formed T open_loops bs

-- ---- what can end

abbrev pub is_stop : Block → Bool
is_stop stop = true
is_stop (message origin p q l g) = false
is_stop (compute origin p k g) = false
is_stop (together origin j g) = false
is_stop (choice origin p k bs g) = false
is_stop (looped origin b g) = false
is_stop (again n) = false

-- each loop in it can end
abbrev mutual
  pub loops_end : Block → Bool
  loops_end stop = true
  loops_end (message origin p q l g) = loops_end g
  loops_end (compute origin p k g) = loops_end g
  loops_end (together origin j g) = loops_end g
  loops_end (choice origin p k bs g) = loops_end_each bs && loops_end g
  loops_end (looped origin b g) = can_end b && (loops_end b && loops_end g)
  loops_end (again n) = true

  pub loops_end_each : Branches → Bool
  loops_end_each no_branch = true
  loops_end_each (branch mark b bs) = loops_end b && loops_end_each bs

-- what another statement follows can end, and so can each loop in it
abbrev mutual
  pub ends_before : Block → Bool
  ends_before stop = true
  ends_before (message origin p q l g) = ends_before g
  ends_before (compute origin p k g) = ends_before g
  ends_before (together origin j g) = ends_before g
  ends_before (choice origin p k bs g) = (is_stop g || (some_can_end bs && loops_end_each bs)) && (ends_before_each bs && ends_before g)
  ends_before (looped origin b g) = (is_stop g || (can_end b && loops_end b)) && (ends_before b && ends_before g)
  ends_before (again n) = true

  pub ends_before_each : Branches → Bool
  ends_before_each no_branch = true
  ends_before_each (branch mark b bs) = ends_before b && ends_before_each bs

-- All of it: well formed, whatever another statement follows ends, each loop that comes round has a rank, and at a choice
-- the ranks that are told find receives alone, from one source, with labels that tell the branches apart.
pub record Accepted (w : Setting) (protocol : Block) : Type 0 where
  pub formed : is_formed w.total 0 protocol ≡ true
  pub ends : ends_before protocol ≡ true
  pub peopled : deserted w.total [] protocol ≡ []
  pub receives : (r : ℕ) → r < w.total → misfits receives_only [] r protocol ≡ []
  pub sources : (r : ℕ) → r < w.total → misfits keeps_source [] r protocol ≡ []
  pub labels : (r : ℕ) → r < w.total → misfits keeps_labels [] r protocol ≡ []
