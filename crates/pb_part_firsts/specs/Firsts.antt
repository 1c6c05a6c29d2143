-- What a list of areas with outcomes has to do with the first outcomes of a rank.
use Rattle.std.specs.Prelude.{◌≡◌, ℕ, ℤ, pos, Bool, true, false, ◌&&◌, ◌||◌, List, [], ◌∷◌}
use Rattle.pb_affine.specs.declared.range.NRange.{NRange}
use Rattle.pb_affine.specs.Values.{value}
use Rattle.pb_core_language.specs.declared.protocol.CoreRole.{CoreRole}
use Rattle.pb_core_language.specs.Tree.{BlockTree}
use Rattle.pb_core_language.specs.Verdict.{IsIn}
use Rattle.pb_core_language.specs.Flat.{stop}
use Rattle.pb_core_language.specs.FlatOf.{flat_block}
use Rattle.pb_core_language.specs.Outcomes.{Outcome, nothing_first, receives, other_first, again_first, firsts}
use Rattle.pb_part_areas.specs.declared.area.Area.{Area}
use Rattle.pb_part_areas.specs.Areas.{has, have}
use Rattle.pb_core_flat.specs.Seated.{rank, is_rank}
use Rattle.pb_core_flat.specs.OutcomeSets.{outcome_eq, is_nothing, is_outcome}
use Rattle.pb_part_takers.specs.declared.held.Held.{Held}
use Rattle.pb_part_visits.specs.Visits.{is_small_off}
use Rattle.pb_part_firsts.specs.declared.firsts.Entry.{Entry}
use Rattle.pb_part_firsts.specs.declared.firsts.Kind.{Kind}
use Rattle.pb_part_firsts.specs.declared.firsts.Kind.TheVariants.{Receive, Other, Again}
use Rattle.pb_part_takers.specs.Loops.{held_of, ids_of}

-- what is found at N = n by the rank with index x
abbrev pub outcome_of : List CoreRole → Kind → ℤ → ℤ → Outcome
outcome_of roles (Receive s l) n x = receives (rank roles n s.role (value s.at n x)) l
outcome_of roles Other n x = other_first
outcome_of roles Again n x = again_first

-- the list gives this rank the outcome
abbrev pub finds : List CoreRole → List Entry → ℤ → ℕ → ℤ → Outcome → Bool
finds roles [] n role x o = false
finds roles (f ∷ fs) n role x o = (has f.area n role x && outcome_eq (outcome_of roles f.kind n x) o) || finds roles fs n role x o

abbrev pub first_in : List CoreRole → List Held → BlockTree → ℤ → ℕ → ℤ → List Outcome
first_in roles held b n role x = firsts (held_of held n role x) (rank roles n role x) (flat_block roles n (ids_of held) (pos 0) b stop)

-- of the ranks that come so far, the new list gives their outcomes besides the old one's, and those with nothing are left
pub record Gives (range : NRange) (roles : List CoreRole) (reach left : List Area) (old new : List Entry) (outs : ℤ → ℕ → ℤ → List Outcome) : Type 0 where
  pub out : (n : ℤ) (role : ℕ) (x : ℤ) (o : Outcome) → IsIn range n → is_rank roles n role x ≡ true → is_nothing o ≡ false →
      finds roles new n role x o ≡ finds roles old n role x o || (have reach n role x && is_outcome o (outs n role x))
  pub rest : (n : ℤ) (role : ℕ) (x : ℤ) → IsIn range n → is_rank roles n role x ≡ true →
      have left n role x ≡ have reach n role x && is_outcome nothing_first (outs n role x)

-- sources whose offsets are within 1,000,000 of zero
abbrev pub is_small_kind : Kind → Bool
is_small_kind (Receive s l) = is_small_off s.at.off
is_small_kind Other = true
is_small_kind Again = true

abbrev pub are_small : List Entry → Bool
are_small [] = true
are_small (f ∷ fs) = is_small_kind f.kind && are_small fs
