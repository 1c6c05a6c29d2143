-- Ranks that come so far, where those at some areas stop with an outcome that isn't added yet.
use Rattle.std.specs.Prelude.{◌≡◌, ℕ, ℤ, Bool, true, false, ◌&&◌, ◌||◌, not, List}
use Rattle.std.specs.List.{All}
use Rattle.pb_affine.specs.declared.lin.Lin.{Lin}
use Rattle.pb_affine.specs.declared.range.NRange.{NRange}
use Rattle.pb_core_language.specs.declared.protocol.CoreRole.{CoreRole}
use Rattle.pb_core_language.specs.Outcomes.{Outcome, nothing_first}
use Rattle.pb_core_language.specs.Verdict.{IsIn}
use Rattle.pb_part_areas.specs.declared.area.Area.{Area}
use Rattle.pb_part_areas.specs.Areas.{has, have}
use Rattle.pb_part_areas.specs.Fits.{Fits}
use Rattle.pb_core_flat.specs.Seated.{is_rank}
use Rattle.pb_core_flat.specs.OutcomeSets.{outcome_eq, is_nothing, is_outcome}
use Rattle.pb_part_firsts.specs.declared.firsts.Entry.{Entry}
use Rattle.pb_part_firsts.specs.declared.turns.Coming.{Coming}
use Rattle.pb_part_firsts.specs.Firsts.{outcome_of, finds}
use Rattle.pb_part_firsts.specs.Fitting.{EntriesFit}
use Rattle.pb_part_firsts.specs.Parts.{flat}

-- the rank comes so far
abbrev pub come : Coming → ℤ → ℕ → ℤ → Bool
come c n role x = have (flat c.parts.items) n role x && not (have c.at.items n role x)

-- the rank has the outcome, by the list or by what isn't added yet
abbrev pub told : List CoreRole → Coming → List Entry → ℤ → ℕ → ℤ → Outcome → Bool
told roles c out n role x o = finds roles out n role x o || ((have (flat c.parts.items) n role x && have c.at.items n role x) && outcome_eq (outcome_of roles c.kind n x) o)

-- of those that come, the ones at the area of the entry stop with its outcome
pub record Turned (roles : List CoreRole) (before : Coming) (old : List Entry) (behind : Coming) (new : List Entry) (e : Entry) : Type 0 where
  pub out : (n : ℤ) (role : ℕ) (x : ℤ) (o : Outcome) →
      told roles behind new n role x o ≡ told roles before old n role x o || ((come before n role x && has e.area n role x) && outcome_eq (outcome_of roles e.kind n x) o)
  pub rest : (n : ℤ) (role : ℕ) (x : ℤ) → come behind n role x ≡ come before n role x && not (has e.area n role x)

-- as `Gives`, of those that come so far
pub record ComingGives (range : NRange) (roles : List CoreRole) (c : Coming) (left : List Area) (old new : List Entry) (outs : ℤ → ℕ → ℤ → List Outcome) : Type 0 where
  pub out : (n : ℤ) (role : ℕ) (x : ℤ) (o : Outcome) → IsIn range n → is_rank roles n role x ≡ true → is_nothing o ≡ false →
      finds roles new n role x o ≡ told roles c old n role x o || (come c n role x && is_outcome o (outs n role x))
  pub rest : (n : ℤ) (role : ℕ) (x : ℤ) → IsIn range n → is_rank roles n role x ≡ true →
      have left n role x ≡ come c n role x && is_outcome nothing_first (outs n role x)

-- all areas fit, and all entries
pub record ComingFits (range : NRange) (cuts : List Lin) (c : Coming) (list : List Entry) : Type 0 where
  pub parts : All (Fits range cuts) (flat c.parts.items)
  pub at : All (Fits range cuts) c.at.items
  pub entries : EntriesFit range cuts list
