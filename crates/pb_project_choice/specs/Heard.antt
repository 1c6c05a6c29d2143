-- Who hears first from a source that isn't the chooser.
use Rattle.std.specs.Prelude.{◌≡◌, ◌⊎◌, ℕ, ℤ, pos, ◌≤ℤ◌, true, false, ◌&&◌, List}
use Rattle.std.specs.List.{All}
use Rattle.pb_affine.specs.declared.lin.Lin.{Lin}
use Rattle.pb_affine.specs.declared.range.NRange.{NRange}
use Rattle.pb_part_areas.specs.declared.area.Area.{Area}
use Rattle.pb_part_areas.specs.Areas.{has, have}
use Rattle.pb_part_areas.specs.Fits.{Fits}
use Rattle.pb_cases.specs.Breakpoints.{IsCut}
use Rattle.pb_choice_entries.specs.Clashes.{agrees}
use Rattle.pb_core_language.specs.declared.tree.CoreEnd.{CoreEnd}
use Rattle.pb_core_language.specs.Sound.{is_small}
use Rattle.pb_part_firsts.specs.declared.firsts.Entry.{Entry}
use Rattle.pb_part_firsts.specs.declared.firsts.Source.{Source}
use Rattle.pb_part_firsts.specs.Firsts.{is_small_kind, are_small}
use Rattle.pb_part_visits.specs.Visits.{is_small_off}
use Rattle.pb_part_firsts.specs.Fitting.{EntriesFit}
use Rattle.pb_core_flat.specs.Seated.{is_at}
use Rattle.pb_project_choice.specs.Sayable.{AreSayable}
use Rattle.pb_project_choice.specs.Sources.{is_from, hears, source_at}

-- the new areas are some of the old ones' ranks, and all of them but those of an area
pub record IsCutOut (list : List Area) (a : Area) (new : List Area) : Type 0 where
  pub only : (n : ℤ) (role : ℕ) (x : ℤ) → have new n role x ≡ true → have list n role x ≡ true
  pub rest : (n : ℤ) (role : ℕ) (x : ℤ) → have list n role x ≡ true → has a n role x ≡ false → have new n role x ≡ true
  pub sayable : (range : NRange) → AreSayable range list → AreSayable range new

-- of this rank the source isn't the chooser, and it isn't the chooser itself
pub record IsOther (chooser : CoreEnd) (s : Source) (n : ℤ) (role : ℕ) (x : ℤ) : Type 0 where
  pub near : pos 0 ≤ℤ n
  pub small : is_small chooser.at.off ≡ true
  pub apart : agrees s (source_at chooser) n x ≡ false
  pub else_where : is_at chooser n (pos 0) role x ≡ false

-- the areas are of ranks in this area, and of all others of them
pub record AreOthers (chooser : CoreEnd) (a : Area) (s : Source) (new : List Area) : Type 0 where
  pub only : (n : ℤ) (role : ℕ) (x : ℤ) → have new n role x ≡ true → has a n role x ≡ true
  pub rest : (n : ℤ) (role : ℕ) (x : ℤ) → IsOther chooser s n role x → is_small_off s.at.off ≡ true → has a n role x ≡ true → have new n role x ≡ true
  pub sayable : (range : NRange) (cuts : List Lin) → All IsCut cuts → Fits range cuts a → AreSayable range new

-- the new areas are of the ranks of the old ones, but the chooser and those for which the source is the chooser
pub record AreStrangers (chooser : CoreEnd) (s : Source) (areas new : List Area) : Type 0 where
  pub only : (n : ℤ) (role : ℕ) (x : ℤ) → have new n role x ≡ true → have areas n role x ≡ true
  pub apart : (n : ℤ) (role : ℕ) (x : ℤ) → pos 0 ≤ℤ n → is_small chooser.at.off ≡ true → is_small_off s.at.off ≡ true → have new n role x ≡ true → agrees s (source_at chooser) n x ≡ false
  pub else_where : (n : ℤ) (role : ℕ) (x : ℤ) → pos 0 ≤ℤ n → is_small chooser.at.off ≡ true → have new n role x ≡ true → is_at chooser n (pos 0) role x ≡ false
  pub rest : (n : ℤ) (role : ℕ) (x : ℤ) → IsOther chooser s n role x → is_small_off s.at.off ≡ true → have areas n role x ≡ true → have new n role x ≡ true

-- those of an entry are added, if it is of the source
pub record AddsHeard (chooser : CoreEnd) (s : Source) (e : Entry) (old new : List Area) : Type 0 where
  pub only : (n : ℤ) (role : ℕ) (x : ℤ) → have new n role x ≡ true → (have old n role x ≡ true) ⊎ (is_from s e.kind && has e.area n role x ≡ true)
  pub kept : (n : ℤ) (role : ℕ) (x : ℤ) → have old n role x ≡ true → have new n role x ≡ true
  pub rest : (n : ℤ) (role : ℕ) (x : ℤ) → IsOther chooser s n role x → is_small_kind e.kind ≡ true → is_from s e.kind && has e.area n role x ≡ true → have new n role x ≡ true
  pub sayable : (range : NRange) (cuts : List Lin) → All IsCut cuts → Fits range cuts e.area → AreSayable range old → AreSayable range new

-- those of all entries of the source
pub record IsHeard (chooser : CoreEnd) (s : Source) (es : List Entry) (areas : List Area) : Type 0 where
  pub only : (n : ℤ) (role : ℕ) (x : ℤ) → have areas n role x ≡ true → hears s es n role x ≡ true
  pub rest : (n : ℤ) (role : ℕ) (x : ℤ) → IsOther chooser s n role x → are_small es ≡ true → hears s es n role x ≡ true → have areas n role x ≡ true
  pub sayable : (range : NRange) (cuts : List Lin) → All IsCut cuts → EntriesFit range cuts es → AreSayable range areas
