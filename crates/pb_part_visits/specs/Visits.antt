-- The ends of a foreach's items as the program holds them.
use Rattle.std.specs.Prelude.{◌≡◌, ℤ, int_le, Bool, true, ◌&&◌, Some, List, [], ◌∷◌}
use Rattle.pb_text.specs.declared.limits.TheConstants.{LEAST_OFFSET, MOST_OFFSET}
use Rattle.pb_affine.specs.declared.lin.Lin.{Lin}
use Rattle.pb_core_language.specs.Cuts.{end_cuts, moving}
use Rattle.pb_core_language.specs.Sound.{is_small, is_bound}
use Rattle.pb_core_language.specs.declared.tree.Bounds.{Bounds}
use Rattle.pb_core_flat.specs.Stops as S
use Rattle.pb_part_takers.specs.Pieces.{AreAmong}
use Rattle.pb_part_visits.specs.declared.visit.Finding.{Finding}
use Rattle.pb_part_visits.specs.declared.visit.Finding.TheVariants.{Acts, Gets}
use Rattle.pb_part_visits.specs.declared.visit.Visit.{Visit}

-- offsets within 1,000,000 of zero
abbrev pub is_small_off : ℤ → Bool
is_small_off x = int_le LEAST_OFFSET x && int_le x MOST_OFFSET

abbrev pub finding_of : Finding → S.Finding
finding_of Acts = S.acts
finding_of (Gets source label) = S.gets source label

abbrev pub visit_of : Visit → S.Visit
visit_of v = record { end = v.end; finding = finding_of v.finding }

-- offsets within 100,000 of zero
abbrev pub is_narrow_finding : S.Finding → Bool
is_narrow_finding S.acts = true
is_narrow_finding (S.gets source label) = is_small source.at.off

abbrev pub is_narrow : S.Visit → Bool
is_narrow v = is_small v.end.at.off && is_narrow_finding v.finding

abbrev pub are_narrow : List S.Visit → Bool
are_narrow [] = true
are_narrow (v ∷ vs) = is_narrow v && are_narrow vs

pub record IsBounded (t : Bounds) : Type 0 where
  pub low : is_bound t.low ≡ true
  pub high : is_bound t.high ≡ true

-- the cuts of each end are among these
abbrev pub VisitsAmong : Bounds → List Lin → List S.Visit → Type 0
VisitsAmong h cuts [] = Unit {0}
VisitsAmong h cuts (v ∷ vs) = AreAmong (end_cuts (Some h) v.end) cuts × VisitsAmong h cuts vs

-- the same of ends that move
abbrev pub MoversAmong : Bounds → List Lin → List S.Visit → Type 0
MoversAmong h cuts [] = Unit {0}
MoversAmong h cuts (v ∷ vs) = AreAmong (moving (Some h) (S.off_of v)) cuts × MoversAmong h cuts vs
