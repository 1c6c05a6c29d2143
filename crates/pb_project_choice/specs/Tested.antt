-- Tests that are added for the labels of a branch.
use Rattle.std.specs.Prelude.{◌≡◌, ◌<◌, ◌≤◌, ◌⊎◌, ℕ, ℤ, Bool, true, ◌&&◌, ◌||◌, nat_eq, List, [], ◌∷◌, ◌++◌, length}
use Rattle.std.specs.List.{All}
use Rattle.pb_text.specs.declared.limits.TheConstants.{MOST_NUMBER}
use Rattle.pb_affine.specs.declared.guard.Guard.{Guard}
use Rattle.pb_affine.specs.declared.lin.Lin.{Lin}
use Rattle.pb_affine.specs.declared.range.NRange.{NRange}
use Rattle.pb_affine.specs.Values.{hold}
use Rattle.pb_part_areas.specs.declared.area.Area.{Area}
use Rattle.pb_cases.specs.Breakpoints.{IsCut}
use Rattle.pb_core_language.specs.declared.protocol.CoreRole.{CoreRole}
use Rattle.pb_core_language.specs.Ranks.{total}
use Rattle.pb_core_language.specs.Verdict.{IsIn}
use Rattle.pb_part_firsts.specs.declared.firsts.Entry.{Entry}
use Rattle.pb_part_firsts.specs.Fitting.{EntriesFit}
use Rattle.pb_choice_entries.specs.Clashes.{is_label}
use Rattle.pb_core_flat.specs.Seated.{is_rank}
use Rattle.pb_local.specs.declared.stmt.Test.{Test}
use Rattle.pb_local.specs.Tree.{Program}
use Rattle.pb_local.specs.WellMade.{IsRange, IsTest, Ascend}
use Rattle.pb_project_piece.specs.Standing.{Stands}
use Rattle.pb_shape.specs.Places.{Scope}
use Rattle.pb_shape.specs.Choices.{guards_of}
use Rattle.pb_project_choice.specs.Found.{has_label, tells, AreKnown}

-- the labels of the receives are from this number to that
abbrev pub LabelsWithin : ℕ → ℕ → List Entry → Type 0
LabelsWithin least most es = (l : ℕ) → has_label l es ≡ true → (least ≤ l) × (l ≤ most)

-- an entry whose labels are up to the middle is added to the first list, and one whose labels are above to the second
abbrev pub IsPut : ℕ → Entry → List Entry → List Entry → List Entry → List Entry → Type 0
IsPut middle e low high new_low new_high =
    ((new_low ≡ low ++ e ∷ []) × (new_high ≡ high) × ((l : ℕ) → is_label l e.kind ≡ true → l ≤ middle))
    ⊎ ((new_low ≡ low) × (new_high ≡ high ++ e ∷ []) × ((l : ℕ) → is_label l e.kind ≡ true → middle < l))

-- the guards hold of such a rank, at some N of the range with at most 2,000,000,000 ranks
pub record HasHolder (range : NRange) (roles : List CoreRole) (such : ℤ → ℕ → ℤ → Bool) (gs : List Guard) : Type 0 where
  pub n : ℤ
  pub role : ℕ
  pub index : ℤ
  pub within : IsIn range n
  pub few : total roles n ≤ MOST_NUMBER
  pub rank : is_rank roles n role index ≡ true
  pub is : such n role index ≡ true
  pub holds : (i : ℤ) → hold gs n i role index ≡ true

abbrev pub HaveHolders : NRange → List CoreRole → (ℤ → ℕ → ℤ → Bool) → List Test → Type 0
HaveHolders range roles such tests = All (λ t. HasHolder range roles such t.guards) tests

-- whoever of these entries is told by a label is such a rank
abbrev pub TellSuch : NRange → List CoreRole → (ℤ → ℕ → ℤ → Bool) → List Entry → Type 0
TellSuch range roles such es = (l : ℕ) (n : ℤ) (role : ℕ) (x : ℤ) → IsIn range n → is_rank roles n role x ≡ true → tells l es n role x ≡ true → such n role x ≡ true

-- The new tests hold of what the old ones do, and in branch k of the ranks that are told it by one of these labels
pub record IsTested (range : NRange) (roles : ℕ) (whole : List Area) (k : ℕ) (these : ℕ → Bool) (entries : List Entry) (old new : List Test) : Type 0 where
  pub holds : (sc : Scope) (cuts : List Lin) → Stands range roles whole sc → IsRange range → All IsCut cuts → EntriesFit range cuts entries →
      (j l : ℕ) (n i : ℤ) (role : ℕ) (x : ℤ) → IsIn range n → is_rank sc.roles n role x ≡ true →
      hold (guards_of j l new) n i role x ≡ hold (guards_of j l old) n i role x || (nat_eq j k && (these l && tells l entries n role x))
  pub each : (p : Program) (b : ℕ) (sc : Scope) (cuts : List Lin) → Stands range roles whole sc → IsRange range → All IsCut cuts → EntriesFit range cuts entries → AreKnown sc entries (length p.labels) →
      length p.roles ≡ roles → k < b → All (IsTest p b) old → All (IsTest p b) new
  pub held : (such : ℤ → ℕ → ℤ → Bool) (sc : Scope) (cuts : List Lin) → Stands range roles whole sc → IsRange range → All IsCut cuts → EntriesFit range cuts entries → TellSuch range sc.roles such entries →
      HaveHolders range sc.roles such old → HaveHolders range sc.roles such new

-- the test is of an earlier branch, or of this one and an earlier label
abbrev pub IsBefore : ℕ → ℕ → Test → Type 0
IsBefore k l t = (t.branch < k) ⊎ ((t.branch ≡ k) × (t.label < l))

-- the tests ascend, and all come before this branch and label
pub record AscendTo (k l : ℕ) (tests : List Test) : Type 0 where
  pub ascend : Ascend tests
  pub before : All (IsBefore k l) tests
