-- What a ruling tells.
use Rattle.std.specs.Prelude.{◌≡◌, ℕ, ◌<◌, List}
use Rattle.pb_text.specs.declared.action.Action.{Action}
use Rattle.pb_world.specs.Log.{LogCovers, rank_of}
use Rattle.pb_core_language.specs.Flat.{Block}
use Rattle.pb_core_language.specs.Run.{Setting}
use Rattle.std.specs.List.{AllByRecursion}
use Rattle.pb_judge_ruling.specs.Ruling.{actions_of, run, IsRuling, IsWhole}
use Rattle.pb_judge_ruling.specs.declared.ruling.Ruling.{Ruling}
use Rattle.pb_judge_ruling.specs.declared.ruling.Ruling.TheVariants.{Whole, Covered, Differs, Beyond}

-- a log has one ruling at most
abbrev pub OneRuling : Type 0
OneRuling = (s : Setting) (protocol : Block) (log : List (ℕ × Action)) (x y : Ruling) → IsRuling s protocol log x → IsRuling s protocol log y → x ≡ y

-- some steps of the run cover the log
abbrev pub IsCovered : Setting → Block → List (ℕ × Action) → Type 0
IsCovered s protocol log = (steps : ℕ) × LogCovers (run s protocol log steps) (actions_of log)

-- no rank from this number on has entries
abbrev pub HasRanks : ℕ → List (ℕ × Action) → Type 0
HasRanks total log = AllByRecursion (λ entry. rank_of entry.1 < total) log

-- whole and covered are the rulings on logs that are covered, and whole on those that are whole
abbrev pub Means : Setting → Block → List (ℕ × Action) → Ruling → Type 0
Means s protocol log Whole = IsCovered s protocol log × IsWhole s protocol log
Means s protocol log Covered = IsCovered s protocol log × (IsWhole s protocol log → ⊥)
Means s protocol log (Differs r line) = (IsCovered s protocol log → ⊥) × (IsWhole s protocol log → ⊥)
Means s protocol log (Beyond r line) = (IsCovered s protocol log → ⊥) × (IsWhole s protocol log → ⊥)

abbrev pub RulingMeans : Type 0
RulingMeans = (s : Setting) (protocol : Block) (log : List (ℕ × Action)) (total : ℕ) (x : Ruling) → HasRanks total log → IsRuling s protocol log x → Means s protocol log x
