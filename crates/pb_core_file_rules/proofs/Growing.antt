-- A table with one row more, and the rows behind it that break a rule.
use Rattle.std.proofs.Common.{◌≡◌, ℕ, ◌+◌, ◌<◌, ◌≤◌, Bool, true, false, not, if◌then◌else◌, Some, List, [], ◌∷◌, ◌++◌, length, length-append, refl, sym, ap, ◌∙◌, arith}
use Rattle.pb_syntax.specs.declared.core_label.CoreLabel.{CoreLabel}
use Rattle.pb_core_language.specs.FileRules.{Labelled}
use Rattle.pb_core_file_rules.specs.declared.visits.Met.{Met}
use Rattle.pb_core_file_rules.specs.Lowering.{first}
use Rattle.pb_core_file_rules.specs.Tables.{with_label, keeps, broken_behind}
use Rattle.pb_core_file_rules.specs.Visiting.{is_wrong_row, with_met, wrong_behind}

pub fewer : (a i n k : ℕ) → a ≤ i → i < n → n < k → a < k
fewer a i n k le less few = omega arith

pub still_few : {A : Type 0} (b : Bool) (rows new : List A) (one : A) (i : ℕ) → new ≡ (if b then rows else rows ++ one ∷ []) → length rows ≤ i → length new ≤ i + 1
still_few true rows new one i grown few = omega (arith, ap length grown)
still_few false rows new one i grown few = omega (arith, ap length grown, length-append rows (one ∷ []))

not_wrong : (w b : Bool) → b ≡ not w → b ≡ true → w ≡ false
not_wrong true b e h = cc
not_wrong false b e h = refl

is_wrong : (w b : Bool) → b ≡ not w → b ≡ false → w ≡ true
is_wrong true b e h = refl
is_wrong false b e h = cc

pub right_on : (rows new : List Met) (m : Met) (ms : List Met) (b : Bool) → b ≡ not (is_wrong_row rows m) → b ≡ true → new ≡ with_met rows m → first (wrong_behind rows (m ∷ ms)) ≡ first (wrong_behind new ms)
right_on rows new m ms b e h grown =
    ap (λ w. first ((if w then m.spot.place ∷ [] else []) ++ wrong_behind (with_met rows m) ms)) (not_wrong (is_wrong_row rows m) b e h) ∙ ap (λ r. first (wrong_behind r ms)) (sym grown)

pub wrong_here : (rows : List Met) (m : Met) (ms : List Met) (b : Bool) → b ≡ not (is_wrong_row rows m) → b ≡ false → first (wrong_behind rows (m ∷ ms)) ≡ Some m.spot.place
wrong_here rows m ms b e h = ap (λ w. first ((if w then m.spot.place ∷ [] else []) ++ wrong_behind (with_met rows m) ms)) (is_wrong (is_wrong_row rows m) b e h)

pub keeps_on : (rows new : List CoreLabel) (l : Labelled) (ls : List Labelled) (b : Bool) → b ≡ keeps rows l → b ≡ true → new ≡ with_label rows l → first (broken_behind rows (l ∷ ls)) ≡ first (broken_behind new ls)
keeps_on rows new l ls b e h grown =
    ap (λ k. first ((if k then [] else l.label.place ∷ []) ++ broken_behind (with_label rows l) ls)) (sym e ∙ h) ∙ ap (λ r. first (broken_behind r ls)) (sym grown)

pub breaks_here : (rows : List CoreLabel) (l : Labelled) (ls : List Labelled) (b : Bool) → b ≡ keeps rows l → b ≡ false → first (broken_behind rows (l ∷ ls)) ≡ Some l.label.place
breaks_here rows l ls b e h = ap (λ k. first ((if k then [] else l.label.place ∷ []) ++ broken_behind (with_label rows l) ls)) (sym e ∙ h)
