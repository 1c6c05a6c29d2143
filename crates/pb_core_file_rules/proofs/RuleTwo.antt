-- The labels that break the rule on labels, told by the table of those before.
use Rattle.std.proofs.Common.{◌≡◌, Bool, true, false, ◌&&◌, if◌then◌else◌, List, [], ◌∷◌, ◌++◌, refl, sym, ap, ap₂, ◌∙◌, arith}
use Rattle.std.proofs.lemmas.Slice.Eq.{bytes_eq-Decides}
use Rattle.pb_syntax.specs.declared.core_label.CoreLabel.{CoreLabel}
use Rattle.pb_syntax.specs.declared.tree.Payload.{Payload}
use Rattle.pb_core_language.specs.FileRules.{Labelled, payload_eq, first_payload, mislabelled}
use Rattle.pb_core_language.specs.Names.{Name, same}
use Rattle.pb_core_language.specs.Meaning.{has_label, labels_after}
use Rattle.pb_core_file_rules.specs.Tables.{row, with_label, payload_in, broken_behind}

after_last : (there : List CoreLabel) (ls : List Labelled) (l : Labelled) → labels_after there (ls ++ l ∷ []) ≡ with_label (labels_after there ls) l
after_last there [] l = refl
after_last there (x ∷ xs) l = after_last (with_label there x) xs l

any_default : (x : Name) (p q : Payload) (rows : List CoreLabel) → has_label x rows ≡ true → payload_in x p rows ≡ payload_in x q rows
any_default x p q [] h = absurd (grind arith)
any_default x p q (r ∷ rs) h = at (same x r.name) (any_default x p q rs) h
  where
    at : (b : Bool) → (has_label x rs ≡ true → payload_in x p rs ≡ payload_in x q rs) → (if b then true else has_label x rs) ≡ true →
        (if b then r.payload else payload_in x p rs) ≡ (if b then r.payload else payload_in x q rs)
    at true rest h = refl
    at false rest h = rest h

behind_last : (x : Name) (q : Payload) (rows : List CoreLabel) (r : CoreLabel) → payload_in x q (rows ++ r ∷ []) ≡ payload_in x (if same x r.name then r.payload else q) rows
behind_last x q [] r = refl
behind_last x q (t ∷ ts) r = ap (λ p. if same x t.name then t.payload else p) (behind_last x q ts r)

with_more : (x : Name) (q : Payload) (rows : List CoreLabel) (l : Labelled) → payload_in x q (with_label rows l) ≡ payload_in x (if same x l.label.name then l.payload else q) rows
with_more x q rows l = at (has_label l.label.name rows) refl
  where
    there : (b : Bool) → same x l.label.name ≡ b → has_label l.label.name rows ≡ true → payload_in x q rows ≡ payload_in x (if b then l.payload else q) rows
    there true e h = any_default x q l.payload rows (ap (λ y. has_label y rows) ((bytes_eq-Decides x l.label.name).0 e) ∙ h)
    there false e h = refl

    at : (b : Bool) → has_label l.label.name rows ≡ b → payload_in x q (if b then rows else rows ++ row l ∷ []) ≡ payload_in x (if same x l.label.name then l.payload else q) rows
    at true h = there (same x l.label.name) refl h
    at false h = behind_last x q rows (row l)

first_in : (x : Name) (p : Payload) (rows : List CoreLabel) (ls : List Labelled) → payload_in x p (labels_after rows ls) ≡ payload_in x (first_payload x p ls) rows
first_in x p rows [] = refl
first_in x p rows (l ∷ ls) = first_in x p (with_label rows l) ls ∙ with_more x (first_payload x p ls) rows l

pub behind_is : (before ls : List Labelled) → broken_behind (labels_after [] before) ls ≡ mislabelled before ls
behind_is before [] = refl
behind_is before (l ∷ ls) =
    ap₂ (λ q rest. (if l.is_fine && payload_eq l.payload q then [] else l.label.place ∷ []) ++ rest)
    (first_in l.label.name l.payload [] before)
    (ap (λ r. broken_behind r ls) (sym (after_last [] before l)) ∙ behind_is (before ++ l ∷ []) ls)
