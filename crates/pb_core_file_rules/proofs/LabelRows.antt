-- A table of labels with one label more.
use Rattle.std.proofs.Common.{◌≡◌, ℕ, zero, suc, ◌<◌, ◌≤◌, Bool, true, false, ◌&&◌, if◌then◌else◌, List, [], ◌∷◌, ◌++◌, length, get_or, refl, ap, ◌∙◌, arith}
use Rattle.std.proofs.lemmas.Bool.Decides.{nat_tests}
use Rattle.std.proofs.Math.Bool.{and-true}
use Rattle.pb_syntax.specs.declared.core_label.CoreLabel.{CoreLabel}
use Rattle.pb_syntax.specs.declared.tree.Payload.{Payload}
use Rattle.pb_syntax.specs.declared.tree.Payload.TheVariants.{Unit as Signal, Int32, Uint32}
use Rattle.pb_core_language.specs.FileRules.{Labelled, payload_eq}
use Rattle.pb_core_language.specs.Names.{Name, same}
use Rattle.pb_core_language.specs.Meaning.{position_of, label_names, has_label}
use Rattle.pb_core_file_rules.proofs.Positions.{within}
use Rattle.pb_core_file_rules.specs.Tables.{with_label, keeps, payload_in, row}

pub as_many : (rows : List CoreLabel) → length (label_names rows) ≡ length rows
as_many [] = refl
as_many (r ∷ rs) = ap suc (as_many rs)

pub names_last : (rows : List CoreLabel) (r : CoreLabel) → label_names (rows ++ r ∷ []) ≡ label_names rows ++ r.name ∷ []
names_last [] r = refl
names_last (q ∷ rs) r = ap (λ xs. q.name ∷ xs) (names_last rs r)

pub is_there : (x : Name) (rows : List CoreLabel) → position_of x (label_names rows) < length rows → has_label x rows ≡ true
is_there x [] h = absurd (omega arith)
is_there x (r ∷ rs) h = at (same x r.name) (is_there x rs) h
  where
    at : (b : Bool) → (position_of x (label_names rs) < length rs → has_label x rs ≡ true) → (if b then 0 else suc (position_of x (label_names rs))) < suc (length rs) →
        (if b then true else has_label x rs) ≡ true
    at true rest h = refl
    at false rest h = rest (omega (arith, h))

pub is_lacking : (x : Name) (rows : List CoreLabel) → length rows ≤ position_of x (label_names rows) → has_label x rows ≡ false
is_lacking x [] h = refl
is_lacking x (r ∷ rs) h = at (same x r.name) (is_lacking x rs) h
  where
    at : (b : Bool) → (length rs ≤ position_of x (label_names rs) → has_label x rs ≡ false) → suc (length rs) ≤ (if b then 0 else suc (position_of x (label_names rs))) →
        (if b then true else has_label x rs) ≡ false
    at true rest h = absurd (omega arith)
    at false rest h = rest (omega (arith, h))

no_payload : (x : Name) (p : Payload) (rows : List CoreLabel) → has_label x rows ≡ false → payload_in x p rows ≡ p
no_payload x p [] h = refl
no_payload x p (r ∷ rs) h = at (same x r.name) (no_payload x p rs) h
  where
    at : (b : Bool) → (has_label x rs ≡ false → payload_in x p rs ≡ p) → (if b then true else has_label x rs) ≡ false → (if b then r.payload else payload_in x p rs) ≡ p
    at true rest h = absurd (grind arith)
    at false rest h = rest h

payload_same : (p : Payload) → payload_eq p p ≡ true
payload_same Signal = refl
payload_same (Int32 n) = grind (arith, nat_tests)
payload_same (Uint32 n) = grind (arith, nat_tests)

pub row_payload : (x : Name) (p : Payload) (rows : List CoreLabel) (k : ℕ) (d : CoreLabel) → k ≡ position_of x (label_names rows) → k < length rows →
    (get_or rows k d).payload ≡ payload_in x p rows
row_payload x p [] k d e h = absurd (omega arith)
row_payload x p (r ∷ rs) k d e h = at (same x r.name) k (λ j. row_payload x p rs j d) e h
  where
    at : (b : Bool) (k : ℕ) → ((j : ℕ) → j ≡ position_of x (label_names rs) → j < length rs → (get_or rs j d).payload ≡ payload_in x p rs) →
        k ≡ (if b then 0 else suc (position_of x (label_names rs))) → k < suc (length rs) → (get_or (r ∷ rs) k d).payload ≡ (if b then r.payload else payload_in x p rs)
    at true zero rest e h = refl
    at true (suc k) rest e h = absurd (omega arith)
    at false zero rest e h = absurd (omega arith)
    at false (suc k) rest e h = rest k (omega arith) (omega arith)

pub stays : (rows : List CoreLabel) (l : Labelled) (k : ℕ) → k ≡ position_of l.label.name (label_names rows) → k < length rows → with_label rows l ≡ rows
stays rows l k e h = ap (λ b. if b then rows else rows ++ row l ∷ []) (is_there l.label.name rows (omega (arith, e, h)))

pub goes_last : (rows : List CoreLabel) (l : Labelled) (k : ℕ) → k ≡ position_of l.label.name (label_names rows) → length rows ≤ k →
    with_label rows l ≡ rows ++ (row l ∷ [])
goes_last rows l k e h = ap (λ b. if b then rows else rows ++ row l ∷ []) (is_lacking l.label.name rows (omega (arith, e, h)))

pub keeps_new : (rows : List CoreLabel) (l : Labelled) (k : ℕ) → k ≡ position_of l.label.name (label_names rows) → length rows ≤ k → keeps rows l ≡ l.is_fine
keeps_new rows l k e h =
    ap (λ p. l.is_fine && payload_eq l.payload p) (no_payload l.label.name l.payload rows (is_lacking l.label.name rows (omega (arith, e, h))))
    ∙ ap (λ b. l.is_fine && b) (payload_same l.payload) ∙ and-true l.is_fine

pub just_behind : (rows : List CoreLabel) (x : Name) (k : ℕ) → k ≡ position_of x (label_names rows) → length rows ≤ k → length rows ≡ position_of x (label_names rows)
just_behind rows x k e h = let w = within x (label_names rows) in let n = as_many rows in omega (arith, e, h, w, n)
