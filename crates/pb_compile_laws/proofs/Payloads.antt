-- Where a file keeps the rule on payloads, each label has in the core the payload with which it stands.
use Rattle.std.proofs.Common.{◌≡◌, suc, Bool, true, false, ◌&&◌, if◌then◌else◌, List, [], ◌∷◌, ◌++◌, get_or, refl, sym, ap, subst, ◌∙◌, arith}
use Rattle.std.proofs.lemmas.Slice.Eq.{bytes_eq-Decides}
use Rattle.std.proofs.lemmas.Bool.{and_parts, eqb-true}
use Rattle.pb_syntax.specs.declared.core_label.CoreLabel.{CoreLabel}
use Rattle.pb_syntax.specs.declared.tree.Payload.{Payload}
use Rattle.pb_syntax.specs.declared.tree.Payload.TheVariants.{Unit as Signal, Int32, Uint32}
use Rattle.pb_core_language.specs.Names.{Name, same}
use Rattle.pb_core_language.specs.FileRules.{Labelled, payload_eq, first_payload, mislabelled}
use Rattle.pb_core_language.specs.Meaning.{position_of, has_label, label_names, labels_after}
use Rattle.pb_compile_laws.proofs.Bools.{listed_unless}
use Rattle.pb_compile_laws.proofs.Distinct.{same_self}
use Rattle.pb_compile_laws.proofs.Labels.{row_of, with_label}

-- the payload of the first row with the name, where there is one
abbrev pub row_payload : Name → Payload → List CoreLabel → Payload
row_payload x p [] = p
row_payload x p (r ∷ rs) = if same x r.name then r.payload else row_payload x p rs

pub at_position : (x : Name) (rows : List CoreLabel) (d : CoreLabel) → (get_or rows (position_of x (label_names rows)) d).payload ≡ row_payload x d.payload rows
at_position x [] d = refl
at_position x (r ∷ rs) d = at (same x r.name) (at_position x rs d)
  where
    at : (b : Bool) → (get_or rs (position_of x (label_names rs)) d).payload ≡ row_payload x d.payload rs
        → (get_or (r ∷ rs) (if b then 0 else suc (position_of x (label_names rs))) d).payload ≡ (if b then r.payload else row_payload x d.payload rs)
    at true h = refl
    at false h = h

-- where a row is there, the default doesn't count
found : (x : Name) (p q : Payload) (rows : List CoreLabel) → has_label x rows ≡ true → row_payload x p rows ≡ row_payload x q rows
found x p q [] h = absurd (grind arith)
found x p q (r ∷ rs) h = at (same x r.name) (found x p q rs) h
  where
    at : (b : Bool) → (has_label x rs ≡ true → row_payload x p rs ≡ row_payload x q rs) → (if b then true else has_label x rs) ≡ true → (if b then r.payload else row_payload x p rs) ≡ (if b then r.payload else row_payload x q rs)
    at true rest h = refl
    at false rest h = rest h

-- a row behind others
row_behind : (x : Name) (p : Payload) (rows : List CoreLabel) (r : CoreLabel) → row_payload x p (rows ++ r ∷ []) ≡ row_payload x (if same x r.name then r.payload else p) rows
row_behind x p [] r = refl
row_behind x p (q ∷ rows) r = ap (λ y. if same x q.name then q.payload else y) (row_behind x p rows r)

first_behind : (x : Name) (p : Payload) (before : List Labelled) (l : Labelled) → first_payload x p (before ++ l ∷ []) ≡ first_payload x (if same x l.label.name then l.payload else p) before
first_behind x p [] l = refl
first_behind x p (m ∷ before) l = ap (λ y. if same x m.label.name then m.payload else y) (first_behind x p before l)

has_behind : (x : Name) (rows others : List CoreLabel) → has_label x rows ≡ true → has_label x (rows ++ others) ≡ true
has_behind x [] others h = absurd (grind arith)
has_behind x (r ∷ rs) others h = at (same x r.name) (has_behind x rs others) h
  where
    at : (b : Bool) → (has_label x rs ≡ true → has_label x (rs ++ others) ≡ true) → (if b then true else has_label x rs) ≡ true → (if b then true else has_label x (rs ++ others)) ≡ true
    at true rest h = refl
    at false rest h = rest h

has_last : (r : CoreLabel) (rows : List CoreLabel) → has_label r.name (rows ++ r ∷ []) ≡ true
has_last r [] = ap (λ b. if b then true else false) (same_self r.name)
has_last r (q ∷ rs) = at (same r.name q.name) (has_last r rs)
  where
    at : (b : Bool) → has_label r.name (rs ++ r ∷ []) ≡ true → (if b then true else has_label r.name (rs ++ r ∷ [])) ≡ true
    at true h = refl
    at false h = h

-- rows are kept
row_stays : (x : Name) (p : Payload) (rows : List CoreLabel) (r : CoreLabel) → has_label x rows ≡ true → row_payload x p (rows ++ r ∷ []) ≡ row_payload x p rows
row_stays x p rows r h = row_behind x p rows r ∙ found x _ p rows h

kept : (x : Name) (p : Payload) (there : List CoreLabel) (ls : List Labelled) → has_label x there ≡ true → row_payload x p (labels_after there ls) ≡ row_payload x p there
kept x p there [] h = refl
kept x p there (l ∷ ls) h = kept x p (with_label there l) ls (has (has_label l.label.name there)) ∙ pays (has_label l.label.name there)
  where
    has : (b : Bool) → has_label x (if b then there else there ++ row_of l ∷ []) ≡ true
    has true = h
    has false = has_behind x there (row_of l ∷ []) h

    pays : (b : Bool) → row_payload x p (if b then there else there ++ row_of l ∷ []) ≡ row_payload x p there
    pays true = refl
    pays false = row_stays x p there (row_of l) h

-- ---- the rule

payload_same : (p q : Payload) → payload_eq p q ≡ true → p ≡ q
payload_same Signal Signal h = refl
payload_same (Int32 a) (Int32 b) h = ap Int32 (eqb-true a b h)
payload_same (Uint32 a) (Uint32 b) h = ap Uint32 (eqb-true a b h)
payload_same Signal (Int32 b) h = absurd (grind arith)
payload_same Signal (Uint32 b) h = absurd (grind arith)
payload_same (Int32 a) Signal h = absurd (grind arith)
payload_same (Int32 a) (Uint32 b) h = absurd (grind arith)
payload_same (Uint32 a) Signal h = absurd (grind arith)
payload_same (Uint32 a) (Int32 b) h = absurd (grind arith)

-- the rows say of each name what the labels before say
abbrev SaysSame : List Labelled → List CoreLabel → Type 0
SaysSame before there = (x : Name) (p : Payload) → first_payload x p before ≡ row_payload x p there

step_same : (before : List Labelled) (there : List CoreLabel) (l : Labelled) → SaysSame before there → SaysSame (before ++ l ∷ []) (with_label there l)
step_same before there l says x p = first_behind x p before l ∙ (says x (if same x l.label.name then l.payload else p) ∙ at (has_label l.label.name there) refl)
  where
    -- the default counts for no name that is there
    defaulted : has_label l.label.name there ≡ true → (b : Bool) → same x l.label.name ≡ b → row_payload x (if b then l.payload else p) there ≡ row_payload x p there
    defaulted h false e = refl
    defaulted h true e = found x l.payload p there (subst (λ y. has_label y there ≡ true) (sym ((bytes_eq-Decides x l.label.name).0 e)) h)

    at : (b : Bool) → has_label l.label.name there ≡ b → row_payload x (if same x l.label.name then l.payload else p) there ≡ row_payload x p (if b then there else there ++ row_of l ∷ [])
    at true e = defaulted e (same x l.label.name) refl
    at false e = sym (row_behind x p there (row_of l))

-- each label is fine, and has its payload in the rows
abbrev pub AreRight : List CoreLabel → List Labelled → Type 0
AreRight rows [] = Unit {0}
AreRight rows (l ∷ ls) = ((l.is_fine ≡ true) × ((p : Payload) → row_payload l.label.name p rows ≡ l.payload)) × AreRight rows ls

pub right_both : (rows : List CoreLabel) (xs ys : List Labelled) → AreRight rows (xs ++ ys) → AreRight rows xs × AreRight rows ys
right_both rows [] ys h = (tt, h)
right_both rows (x ∷ xs) ys h = let g = right_both rows xs ys h.1 in ((h.0, g.0), g.1)

pub rows_right : (before : List Labelled) (there : List CoreLabel) (ls : List Labelled) → SaysSame before there → mislabelled before ls ≡ [] → AreRight (labels_after there ls) ls
rows_right before there [] says h = tt
rows_right before there (l ∷ ls) says h = ((t.0, λ p. kept l.label.name p (with_label there l) ls (has (has_label l.label.name there) refl) ∙ pays (has_label l.label.name there) refl p), rows_right (before ++ l ∷ []) (with_label there l) ls (step_same before there l says) g.1)
  where
    g : ((l.is_fine && payload_eq l.payload (first_payload l.label.name l.payload before)) ≡ true) × (mislabelled (before ++ l ∷ []) ls ≡ [])
    g = listed_unless (l.is_fine && payload_eq l.payload (first_payload l.label.name l.payload before)) l.label.place (mislabelled (before ++ l ∷ []) ls) h

    t : (l.is_fine ≡ true) × (payload_eq l.payload (first_payload l.label.name l.payload before) ≡ true)
    t = and_parts l.is_fine (payload_eq l.payload (first_payload l.label.name l.payload before)) g.0

    was : l.payload ≡ row_payload l.label.name l.payload there
    was = payload_same l.payload _ t.1 ∙ says l.label.name l.payload

    has : (b : Bool) → has_label l.label.name there ≡ b → has_label l.label.name (if b then there else there ++ row_of l ∷ []) ≡ true
    has true e = e
    has false e = has_last (row_of l) there

    pays : (b : Bool) → has_label l.label.name there ≡ b → (p : Payload) → row_payload l.label.name p (if b then there else there ++ row_of l ∷ []) ≡ l.payload
    pays true e p = found l.label.name p l.payload there e ∙ sym was
    pays false e p = row_behind l.label.name p there (row_of l) ∙ (ap (λ c. row_payload l.label.name (if c then l.payload else p) there) (same_self l.label.name) ∙ sym was)
