-- The labels of a file in its core: each once, with its payload.
use Rattle.std.proofs.Common.{◌≡◌, ◌+◌, ◌≤◌, Bool, true, false, ◌||◌, if◌then◌else◌, List, [], ◌∷◌, ◌++◌, length, map, refl, sym, ap, subst, ◌∙◌, arith}
use Rattle.std.specs.Prelude.{All}
use Rattle.std.proofs.lemmas.List.{length-append}
use Rattle.std.proofs.lemmas.List.Elements.{All-push, All-nil}
use Rattle.pb_text.specs.Tokens.{IsName}
use Rattle.pb_syntax.specs.declared.core_label.CoreLabel.{CoreLabel}
use Rattle.pb_syntax.specs.Tree.{PlainStatement, message, foreach, loop, again, choice, compute, barrier, broadcast, reduce, allreduce, PlainStatements, nothing, more, PlainBranches, no_branch, branch}
use Rattle.pb_core_language.specs.Names.{Name, same, is_named}
use Rattle.pb_core_language.specs.FileRules.{Labelled, labels_at, labels_in, labels_among}
use Rattle.pb_core_language.specs.Meaning.{has_label, labels_after}
use Rattle.pb_local.specs.WellMade.{IsPayload, IsLabelRow, AreLabels}
use Rattle.pb_compile_laws.proofs.Words.{named}
use Rattle.pb_compile_laws.proofs.Measures.{texts_at, texts_in, texts_among, IsWell, AreWell, AreWellAmong}
use Rattle.pb_compile_laws.proofs.Distinct.{Distinct, distinct_push, are_distinct}

abbrev pub row_of : Labelled → CoreLabel
row_of l = record { name = l.label.name; payload = l.payload }

-- a label more, where it isn't there
abbrev pub with_label : List CoreLabel → Labelled → List CoreLabel
with_label there l = if has_label l.label.name there then there else there ++ row_of l ∷ []

abbrev names_of : List CoreLabel → List Name
names_of rows = map (λ l. l.name) rows

-- ---- how many

labels_few : (there : List CoreLabel) (ls : List Labelled) → length (labels_after there ls) ≤ length there + length ls
labels_few there [] = omega arith
labels_few there (l ∷ ls) = omega (arith, labels_few (with_label there l) ls, at (has_label l.label.name there))
  where
    at : (b : Bool) → length (if b then there else there ++ row_of l ∷ []) ≤ length there + 1
    at true = omega arith
    at false = omega (arith, length-append there (row_of l ∷ []))

mutual
  few_at : (s : PlainStatement) → length (labels_at s) ≤ texts_at s
  few_at (message l p f t) = omega arith
  few_at (foreach at x over place items) = omega (arith, few_in items)
  few_at (loop at x place body) = omega (arith, few_in body)
  few_at (again at x) = omega arith
  few_at (choice at k who bs) = omega (arith, few_among bs)
  few_at (compute at k who) = omega arith
  few_at (barrier at) = omega arith
  few_at (broadcast at l p f) = omega arith
  few_at (reduce at l p o t) = omega arith
  few_at (allreduce at l p o) = omega arith

  few_in : (b : PlainStatements) → length (labels_in b) ≤ texts_in b
  few_in nothing = omega arith
  few_in (more s rest) = omega (arith, length-append (labels_at s) (labels_in rest), few_at s, few_in rest)

  few_among : (bs : PlainBranches) → length (labels_among bs) ≤ texts_among bs
  few_among no_branch = omega arith
  few_among (branch at b bs) = omega (arith, length-append (labels_in b) (labels_among bs), few_in b, few_among bs)

-- ---- each once

has_is : (x : Name) (rows : List CoreLabel) → has_label x rows ≡ is_named x (names_of rows)
has_is x [] = refl
has_is x (r ∷ rs) = at (same x r.name) (has_is x rs)
  where
    at : (b : Bool) → has_label x rs ≡ is_named x (names_of rs) → (if b then true else has_label x rs) ≡ (b || is_named x (names_of rs))
    at true h = refl
    at false h = h

names_push : (rows : List CoreLabel) (r : CoreLabel) → names_of (rows ++ r ∷ []) ≡ names_of rows ++ r.name ∷ []
names_push [] r = refl
names_push (q ∷ rows) r = ap (λ ns. q.name ∷ ns) (names_push rows r)

labels_once : (there : List CoreLabel) (ls : List Labelled) → Distinct (names_of there) → Distinct (names_of (labels_after there ls))
labels_once there [] d = d
labels_once there (l ∷ ls) d = labels_once (with_label there l) ls (at (has_label l.label.name there) refl)
  where
    at : (b : Bool) → has_label l.label.name there ≡ b → Distinct (names_of (if b then there else there ++ row_of l ∷ []))
    at true e = d
    at false e = subst Distinct (sym (names_push there (row_of l))) (distinct_push (names_of there) l.label.name d (sym (has_is l.label.name there) ∙ e))

-- ---- each with a name and a payload

abbrev AreNamed : List Labelled → Type 0
AreNamed [] = Unit {0}
AreNamed (l ∷ ls) = (IsName l.label.name × IsPayload l.payload) × AreNamed ls

both_named : (xs ys : List Labelled) → AreNamed xs → AreNamed ys → AreNamed (xs ++ ys)
both_named [] ys h g = g
both_named (x ∷ xs) ys h g = (h.0, both_named xs ys h.1 g)

mutual
  named_at : (s : PlainStatement) → IsWell s → AreNamed (labels_at s)
  named_at (message l p f t) h = (h, tt)
  named_at (foreach at x over place items) h = named_in items h
  named_at (loop at x place body) h = named_in body h
  named_at (again at x) h = tt
  named_at (choice at k who bs) h = named_among bs h.1.1.1
  named_at (compute at k who) h = tt
  named_at (barrier at) h = tt
  named_at (broadcast at l p f) h = (h, tt)
  named_at (reduce at l p o t) h = (h, tt)
  named_at (allreduce at l p o) h = (h, tt)

  named_in : (b : PlainStatements) → AreWell b → AreNamed (labels_in b)
  named_in nothing h = tt
  named_in (more s rest) h = both_named (labels_at s) (labels_in rest) (named_at s h.0) (named_in rest h.1)

  named_among : (bs : PlainBranches) → AreWellAmong bs → AreNamed (labels_among bs)
  named_among no_branch h = tt
  named_among (branch at b bs) h = both_named (labels_in b) (labels_among bs) (named_in b h.0) (named_among bs h.1)

labels_each : (there : List CoreLabel) (ls : List Labelled) → All IsLabelRow there → AreNamed ls → All IsLabelRow (labels_after there ls)
labels_each there [] each h = each
labels_each there (l ∷ ls) each h = labels_each (with_label there l) ls (at (has_label l.label.name there)) h.1
  where
    at : (b : Bool) → All IsLabelRow (if b then there else there ++ row_of l ∷ [])
    at true = each
    at false = All-push IsLabelRow there (row_of l) each (record { name = named l.label.name h.0.0; payload = h.0.1 })

pub labels_tabled : (b : PlainStatements) → AreWell b → texts_in b ≤ 4000 → AreLabels (labels_after [] (labels_in b))
labels_tabled b well few = record {
  most = omega (arith, labels_few [] (labels_in b), few_in b, few);
  distinct = are_distinct (names_of (labels_after [] (labels_in b))) (labels_once [] (labels_in b) tt);
  each = labels_each [] (labels_in b) (All-nil IsLabelRow) (named_in b well);
}
