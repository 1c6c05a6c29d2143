-- The names that break the rule on names, told by a table of those met before.
use Rattle.std.proofs.Common.{◌≡◌, ℕ, Bool, true, false, ◌&&◌, ◌||◌, not, nat_eq, if◌then◌else◌, List, [], ◌∷◌, ◌++◌, map, refl, sym, ap, ap₂, ◌∙◌, arith}
use Rattle.std.proofs.lemmas.Bool.Decides.{nat_tests}
use Rattle.std.proofs.lemmas.List.{map-append}
use Rattle.std.proofs.lemmas.Slice.Eq.{bytes_eq-Decides}
use Rattle.std.proofs.Math.Bool.{or-false, or_assoc}
use Rattle.std.proofs.lemmas.Bool.{or_parts}
use Rattle.pb_core_file_rules.specs.declared.visits.Met.{Met}
use Rattle.pb_core_file_rules.specs.declared.visits.NameKind.{NameKind}
use Rattle.pb_core_language.specs.Names.{Name, same, Kind, the_constant, the_protocol, a_role, a_label, a_compute_kernel, a_choice_kernel, a_loop, a_variable, kind_number, Use, declared, bound, mentioned, Visit}
use Rattle.pb_core_language.specs.FileRules.{has_other_kind, is_visited, is_misused, misnamed}
use Rattle.pb_core_file_rules.specs.Lowering.{first}
use Rattle.pb_core_file_rules.specs.Visiting.{kind_of, kind_no, declares, is_astray, met, is_met, is_other, is_wrong, wrong, is_other_row, is_wrong_row, with_met, wrong_behind}
use Rattle.pb_core_file_rules.proofs.MetRows.{no_row}

-- ---- the names as they are noted

kind_is : (k : Kind) → kind_no (kind_of k) ≡ kind_number k
kind_is the_constant = refl
kind_is the_protocol = refl
kind_is a_role = refl
kind_is a_label = refl
kind_is a_compute_kernel = refl
kind_is a_choice_kernel = refl
kind_is a_loop = refl
kind_is a_variable = refl

other_is : (roles : List Name) (x : Name) (k : Kind) (vs : List Visit) → is_other x (kind_of k) (map (met roles) vs) ≡ has_other_kind x k vs
other_is roles x k [] = refl
other_is roles x k (v ∷ vs) =
    ap₂ (λ a b. (same x v.spot.name && not (nat_eq a b)) || is_other x (kind_of k) (map (met roles) vs)) (kind_is k) (kind_is v.kind)
    ∙ ap (λ r. (same x v.spot.name && not (nat_eq (kind_number k) (kind_number v.kind))) || r) (other_is roles x k vs)

met_is : (roles : List Name) (x : Name) (vs : List Visit) → is_met x (map (met roles) vs) ≡ is_visited x vs
met_is roles x [] = refl
met_is roles x (v ∷ vs) = ap (λ r. same x v.spot.name || r) (met_is roles x vs)

misused_is : (roles : List Name) (before : List Visit) (v : Visit) (how : Use) → ((declares how && is_visited v.spot.name before) || is_astray roles v how) ≡ is_misused roles before v how
misused_is roles before v declared = or-false (is_visited v.spot.name before)
misused_is roles before v bound = refl
misused_is roles before v mentioned = refl

wrong_is : (roles : List Name) (before : List Visit) (v : Visit) → is_wrong (map (met roles) before) (met roles v) ≡ (has_other_kind v.spot.name v.kind before || is_misused roles before v v.how)
wrong_is roles before v =
    ap₂ (λ a b. a || ((declares v.how && b) || is_astray roles v v.how)) (other_is roles v.spot.name v.kind before) (met_is roles v.spot.name before)
    ∙ ap (λ m. has_other_kind v.spot.name v.kind before || m) (misused_is roles before v v.how)

all_wrong : (roles : List Name) (before vs : List Visit) → wrong (map (met roles) before) (map (met roles) vs) ≡ misnamed roles before vs
all_wrong roles before [] = refl
all_wrong roles before (v ∷ vs) =
    ap₂ (λ b rest. (if b then v.spot.place ∷ [] else []) ++ rest) (wrong_is roles before v)
    (ap (λ front. wrong front (map (met roles) vs)) (sym (map-append (met roles) before (v ∷ []))) ∙ all_wrong roles (before ++ v ∷ []) vs)

-- ---- one name more

met_last : (x : Name) (ms : List Met) (m : Met) → is_met x (ms ++ m ∷ []) ≡ (is_met x ms || same x m.spot.name)
met_last x [] m = or-false (same x m.spot.name)
met_last x (r ∷ rs) m = ap (λ b. same x r.spot.name || b) (met_last x rs m) ∙ sym (or_assoc (same x r.spot.name) (is_met x rs) (same x m.spot.name))

abbrev differs : Name → NameKind → Met → Bool
differs x k m = same x m.spot.name && not (nat_eq (kind_no k) (kind_no m.kind))

other_last : (x : Name) (k : NameKind) (ms : List Met) (m : Met) → is_other x k (ms ++ m ∷ []) ≡ (is_other x k ms || differs x k m)
other_last x k [] m = or-false (differs x k m)
other_last x k (r ∷ rs) m = ap (λ b. differs x k r || b) (other_last x k rs m) ∙ sym (or_assoc (differs x k r) (is_other x k rs) (differs x k m))

one_row : (b c : Bool) → (if b then c else false) ≡ (b && c)
one_row true c = refl
one_row false c = refl

row_last : (x : Name) (k : NameKind) (ms : List Met) (m : Met) → is_other_row x k (ms ++ m ∷ []) ≡ (if is_met x ms then is_other_row x k ms else differs x k m)
row_last x k [] m = one_row (same x m.spot.name) (not (nat_eq (kind_no k) (kind_no m.kind)))
row_last x k (r ∷ rs) m = at (same x r.spot.name) (row_last x k rs m)
  where
    at : (b : Bool) → is_other_row x k (rs ++ m ∷ []) ≡ (if is_met x rs then is_other_row x k rs else differs x k m) →
        (if b then not (nat_eq (kind_no k) (kind_no r.kind)) else is_other_row x k (rs ++ m ∷ []))
        ≡ (if b || is_met x rs then (if b then not (nat_eq (kind_no k) (kind_no r.kind)) else is_other_row x k rs) else differs x k m)
    at true rest = refl
    at false rest = rest

alike : (a r k : ℕ) → not (nat_eq a r) ≡ false → (not (nat_eq k r) || not (nat_eq k a)) ≡ not (nat_eq k r)
alike a r k h = grind (arith, nat_tests)

-- a name of its row's kind
kept_kind : (x : Name) (rows : List Met) (a k : NameKind) → is_met x rows ≡ true → is_other_row x a rows ≡ false →
    (is_other_row x k rows || not (nat_eq (kind_no k) (kind_no a))) ≡ is_other_row x k rows
kept_kind x [] a k h e = absurd (grind arith)
kept_kind x (r ∷ rs) a k h e = at (same x r.spot.name) (kept_kind x rs a k) h e
  where
    at : (b : Bool) → (is_met x rs ≡ true → is_other_row x a rs ≡ false → (is_other_row x k rs || not (nat_eq (kind_no k) (kind_no a))) ≡ is_other_row x k rs) →
        (b || is_met x rs) ≡ true → (if b then not (nat_eq (kind_no a) (kind_no r.kind)) else is_other_row x a rs) ≡ false →
        ((if b then not (nat_eq (kind_no k) (kind_no r.kind)) else is_other_row x k rs) || not (nat_eq (kind_no k) (kind_no a))) ≡ (if b then not (nat_eq (kind_no k) (kind_no r.kind)) else is_other_row x k rs)
    at true rest h e = alike (kind_no a) (kind_no r.kind) (kind_no k) e
    at false rest h e = rest h e

-- the table tells what the names before do
record Tells (rows before : List Met) : Type 0 where
  others : (x : Name) (k : NameKind) → is_other_row x k rows ≡ is_other x k before
  there : (x : Name) → is_met x rows ≡ is_met x before

with_there : (rows : List Met) (m : Met) (x : Name) → is_met x (with_met rows m) ≡ (is_met x rows || same x m.spot.name)
with_there rows m x = at (is_met m.spot.name rows) refl
  where
    again : (b : Bool) → same x m.spot.name ≡ b → is_met m.spot.name rows ≡ true → is_met x rows ≡ (is_met x rows || b)
    again true e h = (ap (λ y. is_met y rows) ((bytes_eq-Decides x m.spot.name).0 e) ∙ h) ∙ sym (ap (λ b. b || true) (ap (λ y. is_met y rows) ((bytes_eq-Decides x m.spot.name).0 e) ∙ h))
    again false e h = sym (or-false (is_met x rows))

    at : (b : Bool) → is_met m.spot.name rows ≡ b → is_met x (if b then rows else rows ++ m ∷ []) ≡ (is_met x rows || same x m.spot.name)
    at true h = again (same x m.spot.name) refl h
    at false h = met_last x rows m

with_others : (rows : List Met) (m : Met) (x : Name) (k : NameKind) → is_other_row m.spot.name m.kind rows ≡ false → is_other_row x k (with_met rows m) ≡ (is_other_row x k rows || differs x k m)
with_others rows m x k right = at (is_met m.spot.name rows) refl
  where
    again : (b : Bool) → same x m.spot.name ≡ b → is_met m.spot.name rows ≡ true → is_other_row x k rows ≡ (is_other_row x k rows || (b && not (nat_eq (kind_no k) (kind_no m.kind))))
    again true e h =
        let is : x ≡ m.spot.name = (bytes_eq-Decides x m.spot.name).0 e in
        sym (kept_kind x rows m.kind k (ap (λ y. is_met y rows) is ∙ h) (ap (λ y. is_other_row y m.kind rows) is ∙ right))
    again false e h = sym (or-false (is_other_row x k rows))

    lone : (b : Bool) → is_met x rows ≡ b → (same x m.spot.name ≡ true → b ≡ false) → (if b then is_other_row x k rows else differs x k m) ≡ (is_other_row x k rows || differs x k m)
    lone true e no_same = apart (same x m.spot.name) no_same
      where
        apart : (c : Bool) → (c ≡ true → true ≡ false) → is_other_row x k rows ≡ (is_other_row x k rows || (c && not (nat_eq (kind_no k) (kind_no m.kind))))
        apart true lacks = absurd (grind (arith, lacks refl))
        apart false lacks = sym (or-false (is_other_row x k rows))
    lone false e no_same = sym (ap (λ b. b || differs x k m) (no_row x k rows e))

    at : (b : Bool) → is_met m.spot.name rows ≡ b → is_other_row x k (if b then rows else rows ++ m ∷ []) ≡ (is_other_row x k rows || differs x k m)
    at true h = again (same x m.spot.name) refl h
    at false h = row_last x k rows m ∙ lone (is_met x rows) refl (λ e. ap (λ y. is_met y rows) ((bytes_eq-Decides x m.spot.name).0 e) ∙ h)

tells_more : (rows before : List Met) (m : Met) → Tells rows before → is_other_row m.spot.name m.kind rows ≡ false → Tells (with_met rows m) (before ++ m ∷ [])
tells_more rows before m t right = record {
  others = λ x k. with_others rows m x k right ∙ ap (λ b. b || differs x k m) (t.others x k) ∙ sym (other_last x k before m);
  there = λ x. with_there rows m x ∙ ap (λ b. b || same x m.spot.name) (t.there x) ∙ sym (met_last x before m);
}

same_wrong : (rows before : List Met) (m : Met) → Tells rows before → is_wrong_row rows m ≡ is_wrong before m
same_wrong rows before m t = ap₂ (λ a b. a || ((m.declares && b) || m.is_astray)) (t.others m.spot.name m.kind) (t.there m.spot.name)

first_same : (rows before ms : List Met) → Tells rows before → first (wrong_behind rows ms) ≡ first (wrong before ms)
first_same rows before [] t = refl
first_same rows before (m ∷ ms) t = at (is_wrong_row rows m) refl (first_same (with_met rows m) (before ++ m ∷ []) ms) ∙ ap (λ b. first ((if b then m.spot.place ∷ [] else []) ++ wrong (before ++ m ∷ []) ms)) (same_wrong rows before m t)
  where
    at : (b : Bool) → is_wrong_row rows m ≡ b → (Tells (with_met rows m) (before ++ m ∷ []) → first (wrong_behind (with_met rows m) ms) ≡ first (wrong (before ++ m ∷ []) ms)) →
        first ((if b then m.spot.place ∷ [] else []) ++ wrong_behind (with_met rows m) ms) ≡ first ((if b then m.spot.place ∷ [] else []) ++ wrong (before ++ m ∷ []) ms)
    at true e rest = refl
    at false e rest = rest (tells_more rows before m t (or_parts (is_other_row m.spot.name m.kind rows) ((m.declares && is_met m.spot.name rows) || m.is_astray) e).0)

pub first_misnamed : (roles : List Name) (vs : List Visit) → first (wrong_behind [] (map (met roles) vs)) ≡ first (misnamed roles [] vs)
first_misnamed roles vs = first_same [] [] (map (met roles) vs) (record { others = λ x k. refl; there = λ x. refl }) ∙ ap first (all_wrong roles [] vs)
