-- Outcomes given one after the other.
use Rattle.std.proofs.Common.{◌≡◌, ◌<◌, ◌≤◌, ◌+◌, ℕ, ℤ, List, [], ◌∷◌, ◌++◌, Bool, true, false, not, ◌||◌, ◌&&◌, drop, length, get_or, refl, ap, sym, ◌∙◌, arith, if◌then◌else◌, drop_of_length-le, subst}
use Rattle.std.proofs.lemmas.Bool.{and_parts, and_from}
use Rattle.std.proofs.lemmas.Bool.Decides.{nat_tests}
use Rattle.std.proofs.Math.Bool.{and-true, or_assoc, or-false}
use Rattle.pb_affine.specs.declared.lin.Lin.{Lin}
use Rattle.pb_affine.specs.declared.range.NRange.{NRange}
use Rattle.pb_core_language.specs.declared.protocol.CoreRole.{CoreRole}
use Rattle.pb_core_language.specs.Outcomes.{Outcome, nothing_first, receives, other_first, again_first, or_then}
use Rattle.pb_core_language.specs.Verdict.{IsIn}
use Rattle.pb_part_areas.specs.declared.area.Area.{Area}
use Rattle.pb_part_areas.specs.Areas.{has, have}
use Rattle.pb_part_areas.specs.Fits.{Fits}
use Rattle.pb_part_areas.specs.Joins.{blank}
use Rattle.pb_part_firsts.specs.Fitting.{EntriesFit}
use Rattle.pb_part_areas.proofs.Lists.{common_step}
use Rattle.pb_core_flat.specs.Seated.{is_rank}
use Rattle.pb_core_flat.specs.OutcomeSets.{outcome_eq, is_nothing, is_outcome}
use Rattle.pb_core_flat.proofs.OutcomeSets.{either_outcome}
use Rattle.pb_part_firsts.specs.declared.firsts.Entry.{Entry}
use Rattle.pb_part_firsts.specs.declared.firsts.Kind.{Kind}
use Rattle.pb_part_firsts.specs.declared.firsts.Kind.TheVariants.{Receive, Other, Again}
use Rattle.pb_part_firsts.specs.Firsts.{finds, outcome_of, Gives, is_small_kind, are_small}
use Rattle.pb_part_firsts.specs.Stopping.{Stops}

pub finds_append : (roles : List CoreRole) (xs ys : List Entry) (n : ℤ) (role : ℕ) (x : ℤ) (o : Outcome) → finds roles (xs ++ ys) n role x o ≡ finds roles xs n role x o || finds roles ys n role x o
finds_append roles [] ys n role x o = refl
finds_append roles (f ∷ xs) ys n role x o =
    ap (λ z. (has f.area n role x && outcome_eq (outcome_of roles f.kind n x) o) || z) (finds_append roles xs ys n role x o)
    ∙ sym (or_assoc (has f.area n role x && outcome_eq (outcome_of roles f.kind n x) o) (finds roles xs n role x o) (finds roles ys n role x o))

pub emit_step : (roles : List CoreRole) (xs : List Area) (i : ℕ) (old new : List Entry) (kind : Kind) (n : ℤ) (role : ℕ) (x : ℤ) (o : Outcome) (l : Bool) → i < length xs →
    new ≡ old ++ record { area = get_or xs i blank; kind = kind } ∷ [] →
    finds roles old n role x o || (have (drop i xs) n role x && outcome_eq (outcome_of roles kind n x) o) ≡ l →
    finds roles new n role x o || (have (drop (i + 1) xs) n role x && outcome_eq (outcome_of roles kind n x) o) ≡ l
emit_step roles xs i old new kind n role x o l lt e h =
    common_step xs i (finds roles old n role x o) (finds roles new n role x o) (outcome_eq (outcome_of roles kind n x) o) l n role x lt
    (ap (λ z. finds roles z n role x o) e ∙ finds_append roles old _ n role x o ∙ ap (λ z. finds roles old n role x o || z) (or-false _)) h

small_append : (xs ys : List Entry) → are_small xs ≡ true → are_small ys ≡ true → are_small (xs ++ ys) ≡ true
small_append [] ys h k = k
small_append (f ∷ xs) ys h k = let hs = and_parts (is_small_kind f.kind) (are_small xs) h in and_from (is_small_kind f.kind) (are_small (xs ++ ys)) hs.0 (small_append xs ys hs.1 k)

pub emit_small : (old new : List Entry) (a : Area) (kind : Kind) → new ≡ old ++ record { area = a; kind = kind } ∷ [] → is_small_kind kind ≡ true → are_small old ≡ true → are_small new ≡ true
emit_small old new a kind e k h = ap are_small e ∙ small_append old (record { area = a; kind = kind } ∷ []) h (and_from (is_small_kind kind) true k refl)

pub kind_some : (roles : List CoreRole) (kind : Kind) (n x : ℤ) → is_nothing (outcome_of roles kind n x) ≡ false
kind_some roles (Receive s l) n x = refl
kind_some roles Other n x = refl
kind_some roles Again n x = refl

pub not_nothing : (o : Outcome) → is_nothing o ≡ false → outcome_eq nothing_first o ≡ false
not_nothing nothing_first e = e
not_nothing (receives s l) e = refl
not_nothing other_first e = refl
not_nothing again_first e = refl

-- ---- one after the other

pub seq_some : (w w1 w2 r m z p1 n1 p2 : Bool) → z ≡ false → w1 ≡ w || (r && p1) → m ≡ r && n1 → w2 ≡ w1 || (m && p2) → w2 ≡ w || (r && ((not z && p1) || (n1 && p2)))
seq_some w w1 w2 r m z p1 n1 p2 ez e1 em e2 = grind (arith, nat_tests)

pub seq_none : (r m l n1 p n2 : Bool) → m ≡ r && n1 → l ≡ m && n2 → l ≡ r && ((false && p) || (n1 && n2))
seq_none r m l n1 p n2 e1 e2 = grind (arith, nat_tests)

pub in_turn : {range : NRange} {roles : List CoreRole} {reach mid left : List Area} {old now new : List Entry} (outs outs2 : ℤ → ℕ → ℤ → List Outcome) →
    Gives range roles reach mid old now outs → Gives range roles mid left now new outs2 → Gives range roles reach left old new (λ n role x. or_then (outs n role x) (outs2 n role x))
in_turn {roles = roles} {reach = reach} {mid = mid} {left = left} {old = old} {now = now} {new = new} outs outs2 a b = record {
  out = λ n role x o w r e. seq_some (finds roles old n role x o) (finds roles now n role x o) (finds roles new n role x o) (have reach n role x) (have mid n role x) (is_nothing o)
      (is_outcome o (outs n role x)) (is_outcome nothing_first (outs n role x)) (is_outcome o (outs2 n role x)) e (a.out n role x o w r e) (a.rest n role x w r) (b.out n role x o w r e)
      ∙ ap (λ z. finds roles old n role x o || (have reach n role x && z)) (sym (either_outcome o (outs n role x) (outs2 n role x)));
  rest = λ n role x w r. seq_none (have reach n role x) (have mid n role x) (have left n role x) (is_outcome nothing_first (outs n role x)) (is_outcome nothing_first (outs n role x)) (is_outcome nothing_first (outs2 n role x))
      (a.rest n role x w r) (b.rest n role x w r) ∙ ap (λ z. have reach n role x && z) (sym (either_outcome nothing_first (outs n role x) (outs2 n role x)));
}

-- the same outcomes, otherwise put
pub given_as : {range : NRange} {roles : List CoreRole} {reach left : List Area} {old new : List Entry} (outs outs2 : ℤ → ℕ → ℤ → List Outcome) →
    ((n : ℤ) (role : ℕ) (x : ℤ) → IsIn range n → is_rank roles n role x ≡ true → outs n role x ≡ outs2 n role x) →
    Gives range roles reach left old new outs → Gives range roles reach left old new outs2
given_as {roles = roles} {reach = reach} {old = old} outs outs2 same g = record {
  out = λ n role x o w r e. g.out n role x o w r e ∙ ap (λ z. finds roles old n role x o || (have reach n role x && is_outcome o z)) (same n role x w r);
  rest = λ n role x w r. g.rest n role x w r ∙ ap (λ z. have reach n role x && is_outcome nothing_first z) (same n role x w r);
}

-- the same set of outcomes
pub given_set : {range : NRange} {roles : List CoreRole} {reach left : List Area} {old new : List Entry} (outs outs2 : ℤ → ℕ → ℤ → List Outcome) →
    ((n : ℤ) (role : ℕ) (x : ℤ) (o : Outcome) → IsIn range n → is_rank roles n role x ≡ true → is_outcome o (outs n role x) ≡ is_outcome o (outs2 n role x)) →
    Gives range roles reach left old new outs → Gives range roles reach left old new outs2
given_set {roles = roles} {reach = reach} {old = old} outs outs2 same g = record {
  out = λ n role x o w r e. g.out n role x o w r e ∙ ap (λ z. finds roles old n role x o || (have reach n role x && z)) (same n role x o w r);
  rest = λ n role x w r. g.rest n role x w r ∙ ap (λ z. have reach n role x && z) (same n role x nothing_first w r);
}

-- the same outcomes of lists that hold of the same ranks
pub given_of : {range : NRange} {roles : List CoreRole} {reach reach2 left left2 : List Area} {old new : List Entry} (outs : ℤ → ℕ → ℤ → List Outcome) →
    ((n : ℤ) (role : ℕ) (x : ℤ) → have reach2 n role x ≡ have reach n role x) → ((n : ℤ) (role : ℕ) (x : ℤ) → have left2 n role x ≡ have left n role x) →
    Gives range roles reach left old new outs → Gives range roles reach2 left2 old new outs
given_of {roles = roles} {old = old} outs comes stays g = record {
  out = λ n role x o w r e. g.out n role x o w r e ∙ ap (λ z. finds roles old n role x o || (z && is_outcome o (outs n role x))) (sym (comes n role x));
  rest = λ n role x w r. stays n role x ∙ g.rest n role x w r ∙ ap (λ z. z && is_outcome nothing_first (outs n role x)) (sym (comes n role x));
}

pub none_out : (w r e : Bool) → e ≡ false → w ≡ w || (r && (e || false))
none_out w r e h = grind (arith, nat_tests)

-- nobody stops
pub none_stops : {range : NRange} {roles : List CoreRole} {reach : List Area} {old : List Entry} → Gives range roles reach reach old old (λ n role x. nothing_first ∷ [])
none_stops {roles = roles} {reach = reach} {old = old} = record {
  out = λ n role x o w r e. none_out (finds roles old n role x o) (have reach n role x) (outcome_eq nothing_first o) (not_nothing o e);
  rest = λ n role x w r. sym (and-true _);
}

-- nobody comes
pub nobody_comes : {range : NRange} {roles : List CoreRole} {reach : List Area} {old : List Entry} (outs : ℤ → ℕ → ℤ → List Outcome) → reach ≡ [] → Gives range roles reach reach old old outs
nobody_comes {roles = roles} {reach = reach} {old = old} outs e = record {
  out = λ n role x o w r h. sym (or-false (finds roles old n role x o)) ∙ ap (λ z. finds roles old n role x o || (have z n role x && is_outcome o (outs n role x))) (sym e);
  rest = λ n role x w r. ap (λ z. have z n role x) e ∙ ap (λ z. have z n role x && is_outcome nothing_first (outs n role x)) (sym e);
}

-- ---- some ranks stop

pub kind_out : (r a : Bool) (k o : Outcome) → is_nothing o ≡ false → (r && a) && outcome_eq k o ≡ r && is_outcome o (if a then k ∷ [] else nothing_first ∷ [])
kind_out false a k o e = refl
kind_out true true k o e = sym (or-false _)
kind_out true false k o e = sym (or-false _) ∙ ap (λ z. z || false) (sym (not_nothing o e))

nothing_is : (k : Outcome) → is_nothing k ≡ false → outcome_eq k nothing_first ≡ false
nothing_is nothing_first e = absurd cc
nothing_is (receives s l) e = refl
nothing_is other_first e = refl
nothing_is again_first e = refl

pub kind_rest : (r a : Bool) (k : Outcome) → is_nothing k ≡ false → r && not a ≡ r && is_outcome nothing_first (if a then k ∷ [] else nothing_first ∷ [])
kind_rest false a k e = refl
kind_rest true true k e = sym (or-false false) ∙ ap (λ z. z || false) (sym (nothing_is k e))
kind_rest true false k e = refl

pub stopped : {range : NRange} {roles : List CoreRole} {reach at left : List Area} {old new : List Entry} (kind : Kind) (p : ℤ → ℕ → ℤ → Bool) (o : ℤ → ℕ → ℤ → Outcome) →
    ((n : ℤ) (role : ℕ) (x : ℤ) → IsIn range n → is_rank roles n role x ≡ true → have at n role x ≡ p n role x) →
    ((n : ℤ) (role : ℕ) (x : ℤ) → IsIn range n → outcome_of roles kind n x ≡ o n role x) →
    Stops roles reach at left old new kind → Gives range roles reach left old new (λ n role x. if p n role x then o n role x ∷ [] else nothing_first ∷ [])
stopped {roles = roles} {reach = reach} {old = old} kind p o same is s = record {
  out = λ n role x q w r e. s.out n role x q ∙ ap (λ a. finds roles old n role x q || ((have reach n role x && a) && outcome_eq (outcome_of roles kind n x) q)) (same n role x w r)
      ∙ ap (λ z. finds roles old n role x q || z) (kind_out (have reach n role x) (p n role x) (outcome_of roles kind n x) q e)
      ∙ ap (λ z. finds roles old n role x q || (have reach n role x && is_outcome q (if p n role x then z ∷ [] else nothing_first ∷ []))) (is n role x w);
  rest = λ n role x w r. s.rest n role x ∙ ap (λ a. have reach n role x && not a) (same n role x w r)
      ∙ kind_rest (have reach n role x) (p n role x) (outcome_of roles kind n x) (kind_some roles kind n x)
      ∙ ap (λ z. have reach n role x && is_outcome nothing_first (if p n role x then z ∷ [] else nothing_first ∷ [])) (is n role x w);
}

pub emit_end : (roles : List CoreRole) (xs : List Area) (i : ℕ) (new : List Entry) (kind : Kind) (n : ℤ) (role : ℕ) (x : ℤ) (o : Outcome) (l : Bool) → length xs ≤ i →
    finds roles new n role x o || (have (drop i xs) n role x && outcome_eq (outcome_of roles kind n x) o) ≡ l → finds roles new n role x o ≡ l
emit_end roles xs i new kind n role x o l le h =
    sym (or-false _) ∙ sym (ap (λ z. finds roles new n role x o || (have z n role x && outcome_eq (outcome_of roles kind n x) o)) (drop_of_length-le xs le)) ∙ h

-- ---- entries that fit

entries_append : (range : NRange) (cuts : List Lin) (xs ys : List Entry) → EntriesFit range cuts xs → EntriesFit range cuts ys → EntriesFit range cuts (xs ++ ys)
entries_append range cuts [] ys h k = k
entries_append range cuts (f ∷ xs) ys h k = (h.0, entries_append range cuts xs ys h.1 k)

pub emit_fits : (range : NRange) (cuts : List Lin) (old new : List Entry) (a : Area) (kind : Kind) → new ≡ old ++ record { area = a; kind = kind } ∷ [] → Fits range cuts a → EntriesFit range cuts old → EntriesFit range cuts new
emit_fits range cuts old new a kind e f h = subst (EntriesFit range cuts) (sym e) (entries_append range cuts old (record { area = a; kind = kind } ∷ []) h (f, tt))
