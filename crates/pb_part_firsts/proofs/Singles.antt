-- What a rank finds first in a statement with one or two ends, or in a continue.
use Rattle.std.proofs.Common.{◌≡◌, ◌<◌, ◌≤◌, ◌+◌, ◌==◌, ℕ, ℤ, pos, ◌≤ℤ◌, nat_eq, nat_lt, cond, zero, suc, Bool, true, false, ◌&&◌, List, [], ◌∷◌, ◌++◌, Some, None, drop, length, get_or, refl, ap, ap₂, sym, ◌∙◌, arith, subst, if◌then◌else◌, drop_of_length-le}
use Rattle.std.proofs.lemmas.Bool.{and_parts}
use Rattle.std.proofs.lemmas.Bool.Decides.{nat_tests}
use Rattle.std.proofs.lemmas.Int.{ints}
use Rattle.std.proofs.lemmas.List.{at_drop_more}
use Rattle.pb_affine.specs.declared.range.NRange.{NRange}
use Rattle.pb_affine.specs.Values.{value}
use Rattle.pb_core_language.specs.declared.protocol.CoreRole.{CoreRole}
use Rattle.pb_core_language.specs.declared.tree.CoreEnd.{CoreEnd}
use Rattle.pb_core_language.specs.Lists.{nth}
use Rattle.pb_core_language.specs.FlatOf.{between, rank_of}
use Rattle.pb_core_language.specs.Outcomes.{Outcome, nothing_first, receives, other_first, again_first, or_then}
use Rattle.pb_core_language.specs.Sound.{is_small, is_over_n, is_end, is_stmt, Rows}
use Rattle.pb_core_language.specs.Tree.{Mark, StmtTree, message, run, again}
use Rattle.pb_core_language.specs.Verdict.{IsIn}
use Rattle.pb_part_areas.specs.declared.area.Area.{Area}
use Rattle.std.specs.List.{All}
use Rattle.pb_affine.specs.declared.lin.Lin.{Lin}
use Rattle.pb_part_areas.specs.Areas.{has, have}
use Rattle.pb_part_areas.specs.Fits.{Fits}
use Rattle.pb_core_flat.specs.Seated.{rank, is_rank, is_at}
use Rattle.pb_core_flat.specs.OutcomeSets.{found}
use Rattle.pb_core_flat.proofs.OutcomeSets.{or_then_assoc}
use Rattle.pb_core_flat.proofs.Seats.{end_is_at}
use Rattle.pb_core_flat.proofs.Sources.{over_n_is}
use Rattle.pb_part_takers.specs.declared.held.Held.{Held}
use Rattle.pb_part_firsts.specs.declared.firsts.Entry.{Entry}
use Rattle.pb_part_firsts.specs.declared.firsts.Kind.{Kind}
use Rattle.pb_part_firsts.specs.declared.firsts.Kind.TheVariants.{Other, Again}
use Rattle.pb_part_takers.specs.Loops.{held_of, ids_of, HeldFit}
use Rattle.pb_part_firsts.specs.Takers.{IsWhole}
use Rattle.pb_part_firsts.specs.Firsts.{Gives, outcome_of}
use Rattle.pb_part_firsts.specs.Turns.{first_stop, AddsStops}
use Rattle.pb_part_firsts.specs.Stopping.{Stops, first_at, is_held}
use Rattle.pb_part_firsts.proofs.Outcomes.{given_as, stopped, none_stops}
use Rattle.pb_part_firsts.proofs.Turning.{stops_append}

pub from_zero : (range : NRange) (n : ℤ) → IsIn range n → pos 0 ≤ℤ n
from_zero range n w = let k : pos range.low ≤ℤ n = w.low in omega (arith, ints)

pub end_small : (rows : Rows) (e : CoreEnd) → is_end rows false e ≡ true → is_small e.at.off ≡ true
end_small rows e h = (and_parts (is_over_n e.at.base) (is_small e.at.off) (and_parts _ (is_over_n e.at.base && is_small e.at.off) h).1).1

pub end_over : (rows : Rows) (e : CoreEnd) → is_end rows false e ≡ true → is_over_n e.at.base ≡ true
end_over rows e h = (and_parts (is_over_n e.at.base) (is_small e.at.off) (and_parts _ (is_over_n e.at.base && is_small e.at.off) h).1).0

pub run_is_end : (rows : Rows) (ids : List ℕ) (k : ℕ) (at : CoreEnd) → is_stmt rows false ids (run k at) ≡ true → is_end rows false at ≡ true
run_is_end rows ids k at h = (and_parts (nat_lt k rows.kernels) (is_end rows false at) h).1

one_after : (a b : Bool) (o : Outcome) → or_then (if a then other_first ∷ [] else nothing_first ∷ []) (if b then o ∷ [] else nothing_first ∷ []) ≡ cond a (other_first ∷ []) (cond b (o ∷ []) (nothing_first ∷ []))
one_after true b o = refl
one_after false true o = refl
one_after false false o = refl

pub if_cond : {A : Type 0} (b : Bool) (x y : A) → (if b then x else y) ≡ cond b x y
if_cond true x y = refl
if_cond false x y = refl

message_is : (roles : List CoreRole) (held : List Held) (m : Mark) (l : ℕ) (f t : CoreEnd) (n : ℤ) (role : ℕ) (x : ℤ) → is_over_n f.at.base ≡ true → is_rank roles n role x ≡ true →
    or_then (if is_at f n (pos 0) role x then other_first ∷ [] else nothing_first ∷ []) (if is_at t n (pos 0) role x then receives (rank roles n f.role (value f.at n x)) l ∷ [] else nothing_first ∷ [])
    ≡ first_at roles held m (message l f t) n role x
message_is roles held m l f t n role x h r =
    one_after (is_at f n (pos 0) role x) (is_at t n (pos 0) role x) (receives (rank roles n f.role (value f.at n x)) l)
    ∙ ap₂ (λ y z. cond y (other_first ∷ []) (cond z (receives (rank roles n f.role (value f.at n x)) l ∷ []) (nothing_first ∷ []))) (sym (end_is_at roles n (pos 0) f role x r)) (sym (end_is_at roles n (pos 0) t role x r))
    ∙ ap (λ z. cond (rank_of roles n f (pos 0) == rank roles n role x) (other_first ∷ []) (cond (rank_of roles n t (pos 0) == rank roles n role x) (receives (rank roles n f.role z) l ∷ []) (nothing_first ∷ []))) (over_n_is f.at n x (pos 0) h)

run_is : (roles : List CoreRole) (held : List Held) (m : Mark) (k : ℕ) (e : CoreEnd) (n : ℤ) (role : ℕ) (x : ℤ) → is_rank roles n role x ≡ true →
    (if is_at e n (pos 0) role x then other_first ∷ [] else nothing_first ∷ []) ≡ first_at roles held m (run k e) n role x
run_is roles held m k e n role x r =
    if_cond (is_at e n (pos 0) role x) (other_first ∷ []) (nothing_first ∷ [])
    ∙ ap (λ z. cond z (other_first ∷ []) (nothing_first ∷ [])) (sym (end_is_at roles n (pos 0) e role x r))

-- ---- stops that are added

one_if : (t : Bool) (o : Outcome) → found (if t then Some o else None) ∷ [] ≡ (if t then o ∷ [] else nothing_first ∷ [])
one_if true o = refl
one_if false o = refl

module _ {range : NRange} {roles : List CoreRole} where
  pub stop_added : {old new : List Entry} (a : Area) (kind : Kind) (p : ℤ → ℕ → ℤ → Bool) → new ≡ old ++ record { area = a; kind = kind } ∷ [] →
      ((n : ℤ) (role : ℕ) (x : ℤ) → IsIn range n → has a n role x ≡ p n role x) →
      AddsStops range roles old new (λ n role x. if p n role x then outcome_of roles kind n x ∷ [] else nothing_first ∷ [])
  stop_added {old = old} a kind p e h = record {
    is = λ n role x w r. ap (λ z. first_stop roles z n role x) e ∙ stops_append roles old _ n role x
        ∙ ap (or_then (first_stop roles old n role x)) (one_if (has a n role x) (outcome_of roles kind n x) ∙ ap (λ z. if z then outcome_of roles kind n x ∷ [] else nothing_first ∷ []) (h n role x w));
  }

  adds_in_turn : {old mid new : List Entry} (outs outs2 : ℤ → ℕ → ℤ → List Outcome) → AddsStops range roles old mid outs → AddsStops range roles mid new outs2 →
      AddsStops range roles old new (λ n role x. or_then (outs n role x) (outs2 n role x))
  adds_in_turn {old = old} outs outs2 a b = record {
    is = λ n role x w r. b.is n role x w r ∙ ap (λ z. or_then z (outs2 n role x)) (a.is n role x w r) ∙ or_then_assoc (first_stop roles old n role x) (outs n role x) (outs2 n role x);
  }

  adds_as : {old new : List Entry} (outs outs2 : ℤ → ℕ → ℤ → List Outcome) → ((n : ℤ) (role : ℕ) (x : ℤ) → is_rank roles n role x ≡ true → outs n role x ≡ outs2 n role x) →
      AddsStops range roles old new outs → AddsStops range roles old new outs2
  adds_as {old = old} outs outs2 same a = record {
    is = λ n role x w r. a.is n role x w r ∙ ap (or_then (first_stop roles old n role x)) (same n role x r);
  }

  pub message_adds : {old mid new : List Entry} (held : List Held) (m : Mark) (l : ℕ) (f t : CoreEnd) → is_over_n f.at.base ≡ true →
      AddsStops range roles old mid (λ n role x. if is_at f n (pos 0) role x then other_first ∷ [] else nothing_first ∷ []) →
      AddsStops range roles mid new (λ n role x. if is_at t n (pos 0) role x then receives (rank roles n f.role (value f.at n x)) l ∷ [] else nothing_first ∷ []) →
      AddsStops range roles old new (first_at roles held m (message l f t))
  message_adds held m l f t h a b = adds_as _ _ (λ n role x r. message_is roles held m l f t n role x h r) (adds_in_turn _ _ a b)

  pub run_adds : {old new : List Entry} (held : List Held) (m : Mark) (k : ℕ) (e : CoreEnd) →
      AddsStops range roles old new (λ n role x. if is_at e n (pos 0) role x then other_first ∷ [] else nothing_first ∷ []) →
      AddsStops range roles old new (first_at roles held m (run k e))
  run_adds held m k e a = adds_as _ _ (λ n role x r. run_is roles held m k e n role x r) a

  pub adds_of_stmt : {old new : List Entry} (held : List Held) (m : Mark) (s t : StmtTree) → s ≡ t → AddsStops range roles old new (first_at roles held m t) → AddsStops range roles old new (first_at roles held m s)
  adds_of_stmt held m s t e a = adds_as _ _ (λ n role x r. ap (λ z. first_at roles held m z n role x) (sym e)) a

-- ---- a continue

held_more : (id k : ℕ) (a : Bool) (rest : List Bool) (ids : List ℕ) → (k ≡ id → ⊥) → nth (a ∷ rest) (between id (k ∷ ids)) ≡ nth rest (between id ids)
held_more id k a rest ids h = by_test (nat_eq id k) refl where
  by_test : (t : Bool) → nat_eq id k ≡ t → nth (a ∷ rest) (if t then 0 else suc (between id ids)) ≡ nth rest (between id ids)
  by_test true e = absurd (h (grind (arith, nat_tests)))
  by_test false e = refl

held_here : (id k : ℕ) (a : Bool) (rest : List Bool) (ids : List ℕ) → k ≡ id → a ≡ nth (a ∷ rest) (between id (k ∷ ids))
held_here id k a rest ids h = by_test (nat_eq id k) refl where
  by_test : (t : Bool) → nat_eq id k ≡ t → a ≡ nth (a ∷ rest) (if t then 0 else suc (between id ids))
  by_test true e = refl
  by_test false e = absurd (grind (arith, nat_tests))

at_held : (id : ℕ) (held : List Held) (i : ℕ) (one : Held) (n : ℤ) (role : ℕ) (x : ℤ) → i < length held → one ≡ get_or held i one →
    is_held id (one ∷ drop (i + 1) held) n role x ≡ is_held id (drop i held) n role x
at_held id held i one n role x lt is =
    ap (λ k. is_held id (k ∷ drop (i + 1) held) n role x) is ∙ sym (at_drop_more (λ z. is_held id z n role x) held i one lt)

pub again_step : (id : ℕ) (held : List Held) (i : ℕ) (one : Held) (n : ℤ) (role : ℕ) (x : ℤ) (l : Bool) → i < length held → one ≡ get_or held i one → (one.id ≡ id → ⊥) →
    is_held id (drop i held) n role x ≡ l → is_held id (drop (i + 1) held) n role x ≡ l
again_step id held i one n role x l lt is other h =
    sym (held_more id one.id (have one.areas.value.items n role x) (held_of (drop (i + 1) held) n role x) (ids_of (drop (i + 1) held)) other) ∙ at_held id held i one n role x lt is ∙ h

pub again_here : (id : ℕ) (held : List Held) (i : ℕ) (one : Held) (n : ℤ) (role : ℕ) (x : ℤ) (l : Bool) → i < length held → one ≡ get_or held i one → one.id ≡ id →
    is_held id (drop i held) n role x ≡ l → have one.areas.value.items n role x ≡ l
again_here id held i one n role x l lt is same h =
    held_here id one.id (have one.areas.value.items n role x) (held_of (drop (i + 1) held) n role x) (ids_of (drop (i + 1) held)) same ∙ at_held id held i one n role x lt is ∙ h

pub again_nowhere : (id : ℕ) (held : List Held) (i : ℕ) (n : ℤ) (role : ℕ) (x : ℤ) (l : Bool) → length held ≤ i → is_held id (drop i held) n role x ≡ l → l ≡ false
again_nowhere id held i n role x l le h = sym h ∙ ap (λ z. is_held id z n role x) (drop_of_length-le held le)

pub again_some : {range : NRange} {roles : List CoreRole} {reach at left : List Area} {old new : List Entry} (held : List Held) (m : Mark) (id : ℕ) →
    ((n : ℤ) (role : ℕ) (x : ℤ) → have at n role x ≡ is_held id held n role x) → Stops roles reach at left old new Again →
    Gives range roles reach left old new (first_at roles held m (again id))
again_some {roles = roles} held m id same s = given_as _ _ (λ n role x w r. if_cond (is_held id held n role x) (again_first ∷ []) (nothing_first ∷ []))
    (stopped Again (λ n role x. is_held id held n role x) (λ n role x. again_first) (λ n role x w r. same n role x) (λ n role x w. refl) s)

pub again_none : {range : NRange} {roles : List CoreRole} {reach : List Area} {old : List Entry} (held : List Held) (m : Mark) (id : ℕ) →
    ((n : ℤ) (role : ℕ) (x : ℤ) → is_held id held n role x ≡ false) → Gives range roles reach reach old old (first_at roles held m (again id))
again_none held m id none = given_as _ _ (λ n role x w r. ap (λ z. cond z (again_first ∷ []) (nothing_first ∷ [])) (sym (none n role x))) none_stops

pub all_stop : {range : NRange} {roles : List CoreRole} {reach whole left : List Area} {old new : List Entry} → IsWhole range roles whole → Stops roles reach whole left old new Other →
    Gives range roles reach left old new (λ n role x. other_first ∷ [])
all_stop k s = stopped Other (λ n role x. true) (λ n role x. other_first) (λ n role x w r. k.is n role x w ∙ r) (λ n role x w. refl) s

-- ---- loops whose areas fit

pub held_rest : (range : NRange) (cuts : List Lin) (held : List Held) (i : ℕ) → i < length held → HeldFit range cuts (drop i held) → HeldFit range cuts (drop (i + 1) held)
held_rest range cuts held i lt h = subst (HeldFit range cuts) (sym (add_one i held)) (rest_fits range cuts i held h) where
  add_one : (i : ℕ) (held : List Held) → drop (i + 1) held ≡ drop (suc i) held
  add_one i held = let e : i + 1 ≡ suc i = omega arith in ap (λ k. drop k held) e

  rest_fits : (range : NRange) (cuts : List Lin) (i : ℕ) (held : List Held) → HeldFit range cuts (drop i held) → HeldFit range cuts (drop (suc i) held)
  rest_fits range cuts zero [] h = h
  rest_fits range cuts zero (o ∷ os) h = h.1
  rest_fits range cuts (suc i) [] h = h
  rest_fits range cuts (suc i) (o ∷ os) h = rest_fits range cuts i os h

less : (i n : ℕ) → suc i < suc n → i < n
less i n h = omega arith

first_fits : (range : NRange) (cuts : List Lin) (held : List Held) (i : ℕ) (one : Held) → i < length held → HeldFit range cuts (drop i held) → All (Fits range cuts) (get_or held i one).areas.value.items
first_fits range cuts [] i one lt h = absurd (omega (arith, lt))
first_fits range cuts (o ∷ os) zero one lt h = h.0
first_fits range cuts (o ∷ os) (suc i) one lt h = first_fits range cuts os i one (less i (length os) lt) h

pub held_first : (range : NRange) (cuts : List Lin) (held : List Held) (i : ℕ) (one : Held) → i < length held → one ≡ get_or held i one → HeldFit range cuts (drop i held) → All (Fits range cuts) one.areas.value.items
held_first range cuts held i one lt is h = subst (λ o. All (Fits range cuts) o.areas.value.items) (sym is) (first_fits range cuts held i one lt h)
