-- Ranks that stop at areas one after the other, where those at some areas stop with an outcome that isn't added yet.
use Rattle.std.proofs.Common.{◌≡◌, ◌<◌, ◌≤◌, ◌+◌, ℕ, zero, suc, ℤ, List, [], ◌∷◌, Bool, true, false, not, ◌||◌, ◌&&◌, map, drop, length, get_or, refl, ap, sym, ◌∙◌, arith, if◌then◌else◌, drop_of_length-le, subst, Result, Ok, Err, IfOk}
use Rattle.std.specs.List.{All}
use Rattle.std.proofs.lemmas.Bool.{and_parts}
use Rattle.std.proofs.lemmas.Bool.Decides.{nat_tests}
use Rattle.std.proofs.lemmas.List.{at_drop_more}
use Rattle.std.proofs.Math.Bool.{and-true}
use Rattle.pb_affine.specs.declared.lin.Lin.{Lin}
use Rattle.pb_affine.specs.declared.range.NRange.{NRange}
use Rattle.pb_core_language.specs.declared.protocol.CoreRole.{CoreRole}
use Rattle.pb_core_language.specs.Outcomes.{Outcome, nothing_first, or_then}
use Rattle.pb_part_areas.specs.declared.area.Area.{Area}
use Rattle.pb_part_areas.specs.Areas.{has, have}
use Rattle.pb_part_areas.specs.Fits.{Fits}
use Rattle.pb_core_flat.specs.OutcomeSets.{outcome_eq, is_nothing, is_outcome}
use Rattle.pb_core_flat.proofs.OutcomeSets.{either_outcome}
use Rattle.pb_core_flat.proofs.Turns.{stops_in_turn}
use Rattle.pb_part_firsts.specs.declared.firsts.Entry.{Entry}
use Rattle.pb_part_firsts.specs.declared.firsts.Kind.{Kind}
use Rattle.pb_part_firsts.specs.declared.parts.Part.{Part}
use Rattle.pb_part_firsts.specs.declared.turns.Coming.{Coming}
use Rattle.pb_part_firsts.specs.Firsts.{finds, outcome_of, Gives, is_small_kind, are_small}
use Rattle.pb_part_firsts.specs.Fitting.{EntriesFit, AllFit}
use Rattle.pb_part_firsts.specs.Parts.{flat, IsAround}
use Rattle.pb_part_firsts.specs.Stopping.{Stops}
use Rattle.pb_part_firsts.specs.Turns.{stop_of, first_stop}
use Rattle.pb_part_firsts.specs.Coming.{come, told, Turned, ComingGives, ComingFits}
use Rattle.pb_part_firsts.proofs.Flats.{have_more}
use Rattle.pb_part_firsts.proofs.Outcomes.{kind_some, not_nothing, seq_some, seq_none, none_out, kind_out, kind_rest}

-- ---- parts that an area passes

past_more : (p r d a : Bool) → (p ≡ true → r ≡ true) → r && not a ≡ r → d && not a ≡ d → (p || d) && not a ≡ p || d
past_more true r d a h e k = sym (ap (λ z. z && not a) (h refl)) ∙ e ∙ h refl
past_more false r d a h e k = k

pub past_step : (parts : List Part) (i : ℕ) (p : Part) (a : Area) (n : ℤ) (role : ℕ) (x : ℤ) → drop i parts ≡ p ∷ drop (i + 1) parts → IsAround p →
    has p.around n role x && not (has a n role x) ≡ has p.around n role x →
    have (flat (drop (i + 1) parts)) n role x && not (has a n role x) ≡ have (flat (drop (i + 1) parts)) n role x →
    have (flat (drop i parts)) n role x && not (has a n role x) ≡ have (flat (drop i parts)) n role x
past_step parts i p a n role x split k e h =
    let both : have (flat (drop i parts)) n role x ≡ have p.areas.items n role x || have (flat (drop (i + 1) parts)) n role x = have_more (drop i parts) (drop (i + 1) parts) p n role x split in
    ap (λ z. z && not (has a n role x)) both
    ∙ past_more (have p.areas.items n role x) (has p.around n role x) (have (flat (drop (i + 1) parts)) n role x) (has a n role x) (k.around n role x) e h ∙ sym both

pub past_end : (parts : List Part) (i : ℕ) (a : Area) (n : ℤ) (role : ℕ) (x : ℤ) → length parts ≤ i → have (flat (drop i parts)) n role x && not (has a n role x) ≡ have (flat (drop i parts)) n role x
past_end parts i a n role x le =
    ap (λ z. have (flat z) n role x && not (has a n role x)) (drop_of_length-le parts le) ∙ sym (ap (λ z. have (flat z) n role x) (drop_of_length-le parts le))

-- ---- one more area

same_out : (w p q m l a j k e : Bool) → q ≡ p → l ≡ m || a → j ≡ k → e ≡ k → w || ((q && l) && j) ≡ (w || ((p && m) && k)) || (((p && not m) && a) && e)
same_out w p q m l a j k e eq el ej ee = grind (arith, nat_tests)

same_rest : (p q m l a : Bool) → q ≡ p → l ≡ m || a → q && not l ≡ (p && not m) && not a
same_rest p q m l a eq el = grind (arith, nat_tests)

-- those at the area stop with the outcome that isn't added yet
pub same_turned : (roles : List CoreRole) (c d : Coming) (old : List Entry) (e : Entry) → d.parts.items ≡ c.parts.items → d.kind ≡ c.kind → c.kind ≡ e.kind →
    ((n : ℤ) (role : ℕ) (x : ℤ) → have d.at.items n role x ≡ have c.at.items n role x || has e.area n role x) → Turned roles c old d old e
same_turned roles c d old e parts kind same more = record {
  out = λ n role x o. same_out (finds roles old n role x o) (have (flat c.parts.items) n role x) (have (flat d.parts.items) n role x) (have c.at.items n role x) (have d.at.items n role x) (has e.area n role x)
      (outcome_eq (outcome_of roles d.kind n x) o) (outcome_eq (outcome_of roles c.kind n x) o) (outcome_eq (outcome_of roles e.kind n x) o)
      (ap (λ z. have (flat z) n role x) parts) (more n role x) (ap (λ z. outcome_eq (outcome_of roles z n x) o) kind) (ap (λ z. outcome_eq (outcome_of roles z n x) o) (sym same));
  rest = λ n role x. same_rest (have (flat c.parts.items) n role x) (have (flat d.parts.items) n role x) (have c.at.items n role x) (have d.at.items n role x) (has e.area n role x)
      (ap (λ z. have (flat z) n role x) parts) (more n role x);
}

past_out : (t p m a k : Bool) → p && not a ≡ p → t ≡ t || (((p && not m) && a) && k)
past_out t p m a k h = grind (arith, nat_tests)

past_rest : (p m a : Bool) → p && not a ≡ p → p && not m ≡ (p && not m) && not a
past_rest p m a h = grind (arith, nat_tests)

-- nobody is at the area
pub past_turned : (roles : List CoreRole) (c : Coming) (old : List Entry) (e : Entry) →
    ((n : ℤ) (role : ℕ) (x : ℤ) → have (flat c.parts.items) n role x && not (has e.area n role x) ≡ have (flat c.parts.items) n role x) → Turned roles c old c old e
past_turned roles c old e past = record {
  out = λ n role x o. past_out (told roles c old n role x o) (have (flat c.parts.items) n role x) (have c.at.items n role x) (has e.area n role x) (outcome_eq (outcome_of roles e.kind n x) o) (past n role x);
  rest = λ n role x. past_rest (have (flat c.parts.items) n role x) (have c.at.items n role x) (has e.area n role x) (past n role x);
}

added_out : (v t q r l a j e : Bool) → v ≡ t → q ≡ r → l ≡ a → j ≡ e → v || ((q && l) && j) ≡ t || ((r && a) && e)
added_out v t q r l a j e ev eq el ej = cc

added_rest : (q r l a : Bool) → q ≡ r → l ≡ a → q && not l ≡ r && not a
added_rest q r l a eq el = cc

-- the outcome is added, and those at the area are the next
added_turned : (roles : List CoreRole) (c d : Coming) (left : List Area) (old new : List Entry) (e : Entry) → Stops roles (flat c.parts.items) c.at.items left old new c.kind →
    ((n : ℤ) (role : ℕ) (x : ℤ) → have (flat d.parts.items) n role x ≡ have left n role x) →
    ((n : ℤ) (role : ℕ) (x : ℤ) → have d.at.items n role x ≡ has e.area n role x) → d.kind ≡ e.kind → Turned roles c old d new e
added_turned roles c d left old new e s is one kind = record {
  out = λ n role x o. added_out (finds roles new n role x o) (told roles c old n role x o) (have (flat d.parts.items) n role x) (come c n role x) (have d.at.items n role x) (has e.area n role x)
      (outcome_eq (outcome_of roles d.kind n x) o) (outcome_eq (outcome_of roles e.kind n x) o)
      (s.out n role x o) (is n role x ∙ s.rest n role x) (one n role x) (ap (λ z. outcome_eq (outcome_of roles z n x) o) kind);
  rest = λ n role x. added_rest (have (flat d.parts.items) n role x) (come c n role x) (have d.at.items n role x) (has e.area n role x) (is n role x ∙ s.rest n role x) (one n role x);
}

-- the same of what begins again
pub again_turned : {E K : Type 0} (r : Result Coming E) (c : Coming) (left : List Area) (old new : List Entry) (e : Entry) →
    ((roles : List CoreRole) → K → Stops roles (flat c.parts.items) c.at.items left old new c.kind) →
    IfOk r (λ d. (n : ℤ) (role : ℕ) (x : ℤ) → have (flat d.parts.items) n role x ≡ have left n role x) →
    IfOk r (λ d. (n : ℤ) (role : ℕ) (x : ℤ) → have d.at.items n role x ≡ has e.area n role x) → IfOk r (λ d. d.kind ≡ e.kind) →
    IfOk r (λ d. (roles : List CoreRole) → K → Turned roles c old d new e)
again_turned (Ok d) c left old new e s is one kind = λ roles k. added_turned roles c d left old new e (s roles k) is one kind
again_turned (Err _) c left old new e s is one kind = tt

pub again_fits : {E : Type 0} (r : Result Coming E) (c : Coming) (left : List Area) (old new : List Entry) (e : Entry) →
    ((range : NRange) (cuts : List Lin) → ComingFits range cuts c old → AllFit range cuts left new) →
    IfOk r (λ d. (range : NRange) (cuts : List Lin) → All (Fits range cuts) left → All (Fits range cuts) (flat d.parts.items)) →
    IfOk r (λ d. (range : NRange) (cuts : List Lin) → Fits range cuts e.area → All (Fits range cuts) d.at.items) →
    IfOk r (λ d. (range : NRange) (cuts : List Lin) → Fits range cuts e.area → ComingFits range cuts c old → ComingFits range cuts d new)
again_fits (Ok d) c left old new e now parts at = λ range cuts f h.
    let all : AllFit range cuts left new = now range cuts h in
    record { parts = parts range cuts all.areas; at = at range cuts f; entries = all.entries }
again_fits (Err _) c left old new e now parts at = tt

-- areas that hold of the same ranks
pub stops_as : {roles : List CoreRole} {reach at at2 left : List Area} {old new : List Entry} {kind : Kind} → ((n : ℤ) (role : ℕ) (x : ℤ) → have at2 n role x ≡ have at n role x) →
    Stops roles reach at2 left old new kind → Stops roles reach at left old new kind
stops_as {roles = roles} {reach = reach} {old = old} {kind = kind} same s = record {
  out = λ n role x o. s.out n role x o ∙ ap (λ z. finds roles old n role x o || ((have reach n role x && z) && outcome_eq (outcome_of roles kind n x) o)) (same n role x);
  rest = λ n role x. s.rest n role x ∙ ap (λ z. have reach n role x && not z) (same n role x);
}

-- ---- all areas, one after the other

first_out : (w p r m k q : Bool) → p ≡ r → m ≡ false → (w || ((p && m) && k)) || ((p && not m) && q) ≡ w || (r && q)
first_out w p r m k q ep em = grind (arith, nat_tests)

first_rest : (p r m q : Bool) → p ≡ r → m ≡ false → (p && not m) && q ≡ r && q
first_rest p r m q ep em = grind (arith, nat_tests)

-- nobody stops so far
pub come_first : {range : NRange} {roles : List CoreRole} {left : List Area} {new : List Entry} (c : Coming) (reach : List Area) (old : List Entry) (outs : ℤ → ℕ → ℤ → List Outcome) → flat c.parts.items ≡ reach → c.at.items ≡ [] →
    ComingGives range roles c left old new outs → Gives range roles reach left old new outs
come_first {roles = roles} c reach old outs comes none g = record {
  out = λ n role x o w r h. g.out n role x o w r h ∙ first_out (finds roles old n role x o) (have (flat c.parts.items) n role x) (have reach n role x) (have c.at.items n role x) (outcome_eq (outcome_of roles c.kind n x) o)
      (is_outcome o (outs n role x)) (ap (λ z. have z n role x) comes) (ap (λ z. have z n role x) none);
  rest = λ n role x w r. g.rest n role x w r ∙ first_rest (have (flat c.parts.items) n role x) (have reach n role x) (have c.at.items n role x) (is_outcome nothing_first (outs n role x))
      (ap (λ z. have z n role x) comes) (ap (λ z. have z n role x) none);
}

pub come_step : {range : NRange} {roles : List CoreRole} {left : List Area} {new : List Entry} (before behind : Coming) (old mid stops : List Entry) (i : ℕ) (e : Entry) → i < length stops →
    Turned roles before old behind mid (get_or stops i e) →
    ComingGives range roles behind left mid new (first_stop roles (drop (i + 1) stops)) →
    ComingGives range roles before left old new (first_stop roles (drop i stops))
come_step {roles = roles} {left = left} {new = new} before behind old mid stops i e lt t g =
    let at : Entry = get_or stops i e in
    let here : ℤ → ℕ → ℤ → List Outcome = λ n role x. if has at.area n role x then outcome_of roles at.kind n x ∷ [] else nothing_first ∷ [] in
    let rest : ℤ → ℕ → ℤ → List Outcome = first_stop roles (drop (i + 1) stops) in
    let joins : (n : ℤ) (role : ℕ) (x : ℤ) → or_then (here n role x) (rest n role x) ≡ first_stop roles (drop i stops) n role x = λ n role x.
    sym (stops_in_turn (stop_of roles n at) (map (stop_of roles n) (drop (i + 1) stops)) role x (kind_some roles at.kind n x))
    ∙ sym (at_drop_more (λ z. first_stop roles z n role x) stops i e lt) in
    let comes : (n : ℤ) (role : ℕ) (x : ℤ) → come behind n role x ≡ come before n role x && is_outcome nothing_first (here n role x) = λ n role x.
    t.rest n role x ∙ kind_rest (come before n role x) (has at.area n role x) (outcome_of roles at.kind n x) (kind_some roles at.kind n x) in
    record {
      out = λ n role x o w r h. seq_some (told roles before old n role x o) (told roles behind mid n role x o) (finds roles new n role x o) (come before n role x) (come behind n role x) (is_nothing o)
          (is_outcome o (here n role x)) (is_outcome nothing_first (here n role x)) (is_outcome o (rest n role x)) h
          (t.out n role x o ∙ ap (λ z. told roles before old n role x o || z) (kind_out (come before n role x) (has at.area n role x) (outcome_of roles at.kind n x) o h))
          (comes n role x) (g.out n role x o w r h)
          ∙ ap (λ z. told roles before old n role x o || (come before n role x && z)) (sym (either_outcome o (here n role x) (rest n role x)) ∙ ap (is_outcome o) (joins n role x));
      rest = λ n role x w r. seq_none (come before n role x) (come behind n role x) (have left n role x) (is_outcome nothing_first (here n role x)) (is_outcome nothing_first (here n role x)) (is_outcome nothing_first (rest n role x))
          (comes n role x) (g.rest n role x w r)
          ∙ ap (λ z. come before n role x && z) (sym (either_outcome nothing_first (here n role x) (rest n role x)) ∙ ap (is_outcome nothing_first) (joins n role x));
    }

pub come_done : {range : NRange} {roles : List CoreRole} {left : List Area} {new : List Entry} (c : Coming) (old stops : List Entry) (i : ℕ) → length stops ≤ i →
    Stops roles (flat c.parts.items) c.at.items left old new c.kind → ComingGives range roles c left old new (first_stop roles (drop i stops))
come_done {roles = roles} c old stops i le s = record {
  out = λ n role x o w r h. s.out n role x o ∙ none_out (told roles c old n role x o) (come c n role x) (outcome_eq nothing_first o) (not_nothing o h)
      ∙ ap (λ z. told roles c old n role x o || (come c n role x && is_outcome o (first_stop roles z n role x))) (sym (drop_of_length-le stops le));
  rest = λ n role x w r. s.rest n role x ∙ sym (and-true (come c n role x))
      ∙ ap (λ z. come c n role x && is_outcome nothing_first (first_stop roles z n role x)) (sym (drop_of_length-le stops le));
}

nobody_out : (w p m k q : Bool) → p ≡ false → w ≡ (w || ((p && m) && k)) || ((p && not m) && q)
nobody_out w p m k q e = grind (arith, nat_tests)

nobody_rest : (p m q : Bool) → p ≡ false → p ≡ (p && not m) && q
nobody_rest p m q e = grind (arith, nat_tests)

-- nobody is left
pub come_cut : {range : NRange} {roles : List CoreRole} (c : Coming) (old : List Entry) (outs : ℤ → ℕ → ℤ → List Outcome) → c.parts.items ≡ [] → ComingGives range roles c (flat c.parts.items) old old outs
come_cut {roles = roles} c old outs none = record {
  out = λ n role x o w r h. nobody_out (finds roles old n role x o) (have (flat c.parts.items) n role x) (have c.at.items n role x) (outcome_eq (outcome_of roles c.kind n x) o) (is_outcome o (outs n role x))
      (ap (λ z. have (flat z) n role x) none);
  rest = λ n role x w r. nobody_rest (have (flat c.parts.items) n role x) (have c.at.items n role x) (is_outcome nothing_first (outs n role x)) (ap (λ z. have (flat z) n role x) none);
}

-- ---- each entry of a list

dropped_small : (i : ℕ) (list : List Entry) → are_small list ≡ true → are_small (drop i list) ≡ true
dropped_small zero list h = h
dropped_small (suc i) [] h = refl
dropped_small (suc i) (e ∷ list) h = dropped_small i list (and_parts (is_small_kind e.kind) (are_small list) h).1

pub small_at : (list : List Entry) (i : ℕ) (e : Entry) → i < length list → are_small list ≡ true → is_small_kind (get_or list i e).kind ≡ true
small_at list i e lt h =
    (and_parts (is_small_kind (get_or list i e).kind) (are_small (drop (i + 1) list)) (sym (at_drop_more are_small list i e lt) ∙ dropped_small i list h)).0

dropped_fit : (range : NRange) (cuts : List Lin) (i : ℕ) (list : List Entry) → EntriesFit range cuts list → EntriesFit range cuts (drop i list)
dropped_fit range cuts zero list h = h
dropped_fit range cuts (suc i) [] h = tt
dropped_fit range cuts (suc i) (e ∷ list) h = dropped_fit range cuts i list h.1

pub entry_fits : (range : NRange) (cuts : List Lin) (list : List Entry) (i : ℕ) (e : Entry) → i < length list → EntriesFit range cuts list → Fits range cuts (get_or list i e).area
entry_fits range cuts list i e lt h = (subst (EntriesFit range cuts) (at_drop_more (λ z. z) list i e lt) (dropped_fit range cuts i list h)).0
