-- Entries by their kinds.
use Rattle.std.proofs.Common.{◌≡◌, ◌<◌, ◌≤◌, ◌+◌, ℕ, zero, suc, ℤ, List, [], ◌∷◌, ◌++◌, Bool, false, ◌||◌, ◌&&◌, drop, length, length-append, get_or, ap, ap₂, sym, ◌∙◌, arith, drop_of_length-le}
use Rattle.std.proofs.lemmas.Bool.Decides.{nat_tests}
use Rattle.std.proofs.lemmas.List.{at_drop_more}
use Rattle.pb_affine.specs.declared.lin.Lin.{Lin}
use Rattle.pb_affine.specs.declared.range.NRange.{NRange}
use Rattle.pb_part_areas.specs.declared.area.Area.{Area}
use Rattle.pb_part_areas.specs.Areas.{has, have}
use Rattle.pb_part_areas.specs.Fits.{Fits}
use Rattle.pb_part_areas.proofs.Bools.{or_false}
use Rattle.pb_core_language.specs.declared.protocol.CoreRole.{CoreRole}
use Rattle.pb_core_language.specs.Outcomes.{Outcome}
use Rattle.pb_core_flat.specs.OutcomeSets.{outcome_eq}
use Rattle.pb_part_firsts.specs.declared.firsts.Entry.{Entry}
use Rattle.pb_part_firsts.specs.declared.firsts.Kind.{Kind}
use Rattle.pb_part_firsts.specs.Firsts.{finds, outcome_of}
use Rattle.pb_part_firsts.specs.Fitting.{EntriesFit}
use Rattle.pb_part_firsts.proofs.Outcomes.{finds_append, emit_fits}

same_bools : (a b h e f : Bool) → b ≡ a || h → (b && e) || f ≡ ((a && e) || f) || (h && e)
same_bools a b h e f k = grind (arith, nat_tests)

pub same_added : (roles : List CoreRole) (areas new : List Area) (others : List Entry) (kind : Kind) (entry : Entry) (n : ℤ) (role : ℕ) (x : ℤ) (o : Outcome) → entry.kind ≡ kind → have new n role x ≡ have areas n role x || has entry.area n role x →
    (have new n role x && outcome_eq (outcome_of roles kind n x) o) || finds roles others n role x o
    ≡ ((have areas n role x && outcome_eq (outcome_of roles kind n x) o) || finds roles others n role x o) || (has entry.area n role x && outcome_eq (outcome_of roles entry.kind n x) o)
same_added roles areas new others kind entry n role x o e k =
    same_bools (have areas n role x) (have new n role x) (has entry.area n role x) (outcome_eq (outcome_of roles kind n x) o) (finds roles others n role x o) k
    ∙ ap (λ z. ((have areas n role x && outcome_eq (outcome_of roles kind n x) o) || finds roles others n role x o) || (has entry.area n role x && outcome_eq (outcome_of roles z n x) o)) (sym e)

other_bools : (a f g h : Bool) → g ≡ f || (h || false) → a || g ≡ (a || f) || h
other_bools a f g h e = grind (arith, nat_tests)

pub other_added : (roles : List CoreRole) (others new : List Entry) (entry : Entry) (n : ℤ) (role : ℕ) (x : ℤ) (o : Outcome) (a : Bool) → new ≡ others ++ entry ∷ [] →
    a || finds roles new n role x o ≡ (a || finds roles others n role x o) || (has entry.area n role x && outcome_eq (outcome_of roles entry.kind n x) o)
other_added roles others new entry n role x o a e =
    other_bools a (finds roles others n role x o) (finds roles new n role x o) (has entry.area n role x && outcome_eq (outcome_of roles entry.kind n x) o) (ap (λ z. finds roles z n role x o) e ∙ finds_append roles others (entry ∷ []) n role x o)

pub longer : (others new : List Entry) (entry : Entry) → new ≡ others ++ entry ∷ [] → length new ≤ length others + 1
longer others new entry e = omega (arith, ap length e ∙ length-append others (entry ∷ []))

split_bools : (a b d l h : Bool) → b ≡ a || h → a || (h || d) ≡ l → b || d ≡ l
split_bools a b d l h e k = grind (arith, nat_tests)

pub split_step : (roles : List CoreRole) (rest : List Entry) (i : ℕ) (d : Entry) (n : ℤ) (role : ℕ) (x : ℤ) (o : Outcome) (a b l : Bool) → i < length rest →
    b ≡ a || (has (get_or rest i d).area n role x && outcome_eq (outcome_of roles (get_or rest i d).kind n x) o) →
    a || finds roles (drop i rest) n role x o ≡ l → b || finds roles (drop (i + 1) rest) n role x o ≡ l
split_step roles rest i d n role x o a b l lt e k =
    split_bools a b (finds roles (drop (i + 1) rest) n role x o) l (has (get_or rest i d).area n role x && outcome_eq (outcome_of roles (get_or rest i d).kind n x) o) e
    (ap (λ z. a || z) (sym (at_drop_more (λ z. finds roles z n role x o) rest i d lt)) ∙ k)

pub split_done : (roles : List CoreRole) (rest : List Entry) (i : ℕ) (n : ℤ) (role : ℕ) (x : ℤ) (o : Outcome) (a l : Bool) → length rest ≤ i → a || finds roles (drop i rest) n role x o ≡ l → a ≡ l
split_done roles rest i n role x o a l le k = or_false a ∙ ap (λ z. a || finds roles z n role x o) (sym (drop_of_length-le rest le)) ∙ k

less : (i n : ℕ) → suc i < suc n → i < n
less i n h = omega arith

pub entry_fits : (range : NRange) (cuts : List Lin) (list : List Entry) (i : ℕ) (d : Entry) → i < length list → EntriesFit range cuts list → Fits range cuts (get_or list i d).area
entry_fits range cuts [] i d lt f = absurd (omega (arith, lt))
entry_fits range cuts (e ∷ es) zero d lt f = f.0
entry_fits range cuts (e ∷ es) (suc i) d lt f = entry_fits range cuts es i d (less i (length es) lt) f.1

pub others_fit : (range : NRange) (cuts : List Lin) (others new : List Entry) (entry : Entry) → new ≡ others ++ entry ∷ [] → Fits range cuts entry.area → EntriesFit range cuts others → EntriesFit range cuts new
others_fit range cuts others new entry e f h = emit_fits range cuts others new entry.area entry.kind e f h

pub split_start : (roles : List CoreRole) (first : Entry) (one : List Area) (others : List Entry) (n : ℤ) (role : ℕ) (x : ℤ) (o : Outcome) (d : Bool) → have one n role x ≡ has first.area n role x → others ≡ [] →
    ((have one n role x && outcome_eq (outcome_of roles first.kind n x) o) || finds roles others n role x o) || d ≡ (has first.area n role x && outcome_eq (outcome_of roles first.kind n x) o) || d
split_start roles first one others n role x o d e f =
    ap₂ (λ y z. ((y && outcome_eq (outcome_of roles first.kind n x) o) || finds roles z n role x o) || d) e f
    ∙ ap (λ z. z || d) (sym (or_false (has first.area n role x && outcome_eq (outcome_of roles first.kind n x) o)))

pub none_long : (others : List Entry) → others ≡ [] → length others ≤ 0
none_long others e = omega (arith, ap length e)
