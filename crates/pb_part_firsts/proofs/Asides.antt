-- Parts without a rank of those who take part in a statement, which pass it as they are.
use Rattle.std.proofs.Common.{◌≡◌, ◌<◌, ◌≤◌, ◌+◌, ℕ, ℤ, pos, List, [], ◌∷◌, ◌++◌, Bool, true, false, not, ◌||◌, ◌&&◌, drop, length, get_or, refl, ap, sym, ◌∙◌, arith, drop_of_length-le}
use Rattle.std.proofs.lemmas.Bool.Decides.{nat_tests}
use Rattle.std.proofs.lemmas.List.{at_drop_more}
use Rattle.std.proofs.Math.Bool.{and-false, or-false}
use Rattle.pb_affine.specs.declared.range.NRange.{NRange}
use Rattle.pb_core_language.specs.declared.protocol.CoreRole.{CoreRole}
use Rattle.pb_core_language.specs.Flat.{stop}
use Rattle.pb_core_language.specs.FlatOf.{flat_stmt}
use Rattle.pb_core_language.specs.Outcomes.{Outcome, nothing_first}
use Rattle.pb_core_language.specs.Plain.{MarkedStmt}
use Rattle.pb_core_language.specs.Sound.{Rows, is_stmt}
use Rattle.pb_core_language.specs.Verdict.{IsIn}
use Rattle.pb_core_flat.specs.OutcomeSets.{is_outcome}
use Rattle.pb_core_flat.specs.Seated.{rank, is_rank}
use Rattle.pb_core_flat.proofs.OutcomesAdd.{bystander_finds}
use Rattle.pb_part_areas.specs.declared.area.Area.{Area}
use Rattle.pb_part_areas.specs.Areas.{has, have}
use Rattle.pb_part_areas.specs.Joins.{blank}
use Rattle.pb_part_takers.specs.declared.held.Held.{Held}
use Rattle.pb_part_takers.specs.Loops.{held_of, ids_of}
use Rattle.pb_part_takers.specs.Pieces.{IsAdded, stmt_piece}
use Rattle.pb_part_firsts.specs.declared.firsts.Entry.{Entry}
use Rattle.pb_part_firsts.specs.declared.parts.Part.{Part}
use Rattle.pb_part_firsts.specs.Firsts.{finds, Gives}
use Rattle.pb_part_firsts.specs.Parts.{flat, IsAround}
use Rattle.pb_part_firsts.specs.Stopping.{first_at}
use Rattle.pb_part_firsts.specs.Takers.{IsWhole}
use Rattle.pb_part_firsts.proofs.Flats.{part_pushed}
use Rattle.pb_part_firsts.proofs.Outcomes.{not_nothing}

-- ---- a part beside areas

beside_bools : (p r d a : Bool) → (p ≡ true → r ≡ true) → r && not a ≡ r → p && d ≡ false → p && (a || d) ≡ false
beside_bools false r d a h e k = refl
beside_bools true r d true h e k = sym (sym (ap (λ z. z && false) (h refl)) ∙ e ∙ h refl)
beside_bools true r d false h e k = k

pub beside_step : (p : Part) (xs : List Area) (i : ℕ) (n : ℤ) (role : ℕ) (x : ℤ) → i < length xs → IsAround p →
    has p.around n role x && not (has (get_or xs i blank) n role x) ≡ has p.around n role x →
    have p.areas.items n role x && have (drop (i + 1) xs) n role x ≡ false → have p.areas.items n role x && have (drop i xs) n role x ≡ false
beside_step p xs i n role x lt k e h =
    ap (λ z. have p.areas.items n role x && z) (at_drop_more (λ z. have z n role x) xs i blank lt)
    ∙ beside_bools (have p.areas.items n role x) (has p.around n role x) (have (drop (i + 1) xs) n role x) (has (get_or xs i blank) n role x) (k.around n role x) e h

pub beside_end : (p : Part) (xs : List Area) (i : ℕ) (n : ℤ) (role : ℕ) (x : ℤ) → length xs ≤ i → have p.areas.items n role x && have (drop i xs) n role x ≡ false
beside_end p xs i n role x le = ap (λ z. have p.areas.items n role x && have z n role x) (drop_of_length-le xs le) ∙ and-false (have p.areas.items n role x)

-- ---- one more part

met_bools : (m m2 o p : Bool) → m2 ≡ m || p → m2 || o ≡ (m || o) || p
met_bools m m2 o p e = grind (arith, nat_tests)

pub met_added : (old new others : List Part) (p : Part) → new ≡ old ++ p ∷ [] → (n : ℤ) (role : ℕ) (x : ℤ) →
    have (flat new) n role x || have (flat others) n role x ≡ (have (flat old) n role x || have (flat others) n role x) || have p.areas.items n role x
met_added old new others p e n role x = met_bools (have (flat old) n role x) (have (flat new) n role x) (have (flat others) n role x) (have p.areas.items n role x) (part_pushed old new p e n role x)

aside_bools : (m o o2 p : Bool) → o2 ≡ o || p → m || o2 ≡ (m || o) || p
aside_bools m o o2 p e = grind (arith, nat_tests)

pub aside_added : (met old new : List Part) (p : Part) → new ≡ old ++ p ∷ [] → (n : ℤ) (role : ℕ) (x : ℤ) →
    have (flat met) n role x || have (flat new) n role x ≡ (have (flat met) n role x || have (flat old) n role x) || have p.areas.items n role x
aside_added met old new p e n role x = aside_bools (have (flat met) n role x) (have (flat old) n role x) (have (flat new) n role x) (have p.areas.items n role x) (part_pushed old new p e n role x)

apart_bools : (o o2 p l : Bool) → o2 ≡ o || p → p && l ≡ false → o && l ≡ false → o2 && l ≡ false
apart_bools o o2 p l e h k = grind (arith, nat_tests)

pub aside_apart : (old new : List Part) (p : Part) (list : List Area) → new ≡ old ++ p ∷ [] → (n : ℤ) (role : ℕ) (x : ℤ) →
    have p.areas.items n role x && have list n role x ≡ false → have (flat old) n role x && have list n role x ≡ false → have (flat new) n role x && have list n role x ≡ false
aside_apart old new p list e n role x h k = apart_bools (have (flat old) n role x) (have (flat new) n role x) (have p.areas.items n role x) (have list n role x) (part_pushed old new p e n role x) h k

-- ---- who takes no part

-- a rank that takes no part finds nothing
pub bystanders : {range : NRange} {roles : List CoreRole} {whole start takers : List Area} {held : List Held} (s : MarkedStmt) (rows : Rows) →
    IsWhole range roles whole → is_stmt rows false (ids_of held) s.stmt ≡ true → start ≡ [] → IsAdded whole held (stmt_piece held s) start takers →
    (n : ℤ) (role : ℕ) (x : ℤ) → IsIn range n → is_rank roles n role x ≡ true → have takers n role x ≡ false → first_at roles held s.mark s.stmt n role x ≡ nothing_first ∷ []
bystanders {roles = roles} {held = held} s rows k h none a n role x w r e =
    bystander_finds (held_of held n role x) (rank roles n role x) (flat_stmt roles n (ids_of held) (pos 0) s.mark s.stmt stop)
    (sym (a.is rows roles n role x h r (k.is n role x w ∙ r) ∙ ap (λ z. have z n role x || (stmt_piece held s).part roles n role x) none) ∙ e)

none_of : (o t p : Bool) → o && t ≡ false → (t ≡ false → p ≡ false) → o && p ≡ false
none_of false t p h k = refl
none_of true t p h k = k h

all_of : (o t p : Bool) → o && t ≡ false → (t ≡ false → p ≡ true) → o && p ≡ o
all_of false t p h k = refl
all_of true t p h k = k h

aside_out : (w f m o r p : Bool) → m || o ≡ r → o && p ≡ false → w ≡ f || (m && p) → w ≡ f || (r && p)
aside_out w f m o r p e h k = grind (arith, nat_tests)

aside_rest : (a l m o r p : Bool) → m || o ≡ r → o && p ≡ o → l ≡ m && p → a ≡ o || l → a ≡ r && p
aside_rest a l m o r p e h k s = grind (arith, nat_tests)

-- those beside the takers find nothing, so the outcomes of the ranks that are met are those of all
pub aside_gives : {range : NRange} {roles : List CoreRole} {met left reach all : List Area} {old new : List Entry} (others takers : List Area) (outs : ℤ → ℕ → ℤ → List Outcome) →
    ((n : ℤ) (role : ℕ) (x : ℤ) → have met n role x || have others n role x ≡ have reach n role x) →
    ((n : ℤ) (role : ℕ) (x : ℤ) → have others n role x && have takers n role x ≡ false) →
    ((n : ℤ) (role : ℕ) (x : ℤ) → have all n role x ≡ have others n role x || have left n role x) →
    ((n : ℤ) (role : ℕ) (x : ℤ) → IsIn range n → is_rank roles n role x ≡ true → have takers n role x ≡ false → outs n role x ≡ nothing_first ∷ []) →
    Gives range roles met left old new outs → Gives range roles reach all old new outs
aside_gives {roles = roles} {met = met} {left = left} {reach = reach} {all = all} {old = old} {new = new} others takers outs both apart joined none g = record {
  out = λ n role x o w r e. aside_out (finds roles new n role x o) (finds roles old n role x o) (have met n role x) (have others n role x) (have reach n role x) (is_outcome o (outs n role x))
      (both n role x)
      (none_of (have others n role x) (have takers n role x) (is_outcome o (outs n role x)) (apart n role x) (λ h. ap (is_outcome o) (none n role x w r h) ∙ or-false _ ∙ not_nothing o e))
      (g.out n role x o w r e);
  rest = λ n role x w r. aside_rest (have all n role x) (have left n role x) (have met n role x) (have others n role x) (have reach n role x) (is_outcome nothing_first (outs n role x))
      (both n role x)
      (all_of (have others n role x) (have takers n role x) (is_outcome nothing_first (outs n role x)) (apart n role x) (λ h. ap (is_outcome nothing_first) (none n role x w r h)))
      (g.rest n role x w r) (joined n role x);
}
