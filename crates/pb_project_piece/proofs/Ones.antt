-- An `If` of the rank at an end.
use Rattle.std.proofs.Common.{◌≡◌, ◌≤◌, Bool, ℕ, ℤ, pos, ◌+ℤ◌, ◌-ℤ◌, ◌≤ℤ◌, int_le, nat_eq, true, false, ◌&&◌, ◌||◌, Option, Some, None, List, [], ◌∷◌, refl, sym, ap, subst, ◌∙◌, arith}
use Rattle.std.specs.Ordering.{int_eq}
use Rattle.std.proofs.lemmas.Int.{ints}
use Rattle.std.proofs.lemmas.Bool.{and_parts, false≢true, and_from, false_from_ne_true}
use Rattle.std.proofs.lemmas.Bool.Decides.{nat_tests}
use Rattle.pb_text.specs.declared.place.Place.{Place}
use Rattle.pb_affine.specs.declared.lin.Base.{Base}
use Rattle.pb_affine.specs.declared.lin.Base.TheVariants.{Fixed, Param, Var}
use Rattle.pb_affine.specs.declared.range.NRange.{NRange}
use Rattle.pb_affine.specs.Values.{value, hold}
use Rattle.pb_part_areas.specs.declared.area.Area.{Area}
use Rattle.pb_part_areas.specs.Areas.{have}
use Rattle.pb_core_language.specs.declared.tree.CoreEnd.{CoreEnd}
use Rattle.pb_core_language.specs.Sound.{is_small, is_over_n}
use Rattle.pb_core_language.specs.Ranks.{total}
use Rattle.pb_core_language.specs.Verdict.{IsIn, IsUpTo}
use Rattle.pb_core_flat.specs.Seated.{is_rank, is_at}
use Rattle.pb_core_flat.specs.Meets.{is_met}
use Rattle.pb_core_flat.proofs.Sources.{over_n_is}
use Rattle.pb_core_language.specs.declared.tree.Bounds.{Bounds}
use Rattle.pb_local.specs.Tree.{Code}
use Rattle.pb_shape.specs.Places.{Scope, Here, is_end}
use Rattle.pb_shape.specs.Guards.{Somebody, Nobody, One, alone}
use Rattle.pb_project_piece.specs.Ranked.{late, brought}
use Rattle.pb_project_piece.specs.Seen.{Found, IsFound}
use Rattle.pb_project_piece.proofs.Brought.{at_brought, met_brought}
use Rattle.pb_project_piece.specs.Comers.{comes_to, IsComing}
use Rattle.pb_project_piece.specs.Standing.{Stands, IsHere, ComeIf, is_end_if}
use Rattle.pb_project_piece.specs.Ones.{end_guard, only_when, IsOne}

-- ---- numbers

pub is_late : (n : ℤ) → int_le late n ≡ true → late ≤ℤ n
is_late n h = grind (arith, ints)

pub not_late : (n : ℤ) → int_le late n ≡ false → n ≤ℤ late
not_late n h = grind (arith, ints)

pub from_zero : (range : NRange) (n : ℤ) → IsIn range n → pos 0 ≤ℤ n
from_zero range n h = omega (arith, ints, h.low)

alike : (role r : ℕ) (v x : ℤ) → (nat_eq role r && int_le v x && int_le x v && true && true) || false ≡ nat_eq r role && int_eq v x
alike role r v x = grind (arith, ints, nat_tests)

pub guard_holds : (e : CoreEnd) (n i : ℤ) (role : ℕ) (x : ℤ) → hold (end_guard e ∷ []) n i role x ≡ is_at e n i role x
guard_holds e n i role x = alike role e.role (value e.at n i) x

-- ---- an end for some value of the variable

pub record IsMetBy (e : CoreEnd) (low high n : ℤ) (role : ℕ) (x : ℤ) : Type 0 where
  pub i : ℤ
  pub within : int_le low i && int_le i high ≡ true
  pub is : is_at e n i role x ≡ true

stay_ints : (r role : ℕ) (low high v x : ℤ) → nat_eq r role && (int_le low high && int_eq v x) ≡ true → (int_le low low && int_le low high ≡ true) × (nat_eq r role && int_eq v x ≡ true)
stay_ints r role low high v x h = (grind (arith, ints, nat_tests, h), grind (arith, ints, nat_tests, h))

move_ints : (r role : ℕ) (low high c x : ℤ) → nat_eq r role && (int_le (low +ℤ c) x && int_le x (high +ℤ c)) ≡ true →
    (int_le low (x -ℤ c) && int_le (x -ℤ c) high ≡ true) × (nat_eq r role && int_eq (c +ℤ (x -ℤ c)) x ≡ true)
move_ints r role low high c x h = (grind (arith, ints, nat_tests, h), grind (arith, ints, nat_tests, h))

met_by : (r : ℕ) (b : Base) (c : ℤ) (p : Place) (low high n : ℤ) (role : ℕ) (x : ℤ) →
    is_met (record { role = r; at = record { base = b; off = c }; place = p }) low high n role x ≡ true → IsMetBy (record { role = r; at = record { base = b; off = c }; place = p }) low high n role x
met_by r Fixed c p low high n role x h = let k = stay_ints r role low high (c +ℤ pos 0) x h in record { i = low; within = k.0; is = k.1 }
met_by r Param c p low high n role x h = let k = stay_ints r role low high (c +ℤ n) x h in record { i = low; within = k.0; is = k.1 }
met_by r Var c p low high n role x h = let k = move_ints r role low high c x h in record { i = x -ℤ c; within = k.0; is = k.1 }

stays_ints : (r role : ℕ) (low high i v x : ℤ) → int_le low i && int_le i high ≡ true → nat_eq r role && int_eq v x ≡ true → nat_eq r role && (int_le low high && int_eq v x) ≡ true
stays_ints r role low high i v x h k = grind (arith, ints, nat_tests, h, k)

moves_ints : (r role : ℕ) (low high i c x : ℤ) → int_le low i && int_le i high ≡ true → nat_eq r role && int_eq (c +ℤ i) x ≡ true → nat_eq r role && (int_le (low +ℤ c) x && int_le x (high +ℤ c)) ≡ true
moves_ints r role low high i c x h k = grind (arith, ints, nat_tests, h, k)

is_met_by : (r : ℕ) (b : Base) (c : ℤ) (p : Place) (low high n i : ℤ) (role : ℕ) (x : ℤ) → int_le low i && int_le i high ≡ true →
    is_at (record { role = r; at = record { base = b; off = c }; place = p }) n i role x ≡ true → is_met (record { role = r; at = record { base = b; off = c }; place = p }) low high n role x ≡ true
is_met_by r Fixed c p low high n i role x h k = stays_ints r role low high i (c +ℤ pos 0) x h k
is_met_by r Param c p low high n i role x h k = stays_ints r role low high i (c +ℤ n) x h k
is_met_by r Var c p low high n i role x h k = moves_ints r role low high i c x h k

pub met_at : (e : CoreEnd) (low high n i : ℤ) (role : ℕ) (x : ℤ) → int_le low i && int_le i high ≡ true → is_at e n i role x ≡ true → is_met e low high n role x ≡ true
met_at e low high n i role x h k = is_met_by e.role e.at.base e.at.off e.place low high n i role x h k

-- ---- who comes

module _ (range : NRange) (roles : ℕ) (whole : List Area) (sc : Scope) (stands : Stands range roles whole sc) where
  pub inside_range : (n : ℤ) → IsIn sc.range n → IsIn range n
  inside_range n h = subst (λ r. IsIn r n) stands.range_is h

  pub outside_range : (n : ℤ) → IsIn range n → IsIn sc.range n
  outside_range n h = subst (λ r. IsIn r n) (sym stands.range_is) h

  pub rank_is : (n : ℤ) (role : ℕ) (x : ℤ) → IsIn range n → have whole n role x ≡ is_rank sc.roles n role x
  rank_is n role x h = stands.whole_is.is n role x h

  pub late_in : (n : ℤ) → IsIn range n → late ≤ℤ n → IsIn range late
  late_in n h le = record { low = omega (arith, ints, stands.early); high = sooner range.high h.high }
    where
      sooner : (high : Option ℕ) → IsUpTo n high → IsUpTo late high
      sooner None h = tt
      sooner (Some b) h = omega (arith, ints)

  -- the N that was found is early, where late ranks come early, too
  pub few_at : (test : ℤ → ℕ → ℤ → Bool) (r : Found range whole test) → (late ≤ℤ r.n → test late r.role (brought r.n r.index) ≡ true) → total sc.roles r.n ≤ 2000000000
  few_at test r there = go (int_le late r.n) refl
    where
      go : (t : Bool) → int_le late r.n ≡ t → total sc.roles r.n ≤ 2000000000
      go false e = stands.few r.n r.within (not_late r.n e)
      go true e =
          let le = is_late r.n e in
          let y = brought r.n r.index in
          let in_late = late_in r.n r.within le in
          let there_too : have whole late r.role y ≡ true = rank_is late r.role y in_late ∙ sym (stands.steady r.n r.role r.index le) ∙ sym (rank_is r.n r.role r.index r.within) ∙ r.rank in
          stands.few r.n r.within (r.soon r.role y in_late there_too (there le))

  pub somewhere : (over : Option Bounds) (fixed : List Area) (h : Here) (e : CoreEnd) → IsHere over fixed sc h → ComeIf over sc h (is_end e) → is_end_if over e ≡ true → IsComing range whole over fixed e true → Somebody sc h (is_end e)
  somewhere None fixed h e here come fair coming =
      let k = and_parts (is_over_n e.at.base) (is_small e.at.off) fair in
      let r : Found range whole (λ n role x. comes_to None fixed e n role x) = coming.is k.1 tt in
      let within = outside_range r.n r.within in
      let rank = sym (rank_is r.n r.role r.index r.within) ∙ r.rank in
      record {
        n = r.n;
        i = pos 0;
        role = r.role;
        index = r.index;
        within = within;
        few = few_at (λ n role x. comes_to None fixed e n role x) r (λ le. sym (at_brought e k.0 k.1 r.n r.role r.index le) ∙ r.there);
        rank = rank;
        at = here.at r.n (pos 0);
        comes = come.come r.n (pos 0) r.role r.index within rank r.there;
        is = r.there;
      }
  somewhere (Some over) fixed h e here come fair coming =
      let r : Found range whole (λ n role x. comes_to (Some over) fixed e n role x) = coming.is fair here.bounds in
      let both = and_parts (have fixed r.n r.role r.index) (is_met e (value over.low r.n (pos 0)) (value over.high r.n (pos 0)) r.n r.role r.index) r.there in
      let within = outside_range r.n r.within in
      let rank = sym (rank_is r.n r.role r.index r.within) ∙ r.rank in
      let by : IsMetBy e (value over.low r.n (pos 0)) (value over.high r.n (pos 0)) r.n r.role r.index = met_by e.role e.at.base e.at.off e.place (value over.low r.n (pos 0)) (value over.high r.n (pos 0)) r.n r.role r.index both.1 in
      let at = here.at r.n by.i ∙ by.within in
      record {
        n = r.n;
        i = by.i;
        role = r.role;
        index = r.index;
        within = within;
        few = few_at (λ n role x. comes_to (Some over) fixed e n role x) r (λ le.
            and_from _ _ (sym (here.steady r.n r.role r.index le) ∙ both.0) (sym (met_brought over e here.bounds.0 here.bounds.1 fair r.n r.role r.index le) ∙ both.1));
        rank = rank;
        at = at;
        comes = here.come r.n by.i r.role r.index within rank at both.0;
        is = by.is;
      }

  pub nowhere : (over : Option Bounds) (fixed : List Area) (h : Here) (e : CoreEnd) → IsHere over fixed sc h → is_end_if over e ≡ true → IsComing range whole over fixed e false → Nobody sc h (is_end e)
  nowhere None fixed h e here fair coming = λ n i role x within rank at comes.
      let k = and_parts (is_over_n e.at.base) (is_small e.at.off) fair in
      let none : IsFound range whole (λ n role x. comes_to None fixed e n role x) false = coming.is k.1 tt in
      let w = inside_range n within in
      ap (λ v. nat_eq e.role role && int_eq v x) (over_n_is e.at n i (pos 0) k.0)
      ∙ none n role x w (rank_is n role x w ∙ rank)
  nowhere (Some over) fixed h e here fair coming = λ n i role x within rank at comes.
      let none : IsFound range whole (λ n role x. comes_to (Some over) fixed e n role x) false = coming.is fair here.bounds in
      let w = inside_range n within in
      false_from_ne_true (is_at e n i role x) (λ k.
      let met = met_at e (value over.low n (pos 0)) (value over.high n (pos 0)) n i role x (sym (here.at n i) ∙ at) k in
      false≢true (sym (none n role x w (rank_is n role x w ∙ rank)) ∙ and_from _ _ (here.comes n i role x within rank comes) met))

  -- ---- the `If`

  pub one_there : (over : Option Bounds) (fixed : List Area) (h : Here) (e : CoreEnd) (c : Code) → IsHere over fixed sc h → ComeIf over sc h (is_end e) → is_end_if over e ≡ true → IsComing range whole over fixed e true →
      IsOne sc h (is_end e) (alone c) (only_when (end_guard e ∷ []) (alone c) ∷ [])
  one_there over fixed h e c here come fair coming = record {
    one = λ tail. One.there (λ n i role x within rank at. guard_holds e n i role x) (somewhere over fixed h e here come fair coming);
  }

  pub one_gone : (over : Option Bounds) (fixed : List Area) (h : Here) (e : CoreEnd) (c : Code) → IsHere over fixed sc h → is_end_if over e ≡ true → IsComing range whole over fixed e false →
      IsOne sc h (is_end e) (alone c) []
  one_gone over fixed h e c here fair coming = record { one = λ tail. One.gone (nowhere over fixed h e here fair coming) }
