-- Where two lins over the own index agree.
use Rattle.std.proofs.Common.{◌≡◌, ℕ, ℤ, pos, negsuc, ◌+ℤ◌, ◌-ℤ◌, ◌≤ℤ◌, Bool, true, false, ◌&&◌, nat_eq, int_le, int_lt, Option, Some, None, refl, sym, ap, ap₂, ◌∙◌, subst, arith}
use Rattle.std.specs.Prelude.{MatchOption}
use Rattle.std.specs.Ordering.{int_eq}
use Rattle.std.proofs.lemmas.Bool.Decides.{nat_tests}
use Rattle.std.proofs.lemmas.Int.{ints}
use Rattle.pb_affine.specs.declared.lin.Base.{Base}
use Rattle.pb_affine.specs.declared.lin.Base.TheVariants.{Fixed, Param, Var}
use Rattle.pb_affine.specs.declared.lin.Lin.{Lin}
use Rattle.pb_affine.specs.Values.{value, base_value}
use Rattle.pb_part_areas.specs.declared.area.Area.{Area}
use Rattle.pb_part_areas.specs.Areas.{has, at, is_before}
use Rattle.pb_part_firsts.specs.declared.firsts.Source.{Source}
use Rattle.pb_part_visits.specs.Visits.{is_small_off}
use Rattle.pb_choice_entries.specs.Clashes.{IsMeeting, IsAgreement, IsLittle, IsNumber, IsNoNumber}

value_is : (l : Lin) (b : Base) (n x : ℤ) → l.base ≡ b → value l n x ≡ l.off +ℤ base_value b n x
value_is l b n x e = ap (λ z. l.off +ℤ base_value z n x) e

little_gap : (a b : ℤ) → is_small_off a ≡ true → is_small_off b ≡ true → IsLittle (a -ℤ b)
little_gap a b h k = record { low = grind (arith, ints); high = grind (arith, ints) }

little_next : (a b : ℤ) → is_small_off a ≡ true → is_small_off b ≡ true → IsLittle (a -ℤ b +ℤ pos 1)
little_next a b h k = record { low = grind (arith, ints); high = grind (arith, ints) }

same_sum : (a b v : ℤ) (h m : Bool) → h ≡ true → m ≡ h && int_eq a b → m ≡ int_eq (a +ℤ v) (b +ℤ v)
same_sum a b v h m e k = grind (arith, ints)

pub same_met : (area met : Area) (a b : Lin) → a.base ≡ b.base →
    ((n : ℤ) (role : ℕ) (x : ℤ) → pos 0 ≤ℤ n → has met n role x ≡ has area n role x && int_eq a.off b.off) → IsMeeting area a b met
same_met area met a b same is = record {
  is = λ n role x sa sb z h. same_sum a.off b.off (base_value a.base n x) (has area n role x) (has met n role x) h (is n role x z)
      ∙ ap (λ c. int_eq (value a n x) (b.off +ℤ base_value c n x)) same;
}

fixed_sum : (a b n : ℤ) → int_eq n (a -ℤ b) ≡ int_eq (a +ℤ pos 0) (b +ℤ n)
fixed_sum a b n = grind (arith, ints)

param_sum : (a b n : ℤ) → int_eq n (b -ℤ a) ≡ int_eq (a +ℤ n) (b +ℤ pos 0)
param_sum a b n = grind (arith, ints)

abbrev IsDuring : Area → Area → ℤ → Type 0
IsDuring area met t = (n : ℤ) (role : ℕ) (x : ℤ) → IsLittle t → pos 0 ≤ℤ n → has area n role x ≡ true → has met n role x ≡ int_eq n t

pub fixed_met : (area met : Area) (a b : Lin) (t : ℤ) → a.base ≡ Fixed → b.base ≡ Param → t ≡ a.off -ℤ b.off → IsDuring area met t → IsMeeting area a b met
fixed_met area met a b t ea eb et is = record {
  is = λ n role x sa sb z h.
      is n role x (subst IsLittle (sym et) (little_gap a.off b.off sa sb)) z h ∙ ap (int_eq n) et ∙ fixed_sum a.off b.off n
      ∙ ap₂ int_eq (sym (value_is a Fixed n x ea)) (sym (value_is b Param n x eb));
}

pub param_met : (area met : Area) (a b : Lin) (t : ℤ) → a.base ≡ Param → b.base ≡ Fixed → t ≡ b.off -ℤ a.off → IsDuring area met t → IsMeeting area a b met
param_met area met a b t ea eb et is = record {
  is = λ n role x sa sb z h.
      is n role x (subst IsLittle (sym et) (little_gap b.off a.off sb sa)) z h ∙ ap (int_eq n) et ∙ param_sum a.off b.off n
      ∙ ap₂ int_eq (sym (value_is a Param n x ea)) (sym (value_is b Fixed n x eb));
}

abbrev IsSingle : Area → Area → Lin → ℤ → Type 0
IsSingle area met l off = (n : ℤ) (role : ℕ) (x : ℤ) → is_small_off l.off ≡ true → is_small_off off ≡ true → pos 0 ≤ℤ n → has area n role x ≡ true →
    has met n role x ≡ int_eq (value l n (pos 0)) (x +ℤ off)

-- a lin without the own index
still_fixed : (l : Lin) (n x : ℤ) → l.base ≡ Fixed → value l n (pos 0) ≡ value l n x
still_fixed l n x e = value_is l Fixed n (pos 0) e ∙ sym (value_is l Fixed n x e)

still_param : (l : Lin) (n x : ℤ) → l.base ≡ Param → value l n (pos 0) ≡ value l n x
still_param l n x e = value_is l Param n (pos 0) e ∙ sym (value_is l Param n x e)

turned : (v x off : ℤ) → int_eq v (x +ℤ off) ≡ int_eq v (off +ℤ x)
turned v x off = grind (arith, ints)

back : (v x off : ℤ) → int_eq v (x +ℤ off) ≡ int_eq (off +ℤ x) v
back v x off = grind (arith, ints)

met_back : (area met : Area) (a b : Lin) → ((n x : ℤ) → value a n (pos 0) ≡ value a n x) → b.base ≡ Var → IsSingle area met a b.off → IsMeeting area a b met
met_back area met a b still eb is = record {
  is = λ n role x sa sb z h. is n role x sa sb z h ∙ turned (value a n (pos 0)) x b.off ∙ ap₂ int_eq (still n x) (sym (value_is b Var n x eb));
}

met_own : (area met : Area) (a b : Lin) → ((n x : ℤ) → value b n (pos 0) ≡ value b n x) → a.base ≡ Var → IsSingle area met b a.off → IsMeeting area a b met
met_own area met a b still ea is = record {
  is = λ n role x sa sb z h. is n role x sb sa z h ∙ back (value b n (pos 0)) x a.off ∙ ap₂ int_eq (sym (value_is a Var n x ea)) (still n x);
}

pub fixed_own : (area met : Area) (a b : Lin) → a.base ≡ Fixed → b.base ≡ Var → IsSingle area met a b.off → IsMeeting area a b met
fixed_own area met a b ea eb is = met_back area met a b (λ n x. still_fixed a n x ea) eb is

pub param_own : (area met : Area) (a b : Lin) → a.base ≡ Param → b.base ≡ Var → IsSingle area met a b.off → IsMeeting area a b met
param_own area met a b ea eb is = met_back area met a b (λ n x. still_param a n x ea) eb is

pub own_fixed : (area met : Area) (a b : Lin) → a.base ≡ Var → b.base ≡ Fixed → IsSingle area met b a.off → IsMeeting area a b met
own_fixed area met a b ea eb is = met_own area met a b (λ n x. still_fixed b n x eb) ea is

pub own_param : (area met : Area) (a b : Lin) → a.base ≡ Var → b.base ≡ Param → IsSingle area met b a.off → IsMeeting area a b met
own_param area met a b ea eb is = met_own area met a b (λ n x. still_param b n x eb) ea is

-- ---- areas

same_role : (r s : ℕ) (t m e : Bool) → nat_eq r s ≡ true → m ≡ e → m ≡ nat_eq r s && e
same_role r s t m e h k = grind (arith, nat_tests)

other_role : (t m e : Bool) → t ≡ false → m ≡ false → m ≡ t && e
other_role t m e h k = grind arith

pub agree_same : (area met : Area) (a b : Source) → nat_eq a.role b.role ≡ true → IsMeeting area a.at b.at met → IsAgreement area a b met
agree_same area met a b e is = record { is = λ n role x sa sb z h. same_role a.role b.role true (has met n role x) (int_eq (value a.at n x) (value b.at n x)) e (is.is n role x sa sb z h) }

pub agree_other : (area met : Area) (a b : Source) → nat_eq a.role b.role ≡ false → ((n : ℤ) (role : ℕ) (x : ℤ) → pos 0 ≤ℤ n → has met n role x ≡ false) → IsAgreement area a b met
agree_other area met a b e is = record { is = λ n role x sa sb z h. other_role (nat_eq a.role b.role) (has met n role x) (int_eq (value a.at n x) (value b.at n x)) e (is n role x z) }

-- one N, and one index
at_one : (t s n : ℤ) (r l e f u : Bool) → s ≡ t +ℤ pos 1 → r && l && e && f && u ≡ true → r && l && e && int_le t n && int_lt n s ≡ int_eq n t
at_one t s n r l e f u k h = grind (arith, ints)

pub at_number_has : (area : Area) (t s n : ℤ) → s ≡ t +ℤ pos 1 → (role : ℕ) (x : ℤ) → has area n role x ≡ true →
    nat_eq role area.role && int_le (at area.low n) x && int_lt x (at area.end n) && int_le t n && int_lt n s ≡ int_eq n t
at_number_has area t s n k role x h = at_one t s n (nat_eq role area.role) (int_le (at area.low n) x) (int_lt x (at area.end n)) (int_le (pos area.from) n) (is_before n area.until) k h

alone : (r l e f u : Bool) (v w k d x n o v0 : ℤ) → pos 0 ≤ℤ n → r && l && e && f && u ≡ true → v ≡ k -ℤ o +ℤ d → w ≡ k -ℤ o +ℤ pos 1 +ℤ d → v0 ≡ k +ℤ d → r && int_le v x && int_lt x w && int_le (pos 0) n && true ≡ int_eq v0 (x +ℤ o)
alone r l e f u v w k d x n o v0 z h ev ew e0 = grind (arith, ints)

pub single_has : (area : Area) (at_lin low end : Lin) (off : ℤ) → low.base ≡ at_lin.base → end.base ≡ at_lin.base →
    (IsLittle (at_lin.off -ℤ off) → low.off ≡ at_lin.off -ℤ off) → (IsLittle (at_lin.off -ℤ off +ℤ pos 1) → end.off ≡ at_lin.off -ℤ off +ℤ pos 1) →
    IsSingle area (record { role = area.role; low = low; end = end; from = 0; until = None }) at_lin off
single_has area at_lin low end off el ee ol oe = λ n role x sl so z h.
    alone (nat_eq role area.role) (int_le (at area.low n) x) (int_lt x (at area.end n)) (int_le (pos area.from) n) (is_before n area.until)
    (value low n (pos 0)) (value end n (pos 0)) at_lin.off (base_value at_lin.base n (pos 0)) x n off (value at_lin n (pos 0)) z h
    (ap₂ (λ o b. o +ℤ base_value b n (pos 0)) (ol (little_gap at_lin.off off sl so)) el)
    (ap₂ (λ o b. o +ℤ base_value b n (pos 0)) (oe (little_next at_lin.off off sl so)) ee) refl

nothing_then : (h m e : Bool) → m ≡ false → e ≡ false → m ≡ h && e
nothing_then true m e k l = k ∙ sym l
nothing_then false m e k l = k

pub not_equal : (area met : Area) (a b : ℤ) (t : Bool) → t ≡ int_eq a b → t ≡ false → ((n : ℤ) (role : ℕ) (x : ℤ) → pos 0 ≤ℤ n → has met n role x ≡ false) →
    (n : ℤ) (role : ℕ) (x : ℤ) → pos 0 ≤ℤ n → has met n role x ≡ has area n role x && int_eq a b
not_equal area met a b t e ne is = λ n role x z. nothing_then (has area n role x) (has met n role x) (int_eq a b) (is n role x z) (sym e ∙ ne)

and_true : (h e : Bool) → e ≡ true → h ≡ h && e
and_true true e k = sym k
and_true false e k = refl

pub are_equal : (area : Area) (a b : ℤ) (t : Bool) → t ≡ int_eq a b → t ≡ true → (n : ℤ) (role : ℕ) (x : ℤ) → pos 0 ≤ℤ n → has area n role x ≡ has area n role x && int_eq a b
are_equal area a b t e y = λ n role x z. and_true (has area n role x) (int_eq a b) (sym e ∙ y)

under_zero : (n t : ℤ) → t ≤ℤ negsuc 0 → pos 0 ≤ℤ n → int_eq n t ≡ false
under_zero n t h z = grind (arith, ints)

over_all : (n t : ℤ) → pos 4000001 ≤ℤ t → t ≤ℤ pos 4000000 → int_eq n t ≡ false
over_all n t h k = grind (arith, ints)

pub none_below : (t : ℤ) → t ≤ℤ negsuc 0 → IsNoNumber t
none_below t h = record { none = λ n l z. under_zero n t h z }

pub none_above : (t : ℤ) → pos 4000001 ≤ℤ t → IsNoNumber t
none_above t h = record { none = λ n l z. over_all n t h l.high }

pub during_none : (area met : Area) (t : ℤ) (o : Option ℕ) → MatchOption o (IsNoNumber t) (λ k. IsNumber t k) → o ≡ None →
    ((n : ℤ) (role : ℕ) (x : ℤ) → pos 0 ≤ℤ n → has met n role x ≡ false) → IsDuring area met t
during_none area met t o h e is = λ n role x l z has_it.
    let k : IsNoNumber t = subst (λ q. MatchOption q (IsNoNumber t) (λ k. IsNumber t k)) e h in
    is n role x z ∙ sym (k.none n l z)

number_small : (t : ℤ) (o : Option ℕ) (k : ℕ) → MatchOption o (IsNoNumber t) (λ k. IsNumber t k) → o ≡ Some k → IsNumber t k
number_small t o k h e = subst (λ q. MatchOption q (IsNoNumber t) (λ k. IsNumber t k)) e h

pub is_small : (t : ℤ) (o : Option ℕ) (k : ℕ) → MatchOption o (IsNoNumber t) (λ k. IsNumber t k) → o ≡ Some k → pos k ≤ℤ pos 4000000
is_small t o k h e = (number_small t o k h e).small

pub during_some : (area met : Area) (t : ℤ) (o : Option ℕ) (k : ℕ) → MatchOption o (IsNoNumber t) (λ k. IsNumber t k) → o ≡ Some k →
    ((n : ℤ) (role : ℕ) (x : ℤ) → has area n role x ≡ true → has met n role x ≡ int_eq n (pos k)) → IsDuring area met t
during_some area met t o k h e is = λ n role x l z has_it. is n role x has_it ∙ ap (int_eq n) (number_small t o k h e).is
