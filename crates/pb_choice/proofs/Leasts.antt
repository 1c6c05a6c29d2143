-- The first of the breaches of one rule at one place.
use Rattle.std.proofs.Common.{◌≡◌, inl, inr, ℕ, ℤ, Bool, true, false, ◌&&◌, if◌then◌else◌, Option, Some, None, List, [], ◌∷◌, refl, sym, ap, ◌∙◌, subst, arith}
use Rattle.std.specs.Prelude.{MatchOption}
use Rattle.std.proofs.lemmas.Bool.{true≢false, and_parts, and_from}
use Rattle.std.proofs.lemmas.Int.{ints}
use Rattle.pb_affine.specs.declared.range.NRange.{NRange}
use Rattle.pb_affine.specs.Values.{is_up_to}
use Rattle.pb_cases.specs.Breakpoints.{IsInRange}
use Rattle.pb_cases.specs.Regions.{IsFirst, IsNowhere}
use Rattle.pb_cases.specs.declared.bad.Bad.{Bad}
use Rattle.pb_core_language.specs.declared.protocol.CoreRole.{CoreRole}
use Rattle.pb_core_language.specs.Tree.{Mark}
use Rattle.pb_core_language.specs.Rules.{ranked}
use Rattle.pb_core_language.specs.Verdict.{Broken, IsIn, IsUpTo, is_before, is_before_seat}
use Rattle.pb_rules.proofs.Lists.{Has, has, contains}
use Rattle.pb_rules.proofs.Order.{not_before}
use Rattle.pb_part_areas.specs.declared.area.Area.{Area}
use Rattle.pb_part_areas.specs.Areas.{have}
use Rattle.pb_part_firsts.specs.Takers.{IsWhole}
use Rattle.pb_core_flat.specs.Seated.{is_rank}
use Rattle.pb_choice.specs.declared.found.Found.{Found}
use Rattle.pb_choice.specs.declared.found.Mark as F
use Rattle.pb_choice.specs.declared.rule.ChoiceRule.{ChoiceRule}
use Rattle.pb_choice.specs.declared.rule.ChoiceRule.TheVariants.{OnlyReceives, OneSource, OwnLabels}
use Rattle.pb_choice.specs.Flaws.{number_of, same_rule, IsFlaw, lonely, misled, flaw_at}
use Rattle.pb_choice.specs.Found.{mark_of, broken_of, earlier, Improves}
use Rattle.pb_choice.specs.Scenes.{Are}
use Rattle.pb_choice.proofs.Improving.{improves_none, improves_one}

up_to_true : (n : ℤ) (high : Option ℕ) → IsUpTo n high → is_up_to n high ≡ true
up_to_true n None h = refl
up_to_true n (Some b) h = grind (arith, ints)

true_up_to : (n : ℤ) (high : Option ℕ) → is_up_to n high ≡ true → IsUpTo n high
true_up_to n None h = tt
true_up_to n (Some b) h = grind (arith, ints)

pub to_range : (range : NRange) (n : ℤ) → IsIn range n → IsInRange range n
to_range range n h = record { low = h.low; high = up_to_true n range.high h.high }

pub from_range : (range : NRange) (n : ℤ) → IsInRange range n → IsIn range n
from_range range n h = record { low = h.low; high = true_up_to n range.high h.high }

rule_is : (j k : ChoiceRule) → same_rule j k ≡ true → number_of j ≡ number_of k
rule_is OnlyReceives OnlyReceives e = refl
rule_is OneSource OneSource e = refl
rule_is OwnLabels OwnLabels e = refl
rule_is OnlyReceives OneSource e = absurd (true≢false (sym e))
rule_is OnlyReceives OwnLabels e = absurd (true≢false (sym e))
rule_is OneSource OnlyReceives e = absurd (true≢false (sym e))
rule_is OneSource OwnLabels e = absurd (true≢false (sym e))
rule_is OwnLabels OnlyReceives e = absurd (true≢false (sym e))
rule_is OwnLabels OneSource e = absurd (true≢false (sym e))

rule_self : (k : ChoiceRule) → same_rule k k ≡ true
rule_self OnlyReceives = refl
rule_self OneSource = refl
rule_self OwnLabels = refl

not_nine : (k : ChoiceRule) → number_of k ≡ 9 → ⊥
not_nine OnlyReceives e = omega arith
not_nine OneSource e = omega arith
not_nine OwnLabels e = omega arith

pub one_has : {X : Type 0} (t : Bool) (m z : X) → Has (if t then m ∷ [] else []) z → (t ≡ true) × (m ≡ z)
one_has true m z (inl e) = (refl, e)
one_has true m z (inr h) = absurd h
one_has false m z h = absurd h

pub has_one : {X : Type 0} (t : Bool) (m : X) → t ≡ true → Has (if t then m ∷ [] else []) m
has_one true m e = inl refl
has_one false m e = absurd (true≢false (sym e))

-- a breach of the rule at the place, by a rank of which the test is true
pub record IsTold (range : NRange) (roles : List CoreRole) (k : ChoiceRule) (m : Mark) (bad : ℤ → ℕ → ℤ → Bool) (c : Broken) : Type 0 where
  pub role : ℕ
  pub index : ℤ
  pub within : IsIn range c.n
  pub rank : is_rank roles c.n role index ≡ true
  pub is : c.breach ≡ ranked (number_of k) (record { role = role; index = index }) m
  pub there : bad c.n role index ≡ true

pub told_from : (range : NRange) (roles : List CoreRole) (k : ChoiceRule) (m : Mark) (bad : ℤ → ℕ → ℤ → Bool) (c : Broken) →
    IsFlaw range roles (flaw_at k m bad) c → IsTold range roles k m bad c
told_from range roles k m bad c (lonely z within is there) = absurd (has [] z there)
told_from range roles k m bad c (misled j z role x within rank is there) =
    let t = one_has (same_rule j k && bad c.n role x) m z (has _ z there) in
    let u = and_parts (same_rule j k) (bad c.n role x) t.0 in
    record {
      role = role;
      index = x;
      within = within;
      rank = rank;
      there = u.1;
      is = is ∙ ap (λ q. ranked q (record { role = role; index = x }) z) (rule_is j k u.0) ∙ ap (λ q. ranked (number_of k) (record { role = role; index = x }) q) (sym t.1);
    }

pub told_to : (range : NRange) (roles : List CoreRole) (k : ChoiceRule) (m : Mark) (bad : ℤ → ℕ → ℤ → Bool) (c : Broken) →
    IsTold range roles k m bad c → IsFlaw range roles (flaw_at k m bad) c
told_to range roles k m bad c t =
    misled k m t.role t.index t.within t.rank t.is
    (contains _ m (has_one (same_rule k k && bad c.n t.role t.index) m (and_from (same_rule k k) (bad c.n t.role t.index) (rule_self k) t.there)))

-- the list holds of a rank of which the test is true
both_true : (a b w r : Bool) → a ≡ b && w → w ≡ r → a ≡ true → (b ≡ true) × (r ≡ true)
both_true a b w r e f h = (grind arith, grind arith)

true_both : (a b w r p : Bool) → a ≡ b && w → w ≡ r → b ≡ p → r ≡ true → p ≡ true → a ≡ true
true_both a b w r p e f g h k = grind arith

abbrev pub found_for : ChoiceRule → F.Mark → Bad → Found
found_for k m b = record { rule = number_of k; mark = m; n = b.n; at = Some (record { role = b.role; index = b.index }) }

module _ (range : NRange) (roles : List CoreRole) (areas whole ranks : List Area) (bad : ℤ → ℕ → ℤ → Bool)
    (is_whole : IsWhole range roles whole) (are : Are range roles areas bad)
    (common : (n : ℤ) (role : ℕ) (x : ℤ) → have ranks n role x ≡ have areas n role x && have whole n role x) where
  come_to : (n : ℤ) (role : ℕ) (x : ℤ) → IsIn range n → have ranks n role x ≡ true → (is_rank roles n role x ≡ true) × (bad n role x ≡ true)
  come_to n role x within h =
      let t = both_true (have ranks n role x) (have areas n role x) (have whole n role x) (is_rank roles n role x) (common n role x) (is_whole.is n role x within) h in
      (t.1, sym (are.is n role x within t.1) ∙ t.0)

  come_from : (n : ℤ) (role : ℕ) (x : ℤ) → IsIn range n → is_rank roles n role x ≡ true → bad n role x ≡ true → have ranks n role x ≡ true
  come_from n role x within r b =
      true_both (have ranks n role x) (have areas n role x) (have whole n role x) (is_rank roles n role x) (bad n role x) (common n role x) (is_whole.is n role x within) (are.is n role x within r) r b

  pub none_of : (k : ChoiceRule) (m : Mark) (best : Option Found) → IsNowhere range (have ranks) → Improves (IsFlaw range roles (flaw_at k m bad)) best best
  none_of k m best none =
      improves_none _ best (λ c h.
      let t = told_from range roles k m bad c h in
      none.none c.n t.role t.index (to_range range c.n t.within) (come_from c.n t.role t.index t.within t.rank t.there))

  before_none : (k : ChoiceRule) (m : F.Mark) (b : Bad) → IsFirst range (have ranks) b.n b.role b.index → (c : Broken) →
      IsTold range roles k (mark_of m) bad c → is_before c (broken_of (found_for k m b)) ≡ false
  before_none k m b first c t =
      let there : have ranks c.n t.role t.index ≡ true = come_from c.n t.role t.index t.within t.rank t.there in
      not_before c (broken_of (found_for k m b)) (ap (λ z. z.rule) t.is) (ap (λ z. z.mark.number) t.is)
      (first.least_n c.n t.role t.index (to_range range c.n t.within) there)
      (λ e. subst (λ z. is_before_seat z (Some (record { role = b.role; index = b.index })) ≡ false) (sym (ap (λ z. z.at) t.is))
      (first.least_rank t.role t.index (subst (λ z. have ranks z t.role t.index ≡ true) e there)))

  pub one_of : (k : ChoiceRule) (m : F.Mark) (best : Option Found) (b : Bad) → IsFirst range (have ranks) b.n b.role b.index →
      Improves (IsFlaw range roles (flaw_at k (mark_of m) bad)) best (earlier best (found_for k m b))
  one_of k m best b first =
      let there : (is_rank roles b.n b.role b.index ≡ true) × (bad b.n b.role b.index ≡ true) = come_to b.n b.role b.index (from_range range b.n first.in_range) first.there in
      improves_one (IsFlaw range roles (flaw_at k (mark_of m) bad)) best (found_for k m b) (not_nine k)
      (told_to range roles k (mark_of m) bad (broken_of (found_for k m b))
      (record { role = b.role; index = b.index; within = from_range range b.n first.in_range; rank = there.0; is = refl; there = there.1 }))
      (λ c h. before_none k m b first c (told_from range roles k (mark_of m) bad c h))

abbrev pub IsCommon : (areas whole ranks : List Area) → Type 0
IsCommon areas whole ranks = (n : ℤ) (role : ℕ) (x : ℤ) → have ranks n role x ≡ have areas n role x && have whole n role x

-- the search in the ranks of the areas
pub none_told : (range : NRange) (roles : List CoreRole) (areas whole ranks seen : List Area) (bad : ℤ → ℕ → ℤ → Bool) (k : ChoiceRule) (m : Mark) (best : Option Found) (r : Option Bad) →
    IsWhole range roles whole → Are range roles areas bad → IsCommon areas whole ranks → seen ≡ ranks →
    MatchOption r (IsNowhere range (have seen)) (λ b. IsFirst range (have seen) b.n b.role b.index) → r ≡ None →
    Improves (IsFlaw range roles (flaw_at k m bad)) best best
none_told range roles areas whole ranks seen bad k m best r is_whole are common same found is =
    let h : IsNowhere range (have seen) = subst (λ o. MatchOption o (IsNowhere range (have seen)) (λ b. IsFirst range (have seen) b.n b.role b.index)) is found in
    none_of range roles areas whole ranks bad is_whole are common k m best (subst (λ l. IsNowhere range (have l)) same h)

pub one_told : (range : NRange) (roles : List CoreRole) (areas whole ranks seen : List Area) (bad : ℤ → ℕ → ℤ → Bool) (k : ChoiceRule) (m : F.Mark) (best new : Option Found) (r : Option Bad) (b : Bad) →
    IsWhole range roles whole → Are range roles areas bad → IsCommon areas whole ranks → seen ≡ ranks →
    MatchOption r (IsNowhere range (have seen)) (λ b. IsFirst range (have seen) b.n b.role b.index) → r ≡ Some b → new ≡ earlier best (found_for k m b) →
    Improves (IsFlaw range roles (flaw_at k (mark_of m) bad)) best new
one_told range roles areas whole ranks seen bad k m best new r b is_whole are common same found is e =
    let h : IsFirst range (have seen) b.n b.role b.index = subst (λ o. MatchOption o (IsNowhere range (have seen)) (λ b. IsFirst range (have seen) b.n b.role b.index)) is found in
    subst (λ o. Improves (IsFlaw range roles (flaw_at k (mark_of m) bad)) best o) (sym e)
    (one_of range roles areas whole ranks bad is_whole are common k m best b (subst (λ l. IsFirst range (have l) b.n b.role b.index) same h))
