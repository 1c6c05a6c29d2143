-- What the areas of a branch say of the rules 10 to 12.
use Rattle.std.proofs.Common.{◌≡◌, inl, inr, ℕ, ◌==◌, ℤ, pos, ◌≤ℤ◌, Bool, true, false, not, ◌&&◌, ◌||◌, Option, List, [], ◌∷◌, ◌++◌, refl, sym, ap, ◌∙◌, subst, arith}
use Rattle.std.proofs.lemmas.Bool.{and_parts, and_from, or_cases, or_left, or_right, false≢true, true≢false, eqb-true, cases_Bool, false_from_ne_true}
use Rattle.std.proofs.lemmas.Bool.Decides.{nat_tests}
use Rattle.std.proofs.lemmas.Int.{ints}
use Rattle.std.proofs.Math.Bool.{or_assoc}
use Rattle.pb_affine.specs.declared.range.NRange.{NRange}
use Rattle.pb_core_language.specs.declared.protocol.CoreRole.{CoreRole}
use Rattle.pb_core_language.specs.Lists.{none_shared}
use Rattle.pb_core_language.specs.Outcomes.{Outcome, nothing_first, receives, other_first, again_first, only_receives, comes_from_one, labels_of}
use Rattle.pb_core_language.specs.Tree.{Mark}
use Rattle.pb_core_language.specs.Verdict.{IsIn}
use Rattle.pb_part_areas.specs.declared.area.Area.{Area}
use Rattle.pb_part_areas.specs.Areas.{has, have}
use Rattle.pb_core_flat.specs.Seated.{is_rank}
use Rattle.pb_core_flat.specs.OutcomeSets.{outcome_eq, is_outcome}
use Rattle.pb_core_flat.proofs.OutcomeSets.{is_append}
use Rattle.pb_core_flat.proofs.OutcomeTests.{only_receives_is, from_one_is, label_is, none_shared_is}
use Rattle.pb_part_firsts.specs.declared.firsts.Entry.{Entry}
use Rattle.pb_part_firsts.specs.Takers.{IsWhole}
use Rattle.pb_part_firsts.specs.Firsts.{outcome_of, finds, are_small, is_small_kind}
use Rattle.pb_choice.specs.declared.found.Found.{Found}
use Rattle.pb_choice.specs.declared.rule.ChoiceRule.TheVariants.{OnlyReceives, OneSource, OwnLabels}
use Rattle.pb_choice_entries.specs.Clashes.{strange, clashes, forks, AreWhere, AreSplit}
use Rattle.pb_choice.specs.Flaws.{IsFlaw, both, flaw_at, of_rules, misses}
use Rattle.pb_choice.specs.Found.{Improves}
use Rattle.pb_choice.specs.Scenes.{Are}
use Rattle.pb_choice.specs.Walks.{IsPast, IsHere, FirstOf}
use Rattle.pb_choice.proofs.FlawSteps.{improves_both}
use Rattle.pb_choice.proofs.Members.{strange_is, Shared, clashes_give, give_clashes, Forked, FromRanks, forks_give, give_forks}
use Rattle.pb_choice.proofs.Parts.{rules_parts}

both_ways : (a b : Bool) → (a ≡ true → b ≡ true) → (b ≡ true → a ≡ true) → a ≡ b
both_ways true b f g = sym (f refl)
both_ways false true f g = g refl
both_ways false false f g = refl

not_false : (b : Bool) → (b ≡ true → ⊥) → not b ≡ true
not_false true f = absurd (f refl)
not_false false f = refl

from_not : (b : Bool) → not b ≡ true → b ≡ true → ⊥
from_not true h k = false≢true h
from_not false h k = false≢true k

strange_bools : (w l s o a t n b c r : Bool) → w ≡ l || s → l ≡ t && n → s ≡ o || a → o ≡ t && b → a ≡ t && c → r ≡ not (n || (b || c)) → w ≡ t && not r
strange_bools w l s o a t n b c r e1 e2 e3 e4 e5 e6 = grind (arith, nat_tests)

split_bools : (bad f m t c1 c2 : Bool) → bad ≡ f && not m → m ≡ t && not c1 → (f ≡ true → (t ≡ true) × (c2 ≡ false)) → (t ≡ true → c2 ≡ false → c1 ≡ true → f ≡ true) → bad ≡ t && not (c2 || not c1)
split_bools bad true m t c1 c2 e k g h = let p = g refl in let p0 : t ≡ true = p.0 in let p1 : c2 ≡ false = p.1 in grind (arith, nat_tests)
split_bools bad false m false c1 c2 e k g h = e
split_bools bad false m true c1 true e k g h = e
split_bools bad false m true false false e k g h = e
split_bools bad false m true true false e k g h = absurd (false≢true (h refl refl refl))

mixed_bools : (new m bad t c1 c2 : Bool) → new ≡ m || bad → m ≡ t && not c1 → bad ≡ t && not (c2 || not c1) → (c1 ≡ false → c2 ≡ false) → new ≡ t && not c2
mixed_bools new m bad t true c2 e k l h = grind (arith, nat_tests)
mixed_bools new m bad t false c2 e k l h = let p : c2 ≡ false = h refl in grind (arith, nat_tests)

or_and : (w a b t p q r : Bool) → w ≡ a || b → a ≡ t && p → b ≡ t && q → r ≡ p || q → w ≡ t && r
or_and w a b t p q r e f g h = grind (arith, nat_tests)

finds_append : (roles : List CoreRole) (xs ys : List Entry) (n : ℤ) (role : ℕ) (x : ℤ) (o : Outcome) → finds roles (xs ++ ys) n role x o ≡ finds roles xs n role x o || finds roles ys n role x o
finds_append roles [] ys n role x o = refl
finds_append roles (f ∷ xs) ys n role x o =
    ap (λ z. (has f.area n role x && outcome_eq (outcome_of roles f.kind n x) o) || z) (finds_append roles xs ys n role x o)
    ∙ sym (or_assoc (has f.area n role x && outcome_eq (outcome_of roles f.kind n x) o) (finds roles xs n role x o) (finds roles ys n role x o))

small_append : (xs ys : List Entry) → are_small xs ≡ true → are_small ys ≡ true → are_small (xs ++ ys) ≡ true
small_append [] ys h k = k
small_append (f ∷ xs) ys h k =
    let parts = and_parts (is_small_kind f.kind) (are_small xs) h in
    and_from (is_small_kind f.kind) (are_small (xs ++ ys)) parts.0 (small_append xs ys parts.1 k)

-- ---- sources

module _ (before found : List Outcome) where
  abbrev two_sources : Type 0
  two_sources = comes_from_one (before ++ found) ≡ false

  in_before : (o : Outcome) → is_outcome o before ≡ true → is_outcome o (before ++ found) ≡ true
  in_before o h = is_append before found o ∙ or_left (is_outcome o before) (is_outcome o found) h

  in_found : (o : Outcome) → is_outcome o found ≡ true → is_outcome o (before ++ found) ≡ true
  in_found o h = is_append before found o ∙ or_right (is_outcome o before) (is_outcome o found) h

  still_mixed : comes_from_one before ≡ false → comes_from_one (before ++ found) ≡ false
  still_mixed h =
      false_from_ne_true (comes_from_one (before ++ found)) (λ one.
      true≢false (sym ((from_one_is before).1 (λ s l t k a b. (from_one_is (before ++ found)).0 one s l t k (in_before (receives s l) a) (in_before (receives t k) b))) ∙ h))

  apart_mixed : (s l t k : ℕ) → is_outcome (receives s l) found ≡ true → is_outcome (receives t k) (before ++ found) ≡ true → (s ≡ t → ⊥) → two_sources
  apart_mixed s l t k a b ne = false_from_ne_true (comes_from_one (before ++ found)) (λ one. ne ((from_one_is (before ++ found)).0 one s l t k (in_found (receives s l) a) b))

  -- where no receive here is from another source than one before or here, there is one source still
  one_still : comes_from_one before ≡ true → ((s l t k : ℕ) → is_outcome (receives s l) found ≡ true → is_outcome (receives t k) (before ++ found) ≡ true → s ≡ t) → comes_from_one (before ++ found) ≡ true
  one_still one same =
      (from_one_is (before ++ found)).1 (λ s l t k a b.
      elim (or_cases (is_outcome (receives s l) before) (is_outcome (receives s l) found) (sym (is_append before found (receives s l)) ∙ a)) [
        | inr here ↦ same s l t k here b
        | inl there ↦ elim (or_cases (is_outcome (receives t k) before) (is_outcome (receives t k) found) (sym (is_append before found (receives t k)) ∙ b)) [
          | inr here ↦ sym (same t k s l here a)
          | inl also ↦ (from_one_is before).0 one s l t k there also
        ]
      ])

zero_low : (low : ℕ) (n : ℤ) → pos low ≤ℤ n → pos 0 ≤ℤ n
zero_low low n h = omega (arith, ints)

module _ (range : NRange) (roles : List CoreRole) (test : ℤ → ℕ → ℤ → Bool) (before found : ℤ → ℕ → ℤ → List Outcome) (here : List Entry) (left : List Area) (entries : List Entry) (mixed : List Area)
    (is_here : IsHere range roles test found here left) (is_past : IsPast range roles test before entries mixed) where
  -- what entries give to a rank
  here_gives : (n : ℤ) (role : ℕ) (x : ℤ) → IsIn range n → is_rank roles n role x ≡ true → (s l : ℕ) → finds roles here n role x (receives s l) ≡ true → (test n role x ≡ true) × (is_outcome (receives s l) (found n role x) ≡ true)
  here_gives n role x w r s l h = and_parts (test n role x) (is_outcome (receives s l) (found n role x)) (sym (is_here.found n role x (receives s l) w r refl) ∙ h)

  here_given : (n : ℤ) (role : ℕ) (x : ℤ) → IsIn range n → is_rank roles n role x ≡ true → test n role x ≡ true → (s l : ℕ) → is_outcome (receives s l) (found n role x) ≡ true → finds roles here n role x (receives s l) ≡ true
  here_given n role x w r t s l h = is_here.found n role x (receives s l) w r refl ∙ and_from (test n role x) (is_outcome (receives s l) (found n role x)) t h

  past_gives : (n : ℤ) (role : ℕ) (x : ℤ) → IsIn range n → is_rank roles n role x ≡ true → (s l : ℕ) → finds roles entries n role x (receives s l) ≡ true → (test n role x ≡ true) × (is_outcome (receives s l) (before n role x) ≡ true)
  past_gives n role x w r s l h = and_parts (test n role x) (is_outcome (receives s l) (before n role x)) (sym (is_past.found n role x w r s l) ∙ h)

  past_given : (n : ℤ) (role : ℕ) (x : ℤ) → IsIn range n → is_rank roles n role x ≡ true → test n role x ≡ true → (s l : ℕ) → is_outcome (receives s l) (before n role x) ≡ true → finds roles entries n role x (receives s l) ≡ true
  past_given n role x w r t s l h = is_past.found n role x w r s l ∙ and_from (test n role x) (is_outcome (receives s l) (before n role x)) t h

  -- ---- rule 10

  pub are_strange : (areas : List Area) → ((n : ℤ) (role : ℕ) (x : ℤ) → have areas n role x ≡ have left n role x || strange here n role x) →
      Are range roles areas (λ n role x. misses test (before n role x) (found n role x) OnlyReceives n role x)
  are_strange areas e = record {
    is = λ n role x w r.
        strange_bools (have areas n role x) (have left n role x) (strange here n role x) (finds roles here n role x other_first) (finds roles here n role x again_first) (test n role x)
        (is_outcome nothing_first (found n role x)) (is_outcome other_first (found n role x)) (is_outcome again_first (found n role x)) (only_receives (found n role x))
        (e n role x) (is_here.rest.is n role x w r) (strange_is roles n role x here) (is_here.found n role x other_first w r refl) (is_here.found n role x again_first w r refl) (only_receives_is (found n role x));
  }

  -- ---- rule 12

  labels_meet : (n : ℤ) (role : ℕ) (x : ℤ) → IsIn range n → is_rank roles n role x ≡ true → clashes here entries n role x ≡ true → test n role x && not (none_shared (labels_of (found n role x)) (labels_of (before n role x))) ≡ true
  labels_meet n role x w r h =
      let k : Shared roles n role x here entries = clashes_give roles n role x here entries h in
      let a = here_gives n role x w r k.first k.label k.one in
      let b = past_gives n role x w r k.second k.label k.other in
      and_from (test n role x) (not (none_shared (labels_of (found n role x)) (labels_of (before n role x)))) a.0
      (not_false (none_shared (labels_of (found n role x)) (labels_of (before n role x)))
      (λ none. (none_shared_is (labels_of (found n role x)) (labels_of (before n role x))).0 none k.label ((label_is (found n role x) k.label).1 (k.first, a.1)) ((label_is (before n role x) k.label).1 (k.second, b.1))))

  meet_labels : (n : ℤ) (role : ℕ) (x : ℤ) → IsIn range n → is_rank roles n role x ≡ true → test n role x && not (none_shared (labels_of (found n role x)) (labels_of (before n role x))) ≡ true → clashes here entries n role x ≡ true
  meet_labels n role x w r h =
      let parts = and_parts (test n role x) (not (none_shared (labels_of (found n role x)) (labels_of (before n role x)))) h in
      elim (cases_Bool (clashes here entries n role x)) [
        | inl y ↦ y
        | inr z ↦ absurd (from_not (none_shared (labels_of (found n role x)) (labels_of (before n role x))) parts.1
            ((none_shared_is (labels_of (found n role x)) (labels_of (before n role x))).1 (λ l a b.
            let s = (label_is (found n role x) l).0 a in
            let t = (label_is (before n role x) l).0 b in
            true≢false (sym (give_clashes roles n role x here entries
            (record { label = l; first = s.0; second = t.0; one = here_given n role x w r parts.0 s.0 l s.1; other = past_given n role x w r parts.0 t.0 l t.1 })) ∙ z))))
      ]

  pub are_shared : (areas : List Area) → AreWhere areas (clashes here entries) →
      Are range roles areas (λ n role x. misses test (before n role x) (found n role x) OwnLabels n role x)
  are_shared areas e = record {
    is = λ n role x w r. e.is n role x (zero_low range.low n w.low) ∙ both_ways (clashes here entries n role x) (test n role x && not (none_shared (labels_of (found n role x)) (labels_of (before n role x)))) (labels_meet n role x w r) (meet_labels n role x w r);
  }

  -- ---- rule 11

  from_ranks : (n : ℤ) (role : ℕ) (x : ℤ) → IsIn range n → is_rank roles n role x ≡ true → FromRanks roles n role x here
  from_ranks n role x w r s l h = is_here.seated n role x s l w (here_gives n role x w r s l h).1

  forked : (n : ℤ) (role : ℕ) (x : ℤ) → IsIn range n → is_rank roles n role x ≡ true → forks here entries n role x || forks here here n role x ≡ true →
      (test n role x ≡ true) × (comes_from_one (before n role x ++ found n role x) ≡ false)
  forked n role x w r h =
      elim (or_cases (forks here entries n role x) (forks here here n role x) h) [
        | inl y ↦ (let k : Forked roles n role x here entries = forks_give roles n role x here entries (from_ranks n role x w r) y in
            let a = here_gives n role x w r k.first k.label k.one in
            let b = past_gives n role x w r k.second k.other_label k.other in
            (a.0, apart_mixed (before n role x) (found n role x) k.first k.label k.second k.other_label a.1 (in_before (before n role x) (found n role x) (receives k.second k.other_label) b.1) k.apart))
        | inr z ↦ (let k : Forked roles n role x here here = forks_give roles n role x here here (from_ranks n role x w r) z in
            let a = here_gives n role x w r k.first k.label k.one in
            let b = here_gives n role x w r k.second k.other_label k.other in
            (a.0, apart_mixed (before n role x) (found n role x) k.first k.label k.second k.other_label a.1 (in_found (before n role x) (found n role x) (receives k.second k.other_label) b.1) k.apart))
      ]

  same_source : (n : ℤ) (role : ℕ) (x : ℤ) → IsIn range n → is_rank roles n role x ≡ true → test n role x ≡ true → forks here entries n role x || forks here here n role x ≡ false →
      (s l t k : ℕ) → is_outcome (receives s l) (found n role x) ≡ true → is_outcome (receives t k) (before n role x ++ found n role x) ≡ true → s ≡ t
  same_source n role x w r y none s l t k a b =
      elim (cases_Bool (s == t)) [
        | inl e ↦ eqb-true s t e
        | inr ne ↦ absurd (true≢false (sym (elim (or_cases (is_outcome (receives t k) (before n role x)) (is_outcome (receives t k) (found n role x)) (sym (is_append (before n role x) (found n role x) (receives t k)) ∙ b)) [
          | inl c ↦ or_left (forks here entries n role x) (forks here here n role x) (give_forks roles n role x here entries (from_ranks n role x w r)
              (record { first = s; label = l; second = t; other_label = k; one = here_given n role x w r y s l a; other = past_given n role x w r y t k c; apart = differ s t ne }))
          | inr c ↦ or_right (forks here entries n role x) (forks here here n role x) (give_forks roles n role x here here (from_ranks n role x w r)
              (record { first = s; label = l; second = t; other_label = k; one = here_given n role x w r y s l a; other = here_given n role x w r y t k c; apart = differ s t ne }))
        ]) ∙ none))
      ] where
        differ : (p q : ℕ) → (p == q) ≡ false → p ≡ q → ⊥
        differ p q h e = grind (arith, nat_tests)

  forks_if : (n : ℤ) (role : ℕ) (x : ℤ) → IsIn range n → is_rank roles n role x ≡ true → test n role x ≡ true → comes_from_one (before n role x ++ found n role x) ≡ false → comes_from_one (before n role x) ≡ true →
      forks here entries n role x || forks here here n role x ≡ true
  forks_if n role x w r y two one =
      elim (cases_Bool (forks here entries n role x || forks here here n role x)) [
        | inl h ↦ h
        | inr z ↦ absurd (true≢false (sym (one_still (before n role x) (found n role x) one (same_source n role x w r y z)) ∙ two))
      ]

  pub are_split : (areas : List Area) → AreSplit here entries mixed areas → Are range roles areas (λ n role x. misses test (before n role x) (found n role x) OneSource n role x)
  are_split areas e = record {
    is = λ n role x w r.
        split_bools (have areas n role x) (forks here entries n role x || forks here here n role x) (have mixed n role x) (test n role x) (comes_from_one (before n role x)) (comes_from_one (before n role x ++ found n role x))
        (e.is n role x (zero_low range.low n w.low)) (is_past.mixed_is.is n role x w r) (forked n role x w r) (forks_if n role x w r);
  }

  -- ---- what is known behind the branch

  pub past_on : (split now_mixed : List Area) → AreSplit here entries mixed split → ((n : ℤ) (role : ℕ) (x : ℤ) → have now_mixed n role x ≡ have mixed n role x || have split n role x) →
      IsPast range roles test (λ n role x. before n role x ++ found n role x) (entries ++ here) now_mixed
  past_on split now_mixed e add = record {
    small = small_append entries here is_past.small is_here.small;
    found = λ n role x w r s l.
        or_and (finds roles (entries ++ here) n role x (receives s l)) (finds roles entries n role x (receives s l)) (finds roles here n role x (receives s l)) (test n role x)
        (is_outcome (receives s l) (before n role x)) (is_outcome (receives s l) (found n role x)) (is_outcome (receives s l) (before n role x ++ found n role x))
        (finds_append roles entries here n role x (receives s l)) (is_past.found n role x w r s l) (is_here.found n role x (receives s l) w r refl) (is_append (before n role x) (found n role x) (receives s l));
    mixed_is = record {
      is = λ n role x w r.
          mixed_bools (have now_mixed n role x) (have mixed n role x) (have split n role x) (test n role x) (comes_from_one (before n role x)) (comes_from_one (before n role x ++ found n role x))
          (add n role x) (is_past.mixed_is.is n role x w r) ((are_split split e).is n role x w r) (still_mixed (before n role x) (found n role x));
    };
  }

abbrev KeptFor : (range : NRange) (whole areas : List Area) (kept : List CoreRole → (ℤ → ℕ → ℤ → Bool) → Type 0) → Type 0
KeptFor range whole areas kept = (roles : List CoreRole) (bad : ℤ → ℕ → ℤ → Bool) → IsWhole range roles whole → Are range roles areas bad → kept roles bad

pub first_of_rules : (range : NRange) (whole : List Area) (here : List Entry) (left : List Area) (m : Mark) (entries : List Entry) (mixed : List Area) (now : List Entry) (now_mixed : List Area)
    (strange_areas split shared strange_seen split_seen shared_seen : List Area) (old first second new : Option Found) →
    strange_seen ≡ strange_areas → split_seen ≡ split → shared_seen ≡ shared →
    ((n : ℤ) (role : ℕ) (x : ℤ) → have strange_areas n role x ≡ have left n role x || strange here n role x) →
    (are_small here ≡ true → are_small entries ≡ true → AreSplit here entries mixed split) →
    (are_small here ≡ true → are_small entries ≡ true → AreWhere shared (clashes here entries)) →
    KeptFor range whole strange_seen (λ roles bad. Improves (IsFlaw range roles (flaw_at OnlyReceives m bad)) old first) →
    KeptFor range whole split_seen (λ roles bad. Improves (IsFlaw range roles (flaw_at OneSource m bad)) first second) →
    KeptFor range whole shared_seen (λ roles bad. Improves (IsFlaw range roles (flaw_at OwnLabels m bad)) second new) →
    now ≡ entries ++ here → ((n : ℤ) (role : ℕ) (x : ℤ) → have now_mixed n role x ≡ have mixed n role x || have split n role x) →
    FirstOf range whole here left m entries mixed now now_mixed old new
first_of_rules range whole here left m entries mixed now now_mixed strange_areas split shared strange_seen split_seen shared_seen old first second new e1 e2 e3 is_strange is_split is_shared k1 k2 k3 entries_are mixed_are = record {
  is = λ roles test before found is_whole is_here is_past.
      let a : Are range roles strange_seen (λ n role x. misses test (before n role x) (found n role x) OnlyReceives n role x) =
      subst (λ l. Are range roles l (λ n role x. misses test (before n role x) (found n role x) OnlyReceives n role x)) (sym e1) (are_strange range roles test before found here left entries mixed is_here is_past strange_areas is_strange) in
      let b : Are range roles split_seen (λ n role x. misses test (before n role x) (found n role x) OneSource n role x) =
      subst (λ l. Are range roles l (λ n role x. misses test (before n role x) (found n role x) OneSource n role x)) (sym e2) (are_split range roles test before found here left entries mixed is_here is_past split (is_split is_here.small is_past.small)) in
      let c : Are range roles shared_seen (λ n role x. misses test (before n role x) (found n role x) OwnLabels n role x) =
      subst (λ l. Are range roles l (λ n role x. misses test (before n role x) (found n role x) OwnLabels n role x)) (sym e3) (are_shared range roles test before found here left entries mixed is_here is_past shared (is_shared is_here.small is_past.small)) in
      improves_both range roles (flaw_at OnlyReceives m (λ n role x. misses test (before n role x) (found n role x) OnlyReceives n role x))
      (both (flaw_at OneSource m (λ n role x. misses test (before n role x) (found n role x) OneSource n role x)) (flaw_at OwnLabels m (λ n role x. misses test (before n role x) (found n role x) OwnLabels n role x)))
      (of_rules m (λ k n role x. misses test (before n role x) (found n role x) k n role x)) old first new
      (rules_parts m (λ k n role x. misses test (before n role x) (found n role x) k n role x))
      (k1 roles (λ n role x. misses test (before n role x) (found n role x) OnlyReceives n role x) is_whole a)
      (improves_both range roles (flaw_at OneSource m (λ n role x. misses test (before n role x) (found n role x) OneSource n role x)) (flaw_at OwnLabels m (λ n role x. misses test (before n role x) (found n role x) OwnLabels n role x))
      (both (flaw_at OneSource m (λ n role x. misses test (before n role x) (found n role x) OneSource n role x)) (flaw_at OwnLabels m (λ n role x. misses test (before n role x) (found n role x) OwnLabels n role x))) first second new
      (record { lone = λ n. refl; told = λ k n role x. refl })
      (k2 roles (λ n role x. misses test (before n role x) (found n role x) OneSource n role x) is_whole b)
      (k3 roles (λ n role x. misses test (before n role x) (found n role x) OwnLabels n role x) is_whole c));
  past = λ roles test before found is_whole is_here is_past.
      subst (λ z. IsPast range roles test (λ n role x. before n role x ++ found n role x) z now_mixed) (sym entries_are)
      (past_on range roles test before found here left entries mixed is_here is_past split now_mixed (is_split is_here.small is_past.small) mixed_are);
}
