-- A rank that passes its first entry.
use Rattle.std.proofs.Common.{◌≡◌, ◌≢◌, ℕ, suc, ◌+◌, ◌<◌, ◌≤◌, cond, Bool, true, false, ◌||◌, ◌⊎◌, inl, inr, List, [], ◌∷◌, length, drop, get_or, set, slice_get, Some, refl, sym, ap, subst, ◌∙◌, arith, length-set, get_or-set_same, get_or-set_other}
use Rattle.std.proofs.lemmas.Option.{slice_get_within}
use Rattle.pb_text.specs.declared.action.Action.{Action}
use Rattle.pb_world.specs.Log.{rank_of}
use Rattle.pb_world.specs.Sequencer.{behind_first}
use Rattle.pb_world.proofs.Lists.{eqb_cases}
use Rattle.pb_judge_ruling.specs.Ruling.{entries_of}
use Rattle.pb_judge_follow.specs.Follow.{Left, is_none, passed_by, IsLeastLeft, IsUsedUp}
use Rattle.pb_judge_lists.specs.Places.{Places, left_of, Begins, IsNext, count, AreKept}
use Rattle.pb_judge_lists.proofs.Linking.{there, get_past, from_place, past_place, count_more}

-- the place of a rank that isn't there is behind the log
pub within : (next : List ℕ) (r none : ℕ) → get_or next r none < none → r < length next
within next r none lt = go (lt_or r (length next))
  where
    lt_or : (a b : ℕ) → (a < b) ⊎ (b ≤ a)
    lt_or a b = grind arith

    go : (r < length next) ⊎ (length next ≤ r) → r < length next
    go (inl h) = h
    go (inr le) = absurd (let e = get_past next r none le in omega (arith, e, lt))

or_false : (b : Bool) → b ≡ b || false
or_false true = refl
or_false false = refl

or_true : (b : Bool) → true ≡ b || true
or_true true = refl
or_true false = refl

module _ (p : Places) (kept : AreKept p) (rank at : ℕ) (is : at ≡ get_or p.next rank (length p.log)) where
  abbrev left : Left
  left = left_of p

  begins_at : (e : ℕ × Action) → slice_get p.log at ≡ Some e → left.entries rank ≡ e ∷ entries_of rank (drop (at + 1) p.log)
  begins_at e here =
      let lt = slice_get_within p.log at e here in
      let inside = within p.next rank (length p.log) (omega (arith, lt, is)) in
      ap (λ q. entries_of rank (drop q p.log)) (sym is) ∙ from_place rank at e p.log here (kept.own rank e inside (ap (slice_get p.log) (sym is) ∙ here))

  pub begins : (e : ℕ × Action) → slice_get p.log at ≡ Some e → Begins (left.entries rank) e
  begins e here = (entries_of rank (drop (at + 1) p.log), begins_at e here)

  pub none_begins : length p.log ≤ at → left.entries rank ≡ []
  none_begins le = ap (λ q. entries_of rank (drop q p.log)) (sym is) ∙ past_place rank at p.log le

  -- ---- none is left

  module _ (le : length p.log ≤ at) where
    abbrev owing : Places
    owing = record { log = p.log; next = p.next; after = p.after; total = p.total; used = p.used; owes = true }

    entries_owing : (r : ℕ) → left.entries r ≡ (passed_by rank left).entries r
    entries_owing r = elim (eqb_cases rank r) [
      | inl t ↦ (let none : left.entries r ≡ [] = subst (λ q. left.entries q ≡ []) t.0 (none_begins le) in
          none ∙ sym (ap behind_first none) ∙ sym (ap (λ b. cond b (behind_first (left.entries r)) (left.entries r)) t.1))
      | inr t ↦ sym (ap (λ b. cond b (behind_first (left.entries r)) (left.entries r)) t.1)
    ]

    used_owing : p.used ≡ p.used + cond (is_none (left.entries rank)) 0 1
    used_owing = let z : p.used ≡ p.used + 0 = omega arith in z ∙ sym (ap (λ es. p.used + cond (is_none es) 0 1) (none_begins le))

    owes_owing : true ≡ p.owes || is_none (left.entries rank)
    owes_owing = or_true p.owes ∙ sym (ap (λ es. p.owes || is_none es) (none_begins le))

    pub left_owing : left_of owing ≡ passed_by rank left
    left_owing = λ i. record { entries = λ r. entries_owing r i; used = used_owing i; owes = owes_owing i }

    pub kept_owing : AreKept owing
    kept_owing = record { sized = kept.sized; own = kept.own; afters = kept.afters; used = kept.used }

  -- ---- one is left

  module _ (q : ℕ) (lt : at < length p.log) (link : q ≡ get_or p.after at (length p.log)) where
    abbrev entry : ℕ × Action
    entry = (there p.log at lt).0

    abbrev here : slice_get p.log at ≡ Some entry
    here = (there p.log at lt).1

    abbrev further : Places
    further = record { log = p.log; next = set p.next rank q; after = p.after; total = p.total; used = p.used + 1; owes = p.owes }

    pub inside : rank < length p.next
    inside = within p.next rank (length p.log) (omega (arith, lt, is))

    own : rank_of entry.1 ≡ rank
    own = kept.own rank entry inside (ap (slice_get p.log) (sym is) ∙ here)

    next_is : IsNext p.log rank (at + 1) q
    next_is = subst (λ r. IsNext p.log r (at + 1) q) own (subst (λ v. IsNext p.log (rank_of entry.1) (at + 1) v) (sym link) (kept.afters at entry here))

    at_rank : get_or (set p.next rank q) rank (length p.log) ≡ q
    at_rank = get_or-set_same p.next rank q (length p.log) inside

    at_other : (r : ℕ) → r ≢ rank → get_or (set p.next rank q) r (length p.log) ≡ get_or p.next r (length p.log)
    at_other r apart = get_or-set_other p.next rank r q (length p.log) apart

    entries_rank : (left_of further).entries rank ≡ behind_first (left.entries rank)
    entries_rank = ap (λ k. entries_of rank (drop k p.log)) at_rank ∙ next_is.first ∙ sym (ap behind_first (begins_at entry here))

    entries_other : (r : ℕ) → r ≢ rank → (left_of further).entries r ≡ left.entries r
    entries_other r apart = ap (λ k. entries_of r (drop k p.log)) (at_other r apart)

    entries_further : (r : ℕ) → (left_of further).entries r ≡ (passed_by rank left).entries r
    entries_further r = elim (eqb_cases rank r) [
      | inl t ↦ subst (λ x. (left_of further).entries x ≡ behind_first (left.entries x)) t.0 entries_rank ∙ sym (ap (λ b. cond b (behind_first (left.entries r)) (left.entries r)) t.1)
      | inr t ↦ entries_other r (λ z. t.0 (sym z)) ∙ sym (ap (λ b. cond b (behind_first (left.entries r)) (left.entries r)) t.1)
    ]

    used_further : p.used + 1 ≡ p.used + cond (is_none (left.entries rank)) 0 1
    used_further = sym (ap (λ es. p.used + cond (is_none es) 0 1) (begins_at entry here))

    owes_further : p.owes ≡ p.owes || is_none (left.entries rank)
    owes_further = or_false p.owes ∙ sym (ap (λ es. p.owes || is_none es) (begins_at entry here))

    pub left_further : left_of further ≡ passed_by rank left
    left_further = λ i. record { entries = λ r. entries_further r i; used = used_further i; owes = owes_further i }

    own_further : (r : ℕ) (e : ℕ × Action) → r < length (set p.next rank q) → slice_get p.log (get_or (set p.next rank q) r (length p.log)) ≡ Some e → rank_of e.1 ≡ r
    own_further r e less h = elim (eqb_cases r rank) [
      | inl t ↦ next_is.own e (ap (slice_get p.log) (sym at_rank ∙ ap (λ x. get_or (set p.next rank q) x (length p.log)) (sym t.0)) ∙ h) ∙ sym t.0
      | inr t ↦ (let size = length-set p.next rank q in kept.own r e (omega (arith, less, size)) (ap (slice_get p.log) (sym (at_other r t.0)) ∙ h))
    ]

    counts : count (length p.next) left.entries ≡ suc (count (length p.next) (left_of further).entries)
    counts =
        count_more (length p.next) rank left.entries (left_of further).entries inside
        (ap length (begins_at entry here) ∙ ap suc (sym (ap length (entries_rank ∙ ap behind_first (begins_at entry here)))))
        (λ r apart. ap length (sym (entries_other r apart)))

    pub few_used : p.used < length p.log
    few_used = let c = counts in let k = kept.used in omega (arith, c, k)

    pub kept_further : AreKept further
    kept_further = record {
      sized = length-set p.next rank q ∙ kept.sized;
      own = own_further;
      afters = kept.afters;
      used = (let c = counts in
          let k = kept.used in
          let size = ap (λ n. count n (left_of further).entries) (length-set p.next rank q) in omega (arith, c, k, size));
    }

-- ---- what is left over

pub used_up : (p : Places) → AreKept p → ((r : ℕ) → r < p.total → (left_of p).entries r ≡ []) → IsUsedUp (left_of p)
used_up p kept h r = go (lt_or r p.total)
  where
    lt_or : (a b : ℕ) → (a < b) ⊎ (b ≤ a)
    lt_or a b = grind arith

    go : (r < p.total) ⊎ (p.total ≤ r) → (left_of p).entries r ≡ []
    go (inl lt) = h r lt
    go (inr le) = past_place r (get_or p.next r (length p.log)) p.log (let size = kept.sized in let e = get_past p.next r (length p.log) (omega (arith, le, size)) in omega (arith, e))

pub least_left : (left : Left) (r line : ℕ) (e : ℕ × Action) → Begins (left.entries r) e → line ≡ e.0 → ((q : ℕ) → q < r → left.entries q ≡ []) → IsLeastLeft left r line
least_left l r line e b is least = record { entry = e.1; entries = b.0; is = b.1 ∙ ap (with_line e.1 b.0) (sym is); least = least }
  where
    with_line : Action → List (ℕ × Action) → ℕ → List (ℕ × Action)
    with_line a others n = (n, a) ∷ others

-- one more rank has none
pub none_more : (left : Left) (r : ℕ) → ((q : ℕ) → q < r → left.entries q ≡ []) → left.entries r ≡ [] → (q : ℕ) → q < r + 1 → left.entries q ≡ []
none_more l r h none q lt = elim (eqb_cases q r) [ inl t ↦ subst (λ x. l.entries x ≡ []) (sym t.0) none | inr t ↦ (let apart = t.0 in h q (grind (arith, lt, apart))) ]
