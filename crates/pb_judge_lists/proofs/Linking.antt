-- Linking the entries of a log, from its end on.
use Rattle.std.proofs.Common.{◌≡◌, ◌≢◌, ℕ, zero, suc, ◌+◌, ◌-◌, ◌<◌, ◌≤◌, cond, false, ◌⊎◌, inl, inr, List, [], ◌∷◌, length, drop, get_or, set, replicate, slice_get, Option, Some, refl, sym, ap, subst, ◌∙◌, arith, length-set, get_or-set_same, get_or-set_other}
use Rattle.std.proofs.lemmas.Bool.{eq-eqb}
use Rattle.std.proofs.lemmas.Option.{slice_get_within, slice_get_cases}
use Rattle.pb_text.specs.declared.action.Action.{Action}
use Rattle.pb_world.specs.Log.{rank_of}
use Rattle.pb_world.proofs.Lists.{eqb_cases, not_eqb}
use Rattle.pb_judge_ruling.specs.Ruling.{entries_of}
use Rattle.pb_judge_ruling.specs.Laws.{HasRanks}
use Rattle.pb_judge_follow.specs.Follow.{all_of}
use Rattle.pb_judge_lists.specs.Places.{left_of, IsNext, AreLinked, count, AreKept}

-- ---- a place in a list

pub drop_some : {A : Type 0} (xs : List A) (k : ℕ) (x : A) → slice_get xs k ≡ Some x → drop k xs ≡ x ∷ drop (suc k) xs
drop_some [] k x h = absurd cc
drop_some (y ∷ xs) zero x h = let e : y ≡ x = cc in ap (λ z. z ∷ xs) e
drop_some (y ∷ xs) (suc k) x h = drop_some xs k x h

pub drop_past : {A : Type 0} (xs : List A) (k : ℕ) → length xs ≤ k → drop k xs ≡ []
drop_past [] zero h = refl
drop_past [] (suc k) h = refl
drop_past (x ∷ xs) zero h = absurd (omega (arith, h))
drop_past (x ∷ xs) (suc k) h = drop_past xs k (omega (arith, h))

pub there : {A : Type 0} (xs : List A) (k : ℕ) → k < length xs → (x : A) × (slice_get xs k ≡ Some x)
there xs k lt = elim (slice_get_cases xs k).1 [ inl h ↦ (h.0, h.2) | inr h ↦ absurd (let le = h.0 in omega (arith, lt, le)) ]

pub get_past : (xs : List ℕ) (k d : ℕ) → length xs ≤ k → get_or xs k d ≡ d
get_past [] zero d h = refl
get_past [] (suc k) d h = refl
get_past (x ∷ xs) zero d h = absurd (omega (arith, h))
get_past (x ∷ xs) (suc k) d h = get_past xs k d (omega (arith, h))

pub got : {A : Type 0} (xs : List A) (k : ℕ) (x : A) → k < length xs → x ≡ get_or xs k x → slice_get xs k ≡ Some x
got [] k x lt h = absurd (omega (arith, lt))
got (y ∷ xs) zero x lt h = ap Some (sym h)
got (y ∷ xs) (suc k) x lt h = got xs k x (omega (arith, lt)) h

-- ---- entries of one rank

pub own_first : (r : ℕ) (e : ℕ × Action) (log : List (ℕ × Action)) → rank_of e.1 ≡ r → entries_of r (e ∷ log) ≡ e ∷ entries_of r log
own_first r e log h = ap (λ b. cond b (e ∷ entries_of r log) (entries_of r log)) (eq-eqb (rank_of e.1) r h)

pub other_first : (r : ℕ) (e : ℕ × Action) (log : List (ℕ × Action)) → rank_of e.1 ≢ r → entries_of r (e ∷ log) ≡ entries_of r log
other_first r e log h = ap (λ b. cond b (e ∷ entries_of r log) (entries_of r log)) (not_eqb (rank_of e.1) r h)

pub from_place : (r q : ℕ) (e : ℕ × Action) (log : List (ℕ × Action)) → slice_get log q ≡ Some e → rank_of e.1 ≡ r → entries_of r (drop q log) ≡ e ∷ entries_of r (drop (q + 1) log)
from_place r q e log h own =
    let one : q + 1 ≡ suc q = omega arith in
    ap (entries_of r) (drop_some log q e h) ∙ own_first r e (drop (suc q) log) own ∙ ap (λ k. e ∷ entries_of r (drop k log)) (sym one)

pub past_place : (r q : ℕ) (log : List (ℕ × Action)) → length log ≤ q → entries_of r (drop q log) ≡ []
past_place r q log h = ap (entries_of r) (drop_past log q h)

-- ---- one more entry

module _ (log : List (ℕ × Action)) (k at : ℕ) (e : ℕ × Action) (next after : List ℕ) (is : k ≡ at + 1) (here : slice_get log at ≡ Some e) (few : rank_of e.1 < length next) (long : length after ≡ length log) (h : AreLinked log k next after) where
  abbrev rank : ℕ
  rank = rank_of e.1

  abbrev new_next : List ℕ
  new_next = set next rank at

  abbrev new_after : List ℕ
  new_after = set after at (get_or next rank (length log))

  skips : (r : ℕ) → r < length next → rank ≢ r → IsNext log r at (get_or next r (length log))
  skips r lt apart =
      let old = h.nexts r lt in
      let one : k ≡ suc at = omega (arith, is) in
      record { own = old.own; first = old.first ∙ ap (λ j. entries_of r (drop j log)) one ∙ sym (ap (entries_of r) (drop_some log at e here) ∙ other_first r e (drop (suc at) log) apart) }

  nexts : (r : ℕ) → r < length new_next → IsNext log r at (get_or new_next r (length log))
  nexts r lt =
      let size = length-set next rank at in
      let lt' : r < length next = omega (arith, lt, size) in
      elim (eqb_cases rank r) [
        | inl t ↦ subst (λ q. IsNext log r at q) (sym (ap (λ j. get_or new_next j (length log)) (sym t.0) ∙ get_or-set_same next rank at (length log) few))
            (record { own = λ x i. (let same : e ≡ x = some (sym here ∙ i) in ap (λ (y : ℕ × Action). rank_of y.1) (sym same) ∙ t.0); first = refl })
        | inr t ↦ subst (λ q. IsNext log r at q) (sym (get_or-set_other next rank r at (length log) (λ z. t.0 (sym z)))) (skips r lt' t.0)
      ]
    where
      some : {u v : ℕ × Action} → ◌≡◌ {A = Option (ℕ × Action)} (Some u) (Some v) → u ≡ v
      some z = cc

  afters : (q : ℕ) (x : ℕ × Action) → at ≤ q → slice_get log q ≡ Some x → IsNext log (rank_of x.1) (q + 1) (get_or new_after q (length log))
  afters q x le i = elim (eqb_cases q at) [
    | inl t ↦ (let same : e ≡ x = some (sym here ∙ ap (slice_get log) (sym t.0) ∙ i) in
        let inside = slice_get_within log at e here in
        let value : get_or new_after q (length log) ≡ get_or next rank (length log) = ap (λ j. get_or new_after j (length log)) t.0 ∙ get_or-set_same after at (get_or next rank (length log)) (length log) (omega (arith, inside, long)) in
        let place : k ≡ q + 1 = omega (arith, is, t.0) in
        subst (λ y. IsNext log (rank_of y.1) (q + 1) (get_or new_after q (length log))) same
        (subst (λ v. IsNext log rank (q + 1) v) (sym value) (subst (λ j. IsNext log rank j (get_or next rank (length log))) place (h.nexts rank few))))
    | inr t ↦ (let apart = t.0 in
        let behind : k ≤ q = grind (arith, is, le, apart) in
        subst (λ v. IsNext log (rank_of x.1) (q + 1) v) (sym (get_or-set_other after at q (get_or next rank (length log)) (length log) apart)) (h.afters q x behind i))
  ] where
    some : {u v : ℕ × Action} → ◌≡◌ {A = Option (ℕ × Action)} (Some u) (Some v) → u ≡ v
    some z = cc

  pub linked_more : AreLinked log at new_next new_after
  linked_more = record { nexts = nexts; afters = afters }

-- ---- at first nothing is linked

get_none : (many r d : ℕ) → get_or (replicate many d) r d ≡ d
get_none zero zero d = refl
get_none zero (suc r) d = refl
get_none (suc many) zero d = refl
get_none (suc many) (suc r) d = get_none many r d

pub linked_none : (log : List (ℕ × Action)) (next after : List ℕ) → next ≡ replicate (length next) (length log) → AreLinked log (length log) next after
linked_none log next after h = record {
  nexts = λ r lt. (let e : get_or next r (length log) ≡ length log = ap (λ l. get_or l r (length log)) h ∙ get_none (length next) r (length log) in
      record {
        own = λ x i. (let within = slice_get_within log _ x i in absurd (omega (arith, within, e)));
        first = ap (λ q. entries_of r (drop q log)) e;
      });
  afters = λ q x le i. (let within = slice_get_within log q x i in absurd (omega (arith, within, le)));
}

-- ---- the ranks of a log

pub rank_within : (total : ℕ) (log : List (ℕ × Action)) (k : ℕ) (e : ℕ × Action) → HasRanks total log → slice_get log k ≡ Some e → rank_of e.1 < total
rank_within total [] k e h i = absurd cc
rank_within total (x ∷ log) zero e h i = let same : x ≡ e = some i in subst (λ y. rank_of y.1 < total) same h.0
  where
    some : {u v : ℕ × Action} → ◌≡◌ {A = Option (ℕ × Action)} (Some u) (Some v) → u ≡ v
    some z = cc
rank_within total (x ∷ log) (suc k) e h i = rank_within total log k e h.1 i

none_of : (total r : ℕ) (log : List (ℕ × Action)) → total ≤ r → HasRanks total log → entries_of r log ≡ []
none_of total r [] le h = refl
none_of total r (e ∷ log) le h =
    let lt : rank_of e.1 < total = h.0 in
    other_first r e log (λ z. absurd (omega (arith, lt, le, z))) ∙ none_of total r log le h.1

count_same : (n : ℕ) (f g : ℕ → List (ℕ × Action)) → ((r : ℕ) → r < n → length (f r) ≡ length (g r)) → count n f ≡ count n g
count_same zero f g h = refl
count_same (suc n) f g h = let a = count_same n f g (λ r lt. h r (omega (arith, lt))) in let b = h n (omega arith) in omega (arith, a, b)

pub count_more : (n rank : ℕ) (f g : ℕ → List (ℕ × Action)) → rank < n → length (f rank) ≡ suc (length (g rank)) → ((r : ℕ) → r ≢ rank → length (f r) ≡ length (g r)) → count n f ≡ suc (count n g)
count_more zero rank f g lt h others = absurd (omega (arith, lt))
count_more (suc n) rank f g lt h others = elim (eqb_cases n rank) [
  | inl t ↦ (let a = count_same n f g (λ r less. others r (λ z. absurd (let u = t.0 in omega (arith, less, u, z)))) in
      let b : length (f n) ≡ suc (length (g n)) = subst (λ q. length (f q) ≡ suc (length (g q))) (sym t.0) h in omega (arith, a, b))
  | inr t ↦ (let apart = t.0 in
      let less : rank < n = grind (arith, lt, apart) in
      let a = count_more n rank f g less h others in
      let b = others n apart in omega (arith, a, b))
]

count_none : (n : ℕ) → count n (λ r. []) ≡ 0
count_none zero = refl
count_none (suc n) = let a = count_none n in omega (arith, a)

pub count_all : (total : ℕ) (log : List (ℕ × Action)) → HasRanks total log → count total (λ r. entries_of r log) ≡ length log
count_all total [] h = count_none total
count_all total (e ∷ log) h =
    count_more total (rank_of e.1) (λ r. entries_of r (e ∷ log)) (λ r. entries_of r log) h.0 (ap length (own_first (rank_of e.1) e log refl)) (λ r apart. ap length (other_first r e log (λ z. apart (sym z)))) ∙ ap suc (count_all total log h.1)

-- ---- what is left at first

pub left_first : (total : ℕ) (log : List (ℕ × Action)) (next after : List ℕ) → length next ≡ total → HasRanks total log → AreLinked log 0 next after → left_of (record { log = log; next = next; after = after; total = total; used = 0; owes = false }) ≡ all_of log
left_first total log next after size ranks h = λ i. record { entries = λ r. at r i; used = 0; owes = false }
  where
    at : (r : ℕ) → entries_of r (drop (get_or next r (length log)) log) ≡ entries_of r log
    at r = go (lt_or r (length next))
      where
        lt_or : (a b : ℕ) → (a < b) ⊎ (b ≤ a)
        lt_or a b = grind arith

        go : (r < length next) ⊎ (length next ≤ r) → entries_of r (drop (get_or next r (length log)) log) ≡ entries_of r log
        go (inl lt) = (h.nexts r lt).first
        go (inr le) = past_place r (get_or next r (length log)) log (let e = get_past next r (length log) le in omega (arith, e)) ∙ sym (none_of total r log (omega (arith, size, le)) ranks)

pub kept_first : (total : ℕ) (log : List (ℕ × Action)) (next after : List ℕ) → length next ≡ total → HasRanks total log → AreLinked log 0 next after → AreKept (record { log = log; next = next; after = after; total = total; used = 0; owes = false })
kept_first total log next after size ranks h = record {
  sized = size;
  own = λ r e lt i. (h.nexts r lt).own e i;
  afters = λ q e i. h.afters q e (omega arith) i;
  used = (let c = ap (λ l. count (length next) l.entries) (left_first total log next after size ranks h) in
      let d = ap (λ n. count n (λ r. entries_of r log)) size in
      let a = count_all total log ranks in omega (arith, c, d, a));
}

pub got_or : {A : Type 0} (xs : List A) (k : ℕ) (d : A) → k < length xs → slice_get xs k ≡ Some (get_or xs k d)
got_or [] k d lt = absurd (omega (arith, lt))
got_or (x ∷ xs) zero d lt = refl
got_or (x ∷ xs) (suc k) d lt = got_or xs k d (omega (arith, lt))

any_default : (xs : List ℕ) (r a b : ℕ) → r < length xs → get_or xs r a ≡ get_or xs r b
any_default [] r a b less = absurd (omega (arith, less))
any_default (x ∷ xs) zero a b less = refl
any_default (x ∷ xs) (suc r) a b less = any_default xs r a b (omega (arith, less))

-- one step of linking, as a loop makes it
pub linked_step : (log : List (ℕ × Action)) (total k rank : ℕ) (d : ℕ × Action) (next after : List ℕ) → 0 < k → k ≤ length log → rank ≡ rank_of (get_or log (k - 1) d).1 → length next ≡ total → HasRanks total log → length after ≡ length log →
    AreLinked log k next after → AreLinked log (k - 1) (set next rank (k - 1)) (set after (k - 1) (get_or next rank 0))
linked_step log total k rank d next after some most own size ranks long h =
    let at = k - 1 in
    let e = get_or log at d in
    let here : slice_get log at ≡ Some e = got_or log at d (omega (arith, some, most)) in
    let within = rank_within total log at e ranks here in
    let few : rank_of e.1 < length next = omega (arith, within, size) in
    let few' : rank < length next = omega (arith, few, own) in
    let value : get_or next rank 0 ≡ get_or next (rank_of e.1) (length log) = any_default next rank 0 (length log) few' ∙ ap (λ r. get_or next r (length log)) own in
    subst (λ r. AreLinked log at (set next r at) (set after at (get_or next rank 0))) (sym own)
    (subst (λ v. AreLinked log at (set next (rank_of e.1) at) (set after at v)) (sym value)
    (linked_more log k at e next after (omega (arith, some)) here few long h))
