-- The actions of each rank up to a place, and the last time of each rank.
use Rattle.std.proofs.Common.{◌≡◌, ℕ, ◌+◌, ◌<◌, ◌≤◌, Bool, true, false, List, length, Option, Some, None, if◌then◌else◌, nat_eq, refl, sym, ap, subst, ◌∙◌, arith, eqb-true, eq-eqb}
use Rattle.std.specs.Prelude.{slice_get, slice_index}
use Rattle.pb_draw_log.specs.declared.entry.Entry.{Entry}
use Rattle.pb_draw_times.specs.Ascents.{AscendBelow, StepsUp, StepsAt}

-- each rank that has an action has a last time, and none of its times is above it
pub record IsNoted (times : List ℕ) (last : ℕ → Option ℕ) (place rank : ℕ) : Type 0 where
  pub time : ℕ
  pub is : last rank ≡ Some time
  pub most : slice_index times place ≤ time

abbrev pub AreNoted : List Entry → List ℕ → (ℕ → Option ℕ) → ℕ → Type 0
AreNoted entries times last end = (i : ℕ) (a : Entry) → i < end → slice_get entries i ≡ Some a → IsNoted times last i a.step.rank

pub none_below : (entries : List Entry) (times : List ℕ) → AscendBelow entries times 0
none_below entries times = λ i j a b lt within ea eb same. absurd (omega (arith, within))

pub none_noted : (entries : List Entry) (times : List ℕ) (last : ℕ → Option ℕ) → AreNoted entries times last 0
none_noted entries times last = λ i a within ea. absurd (omega (arith, within))

abbrev entry_or : Entry → Option Entry → Entry
entry_or a None = a
entry_or a (Some b) = b

one_entry : (o : Option Entry) (a b : Entry) → o ≡ Some a → o ≡ Some b → a ≡ b
one_entry o a b e f = ap (entry_or a) (sym e ∙ f)

other_place : (j place : ℕ) → nat_eq j place ≡ false → j < place + 1 → j < place
other_place j place e lt = omega (arith, lt, apart) where
  apart : j ≡ place → ⊥
  apart same = let t : nat_eq j place ≡ true = eq-eqb j place same in absurd cc

behind_last : (entries : List Entry) (times : List ℕ) (last new : ℕ → Option ℕ) (place i : ℕ) (entry a b : Entry) → AreNoted entries times last place
    → slice_get entries place ≡ Some entry → StepsUp last new entry.step.rank (slice_index times place) → i < place → slice_get entries i ≡ Some a
    → slice_get entries place ≡ Some b → a.step.rank ≡ b.step.rank → slice_index times i < slice_index times place
behind_last entries times last new place i entry a b noted here up lt ea eb same =
    let n = noted i a lt ea in
    let e : b ≡ entry = one_entry (slice_get entries place) b entry eb here in
    let r : a.step.rank ≡ entry.step.rank = same ∙ ap (λ x. x.step.rank) e in
    let found : last entry.step.rank ≡ Some n.time = subst (λ q. last q ≡ Some n.time) r n.is in
    omega (arith, n.most, up.behind n.time found)

pub more_below : (entries : List Entry) (times : List ℕ) (last new : ℕ → Option ℕ) (place : ℕ) (entry : Entry) → AscendBelow entries times place
    → AreNoted entries times last place → slice_get entries place ≡ Some entry → StepsUp last new entry.step.rank (slice_index times place) → AscendBelow entries times (place + 1)
more_below entries times last new place entry below noted here up = λ i j a b lt within ea eb same. go i j a b lt within ea eb same (nat_eq j place) refl
  where
    go : (i j : ℕ) (a b : Entry) → i < j → j < place + 1 → slice_get entries i ≡ Some a → slice_get entries j ≡ Some b → a.step.rank ≡ b.step.rank
        → (x : Bool) → nat_eq j place ≡ x → slice_index times i < slice_index times j
    go i j a b lt within ea eb same false e = below i j a b lt (other_place j place e within) ea eb same
    go i j a b lt within ea eb same true e =
        let k : j ≡ place = eqb-true j place e in
        let l : i < place = omega (arith, lt, k) in
        let f : slice_get entries place ≡ Some b = subst (λ n. slice_get entries n ≡ Some b) k eb in
        subst (λ n. slice_index times i < slice_index times n) (sym k) (behind_last entries times last new place i entry a b noted here up l ea f same)

noted_on : (times : List ℕ) (last new : ℕ → Option ℕ) (i rank other time : ℕ) → StepsUp last new other time → IsNoted times last i rank → (x : Bool) → nat_eq rank other ≡ x → IsNoted times new i rank
noted_on times last new i rank other time up n false e =
    let is : new rank ≡ last rank = up.noted rank ∙ ap (λ b. if b then Some time else last rank) e in
    record { time = n.time; is = is ∙ n.is; most = n.most }
noted_on times last new i rank other time up n true e =
    let is : new rank ≡ Some time = up.noted rank ∙ ap (λ b. if b then Some time else last rank) e in
    let k : rank ≡ other = eqb-true rank other e in
    let found : last other ≡ Some n.time = subst (λ q. last q ≡ Some n.time) k n.is in
    record { time = time; is = is; most = omega (arith, n.most, up.behind n.time found) }

noted_here : (times : List ℕ) (last new : ℕ → Option ℕ) (place rank : ℕ) → StepsUp last new rank (slice_index times place) → IsNoted times new place rank
noted_here times last new place rank up = record {
  time = slice_index times place;
  is = up.noted rank ∙ ap (λ b. if b then Some (slice_index times place) else last rank) (eq-eqb rank rank refl);
  most = omega arith;
}

pub more_noted : (entries : List Entry) (times : List ℕ) (last new : ℕ → Option ℕ) (place : ℕ) (entry : Entry) → AreNoted entries times last place
    → slice_get entries place ≡ Some entry → StepsUp last new entry.step.rank (slice_index times place) → AreNoted entries times new (place + 1)
more_noted entries times last new place entry noted here up = λ i a within ea. go i a within ea (nat_eq i place) refl
  where
    go : (i : ℕ) (a : Entry) → i < place + 1 → slice_get entries i ≡ Some a → (x : Bool) → nat_eq i place ≡ x → IsNoted times new i a.step.rank
    go i a within ea false e =
        noted_on times last new i a.step.rank entry.step.rank (slice_index times place) up (noted i a (other_place i place e within) ea) (nat_eq a.step.rank entry.step.rank) refl
    go i a within ea true e =
        let k : i ≡ place = eqb-true i place e in
        let f : slice_get entries place ≡ Some a = subst (λ n. slice_get entries n ≡ Some a) k ea in
        let same : a ≡ entry = one_entry (slice_get entries place) a entry f here in
        subst (λ n. IsNoted times new n a.step.rank) (sym k) (subst (λ (x : Entry). IsNoted times new place x.step.rank) (sym same) (noted_here times last new place entry.step.rank up))

-- what holds of the actions up to a place, and of the last times
pub record AreRanked (entries : List Entry) (times : List ℕ) (last : ℕ → Option ℕ) (place : ℕ) : Type 0 where
  pub below : AscendBelow entries times place
  pub noted : AreNoted entries times last place

pub none_ranked : (entries : List Entry) (times : List ℕ) (last : ℕ → Option ℕ) → AreRanked entries times last 0
none_ranked entries times last = record { below = none_below entries times; noted = none_noted entries times last }

pub more_ranked : (entries : List Entry) (times : List ℕ) (last new : ℕ → Option ℕ) (place : ℕ) → AreRanked entries times last place → StepsAt entries times last new place
    → AreRanked entries times new (place + 1)
more_ranked entries times last new place ranked steps = record {
  below = more_below entries times last new place steps.entry ranked.below ranked.noted steps.is steps.up;
  noted = more_noted entries times last new place steps.entry ranked.noted steps.is steps.up;
}

pub all_ranked : (entries : List Entry) (times : List ℕ) (last : ℕ → Option ℕ) (place : ℕ) → AreRanked entries times last place → AscendBelow entries times place
all_ranked entries times last place ranked = ranked.below
