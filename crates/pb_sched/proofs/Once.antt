-- Bytes have one outcome.
use Rattle.std.proofs.Common.{◌≡◌, ◌≢◌, ◌⊎◌, inl, inr, ℕ, suc, ◌+◌, ◌≤◌, Bool, true, false, List, [], ◌∷◌, ◌++◌, length, Option, Some, None, Result, Ok, Err, refl, sym, ap, ap₂, subst, ◌∙◌, append_assoc, arith}
use Rattle.std.specs.Prelude.{is_some, IfOk, IfErr}
use Rattle.std.specs.List.{AllByRecursion, flat_map}
use Rattle.pb_sched.specs.declared.fault.ScheduleFault.{ScheduleFault}
use Rattle.pb_sched.specs.declared.fault.ScheduleFault.TheVariants.{BadLine, TooMany, NoMemory}
use Rattle.pb_sched.specs.declared.format.Format.{Format}
use Rattle.pb_sched.specs.declared.schedule.Schedule.{Schedule}
use Rattle.pb_sched.specs.declared.schedule.Turn.{Turn}
use Rattle.pb_sched.specs.Formats.{head_line, seed_line, turn_line, IsTurn}
use Rattle.pb_sched.specs.Outcomes.{BeginsWith, IsSchedule, IsBadLine, bad_head, bad_seed, bad_event, IsTooMany, beyond, Outcome, schedule, bad_line, too_many, IsOutcome, OneOutcome, IsFault, IsReadAs}
use Rattle.pb_sched.specs.Parts.{head_at, seed_at, turn_at, HasFront, HasTurns}
use Rattle.pb_sched.proofs.Finding.{laid, head_none, seed_none, turn_none, turn_some}
use Rattle.pb_sched.proofs.Lines.{head_again, seed_again, turn_again}
use Rattle.pb_sched.proofs.Strips.{some_pair, no_pair}

-- how far a text is in the form before its events: not at all, its first line, or with the format, the seed and what follows
data Start : Type 0 where
  headless : Start
  seedless : Start
  started : (format : Format) (seed : ℕ) (text : List ℕ) → Start

abbrev seeded : Format → Option (ℕ × List ℕ) → Start
seeded f None = seedless
seeded f (Some x) = started f x.0 x.1

abbrev headed : Option (Format × List ℕ) → Start
headed None = headless
headed (Some x) = seeded x.0 (seed_at x.1)

abbrev start : List ℕ → Start
start bytes = headed (head_at bytes)

abbrev fault_outcome : ℕ → Bool → Outcome
fault_outcome n true = too_many n
fault_outcome n false = bad_line n

abbrev outcome_of : Format → ℕ → List Turn → List ℕ → Outcome
outcome_of f n ts [] = schedule n ts
outcome_of f n ts (x ∷ xs) = fault_outcome (length ts + 3) (is_some (turn_at f (x ∷ xs)))

-- the events of a text up to the first line that isn't one, and what that makes of it
record Ended (f : Format) (n : ℕ) (text : List ℕ) (o : Outcome) : Type 0 where
  turns : List Turn
  rest : List ℕ
  has : HasTurns f text turns rest
  out : o ≡ outcome_of f n turns rest

abbrev Comes : Start → Outcome → Type 0
Comes headless o = o ≡ bad_line 1
Comes seedless o = o ≡ bad_line 2
Comes (started f n text) o = Ended f n text o

-- ---- each outcome comes so

start_with : (bytes : List ℕ) (f : Format) (n : ℕ) (ts : List Turn) (rest : List ℕ) → BeginsWith bytes f n ts rest → start bytes ≡ started f n (flat_map (turn_line f) ts ++ rest)
start_with bytes f n ts rest b =
    let text : bytes ≡ head_line f ++ (seed_line n ++ (flat_map (turn_line f) ts ++ rest)) =
    b.is ∙ laid f n ts rest in
    ap start text ∙ ap headed (head_again f (seed_line n ++ (flat_map (turn_line f) ts ++ rest))) ∙ ap (seeded f) (seed_again n (flat_map (turn_line f) ts ++ rest) b.seed_fits)

front_of : (bytes : List ℕ) (f : Format) (n : ℕ) (ts : List Turn) (rest : List ℕ) → BeginsWith bytes f n ts rest → HasFront f (flat_map (turn_line f) ts ++ rest) ts rest
front_of bytes f n ts rest b = record { is = refl; each = b.each; most = b.most }

line_bad : (f : Format) (n : ℕ) (ts : List Turn) (rest : List ℕ) → rest ≢ [] → turn_at f rest ≡ None → bad_line (length ts + 3) ≡ outcome_of f n ts rest
line_bad f n ts [] some e = absurd (some refl)
line_bad f n ts (x ∷ xs) some e = ap (λ o. fault_outcome (length ts + 3) (is_some o)) (sym e)

line_beyond : (f : Format) (n : ℕ) (ts : List Turn) (rest : List ℕ) → is_some (turn_at f rest) ≡ true → too_many (length ts + 3) ≡ outcome_of f n ts rest
line_beyond f n ts [] e = absurd cc
line_beyond f n ts (x ∷ xs) e = ap (fault_outcome (length ts + 3)) (sym e)

bad_comes : (bytes : List ℕ) (n : ℕ) → IsBadLine bytes n → Comes (start bytes) (bad_line n)
bad_comes bytes n (bad_head is none) = subst (λ s. Comes s (bad_line n)) (sym (ap headed (head_none bytes none))) (ap bad_line is)
bad_comes bytes n (bad_seed f rest is begins none) =
    let s : start bytes ≡ seedless = ap start begins ∙ ap headed (head_again f rest) ∙ ap (seeded f) (seed_none rest none) in
    subst (λ s. Comes s (bad_line n)) (sym s) (ap bad_line is)
bad_comes bytes n (bad_event f m ts rest is begins some none) =
    let t = turn_none f rest none in
    subst (λ s. Comes s (bad_line n)) (sym (start_with bytes f m ts rest begins)) (record {
      turns = ts;
      rest = rest;
      has = record { front = front_of bytes f m ts rest begins; stops = inr t };
      out = ap bad_line is ∙ line_bad f m ts rest some t;
    })

beyond_comes : (bytes : List ℕ) (n : ℕ) → IsTooMany bytes n → Comes (start bytes) (too_many n)
beyond_comes bytes n (beyond f m ts rest is begins full some) =
    subst (λ s. Comes s (too_many n)) (sym (start_with bytes f m ts rest begins)) (record {
      turns = ts;
      rest = rest;
      has = record { front = front_of bytes f m ts rest begins; stops = inl full };
      out = ap too_many is ∙ line_beyond f m ts rest (turn_some f rest some);
    })

comes : (bytes : List ℕ) (o : Outcome) → IsOutcome bytes o → Comes (start bytes) o
comes bytes (schedule n ts) h =
    subst (λ s. Comes s (schedule n ts)) (sym (start_with bytes h.0 n ts [] h.1)) (record {
      turns = ts;
      rest = [];
      has = record { front = front_of bytes h.0 n ts [] h.1; stops = inr refl };
      out = refl;
    })
comes bytes (bad_line n) h = bad_comes bytes n h
comes bytes (too_many n) h = beyond_comes bytes n h

-- ---- and there is one that does

record Same (ts us : List Turn) (r s : List ℕ) : Type 0 where
  turns : ts ≡ us
  rest : r ≡ s

-- where i events stand before, no event goes on where one list stops
stuck : (f : Format) (i : ℕ) (u : Turn) (us : List Turn) (r s : List ℕ) → (i ≡ 1000000) ⊎ (turn_at f r ≡ None) → IsTurn f u → i + length (u ∷ us) ≤ 1000000 → r ≡ turn_line f u ++ s → ⊥
stuck f i u us r s (inl e) fits most is = omega (arith, e, most)
stuck f i u us r s (inr e) fits most is = no_pair (sym e ∙ ap (turn_at f) is ∙ turn_again f u s fits)

record Same_first (t u : Turn) (r s : List ℕ) : Type 0 where
  turn : t ≡ u
  rest : r ≡ s

same_first : (f : Format) (t u : Turn) (r s : List ℕ) → IsTurn f t → IsTurn f u → turn_line f t ++ r ≡ turn_line f u ++ s → Same_first t u r s
same_first f t u r s a b is =
    let p = some_pair (sym (turn_again f t r a) ∙ ap (turn_at f) is ∙ turn_again f u s b) in
    record { turn = p.0; rest = p.1 }

same_turns : (f : Format) (i : ℕ) (ts us : List Turn) (r s : List ℕ) → flat_map (turn_line f) ts ++ r ≡ flat_map (turn_line f) us ++ s
    → AllByRecursion (IsTurn f) ts → AllByRecursion (IsTurn f) us → i + length ts ≤ 1000000 → i + length us ≤ 1000000
    → (i + length ts ≡ 1000000) ⊎ (turn_at f r ≡ None) → (i + length us ≡ 1000000) ⊎ (turn_at f s ≡ None) → Same ts us r s
same_turns f i [] [] r s is a b m n p q = record { turns = refl; rest = is }
same_turns f i [] (u ∷ us) r s is a b m n p q = absurd (stuck f i u us r (flat_map (turn_line f) us ++ s) (at_end p) b.0 n (is ∙ append_assoc (turn_line f u) (flat_map (turn_line f) us) s))
  where
    at_end : (i + 0 ≡ 1000000) ⊎ (turn_at f r ≡ None) → (i ≡ 1000000) ⊎ (turn_at f r ≡ None)
    at_end (inl e) = inl (omega (arith, e))
    at_end (inr e) = inr e
same_turns f i (t ∷ ts) [] r s is a b m n p q = absurd (stuck f i t ts s (flat_map (turn_line f) ts ++ r) (at_end q) a.0 m (sym is ∙ append_assoc (turn_line f t) (flat_map (turn_line f) ts) r))
  where
    at_end : (i + 0 ≡ 1000000) ⊎ (turn_at f s ≡ None) → (i ≡ 1000000) ⊎ (turn_at f s ≡ None)
    at_end (inl e) = inl (omega (arith, e))
    at_end (inr e) = inr e
same_turns f i (t ∷ ts) (u ∷ us) r s is a b m n p q =
    let first = same_first f t u (flat_map (turn_line f) ts ++ r) (flat_map (turn_line f) us ++ s) a.0 b.0 (sym (append_assoc (turn_line f t) (flat_map (turn_line f) ts) r) ∙ is ∙ append_assoc (turn_line f u) (flat_map (turn_line f) us) s) in
    let others = same_turns f (i + 1) ts us r s first.rest a.1 b.1 (omega (arith, m)) (omega (arith, n)) (moved ts r p) (moved us s q) in
    record { turns = ap₂ (λ x xs. x ∷ xs) first.turn others.turns; rest = others.rest }
  where
    moved : (xs : List Turn) (z : List ℕ) → (i + suc (length xs) ≡ 1000000) ⊎ (turn_at f z ≡ None) → (i + 1 + length xs ≡ 1000000) ⊎ (turn_at f z ≡ None)
    moved xs z (inl e) = inl (omega (arith, e))
    moved xs z (inr e) = inr e

from_none : (f : Format) (k : ℕ) (z : List ℕ) → (k ≡ 1000000) ⊎ (turn_at f z ≡ None) → (0 + k ≡ 1000000) ⊎ (turn_at f z ≡ None)
from_none f k z (inl e) = inl (omega (arith, e))
from_none f k z (inr e) = inr e

one_ended : (f : Format) (n : ℕ) (text : List ℕ) (a b : Outcome) → Ended f n text a → Ended f n text b → a ≡ b
one_ended f n text a b x y =
    let h = x.has.front in
    let k = y.has.front in
    let same = same_turns f 0 x.turns y.turns x.rest y.rest (sym h.is ∙ k.is) h.each k.each (omega (arith, h.most)) (omega (arith, k.most)) (from_none f (length x.turns) x.rest x.has.stops) (from_none f (length y.turns) y.rest y.has.stops) in
    x.out ∙ ap₂ (λ ts r. outcome_of f n ts r) same.turns same.rest ∙ sym y.out

one_comes : (s : Start) (a b : Outcome) → Comes s a → Comes s b → a ≡ b
one_comes headless a b x y = x ∙ sym y
one_comes seedless a b x y = x ∙ sym y
one_comes (started f n text) a b x y = one_ended f n text a b x y

pub once : OneOutcome
once bytes a b x y = one_comes (start bytes) a b (comes bytes a x) (comes bytes b y)

-- what is read of a schedule's text is that schedule
pub read_as : (bytes : List ℕ) (r : Result Schedule ScheduleFault) → IfOk r (λ s. IsSchedule bytes s.seed s.turns.items) → IfErr r (IsFault bytes) → (n : ℕ) (ts : List Turn) → IsSchedule bytes n ts → IsReadAs n ts r
read_as bytes (Ok s) ok bad n ts h = let e : schedule s.seed s.turns.items ≡ schedule n ts = once bytes _ _ ok h in (cc, cc)
read_as bytes (Err (BadLine k)) ok bad n ts h = let e : bad_line k ≡ schedule n ts = once bytes _ _ bad h in absurd cc
read_as bytes (Err (TooMany k)) ok bad n ts h = let e : too_many k ≡ schedule n ts = once bytes _ _ bad h in absurd cc
read_as bytes (Err NoMemory) ok bad n ts h = refl
