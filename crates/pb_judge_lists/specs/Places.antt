-- Where each rank stands in a log.
--
-- In the log `0 send 1 A`, `1 recv 0 A`, `0 send 1 A` of two ranks the first places are 0 and 1, and the place after that of
-- the first line is 2. Behind an entry that is a rank's last the place is 3, the log's length.
--
-- r is a rank, and k and q are places.
use Rattle.std.specs.Prelude.{◌≡◌, ℕ, zero, suc, ◌+◌, ◌<◌, ◌≤◌, Bool, List, ◌∷◌, length, drop, get_or, slice_get, Some}
use Rattle.pb_text.specs.declared.action.Action.{Action}
use Rattle.pb_world.specs.Log.{rank_of}
use Rattle.pb_judge_ruling.specs.Ruling.{entries_of}
use Rattle.pb_judge_follow.specs.Follow.{Left}

-- a log of so many ranks, the place of each rank's next entry, the place behind each entry, and what was done
pub record Places : Type 0 where
  pub log : List (ℕ × Action)
  pub next : List ℕ
  pub after : List ℕ
  pub total : ℕ
  pub used : ℕ
  pub owes : Bool

-- what each rank has left stands in the log from its place on
abbrev pub left_of : Places → Left
left_of p = record { entries = λ r. entries_of r (drop (get_or p.next r (length p.log)) p.log); used = p.used; owes = p.owes }

-- a list begins with this entry
abbrev pub Begins : List (ℕ × Action) → ℕ × Action → Type 0
Begins entries entry = (others : List (ℕ × Action)) × (entries ≡ entry ∷ others)

-- q is the place of the rank's first entry from place k on, or none is there
pub record IsNext (log : List (ℕ × Action)) (r k q : ℕ) : Type 0 where
  pub own : (entry : ℕ × Action) → slice_get log q ≡ Some entry → rank_of entry.1 ≡ r
  pub first : entries_of r (drop q log) ≡ entries_of r (drop k log)

-- the entries from place k on are linked
pub record AreLinked (log : List (ℕ × Action)) (k : ℕ) (next after : List ℕ) : Type 0 where
  pub nexts : (r : ℕ) → r < length next → IsNext log r k (get_or next r (length log))
  pub afters : (q : ℕ) (entry : ℕ × Action) → k ≤ q → slice_get log q ≡ Some entry → IsNext log (rank_of entry.1) (q + 1) (get_or after q (length log))

-- how many entries the ranks below a number have
abbrev pub count : ℕ → (ℕ → List (ℕ × Action)) → ℕ
count zero entries = 0
count (suc r) entries = count r entries + length (entries r)

pub record AreKept (p : Places) : Type 0 where
  pub sized : length p.next ≡ p.total
  pub own : (r : ℕ) (entry : ℕ × Action) → r < length p.next → slice_get p.log (get_or p.next r (length p.log)) ≡ Some entry → rank_of entry.1 ≡ r
  pub afters : (q : ℕ) (entry : ℕ × Action) → slice_get p.log q ≡ Some entry → IsNext p.log (rank_of entry.1) (q + 1) (get_or p.after q (length p.log))
  pub used : p.used + count (length p.next) (left_of p).entries ≡ length p.log
