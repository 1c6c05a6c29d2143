-- What the ranks' numbers and the sequential runs keep.
use Rattle.std.specs.Prelude.{◌≡◌, ◌≢◌, ℕ, zero, suc, ◌+◌, ◌==◌, cond, ℤ, pos, ◌+ℤ◌, ◌≤ℤ◌, Option, None, List, [], ◌∷◌, filter_map}
use Rattle.pb_affine.specs.declared.lin.Base.TheVariants.{Var}
use Rattle.pb_affine.specs.Values.{value}
use Rattle.pb_world.specs.Actions.{Action, AnswerTable, sent_to, received_from, IsPrefixOf}
use Rattle.pb_core_language.specs.declared.protocol.CoreRole.{CoreRole}
use Rattle.pb_core_language.specs.Ranks.{seats, total, number_in, at, size, place}
use Rattle.pb_core_language.specs.Flat.{Block}
use Rattle.pb_core_language.specs.Run.{Setting, seq}

-- ---- numbers

-- the index is in the range of role k
abbrev pub IsInRole : ℕ → List CoreRole → ℤ → ℤ → Type 0
IsInRole k [] n x = ⊥
IsInRole zero (r ∷ rs) n x = (value r.low n (pos 0) ≤ℤ x) × (x ≤ℤ value r.high n (pos 0))
IsInRole (suc k) (r ∷ rs) n x = IsInRole k rs n x

-- the role has an index at n, and its range has no variable
pub record IsInhabited (r : CoreRole) (n : ℤ) : Type 0 where
  pub some : value r.low n (pos 0) ≤ℤ value r.high n (pos 0)
  pub low : r.low.base ≢ Var
  pub high : r.high.base ≢ Var

abbrev pub AreInhabited : List CoreRole → ℤ → Type 0
AreInhabited [] n = Unit {0}
AreInhabited (r ∷ rs) n = IsInhabited r n × AreInhabited rs n

-- the number of a rank is its index and its role's place
abbrev pub Numbered : Type 0
Numbered =
    (roles : List CoreRole) (k : ℕ) (n x : ℤ) → AreInhabited roles n → IsInRole k roles n x →
    pos (number_in (record { role = k; index = x }) (seats roles n)) ≡ x +ℤ at (place k roles) n

-- the number of all ranks is high - low + 1, added over the roles
abbrev pub Totalled : Type 0
Totalled = (roles : List CoreRole) (n : ℤ) → AreInhabited roles n → pos (total roles n) ≡ at (size roles) n

-- ---- runs

-- the label and the words of what p sends to q, and of what q receives from p
abbrev pub sent_by : ℕ → ℕ → ℕ × Action → Option (ℕ × List ℕ)
sent_by p q e = cond (e.0 == p) (sent_to q e.1) None

abbrev pub got_by : ℕ → ℕ → ℕ × Action → Option (ℕ × List ℕ)
got_by p q e = cond (e.0 == q) (received_from p e.1) None

abbrev pub sends : ℕ → ℕ → List (ℕ × Action) → List (ℕ × List ℕ)
sends p q w = filter_map (sent_by p q) w

abbrev pub receipts : ℕ → ℕ → List (ℕ × Action) → List (ℕ × List ℕ)
receipts p q w = filter_map (got_by p q) w

-- a rank receives from another what that one sent to it, in order
abbrev pub Matched : Type 0
Matched = (w : Setting) (protocol : Block) (A : AnswerTable) (m p q : ℕ) → receipts p q (seq w protocol A m) ≡ sends p q (seq w protocol A m)

-- a run begins each longer run
abbrev pub Extends : Type 0
Extends = (w : Setting) (protocol : Block) (A : AnswerTable) (m more : ℕ) → IsPrefixOf (seq w protocol A m) (seq w protocol A (m + more))
