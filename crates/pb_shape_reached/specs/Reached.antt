-- In the text of a protocol that keeps the rules each statement is there because some rank comes to it.
use Rattle.std.specs.Prelude.{◌≡◌, ℕ, suc, ◌+◌, ◌<◌, ◌≤◌, ℤ, true, []}
use Rattle.pb_text.specs.declared.limits.TheConstants.{MOST_NUMBER}
use Rattle.pb_core_language.specs.Plain.{Protocol}
use Rattle.pb_core_language.specs.Ranks.{total}
use Rattle.pb_core_language.specs.Rules.{breaches}
use Rattle.pb_core_language.specs.Sound.{is_sound}
use Rattle.pb_core_language.specs.Verdict.{IsIn}
use Rattle.pb_core_endpoint.specs.Core.{IsProper}
use Rattle.pb_local.specs.Tree.{Code, when, for_each, own, loop, again, choice, send, recv, run, barrier, broadcast, reduce, allreduce, Codes, nothing, more, size, size_all, Parts, no_part, part, Program}
use Rattle.pb_local.specs.Alone.{Reaches, Takes, Part, FirstPart, OtherPart}
use Rattle.pb_local.specs.WellMade.{IsWellMade}
use Rattle.pb_shape.specs.Shape.{HasShape}
use Rattle.pb_shape.specs.Theorem.{sequence_of}
use Rattle.pb_shape_filled.specs.Filled.{IsSome}

module _ (p : Protocol) (l : Program) where
  -- at some N of the range, with at most 2,000,000,000 ranks, some rank reaches the statement with number k
  pub record IsReached (k : ℕ) : Type 0 where
    pub n : ℤ
    pub within : IsIn p.range n
    pub few : total p.roles n ≤ MOST_NUMBER
    pub rank : ℕ
    pub there : rank < total p.roles n
    pub reaches : Reaches l n (sequence_of p n) rank k

  -- and some rank takes this part of the If with number k
  pub record IsTaken (k : ℕ) (side : Part) : Type 0 where
    pub n : ℤ
    pub within : IsIn p.range n
    pub few : total p.roles n ≤ MOST_NUMBER
    pub rank : ℕ
    pub there : rank < total p.roles n
    pub takes : Takes l n (sequence_of p n) rank k side

  -- each statement is reached, and each part of an If that isn't empty is taken; statements are numbered in text order, the first of these with `k`
  abbrev mutual
    pub IsAllReached : ℕ → Code → Type 0
    IsAllReached k (when guards first other) = IsReached k × (IsSome first → IsTaken k FirstPart) × (IsSome other → IsTaken k OtherPart) × AreReached (suc k) first × AreReached (suc k + size_all first) other
    IsAllReached k (for_each low high body) = IsReached k × AreReached (suc k) body
    IsAllReached k (own off) = IsReached k
    IsAllReached k (loop id body) = IsReached k × AreReached (suc k) body
    IsAllReached k (again id) = IsReached k
    IsAllReached k (choice who kernel relays from tests branches) = IsReached k × PartsAreReached (suc k) branches
    IsAllReached k (send label to) = IsReached k
    IsAllReached k (recv label from) = IsReached k
    IsAllReached k (run kernel) = IsReached k
    IsAllReached k barrier = IsReached k
    IsAllReached k (broadcast label root) = IsReached k
    IsAllReached k (reduce label op root) = IsReached k
    IsAllReached k (allreduce label op) = IsReached k

    pub AreReached : ℕ → Codes → Type 0
    AreReached k nothing = Unit {0}
    AreReached k (more c rest) = IsAllReached k c × AreReached (k + size c) rest

    pub PartsAreReached : ℕ → Parts → Type 0
    PartsAreReached k no_part = Unit {0}
    PartsAreReached k (part first rest) = AreReached k first × PartsAreReached (k + size_all first) rest

-- Where a protocol keeps the rules at each N of its range, each statement of each well-made program of its projection's shape is reached
abbrev pub TextIsReached : Type 0
TextIsReached =
    (p : Protocol) (l : Program) → is_sound p ≡ true → IsProper p → HasShape p l → IsWellMade l → ((n : ℤ) → IsIn p.range n → breaches p n ≡ []) →
    AreReached p l 0 l.body
