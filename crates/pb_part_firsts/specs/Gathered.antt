-- Statements whose stops are gathered, and what comes behind stops that aren't taken yet.
use Rattle.std.specs.Prelude.{ℕ, ℤ, Bool, true, false, List}
use Rattle.pb_affine.specs.declared.range.NRange.{NRange}
use Rattle.pb_core_language.specs.declared.protocol.CoreRole.{CoreRole}
use Rattle.pb_core_language.specs.Outcomes.{Outcome, or_then}
use Rattle.pb_core_language.specs.Tree.{StmtTree, message, foreach, loop, again, choice, run, barrier, broadcast, reduce, allreduce}
use Rattle.pb_part_areas.specs.declared.area.Area.{Area}
use Rattle.pb_part_firsts.specs.declared.firsts.Entry.{Entry}
use Rattle.pb_part_firsts.specs.Firsts.{Gives}
use Rattle.pb_part_firsts.specs.Turns.{first_stop}

-- a message, a compute or a foreach
abbrev pub is_plain : StmtTree → Bool
is_plain (message l f t) = true
is_plain (foreach h m items) = true
is_plain (loop id m body) = false
is_plain (again id) = false
is_plain (choice k at bs) = false
is_plain (run k at) = true
is_plain barrier = false
is_plain (broadcast l root) = false
is_plain (reduce l op root) = false
is_plain (allreduce l op) = false

-- what the rest gives those that are left, behind the stops that are there now, these outcomes and then the rest give those
-- that came, behind the stops that were there
pub record Passes (range : NRange) (roles : List CoreRole) (reach left : List Area) (old new before now : List Entry) (outs : ℤ → ℕ → ℤ → List Outcome) : Type 0 where
  pub on : (rest : ℤ → ℕ → ℤ → List Outcome) (last : List Area) (all : List Entry) →
      Gives range roles left last new all (λ n role x. or_then (first_stop roles now n role x) (rest n role x)) →
      Gives range roles reach last old all (λ n role x. or_then (first_stop roles before n role x) (or_then (outs n role x) (rest n role x)))
