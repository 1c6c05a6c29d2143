-- A worked protocol of three ranks with a loop, a choice and a relay. In each round W[0] chooses: it tells W[1], which tells W[2], and then there
-- is another round, or none.
use Rattle.std.specs.Prelude.{ℕ, pos, negsuc, List, [], ◌∷◌, Some, None, codes}
use Rattle.pb_affine.specs.declared.guard.Guard.{Guard}
use Rattle.pb_affine.specs.declared.range.NRange.{NRange}
use Rattle.pb_syntax.specs.declared.core_label.KernelKind.TheVariants.{Choice}
use Rattle.pb_core_language.specs.declared.tree.CoreEnd.{CoreEnd}
use Rattle.pb_core_language.specs.Tree as T
use Rattle.pb_core_language.specs.Tree.{BlockTree, BranchTrees}
use Rattle.pb_core_language.specs.Plain.{Protocol}
use Rattle.pb_local.specs.declared.stmt.Test.{Test}
use Rattle.pb_local.specs.declared.stmt.Relay.{Relay}
use Rattle.pb_local.specs.Tree as L
use Rattle.pb_local.specs.Tree.{Code, Codes, nothing, more, Parts, no_part, part, Program}
use Rattle.pb_shape.specs.Places.{peer_of}
use Rattle.pb_shape.specs.Guards.{alone}
use Rattle.pb_shape_ranks.specs.Worked.{mark_of, number, from_n, worker, only, workers, signal}

abbrev pub three : NRange
three = record { low = 3; high = Some 3 }

-- W[k]
abbrev pub end_at : ℕ → CoreEnd
end_at k = worker (number (pos k))

-- two messages, from W[0] to W[1] and from there to W[2], before the rest
abbrev pub told_on : ℕ → ℕ → BlockTree → BlockTree
told_on a b rest = T.more (mark_of a) (T.message a (end_at 0) (end_at 1)) (T.more (mark_of b) (T.message b (end_at 1) (end_at 2)) rest)

abbrev pub both_ways : BranchTrees
both_ways = T.branch (mark_of 1) (told_on 0 1 (T.more (mark_of 4) (T.again 0) T.nothing)) (T.branch (mark_of 2) (told_on 2 3 T.nothing) T.no_branch)

abbrev pub round : BlockTree
round = T.more (mark_of 5) (T.choice 0 (end_at 0) both_ways) T.nothing

abbrev pub rounds : Protocol
rounds = record {
  name = codes "P";
  range = three;
  roles = workers;
  labels = signal (codes "A") ∷ signal (codes "B") ∷ signal (codes "C") ∷ signal (codes "D") ∷ [];
  kernels = record { name = codes "k"; kind = Choice } ∷ [];
  body = record { mark = mark_of 0; block = T.more (mark_of 6) (T.loop 0 (mark_of 3) round) T.nothing };
  statements = 7;
  blocks = 4;
}

-- ---- the text

abbrev pub everybody : Guard
everybody = record { role = 0; low = Some (number (pos 0)); high = Some (from_n (negsuc 0)); from = None; to = None }

-- a test for W[k]
abbrev pub just : ℕ → Guard
just k = only (number (pos k))

abbrev pub at_first : ℕ → Codes → Codes
at_first a rest = more (L.when (just 0 ∷ []) (alone (L.send a (peer_of (end_at 1)))) nothing) rest

abbrev pub at_second : ℕ → Codes → Codes
at_second a rest = more (L.when (just 1 ∷ []) (alone (L.recv a (peer_of (end_at 0)))) nothing) rest

abbrev pub on_from_second : ℕ → Codes → Codes
on_from_second b rest = more (L.when (just 1 ∷ []) (alone (L.send b (peer_of (end_at 2)))) nothing) rest

abbrev pub at_third : ℕ → Codes → Codes
at_third b rest = more (L.when (just 2 ∷ []) (alone (L.recv b (peer_of (end_at 1)))) nothing) rest

abbrev pub told_text : ℕ → ℕ → Codes → Codes
told_text a b rest = at_first a (at_second a (on_from_second b (at_third b rest)))

abbrev pub both_parts : Parts
both_parts = part (told_text 0 1 (alone (L.again 0))) (part (told_text 2 3 nothing) no_part)

-- W[2] is told by W[1]
abbrev pub relays : List Relay
relays = record { guards = just 2 ∷ []; from = peer_of (end_at 1) } ∷ []

abbrev pub test_of : ℕ → ℕ → ℕ → Test
test_of branch label k = record { branch = branch; label = label; guards = just k ∷ [] }

abbrev pub tests : List Test
tests = test_of 0 0 1 ∷ test_of 0 1 2 ∷ test_of 1 2 1 ∷ test_of 1 3 2 ∷ []

abbrev pub choosing : Code
choosing = L.choice (just 0) 0 relays (peer_of (end_at 0)) tests both_parts

abbrev pub round_text : Codes
round_text = alone (L.when (everybody ∷ []) (more (L.own (pos 0)) (alone choosing)) nothing)

abbrev pub rounds_text : Program
rounds_text = record {
  protocol = codes "P";
  range = three;
  roles = record { name = codes "W"; low = number (pos 0); high = from_n (negsuc 0) } ∷ [];
  labels = signal (codes "A") ∷ signal (codes "B") ∷ signal (codes "C") ∷ signal (codes "D") ∷ [];
  kernels = record { name = codes "k"; kind = Choice } ∷ [];
  body = alone (L.when (everybody ∷ []) (alone (L.loop 0 round_text)) nothing);
}
