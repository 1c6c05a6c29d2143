-- A rank's place in its tree: a path of steps into blocks, and what is still to do there.
use Rattle.std.specs.Prelude.{ℕ, zero, suc, ◌+◌, List, [], ◌∷◌, Option, Some, nat_eq, if◌then◌else◌}
use Rattle.pb_affine.specs.declared.lin.Lin.{Lin}
use Rattle.pb_local.specs.declared.stmt.Test.{Test}
use Rattle.pb_local.specs.Tree.{Code, when, for_each, own, loop, again, choice, send, recv, run, barrier, broadcast, reduce, allreduce, Codes, nothing, more, Parts, no_part, part, size, size_all}
use Rattle.pb_local.specs.Machine.{Todo, finished, do_next, round_of, end_of, leave, pushed}
use Rattle.pb_machine_next.specs.declared.step.Step.{Step}

-- ---- blocks

-- the block from statement k on
abbrev pub block_from : ℕ → Codes → Codes
block_from zero cs = cs
block_from (suc k) nothing = nothing
block_from (suc k) (more c cs) = block_from k cs

-- the number of statement k, where the block's first has the number m
abbrev pub number_at : ℕ → ℕ → Codes → ℕ
number_at m zero cs = m
number_at m (suc k) nothing = m
number_at m (suc k) (more c cs) = number_at (m + size c) k cs

-- the first statement, where there is one
abbrev pub head : Codes → Code
head nothing = run 0
head (more c cs) = c

abbrev pub side : {A : Type 0} → ℕ → A → A → A
side zero a b = a
side (suc k) a b = b

abbrev pub part_at : ℕ → Parts → Codes
part_at k no_part = nothing
part_at zero (part a rest) = a
part_at (suc k) (part a rest) = part_at k rest

-- the number of the first statement of branch k, where that of the first branch is m
abbrev pub part_number : ℕ → ℕ → Parts → ℕ
part_number m k no_part = m
part_number m zero (part a rest) = m
part_number m (suc k) (part a rest) = part_number (m + size_all a) k rest

-- block k of a statement
abbrev pub inside : ℕ → Code → Codes
inside k (when guards first other) = side k first other
inside k (for_each low high body) = body
inside k (loop id body) = body
inside k (choice who kernel relays from tests branches) = part_at k branches
inside k (own off) = nothing
inside k (again id) = nothing
inside k (send label to) = nothing
inside k (recv label from) = nothing
inside k (run kernel) = nothing
inside k barrier = nothing
inside k (broadcast label root) = nothing
inside k (reduce label op root) = nothing
inside k (allreduce label op) = nothing

-- the number of the first statement of block k of the statement with the number m
abbrev pub inner_number : ℕ → ℕ → Code → ℕ
inner_number m k (when guards first other) = side k (suc m) (suc m + size_all first)
inner_number m k (for_each low high body) = suc m
inner_number m k (loop id body) = suc m
inner_number m k (choice who kernel relays from tests branches) = part_number (suc m) k branches
inner_number m k (own off) = suc m
inner_number m k (again id) = suc m
inner_number m k (send label to) = suc m
inner_number m k (recv label from) = suc m
inner_number m k (run kernel) = suc m
inner_number m k barrier = suc m
inner_number m k (broadcast label root) = suc m
inner_number m k (reduce label op root) = suc m
inner_number m k (allreduce label op) = suc m

-- what stands below a block of the statement with the number m
abbrev pub marked : ℕ → Code → Todo → Todo
marked m (for_each low high body) rest = round_of high (suc m) body rest
marked m (loop id body) rest = end_of id (suc m) body rest
marked m (when guards first other) rest = rest
marked m (choice who kernel relays from tests branches) rest = rest
marked m (own off) rest = rest
marked m (again id) rest = rest
marked m (send label to) rest = rest
marked m (recv label from) rest = rest
marked m (run kernel) rest = rest
marked m barrier rest = rest
marked m (broadcast label root) rest = rest
marked m (reduce label op root) rest = rest
marked m (allreduce label op) rest = rest

-- ---- paths

-- a block, the number of its first statement, and what is to do behind it
pub record Spot : Type 0 where
  pub number : ℕ
  pub block : Codes
  pub rest : Todo

-- what is to do from statement k of the block at the spot on
abbrev pub on_from : Spot → ℕ → Todo
on_from s k = pushed (number_at s.number k s.block) (block_from k s.block) s.rest

-- what is to do behind statement k
abbrev pub beyond : Spot → ℕ → Todo
beyond s k = on_from s (suc k)

-- into block p of the statement c, which is statement k of the block at the spot
abbrev pub enter_at : Spot → ℕ → ℕ → Code → Spot
enter_at s k p c = record {
  number = inner_number (number_at s.number k s.block) p c;
  block = inside p c;
  rest = marked (number_at s.number k s.block) c (beyond s k);
}

abbrev pub enter : Spot → Step → Spot
enter s f = enter_at s f.at f.part (head (block_from f.at s.block))

abbrev pub spot : Spot → List Step → Spot
spot s [] = s
spot s (f ∷ fs) = spot (enter s f) fs

abbrev pub root : Codes → Spot
root body = record { number = 0; block = body; rest = finished }

-- what is to do from statement k on of the block that a path leads to
abbrev pub todo : Codes → List Step → ℕ → Todo
todo body path k = on_from (spot (root body) path) k

-- the block that a path leads to
abbrev pub block_at : Codes → List Step → Codes
block_at b [] = b
block_at b (f ∷ fs) = block_at (inside f.part (head (block_from f.at b))) fs

-- a choice's tests
abbrev pub tests_of : Code → List Test
tests_of (choice who kernel relays from tests branches) = tests
tests_of (when guards first other) = []
tests_of (for_each low high body) = []
tests_of (loop id body) = []
tests_of (own off) = []
tests_of (again id) = []
tests_of (send label to) = []
tests_of (recv label from) = []
tests_of (run kernel) = []
tests_of barrier = []
tests_of (broadcast label root) = []
tests_of (reduce label op root) = []
tests_of (allreduce label op) = []

-- the tests of statement k of the block that a path leads to
abbrev pub tests_at : Codes → List Step → ℕ → List Test
tests_at b path k = tests_of (head (block_from k (block_at b path)))

-- with the ends of loops that were reached passed
abbrev pub settled : Todo → Todo
settled finished = finished
settled (do_next number first rest) = do_next number first rest
settled (round_of high number body rest) = round_of high number body rest
settled (end_of id number body rest) = settled rest
settled (leave joint rest) = leave joint rest

-- ---- where a rank stands, found on the way down a path

pub data Found : Type 0 where
  nowhere : Found
  -- at this depth, at this statement of the block there, and the position behind it
  at_code : (depth k after : ℕ) (code : Code) → Found
  -- at this depth, the end of a round up to this high end, and the position behind its For
  at_round : (depth after : ℕ) (high : Lin) → Found

abbrev pub at_or : ℕ → ℕ → Found → Codes → Found
at_or depth k best nothing = best
at_or depth k best (more c cs) = at_code depth k (suc k) c

abbrev pub round_or : ℕ → ℕ → Found → Code → Found
round_or depth after best (for_each low high body) = at_round depth after high
round_or depth after best (when guards first other) = best
round_or depth after best (loop id body) = best
round_or depth after best (choice who kernel relays from tests branches) = best
round_or depth after best (own off) = best
round_or depth after best (again id) = best
round_or depth after best (send label to) = best
round_or depth after best (recv label from) = best
round_or depth after best (run kernel) = best
round_or depth after best barrier = best
round_or depth after best (broadcast label root) = best
round_or depth after best (reduce label op root) = best
round_or depth after best (allreduce label op) = best

-- the best place that is known once a step is taken
abbrev pub better : Codes → Step → ℕ → Found → Found
better b f depth best = round_or depth (suc f.at) (at_or depth (suc f.at) best (block_from (suc f.at) b)) (head (block_from f.at b))

abbrev pub found : Codes → List Step → ℕ → ℕ → Found → Found
found b [] depth k best = at_or depth k best (block_from k b)
found b (f ∷ fs) depth k best = found (inside f.part (head (block_from f.at b))) fs (suc depth) k (better b f depth best)

-- ---- the open loop that an Again goes back to

abbrev pub loop_or : ℕ → ℕ → Option ℕ → Code → Option ℕ
loop_or id depth best (loop x body) = if nat_eq id x then Some depth else best
loop_or id depth best (for_each low high body) = best
loop_or id depth best (when guards first other) = best
loop_or id depth best (choice who kernel relays from tests branches) = best
loop_or id depth best (own off) = best
loop_or id depth best (again x) = best
loop_or id depth best (send label to) = best
loop_or id depth best (recv label from) = best
loop_or id depth best (run kernel) = best
loop_or id depth best barrier = best
loop_or id depth best (broadcast label root) = best
loop_or id depth best (reduce label op root) = best
loop_or id depth best (allreduce label op) = best

-- the depth of the body of the innermost loop with this number on the path
abbrev pub looped : Codes → List Step → ℕ → ℕ → Option ℕ → Option ℕ
looped b [] id depth best = best
looped b (f ∷ fs) id depth best =
    looped (inside f.part (head (block_from f.at b))) fs id (suc depth) (loop_or id (suc depth) best (head (block_from f.at b)))
