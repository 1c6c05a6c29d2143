-- How deep blocks stand in blocks, and how many branches a choice has.
use Rattle.std.specs.Prelude.{ℕ, suc, max}
use Rattle.pb_local.specs.Tree.{Code, when, for_each, own, loop, again, choice, send, recv, run, barrier, broadcast, reduce, allreduce, Codes, nothing, more, Parts, no_part, part}
use Rattle.pb_local.specs.WellMade.{count_parts}

-- how deep blocks stand in a statement: 0 where it has none
abbrev mutual
  pub height : Code → ℕ
  height (when guards first other) = suc (max (height_all first) (height_all other))
  height (for_each low high body) = suc (height_all body)
  height (own off) = 0
  height (loop id body) = suc (height_all body)
  height (again id) = 0
  height (choice who kernel relays from tests branches) = suc (height_parts branches)
  height (send label to) = 0
  height (recv label from) = 0
  height (run kernel) = 0
  height barrier = 0
  height (broadcast label root) = 0
  height (reduce label op root) = 0
  height (allreduce label op) = 0

  pub height_all : Codes → ℕ
  height_all nothing = 0
  height_all (more c rest) = max (height c) (height_all rest)

  pub height_parts : Parts → ℕ
  height_parts no_part = 0
  height_parts (part a rest) = max (height_all a) (height_parts rest)

-- the most branches of a choice
abbrev mutual
  pub breadth : Code → ℕ
  breadth (when guards first other) = max (breadth_all first) (breadth_all other)
  breadth (for_each low high body) = breadth_all body
  breadth (own off) = 0
  breadth (loop id body) = breadth_all body
  breadth (again id) = 0
  breadth (choice who kernel relays from tests branches) = max (count_parts branches) (breadth_parts branches)
  breadth (send label to) = 0
  breadth (recv label from) = 0
  breadth (run kernel) = 0
  breadth barrier = 0
  breadth (broadcast label root) = 0
  breadth (reduce label op root) = 0
  breadth (allreduce label op) = 0

  pub breadth_all : Codes → ℕ
  breadth_all nothing = 0
  breadth_all (more c rest) = max (breadth c) (breadth_all rest)

  pub breadth_parts : Parts → ℕ
  breadth_parts no_part = 0
  breadth_parts (part a rest) = max (breadth_all a) (breadth_parts rest)
