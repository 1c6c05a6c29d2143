-- Which labels are reduced by min or max.
use Rattle.std.specs.Prelude.{ℕ, Bool, true, false, ◌||◌, ◌&&◌, nat_eq}
use Rattle.pb_syntax.specs.declared.tree.Op.{Op}
use Rattle.pb_syntax.specs.declared.tree.Op.TheVariants.{Min, Max, Sum}
use Rattle.pb_local.specs.Tree.{Code, when, for_each, own, loop, again, choice, send, recv, run, barrier, broadcast, reduce, allreduce, Codes, nothing, more, Parts, no_part, part}

-- it takes the least or the greatest
abbrev pub is_order : Op → Bool
is_order Min = true
is_order Max = true
is_order Sum = false

-- somewhere in the statement the label is reduced so
abbrev mutual
  pub orders : ℕ → Code → Bool
  orders l (when guards first other) = orders_all l first || orders_all l other
  orders l (for_each low high body) = orders_all l body
  orders l (own off) = false
  orders l (loop id body) = orders_all l body
  orders l (again id) = false
  orders l (choice who kernel relays from tests branches) = orders_parts l branches
  orders l (send label to) = false
  orders l (recv label from) = false
  orders l (run kernel) = false
  orders l barrier = false
  orders l (broadcast label root) = false
  orders l (reduce label op root) = nat_eq label l && is_order op
  orders l (allreduce label op) = nat_eq label l && is_order op

  pub orders_all : ℕ → Codes → Bool
  orders_all l nothing = false
  orders_all l (more c rest) = orders l c || orders_all l rest

  pub orders_parts : ℕ → Parts → Bool
  orders_parts l no_part = false
  orders_parts l (part a rest) = orders_all l a || orders_parts l rest
