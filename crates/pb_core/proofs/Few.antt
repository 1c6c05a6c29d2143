-- A file has no more labels, and no more kernels, than statements.
use Rattle.std.proofs.Common.{◌≤◌, Bool, true, false, if◌then◌else◌, length, length-append, arith}
use Rattle.pb_syntax.specs.Tree.{PlainStatement, message, foreach, loop, again, choice, compute, barrier, broadcast, reduce, allreduce, PlainStatements, nothing, more, PlainBranches, no_branch, branch}
use Rattle.pb_core_language.specs.FileRules.{labels_at, labels_in, labels_among}
use Rattle.pb_core_language.specs.Meaning.{kernels_at, kernels_in, kernels_among, binds, stmts_at, stmts_in, stmts_among}

one_or_two : (a b : Bool) → 1 ≤ (if a then 2 else (if b then 2 else 1))
one_or_two true b = omega arith
one_or_two false true = omega arith
one_or_two false false = omega arith

mutual
  labels_at_few : (s : PlainStatement) → length (labels_at s) ≤ stmts_at s
  labels_at_few (message l p f t) = one_or_two (binds f.index) (binds t.index)
  labels_at_few (foreach at x over place items) = let h = labels_few items in omega (arith, h)
  labels_at_few (loop at x place body) = let h = labels_few body in omega (arith, h)
  labels_at_few (again at x) = omega arith
  labels_at_few (choice at k who bs) = let h = labels_among_few bs in omega (arith, h)
  labels_at_few (compute at k who) = omega arith
  labels_at_few (barrier at) = omega arith
  labels_at_few (broadcast at l p f) = omega arith
  labels_at_few (reduce at l p o t) = omega arith
  labels_at_few (allreduce at l p o) = omega arith

  pub labels_few : (b : PlainStatements) → length (labels_in b) ≤ stmts_in b
  labels_few nothing = omega arith
  labels_few (more s rest) =
      let e = length-append (labels_at s) (labels_in rest) in let h = labels_at_few s in let g = labels_few rest in omega (arith, e, h, g)

  labels_among_few : (bs : PlainBranches) → length (labels_among bs) ≤ stmts_among bs
  labels_among_few no_branch = omega arith
  labels_among_few (branch at b bs) =
      let e = length-append (labels_in b) (labels_among bs) in let h = labels_few b in let g = labels_among_few bs in omega (arith, e, h, g)

mutual
  kernels_at_few : (s : PlainStatement) → length (kernels_at s) ≤ stmts_at s
  kernels_at_few (message l p f t) = omega arith
  kernels_at_few (foreach at x over place items) = let h = kernels_few items in omega (arith, h)
  kernels_at_few (loop at x place body) = let h = kernels_few body in omega (arith, h)
  kernels_at_few (again at x) = omega arith
  kernels_at_few (choice at k who bs) = let h = kernels_among_few bs in omega (arith, h)
  kernels_at_few (compute at k who) = omega arith
  kernels_at_few (barrier at) = omega arith
  kernels_at_few (broadcast at l p f) = omega arith
  kernels_at_few (reduce at l p o t) = omega arith
  kernels_at_few (allreduce at l p o) = omega arith

  pub kernels_few : (b : PlainStatements) → length (kernels_in b) ≤ stmts_in b
  kernels_few nothing = omega arith
  kernels_few (more s rest) =
      let e = length-append (kernels_at s) (kernels_in rest) in let h = kernels_at_few s in let g = kernels_few rest in omega (arith, e, h, g)

  kernels_among_few : (bs : PlainBranches) → length (kernels_among bs) ≤ stmts_among bs
  kernels_among_few no_branch = omega arith
  kernels_among_few (branch at b bs) =
      let e = length-append (kernels_in b) (kernels_among bs) in let h = kernels_few b in let g = kernels_among_few bs in omega (arith, e, h, g)
