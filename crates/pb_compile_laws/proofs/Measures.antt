-- How many statements a file has, how many braces are open in it, and what the grammar and the limits say of its names, payloads and branches.
use Rattle.std.proofs.Common.{ℕ, ◌+◌, ◌≤◌, max}
use Rattle.pb_text.specs.Tokens.{IsName}
use Rattle.pb_syntax.specs.Tree.{PlainStatement, message, foreach, loop, again, choice, compute, barrier, broadcast, reduce, allreduce, PlainStatements, nothing, more, PlainBranches, no_branch, branch}
use Rattle.pb_local.specs.WellMade.{IsPayload}

abbrev mutual
  pub texts_at : PlainStatement → ℕ
  texts_at (message l p f t) = 1
  texts_at (foreach at x over place items) = 1 + texts_in items
  texts_at (loop at x place body) = 1 + texts_in body
  texts_at (again at x) = 1
  texts_at (choice at k who bs) = 1 + texts_among bs
  texts_at (compute at k who) = 1
  texts_at (barrier at) = 1
  texts_at (broadcast at l p f) = 1
  texts_at (reduce at l p o t) = 1
  texts_at (allreduce at l p o) = 1

  pub texts_in : PlainStatements → ℕ
  texts_in nothing = 0
  texts_in (more s rest) = texts_at s + texts_in rest

  pub texts_among : PlainBranches → ℕ
  texts_among no_branch = 0
  texts_among (branch at b bs) = texts_in b + texts_among bs

-- braces inside a statement
abbrev mutual
  pub tall_at : PlainStatement → ℕ
  tall_at (message l p f t) = 0
  tall_at (foreach at x over place items) = 1 + tall_in items
  tall_at (loop at x place body) = 1 + tall_in body
  tall_at (again at x) = 0
  tall_at (choice at k who bs) = 1 + tall_among bs
  tall_at (compute at k who) = 0
  tall_at (barrier at) = 0
  tall_at (broadcast at l p f) = 0
  tall_at (reduce at l p o t) = 0
  tall_at (allreduce at l p o) = 0

  pub tall_in : PlainStatements → ℕ
  tall_in nothing = 0
  tall_in (more s rest) = max (tall_at s) (tall_in rest)

  pub tall_among : PlainBranches → ℕ
  tall_among no_branch = 0
  tall_among (branch at b bs) = max (tall_in b) (tall_among bs)

abbrev pub branch_count : PlainBranches → ℕ
branch_count no_branch = 0
branch_count (branch at b bs) = 1 + branch_count bs

abbrev mutual
  pub IsWell : PlainStatement → Type 0
  IsWell (message l p f t) = IsName l.name × IsPayload p
  IsWell (foreach at x over place items) = AreWell items
  IsWell (loop at x place body) = AreWell body
  IsWell (again at x) = Unit {0}
  IsWell (choice at k who bs) = IsName k.name × ((2 ≤ branch_count bs) × ((branch_count bs ≤ 64) × AreWellAmong bs))
  IsWell (compute at k who) = IsName k.name
  IsWell (barrier at) = Unit {0}
  IsWell (broadcast at l p f) = IsName l.name × IsPayload p
  IsWell (reduce at l p o t) = IsName l.name × IsPayload p
  IsWell (allreduce at l p o) = IsName l.name × IsPayload p

  pub AreWell : PlainStatements → Type 0
  AreWell nothing = Unit {0}
  AreWell (more s rest) = IsWell s × AreWell rest

  pub AreWellAmong : PlainBranches → Type 0
  AreWellAmong no_branch = Unit {0}
  AreWellAmong (branch at b bs) = AreWell b × AreWellAmong bs
