-- How large a piece of the text is, and whether it is made.
use Rattle.std.specs.Prelude.{◌≡◌, ℕ, ◌+◌, ◌≤◌, ℤ, max, if◌then◌else◌, List, [], ◌∷◌, length}
use Rattle.pb_core_language.specs.declared.tree.CoreEnd.{CoreEnd}
use Rattle.pb_core_language.specs.Tree.{StmtTree, message, foreach, loop, again, choice, run, barrier, broadcast, reduce, allreduce, BlockTree, nothing, more}
use Rattle.pb_core_language.specs.Plain.{Protocol}
use Rattle.pb_local.specs.Tree.{Code, Codes, Program, size, size_all}
use Rattle.pb_local.specs.WellMade as W
use Rattle.pb_local.specs.WellMade.{IsMade, AreMade, loops_at, loops_in}
use Rattle.pb_shape.specs.Sizes.{braces, braces_all}
use Rattle.pb_shape.specs.Segments.{is_at_offset}

-- ---- pieces

abbrev pub sizes : List Code → ℕ
sizes [] = 0
sizes (c ∷ cs) = size c + sizes cs

abbrev pub depths : List Code → ℕ
depths [] = 0
depths (c ∷ cs) = max (braces c) (depths cs)

abbrev pub loop_count : List Code → ℕ
loop_count [] = 0
loop_count (c ∷ cs) = loops_at c + loop_count cs

-- each of the codes is made wherever it stands
abbrev pub AreFlat : Program → List Code → Type 0
AreFlat l [] = Unit {0}
AreFlat l (c ∷ cs) = ((at : W.Scope) → IsMade l at c) × AreFlat l cs

-- at most so many statements, with so many open braces, and no loops
pub record IsWeighed (most deep : ℕ) (piece : List Code) : Type 0 where
  pub few : sizes piece ≤ most
  pub shallow : depths piece ≤ deep
  pub none : loop_count piece ≡ 0

pub record AreWeighed (most deep : ℕ) (codes : Codes) : Type 0 where
  pub few : size_all codes ≤ most
  pub shallow : braces_all codes ≤ deep
  pub none : loops_in codes ≡ 0

-- one statement, with no other in it
pub record IsSimple (c : Code) : Type 0 where
  pub one : size c ≡ 1
  pub flat : braces c ≡ 0
  pub none : loops_at c ≡ 0

-- the endpoint program has the tables of the protocol
pub record IsTabledAs (p : Protocol) (l : Program) : Type 0 where
  pub roles : length l.roles ≡ length p.roles
  pub labels : l.labels ≡ p.labels
  pub kernels : l.kernels ≡ p.kernels

-- ---- blocks of a protocol

-- how many statements an item may have
abbrev pub item_room : StmtTree → ℕ
item_room (message l f t) = 4
item_room (foreach b m items) = 0
item_room (loop id m body) = 0
item_room (again id) = 0
item_room (choice k at bs) = 0
item_room (run k at) = 2
item_room barrier = 0
item_room (broadcast l root) = 0
item_room (reduce l op root) = 0
item_room (allreduce l op) = 0

-- so many statements for each item
abbrev pub each_room : ℕ → BlockTree → ℕ
each_room w nothing = 0
each_room w (more m s rest) = w + each_room w rest

-- the ends that are of role k with this offset
abbrev pub end_count : ℕ → ℤ → CoreEnd → ℕ
end_count k c e = if is_at_offset k c e then 1 else 0

abbrev pub count_at : ℕ → ℤ → StmtTree → ℕ
count_at k c (message l f t) = end_count k c f + end_count k c t
count_at k c (foreach b m items) = 0
count_at k c (loop id m body) = 0
count_at k c (again id) = 0
count_at k c (choice kernel at bs) = 0
count_at k c (run kernel at) = end_count k c at
count_at k c barrier = 0
count_at k c (broadcast l root) = 0
count_at k c (reduce l op root) = 0
count_at k c (allreduce l op) = 0

abbrev pub count_in : ℕ → ℤ → BlockTree → ℕ
count_in k c nothing = 0
count_in k c (more m s rest) = count_at k c s + count_in k c rest

-- the statements of segments with these offsets
abbrev pub segment_sum : ℕ → BlockTree → List ℤ → ℕ
segment_sum k b [] = 0
segment_sum k b (c ∷ cs) = (2 + count_in k c b) + segment_sum k b cs
