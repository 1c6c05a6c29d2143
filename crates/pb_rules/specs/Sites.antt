-- The statements with ends that a protocol comes to, and the first breach at them.
use Rattle.std.specs.Prelude.{◌+◌, ◌*◌, Bool, true, false, if◌then◌else◌, Option, Some, None, List, [], ◌∷◌, ◌++◌}
use Rattle.pb_affine.specs.declared.range.NRange.{NRange}
use Rattle.pb_core_language.specs.declared.protocol.CoreRole.{CoreRole}
use Rattle.pb_core_language.specs.declared.tree.CoreEnd.{CoreEnd}
use Rattle.pb_core_language.specs.Plain.{Protocol}
use Rattle.pb_core_language.specs.Tree.{is_again, Mark, StmtTree, message, foreach, loop, again, choice, run, barrier, broadcast, reduce, allreduce, BlockTree, nothing, more, BranchTrees, no_branch, branch}
use Rattle.pb_core_language.specs.declared.tree.Bounds.{Bounds}
use Rattle.pb_rules.specs.declared.found.Found.{Found}
use Rattle.pb_rules.specs.declared.walk.Mark as W
use Rattle.pb_rules.specs.Traps.{kept_all, role_traps, end_traps, message_traps}

-- a statement with its ends, in a foreach or not
pub data Site : Type 0 where
  one : (over : Option Bounds) (mark : Mark) (at : CoreEnd) → Site
  two : (over : Option Bounds) (mark : Mark) (sender receiver : CoreEnd) → Site

abbrev pub mark_of : W.Mark → Mark
mark_of m = record { number = m.number; place = m.place }

-- what stands behind a continue is never come to
abbrev mutual
  pub stmt_sites : Option Bounds → Mark → StmtTree → List Site
  stmt_sites over m (message l f t) = two over m f t ∷ []
  stmt_sites over m (foreach h k items) = block_sites (Some h) items
  stmt_sites over m (loop id k body) = block_sites over body
  stmt_sites over m (again id) = []
  stmt_sites over m (choice k at bs) = one over m at ∷ branches_sites over bs
  stmt_sites over m (run k at) = one over m at ∷ []
  stmt_sites over m barrier = []
  stmt_sites over m (broadcast l root) = one over m root ∷ []
  stmt_sites over m (reduce l op root) = one over m root ∷ []
  stmt_sites over m (allreduce l op) = []

  pub block_sites : Option Bounds → BlockTree → List Site
  block_sites over nothing = []
  block_sites over (more m s rest) = if is_again s then [] else (stmt_sites over m s ++ block_sites over rest)

  pub branches_sites : Option Bounds → BranchTrees → List Site
  branches_sites over no_branch = []
  branches_sites over (branch m b bs) = block_sites over b ++ branches_sites over bs

module _ (range : NRange) (roles : List CoreRole) where
  -- the first breach at a site, or the best before
  abbrev pub kept_site : Site → Option Found → Option Found
  kept_site (one over m e) best = kept_all (end_traps range roles over (2 * m.number) e) best
  kept_site (two over m f t) best =
      kept_all (message_traps range over m f t) (kept_all (end_traps range roles over (2 * m.number + 1) t) (kept_all (end_traps range roles over (2 * m.number) f) best))

  abbrev pub kept_sites : List Site → Option Found → Option Found
  kept_sites [] best = best
  kept_sites (s ∷ ss) best = kept_sites ss (kept_site s best)

-- the first breach of the rules 6 to 8
abbrev pub best_of : Protocol → Option Found
best_of p = kept_sites p.range p.roles (block_sites None p.body.block) (kept_all (role_traps p.range 0 p.roles) None)
