-- The ends of a file, in the order of the tree, each with the `columns` around it.
use Rattle.std.specs.Prelude.{ℕ, Option, Some, List, [], ◌∷◌, ◌++◌}
use Rattle.pb_text.specs.declared.place.Spot.{Spot}
use Rattle.pb_strips_syntax.specs.declared.tree.StripEnd.{StripEnd}
use Rattle.pb_strips_syntax.specs.Strips.{Strip, message, foreach, loop, again, choice, compute, barrier, broadcast, reduce, allreduce, columns, Strips, nothing, more, StripBranches, no_branch, branch}
use Rattle.pb_strips_faults.specs.declared.site.Around.{Around}
use Rattle.pb_strips_faults.specs.declared.site.EndSite.{EndSite}

abbrev pub site : Option Around → StripEnd → EndSite
site around e = record { role = e.role; col = e.col; around = around }

abbrev pub around_by : Spot → ℕ → ℕ → Option Around
around_by var low high = Some (record { var = var.name; low = low; high = high })

abbrev mutual
  pub sites_at : Option Around → Strip → List EndSite
  sites_at around (message label carries from to) = site around from ∷ site around to ∷ []
  sites_at around (foreach place var over at items) = sites_in around items
  sites_at around (loop place name at body) = sites_in around body
  sites_at around (again place name) = []
  sites_at around (choice place kernel who branches) = site around who ∷ sites_among around branches
  sites_at around (compute place kernel who) = site around who ∷ []
  sites_at around (barrier place) = []
  sites_at around (broadcast place label carries from) = site around from ∷ []
  sites_at around (reduce place label carries by to) = site around to ∷ []
  sites_at around (allreduce place label carries by) = []
  sites_at around (columns place var low high at body) = sites_in (around_by var low high) body

  pub sites_in : Option Around → Strips → List EndSite
  sites_in around nothing = []
  sites_in around (more s rest) = sites_at around s ++ sites_in around rest

  pub sites_among : Option Around → StripBranches → List EndSite
  sites_among around no_branch = []
  sites_among around (branch at first rest) = sites_in around first ++ sites_among around rest
