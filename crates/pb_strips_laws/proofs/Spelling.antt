-- The name of no end's role is that of a column's role, as it is spelled in the file.
use Rattle.std.proofs.Common.{◌≡◌, false, Option, List, [], ◌∷◌}
use Rattle.pb_text.specs.declared.place.Spot.{Spot}
use Rattle.pb_strips_syntax.specs.declared.tree.StripRole.{StripRole}
use Rattle.pb_strips_syntax.specs.Strips.{Strip, message, foreach, loop, again, choice, compute, barrier, broadcast, reduce, allreduce, columns, Strips, nothing, more, StripBranches, no_branch, branch}
use Rattle.pb_strips_faults.specs.declared.site.Around.{Around}
use Rattle.pb_strips_faults.specs.declared.site.EndSite.{EndSite}
use Rattle.pb_strips_faults.specs.Faults.{is_column_of_some, clash_among}
use Rattle.pb_strips_faults.specs.Sites.{around_by, sites_at, sites_in, sites_among}
use Rattle.pb_strips_faults.specs.Spelled.{of_range, of_end, spelled_at, spelled_in, spelled_among}
use Rattle.pb_strips_laws.proofs.Each.{Each, each_both, each_part, none_in}
use Rattle.pb_strips_laws.proofs.Ends.{no_place}

module _ (roles : List StripRole) where
  abbrev pub IsOwn : Spot → Type 0
  IsOwn s = is_column_of_some roles s.name ≡ false

  abbrev pub HasOwn : EndSite → Type 0
  HasOwn e = IsOwn e.role

  pub are_own : (ss : List Spot) → clash_among roles ss ≡ [] → Each IsOwn ss
  are_own [] h = tt
  are_own (s ∷ ss) h = let parts = none_in _ (clash_among roles ss) h in (no_place _ s.place parts.0, are_own ss parts.1)

  mutual
    own_at : (s : Strip) (around : Option Around) → Each IsOwn (spelled_at s) → Each HasOwn (sites_at around s)
    own_at (message l carries from to) around h = let ends = each_part IsOwn (of_end from) (of_end to) h.1 in (ends.0.0, (ends.1.0, tt))
    own_at (foreach place x over at items) around h = own_in items around (each_part IsOwn (of_range over) (spelled_in items) h.1).1
    own_at (loop place x at body) around h = own_in body around h.1
    own_at (again place x) around h = tt
    own_at (choice place k who branches) around h = let parts = each_part IsOwn (of_end who) (spelled_among branches) h.1 in (parts.0.0, own_among branches around parts.1)
    own_at (compute place k who) around h = (h.1.0, tt)
    own_at (barrier place) around h = tt
    own_at (broadcast place l carries from) around h = (h.1.0, tt)
    own_at (reduce place l carries by to) around h = (h.1.0, tt)
    own_at (allreduce place l carries by) around h = tt
    own_at (columns place x low high at body) around h = own_in body (around_by x low high) h.1

    pub own_in : (ss : Strips) (around : Option Around) → Each IsOwn (spelled_in ss) → Each HasOwn (sites_in around ss)
    own_in nothing around h = tt
    own_in (more s ss) around h =
        let parts = each_part IsOwn (spelled_at s) (spelled_in ss) h in
        each_both HasOwn (sites_at around s) (sites_in around ss) (own_at s around parts.0) (own_in ss around parts.1)

    own_among : (bs : StripBranches) (around : Option Around) → Each IsOwn (spelled_among bs) → Each HasOwn (sites_among around bs)
    own_among no_branch around h = tt
    own_among (branch at first rest) around h =
        let parts = each_part IsOwn (spelled_in first) (spelled_among rest) h in
        each_both HasOwn (sites_in around first) (sites_among around rest) (own_in first around parts.0) (own_among rest around parts.1)
