-- The names that are spelled in a file, in its order.
use Rattle.std.specs.Prelude.{Option, Some, None, List, [], ◌∷◌, ◌++◌}
use Rattle.pb_text.specs.declared.place.Spot.{Spot}
use Rattle.pb_syntax.specs.declared.tree.RangeText.{RangeText}
use Rattle.pb_syntax.specs.declared.tree.IndexText.{IndexText}
use Rattle.pb_syntax.specs.declared.tree.IndexText.TheVariants.{Zero, At, Bind}
use Rattle.pb_strips_syntax.specs.declared.tree.Col.{Col}
use Rattle.pb_strips_syntax.specs.declared.tree.StripEnd.{StripEnd}
use Rattle.pb_strips_syntax.specs.declared.tree.StripRole.{StripRole}
use Rattle.pb_strips_syntax.specs.Strips.{Strip, message, foreach, loop, again, choice, compute, barrier, broadcast, reduce, allreduce, columns, Strips, nothing, more, StripBranches, no_branch, branch, PlainStripFile}

abbrev pub of_some : Option Spot → List Spot
of_some None = []
of_some (Some s) = s ∷ []

abbrev pub of_range : RangeText → List Spot
of_range over = of_some over.low.base ++ of_some over.high.base

abbrev pub of_rows : Option RangeText → List Spot
of_rows None = []
of_rows (Some over) = of_range over

abbrev pub of_index : IndexText → List Spot
of_index Zero = []
of_index (At x) = of_some x.base
of_index (Bind var over) = var ∷ of_range over

abbrev pub of_col : Option Col → List Spot
of_col None = []
of_col (Some col) = of_some col.var

abbrev pub of_end : StripEnd → List Spot
of_end e = e.role ∷ (of_index e.index ++ of_col e.col)

abbrev pub of_roles : List StripRole → List Spot
of_roles [] = []
of_roles (r ∷ rs) = (r.role ∷ of_rows r.range) ++ of_roles rs

abbrev mutual
  pub spelled_at : Strip → List Spot
  spelled_at (message label carries from to) = label ∷ (of_end from ++ of_end to)
  spelled_at (foreach place var over at items) = var ∷ (of_range over ++ spelled_in items)
  spelled_at (loop place name at body) = name ∷ spelled_in body
  spelled_at (again place name) = name ∷ []
  spelled_at (choice place kernel who branches) = kernel ∷ (of_end who ++ spelled_among branches)
  spelled_at (compute place kernel who) = kernel ∷ of_end who
  spelled_at (barrier place) = []
  spelled_at (broadcast place label carries from) = label ∷ of_end from
  spelled_at (reduce place label carries by to) = label ∷ of_end to
  spelled_at (allreduce place label carries by) = label ∷ []
  spelled_at (columns place var low high at body) = var ∷ spelled_in body

  pub spelled_in : Strips → List Spot
  spelled_in nothing = []
  spelled_in (more s rest) = spelled_at s ++ spelled_in rest

  pub spelled_among : StripBranches → List Spot
  spelled_among no_branch = []
  spelled_among (branch at first rest) = spelled_in first ++ spelled_among rest

abbrev pub spelled : PlainStripFile → List Spot
spelled f = f.constant ∷ f.protocol ∷ (of_roles f.roles ++ spelled_in f.body.list)
