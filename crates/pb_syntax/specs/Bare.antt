-- The tree of a file with its places put aside: each is line 1, byte 1.
use Rattle.std.specs.Prelude.{List, [], ◌∷◌, Option, Some, None, map}
use Rattle.pb_text.specs.declared.place.Place.{Place}
use Rattle.pb_text.specs.declared.place.Spot.{Spot}
use Rattle.pb_syntax.specs.declared.tree.LinText.{LinText}
use Rattle.pb_syntax.specs.declared.tree.RangeText.{RangeText}
use Rattle.pb_syntax.specs.declared.tree.IndexText.{IndexText}
use Rattle.pb_syntax.specs.declared.tree.IndexText.TheVariants.{Zero, At, Bind}
use Rattle.pb_syntax.specs.declared.tree.End.{End}
use Rattle.pb_syntax.specs.declared.tree.RoleText.{RoleText}
use Rattle.pb_syntax.specs.Tree.{PlainStatement, message, foreach, loop, again, choice, compute, barrier, broadcast, reduce, allreduce, PlainStatements, nothing, more, PlainBranches, no_branch, branch, PlainBlock, PlainFile, Numeral, Top}

abbrev pub nowhere : Place
nowhere = record { line = 1; col = 1 }

abbrev pub bare_spot : Spot → Spot
bare_spot s = record { name = s.name; place = nowhere }

abbrev pub bare_numeral : Numeral → Numeral
bare_numeral n = record { value = n.value; place = nowhere }

abbrev pub bare_top : Top → Top
bare_top t = record { high = t.high; place = nowhere }

abbrev pub bare_base : Option Spot → Option Spot
bare_base None = None
bare_base (Some s) = Some (bare_spot s)

abbrev pub bare_lin : LinText → LinText
bare_lin l = record { base = bare_base l.base; off = l.off; place = nowhere }

abbrev pub bare_range : RangeText → RangeText
bare_range r = record { low = bare_lin r.low; high = bare_lin r.high }

abbrev pub bare_over : Option RangeText → Option RangeText
bare_over None = None
bare_over (Some r) = Some (bare_range r)

abbrev pub bare_index : IndexText → IndexText
bare_index Zero = Zero
bare_index (At l) = At (bare_lin l)
bare_index (Bind var over) = Bind (bare_spot var) (bare_range over)

abbrev pub bare_end : End → End
bare_end e = record { role = bare_spot e.role; index = bare_index e.index }

abbrev pub bare_role : RoleText → RoleText
bare_role r = record { role = bare_spot r.role; range = bare_over r.range }

abbrev mutual
  pub bare_statement : PlainStatement → PlainStatement
  bare_statement (message label payload from to) = message (bare_spot label) payload (bare_end from) (bare_end to)
  bare_statement (foreach place var over at items) = foreach nowhere (bare_spot var) (bare_range over) nowhere (bare_statements items)
  bare_statement (loop place name at body) = loop nowhere (bare_spot name) nowhere (bare_statements body)
  bare_statement (again place name) = again nowhere (bare_spot name)
  bare_statement (choice place kernel who branches) = choice nowhere (bare_spot kernel) (bare_end who) (bare_branches branches)
  bare_statement (compute place kernel who) = compute nowhere (bare_spot kernel) (bare_end who)
  bare_statement (barrier place) = barrier nowhere
  bare_statement (broadcast place label payload from) = broadcast nowhere (bare_spot label) payload (bare_end from)
  bare_statement (reduce place label payload op to) = reduce nowhere (bare_spot label) payload op (bare_end to)
  bare_statement (allreduce place label payload op) = allreduce nowhere (bare_spot label) payload op

  pub bare_statements : PlainStatements → PlainStatements
  bare_statements nothing = nothing
  bare_statements (more s rest) = more (bare_statement s) (bare_statements rest)

  pub bare_branches : PlainBranches → PlainBranches
  bare_branches no_branch = no_branch
  bare_branches (branch at body rest) = branch nowhere (bare_statements body) (bare_branches rest)

abbrev pub bare_block : PlainBlock → PlainBlock
bare_block b = record { place = nowhere; list = bare_statements b.list }

abbrev pub bare_file : PlainFile → PlainFile
bare_file f = record { constant = bare_spot f.constant; low = f.low; low_place = nowhere; high = f.high; high_place = nowhere; protocol = bare_spot f.protocol; roles = map bare_role f.roles; body = bare_block f.body }
