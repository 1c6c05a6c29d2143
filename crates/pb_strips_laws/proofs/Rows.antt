-- A worked file with strips: it keeps what the law asks for, and its cells and its flat protocol are as they should be.
use Rattle.std.proofs.Common.{◌≡◌, ℕ, ℤ, pos, negsuc, None, Some, [], ◌∷◌, refl}
use Rattle.std.specs.Prelude.{codes}
use Rattle.std.specs.Fmt.{digits}
use Rattle.pb_text.specs.declared.place.Place.{Place}
use Rattle.pb_text.specs.declared.place.Spot.{Spot}
use Rattle.pb_syntax.specs.declared.tree.High.TheVariants.{Max}
use Rattle.pb_syntax.specs.declared.tree.LinText.{LinText}
use Rattle.pb_syntax.specs.declared.tree.RangeText.{RangeText}
use Rattle.pb_syntax.specs.declared.tree.IndexText.{IndexText}
use Rattle.pb_syntax.specs.declared.tree.IndexText.TheVariants.{Zero, At, Bind}
use Rattle.pb_syntax.specs.declared.tree.Payload.TheVariants.{Unit as Signal}
use Rattle.pb_core_language.specs.FileRules.{broken}
use Rattle.pb_core_language.specs.Flat as F
use Rattle.pb_core_language.specs.Names.{Name}
use Rattle.pb_strips_syntax.specs.declared.tree.StripEnd.{StripEnd}
use Rattle.pb_strips_syntax.specs.Flattening.{flat_file}
use Rattle.pb_strips_syntax.specs.Strips.{message, loop, again, choice, columns, Strips, nothing, more, no_branch, branch, PlainStripFile}
use Rattle.pb_strips_faults.specs.Found.{HasNoFault}
use Rattle.pb_strips_laws.specs.Cells.{Cell, cells}
use Rattle.pb_strips_laws.specs.Flat.{nowhere, strip}
use Rattle.pb_strips_laws.specs.Laws.{strip_table}

abbrev somewhere : Place
somewhere = record { line = 1; col = 1 }

abbrev spot : Name → Spot
spot x = record { name = x; place = somewhere }

abbrev number : ℤ → LinText
number c = record { base = None; off = c; place = somewhere }

abbrev over : Name → ℤ → LinText
over x c = record { base = Some (spot x); off = c; place = somewhere }

-- `0..N-1`
abbrev every : RangeText
every = record { low = number (pos 0); high = over (codes "N") (negsuc 0) }

-- `G[..][j+c]`
abbrev g : IndexText → ℤ → StripEnd
g index c = record { role = spot (codes "G"); index = index; col = Some (record { var = Some (spot (codes "j")); off = c }) }

abbrev m : StripEnd
m = record { role = spot (codes "M"); index = Zero; col = None }

-- `const N = 2..max; global protocol P(role M, role G[0..N-1][0..2])`, and this body
abbrev file : Strips → PlainStripFile
file body = record {
  constant = spot (codes "N");
  low = 2;
  low_place = somewhere;
  high = Max;
  high_place = somewhere;
  protocol = spot (codes "P");
  roles =
      record { role = spot (codes "M"); range = None; columns = None }
      ∷ record { role = spot (codes "G"); range = Some every; columns = Some (0, 2) }
      ∷ [];
  body = record { place = somewhere; list = body };
}

-- `rec X { columns (j:0..1) { A() from G[i:0..N-1][j] to G[i][j+1]; } choice K at M { continue X; } or { } }`
abbrev worked : PlainStripFile
worked = file
    (more (loop somewhere (spot (codes "X")) somewhere
    (more (columns somewhere (spot (codes "j")) 0 1 somewhere
    (more (message (spot (codes "A")) Signal (g (Bind (spot (codes "i")) every) (pos 0)) (g (At (over (codes "i") (pos 0))) (pos 1))) nothing))
    (more (choice somewhere (spot (codes "K")) m (branch somewhere (more (again somewhere (spot (codes "X"))) nothing) (branch somewhere nothing no_branch))) nothing))) nothing)

no_fault : HasNoFault worked
no_fault = record { narrow = refl; in_columns = refl; bound = refl; within = refl; own = refl }

keeps_rules : broken (flat_file worked) ≡ None
unfolding digits
keeps_rules = refl

abbrev cell : ℤ → ℕ → Cell
cell row c = record { role = 1; row = row; column = Some c }

-- by column, then by row
all_cells : cells (codes "N") (pos 2) worked.roles
    ≡ record { role = 0; row = pos 0; column = None }
    ∷ cell (pos 0) 0 ∷ cell (pos 1) 0 ∷ cell (pos 0) 1 ∷ cell (pos 1) 1 ∷ cell (pos 0) 2 ∷ cell (pos 1) 2 ∷ []
all_cells = refl

-- G[0][0] is rank 1, and G[1][2] is rank 6
protocol_of_two : strip (strip_table worked) (pos 2) worked.body.list
    ≡ F.looped nowhere
    (F.message nowhere 1 3 0 (F.message nowhere 2 4 0 (F.message nowhere 3 5 0 (F.message nowhere 4 6 0
    (F.choice nowhere 0 0 (F.branch nowhere.mark (F.again 0) (F.branch nowhere.mark F.stop F.no_branch)) F.stop))))) F.stop
protocol_of_two = refl
