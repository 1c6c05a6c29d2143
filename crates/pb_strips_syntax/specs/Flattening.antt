-- The file that a file with strips stands for: each column of a strip is a role of its own, and each `columns` is its body
-- once for each value of its variable, ascending.
--
--     global protocol P(role G[0..N-1][0..2]) {
--       columns (j:0..1) {
--         A() from G[i:0..N-1][j] to G[i][j+1];
--       }
--     }
-- stands for
--     global protocol P(role G_0[0..N-1], role G_1[0..N-1], role G_2[0..N-1]) {
--       A() from G_0[i:0..N-1] to G_1[i];
--       A() from G_1[i:0..N-1] to G_2[i];
--     }
--
-- v is the value of the variable of the `columns` around, if there is one.
use Rattle.std.specs.Prelude.{ℕ, ℤ, pos, Option, Some, None, List, [], ◌∷◌, ◌++◌}
use Rattle.pb_text.specs.declared.place.Spot.{Spot}
use Rattle.pb_syntax.specs.declared.tree.RangeText.{RangeText}
use Rattle.pb_syntax.specs.declared.tree.End.{End}
use Rattle.pb_syntax.specs.declared.tree.RoleText.{RoleText}
use Rattle.pb_syntax.specs.Tree as tree
use Rattle.pb_syntax.specs.Tree.{PlainStatement, PlainBranches, PlainFile, statements_of}
use Rattle.pb_strips_syntax.specs.declared.tree.Col.{Col}
use Rattle.pb_strips_syntax.specs.declared.tree.StripEnd.{StripEnd}
use Rattle.pb_strips_syntax.specs.declared.tree.StripRole.{StripRole}
use Rattle.pb_strips_syntax.specs.Columns.{column_name, column_of, numbers}
use Rattle.pb_strips_syntax.specs.Strips.{Strip, message, foreach, loop, again, choice, compute, barrier, broadcast, reduce, allreduce, columns, Strips, nothing, more, StripBranches, no_branch, branch, PlainStripFile}

-- ---- roles

abbrev pub column_spot : Spot → ℕ → Spot
column_spot strip c = record { name = column_name strip.name c; place = strip.place }

-- a role for each of these columns
abbrev pub column_roles : Spot → Option RangeText → List ℕ → List RoleText
column_roles strip rows [] = []
column_roles strip rows (c ∷ cs) = record { role = column_spot strip c; range = rows } ∷ column_roles strip rows cs

abbrev pub roles_with : Spot → Option RangeText → Option (ℕ × ℕ) → List RoleText
roles_with role rows None = record { role = role; range = rows } ∷ []
roles_with role rows (Some ends) = column_roles role rows (numbers ends.0 ends.1)

abbrev pub flat_roles : List StripRole → List RoleText
flat_roles [] = []
flat_roles (r ∷ rs) = roles_with r.role r.range r.columns ++ flat_roles rs

-- ---- ends

abbrev pub natural : ℤ → ℕ
natural (pos c) = c
natural other = 0

abbrev pub named_column : Spot → Option Col → Option ℕ → Spot
named_column role None v = role
named_column role (Some col) v = column_spot role (natural (column_of col v))

abbrev pub flat_end : Option ℕ → StripEnd → End
flat_end v e = record { role = named_column e.role e.col v; index = e.index }

-- ---- statements

-- what these give for each value, one after the other
abbrev pub for_each : List ℕ → (Option ℕ → List PlainStatement) → List PlainStatement
for_each [] body = []
for_each (c ∷ cs) body = body (Some c) ++ for_each cs body

abbrev mutual
  pub flat_at : Strip → Option ℕ → List PlainStatement
  flat_at (message label carries from to) v = tree.message label carries (flat_end v from) (flat_end v to) ∷ []
  flat_at (foreach place var over at items) v = tree.foreach place var over at (statements_of (flat_in items v)) ∷ []
  flat_at (loop place name at body) v = tree.loop place name at (statements_of (flat_in body v)) ∷ []
  flat_at (again place name) v = tree.again place name ∷ []
  flat_at (choice place kernel who branches) v = tree.choice place kernel (flat_end v who) (flat_among branches v) ∷ []
  flat_at (compute place kernel who) v = tree.compute place kernel (flat_end v who) ∷ []
  flat_at (barrier place) v = tree.barrier place ∷ []
  flat_at (broadcast place label carries from) v = tree.broadcast place label carries (flat_end v from) ∷ []
  flat_at (reduce place label carries by to) v = tree.reduce place label carries by (flat_end v to) ∷ []
  flat_at (allreduce place label carries by) v = tree.allreduce place label carries by ∷ []
  flat_at (columns place var low high at body) v = for_each (numbers low high) (λ c. flat_in body c)

  pub flat_in : Strips → Option ℕ → List PlainStatement
  flat_in nothing v = []
  flat_in (more s rest) v = flat_at s v ++ flat_in rest v

  pub flat_among : StripBranches → Option ℕ → PlainBranches
  flat_among no_branch v = tree.no_branch
  flat_among (branch at first rest) v = tree.branch at (statements_of (flat_in first v)) (flat_among rest v)

-- ---- a file

abbrev pub flat_file : PlainStripFile → PlainFile
flat_file f = record {
  constant = f.constant;
  low = f.low;
  low_place = f.low_place;
  high = f.high;
  high_place = f.high_place;
  protocol = f.protocol;
  roles = flat_roles f.roles;
  body = record { place = f.body.place; list = statements_of (flat_in f.body.list None) };
}
