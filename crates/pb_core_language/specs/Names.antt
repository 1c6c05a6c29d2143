-- The names of a file in the order in which they stand there, each with its kind, its use and what is in scope.
use Rattle.std.specs.Prelude.{ℕ, Bool, true, false, ◌||◌, ◌&&◌, not, nat_eq, if◌then◌else◌, Option, Some, None, List, [], ◌∷◌, ◌++◌}
use Rattle.std.specs.Cmp.Lexicographic.{pointwise}
use Rattle.pb_text.specs.declared.place.Place.{Place}
use Rattle.pb_text.specs.declared.place.Spot.{Spot}
use Rattle.pb_syntax.specs.declared.tree.LinText.{LinText}
use Rattle.pb_syntax.specs.declared.tree.RangeText.{RangeText}
use Rattle.pb_syntax.specs.declared.tree.IndexText.{IndexText}
use Rattle.pb_syntax.specs.declared.tree.IndexText.TheVariants.{Zero, At, Bind}
use Rattle.pb_syntax.specs.declared.tree.End.{End}
use Rattle.pb_syntax.specs.declared.tree.RoleText.{RoleText}
use Rattle.pb_syntax.specs.Tree.{PlainStatement, message, foreach, loop, again, choice, compute, barrier, broadcast, reduce, allreduce, PlainStatements, nothing, more, PlainBranches, no_branch, branch, PlainFile}

abbrev pub Name : Type 0
Name = List ℕ

abbrev pub same : Name → Name → Bool
same a b = pointwise nat_eq a b

abbrev pub is_named : Name → List Name → Bool
is_named x [] = false
is_named x (y ∷ ys) = same x y || is_named x ys

-- what a name is of
pub data Kind : Type 0 where
  the_constant : Kind
  the_protocol : Kind
  a_role : Kind
  a_label : Kind
  a_compute_kernel : Kind
  a_choice_kernel : Kind
  a_loop : Kind
  a_variable : Kind

abbrev pub kind_number : Kind → ℕ
kind_number the_constant = 0
kind_number the_protocol = 1
kind_number a_role = 2
kind_number a_label = 3
kind_number a_compute_kernel = 4
kind_number a_choice_kernel = 5
kind_number a_loop = 6
kind_number a_variable = 7

abbrev pub same_kind : Kind → Kind → Bool
same_kind a b = nat_eq (kind_number a) (kind_number b)

-- a constant, a protocol and a role are declared, a loop and a variable are bound
pub data Use : Type 0 where
  declared : Use
  bound : Use
  mentioned : Use

-- the loops and the variables in whose scope something stands, but for what it binds itself
pub record Scope : Type 0 where
  pub loops : List Name
  pub variables : List Name

pub record Visit : Type 0 where
  pub spot : Spot
  pub kind : Kind
  pub how : Use
  pub scope : Scope

abbrev pub no_scope : Scope
no_scope = record { loops = []; variables = [] }

abbrev pub with_loop : Name → Scope → Scope
with_loop x scope = record { loops = x ∷ scope.loops; variables = scope.variables }

abbrev pub with_variable : Name → Scope → Scope
with_variable x scope = record { loops = scope.loops; variables = x ∷ scope.variables }

module _ (constant : Name) where
  -- a name in a lin is the constant, or else a variable
  abbrev pub lin_visits : Scope → LinText → List Visit
  lin_visits scope l =
      elim l.base [
        | None ↦ []
        | Some x ↦ record { spot = x; kind = if same x.name constant then the_constant else a_variable; how = mentioned; scope = scope } ∷ []
      ]

  abbrev pub range_visits : Scope → RangeText → List Visit
  range_visits scope over = lin_visits scope over.low ++ lin_visits scope over.high

  -- `inside` is the scope of a message, in which the variable is that it binds
  abbrev pub index_visits : Scope → Scope → IndexText → List Visit
  index_visits scope inside Zero = []
  index_visits scope inside (At l) = lin_visits inside l
  index_visits scope inside (Bind x over) = record { spot = x; kind = a_variable; how = bound; scope = scope } ∷ range_visits scope over

  abbrev pub end_visits : Scope → Scope → End → List Visit
  end_visits scope inside e = record { spot = e.role; kind = a_role; how = mentioned; scope = scope } ∷ index_visits scope inside e.index

  abbrev pub index_binds : Scope → IndexText → Scope
  index_binds scope Zero = scope
  index_binds scope (At l) = scope
  index_binds scope (Bind x over) = with_variable x.name scope

  abbrev pub role_visits : RoleText → List Visit
  role_visits r =
      record { spot = r.role; kind = a_role; how = declared; scope = no_scope } ∷ elim r.range [ None ↦ [] | Some over ↦ range_visits no_scope over ]

  abbrev pub roles_visits : List RoleText → List Visit
  roles_visits [] = []
  roles_visits (r ∷ rs) = role_visits r ++ roles_visits rs

  abbrev mutual
    pub stmt_visits : Scope → PlainStatement → List Visit
    stmt_visits scope (message l p f t) =
        let inside = index_binds (index_binds scope f.index) t.index in
        record { spot = l; kind = a_label; how = mentioned; scope = scope } ∷ (end_visits scope inside f ++ end_visits scope inside t)
    stmt_visits scope (foreach at x over place items) =
        record { spot = x; kind = a_variable; how = bound; scope = scope } ∷ (range_visits scope over ++ block_visits (with_variable x.name scope) items)
    stmt_visits scope (loop at x place body) = record { spot = x; kind = a_loop; how = bound; scope = scope } ∷ block_visits (with_loop x.name scope) body
    stmt_visits scope (again at x) = record { spot = x; kind = a_loop; how = mentioned; scope = scope } ∷ []
    stmt_visits scope (choice at k who bs) =
        record { spot = k; kind = a_choice_kernel; how = mentioned; scope = scope } ∷ (end_visits scope scope who ++ branches_visits scope bs)
    stmt_visits scope (compute at k who) = record { spot = k; kind = a_compute_kernel; how = mentioned; scope = scope } ∷ end_visits scope scope who
    stmt_visits scope (barrier at) = []
    stmt_visits scope (broadcast at l p f) = record { spot = l; kind = a_label; how = mentioned; scope = scope } ∷ end_visits scope scope f
    stmt_visits scope (reduce at l p o t) = record { spot = l; kind = a_label; how = mentioned; scope = scope } ∷ end_visits scope scope t
    stmt_visits scope (allreduce at l p o) = record { spot = l; kind = a_label; how = mentioned; scope = scope } ∷ []

    pub block_visits : Scope → PlainStatements → List Visit
    block_visits scope nothing = []
    block_visits scope (more s rest) = stmt_visits scope s ++ block_visits scope rest

    pub branches_visits : Scope → PlainBranches → List Visit
    branches_visits scope no_branch = []
    branches_visits scope (branch at b bs) = block_visits scope b ++ branches_visits scope bs

-- all names of a file
abbrev pub visits : PlainFile → List Visit
visits f =
    record { spot = f.constant; kind = the_constant; how = declared; scope = no_scope }
    ∷ (record { spot = f.protocol; kind = the_protocol; how = declared; scope = no_scope }
    ∷ (roles_visits f.constant.name f.roles ++ block_visits f.constant.name no_scope f.body.list))
