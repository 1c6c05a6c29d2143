-- The flat protocol of a file with strips at one N: N is put in, each foreach is its items, each `columns` its body for each
-- value of its variable, ascending, and each end is the number of a cell. It says nothing of where statements come from.
--
-- With `role G[0..N-1][0..2]` the body
--     columns (j:0..1) { A() from G[i:0..N-1][j] to G[i][j+1]; }
-- is at N = 2, with `_` for where a statement comes from,
--     message _ 0 2 0 (message _ 1 3 0 (message _ 2 4 0 (message _ 3 5 0 stop)))
--
-- n is N, i and j are values of the variable of a foreach, and v is that of the `columns` around, if there is one.
use Rattle.std.specs.Prelude.{ℕ, suc, ℤ, pos, if◌then◌else◌, Option, Some, None, List, [], ◌∷◌}
use Rattle.pb_affine.specs.Values.{value, range}
use Rattle.pb_text.specs.declared.place.Spot.{Spot}
use Rattle.pb_syntax.specs.declared.tree.RangeText.{RangeText}
use Rattle.pb_syntax.specs.declared.tree.IndexText.{IndexText}
use Rattle.pb_syntax.specs.declared.tree.IndexText.TheVariants.{Zero, At, Bind}
use Rattle.pb_world.specs.Actions.{Barrier, Broadcast, Reduce, Allreduce}
use Rattle.pb_core_language.specs.Flat.{Origin, Block, stop, message, compute, together, choice, looped, again, Branches, no_branch, branch}
use Rattle.pb_core_language.specs.FlatOf.{for_each, operation_of}
use Rattle.pb_core_language.specs.Meaning.{bounds_of, index_of, position_of}
use Rattle.pb_core_language.specs.Names.{Name, same}
use Rattle.pb_strips_syntax.specs.declared.tree.Col.{Col}
use Rattle.pb_strips_syntax.specs.declared.tree.StripEnd.{StripEnd}
use Rattle.pb_strips_syntax.specs.declared.tree.StripRole.{StripRole}
use Rattle.pb_strips_syntax.specs.Columns.{column_of, numbers}
use Rattle.pb_strips_syntax.specs.Flattening.{natural}
use Rattle.pb_strips_syntax.specs.Strips as S
use Rattle.pb_strips_syntax.specs.Strips.{Strip, Strips, StripBranches}
use Rattle.pb_strips_laws.specs.Cells.{Cell, cells, number_in}

-- what the names of a file are: the constant, its roles in order, and labels and kernels in the order of their numbers
pub record StripTable : Type 0 where
  pub constant : Name
  pub roles : List StripRole
  pub labels : List Name
  pub kernels : List Name

abbrev pub names_of : List StripRole → List Name
names_of [] = []
names_of (r ∷ rs) = r.role.name ∷ names_of rs

-- no origin
abbrev pub nowhere : Origin
nowhere = record { mark = record { number = 0; place = record { line = 0; col = 0 } }; ends = [] }

-- the body for each of these values, in order, and then what is done after
abbrev pub for_each_column : List ℕ → (Option ℕ → Block → Block) → Block → Block
for_each_column [] body after = after
for_each_column (c ∷ cs) body after = body (Some c) (for_each_column cs body after)

-- how many loops stand between a continue and the innermost loop of its name
abbrev pub between : Name → List Name → ℕ
between x [] = 0
between x (y ∷ ys) = if same x y then 0 else suc (between x ys)

module _ (t : StripTable) (n : ℤ) where
  abbrev pub column_at : Option Col → Option ℕ → Option ℕ
  column_at None v = None
  column_at (Some col) v = Some (natural (column_of col v))

  -- the cell of an end, and its number
  abbrev pub cell_of : StripEnd → Option ℕ → ℤ → Cell
  cell_of e v i = record { role = position_of e.role.name (names_of t.roles); row = value (index_of t.constant e.index) n i; column = column_at e.col v }

  abbrev pub rank_of : StripEnd → Option ℕ → ℤ → ℕ
  rank_of e v i = number_in (cell_of e v i) (cells t.constant n t.roles)

  abbrev pub label_of : Spot → ℕ
  label_of l = position_of l.name t.labels

  abbrev pub kernel_of : Spot → ℕ
  kernel_of k = position_of k.name t.kernels

  -- the values that a variable runs over
  abbrev pub values : RangeText → ℤ → List ℤ
  values over i = range (value (bounds_of t.constant over).low n i) (value (bounds_of t.constant over).high n i)

  abbrev pub sent : Spot → StripEnd → StripEnd → Option ℕ → ℤ → Block → Block
  sent l from to v i after = message nowhere (rank_of from v i) (rank_of to v i) (label_of l) after

  -- a message, once for each value of the variable that one of its ends binds; the sender's comes first
  abbrev pub by_receiver : Spot → StripEnd → StripEnd → IndexText → Option ℕ → ℤ → Block → Block
  by_receiver l from to Zero v i after = sent l from to v i after
  by_receiver l from to (At x) v i after = sent l from to v i after
  by_receiver l from to (Bind x over) v i after = for_each (values over i) (λ j. sent l from to v j) after

  abbrev pub by_sender : Spot → StripEnd → StripEnd → IndexText → Option ℕ → ℤ → Block → Block
  by_sender l from to Zero v i after = by_receiver l from to to.index v i after
  by_sender l from to (At x) v i after = by_receiver l from to to.index v i after
  by_sender l from to (Bind x over) v i after = for_each (values over i) (λ j. sent l from to v j) after

  -- A statement inside the loops with the names `opens`, the innermost first, and what is done after it. What stands behind a
  -- continue is dropped.
  abbrev mutual
    pub strip_stmt : Strip → List Name → Option ℕ → ℤ → Block → Block
    strip_stmt (S.message l carries from to) opens v i after = by_sender l from to from.index v i after
    strip_stmt (S.foreach place x over at items) opens v i after = for_each (values over i) (λ j. strip_block items opens v j) after
    strip_stmt (S.loop place x at body) opens v i after = looped nowhere (strip_block body (x.name ∷ opens) v i stop) after
    strip_stmt (S.again place x) opens v i after = again (between x.name opens)
    strip_stmt (S.choice place k who branches) opens v i after = choice nowhere (rank_of who v i) (kernel_of k) (strip_branches branches opens v i) after
    strip_stmt (S.compute place k who) opens v i after = compute nowhere (rank_of who v i) (kernel_of k) after
    strip_stmt (S.barrier place) opens v i after = together nowhere Barrier after
    strip_stmt (S.broadcast place l carries from) opens v i after = together nowhere (Broadcast (label_of l) (rank_of from v i)) after
    strip_stmt (S.reduce place l carries by to) opens v i after = together nowhere (Reduce (label_of l) (operation_of by) (rank_of to v i)) after
    strip_stmt (S.allreduce place l carries by) opens v i after = together nowhere (Allreduce (label_of l) (operation_of by)) after
    strip_stmt (S.columns place x low high at body) opens v i after = for_each_column (numbers low high) (λ c. strip_block body opens c i) after

    pub strip_block : Strips → List Name → Option ℕ → ℤ → Block → Block
    strip_block S.nothing opens v i after = after
    strip_block (S.more first rest) opens v i after = strip_stmt first opens v i (strip_block rest opens v i after)

    pub strip_branches : StripBranches → List Name → Option ℕ → ℤ → Branches
    strip_branches S.no_branch opens v i = no_branch
    strip_branches (S.branch at first rest) opens v i = branch nowhere.mark (strip_block first opens v i stop) (strip_branches rest opens v i)

  abbrev pub strip : Strips → Block
  strip body = strip_block body [] None (pos 0) stop

-- a flat protocol without what it says of where statements come from
abbrev mutual
  pub bare : Block → Block
  bare stop = stop
  bare (message origin from to label rest) = message nowhere from to label (bare rest)
  bare (compute origin at kernel rest) = compute nowhere at kernel (bare rest)
  bare (together origin joint rest) = together nowhere joint (bare rest)
  bare (choice origin at kernel branches rest) = choice nowhere at kernel (bare_branches branches) (bare rest)
  bare (looped origin body rest) = looped nowhere (bare body) (bare rest)
  bare (again between) = again between

  pub bare_branches : Branches → Branches
  bare_branches no_branch = no_branch
  bare_branches (branch mark first rest) = branch nowhere.mark (bare first) (bare_branches rest)
