-- What a flat protocol has at each statement, it has at a site at a value of its variable, and at each site.
use Rattle.std.proofs.Common.{◌≡◌, ℕ, ℤ, pos, true, false, ◌&&◌, not, ◌||◌, nat_lt, if◌then◌else◌, ◌⊎◌, inl, inr, Option, Some, None, List, [], ◌∷◌, ◌++◌, refl, sym, ap, subst}
use Rattle.std.proofs.lemmas.Bool.{and_parts, cond-false, cases_Bool, true≢false}
use Rattle.pb_affine.specs.Values.{value, range}
use Rattle.pb_core_language.specs.declared.protocol.CoreRole.{CoreRole}
use Rattle.pb_core_language.specs.declared.tree.CoreEnd.{CoreEnd}
use Rattle.pb_core_language.specs.Tree.{Mark, StmtTree, message, foreach, loop, again, choice, run, barrier, broadcast, reduce, allreduce, BlockTree, nothing, more, BranchTrees, no_branch, branch, is_again}
use Rattle.pb_core_language.specs.declared.tree.Bounds.{Bounds}
use Rattle.pb_core_language.specs.Flat as F
use Rattle.pb_core_language.specs.Flat.{Asked, Origin}
use Rattle.pb_core_language.specs.FlatOf.{for_each, from_none, from_one, from_two, flat_stmt, flat_block, flat_branches}
use Rattle.pb_core_language.specs.Rules.{each_origin, each_origin_among}
use Rattle.pb_core_language.specs.Sound.{Rows, is_item, is_stmt, is_block, are_branches, has_branch, is_end, is_bound}
use Rattle.pb_rules.specs.Sites.{Site, one, two, stmt_sites, block_sites, branches_sites}
use Rattle.pb_rules.proofs.Lists.{Has, has_cases, has_left, has_right}

-- x is a value of the variable, or 0 where no variable runs
abbrev pub IsValue : Option Bounds → ℤ → ℤ → Type 0
IsValue None n x = x ≡ pos 0
IsValue (Some o) n x = Has (range (value o.low n (pos 0)) (value o.high n (pos 0))) x

-- the site has it at a value of its variable
abbrev pub At : ℤ → (Origin → List Asked) → Site → Asked → Type 0
At n f (one over m e) a = (x : ℤ) × IsValue over n x × Has (f (from_one m e n x)) a
At n f (two over m s t) a = (x : ℤ) × IsValue over n x × Has (f (from_two m s t n x)) a

abbrev pub AnyAt : ℤ → (Origin → List Asked) → List Site → Asked → Type 0
AnyAt n f [] a = ⊥
AnyAt n f (s ∷ ss) a = At n f s a ⊎ AnyAt n f ss a

any_left : (n : ℤ) (f : Origin → List Asked) (ss ts : List Site) (a : Asked) → AnyAt n f ss a → AnyAt n f (ss ++ ts) a
any_left n f [] ts a h = absurd h
any_left n f (s ∷ ss) ts a (inl h) = inl h
any_left n f (s ∷ ss) ts a (inr h) = inr (any_left n f ss ts a h)

any_right : (n : ℤ) (f : Origin → List Asked) (ss ts : List Site) (a : Asked) → AnyAt n f ts a → AnyAt n f (ss ++ ts) a
any_right n f [] ts a h = h
any_right n f (s ∷ ss) ts a h = inr (any_right n f ss ts a h)

any_cases : (n : ℤ) (f : Origin → List Asked) (ss ts : List Site) (a : Asked) → AnyAt n f (ss ++ ts) a → AnyAt n f ss a ⊎ AnyAt n f ts a
any_cases n f [] ts a h = inr h
any_cases n f (s ∷ ss) ts a (inl h) = inl (inl h)
any_cases n f (s ∷ ss) ts a (inr h) = elim (any_cases n f ss ts a h) [ inl x ↦ inl (inr x) | inr y ↦ inr y ]

pub sites_more : (over : Option Bounds) (m : Mark) (s : StmtTree) (b : BlockTree) → is_again s ≡ false → block_sites over (more m s b) ≡ stmt_sites over m s ++ block_sites over b
sites_more over m s b e = cond-false (is_again s) [] (stmt_sites over m s ++ block_sites over b) e

module _ (roles : List CoreRole) (n : ℤ) (of_origin : Origin → List Asked) (of_none : (m : Mark) → of_origin (from_none m) ≡ []) where
  item_rest : (rows : Rows) (opens : List ℕ) (m : Mark) (s : StmtTree) (b : BlockTree) → is_block rows true opens (more m s b) ≡ true → is_block rows true opens b ≡ true
  item_rest rows opens m s b h = (and_parts (is_stmt rows true opens s) (is_block rows true opens b) (and_parts (not true || is_item s) _ h).1).1

  foreach_items : (rows : Rows) (opens : List ℕ) (b : Bounds) (k : Mark) (items : BlockTree) → is_stmt rows false opens (foreach b k items) ≡ true → is_block rows true opens items ≡ true
  foreach_items rows opens b k items h = (and_parts (is_bound b.high) (is_block rows true opens items) (and_parts (is_bound b.low) (is_bound b.high && is_block rows true opens items) h).1).1

  choice_branches : (rows : Rows) (opens : List ℕ) (k : ℕ) (at : CoreEnd) (bs : BranchTrees) → is_stmt rows false opens (choice k at bs) ≡ true → are_branches rows opens bs ≡ true
  choice_branches rows opens k at bs h =
      (and_parts (has_branch bs) (are_branches rows opens bs) (and_parts (is_end rows false at) (has_branch bs && are_branches rows opens bs) (and_parts (nat_lt k rows.kernels) (is_end rows false at && (has_branch bs && are_branches rows opens bs)) h).1).1).1

  abbrev In : F.Block → Asked → Type 0
  In g a = Has (each_origin of_origin g) a

  -- an origin with no end has nothing
  past_none : (m : Mark) (list : List Asked) (a : Asked) → Has (of_origin (from_none m) ++ list) a → Has list a
  past_none m list a h = subst (λ l. Has (l ++ list) a) (of_none m) h

  none_past : (m : Mark) (list : List Asked) (a : Asked) → Has list a → Has (of_origin (from_none m) ++ list) a
  none_past m list a h = has_right (of_origin (from_none m)) list a h

  -- ---- a foreach

  -- an item at one value of the variable
  item_to : (rows : Rows) (opens : List ℕ) (o : Bounds) (x : ℤ) (b : BlockTree) (rest : F.Block) (a : Asked) → is_block rows true opens b ≡ true → IsValue (Some o) n x
      → In (flat_block roles n opens x b rest) a → AnyAt n of_origin (block_sites (Some o) b) a ⊎ In rest a
  item_to rows opens o x nothing rest a sound v h = inr h
  item_to rows opens o x (more m (message l f t) b) rest a sound v h =
      elim (has_cases (of_origin (from_two m f t n x)) (each_origin of_origin (flat_block roles n opens x b rest)) a h) [
        | inl here ↦ inl (inl (x, v, here))
        | inr there ↦ elim (item_to rows opens o x b rest a (item_rest rows opens m (message l f t) b sound) v there) [ inl y ↦ inl (inr y) | inr z ↦ inr z ]
      ]
  item_to rows opens o x (more m (run k at) b) rest a sound v h =
      elim (has_cases (of_origin (from_one m at n x)) (each_origin of_origin (flat_block roles n opens x b rest)) a h) [
        | inl here ↦ inl (inl (x, v, here))
        | inr there ↦ elim (item_to rows opens o x b rest a (item_rest rows opens m (run k at) b sound) v there) [ inl y ↦ inl (inr y) | inr z ↦ inr z ]
      ]
  item_to rows opens o x (more m (foreach h k items) b) rest a sound v i = absurd (true≢false (sym sound))
  item_to rows opens o x (more m (loop id k body) b) rest a sound v i = absurd (true≢false (sym sound))
  item_to rows opens o x (more m (again id) b) rest a sound v i = absurd (true≢false (sym sound))
  item_to rows opens o x (more m (choice k at bs) b) rest a sound v i = absurd (true≢false (sym sound))
  item_to rows opens o x (more m barrier b) rest a sound v i = absurd (true≢false (sym sound))
  item_to rows opens o x (more m (broadcast l root) b) rest a sound v i = absurd (true≢false (sym sound))
  item_to rows opens o x (more m (reduce l op root) b) rest a sound v i = absurd (true≢false (sym sound))
  item_to rows opens o x (more m (allreduce l op) b) rest a sound v i = absurd (true≢false (sym sound))

  -- the items have what stands behind them
  item_past : (rows : Rows) (opens : List ℕ) (x : ℤ) (b : BlockTree) (rest : F.Block) (a : Asked) → is_block rows true opens b ≡ true → In rest a → In (flat_block roles n opens x b rest) a
  item_past rows opens x nothing rest a sound h = h
  item_past rows opens x (more m (message l f t) b) rest a sound h = has_right (of_origin (from_two m f t n x)) _ a (item_past rows opens x b rest a (item_rest rows opens m (message l f t) b sound) h)
  item_past rows opens x (more m (run k at) b) rest a sound h = has_right (of_origin (from_one m at n x)) _ a (item_past rows opens x b rest a (item_rest rows opens m (run k at) b sound) h)
  item_past rows opens x (more m (foreach h k items) b) rest a sound i = absurd (true≢false (sym sound))
  item_past rows opens x (more m (loop id k body) b) rest a sound i = absurd (true≢false (sym sound))
  item_past rows opens x (more m (again id) b) rest a sound i = absurd (true≢false (sym sound))
  item_past rows opens x (more m (choice k at bs) b) rest a sound i = absurd (true≢false (sym sound))
  item_past rows opens x (more m barrier b) rest a sound i = absurd (true≢false (sym sound))
  item_past rows opens x (more m (broadcast l root) b) rest a sound i = absurd (true≢false (sym sound))
  item_past rows opens x (more m (reduce l op root) b) rest a sound i = absurd (true≢false (sym sound))
  item_past rows opens x (more m (allreduce l op) b) rest a sound i = absurd (true≢false (sym sound))

  -- a site of the items has a value at which they have it
  item_from : (rows : Rows) (opens : List ℕ) (o : Bounds) (b : BlockTree) (a : Asked) → is_block rows true opens b ≡ true → AnyAt n of_origin (block_sites (Some o) b) a
      → (x : ℤ) × IsValue (Some o) n x × ((rest : F.Block) → In (flat_block roles n opens x b rest) a)
  item_from rows opens o nothing a sound h = absurd h
  item_from rows opens o (more m (message l f t) b) a sound (inl h) = (h.0, h.1, λ rest. has_left (of_origin (from_two m f t n h.0)) _ a h.2)
  item_from rows opens o (more m (message l f t) b) a sound (inr h) =
      let r = item_from rows opens o b a (item_rest rows opens m (message l f t) b sound) h in
      (r.0, r.1, λ rest. has_right (of_origin (from_two m f t n r.0)) _ a (r.2 rest))
  item_from rows opens o (more m (run k at) b) a sound (inl h) = (h.0, h.1, λ rest. has_left (of_origin (from_one m at n h.0)) _ a h.2)
  item_from rows opens o (more m (run k at) b) a sound (inr h) =
      let r = item_from rows opens o b a (item_rest rows opens m (run k at) b sound) h in
      (r.0, r.1, λ rest. has_right (of_origin (from_one m at n r.0)) _ a (r.2 rest))
  item_from rows opens o (more m (foreach h k items) b) a sound i = absurd (true≢false (sym sound))
  item_from rows opens o (more m (loop id k body) b) a sound i = absurd (true≢false (sym sound))
  item_from rows opens o (more m (again id) b) a sound i = absurd (true≢false (sym sound))
  item_from rows opens o (more m (choice k at bs) b) a sound i = absurd (true≢false (sym sound))
  item_from rows opens o (more m barrier b) a sound i = absurd (true≢false (sym sound))
  item_from rows opens o (more m (broadcast l root) b) a sound i = absurd (true≢false (sym sound))
  item_from rows opens o (more m (reduce l op root) b) a sound i = absurd (true≢false (sym sound))
  item_from rows opens o (more m (allreduce l op) b) a sound i = absurd (true≢false (sym sound))

  abbrev each : List ℕ → List ℤ → BlockTree → F.Block → F.Block
  each opens xs b rest = for_each xs (λ x. flat_block roles n opens x b) rest

  each_to : (rows : Rows) (opens : List ℕ) (o : Bounds) (xs : List ℤ) (b : BlockTree) (rest : F.Block) (a : Asked) → is_block rows true opens b ≡ true → ((x : ℤ) → Has xs x → IsValue (Some o) n x)
      → In (each opens xs b rest) a → AnyAt n of_origin (block_sites (Some o) b) a ⊎ In rest a
  each_to rows opens o [] b rest a sound v h = inr h
  each_to rows opens o (x ∷ xs) b rest a sound v h =
      elim (item_to rows opens o x b (each opens xs b rest) a sound (v x (inl refl)) h) [
        | inl here ↦ inl here
        | inr there ↦ each_to rows opens o xs b rest a sound (λ y k. v y (inr k)) there
      ]

  each_past : (rows : Rows) (opens : List ℕ) (xs : List ℤ) (b : BlockTree) (rest : F.Block) (a : Asked) → is_block rows true opens b ≡ true → In rest a → In (each opens xs b rest) a
  each_past rows opens [] b rest a sound h = h
  each_past rows opens (x ∷ xs) b rest a sound h = item_past rows opens x b (each opens xs b rest) a sound (each_past rows opens xs b rest a sound h)

  each_from : (rows : Rows) (opens : List ℕ) (xs : List ℤ) (b : BlockTree) (rest : F.Block) (a : Asked) (x : ℤ) → is_block rows true opens b ≡ true → Has xs x → ((r : F.Block) → In (flat_block roles n opens x b r) a)
      → In (each opens xs b rest) a
  each_from rows opens [] b rest a x sound h k = absurd h
  each_from rows opens (y ∷ xs) b rest a x sound (inl e) k = subst (λ z. In (flat_block roles n opens z b (each opens xs b rest)) a) (sym e) (k (each opens xs b rest))
  each_from rows opens (y ∷ xs) b rest a x sound (inr h) k = item_past rows opens y b (each opens xs b rest) a sound (each_from rows opens xs b rest a x sound h k)

  -- ---- statements

  after_again : (opens : List ℕ) (x : ℤ) (m : Mark) (s : StmtTree) (rest : F.Block) (a : Asked) → is_again s ≡ true → In (flat_stmt roles n opens x m s rest) a → ⊥
  after_again opens x m (message l f t) rest a e h = true≢false (sym e)
  after_again opens x m (foreach b k items) rest a e h = true≢false (sym e)
  after_again opens x m (loop id k body) rest a e h = true≢false (sym e)
  after_again opens x m (again id) rest a e h = h
  after_again opens x m (choice k at bs) rest a e h = true≢false (sym e)
  after_again opens x m (run k at) rest a e h = true≢false (sym e)
  after_again opens x m barrier rest a e h = true≢false (sym e)
  after_again opens x m (broadcast l root) rest a e h = true≢false (sym e)
  after_again opens x m (reduce l op root) rest a e h = true≢false (sym e)
  after_again opens x m (allreduce l op) rest a e h = true≢false (sym e)

  mutual
    stmt_to : (rows : Rows) (opens : List ℕ) (m : Mark) (s : StmtTree) (rest : F.Block) (a : Asked) → is_stmt rows false opens s ≡ true
        → In (flat_stmt roles n opens (pos 0) m s rest) a → AnyAt n of_origin (stmt_sites None m s) a ⊎ In rest a
    stmt_to rows opens m (message l f t) rest a sound h =
        elim (has_cases (of_origin (from_two m f t n (pos 0))) (each_origin of_origin rest) a h) [ inl here ↦ inl (inl (pos 0, refl, here)) | inr there ↦ inr there ]
    stmt_to rows opens m (foreach b k items) rest a sound h =
        each_to rows opens b (range (value b.low n (pos 0)) (value b.high n (pos 0))) items rest a (foreach_items rows opens b k items sound) (λ x v. v) h
    stmt_to rows opens m (loop id k body) rest a sound h =
        elim (has_cases (each_origin of_origin (flat_block roles n (id ∷ opens) (pos 0) body F.stop)) (each_origin of_origin rest) a (past_none m _ a h)) [
          | inl here ↦ elim (block_to rows (id ∷ opens) body F.stop a (and_parts _ _ sound).1 here) [ inl y ↦ inl y | inr z ↦ absurd z ]
          | inr there ↦ inr there
        ]
    stmt_to rows opens m (again id) rest a sound h = absurd h
    stmt_to rows opens m (choice k at bs) rest a sound h =
        elim (has_cases (of_origin (from_one m at n (pos 0))) (each_origin_among of_origin (flat_branches roles n opens (pos 0) bs) ++ each_origin of_origin rest) a h) [
          | inl here ↦ inl (inl (pos 0, refl, here))
          | inr there ↦ elim (has_cases (each_origin_among of_origin (flat_branches roles n opens (pos 0) bs)) (each_origin of_origin rest) a there) [
            | inl y ↦ inl (inr (branches_to rows opens bs a (choice_branches rows opens k at bs sound) y))
            | inr z ↦ inr z
          ]
        ]
    stmt_to rows opens m (run k at) rest a sound h =
        elim (has_cases (of_origin (from_one m at n (pos 0))) (each_origin of_origin rest) a h) [ inl here ↦ inl (inl (pos 0, refl, here)) | inr there ↦ inr there ]
    stmt_to rows opens m barrier rest a sound h = inr (past_none m _ a h)
    stmt_to rows opens m (broadcast l root) rest a sound h =
        elim (has_cases (of_origin (from_one m root n (pos 0))) (each_origin of_origin rest) a h) [ inl here ↦ inl (inl (pos 0, refl, here)) | inr there ↦ inr there ]
    stmt_to rows opens m (reduce l op root) rest a sound h =
        elim (has_cases (of_origin (from_one m root n (pos 0))) (each_origin of_origin rest) a h) [ inl here ↦ inl (inl (pos 0, refl, here)) | inr there ↦ inr there ]
    stmt_to rows opens m (allreduce l op) rest a sound h = inr (past_none m _ a h)

    pub block_to : (rows : Rows) (opens : List ℕ) (b : BlockTree) (rest : F.Block) (a : Asked) → is_block rows false opens b ≡ true
        → In (flat_block roles n opens (pos 0) b rest) a → AnyAt n of_origin (block_sites None b) a ⊎ In rest a
    block_to rows opens nothing rest a sound h = inr h
    block_to rows opens (more m s b) rest a sound h =
        let parts = and_parts (is_stmt rows false opens s) (is_block rows false opens b) sound in
        elim (cases_Bool (is_again s)) [
          | inl yes_again ↦ absurd (after_again opens (pos 0) m s (flat_block roles n opens (pos 0) b rest) a yes_again h)
          | inr not_again ↦ subst (λ l. AnyAt n of_origin l a ⊎ In rest a) (sym (sites_more None m s b not_again))
              (elim (stmt_to rows opens m s (flat_block roles n opens (pos 0) b rest) a parts.0 h) [
                | inl here ↦ inl (any_left n of_origin (stmt_sites None m s) (block_sites None b) a here)
                | inr there ↦ elim (block_to rows opens b rest a parts.1 there) [ inl y ↦ inl (any_right n of_origin (stmt_sites None m s) (block_sites None b) a y) | inr z ↦ inr z ]
              ])
        ]

    branches_to : (rows : Rows) (opens : List ℕ) (bs : BranchTrees) (a : Asked) → are_branches rows opens bs ≡ true
        → Has (each_origin_among of_origin (flat_branches roles n opens (pos 0) bs)) a → AnyAt n of_origin (branches_sites None bs) a
    branches_to rows opens no_branch a sound h = absurd h
    branches_to rows opens (branch m b bs) a sound h =
        elim (has_cases (each_origin of_origin (flat_block roles n opens (pos 0) b F.stop)) (each_origin_among of_origin (flat_branches roles n opens (pos 0) bs)) a h) [
          | inl here ↦ elim (block_to rows opens b F.stop a (and_parts _ _ sound).0 here) [ inl y ↦ any_left n of_origin (block_sites None b) (branches_sites None bs) a y | inr z ↦ absurd z ]
          | inr there ↦ any_right n of_origin (block_sites None b) (branches_sites None bs) a (branches_to rows opens bs a (and_parts _ _ sound).1 there)
        ]

  stmt_past : (rows : Rows) (opens : List ℕ) (m : Mark) (s : StmtTree) (rest : F.Block) (a : Asked) → is_stmt rows false opens s ≡ true → is_again s ≡ false
      → In rest a → In (flat_stmt roles n opens (pos 0) m s rest) a
  stmt_past rows opens m (message l f t) rest a sound e h = has_right (of_origin (from_two m f t n (pos 0))) _ a h
  stmt_past rows opens m (foreach b k items) rest a sound e h =
      each_past rows opens (range (value b.low n (pos 0)) (value b.high n (pos 0))) items rest a (foreach_items rows opens b k items sound) h
  stmt_past rows opens m (loop id k body) rest a sound e h =
      none_past m _ a (has_right (each_origin of_origin (flat_block roles n (id ∷ opens) (pos 0) body F.stop)) _ a h)
  stmt_past rows opens m (again id) rest a sound e h = absurd (true≢false e)
  stmt_past rows opens m (choice k at bs) rest a sound e h =
      has_right (of_origin (from_one m at n (pos 0))) _ a (has_right (each_origin_among of_origin (flat_branches roles n opens (pos 0) bs)) _ a h)
  stmt_past rows opens m (run k at) rest a sound e h = has_right (of_origin (from_one m at n (pos 0))) _ a h
  stmt_past rows opens m barrier rest a sound e h = none_past m _ a h
  stmt_past rows opens m (broadcast l root) rest a sound e h = has_right (of_origin (from_one m root n (pos 0))) _ a h
  stmt_past rows opens m (reduce l op root) rest a sound e h = has_right (of_origin (from_one m root n (pos 0))) _ a h
  stmt_past rows opens m (allreduce l op) rest a sound e h = none_past m _ a h

  -- a value of 0 is the only one outside a foreach
  at_zero : (m : Mark) (e : CoreEnd) (a : Asked) → At n of_origin (one None m e) a → Has (of_origin (from_one m e n (pos 0))) a
  at_zero m e a h = subst (λ x. Has (of_origin (from_one m e n x)) a) h.1 h.2

  mutual
    stmt_from : (rows : Rows) (opens : List ℕ) (m : Mark) (s : StmtTree) (rest : F.Block) (a : Asked) → is_stmt rows false opens s ≡ true
        → AnyAt n of_origin (stmt_sites None m s) a → In (flat_stmt roles n opens (pos 0) m s rest) a
    stmt_from rows opens m (message l f t) rest a sound (inl h) = has_left (of_origin (from_two m f t n (pos 0))) _ a (subst (λ x. Has (of_origin (from_two m f t n x)) a) h.1 h.2)
    stmt_from rows opens m (message l f t) rest a sound (inr h) = absurd h
    stmt_from rows opens m (foreach b k items) rest a sound h =
        let s = foreach_items rows opens b k items sound in
        let r = item_from rows opens b items a s h in
        each_from rows opens (range (value b.low n (pos 0)) (value b.high n (pos 0))) items rest a r.0 s r.1 r.2
    stmt_from rows opens m (loop id k body) rest a sound h =
        none_past m _ a (has_left (each_origin of_origin (flat_block roles n (id ∷ opens) (pos 0) body F.stop)) _ a (block_from rows (id ∷ opens) body F.stop a (and_parts _ _ sound).1 h))
    stmt_from rows opens m (again id) rest a sound h = absurd h
    stmt_from rows opens m (choice k at bs) rest a sound (inl h) = has_left (of_origin (from_one m at n (pos 0))) _ a (at_zero m at a h)
    stmt_from rows opens m (choice k at bs) rest a sound (inr h) =
        has_right (of_origin (from_one m at n (pos 0))) _ a
        (has_left (each_origin_among of_origin (flat_branches roles n opens (pos 0) bs)) _ a (branches_from rows opens bs a (choice_branches rows opens k at bs sound) h))
    stmt_from rows opens m (run k at) rest a sound (inl h) = has_left (of_origin (from_one m at n (pos 0))) _ a (at_zero m at a h)
    stmt_from rows opens m (run k at) rest a sound (inr h) = absurd h
    stmt_from rows opens m barrier rest a sound h = absurd h
    stmt_from rows opens m (broadcast l root) rest a sound (inl h) = has_left (of_origin (from_one m root n (pos 0))) _ a (at_zero m root a h)
    stmt_from rows opens m (broadcast l root) rest a sound (inr h) = absurd h
    stmt_from rows opens m (reduce l op root) rest a sound (inl h) = has_left (of_origin (from_one m root n (pos 0))) _ a (at_zero m root a h)
    stmt_from rows opens m (reduce l op root) rest a sound (inr h) = absurd h
    stmt_from rows opens m (allreduce l op) rest a sound h = absurd h

    pub block_from : (rows : Rows) (opens : List ℕ) (b : BlockTree) (rest : F.Block) (a : Asked) → is_block rows false opens b ≡ true
        → AnyAt n of_origin (block_sites None b) a → In (flat_block roles n opens (pos 0) b rest) a
    block_from rows opens nothing rest a sound h = absurd h
    block_from rows opens (more m s b) rest a sound h =
        let parts = and_parts (is_stmt rows false opens s) (is_block rows false opens b) sound in
        elim (cases_Bool (is_again s)) [
          | inl yes_again ↦ absurd (subst (λ l. AnyAt n of_origin l a) (ap (λ u. if u then [] else (stmt_sites None m s ++ block_sites None b)) yes_again) h)
          | inr not_again ↦ elim (any_cases n of_origin (stmt_sites None m s) (block_sites None b) a (subst (λ l. AnyAt n of_origin l a) (sites_more None m s b not_again) h)) [
            | inl here ↦ stmt_from rows opens m s (flat_block roles n opens (pos 0) b rest) a parts.0 here
            | inr there ↦ stmt_past rows opens m s (flat_block roles n opens (pos 0) b rest) a parts.0 not_again (block_from rows opens b rest a parts.1 there)
          ]
        ]

    branches_from : (rows : Rows) (opens : List ℕ) (bs : BranchTrees) (a : Asked) → are_branches rows opens bs ≡ true
        → AnyAt n of_origin (branches_sites None bs) a → Has (each_origin_among of_origin (flat_branches roles n opens (pos 0) bs)) a
    branches_from rows opens no_branch a sound h = absurd h
    branches_from rows opens (branch m b bs) a sound h =
        elim (any_cases n of_origin (block_sites None b) (branches_sites None bs) a h) [
          | inl here ↦ has_left (each_origin of_origin (flat_block roles n opens (pos 0) b F.stop)) _ a (block_from rows opens b F.stop a (and_parts _ _ sound).0 here)
          | inr there ↦ has_right (each_origin of_origin (flat_block roles n opens (pos 0) b F.stop)) _ a (branches_from rows opens bs a (and_parts _ _ sound).1 there)
        ]
