-- What a file within the limits means is sound where the file keeps the rules 1 to 5.
use Rattle.std.proofs.Common.{◌≡◌, ℕ, suc, ◌+◌, ◌≤◌, Bool, true, false, ◌||◌, ◌&&◌, not, nat_eq, nat_lt, nat_le, if◌then◌else◌, Option, Some, None, List, [], ◌∷◌, length, refl, sym, ap, subst, ◌∙◌, arith}
use Rattle.std.proofs.lemmas.Bool.Decides.{nat_tests}
use Rattle.std.specs.List.{list_any}
use Rattle.std.proofs.lemmas.Bool.{not-false, or_right, and_parts}
use Rattle.pb_affine.specs.declared.lin.Base.TheVariants.{Param, Var}
use Rattle.pb_text.specs.declared.place.Spot.{Spot}
use Rattle.pb_syntax.specs.declared.core_label.CoreKernel.{CoreKernel}
use Rattle.pb_syntax.specs.declared.core_label.CoreLabel.{CoreLabel}
use Rattle.pb_syntax.specs.declared.tree.LinText.{LinText}
use Rattle.pb_syntax.specs.declared.tree.RangeText.{RangeText}
use Rattle.pb_syntax.specs.declared.tree.IndexText.{IndexText}
use Rattle.pb_syntax.specs.declared.tree.IndexText.TheVariants.{Zero, At, Bind}
use Rattle.pb_syntax.specs.declared.tree.End.{End}
use Rattle.pb_syntax.specs.declared.tree.RoleText.{RoleText}
use Rattle.pb_syntax.specs.Tree as F
use Rattle.pb_syntax.specs.Tree.{PlainStatement, compute, PlainStatements, PlainBranches, PlainFile}
use Rattle.pb_core_language.specs.Names.{Name, same, is_named, the_constant, a_variable, mentioned, Scope, no_scope, with_loop, with_variable, lin_visits, range_visits, index_visits, end_visits, index_binds, role_visits, roles_visits, stmt_visits, block_visits, branches_visits}
use Rattle.pb_core_language.specs.FileRules.{role_names, labels_at, labels_in, labels_among, is_nothing, astray_at, astray_in, astray_among}
use Rattle.pb_core_language.specs.Meaning.{position_of, has_label, has_kernel, label_names, labels_of, kernel_names, kernels_at, kernels_in, kernels_among, kernels_of, Table, lin_of, index_of, end_of, message_of, bound_message, with_sender, Open, id_of, stmt_of, block_of, branches_of, role_of, roles_of, stmts_at, stmts_in, blocks_at, blocks_in, table_of, meaning}
use Rattle.pb_core_language.specs.Sound.{is_small, is_over_n, is_bound, Rows, is_end, is_item, has_branch, is_stmt, is_block, are_branches, are_roles, is_sound}
use Rattle.pb_parse_laws.specs.Laws.{ParsedIsSound}
use Rattle.pb_parse_laws.proofs.Forms.{small_pos}
use Rattle.pb_parse_laws.proofs.Shape.{IsSmallLin, IsSmallRange, IsSmallOver, IsSmallIndex, IsPlainIndex, IsSmallEnd, IsPlainEnd, AreSmallRoles, IsItem, AreItems, HasBranch, IsShaped, AreShaped, AreBranches, IsShapedFile}
use Rattle.pb_parse_laws.proofs.Statements.{file_shaped}
use Rattle.pb_parse_laws.proofs.Named.{below, named_below, label_below, HaveRows, have_rows, rows_both, kernel_below, HaveKernels, have_kernels, kernels_both}
use Rattle.pb_parse_laws.proofs.Kept.{both_none, some_if, AreRight, right_both, Kept, kept}

both : {a b : Bool} → a ≡ true → b ≡ true → (a && b) ≡ true
both h g = rw (h, g) refl

-- ---- lins

off_is : (c : Name) (l : LinText) → (lin_of c l).off ≡ l.off
off_is c l = at l.base
  where
    at : (b : Option Spot) → (lin_of c (record { base = b; off = l.off; place = l.place })).off ≡ l.off
    at None = refl
    at (Some x) = refl

small_is : (c : Name) (l : LinText) → IsSmallLin l → is_small (lin_of c l).off ≡ true
small_is c l h = ap is_small (off_is c l) ∙ h

-- no variable in scope, no variable
over_n : (roles : List Name) (c : Name) (scope : Scope) (l : LinText) → scope.variables ≡ [] → AreRight roles (lin_visits c scope l) → is_over_n (lin_of c l).base ≡ true
over_n roles c scope l none h = at l.base h
  where
    of_name : (x : Spot) (b : Bool) → AreRight roles (record { spot = x; kind = if b then the_constant else a_variable; how = mentioned; scope = scope } ∷ []) → is_over_n (if b then Param else Var) ≡ true
    of_name x true h = refl
    of_name x false h = absurd (unknown scope.variables none (not-false (is_named x.name scope.variables) h.0))
      where
        unknown : (vs : List Name) → vs ≡ [] → is_named x.name vs ≡ true → ⊥
        unknown [] e h = grind arith
        unknown (v ∷ vs) e h = grind arith

    at : (b : Option Spot) → AreRight roles (lin_visits c scope (record { base = b; off = l.off; place = l.place })) → is_over_n (lin_of c (record { base = b; off = l.off; place = l.place })).base ≡ true
    at None h = refl
    at (Some x) h = of_name x (same x.name c) h

bound_is : (roles : List Name) (c : Name) (scope : Scope) (l : LinText) → scope.variables ≡ [] → IsSmallLin l → AreRight roles (lin_visits c scope l) → is_bound (lin_of c l) ≡ true
bound_is roles c scope l none small h = both (over_n roles c scope l none h) (small_is c l small)

-- ---- roles

roles_length : (c : Name) (rs : List RoleText) → length (roles_of c rs) ≡ length rs
roles_length c [] = refl
roles_length c (r ∷ rs) = ap suc (roles_length c rs)

names_length : (rs : List RoleText) → length (role_names rs) ≡ length rs
names_length [] = refl
names_length (r ∷ rs) = ap suc (names_length rs)

roles_sound : (names : List Name) (c : Name) (rs : List RoleText) → AreSmallRoles rs → AreRight names (roles_visits c rs) → are_roles (roles_of c rs) ≡ true
roles_sound names c [] small h = refl
roles_sound names c (r ∷ rs) small h =
    let g = right_both names (role_visits c r) (roles_visits c rs) h in
    at r.range small.0 g.0 (roles_sound names c rs small.1 g.1)
  where
    at : (over : Option RangeText) → IsSmallOver over → AreRight names (role_visits c (record { role = r.role; range = over })) → are_roles (roles_of c rs) ≡ true
        → (is_bound (role_of c (record { role = r.role; range = over })).low && (is_bound (role_of c (record { role = r.role; range = over })).high && are_roles (roles_of c rs))) ≡ true
    at None s g rest = rest
    at (Some over) s g rest =
        let k = right_both names (lin_visits c no_scope over.low) (lin_visits c no_scope over.high) g.1 in
        both (bound_is names c no_scope over.low refl s.0 k.0) (both (bound_is names c no_scope over.high refl s.1 k.1) rest)

-- ---- loops

abbrev ids : List Open → List ℕ
ids [] = []
ids (o ∷ os) = o.id ∷ ids os

abbrev open_names : List Open → List Name
open_names [] = []
open_names (o ∷ os) = o.name ∷ open_names os

ids_length : (os : List Open) → length (ids os) ≡ length os
ids_length [] = refl
ids_length (o ∷ os) = ap suc (ids_length os)

opened : (x : Name) (os : List Open) → is_named x (open_names os) ≡ true → list_any (nat_eq (id_of x os)) (ids os) ≡ true
opened x [] h = absurd (grind arith)
opened x (o ∷ os) h = at (same x o.name) (opened x os) h
  where
    at : (b : Bool) → (is_named x (open_names os) ≡ true → list_any (nat_eq (id_of x os)) (ids os) ≡ true) → (b || is_named x (open_names os)) ≡ true
        → (nat_eq (if b then o.id else id_of x os) o.id || list_any (nat_eq (if b then o.id else id_of x os)) (ids os)) ≡ true
    at true rest h = ap (λ b. b || list_any (nat_eq o.id) (ids os)) (alike o.id)
      where
        alike : (n : ℕ) → nat_eq n n ≡ true
        alike n = grind (arith, nat_tests)
    at false rest h = or_right (nat_eq (id_of x os) o.id) _ (rest h)

-- ---- statements

has_branches : (t : Table) (os : List Open) (s b : ℕ) (bs : PlainBranches) → HasBranch bs → has_branch (branches_of t os s b bs) ≡ true
has_branches t os s b F.no_branch h = absurd h
has_branches t os s b (F.branch at x bs) h = refl

plain_small : (i : IndexText) → IsPlainIndex i → IsSmallIndex i
plain_small Zero p = tt
plain_small (At l) p = p
plain_small (Bind x over) p = absurd p

module _ (c : Name) (roles : List Name) (labels : List CoreLabel) (kernels : List CoreKernel) where
  abbrev rows : Rows
  rows = record { roles = length roles; labels = length labels; kernels = length kernels }

  abbrev table : Table
  table = record { constant = c; roles = roles; labels = label_names labels; kernels = kernel_names kernels }

  label_found : (x : Name) → has_label x labels ≡ true → nat_lt (position_of x (label_names labels)) (length labels) ≡ true
  label_found x h = below _ _ (label_below x labels h)

  kernel_found : (x : Name) → has_kernel x kernels ≡ true → nat_lt (position_of x (kernel_names kernels)) (length kernels) ≡ true
  kernel_found x h = below _ _ (kernel_below x kernels h)

  role_found : (x : Name) → not (is_named x roles) ≡ false → nat_lt (position_of x roles) (length roles) ≡ true
  role_found x h = below _ _ (named_below x roles (not-false _ h))

  small_index : (i : IndexText) → IsSmallIndex i → is_small (index_of c i).off ≡ true
  small_index Zero small = small_pos 0 (omega arith)
  small_index (At l) small = small_is c l small
  small_index (Bind x over) small = small_pos 0 (omega arith)

  fixed_index : (scope inside : Scope) (i : IndexText) → IsPlainIndex i → inside.variables ≡ [] → AreRight roles (index_visits c scope inside i) → is_over_n (index_of c i).base ≡ true
  fixed_index scope inside Zero plain none h = refl
  fixed_index scope inside (At l) plain none h = over_n roles c inside l none h
  fixed_index scope inside (Bind x over) plain none h = absurd plain

  -- an end where a variable may stand, and one where none may
  end_inside : (scope inside : Scope) (e : End) → IsSmallEnd e → AreRight roles (end_visits c scope inside e) → is_end rows true (end_of table e) ≡ true
  end_inside scope inside e small h = both (role_found e.role.name h.0) (small_index e.index small)

  end_outside : (scope inside : Scope) (e : End) → IsPlainEnd e → inside.variables ≡ [] → AreRight roles (end_visits c scope inside e) → is_end rows false (end_of table e) ≡ true
  end_outside scope inside e plain none h =
      both (role_found e.role.name h.0) (both (fixed_index scope inside e.index plain none h.1) (small_index e.index (plain_small e.index plain)))

  -- ---- a foreach's items

  item_sound : (x : PlainStatement) (scope : Scope) (os : List Open) (opens : List ℕ) (s b : ℕ) → IsItem x → AreRight roles (stmt_visits c scope x) → HaveRows labels (labels_at x) → HaveKernels kernels (kernels_at x)
      → (is_item (stmt_of table os s b x) ≡ true) × (is_stmt rows true opens (stmt_of table os s b x) ≡ true)
  item_sound (F.message l p f to) scope os opens s b item h has kernels_has =
      let inside = index_binds c (index_binds c scope f.index) to.index in
      let g = right_both roles (end_visits c scope inside f) (end_visits c scope inside to) h.1 in
      at f.index to.index item.0 item.1 (both (label_found l.name has.0) (both (end_inside scope inside f (plain_small f.index item.0) g.0) (end_inside scope inside to (plain_small to.index item.1) g.1)))
    where
      at : (fi ti : IndexText) → IsPlainIndex fi → IsPlainIndex ti → is_stmt rows true opens (message_of table l f to) ≡ true
          → (is_item (with_sender table s b l f to fi (with_sender table s b l f to ti (message_of table l f to))) ≡ true)
          × (is_stmt rows true opens (with_sender table s b l f to fi (with_sender table s b l f to ti (message_of table l f to))) ≡ true)
      at Zero Zero p q m = (refl, m)
      at Zero (At y) p q m = (refl, m)
      at (At x) Zero p q m = (refl, m)
      at (At x) (At y) p q m = (refl, m)
      at Zero (Bind y over) p q m = absurd q
      at (At x) (Bind y over) p q m = absurd q
      at (Bind x over) ti p q m = absurd p
  item_sound (compute at k who) scope os opens s b item h has kernels_has = (refl, both (kernel_found k.name kernels_has.0) (end_inside scope scope who (plain_small who.index item) h.1))
  item_sound (F.foreach at x over place items) scope os opens s b item h has kernels_has = absurd item
  item_sound (F.loop at x place body) scope os opens s b item h has kernels_has = absurd item
  item_sound (F.again at x) scope os opens s b item h has kernels_has = absurd item
  item_sound (F.choice at k who bs) scope os opens s b item h has kernels_has = absurd item
  item_sound (F.barrier at) scope os opens s b item h has kernels_has = absurd item
  item_sound (F.broadcast at l p f) scope os opens s b item h has kernels_has = absurd item
  item_sound (F.reduce at l p o t) scope os opens s b item h has kernels_has = absurd item
  item_sound (F.allreduce at l p o) scope os opens s b item h has kernels_has = absurd item

  items_sound : (x : PlainStatements) (scope : Scope) (os : List Open) (opens : List ℕ) (s b : ℕ) → AreItems x → AreRight roles (block_visits c scope x) → HaveRows labels (labels_in x) → HaveKernels kernels (kernels_in x)
      → is_block rows true opens (block_of table os s b x) ≡ true
  items_sound F.nothing scope os opens s b items h has kernels_has = refl
  items_sound (F.more x rest) scope os opens s b items h has kernels_has =
      let g = right_both roles (stmt_visits c scope x) (block_visits c scope rest) h in
      let l = rows_both labels (labels_at x) (labels_in rest) has in
      let k = kernels_both kernels (kernels_at x) (kernels_in rest) kernels_has in
      let one = item_sound x scope os opens s b items.0 g.0 l.0 k.0 in
      both one.0 (both one.1 (items_sound rest scope os opens (s + stmts_at x) (b + blocks_at x) items.1 g.1 l.1 k.1))

  -- ---- messages

  range_sound : (scope : Scope) (over : RangeText) → scope.variables ≡ [] → IsSmallRange over → AreRight roles (range_visits c scope over) → (is_bound (lin_of c over.low) ≡ true) × (is_bound (lin_of c over.high) ≡ true)
  range_sound scope over none small h =
      let g = right_both roles (lin_visits c scope over.low) (lin_visits c scope over.high) h in
      (bound_is roles c scope over.low none small.0 g.0, bound_is roles c scope over.high none small.1 g.1)

  bound_sound : (scope inside : Scope) (opens : List ℕ) (s b : ℕ) (l : Spot) (f to : End) (over : RangeText) → scope.variables ≡ [] → IsSmallRange over → IsSmallEnd f → IsSmallEnd to → has_label l.name labels ≡ true
      → AreRight roles (range_visits c scope over) → AreRight roles (end_visits c scope inside f) → AreRight roles (end_visits c scope inside to) → is_stmt rows false opens (bound_message table s b l f to over) ≡ true
  bound_sound scope inside opens s b l f to over none small fs ts has r g h =
      let e = range_sound scope over none small r in
      both e.0 (both e.1 (both (both (label_found l.name has) (both (end_inside scope inside f fs g) (end_inside scope inside to ts h))) refl))

  message_sound : (scope : Scope) (opens : List ℕ) (s b : ℕ) (l fr tr : Spot) (fi ti : IndexText) → scope.variables ≡ [] → IsSmallIndex fi → IsSmallIndex ti → has_label l.name labels ≡ true
      → (let f : End = record { role = fr; index = fi } in let to : End = record { role = tr; index = ti } in let inside = index_binds c (index_binds c scope fi) ti in
      AreRight roles (end_visits c scope inside f) → AreRight roles (end_visits c scope inside to)
      → is_stmt rows false opens (with_sender table s b l f to fi (with_sender table s b l f to ti (message_of table l f to))) ≡ true)
  message_sound scope opens s b l fr tr Zero Zero none fs ts has g h =
      both (label_found l.name has) (both (end_outside scope scope (record { role = fr; index = Zero }) fs none g) (end_outside scope scope (record { role = tr; index = Zero }) ts none h))
  message_sound scope opens s b l fr tr Zero (At y) none fs ts has g h =
      both (label_found l.name has) (both (end_outside scope scope (record { role = fr; index = Zero }) fs none g) (end_outside scope scope (record { role = tr; index = At y }) ts none h))
  message_sound scope opens s b l fr tr (At x) Zero none fs ts has g h =
      both (label_found l.name has) (both (end_outside scope scope (record { role = fr; index = At x }) fs none g) (end_outside scope scope (record { role = tr; index = Zero }) ts none h))
  message_sound scope opens s b l fr tr (At x) (At y) none fs ts has g h =
      both (label_found l.name has) (both (end_outside scope scope (record { role = fr; index = At x }) fs none g) (end_outside scope scope (record { role = tr; index = At y }) ts none h))
  message_sound scope opens s b l fr tr Zero (Bind y over) none fs ts has g h =
      bound_sound scope (index_binds c scope (Bind y over)) opens s b l (record { role = fr; index = Zero }) (record { role = tr; index = Bind y over }) over none ts fs ts has h.1.1 g h
  message_sound scope opens s b l fr tr (At x) (Bind y over) none fs ts has g h =
      bound_sound scope (index_binds c scope (Bind y over)) opens s b l (record { role = fr; index = At x }) (record { role = tr; index = Bind y over }) over none ts fs ts has h.1.1 g h
  message_sound scope opens s b l fr tr (Bind x over) ti none fs ts has g h =
      bound_sound scope (index_binds c (index_binds c scope (Bind x over)) ti) opens s b l (record { role = fr; index = Bind x over }) (record { role = tr; index = ti }) over none fs fs ts has g.1.1 g h

  -- ---- all statements

  mutual
    stmt_sound : (x : PlainStatement) (scope : Scope) (os : List Open) (s b : ℕ) (last : Bool) → scope.variables ≡ [] → IsShaped (length os) x → AreRight roles (stmt_visits c scope x) → HaveRows labels (labels_at x)
        → HaveKernels kernels (kernels_at x) → astray_at (open_names os) last x ≡ [] → is_stmt rows false (ids os) (stmt_of table os s b x) ≡ true
    stmt_sound (F.message l p f to) scope os s b last none shaped h has kernels_has e =
        let inside = index_binds c (index_binds c scope f.index) to.index in
        let g = right_both roles (end_visits c scope inside f) (end_visits c scope inside to) h.1 in
        message_sound scope (ids os) s b l f.role to.role f.index to.index none shaped.0 shaped.1 has.0 g.0 g.1
    stmt_sound (F.foreach at x over place items) scope os s b last none shaped h has kernels_has e =
        let g = right_both roles (range_visits c scope over) (block_visits c (with_variable x.name scope) items) h.1 in
        let r = range_sound scope over none shaped.0 g.0 in
        both r.0 (both r.1 (items_sound items (with_variable x.name scope) os (ids os) (suc s) (suc b) shaped.1 g.1 has kernels_has))
    stmt_sound (F.loop at x place body) scope os s b last none shaped h has kernels_has e =
        both (below (length (ids os)) 64 (omega (arith, ids_length os, shaped.0)))
        (block_sound body (with_loop x.name scope) (record { name = x.name; id = s } ∷ os) (suc s) (suc b) none shaped.1 h.1 has kernels_has e)
    stmt_sound (F.again at x) scope os s b last none shaped h has kernels_has e = opened x.name os (and_parts last _ (some_if _ at e)).1
    stmt_sound (F.choice at k who bs) scope os s b last none shaped h has kernels_has e =
        let g = right_both roles (end_visits c scope scope who) (branches_visits c scope bs) h.1 in
        both (kernel_found k.name kernels_has.0) (both (end_outside scope scope who shaped.0 none g.0) (both (has_branches table os (suc s) b bs shaped.1.0) (branches_sound bs scope os (suc s) b none shaped.1.1 g.1 has kernels_has.1 e)))
    stmt_sound (compute at k who) scope os s b last none shaped h has kernels_has e = both (kernel_found k.name kernels_has.0) (end_outside scope scope who shaped none h.1)
    stmt_sound (F.barrier at) scope os s b last none shaped h has kernels_has e = refl
    stmt_sound (F.broadcast at l p f) scope os s b last none shaped h has kernels_has e = both (label_found l.name has.0) (end_outside scope scope f shaped none h.1)
    stmt_sound (F.reduce at l p o t) scope os s b last none shaped h has kernels_has e = both (label_found l.name has.0) (end_outside scope scope t shaped none h.1)
    stmt_sound (F.allreduce at l p o) scope os s b last none shaped h has kernels_has e = label_found l.name has.0

    block_sound : (x : PlainStatements) (scope : Scope) (os : List Open) (s b : ℕ) → scope.variables ≡ [] → AreShaped (length os) x → AreRight roles (block_visits c scope x) → HaveRows labels (labels_in x)
        → HaveKernels kernels (kernels_in x) → astray_in (open_names os) x ≡ [] → is_block rows false (ids os) (block_of table os s b x) ≡ true
    block_sound F.nothing scope os s b none shaped h has kernels_has e = refl
    block_sound (F.more x rest) scope os s b none shaped h has kernels_has e =
        let g = right_both roles (stmt_visits c scope x) (block_visits c scope rest) h in
        let l = rows_both labels (labels_at x) (labels_in rest) has in
        let k = kernels_both kernels (kernels_at x) (kernels_in rest) kernels_has in
        let a = both_none (astray_at (open_names os) (is_nothing rest) x) (astray_in (open_names os) rest) e in
        both (stmt_sound x scope os s b (is_nothing rest) none shaped.0 g.0 l.0 k.0 a.0) (block_sound rest scope os (s + stmts_at x) (b + blocks_at x) none shaped.1 g.1 l.1 k.1 a.1)

    branches_sound : (x : PlainBranches) (scope : Scope) (os : List Open) (s b : ℕ) → scope.variables ≡ [] → AreBranches (length os) x → AreRight roles (branches_visits c scope x) → HaveRows labels (labels_among x)
        → HaveKernels kernels (kernels_among x) → astray_among (open_names os) x ≡ [] → are_branches rows (ids os) (branches_of table os s b x) ≡ true
    branches_sound F.no_branch scope os s b none shaped h has kernels_has e = refl
    branches_sound (F.branch at x rest) scope os s b none shaped h has kernels_has e =
        let g = right_both roles (block_visits c scope x) (branches_visits c scope rest) h in
        let l = rows_both labels (labels_in x) (labels_among rest) has in
        let k = kernels_both kernels (kernels_in x) (kernels_among rest) kernels_has in
        let a = both_none (astray_in (open_names os) x) (astray_among (open_names os) rest) e in
        both (block_sound x scope os s (suc b) none shaped.0 g.0 l.0 k.0 a.0) (branches_sound rest scope os (s + stmts_in x) (suc (b + blocks_in x)) none shaped.1 g.1 l.1 k.1 a.1)

-- ---- files

at_most : (k n : ℕ) → k ≤ n → nat_le k n ≡ true
at_most k n h = grind (arith, nat_tests)

file_sound : (f : PlainFile) → IsShapedFile f → Kept f → is_sound (meaning f) ≡ true
file_sound f shaped k =
    let c = f.constant.name in
    let names = role_names f.roles in
    let g = right_both names (roles_visits c f.roles) (block_visits c no_scope f.body.list) k.names.1.1 in
    let count : length names ≡ length (roles_of c f.roles) = names_length f.roles ∙ sym (roles_length c f.roles) in
    let body = block_sound c names (labels_of f) (kernels_of f) f.body.list no_scope [] 0 1 refl shaped.body g.1 (have_rows [] (labels_in f.body.list)) (have_kernels [] (kernels_in f.body.list)) k.continues in
    both (both k.low (both (at_most f.low 100000 shaped.low) k.high))
    (both (at_most (length (roles_of c f.roles)) 64 (omega (arith, roles_length c f.roles, shaped.few)))
    (both (roles_sound names c f.roles shaped.roles g.0)
    (subst (λ n. is_block (record { roles = n; labels = length (labels_of f); kernels = length (kernels_of f) }) false [] (block_of (table_of f) [] 0 1 f.body.list) ≡ true) count body)))

pub parsed_is_sound : ParsedIsSound
parsed_is_sound bytes f text e = file_sound f (file_shaped text.0 f text.2.0 text.2.1).0 (kept f e)
