-- The core of a file that keeps the rules on scopes and ends keeps them.
use Rattle.std.proofs.Common.{◌≡◌, ◌≢◌, ℕ, suc, ◌+◌, Bool, true, false, ◌&&◌, ◌||◌, not, nat_eq, if◌then◌else◌, List, [], ◌∷◌, ◌++◌, refl, sym, ap, ap₂, ◌∙◌, inl, inr}
use Rattle.std.proofs.lemmas.Bool.{eq-eqb, or_right, or_left, and_from, and_parts, cases_Bool}
use Rattle.pb_text.specs.declared.place.Spot.{Spot}
use Rattle.pb_syntax.specs.declared.tree.IndexText.{IndexText}
use Rattle.pb_syntax.specs.declared.tree.IndexText.TheVariants.{Zero, At, Bind}
use Rattle.pb_syntax.specs.declared.tree.End.{End}
use Rattle.pb_syntax.specs.Tree.{PlainStatement, message, foreach, loop, again, choice, compute, barrier, broadcast, reduce, allreduce, PlainStatements, nothing, more, PlainBranches, no_branch, branch, PlainFile}
use Rattle.pb_core_language.specs.Names.{Name, same, is_named}
use Rattle.pb_core_language.specs.FileRules as R
use Rattle.pb_core_language.specs.FileRules.{is_nothing, place_of, astray_at, astray_in, astray_among, loops_can_end, all_loops_can_end, branches_loops_can_end, endless_at, endless_in, endless_among, broken_3, broken_4}
use Rattle.pb_core_language.specs.Meaning.{binds, Table, Open, id_of, with_sender, message_of, bound_message, stmts_at, blocks_at, stmts_in, blocks_in, stmt_of, block_of, branches_of, roles_of, table_of, meaning}
use Rattle.pb_core_language.specs.Tree.{StmtTree}
use Rattle.pb_core_endpoint.specs.Core as C
use Rattle.pb_core_endpoint.specs.Core.{is_simple, are_simple, has_simple_items, have_simple_items, branches_have_simple_items, is_open, has_branch, is_scoped, are_scoped, branches_are_scoped, loops_end_in, all_loops_end, branches_loops_end, keeps_ends, all_keep_ends, branches_keep_ends, IsProper}
use Rattle.pb_core_endpoint.specs.File.{is_item, are_items, has_some, has_shape, have_shape, branches_have_shape, IsShaped}
use Rattle.pb_core_endpoint.proofs.Tests.{none_both}

-- a place that isn't listed
listed_not : {A : Type 0} (t : Bool) (x : A) → (if t then [] else x ∷ []) ≡ [] → t ≡ true
listed_not true x h = refl
listed_not false x h = cc

-- ---- messages: what holds of the foreach of one message, and of a message as it stands, holds of each

by_index : (P : StmtTree → Type 0) (t : Table) (s b : ℕ) (l : Spot) (f to : End) (x : IndexText) (other : StmtTree) → ((over : _) → P (bound_message t s b l f to over)) → P other → P (with_sender t s b l f to x other)
by_index P t s b l f to Zero other h k = k
by_index P t s b l f to (At y) other h k = k
by_index P t s b l f to (Bind y over) other h k = h over

of_message : (P : StmtTree → Type 0) (t : Table) (s b : ℕ) (l : Spot) (f to : End) → ((over : _) → P (bound_message t s b l f to over)) → P (message_of t l f to) → P (with_sender t s b l f to f.index (with_sender t s b l f to to.index (message_of t l f to)))
of_message P t s b l f to h k = by_index P t s b l f to f.index _ h (by_index P t s b l f to to.index (message_of t l f to) h k)

-- a message that binds nothing stays one
stays : (t : Table) (s b : ℕ) (l : Spot) (f to : End) (x : IndexText) (other : StmtTree) → not (binds x) ≡ true → is_simple other ≡ true → is_simple (with_sender t s b l f to x other) ≡ true
stays t s b l f to Zero other h k = k
stays t s b l f to (At y) other h k = k
stays t s b l f to (Bind y over) other h k = cc

module _ (t : Table) where
  -- ---- what a foreach holds

  simple_stmt : (os : List Open) (s b : ℕ) (x : PlainStatement) → is_item x ≡ true → is_simple (stmt_of t os s b x) ≡ true
  simple_stmt os s b (message l p f to) h =
      let both = and_parts (not (binds f.index)) (not (binds to.index)) h in
      stays t s b l f to f.index _ both.0 (stays t s b l f to to.index (message_of t l f to) both.1 refl)
  simple_stmt os s b (compute at k who) h = refl
  simple_stmt os s b (foreach at x over place items) h = cc
  simple_stmt os s b (loop at x place body) h = cc
  simple_stmt os s b (again at x) h = cc
  simple_stmt os s b (choice at k who bs) h = cc
  simple_stmt os s b (barrier at) h = cc
  simple_stmt os s b (broadcast at l p f) h = cc
  simple_stmt os s b (reduce at l p o to) h = cc
  simple_stmt os s b (allreduce at l p o) h = cc

  simple_items : (os : List Open) (s b : ℕ) (xs : PlainStatements) → are_items xs ≡ true → are_simple (block_of t os s b xs) ≡ true
  simple_items os s b nothing h = refl
  simple_items os s b (more x rest) h =
      let both = and_parts (is_item x) (are_items rest) h in
      and_from _ _ (simple_stmt os s b x both.0) (simple_items os (s + stmts_at x) (b + blocks_at x) rest both.1)

  mutual
    items_at : (os : List Open) (s b : ℕ) (x : PlainStatement) → has_shape x ≡ true → has_simple_items (stmt_of t os s b x) ≡ true
    items_at os s b (message l p f to) h = of_message (λ y. has_simple_items y ≡ true) t s b l f to (λ over. refl) refl
    items_at os s b (foreach at x over place items) h = simple_items os (suc s) (suc b) items h
    items_at os s b (loop at x place body) h = items_in (record { name = x.name; id = s } ∷ os) (suc s) (suc b) body h
    items_at os s b (choice at k who bs) h = items_among os (suc s) b bs (and_parts (has_some bs) (branches_have_shape bs) h).1
    items_at os s b (again at x) h = refl
    items_at os s b (compute at k who) h = refl
    items_at os s b (barrier at) h = refl
    items_at os s b (broadcast at l p f) h = refl
    items_at os s b (reduce at l p o to) h = refl
    items_at os s b (allreduce at l p o) h = refl

    items_in : (os : List Open) (s b : ℕ) (xs : PlainStatements) → have_shape xs ≡ true → have_simple_items (block_of t os s b xs) ≡ true
    items_in os s b nothing h = refl
    items_in os s b (more x rest) h =
        let both = and_parts (has_shape x) (have_shape rest) h in
        and_from _ _ (items_at os s b x both.0) (items_in os (s + stmts_at x) (b + blocks_at x) rest both.1)

    items_among : (os : List Open) (s b : ℕ) (bs : PlainBranches) → branches_have_shape bs ≡ true → branches_have_simple_items (branches_of t os s b bs) ≡ true
    items_among os s b no_branch h = refl
    items_among os s b (branch at x rest) h =
        let both = and_parts (have_shape x) (branches_have_shape rest) h in
        and_from _ _ (items_in os s (suc b) x both.0) (items_among os (s + stmts_in x) (suc (b + blocks_in x)) rest both.1)

  -- ---- scopes

  abbrev names : List Open → List Name
  names [] = []
  names (o ∷ os) = o.name ∷ names os

  abbrev ids : List Open → List ℕ
  ids [] = []
  ids (o ∷ os) = o.id ∷ ids os

  open_id : (x : Name) (os : List Open) → is_named x (names os) ≡ true → is_open (id_of x os) (ids os) ≡ true
  open_id x [] h = cc
  open_id x (o ∷ os) h =
      elim (cases_Bool (same x o.name)) [
        | inl y ↦ ap (λ u. is_open (if u then o.id else id_of x os) (o.id ∷ ids os)) y ∙ or_left (nat_eq o.id o.id) (is_open o.id (ids os)) (eq-eqb o.id o.id refl)
        | inr y ↦
            let later : is_named x (names os) ≡ true = sym (ap (λ u. u || is_named x (names os)) y) ∙ h in
            ap (λ u. is_open (if u then o.id else id_of x os) (o.id ∷ ids os)) y ∙ or_right (nat_eq (id_of x os) o.id) (is_open (id_of x os) (ids os)) (open_id x os later)
      ]

  some_branch : (os : List Open) (s b : ℕ) (bs : PlainBranches) → has_some bs ≡ true → has_branch (branches_of t os s b bs) ≡ true
  some_branch os s b no_branch h = cc
  some_branch os s b (branch at x rest) h = refl

  mutual
    scoped_at : (os : List Open) (s b : ℕ) (is_last : Bool) (x : PlainStatement) → has_shape x ≡ true → astray_at (names os) is_last x ≡ [] → is_scoped (ids os) (stmt_of t os s b x) ≡ true
    scoped_at os s b z (message l p f to) h a = of_message (λ y. is_scoped (ids os) y ≡ true) t s b l f to (λ over. refl) refl
    scoped_at os s b z (foreach at x over place items) h a = scoped_items os (suc s) (suc b) items h
    scoped_at os s b z (loop at x place body) h a = scoped_in (record { name = x.name; id = s } ∷ os) (suc s) (suc b) body h a
    scoped_at os s b z (again at x) h a = open_id x.name os (and_parts z (is_named x.name (names os)) (listed_not _ at a)).1
    scoped_at os s b z (choice at k who bs) h a =
        let both = and_parts (has_some bs) (branches_have_shape bs) h in
        and_from _ _ (some_branch os (suc s) b bs both.0) (scoped_among os (suc s) b bs both.1 a)
    scoped_at os s b z (compute at k who) h a = refl
    scoped_at os s b z (barrier at) h a = refl
    scoped_at os s b z (broadcast at l p f) h a = refl
    scoped_at os s b z (reduce at l p o to) h a = refl
    scoped_at os s b z (allreduce at l p o) h a = refl

    scoped_in : (os : List Open) (s b : ℕ) (xs : PlainStatements) → have_shape xs ≡ true → astray_in (names os) xs ≡ [] → are_scoped (ids os) (block_of t os s b xs) ≡ true
    scoped_in os s b nothing h a = refl
    scoped_in os s b (more x rest) h a =
        let both = and_parts (has_shape x) (have_shape rest) h in
        let none = none_both (astray_at (names os) (is_nothing rest) x) (astray_in (names os) rest) a in
        and_from _ _ (scoped_at os s b (is_nothing rest) x both.0 none.0) (scoped_in os (s + stmts_at x) (b + blocks_at x) rest both.1 none.1)

    scoped_among : (os : List Open) (s b : ℕ) (bs : PlainBranches) → branches_have_shape bs ≡ true → astray_among (names os) bs ≡ [] → branches_are_scoped (ids os) (branches_of t os s b bs) ≡ true
    scoped_among os s b no_branch h a = refl
    scoped_among os s b (branch at x rest) h a =
        let both = and_parts (have_shape x) (branches_have_shape rest) h in
        let none = none_both (astray_in (names os) x) (astray_among (names os) rest) a in
        and_from _ _ (scoped_in os s (suc b) x both.0 none.0) (scoped_among os (s + stmts_in x) (suc (b + blocks_in x)) rest both.1 none.1)

    -- items hold no continue
    scoped_items : (os : List Open) (s b : ℕ) (xs : PlainStatements) → are_items xs ≡ true → are_scoped (ids os) (block_of t os s b xs) ≡ true
    scoped_items os s b nothing h = refl
    scoped_items os s b (more x rest) h =
        let both = and_parts (is_item x) (are_items rest) h in
        and_from _ _ (scoped_item os s b x both.0) (scoped_items os (s + stmts_at x) (b + blocks_at x) rest both.1)

    scoped_item : (os : List Open) (s b : ℕ) (x : PlainStatement) → is_item x ≡ true → is_scoped (ids os) (stmt_of t os s b x) ≡ true
    scoped_item os s b (message l p f to) h = of_message (λ y. is_scoped (ids os) y ≡ true) t s b l f to (λ over. refl) refl
    scoped_item os s b (compute at k who) h = refl
    scoped_item os s b (foreach at x over place items) h = cc
    scoped_item os s b (loop at x place body) h = cc
    scoped_item os s b (again at x) h = cc
    scoped_item os s b (choice at k who bs) h = cc
    scoped_item os s b (barrier at) h = cc
    scoped_item os s b (broadcast at l p f) h = cc
    scoped_item os s b (reduce at l p o to) h = cc
    scoped_item os s b (allreduce at l p o) h = cc

  -- ---- ends

  mutual
    end_at : (os : List Open) (s b : ℕ) (x : PlainStatement) → C.can_end (stmt_of t os s b x) ≡ R.can_end x
    end_at os s b (message l p f to) = of_message (λ y. C.can_end y ≡ true) t s b l f to (λ over. refl) refl
    end_at os s b (foreach at x over place items) = refl
    end_at os s b (loop at x place body) = end_in (record { name = x.name; id = s } ∷ os) (suc s) (suc b) body
    end_at os s b (choice at k who bs) = end_among os (suc s) b bs
    end_at os s b (again at x) = refl
    end_at os s b (compute at k who) = refl
    end_at os s b (barrier at) = refl
    end_at os s b (broadcast at l p f) = refl
    end_at os s b (reduce at l p o to) = refl
    end_at os s b (allreduce at l p o) = refl

    end_in : (os : List Open) (s b : ℕ) (xs : PlainStatements) → C.all_can_end (block_of t os s b xs) ≡ R.all_can_end xs
    end_in os s b nothing = refl
    end_in os s b (more x rest) = ap₂ (λ u v. u && v) (end_at os s b x) (end_in os (s + stmts_at x) (b + blocks_at x) rest)

    end_among : (os : List Open) (s b : ℕ) (bs : PlainBranches) → C.some_can_end (branches_of t os s b bs) ≡ R.some_can_end bs
    end_among os s b no_branch = refl
    end_among os s b (branch at x rest) = ap₂ (λ u v. u || v) (end_in os s (suc b) x) (end_among os (s + stmts_in x) (suc (b + blocks_in x)) rest)

  mutual
    loops_at : (os : List Open) (s b : ℕ) (x : PlainStatement) → loops_can_end x ≡ true → loops_end_in (stmt_of t os s b x) ≡ true
    loops_at os s b (message l p f to) h = of_message (λ y. loops_end_in y ≡ true) t s b l f to (λ over. refl) refl
    loops_at os s b (foreach at x over place items) h = refl
    loops_at os s b (loop at x place body) h =
        let both = and_parts (R.all_can_end body) (all_loops_can_end body) h in
        and_from _ _ (end_in (record { name = x.name; id = s } ∷ os) (suc s) (suc b) body ∙ both.0) (loops_in (record { name = x.name; id = s } ∷ os) (suc s) (suc b) body both.1)
    loops_at os s b (choice at k who bs) h = loops_among os (suc s) b bs h
    loops_at os s b (again at x) h = refl
    loops_at os s b (compute at k who) h = refl
    loops_at os s b (barrier at) h = refl
    loops_at os s b (broadcast at l p f) h = refl
    loops_at os s b (reduce at l p o to) h = refl
    loops_at os s b (allreduce at l p o) h = refl

    loops_in : (os : List Open) (s b : ℕ) (xs : PlainStatements) → all_loops_can_end xs ≡ true → all_loops_end (block_of t os s b xs) ≡ true
    loops_in os s b nothing h = refl
    loops_in os s b (more x rest) h =
        let both = and_parts (loops_can_end x) (all_loops_can_end rest) h in
        and_from _ _ (loops_at os s b x both.0) (loops_in os (s + stmts_at x) (b + blocks_at x) rest both.1)

    loops_among : (os : List Open) (s b : ℕ) (bs : PlainBranches) → branches_loops_can_end bs ≡ true → branches_loops_end (branches_of t os s b bs) ≡ true
    loops_among os s b no_branch h = refl
    loops_among os s b (branch at x rest) h =
        let both = and_parts (all_loops_can_end x) (branches_loops_can_end rest) h in
        and_from _ _ (loops_in os s (suc b) x both.0) (loops_among os (s + stmts_in x) (suc (b + blocks_in x)) rest both.1)

  nothing_same : (os : List Open) (s b : ℕ) (xs : PlainStatements) → C.is_nothing (block_of t os s b xs) ≡ is_nothing xs
  nothing_same os s b nothing = refl
  nothing_same os s b (more x rest) = refl

  last_or_ends : (os : List Open) (s b s' b' : ℕ) (x : PlainStatement) (rest : PlainStatements) → (is_nothing rest || (R.can_end x && loops_can_end x)) ≡ true → (C.is_nothing (block_of t os s' b' rest) || (C.can_end (stmt_of t os s b x) && loops_end_in (stmt_of t os s b x))) ≡ true
  last_or_ends os s b s' b' x nothing h = refl
  last_or_ends os s b s' b' x (more y rest) h =
      let both = and_parts (R.can_end x) (loops_can_end x) h in
      and_from _ _ (end_at os s b x ∙ both.0) (loops_at os s b x both.1)

  mutual
    ends_at : (os : List Open) (s b : ℕ) (x : PlainStatement) → endless_at x ≡ [] → keeps_ends (stmt_of t os s b x) ≡ true
    ends_at os s b (message l p f to) h = of_message (λ y. keeps_ends y ≡ true) t s b l f to (λ over. refl) refl
    ends_at os s b (foreach at x over place items) h = refl
    ends_at os s b (loop at x place body) h = ends_in (record { name = x.name; id = s } ∷ os) (suc s) (suc b) body h
    ends_at os s b (choice at k who bs) h = ends_among os (suc s) b bs h
    ends_at os s b (again at x) h = refl
    ends_at os s b (compute at k who) h = refl
    ends_at os s b (barrier at) h = refl
    ends_at os s b (broadcast at l p f) h = refl
    ends_at os s b (reduce at l p o to) h = refl
    ends_at os s b (allreduce at l p o) h = refl

    ends_in : (os : List Open) (s b : ℕ) (xs : PlainStatements) → endless_in xs ≡ [] → all_keep_ends (block_of t os s b xs) ≡ true
    ends_in os s b nothing h = refl
    ends_in os s b (more x rest) h =
        let first = none_both (if is_nothing rest || (R.can_end x && loops_can_end x) then [] else place_of x ∷ []) (endless_at x ++ endless_in rest) h in
        let both = none_both (endless_at x) (endless_in rest) first.1 in
        and_from _ _ (last_or_ends os s b (s + stmts_at x) (b + blocks_at x) x rest (listed_not _ (place_of x) first.0))
        (and_from _ _ (ends_at os s b x both.0) (ends_in os (s + stmts_at x) (b + blocks_at x) rest both.1))

    ends_among : (os : List Open) (s b : ℕ) (bs : PlainBranches) → endless_among bs ≡ [] → branches_keep_ends (branches_of t os s b bs) ≡ true
    ends_among os s b no_branch h = refl
    ends_among os s b (branch at x rest) h =
        let both = none_both (endless_in x) (endless_among rest) h in
        and_from _ _ (ends_in os s (suc b) x both.0) (ends_among os (s + stmts_in x) (suc (b + blocks_in x)) rest both.1)

pub proper_of : (f : PlainFile) → IsShaped f → broken_3 f ≡ [] → broken_4 f ≡ [] → IsProper (meaning f)
proper_of f shaped astray endless = record {
  roles = some_roles f.roles shaped.roles;
  simple = items_in (table_of f) [] 0 1 f.body.list shaped.body;
  scoped = scoped_in (table_of f) [] 0 1 f.body.list shaped.body astray;
  ends = ends_in (table_of f) [] 0 1 f.body.list endless;
}
  where
    some_roles : (rs : List _) → rs ≢ [] → roles_of f.constant.name rs ≢ []
    some_roles [] some e = some refl
    some_roles (r ∷ rs) some e = cc
