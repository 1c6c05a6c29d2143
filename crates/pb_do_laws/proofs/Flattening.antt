-- What a file with calls becomes is, flat, what its statements unfold to.
use Rattle.std.proofs.Common.{◌≡◌, ℕ, zero, suc, ◌+◌, ◌<◌, ◌≤◌, ℤ, pos, Bool, true, false, ◌||◌, ◌&&◌, if◌then◌else◌, Option, Some, None, List, [], ◌∷◌, ◌++◌, nat_eq, refl, sym, ap, ◌∙◌, subst, arith}
use Rattle.std.specs.List.{slice_get}
use Rattle.std.proofs.lemmas.Bool.{and_parts}
use Rattle.std.proofs.lemmas.Bool.Decides.{nat_tests}
use Rattle.pb_text.specs.Tables as tables
use Rattle.pb_text.specs.declared.place.Place.{Place}
use Rattle.pb_text.specs.declared.place.Spot.{Spot}
use Rattle.pb_syntax.specs.declared.tree.IndexText.{IndexText}
use Rattle.pb_syntax.specs.declared.tree.IndexText.TheVariants.{Zero, At, Bind}
use Rattle.pb_syntax.specs.declared.tree.End.{End}
use Rattle.pb_syntax.specs.Tree as tree
use Rattle.pb_syntax.specs.Tree.{PlainStatement, PlainStatements, PlainBranches}
use Rattle.pb_core_language.specs.FileRules.{astray_at, astray_in, astray_among, is_nothing}
use Rattle.pb_core_language.specs.Flat as F
use Rattle.pb_core_language.specs.Flat.{Block, stop, Branches}
use Rattle.pb_core_language.specs.FlatOf.{flat_stmt, flat_block, flat_branches, for_each, between}
use Rattle.pb_core_language.specs.Meaning.{Open, id_of, position_of, stmt_of, block_of, branches_of, stmts_at, stmts_in, blocks_at, blocks_in, with_sender, message_of}
use Rattle.pb_core_language.specs.Names.{same, is_named}
use Rattle.pb_core_language.specs.Tree as T
use Rattle.pb_do_syntax.specs.Calls.{plain, foreach, loop, choice, Calls, nothing, more, CallBranches, no_branch, branch, PlainSub}
use Rattle.pb_do_syntax.specs.Names.{Name, sub_named, sub_at, sub_names}
use Rattle.pb_do_syntax.specs.Inlining.{Roles, renamed, renamed_end}
use Rattle.pb_do_laws.specs.Deeds.{deeds, by_sender, by_receiver, sent_for_each, items_deeds, deeds_for_each, values}
use Rattle.pb_do_laws.specs.Machine.{Ground}
use Rattle.pb_do_laws.specs.Made.{has_no_braces, can_be_item, are_items, are_made, branches_are_made, subs_are_made}
use Rattle.pb_do_laws.proofs.Becoming.{Becomes, ended, copied, iterated, looped, offered, called, lost, BecomesBranches, no_more, another}
use Rattle.pb_do_laws.proofs.Unfolding as U
use Rattle.pb_do_laws.proofs.Unfolding.{Puts, none, sending, running, joining, puts_then, is_simple, Unfolds, UnfoldsBranches}

-- ---- loops by name and by id

abbrev names_of : List Open → List Name
names_of [] = []
names_of (o ∷ os) = o.name ∷ names_of os

abbrev ids_of : List Open → List ℕ
ids_of [] = []
ids_of (o ∷ os) = o.id ∷ ids_of os

-- ids are below this one, and descend outward
abbrev Descend : ℕ → List Open → Type 0
Descend s [] = Unit {0}
Descend s (o ∷ os) = (o.id < s) × Descend o.id os

descend_on : (s t : ℕ) (os : List Open) → s ≤ t → Descend s os → Descend t os
descend_on s t [] h d = tt
descend_on s t (o ∷ os) h d = let lt = d.0 in (omega (arith, h, lt), d.1)

own_id : (n : ℕ) → nat_eq n n ≡ true
own_id n = grind (arith, nat_tests)

outer_id : (n own : ℕ) → n < own → nat_eq n own ≡ false
outer_id n own h = grind (arith, nat_tests)

id_below : (x : Name) (s : ℕ) (os : List Open) → Descend s os → is_named x (names_of os) ≡ true → id_of x os < s
id_below x s [] d h = cc
id_below x s (o ∷ os) d h = by (same x o.name) h (λ k. id_below x o.id os d.1 k)
  where
    by : (b : Bool) → (b || is_named x (names_of os)) ≡ true → (is_named x (names_of os) ≡ true → id_of x os < o.id) → (if b then o.id else id_of x os) < s
    by true k inner = d.0
    by false k inner = let lt = inner k in let under = d.0 in omega (arith, lt, under)

loop_found : (x : Name) (s : ℕ) (os : List Open) → Descend s os → is_named x (names_of os) ≡ true → between (id_of x os) (ids_of os) ≡ position_of x (names_of os)
loop_found x s [] d h = cc
loop_found x s (o ∷ os) d h = by (same x o.name) h (λ k. loop_found x o.id os d.1 k) (λ k. id_below x o.id os d.1 k)
  where
    by : (b : Bool) → (b || is_named x (names_of os)) ≡ true → (is_named x (names_of os) ≡ true → between (id_of x os) (ids_of os) ≡ position_of x (names_of os)) → (is_named x (names_of os) ≡ true → id_of x os < o.id) →
        between (if b then o.id else id_of x os) (o.id ∷ ids_of os) ≡ (if b then 0 else suc (position_of x (names_of os)))
    by true k inner below = ap (λ c. if c then 0 else suc (between o.id (ids_of os))) (own_id o.id)
    by false k inner below = ap (λ c. if c then 0 else suc (between (id_of x os) (ids_of os))) (outer_id (id_of x os) o.id (below k)) ∙ ap suc (inner k)

-- ---- rule 3

none_in : {X : Type 0} (xs ys : List X) → xs ++ ys ≡ [] → (xs ≡ []) × (ys ≡ [])
none_in [] ys h = (refl, h)
none_in (x ∷ xs) ys h = cc

stands_in_loop : (a b : Bool) (at : Place) → let none_there : List Place = [] in (if a && b then none_there else at ∷ []) ≡ [] → b ≡ true
stands_in_loop true true at h = refl
stands_in_loop true false at h = cc
stands_in_loop false b at h = cc

-- ---- the body of a subprotocol

made_at : (ss : List PlainSub) (i : ℕ) (sub : PlainSub) → subs_are_made ss ≡ true → slice_get ss i ≡ Some sub → are_made sub.body.list ≡ true
made_at [] i sub h e = cc
made_at (s ∷ ss) zero sub h e = let is : s ≡ sub = cc in subst (λ x. are_made x.body.list ≡ true) is (and_parts (are_made s.body.list) (subs_are_made ss) h).0
made_at (s ∷ ss) (suc i) sub h e = made_at ss i sub (and_parts (are_made s.body.list) (subs_are_made ss) h).1 e

made_there : (ss : List PlainSub) (o : Option ℕ) (sub : PlainSub) → subs_are_made ss ≡ true → sub_at ss o ≡ Some sub → are_made sub.body.list ≡ true
made_there ss None sub h e = cc
made_there ss (Some i) sub h e = made_at ss i sub h e

made_named : (ss : List PlainSub) (f : Name) (sub : PlainSub) → subs_are_made ss ≡ true → sub_named ss f ≡ Some sub → are_made sub.body.list ≡ true
made_named ss f sub h e = made_there ss (tables.position_of f (sub_names ss)) sub h e

module _ (g : Ground) where
  -- a statement as the flat protocol has it
  abbrev flat_one : List Open → ℤ → T.Mark → ℕ → ℕ → PlainStatement → Block → Block
  flat_one opens i own s b x after = flat_stmt g.roles g.n (ids_of opens) i own (stmt_of g.table opens s b x) after

  abbrev flat_all : List Open → ℤ → ℕ → ℕ → PlainStatements → Block → Block
  flat_all opens i s b xs after = flat_block g.roles g.n (ids_of opens) i (block_of g.table opens s b xs) after

  -- ---- statements without braces

  module _ (r : Roles) (i : ℤ) (opens : List Open) (own : T.Mark) (s b : ℕ) (after : Block) where
    each_put : (l : Spot) (from to : End) (inner : T.Mark) (js : List ℤ) →
        Puts (sent_for_each g.table g.roles g.n r l from to js) after
        (for_each js (λ j. flat_block g.roles g.n (ids_of opens) j (T.more inner (message_of g.table l (renamed_end r from) (renamed_end r to)) T.nothing)) after)
    each_put l from to inner [] = none
    each_put l from to inner (j ∷ js) = sending _ (each_put l from to inner js)

    by_receiver_put : (l : Spot) (from to : End) (x : IndexText) →
        Puts (by_receiver g.table g.roles g.n r i l from to x) after
        (flat_stmt g.roles g.n (ids_of opens) i own (with_sender g.table s b l (renamed_end r from) (renamed_end r to) x (message_of g.table l (renamed_end r from) (renamed_end r to))) after)
    by_receiver_put l from to Zero = sending _ none
    by_receiver_put l from to (At x) = sending _ none
    by_receiver_put l from to (Bind x over) = each_put l from to _ (values g.table g.roles g.n i over)

    by_sender_put : (l : Spot) (from to : End) (x : IndexText) →
        Puts (by_sender g.table g.roles g.n r i l from to x) after
        (flat_stmt g.roles g.n (ids_of opens) i own
        (with_sender g.table s b l (renamed_end r from) (renamed_end r to) x (with_sender g.table s b l (renamed_end r from) (renamed_end r to) to.index (message_of g.table l (renamed_end r from) (renamed_end r to)))) after)
    by_sender_put l from to Zero = by_receiver_put l from to to.index
    by_sender_put l from to (At x) = by_receiver_put l from to to.index
    by_sender_put l from to (Bind x over) = each_put l from to _ (values g.table g.roles g.n i over)

    simple_put : (x : PlainStatement) → is_simple x ≡ true → Puts (deeds g.table g.roles g.n r i x) after (flat_one opens i own s b (renamed r x) after)
    simple_put (tree.message l p from to) h = by_sender_put l from to from.index
    simple_put (tree.compute at k who) h = running _ none
    simple_put (tree.barrier at) h = joining _ none
    simple_put (tree.broadcast at l p from) h = joining _ none
    simple_put (tree.reduce at l p o to) h = joining _ none
    simple_put (tree.allreduce at l p o) h = joining _ none
    simple_put (tree.again at x) h = cc
    simple_put (tree.foreach at x range place items) h = cc
    simple_put (tree.loop at x place body) h = cc
    simple_put (tree.choice at k who bs) h = cc

  -- ---- the items of a foreach

  simple_item : (x : PlainStatement) → can_be_item x ≡ true → is_simple x ≡ true
  simple_item (tree.message l p from to) h = refl
  simple_item (tree.compute at k who) h = refl
  simple_item (tree.barrier at) h = cc
  simple_item (tree.broadcast at l p from) h = cc
  simple_item (tree.reduce at l p o to) h = cc
  simple_item (tree.allreduce at l p o) h = cc
  simple_item (tree.again at x) h = cc
  simple_item (tree.foreach at x range place items) h = cc
  simple_item (tree.loop at x place body) h = cc
  simple_item (tree.choice at k who bs) h = cc

  items_put : {r : Roles} {c : Calls} {tail out : PlainStatements} → Becomes g.subs r c tail out → tail ≡ tree.nothing → are_items c ≡ true →
      (opens : List Open) (j : ℤ) (s b : ℕ) (after : Block) → Puts (items_deeds g.table g.roles g.n r j c) after (flat_all opens j s b out after)
  items_put {out = out} (ended e) none_behind h opens j s b after = subst (λ xs. Puts [] after (flat_all opens j s b xs after)) (sym (e ∙ none_behind)) none
  items_put {r = r} (copied {s = x} {rest = rest} {mid = mid} d e) none_behind h opens j s b after =
      let both = and_parts (can_be_item x) (are_items rest) h in
      subst (λ xs. Puts (items_deeds g.table g.roles g.n r j (more (plain x) rest)) after (flat_all opens j s b xs after)) (sym e)
      (puts_then (simple_put r j opens _ s b _ x (simple_item x both.0)) (items_put d none_behind both.1 opens j _ _ after))
  items_put (iterated i d e) none_behind h opens j s b after = cc
  items_put (looped i d e) none_behind h opens j s b after = cc
  items_put (offered i d e) none_behind h opens j s b after = cc
  items_put (called sub there i d) none_behind h opens j s b after = cc
  items_put (lost absent d) none_behind h opens j s b after = cc

  each_items_put : {r : Roles} {c : Calls} {out : PlainStatements} → Becomes g.subs r c tree.nothing out → are_items c ≡ true →
      (opens : List Open) (s b : ℕ) (after : Block) (js : List ℤ) → Puts (deeds_for_each g.table g.roles g.n r c js) after (for_each js (λ j. flat_block g.roles g.n (ids_of opens) j (block_of g.table opens s b out)) after)
  each_items_put d h opens s b after [] = none
  each_items_put d h opens s b after (j ∷ js) = puts_then (items_put d refl h opens j s b _) (each_items_put d h opens s b after js)

  -- ---- all statements

  module _ (subs_made : subs_are_made g.subs ≡ true) where
    -- The statements unfold to what they become, in front of what stands behind them. That begins at a statement and a
    -- block of greater numbers.
    abbrev Flattens : Roles → Calls → PlainStatements → PlainStatements → List Open → ℕ → ℕ → Block → Type 0
    Flattens r c tail out opens s b after =
        (t : ℕ) × (u : ℕ) × (s ≤ t) × (astray_in (names_of opens) tail ≡ []) × Unfolds g r (names_of opens) c (flat_all opens (pos 0) t u tail after) (flat_all opens (pos 0) s b out after)

    begins : (x : PlainStatement) → has_no_braces x ≡ true → (r : Roles) (rest : Calls) (mid tail : PlainStatements) (opens : List Open) (s b : ℕ) (after : Block) → Descend s opens →
        astray_at (names_of opens) (is_nothing mid) (renamed r x) ≡ [] →
        Flattens r rest tail mid opens (s + stmts_at (renamed r x)) (b + blocks_at (renamed r x)) after → Flattens r (more (plain x) rest) tail (tree.more (renamed r x) mid) opens s b after
    begins (tree.again at x) h r rest mid tail opens s b after d a f =
        let e = loop_found x.name s opens d (stands_in_loop (is_nothing mid) (is_named x.name (names_of opens)) at a) in
        let more_of = f.2 in (
          f.0,
          f.1,
          omega (arith, more_of),
          f.3,
          subst (λ k. Unfolds g r (names_of opens) (more (plain (tree.again at x)) rest) (flat_all opens (pos 0) f.0 f.1 tail after) (F.again k)) (sym e)
              (U.goes_back (stands_in_loop (is_nothing mid) (is_named x.name (names_of opens)) at a)),
        )
    begins (tree.message l p from to) h r rest mid tail opens s b after d a f =
        let more_of = f.2 in (f.0, f.1, omega (arith, more_of), f.3, U.begun refl (simple_put r (pos 0) opens _ s b _ (tree.message l p from to) refl) f.4)
    begins (tree.compute at k who) h r rest mid tail opens s b after d a f =
        let more_of = f.2 in (f.0, f.1, omega (arith, more_of), f.3, U.begun refl (simple_put r (pos 0) opens _ s b _ (tree.compute at k who) refl) f.4)
    begins (tree.barrier at) h r rest mid tail opens s b after d a f =
        let more_of = f.2 in (f.0, f.1, omega (arith, more_of), f.3, U.begun refl (simple_put r (pos 0) opens _ s b _ (tree.barrier at) refl) f.4)
    begins (tree.broadcast at l p from) h r rest mid tail opens s b after d a f =
        let more_of = f.2 in (f.0, f.1, omega (arith, more_of), f.3, U.begun refl (simple_put r (pos 0) opens _ s b _ (tree.broadcast at l p from) refl) f.4)
    begins (tree.reduce at l p o to) h r rest mid tail opens s b after d a f =
        let more_of = f.2 in (f.0, f.1, omega (arith, more_of), f.3, U.begun refl (simple_put r (pos 0) opens _ s b _ (tree.reduce at l p o to) refl) f.4)
    begins (tree.allreduce at l p o) h r rest mid tail opens s b after d a f =
        let more_of = f.2 in (f.0, f.1, omega (arith, more_of), f.3, U.begun refl (simple_put r (pos 0) opens _ s b _ (tree.allreduce at l p o) refl) f.4)
    begins (tree.foreach at x range place items) h r rest mid tail opens s b after d a f = cc
    begins (tree.loop at x place body) h r rest mid tail opens s b after d a f = cc
    begins (tree.choice at k who bs) h r rest mid tail opens s b after d a f = cc

    mutual
      flattens : {r : Roles} {c : Calls} {tail out : PlainStatements} → Becomes g.subs r c tail out → are_made c ≡ true →
          (opens : List Open) (s b : ℕ) (after : Block) → Descend s opens → astray_in (names_of opens) out ≡ [] → Flattens r c tail out opens s b after
      flattens {r = r} {tail = tail} (ended e) h opens s b after d a =
          subst (λ xs. Flattens r nothing tail xs opens s b after) (sym e)
          (s, b, omega arith, ap (λ xs. astray_in (names_of opens) xs) (sym e) ∙ a, U.at_end)
      flattens {r = r} {tail = tail} (copied {s = x} {rest = rest} {mid = mid} m e) h opens s b after d a =
          let made = and_parts (has_no_braces x) (are_made rest) h in
          let fine = none_in (astray_at (names_of opens) (is_nothing mid) (renamed r x)) (astray_in (names_of opens) mid) (ap (λ xs. astray_in (names_of opens) xs) (sym e) ∙ a) in
          subst (λ xs. Flattens r (more (plain x) rest) tail xs opens s b after) (sym e)
          (begins x made.0 r rest mid tail opens s b after d fine.0 (flattens m made.1 opens (s + stmts_at (renamed r x)) (b + blocks_at (renamed r x)) after (descend_on s _ opens (omega arith) d) fine.1))
      flattens {r = r} {tail = tail} (iterated {place = place} {var = var} {over = range} {at = at} {items = items} {rest = rest} {inner = inner} {mid = mid} i m e) h opens s b after d a =
          let made = and_parts (are_items items) (are_made rest) h in
          let fine = none_in (astray_in (names_of opens) inner) (astray_in (names_of opens) mid) (ap (λ xs. astray_in (names_of opens) xs) (sym e) ∙ a) in
          let f = flattens m made.1 opens (s + (1 + stmts_in inner)) (b + (1 + blocks_in inner)) after (descend_on s _ opens (omega arith) d) fine.1 in
          let more_of = f.2 in
          subst (λ xs. Flattens r (more (foreach place var range at items) rest) tail xs opens s b after) (sym e)
          (f.0, f.1, omega (arith, more_of), f.3, U.iterated (each_items_put i made.0 opens (suc s) (suc b) _ (values g.table g.roles g.n (pos 0) range)) f.4)
      flattens {r = r} {tail = tail} (looped {place = place} {name = x} {at = at} {body = body} {rest = rest} {inner = inner} {mid = mid} i m e) h opens s b after d a =
          let made = and_parts (are_made body) (are_made rest) h in
          let fine = none_in (astray_in (x.name ∷ names_of opens) inner) (astray_in (names_of opens) mid) (ap (λ xs. astray_in (names_of opens) xs) (sym e) ∙ a) in
          let f = flattens m made.1 opens (s + (1 + stmts_in inner)) (b + (1 + blocks_in inner)) after (descend_on s _ opens (omega arith) d) fine.1 in
          let w = flattens i made.0 (record { name = x.name; id = s } ∷ opens) (suc s) (suc b) stop (omega arith, d) fine.0 in
          let more_of = f.2 in
          subst (λ xs. Flattens r (more (loop place x at body) rest) tail xs opens s b after) (sym e)
          (f.0, f.1, omega (arith, more_of), f.3, U.loops _ w.4 f.4)
      flattens {r = r} {tail = tail} (offered {place = place} {kernel = k} {who = who} {branches = bs} {rest = rest} {inner = inner} {mid = mid} i m e) h opens s b after d a =
          let made = and_parts (branches_are_made bs) (are_made rest) h in
          let fine = none_in (astray_among (names_of opens) inner) (astray_in (names_of opens) mid) (ap (λ xs. astray_in (names_of opens) xs) (sym e) ∙ a) in
          let f = flattens m made.1 opens (s + stmts_at (tree.choice place k (renamed_end r who) inner)) (b + blocks_at (tree.choice place k (renamed_end r who) inner)) after (descend_on s _ opens (omega arith) d) fine.1 in
          let w = flattens_each i made.0 opens (suc s) b (descend_on s _ opens (omega arith) d) fine.0 in
          let more_of = f.2 in
          subst (λ xs. Flattens r (more (choice place k who bs) rest) tail xs opens s b after) (sym e)
          (f.0, f.1, omega (arith, more_of), f.3, U.offered _ w f.4)
      flattens (called {f = name} sub there i m) h opens s b after d a =
          let w = flattens i (made_named g.subs name.name sub subs_made there) opens s b after d a in
          let f = flattens m h opens w.0 w.1 after (descend_on s w.0 opens w.2 d) w.3 in
          let below = w.2 in let more_of = f.2 in
          (f.0, f.1, omega (arith, below, more_of), f.3, U.called sub there w.4 f.4)
      flattens (lost absent m) h opens s b after d a =
          let f = flattens m h opens s b after d a in
          (f.0, f.1, f.2, f.3, U.lost absent f.4)

      flattens_each : {r : Roles} {bs : CallBranches} {out : PlainBranches} → BecomesBranches g.subs r bs out → branches_are_made bs ≡ true →
          (opens : List Open) (s b : ℕ) → Descend s opens → astray_among (names_of opens) out ≡ [] →
          UnfoldsBranches g r (names_of opens) bs (flat_branches g.roles g.n (ids_of opens) (pos 0) (branches_of g.table opens s b out))
      flattens_each {r = r} (no_more e) h opens s b d a = subst (λ xs. UnfoldsBranches g r (names_of opens) no_branch (flat_branches g.roles g.n (ids_of opens) (pos 0) (branches_of g.table opens s b xs))) (sym e) U.no_more
      flattens_each {r = r} (another {at = at} {first = first} {rest = rest} {inner = inner} {others = others} i m e) h opens s b d a =
          let made = and_parts (are_made first) (branches_are_made rest) h in
          let fine = none_in (astray_in (names_of opens) inner) (astray_among (names_of opens) others) (ap (λ xs. astray_among (names_of opens) xs) (sym e) ∙ a) in
          let w = flattens i made.0 opens s (suc b) stop d fine.0 in
          let f = flattens_each m made.1 opens (s + stmts_in inner) (suc (b + blocks_in inner)) (descend_on s _ opens (omega arith) d) fine.1 in
          subst (λ xs. UnfoldsBranches g r (names_of opens) (branch at first rest) (flat_branches g.roles g.n (ids_of opens) (pos 0) (branches_of g.table opens s b xs))) (sym e) (U.another _ w.4 f)

-- a whole body
pub unfolds_of : (g : Ground) (r : Roles) (c : Calls) (out : PlainStatements) (s b : ℕ) → subs_are_made g.subs ≡ true → are_made c ≡ true → Becomes g.subs r c tree.nothing out → astray_in [] out ≡ [] →
    Unfolds g r [] c stop (flat_block g.roles g.n [] (pos 0) (block_of g.table [] s b out) stop)
unfolds_of g r c out s b subs made d a = (flattens g subs d made [] s b stop tt a).4
