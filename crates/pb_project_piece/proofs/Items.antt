-- Messages and computes, and the items of a foreach.
use Rattle.std.proofs.Common.{◌≡◌, ◌<◌, ◌≤◌, ◌+◌, ℕ, ℤ, Bool, true, false, ◌&&◌, Option, Some, None, List, [], ◌∷◌, ◌++◌, map, drop, get_or, length, sym, ap, ◌∙◌, subst, arith, drop_of_length-le}
use Rattle.std.proofs.lemmas.Bool.{and_parts, false≢true, or_left, or_right}
use Rattle.std.proofs.lemmas.List.{at_drop_more}
use Rattle.std.specs.Prelude.{nat_lt}
use Rattle.pb_affine.specs.declared.range.NRange.{NRange}
use Rattle.pb_part_areas.specs.declared.area.Area.{Area}
use Rattle.pb_core_language.specs.declared.tree.CoreEnd.{CoreEnd}
use Rattle.pb_core_language.specs.declared.tree.CoreBlock.{CoreBlock, out-CoreBlock}
use Rattle.pb_core_language.specs.declared.tree.CoreStmt.{CoreStmt}
use Rattle.pb_core_language.specs.Plain.{plain_block, plain_stmt, block_of}
use Rattle.pb_core_language.specs.Plain.{Protocol}
use Rattle.pb_core_language.specs.Sound.{Rows, rows_of, is_small, is_over_n, is_end, is_item, is_stmt, is_block}
use Rattle.pb_core_language.specs.Tree as T
use Rattle.pb_core_language.specs.Tree.{StmtTree, BlockTree}
use Rattle.pb_core_language.specs.declared.tree.Bounds.{Bounds}
use Rattle.pb_core_language.proofs.Plains.{plain_list}
use Rattle.pb_local.specs.declared.stmt.Stmt.{Stmt}
use Rattle.pb_local.specs.Tree as L
use Rattle.pb_local.specs.Tree.{Code, Codes, Program, plain, plain_all}
use Rattle.pb_local.specs.WellMade.{IsMade, AreMade}
use Rattle.pb_shape.specs.Tabled.{Goes, GoAll}
use Rattle.pb_project_piece.specs.Weights.{AreFlat, AreWeighed, IsSimple, IsTabledAs, item_room, each_room}
use Rattle.pb_project_piece.proofs.Weights.{FewSoFar, few_start, few_step, few_done, weighed_codes, weighed_two, weighed_less, weighed_none, made_onto, flat_append, peer_made, guard_made, one_guard, one_weighed, one_flat, weaker_end, label_below, kernel_below, kind_is, send_simple, recv_simple, run_simple}
use Rattle.pb_shape.specs.Places as S
use Rattle.pb_shape.specs.Places.{Scope, Here, peer_of}
use Rattle.pb_shape.specs.Guards.{alone}
use Rattle.pb_shape.specs.Items.{Item, Items}
use Rattle.pb_project_piece.specs.Adding.{onto, Added}
use Rattle.pb_project_piece.specs.Comers.{IsComing}
use Rattle.pb_project_piece.specs.Standing.{Stands, Come, at_ends, IsEach, ComeIf, is_end_if, varies}
use Rattle.pb_project_piece.specs.Ones.{end_guard, only_when, IsOne, IsAt, IsItemOf, AreItemsOf}
use Rattle.pb_project_piece.proofs.Added.{onto_append, onto_nothing, added_one, added_none, added_as, added_two}
use Rattle.pb_project_piece.proofs.Ones.{one_there, one_gone}

-- ---- an end

module _ (range : NRange) (roles : ℕ) (whole : List Area) (over : Option Bounds) (fixed : List Area) where
  pub put_there : (e : CoreEnd) (c : Code) (t : Bool) (old new : List Stmt) (s : Stmt) → IsComing range whole over fixed e t → t ≡ true →
      plain s ≡ only_when (end_guard e ∷ []) (alone c) → new ≡ old ++ s ∷ [] → Added old new (IsAt range roles whole over fixed e c)
  put_there e c t old new s coming is made pushed =
      added_one (IsAt range roles whole over fixed e c) old new s (only_when (end_guard e ∷ []) (alone c)) pushed made
      (record {
        is = λ sc h stands here come fair. one_there range roles whole sc stands over fixed h e c here come fair (subst (IsComing range whole over fixed e) is coming);
        weighed = λ simple. one_weighed (end_guard e ∷ []) c simple;
        made = λ p l tabled sound made_c. one_flat l (end_guard e ∷ []) c (one_guard l (end_guard e) (guard_made l e (peer_made p l e tabled sound))) made_c;
      })

  pub put_gone : (e : CoreEnd) (c : Code) (t : Bool) (old : List Stmt) → IsComing range whole over fixed e t → t ≡ false → Added old old (IsAt range roles whole over fixed e c)
  put_gone e c t old coming is =
      added_none (IsAt range roles whole over fixed e c) old
      (record {
        is = λ sc h stands here come fair. one_gone range roles whole sc stands over fixed h e c here fair (subst (IsComing range whole over fixed e) is coming);
        weighed = λ simple. weighed_none 2 1;
        made = λ p l tabled sound made_c. tt;
      })

-- ---- messages and computes

two_four : 2 ≤ 4
two_four = omega arith

four_four : 4 ≤ 4
four_four = omega arith

none_four : 0 ≤ 4
none_four = omega arith

item_most : (s : StmtTree) → item_room s ≤ 4
item_most (T.message l f t) = four_four
item_most (T.foreach b m items) = none_four
item_most (T.loop id m body) = none_four
item_most (T.again id) = none_four
item_most (T.choice k at bs) = none_four
item_most (T.run k at) = two_four
item_most T.barrier = none_four
item_most (T.broadcast l root) = none_four
item_most (T.reduce l op root) = none_four
item_most (T.allreduce l op) = none_four

one_one : 1 ≤ 1
one_one = omega arith

pub fair_if : (over : Option Bounds) (rows : Rows) (e : CoreEnd) → is_end rows (varies over) e ≡ true → is_end_if over e ≡ true
fair_if None rows e h = (and_parts (nat_lt e.role rows.roles) (is_over_n e.at.base && is_small e.at.off) h).1
fair_if (Some over) rows e h = (and_parts (nat_lt e.role rows.roles) (is_small e.at.off) h).1

-- some of those that come here
pub come_some : (sc : Scope) (h : Here) (all some : S.Who) → ((n i : ℤ) (role : ℕ) (x : ℤ) → some n i role x ≡ true → all n i role x ≡ true) → Come sc h all → Come sc h some
come_some sc h all some among c = record { come = λ n i role x within rank is. c.come n i role x within rank (among n i role x is) }

come_if : (over : Option Bounds) (sc : Scope) (h : Here) (all some : S.Who) → ((n i : ℤ) (role : ℕ) (x : ℤ) → some n i role x ≡ true → all n i role x ≡ true) → ComeIf over sc h all → ComeIf over sc h some
come_if None sc h all some among c = come_some sc h all some among c
come_if (Some over) sc h all some among c = tt

module _ (range : NRange) (roles : ℕ) (whole : List Area) (over : Option Bounds) (fixed : List Area) where
  pub message_put : (l : ℕ) (f t : CoreEnd) (sent received : Code) (old mid new : List Stmt) → sent ≡ L.send l (peer_of t) → received ≡ L.recv l (peer_of f) →
      Added old mid (IsAt range roles whole over fixed f sent) → Added mid new (IsAt range roles whole over fixed t received) → Added old new (IsItemOf range roles whole over fixed (T.message l f t))
  message_put l f t sent received old mid new send_is recv_is first second =
      added_two (IsAt range roles whole over fixed f sent) (IsAt range roles whole over fixed t received) (IsItemOf range roles whole over fixed (T.message l f t)) old mid new
      (λ a b p q. record {
        is = λ sc h rows ids stands here come sound item.
            let two = and_parts (is_end rows (varies over) f) (is_end rows (varies over) t) (and_parts (nat_lt l rows.labels) _ sound).1 in
            let one : IsOne sc h (S.is_end f) (alone (L.send l (peer_of t))) a = subst (λ c. IsOne sc h (S.is_end f) (alone c) a) send_is (p.is sc h stands here (come_if over sc h (at_ends (T.message l f t)) (S.is_end f) (λ n i role x k. or_left _ _ k) come) (fair_if over rows f two.0)) in
            let other : IsOne sc h (S.is_end t) (alone (L.recv l (peer_of f))) b = subst (λ c. IsOne sc h (S.is_end t) (alone c) b) recv_is (q.is sc h stands here (come_if over sc h (at_ends (T.message l f t)) (S.is_end t) (λ n i role x k. or_right _ _ k) come) (fair_if over rows t two.1)) in
            record { item = λ tail. subst (Item sc h tail (T.message l f t)) (sym (onto_append a b tail)) (Item.message (one.one (onto b tail)) (other.one tail)) };
        weighed = weighed_two 2 2 1 a b (p.weighed (subst IsSimple (sym send_is) (send_simple l (peer_of t)))) (q.weighed (subst IsSimple (sym recv_is) (recv_simple l (peer_of f))));
        made = λ pr lo ids tabled sound item goes.
            let three = and_parts (nat_lt l (length pr.labels)) (is_end (rows_of pr) (varies over) f && is_end (rows_of pr) (varies over) t) sound in
            let two = and_parts (is_end (rows_of pr) (varies over) f) (is_end (rows_of pr) (varies over) t) three.1 in
            let sf = weaker_end (rows_of pr) (varies over) f two.0 in
            let st = weaker_end (rows_of pr) (varies over) t two.1 in
            let label = label_below pr lo l tabled three.0 in
            flat_append lo a b
            (p.made pr lo tabled sf (λ at. subst (IsMade lo at) (sym send_is) (label, peer_made pr lo t tabled st)))
            (q.made pr lo tabled st (λ at. subst (IsMade lo at) (sym recv_is) (label, peer_made pr lo f tabled sf)));
      }) first second

  pub run_put : (k : ℕ) (e : CoreEnd) (running : Code) (old new : List Stmt) → running ≡ L.run k →
      Added old new (IsAt range roles whole over fixed e running) → Added old new (IsItemOf range roles whole over fixed (T.run k e))
  run_put k e running old new run_is put =
      added_as (IsAt range roles whole over fixed e running) (IsItemOf range roles whole over fixed (T.run k e)) old new
      (λ a p. record {
        is = λ sc h rows ids stands here come sound item.
            let one : IsOne sc h (S.is_end e) (alone (L.run k)) a = subst (λ c. IsOne sc h (S.is_end e) (alone c) a) run_is (p.is sc h stands here come (fair_if over rows e (and_parts (nat_lt k rows.kernels) (is_end rows (varies over) e) sound).1)) in
            record { item = λ tail. Item.run (one.one tail) };
        weighed = p.weighed (subst IsSimple (sym run_is) (run_simple k));
        made = λ pr lo ids tabled sound item goes.
            let two = and_parts (nat_lt k (length pr.kernels)) (is_end (rows_of pr) (varies over) e) sound in
            p.made pr lo tabled (weaker_end (rows_of pr) (varies over) e two.1) (λ at. subst (IsMade lo at) (sym run_is) (kernel_below pr lo k tabled two.0, kind_is pr lo k tabled goes));
      }) put

  -- a statement that is none of these adds nothing
  pub nothing_put : (s : StmtTree) (old : List Stmt) → is_item s ≡ false → Added old old (IsItemOf range roles whole over fixed s)
  nothing_put s old other = added_none (IsItemOf range roles whole over fixed s) old (record {
    is = λ sc h rows ids stands here come sound item. absurd (false≢true (sym other ∙ item));
    weighed = weighed_none (item_room s) 1;
    made = λ pr lo ids tabled sound item goes. tt;
  })

-- ---- the items of a foreach

-- the items from here on, and what is left to add for them
pub record ItemsNow (sc : Scope) (h : Here) (rows : Rows) (ids : List ℕ) (all now : BlockTree) (list : List Stmt) : Type 0 where
  pub sound : is_block rows true ids now ≡ true
  pub rest : (codes : Codes) → Items sc h now codes → Items sc h all (onto (map plain list) codes)

pub record ItemsSoFar (range : NRange) (roles : ℕ) (whole : List Area) (over : Bounds) (fixed : List Area) (items : List CoreStmt) (i : ℕ) (list : List Stmt) : Type 0 where
  pub is : (sc : Scope) (h : Here) (rows : Rows) (ids : List ℕ) → Stands range roles whole sc → IsEach over fixed sc h → is_block rows true ids (block_of (map plain_stmt items)) ≡ true →
      ItemsNow sc h rows ids (block_of (map plain_stmt items)) (block_of (map plain_stmt (drop i items))) list
  pub weighed : FewSoFar 4 1 (block_of (map plain_stmt items)) (block_of (map plain_stmt (drop i items))) (map plain list)
  pub made : (p : Protocol) (l : Program) (ids : List ℕ) → IsTabledAs p l → is_block (rows_of p) true ids (block_of (map plain_stmt items)) ≡ true → GoAll p (block_of (map plain_stmt items)) →
      AreFlat l (map plain list) × (is_block (rows_of p) true ids (block_of (map plain_stmt (drop i items))) ≡ true) × GoAll p (block_of (map plain_stmt (drop i items)))

pub drop_is : {X : Type 0} (items : List X) (i : ℕ) (x : X) → i < length items → x ≡ get_or items i x → drop i items ≡ x ∷ drop (i + 1) items
drop_is items i x lt is = at_drop_more (λ l. l) items i x lt ∙ ap (λ y. y ∷ drop (i + 1) items) (sym is)

module _ (range : NRange) (roles : ℕ) (whole : List Area) (over : Bounds) (fixed : List Area) where
  pub items_start : (items : List CoreStmt) (list : List Stmt) → list ≡ [] → ItemsSoFar range roles whole over fixed items 0 list
  items_start items list is = record {
    is = λ sc h rows ids stands here sound. record { sound = sound; rest = λ codes z. subst (λ l. Items sc h (block_of (map plain_stmt items)) (onto (map plain l) codes)) (sym is) z };
    weighed = subst (λ l. FewSoFar 4 1 (block_of (map plain_stmt items)) (block_of (map plain_stmt items)) (map plain l)) (sym is) (few_start 4 1 (block_of (map plain_stmt items)));
    made = λ p l ids tabled sound goes. (subst (λ z. AreFlat l (map plain z)) (sym is) tt, sound, goes);
  }

  pub items_step : (items : List CoreStmt) (i : ℕ) (x : CoreStmt) (old new : List Stmt) → i < length items → x ≡ get_or items i x →
      Added old new (IsItemOf range roles whole (Some over) fixed (plain_stmt x).stmt) → ItemsSoFar range roles whole over fixed items i old → ItemsSoFar range roles whole over fixed items (i + 1) new
  items_step items i x old new lt is added so_far = record {
    is = λ sc h rows ids stands here sound.
        let now : ItemsNow sc h rows ids (block_of (map plain_stmt items)) (T.more (plain_stmt x).mark (plain_stmt x).stmt (block_of (map plain_stmt (drop (i + 1) items)))) old =
        subst (λ b. ItemsNow sc h rows ids (block_of (map plain_stmt items)) b old) (ap (λ l. block_of (map plain_stmt l)) (drop_is items i x lt is)) (so_far.is sc h rows ids stands here sound) in
        let item = and_parts (is_item (plain_stmt x).stmt) (is_stmt rows true ids (plain_stmt x).stmt && is_block rows true ids (block_of (map plain_stmt (drop (i + 1) items)))) now.sound in
        let parts = and_parts (is_stmt rows true ids (plain_stmt x).stmt) (is_block rows true ids (block_of (map plain_stmt (drop (i + 1) items)))) item.1 in
        let one = added.has.is sc h rows ids stands here tt parts.0 item.0 in
        record {
          sound = parts.1;
          rest = λ codes z.
              subst (Items sc h (block_of (map plain_stmt items))) (sym (ap (λ l. onto l codes) added.is ∙ onto_append (map plain old) added.piece codes))
              (now.rest (onto added.piece codes) (Items.item (one.item codes) z));
        };
    weighed =
        let rest : BlockTree = block_of (map plain_stmt (drop (i + 1) items)) in
        subst (FewSoFar 4 1 (block_of (map plain_stmt items)) rest) (sym added.is)
        (few_step 4 1 (block_of (map plain_stmt items)) rest (plain_stmt x).mark (plain_stmt x).stmt (map plain old) added.piece
        (subst (λ b. FewSoFar 4 1 (block_of (map plain_stmt items)) b (map plain old)) (ap (λ l. block_of (map plain_stmt l)) (drop_is items i x lt is)) so_far.weighed)
        (weighed_less (item_room (plain_stmt x).stmt) 4 1 1 added.piece (item_most (plain_stmt x).stmt) one_one added.has.weighed));
    made = λ p l ids tabled sound goes.
        let rest : BlockTree = block_of (map plain_stmt (drop (i + 1) items)) in
        let here : block_of (map plain_stmt (drop i items)) ≡ T.more (plain_stmt x).mark (plain_stmt x).stmt rest = ap (λ l. block_of (map plain_stmt l)) (drop_is items i x lt is) in
        let z = so_far.made p l ids tabled sound goes in
        let all_sound : is_block (rows_of p) true ids (T.more (plain_stmt x).mark (plain_stmt x).stmt rest) ≡ true = ap (is_block (rows_of p) true ids) (sym here) ∙ z.1 in
        let all_go : Goes p (plain_stmt x).stmt × GoAll p rest = subst (GoAll p) here z.2 in
        let item = and_parts (is_item (plain_stmt x).stmt) (is_stmt (rows_of p) true ids (plain_stmt x).stmt && is_block (rows_of p) true ids rest) all_sound in
        let parts = and_parts (is_stmt (rows_of p) true ids (plain_stmt x).stmt) (is_block (rows_of p) true ids rest) item.1 in
        (subst (AreFlat l) (sym added.is) (flat_append l (map plain old) added.piece z.0 (added.has.made p l ids tabled parts.0 item.0 all_go.0)), parts.1, all_go.1);
  }

  pub items_done : (b : CoreBlock) (items : List CoreStmt) (i : ℕ) (list : List Stmt) → items ≡ (out-CoreBlock b).list.items → length items ≤ i →
      ItemsSoFar range roles whole over fixed items i list → AreItemsOf range roles whole over fixed (plain_block b).block (plain_all list)
  items_done b items i list same le so_far =
      subst (λ z. AreItemsOf range roles whole over fixed z (plain_all list)) (ap (λ l. block_of (map plain_stmt l)) same ∙ sym (plain_list b)) (record {
        are = λ sc h rows ids stands here sound.
            subst (Items sc h (block_of (map plain_stmt items))) (onto_nothing (map plain list))
            ((so_far.is sc h rows ids stands here sound).rest L.nothing (subst (λ l. Items sc h (block_of (map plain_stmt l)) L.nothing) (sym (drop_of_length-le items le)) Items.none));
        weighed = subst (AreWeighed (each_room 4 (block_of (map plain_stmt items))) 1) (onto_nothing (map plain list))
            (weighed_codes (each_room 4 (block_of (map plain_stmt items))) 1 (map plain list)
            (few_done 4 1 (block_of (map plain_stmt items)) (map plain list) (subst (λ l. FewSoFar 4 1 (block_of (map plain_stmt items)) (block_of (map plain_stmt l)) (map plain list)) (drop_of_length-le items le) so_far.weighed)));
        made = λ p l ids tabled sound goes at.
            subst (AreMade l at) (onto_nothing (map plain list))
            (made_onto l (map plain list) at L.nothing so_far.weighed.none (so_far.made p l ids tabled sound goes).0 tt);
      })
