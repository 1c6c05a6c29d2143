-- The code of a straight statement does a rank's part of it.
use Rattle.std.proofs.Common.{◌≡◌, ◌≤◌, ℕ, ◌+◌, ◌*◌, ℤ, pos, Bool, true, false, ◌&&◌, nat_eq, List, [], ◌∷◌, ◌++◌, refl, sym, ◌∙◌, ap, ap₂, subst, append-nil, arith}
use Rattle.std.specs.Ordering.{int_eq}
use Rattle.std.proofs.lemmas.Bool.{and_parts}
use Rattle.pb_affine.specs.Values.{value}
use Rattle.pb_syntax.specs.declared.tree.Op.{Op}
use Rattle.pb_syntax.specs.declared.tree.Op.TheVariants.{Min, Max, Sum}
use Rattle.pb_world.specs.Actions.{Collective, Kind, Runs, Sends, Receives, Enters, Leaves}
use Rattle.pb_world.specs.Actions as A
use Rattle.pb_core_language.specs.declared.tree.CoreEnd.{CoreEnd}
use Rattle.pb_core_language.specs.Ranks.{seats, number_in}
use Rattle.pb_core_language.specs.Tree.{Mark, StmtTree}
use Rattle.pb_core_language.specs.Plain.{Protocol}
use Rattle.pb_core_language.specs.Flat.{stop}
use Rattle.pb_core_language.specs.FlatOf.{rank_of, flat_stmt}
use Rattle.pb_core_language.specs.FlatOf as F
use Rattle.pb_core_language.specs.Laws.{Numbered, Totalled}
use Rattle.pb_core_language.specs.Sound.{is_over_n, is_small}
use Rattle.pb_core_flat.specs.Seated.{rank, is_rank}
use Rattle.pb_local.specs.Ranks.{Seat}
use Rattle.pb_local.specs.Tree.{Code, Codes, more, size, size_all, Program}
use Rattle.pb_local.specs.Tree as L
use Rattle.pb_local.specs.Collectives as M
use Rattle.pb_local.specs.Machine.{Todo, do_next, leave, does, pushed, move_from}
use Rattle.pb_local.specs.Family.{most_silent}
use Rattle.pb_shape.specs.Places.{Here, peer_of, scope_of}
use Rattle.pb_shape.specs.Items.{Item, message}
use Rattle.pb_shape.specs.Pieces.{Piece}
use Rattle.pb_shape.specs.Items as I
use Rattle.pb_shape.specs.Pieces as P
use Rattle.pb_shape.specs.Ways.{mine}
use Rattle.pb_shape.specs.Straight.{IsSeated, IsVariable, IsEnd, IsItem, IsFine, IsOpenTo, StraightPasses, at_todo}
use Rattle.pb_shape_straight.proofs.Segment.{if_so, part, is_mine, iterations, mine_item, mine_each}
use Rattle.pb_shape_straight.proofs.Along.{Goes, goes_joined, does_one}
use Rattle.pb_shape_straight.proofs.Peers.{world, is_in_role, peer_is, IsNumbered}
use Rattle.pb_shape_straight.proofs.Passing.{Setting, Made, item_done}
use Rattle.pb_shape_straight.proofs.Each.{same_value, Ends, each_done}

same_operation : (op : Op) → M.operation_of op ≡ F.operation_of op
same_operation Min = refl
same_operation Max = refl
same_operation Sum = refl

module _ (p : Protocol) (l : Program) (n : ℤ) (me : Seat) (g : Setting p l n me) (bound : ℕ) where
  -- outside of a foreach an end is one rank, whatever the variable is
  pub end_stays : (e : CoreEnd) (i : ℤ) → IsEnd p n false (pos 0) e → value e.at n (pos 0) ≡ value e.at n i
  end_stays e i h = same_value e.at n (pos 0) i (and_parts (is_over_n e.at.base) (is_small e.at.off) (and_parts _ _ h.sound).1).0

  pub end_at : (e : CoreEnd) (i : ℤ) → IsEnd p n false (pos 0) e → IsEnd p n false i e
  end_at e i h = record { sound = h.sound; is = subst (λ x. is_rank p.roles n e.role x ≡ true) (end_stays e i h) h.is }

  abbrev asks : CoreEnd → ℤ → Bool
  asks e x = nat_eq e.role me.role && int_eq x me.index

  abbrev number_of : CoreEnd → ℤ → ℕ
  number_of e x = number_in (record { role = e.role; index = x }) (seats p.roles n)

  pub record Stays (i : ℤ) (s : StmtTree) : Type 0 where
    pub good : IsItem p n false i s
    pub first : IsItem p n false (pos 0) s
    pub same : part p.roles n (is_mine p.roles n me i) i s ≡ part p.roles n (is_mine p.roles n me (pos 0)) (pos 0) s

  pub item_stays : {h : Here} {s : StmtTree} {tail codes : Codes} → Item (scope_of p) h tail s codes → IsFine p n s → (i : ℤ) → Stays i s
  item_stays (message {l = label} {f = f} {t = t} a b) fine i =
      let x = end_stays f i fine.0 in let y = end_stays t i fine.1 in
      record {
        good = (end_at f i fine.0, end_at t i fine.1, λ e. fine.2 (ap (number_of f) x ∙ e ∙ sym (ap (number_of t) y)));
        first = fine;
        same = ap₂ (λ u v. if_so (asks f u) (Sends (number_of t v) label) ++ if_so (asks t v) (Receives (number_of f u) label)) (sym x) (sym y);
      }
  item_stays (I.run {k = kernel} {e = e} a) fine i =
      record { good = end_at e i fine; first = fine; same = ap (λ u. if_so (asks e u) (Runs kernel)) (sym (end_stays e i fine)) }

  -- a statement that is itself
  same_done : (code : Code) (tail : Codes) (rest : Todo) (k number : ℕ) (i : ℤ) (kinds : List Kind) → IsVariable i → 1 ≤ size code →
      ((behind : ℕ) → Goes l n bound me k i i (do_next number code (pushed behind tail rest)) (pushed behind tail rest) 0 kinds) → Ends p l n me g bound k number i (more code tail) tail rest kinds
  same_done code tail rest k number i kinds near le go =
      record { last = i; near = near; done = record { cost = 0; behind = number + size code; counts = omega arith; small = omega arith; go = go (number + size code) } }

  -- both entries to a collective
  joins_go : (k number : ℕ) (i : ℤ) (code : Code) (joint : Collective) (rest : Todo) →
      move_from l n (at_todo me i (do_next number code rest)) (do_next number code rest) ≡ does (Enters joint) (at_todo me i (leave joint rest)) →
      Goes l n bound me k i i (do_next number code rest) rest 0 (Enters joint ∷ Leaves joint ∷ [])
  joins_go k number i code joint rest e = let a = does_one l n bound me {k = k} e in goes_joined l n bound me a (does_one l n bound me {k = a.left} {first = leave joint rest} refl)

  root_is : (i : ℤ) (e : CoreEnd) → IsEnd p n false (pos 0) e → IsNumbered p l n me i (peer_of e)
  root_is i e fine = g.peers e i (end_at e i fine).is

  root_number : (i : ℤ) (e : CoreEnd) → IsEnd p n false (pos 0) e → rank_of p.roles n e i ≡ rank_of p.roles n e (pos 0)
  root_number i e fine = ap (number_of e) (sym (end_stays e i fine))

  module _ (r : ℕ) (number_is : rank p.roles n me.role me.index ≡ r) where
    pub my_item : (opens : List ℕ) (m : Mark) (s : StmtTree) → IsItem p n false (pos 0) s → part p.roles n (is_mine p.roles n me (pos 0)) (pos 0) s ≡ mine r (flat_stmt p.roles n opens (pos 0) m s stop)
    my_item opens m s fine = sym (append-nil (part p.roles n (is_mine p.roles n me (pos 0)) (pos 0) s)) ∙ sym (mine_item p n r me g.is number_is false opens (pos 0) m s stop fine)

    pub piece_done : (h : Here) → IsOpenTo h n me → (opens : List ℕ) (m : Mark) (s : StmtTree) (tail codes : Codes) → Piece (scope_of p) h tail s codes → IsFine p n s → Made l codes →
        (rest : Todo) (k number : ℕ) (i : ℤ) → IsVariable i → size_all codes ≤ k → 2 * size_all codes ≤ bound → Ends p l n me g bound k number i codes tail rest (mine r (flat_stmt p.roles n opens (pos 0) m s stop))
    piece_done h open' opens m s tail codes (P.item a) fine made rest k number i near room room' =
        let e = item_stays a fine i in
        subst (λ kinds. Ends p l n me g bound k number i codes tail rest kinds) (e.same ∙ my_item opens m s e.first)
        (record {
          last = i;
          near = near;
          done = item_done p l n me g bound false k number i rest a (record { near = near; at = open'.at i; comes = open'.comes i }) e.good made (record { now = room; ever = omega (arith, room') });
        })
    piece_done h open' opens m s tail codes (P.foreach {b = b} {items = items} each) fine made rest k number i near room room' =
        subst (λ kinds. Ends p l n me g bound k number i codes tail rest kinds)
        (sym (append-nil (iterations p.roles n me b items)) ∙ sym (mine_each p n r me g.is number_is opens b items stop fine.each))
        (each_done p l n me g bound h b items open' fine tail codes rest k number i each near made room room')
    piece_done h open' opens m s tail codes P.barrier fine made rest k number i near room room' =
        same_done L.barrier tail rest k number i (Enters A.Barrier ∷ Leaves A.Barrier ∷ []) near (omega arith) (λ behind. joins_go k number i L.barrier A.Barrier (pushed behind tail rest) refl)
    piece_done h open' opens m s tail codes (P.broadcast {l = label} {e = e}) fine made rest k number i near room room' =
        let joint : ℕ → Collective = λ q. A.Broadcast label q in
        let x = root_is i e fine in
        let c = joint (rank_of p.roles n e (pos 0)) in
        same_done (L.broadcast label (peer_of e)) tail rest k number i (Enters c ∷ Leaves c ∷ []) near (omega arith)
        (λ behind. joins_go k number i (L.broadcast label (peer_of e)) c (pushed behind tail rest)
        (rw x.there (ap (λ q. does (Enters (joint q)) (at_todo me i (leave (joint q) (pushed behind tail rest)))) (x.same ∙ root_number i e fine))))
    piece_done h open' opens m s tail codes (P.reduce {l = label} {op = op} {e = e}) fine made rest k number i near room room' =
        let joint : A.Operation → ℕ → Collective = λ o q. A.Reduce label o q in
        let x = root_is i e fine in
        let c = joint (F.operation_of op) (rank_of p.roles n e (pos 0)) in
        same_done (L.reduce label op (peer_of e)) tail rest k number i (Enters c ∷ Leaves c ∷ []) near (omega arith)
        (λ behind. joins_go k number i (L.reduce label op (peer_of e)) c (pushed behind tail rest)
        (rw x.there (ap₂ (λ o q. does (Enters (joint o q)) (at_todo me i (leave (joint o q) (pushed behind tail rest)))) (same_operation op) (x.same ∙ root_number i e fine))))
    piece_done h open' opens m s tail codes (P.allreduce {l = label} {op = op}) fine made rest k number i near room room' =
        let joint : A.Operation → Collective = λ o. A.Allreduce label o in
        let c = joint (F.operation_of op) in
        same_done (L.allreduce label op) tail rest k number i (Enters c ∷ Leaves c ∷ []) near (omega arith)
        (λ behind. joins_go k number i (L.allreduce label op) c (pushed behind tail rest)
        (ap (λ o. does (Enters (joint o)) (at_todo me i (leave (joint o) (pushed behind tail rest)))) (same_operation op)))

pub setting : Numbered → Totalled → (p : Protocol) (l : Program) (n : ℤ) (r : ℕ) (me : Seat) → IsSeated p l n r me → Setting p l n me
setting numbered totalled p l n r me h = record {
  within = h.within;
  is = h.is;
  in_role = is_in_role p.roles n me.role me.index h.is;
  size = (world numbered totalled p l n h.sound h.shape h.made h.within h.few).size;
  peers = λ e i is. peer_is numbered totalled p l n h.sound h.shape h.made h.within h.few me (peer_of e) i is;
}

pub straight_passes : Numbered → Totalled → StraightPasses
straight_passes numbered totalled p l n r me seated h open' opens m s tail codes piece fine at made rest k number i near room room' =
    let e = piece_done p l n me (setting numbered totalled p l n r me seated) (most_silent l) r seated.number h open' opens m s tail codes piece fine (record { scope = at; made = made }) rest k number i near room room' in
    record { variable = e.last; near = e.near; behind = e.done.behind; counts = e.done.counts; left = e.done.go.left; enough = omega (arith, e.done.go.enough, e.done.small); way = e.done.go.way }
