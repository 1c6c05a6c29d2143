-- The text of a rank does next what its endpoint does next, and so simulates it.
use Rattle.std.proofs.Common.{◌≡◌, ◌≤◌, ◌<◌, ℕ, zero, suc, ◌+◌, ◌==◌, ℤ, pos, Bool, true, false, ◌||◌, cond, List, [], ◌∷◌, length, Option, refl, sym, ap, ◌∙◌, subst, true≢false, arith}
use Rattle.std.proofs.lemmas.Bool.{and_parts}
use Rattle.pb_affine.specs.declared.guard.Guard.{Guard}
use Rattle.pb_world.specs.Actions.{Action}
use Rattle.pb_world.specs.Once.{Once}
use Rattle.pb_world.specs.Carry.{here, Simulates}
use Rattle.pb_core_language.specs.declared.tree.CoreEnd.{CoreEnd}
use Rattle.pb_core_language.specs.Tree as T
use Rattle.pb_core_language.specs.Tree.{Mark, StmtTree, BlockTree, BranchTrees}
use Rattle.pb_core_language.specs.Plain.{Protocol}
use Rattle.pb_core_language.specs.Flat.{stop, takes_part_among}
use Rattle.pb_core_language.specs.FlatOf.{flat_stmt, flat_branches, rank_of, between}
use Rattle.pb_core_language.specs.Outcomes.{firsts_among, source_of}
use Rattle.pb_core_endpoint.specs.Core.{has_simple_items, have_simple_items, branches_have_simple_items}
use Rattle.pb_core_endpoint.specs.Endpoint.{Code, Part, arms, done, choose, told, again}
use Rattle.pb_local.specs.declared.stmt.Test.{Test}
use Rattle.pb_local.specs.declared.stmt.Relay.{Relay}
use Rattle.pb_local.specs.Ranks.{Seat}
use Rattle.pb_local.specs.Tree as L
use Rattle.pb_local.specs.Tree.{Codes, size_all, size_parts, Parts, Program}
use Rattle.pb_local.specs.WellMade.{AreMade}
use Rattle.pb_local.specs.Machine as X
use Rattle.pb_local.specs.Machine.{Todo, Rank, pushed, move, move_from}
use Rattle.pb_local.specs.Family.{most_silent}
use Rattle.pb_local.proofs.Moves.{move_is}
use Rattle.pb_shape.specs.Shape as S
use Rattle.pb_shape.specs.Places.{Here, peer_of, is_end, scope_of, inside}
use Rattle.pb_shape.specs.Guards.{alone, Names, One}
use Rattle.pb_shape.specs.Loops.{Around, takers}
use Rattle.pb_shape.specs.Choices.{told_by, Tests, Relays}
use Rattle.pb_shape.specs.Shape.{Shape, Shapes}
use Rattle.pb_shape.specs.Straight.{IsVariable, at_todo}
use Rattle.pb_shape.specs.Ways.{mine}
use Rattle.pb_shape_follow.proofs.Stacks.{weight, weight_pushed, all, me_rank, held, flat, coded, Sits, Stands, Sim, empty}
use Rattle.pb_shape_follow.proofs.Stacks as Y
use Rattle.pb_shape_follow.proofs.Fronts.{AreStraight, laid, down, debt, Budget, Near, Rel, moves, after, Front, same_front}
use Rattle.pb_shape_follow.proofs.Fronts as F
use Rattle.pb_shape_follow.proofs.Simulated.{up, simulated}
use Rattle.pb_shape_follow.proofs.Chains.{straight_all, piece_code}
use Rattle.pb_shape_follow.proofs.Pieces.{Left, one_leaves, piece_leaves}
use Rattle.pb_shape_follow.proofs.Steps.{Given, Ahead, quiet_way, act_way, piece_front, one_skips, one_enters, told_front}
use Rattle.pb_shape_follow.proofs.Blocks.{Over, sits_piece, sits_behind_loop, made_later, end_front, loop_front, again_front}
use Rattle.pb_shape_follow.proofs.Choices.{IsThere, Room, told_size, choose_front, ask_front}

module _ (p : Protocol) (l : Program) (n : ℤ) (me : Seat) (g : Given p l n me) where
  -- ---- the end of a loop's body is passed without a step

  same_next : (i : ℤ) (u v t : Todo) → move_from l n (at_todo me i u) t ≡ move_from l n (at_todo me i v) t
  same_next i u v X.finished = refl
  same_next i u v (X.do_next k (L.when gs a b) t) = refl
  same_next i u v (X.do_next k (L.for_each low high body) t) = refl
  same_next i u v (X.do_next k (L.own off) t) = refl
  same_next i u v (X.do_next k (L.loop id body) t) = refl
  same_next i u v (X.do_next k (L.again id) t) = refl
  same_next i u v (X.do_next k (L.choice who kernel relays source [] parts) t) = refl
  same_next i u v (X.do_next k (L.choice who kernel relays source (x ∷ tests) parts) t) = refl
  same_next i u v (X.do_next k (L.send lab to) t) = refl
  same_next i u v (X.do_next k (L.recv lab source) t) = refl
  same_next i u v (X.do_next k (L.run kernel) t) = refl
  same_next i u v (X.do_next k L.barrier t) = refl
  same_next i u v (X.do_next k (L.broadcast lab root) t) = refl
  same_next i u v (X.do_next k (L.reduce lab op root) t) = refl
  same_next i u v (X.do_next k (L.allreduce lab op) t) = refl
  same_next i u v (X.round_of high k body t) = refl
  same_next i u v (X.end_of id k body t) = same_next i u v t
  same_next i u v (X.leave joint t) = refl

  pub past_end : (i : ℤ) (x start : ℕ) (inner : Codes) (t : Todo) → move l n (at_todo me i (X.end_of x start inner t)) ≡ move l n (at_todo me i t)
  past_end i x start inner t = move_is l n (at_todo me i (X.end_of x start inner t)) ∙ same_next i (X.end_of x start inner t) t t ∙ sym (move_is l n (at_todo me i t))

  -- ---- a choice

  choice_front : {h : Here} {a : Around} {m : Mark} {kern : ℕ} {from : CoreEnd} {bs : BranchTrees} {rest : BlockTree} {parts : Parts} {tail codes : Codes} {o : Option Code} {K : List Part} {t : Todo} (who : Guard) (relays : List Relay) (tests : List Test)
      (b1 b2 : Bool) (c : Bool) (k number : ℕ) (i : ℤ) →
      (rank_of p.roles n from (pos 0) == me_rank p l n me) ≡ b1 → takes_part_among (held p l n me a) (me_rank p l n me) (flat_branches p.roles n a.opens (pos 0) bs) ≡ b2 →
      One (scope_of p) h (takers (scope_of p) a m (T.choice kern from bs)) (told_by relays (L.choice who kern relays (peer_of from) tests parts)) tail codes →
      Names (scope_of p) h (who ∷ []) (is_end from) → Tests (scope_of p) h a bs tests → Relays (scope_of p) a from bs relays →
      Shapes (scope_of p) (inside h (takers (scope_of p) a m (T.choice kern from bs))) a bs parts → Shape (scope_of p) h a rest tail →
      (z : Sits p l n me h a (T.more m (T.choice kern from bs) rest) codes) → Sits p l n me h a rest tail → Over p l n me a o K t → IsVariable i → Budget p l n me c k (pushed number codes t) →
      ((number' k' : ℕ) → Budget p l n me c k' (pushed number' tail t) → Ahead p l n me g k' c (at_todo me i (pushed number' tail t)) (record { body = o; code = coded p l n me a rest } ∷ K)) →
      Ahead p l n me g k c (at_todo me i (pushed number codes t)) (record {
        body = o;
        code = cond b1 (choose kern (arms (held p l n me a) (me_rank p l n me) (flat_branches p.roles n a.opens (pos 0) bs)) (coded p l n me a rest))
            (cond b2 (told (source_of (firsts_among (held p l n me a) (me_rank p l n me) (flat_branches p.roles n a.opens (pos 0) bs))) (arms (held p l n me a) (me_rank p l n me) (flat_branches p.roles n a.opens (pos 0) bs)) (coded p l n me a rest)) (coded p l n me a rest));
      } ∷ K)
  choice_front {h = h} {a = a} {m = m} {kern = kern} {from = from} {bs = bs} {rest = rest} {parts = parts} {tail = tail} {codes = codes} {o = o} {K = K} {t = t} who relays tests b1 b2 c k number i e1 e2 one names tested relayed shapes shape z sits over near room go =
      by b1 b2 e1 e2
    where
      text : L.Code
      text = L.choice who kern relays (peer_of from) tests parts

      takes : (u v : Bool) → (rank_of p.roles n from (pos 0) == me_rank p l n me) ≡ u → takes_part_among (held p l n me a) (me_rank p l n me) (flat_branches p.roles n a.opens (pos 0) bs) ≡ v →
          takers (scope_of p) a m (T.choice kern from bs) n i me.role me.index ≡ (u || v) || false
      takes u v e f = ap (λ q. (q || takes_part_among (held p l n me a) (me_rank p l n me) (flat_branches p.roles n a.opens (pos 0) bs)) || false) e ∙ ap (λ q. (u || q) || false) f

      there_is : takers (scope_of p) a m (T.choice kern from bs) n i me.role me.index ≡ true → AreMade l z.made.at (told_by relays (L.choice who kern relays (peer_of from) tests parts)) → IsThere p l n me g h a m kern from bs rest who relays tests parts tail codes
      there_is e made = record { names = names; tested = tested; relayed = relayed; shapes = shapes; shape = shape; sits = z; behind = sits; takes = e; made = made }

      has_room : (k1 k' behind : ℕ) → k ≡ suc k1 → suc (size_all (told_by relays (L.choice who kern relays (peer_of from) tests parts)) + size_all tail) ≤ size_all codes →
          k1 + size_all (alone (L.choice who kern relays (peer_of from) tests parts)) ≤ k' + size_all (told_by relays (L.choice who kern relays (peer_of from) tests parts)) →
          Room p l n me g h a m kern from bs rest who relays tests parts tail codes c k' (pushed behind tail t)
      has_room k1 k' behind e fewer le =
          let w = weight_pushed number codes t in
          let v = weight_pushed behind tail t in
          let q = room.enough in
          let r = room.small in
          let s = told_size p l n me g h a m kern from bs rest who relays tests parts tail codes relays in
          record { small = omega arith; enough = omega arith }

      told_room : (k1 : ℕ) → k ≡ suc k1 → suc (size_all (told_by relays (L.choice who kern relays (peer_of from) tests parts)) + size_all tail) ≤ size_all codes → size_all (told_by relays (L.choice who kern relays (peer_of from) tests parts)) ≤ k1
      told_room k1 e fewer = let w = weight_pushed number codes t in let q = room.enough in omega arith

      by : (b1 b2 : Bool) → (rank_of p.roles n from (pos 0) == me_rank p l n me) ≡ b1 → takes_part_among (held p l n me a) (me_rank p l n me) (flat_branches p.roles n a.opens (pos 0) bs) ≡ b2 →
          Ahead p l n me g k c (at_todo me i (pushed number codes t)) (record {
            body = o;
            code = cond b1 (choose kern (arms (held p l n me a) (me_rank p l n me) (flat_branches p.roles n a.opens (pos 0) bs)) (coded p l n me a rest))
                (cond b2 (told (source_of (firsts_among (held p l n me a) (me_rank p l n me) (flat_branches p.roles n a.opens (pos 0) bs))) (arms (held p l n me a) (me_rank p l n me) (flat_branches p.roles n a.opens (pos 0) bs)) (coded p l n me a rest)) (coded p l n me a rest));
          } ∷ K)
      by false false e f = one_skips p l n me g number i t z.made.at k one z.here z.made.made (takes false false e f) near room go
      by true b2 e f =
          one_enters p l n me g number i t z.made.at k one z.here z.made.made (takes true b2 e f) near room (λ first behind k1 less fewer made.
          told_front p l n me g first i (pushed behind tail t) k1 relays text near (told_room k1 less fewer) (λ j number' k' near' found le le'.
          choose_front p l n me g h a m kern from bs rest who relays tests parts tail codes (there_is (takes true b2 e f) made) c k' number' behind j near' e over (has_room k1 k' behind less fewer le)))
      by false true e f =
          one_enters p l n me g number i t z.made.at k one z.here z.made.made (takes false true e f) near room (λ first behind k1 less fewer made.
          told_front p l n me g first i (pushed behind tail t) k1 relays text near (told_room k1 less fewer) (λ j number' k' near' found le le'.
          ask_front p l n me g h a m kern from bs rest who relays tests parts tail codes (there_is (takes false true e f) made) c k' number' behind j near' found e f over (has_room k1 k' behind less fewer le)))

  pub sits_behind_choice : {h : Here} {a : Around} {m : Mark} {kern : ℕ} {from : CoreEnd} {bs : BranchTrees} {rest : BlockTree} {tail codes : Codes} → (z : Sits p l n me h a (T.more m (T.choice kern from bs) rest) codes) → Left l z.made.at codes tail → Sits p l n me h a rest tail
  sits_behind_choice {a = a} {bs = bs} {rest = rest} {tail = tail} {codes = codes} z left = record {
    fine = z.fine.1 refl;
    here = z.here;
    simple = (and_parts (branches_have_simple_items bs) (have_simple_items rest) z.simple).1;
    around = z.around;
    keeps = z.keeps.4;
    made = made_later p l n me g a codes tail z.made left;
  }

  -- ---- a block

  with_code : {k : ℕ} {c : Bool} {y : Rank} {o : Option Code} {K : List Part} (x z : Code) → x ≡ z → Ahead p l n me g k c y (record { body = o; code = z } ∷ K) → Ahead p l n me g k c y (record { body = o; code = x } ∷ K)
  with_code {k = k} {c = c} {y = y} {o = o} {K = K} x z e f = subst (λ q. Ahead p l n me g k c y (record { body = o; code = q } ∷ K)) (sym e) f

  pub block_front : {h : Here} {a : Around} {core : BlockTree} {codes : Codes} {o : Option Code} {K : List Part} {t : Todo} (c : Bool) (k number : ℕ) (i : ℤ) → Shape (scope_of p) h a core codes → Sits p l n me h a core codes → Over p l n me a o K t → IsVariable i →
      Budget p l n me c k (pushed number codes t) → Ahead p l n me g k c (at_todo me i (pushed number codes t)) (record { body = o; code = coded p l n me a core } ∷ K)
  block_front c k number i S.none z over near room = end_front p l n me g c k i over near room
  block_front c k number i (S.unreached nobody) z over near room = absurd (true≢false (nobody n i me.role me.index g.seated.within g.seated.is (z.here.at i) (z.here.comes i)))
  block_front {a = a} {codes = codes} {o = o} {K = K} {t = t} c k number i (S.piece {m = m} {s = s} {rest = rest} {tail = tail} some piece shape) z over near room =
      let r = me_rank p l n me in
      let both = and_parts (has_simple_items s) (have_simple_items rest) z.simple in
      let left = piece_leaves l z.made.at piece z.made.made in
      let sits = sits_piece p l n me g piece z left in
      let kinds = mine r (flat_stmt p.roles n a.opens (pos 0) m s stop) in
      let w = weight_pushed number codes t in
      let pass = g.passes p l n r me g.seated _ z.here a.opens m s tail codes piece z.fine.0 z.made.at z.made.made t k number i near (let q = room.enough in omega arith) (let q = room.small in omega arith) in
      with_code (coded p l n me a (T.more m s rest)) (laid kinds (coded p l n me a rest)) (piece_code p.roles n r (held p l n me a) a.opens m s piece both.0 (flat p l n me a rest))
      (piece_front p l n me g number pass.behind t codes tail kinds pass.way (straight_all r (flat_stmt p.roles n a.opens (pos 0) m s stop)) pass.enough left.fewer room pass.near (over.on_top pass.behind (record { shape = shape; sits = sits }))
      (λ room'. block_front c pass.left pass.behind pass.variable shape sits over pass.near room'))
  block_front {a = a} {codes = codes} {o = o} {K = K} {t = t} c k number i (S.loop {m = m} {mark = mark} {id = id} {body = whole} {rest = rest} {tail = tail} some one shape shape') z over near room =
      let left = one_leaves l z.made.at one z.made.made in
      let sits = sits_behind_loop p l n me g z left in
      loop_front p l n me g _ c k number i refl one shape shape' z sits over near room (λ number' k' room'. block_front c k' number' i shape' sits over near room')
  block_front {a = a} {o = o} {K = K} {t = t} c k number i (S.again {m = m} {id = id} {rest = rest} some) z over near room =
      let deep : between id a.opens < length a.opens = subst (λ d. between id a.opens < d) z.around.deep z.keeps in
      with_code (coded p l n me a (T.more m (T.again id) rest)) (again (between id a.opens)) (ap (λ b. cond b (again (between id a.opens)) done) (z.around.is_held (between id a.opens) deep)) (again_front p l n me g c k number i some z over near room)
  block_front {a = a} {codes = codes} {o = o} {K = K} {t = t} c k number i (S.choice {m = m} {k = kern} {at = from} {bs = bs} {rest = rest} {parts = parts} {tail = tail} who relays tests some one names tested held relayed called shapes shape') z over near room =
      let left = one_leaves l z.made.at one z.made.made in
      let sits = sits_behind_choice z left in
      choice_front who relays tests _ _ c k number i refl refl one names tested relayed shapes shape' z sits over near room (λ number' k' room'. block_front c k' number' i shape' sits over near room')

  -- ---- any stack

  stack_front : {a : Around} {K : List Part} {t : Todo} (c : Bool) (k : ℕ) (i : ℤ) → Sim p l n me a K t → IsVariable i → Budget p l n me c k t → Ahead p l n me g k c (at_todo me i t) K
  stack_front c k i empty near room = F.over zero (at_todo me i X.finished) here (omega arith) (ap X.next_in (move_is l n (at_todo me i X.finished)))
  stack_front c k i (Y.block {a = a} {t = t} number stands sim) near room =
      block_front c k number i stands.shape stands.sits (record { on_top = λ number' top. Y.block number' top sim; out = a; behind = t; below = sim; same = λ i. refl; weighs = refl }) near room
  stack_front c k i (Y.body {a = a} {inner = inner} {t = t} number id x start stands whole fresh small sim) near room =
      block_front c k number i stands.shape stands.sits (record { on_top = λ number' top. Y.body number' id x start top whole fresh small sim; out = a; behind = t; below = sim; same = λ i. past_end i x start inner t; weighs = refl }) near room

  near_front : (k : ℕ) (x : Once (List Part)) (y : Rank) → Near p l n me k x y → Ahead p l n me g k x.went_back y x.state
  near_front k x y (F.stands {c = c} {i = i} sim near room) = stack_front c k i sim near room
  near_front k x y (moves {c = c} {kinds = []} {i = i} way straight sim near room) = quiet_way p l n me g way (stack_front c _ i sim near room)
  near_front k x y (moves {kinds = kind ∷ kinds} way straight sim near room) = act_way p l n me g kind kinds way straight sim near room

  pub simulates : (allowed : Action → Bool) → Simulates up (down p l n me) allowed (most_silent l) (Rel p l n me)
  simulates allowed = simulated p l n me allowed (λ k x y rel. same_front p l n me y rel.twin rel.same (near_front k x rel.twin rel.near))
