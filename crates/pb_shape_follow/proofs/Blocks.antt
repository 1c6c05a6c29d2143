-- What a text does next in a block, beside what the endpoint does next in it.
use Rattle.std.proofs.Common.{◌≡◌, ◌≤◌, ◌<◌, ℕ, zero, suc, ◌+◌, ℤ, pos, Bool, true, false, ◌||◌, cond, nat_eq, List, ◌∷◌, length, Option, refl, sym, ap, subst, arith}
use Rattle.std.proofs.lemmas.Bool.Decides.{nat_tests}
use Rattle.std.proofs.lemmas.Bool.{and_parts}
use Rattle.pb_world.specs.Carry.{Quietly, here, further}
use Rattle.pb_core_language.specs.Ranks.{total}
use Rattle.pb_core_language.specs.Tree as T
use Rattle.pb_core_language.specs.Tree.{Mark, StmtTree, BlockTree, is_again}
use Rattle.pb_core_language.specs.Plain.{Protocol}
use Rattle.pb_core_language.specs.Lists.{nth}
use Rattle.pb_core_language.specs.Flat.{Block, stop, takes_part}
use Rattle.pb_core_language.specs.FlatOf.{flat_block, between}
use Rattle.pb_core_language.specs.Run.{at_rank}
use Rattle.pb_core_endpoint.specs.Core.{has_simple_items, have_simple_items}
use Rattle.pb_core_endpoint.specs.Endpoint.{Code, Part, loop, again, return_to}
use Rattle.pb_local.specs.Ranks.{Seat}
use Rattle.pb_local.specs.Tree as L
use Rattle.pb_local.specs.Tree.{Codes, nothing, more, size_all, Program}
use Rattle.pb_local.specs.WellMade as W
use Rattle.pb_local.specs.WellMade.{AreMade}
use Rattle.pb_local.specs.Machine as X
use Rattle.pb_local.specs.Machine.{Todo, Rank, pushed, back_to, move}
use Rattle.pb_local.proofs.Moves.{move_is}
use Rattle.pb_shape.specs.Items as I
use Rattle.pb_shape.specs.Pieces as P
use Rattle.pb_shape.specs.Shape as S
use Rattle.pb_shape.specs.Places.{Here, everyone, inside, scope_of}
use Rattle.pb_shape.specs.Guards.{alone, Somebody, One}
use Rattle.pb_shape.specs.Pieces.{Piece}
use Rattle.pb_shape.specs.Loops.{Around, in_loop, number_at, takers}
use Rattle.pb_shape.specs.Shape.{Shape}
use Rattle.pb_shape.specs.Straight.{IsVariable, at_todo}
use Rattle.pb_shape_follow.proofs.Stacks.{weight, weight_pushed, all, me_rank, held, flat, coded, IsAround, IsMadeIn, Sits, Stands, IsFresh, Sim, body, Back, go_back}
use Rattle.pb_shape_follow.proofs.Fronts.{debt, Budget, stands, quiets}
use Rattle.pb_shape_follow.proofs.Chains.{piece_keeps}
use Rattle.pb_shape_follow.proofs.Pieces.{Left}
use Rattle.pb_shape_follow.proofs.Steps.{Given, Ahead, one_skips, one_enters}

-- what a block's code stands over: the endpoint's stack below, and what the text has still to do behind
pub record Over (p : Protocol) (l : Program) (n : ℤ) (me : Seat) (a : Around) (o : Option Code) (K : List Part) (t : Todo) : Type 0 where
  pub on_top : {h : Here} {core : BlockTree} {codes : Codes} (number : ℕ) → Stands p l n me h a core codes → Sim p l n me a (record { body = o; code = coded p l n me a core } ∷ K) (pushed number codes t)
  pub out : Around
  pub behind : Todo
  pub below : Sim p l n me out K behind
  pub same : (i : ℤ) → move l n (at_todo me i t) ≡ move l n (at_todo me i behind)
  pub weighs : weight t ≡ weight behind

module _ (p : Protocol) (l : Program) (n : ℤ) (me : Seat) (g : Given p l n me) where
  -- ---- what is kept

  pub made_later : (a : Around) (codes tail : Codes) (m : IsMadeIn p l n me a codes) → Left l m.at codes tail → IsMadeIn p l n me a tail
  made_later a codes tail m h = record { at = h.at; made = h.made; below = λ k lt. let x = m.below k lt in let y = h.later in omega arith }

  pub piece_goes : {h : Here} {s : StmtTree} {tail codes : Codes} → Piece (scope_of p) h tail s codes → is_again s ≡ false
  piece_goes (P.item (I.message a b)) = refl
  piece_goes (P.item (I.run a)) = refl
  piece_goes (P.foreach w) = refl
  piece_goes P.barrier = refl
  piece_goes P.broadcast = refl
  piece_goes P.reduce = refl
  piece_goes P.allreduce = refl

  pub sits_piece : {h : Here} {a : Around} {m : Mark} {s : StmtTree} {rest : BlockTree} {tail codes : Codes} → Piece (scope_of p) h tail s codes → (x : Sits p l n me h a (T.more m s rest) codes) → Left l x.made.at codes tail → Sits p l n me h a rest tail
  sits_piece {a = a} {m = m} {s = s} {rest = rest} {tail = tail} {codes = codes} piece x left =
      let both = and_parts (has_simple_items s) (have_simple_items rest) x.simple in
      record {
        fine = x.fine.1 (piece_goes piece);
        here = x.here;
        simple = both.1;
        around = x.around;
        keeps = piece_keeps p.roles n (me_rank p l n me) (total p.roles n) x.around.env a.opens m s piece both.0 (flat p l n me a rest) x.keeps;
        made = made_later a codes tail x.made left;
      }

  abbrev pub loop_flat : Around → ℕ → BlockTree → Block
  loop_flat a id whole = flat_block p.roles n (id ∷ a.opens) (pos 0) whole stop

  -- a rank takes part in a loop
  abbrev pub in_body : Around → ℕ → BlockTree → Bool
  in_body a id whole = takes_part (false ∷ held p l n me a) (me_rank p l n me) (loop_flat a id whole)

  abbrev pub loop_in : Around → ℕ → ℕ → BlockTree → Around
  loop_in a id x whole = in_loop (scope_of p) a id x whole

  around_loop : (a : Around) (id x : ℕ) (whole : BlockTree) → in_body a id whole ≡ true → IsAround p l n me a → IsAround p l n me (loop_in a id x whole)
  around_loop a id x whole e h = record {
    env = (λ r. takes_part (false ∷ at_rank r h.env) r (loop_flat a id whole)) ∷ h.env;
    same = ap (λ bits. takes_part (false ∷ bits) (me_rank p l n me) (loop_flat a id whole) ∷ bits) h.same;
    deep = ap suc h.deep;
    is_held = bit;
  }
    where
      bit : (k : ℕ) → k < suc (length a.opens) → nth (in_body a id whole ∷ held p l n me a) k ≡ true
      bit zero lt = e
      bit (suc k) lt = h.is_held k (omega (arith, lt))

  number_unlike : (x y z : ℕ) → x < y → z ≡ y → nat_eq x z ≡ false
  number_unlike x y z lt e = grind (arith, nat_tests)

  fresh_loop : (a : Around) (x : ℕ) (inner : Codes) (s : W.Scope) → ((k : ℕ) → k < length a.opens → number_at a.numbers k < s.loops) → AreMade l s (alone (L.loop x inner)) → IsFresh p l n me a x
  fresh_loop a x inner s below made k lt = number_unlike (number_at a.numbers k) s.loops x (below k lt) made.0.0

  made_loop : (a : Around) (id x : ℕ) (whole : BlockTree) (inner : Codes) (s : W.Scope) → ((k : ℕ) → k < length a.opens → number_at a.numbers k < s.loops) → AreMade l s (alone (L.loop x inner)) → IsMadeIn p l n me (loop_in a id x whole) inner
  made_loop a id x whole inner s below made = record { at = W.in_loop s x; made = made.0.1; below = less }
    where
      less : (k : ℕ) → k < suc (length a.opens) → number_at (x ∷ a.numbers) k < s.loops + 1
      less zero lt = let e = made.0.0 in omega arith
      less (suc k) lt = let b = below k (omega (arith, lt)) in omega arith

  pub sits_loop : {h : Here} {a : Around} {m mark : Mark} {id x : ℕ} {whole rest : BlockTree} {inner codes : Codes} (s : W.Scope) → in_body a id whole ≡ true → (z : Sits p l n me h a (T.more m (T.loop id mark whole) rest) codes) →
      ((k : ℕ) → k < length a.opens → number_at a.numbers k < s.loops) → AreMade l s (alone (L.loop x inner)) →
      Sits p l n me (inside h (takers (scope_of p) a m (T.loop id mark whole))) (loop_in a id x whole) whole inner
  unfolding around_loop
  sits_loop {h = h} {a = a} {m = m} {mark = mark} {id = id} {x = x} {whole = whole} {rest = rest} {inner = inner} s e z below made =
      let taker : takers (scope_of p) a m (T.loop id mark whole) n (pos 0) me.role me.index ≡ true = ap (λ b. b || false) e in record {
        fine = z.fine.0;
        here = record { at = z.here.at; comes = λ i. rw taker (z.here.comes i) };
        simple = (and_parts (have_simple_items whole) (have_simple_items rest) z.simple).0;
        around = around_loop a id x whole e z.around;
        keeps = z.keeps.0;
        made = made_loop a id x whole inner s below made;
      }

  pub sits_behind_loop : {h : Here} {a : Around} {m mark : Mark} {id : ℕ} {whole rest : BlockTree} {tail codes : Codes} → (z : Sits p l n me h a (T.more m (T.loop id mark whole) rest) codes) → Left l z.made.at codes tail → Sits p l n me h a rest tail
  sits_behind_loop {a = a} {whole = whole} {rest = rest} {tail = tail} {codes = codes} z left = record {
    fine = z.fine.1 refl;
    here = z.here;
    simple = (and_parts (have_simple_items whole) (have_simple_items rest) z.simple).1;
    around = z.around;
    keeps = z.keeps.1;
    made = made_later a codes tail z.made left;
  }

  -- ---- the end of a block

  pub end_front : {a : Around} {o : Option Code} {K : List Part} {t : Todo} (c : Bool) (k : ℕ) (i : ℤ) → Over p l n me a o K t → IsVariable i → Budget p l n me c k t → Ahead p l n me g k c (at_todo me i t) (record { body = o; code = coded p l n me a T.nothing } ∷ K)
  end_front {t = t} c k i over near room =
      quiets refl (λ h. record {
        j = zero;
        i = k;
        z = at_todo me i t;
        steps = here;
        few = omega arith;
        rel = record { twin = at_todo me i over.behind; same = over.same i; near = stands over.below near (record { small = (let e = over.weighs in let a = room.small in omega arith); enough = (let e = over.weighs in let a = room.enough in omega arith) }) };
      })

  -- ---- a loop

  pub loop_front : {h : Here} {a : Around} {m mark : Mark} {id x : ℕ} {whole rest : BlockTree} {inner tail codes : Codes} {o : Option Code} {K : List Part} {t : Todo} (b : Bool) (c : Bool) (k number : ℕ) (i : ℤ) →
      in_body a id whole ≡ b → One (scope_of p) h (takers (scope_of p) a m (T.loop id mark whole)) (alone (L.loop x inner)) tail codes →
      Shape (scope_of p) (inside h (takers (scope_of p) a m (T.loop id mark whole))) (loop_in a id x whole) whole inner → Shape (scope_of p) h a rest tail →
      (z : Sits p l n me h a (T.more m (T.loop id mark whole) rest) codes) → Sits p l n me h a rest tail → Over p l n me a o K t → IsVariable i → Budget p l n me c k (pushed number codes t) →
      ((number' k' : ℕ) → Budget p l n me c k' (pushed number' tail t) → Ahead p l n me g k' c (at_todo me i (pushed number' tail t)) (record { body = o; code = coded p l n me a rest } ∷ K)) →
      Ahead p l n me g k c (at_todo me i (pushed number codes t)) (record { body = o; code = cond b (loop (coded p l n me (loop_in a id x whole) whole) (coded p l n me a rest)) (coded p l n me a rest) } ∷ K)
  loop_front {a = a} {m = m} {mark = mark} {id = id} {whole = whole} {t = t} false c k number i e one shape shape' z sits over near room go =
      let taker : takers (scope_of p) a m (T.loop id mark whole) n i me.role me.index ≡ false = ap (λ b. b || false) e in
      one_skips p l n me g number i t z.made.at k one z.here z.made.made taker near room go
  loop_front {h = h} {a = a} {m = m} {mark = mark} {id = id} {x = x} {whole = whole} {rest = rest} {inner = inner} {tail = tail} {codes = codes} {o = o} {K = K} {t = t} true c k number i e one shape shape' z sits over near room go =
      let taker : takers (scope_of p) a m (T.loop id mark whole) n i me.role me.index ≡ true = ap (λ b. b || false) e in
      one_enters p l n me g number i t z.made.at k one z.here z.made.made taker near room (λ inside_number behind k' is_less fewer made. into k' inside_number behind is_less fewer made)
    where
      into : (k' at_number behind : ℕ) → k ≡ suc k' → suc (size_all (alone (L.loop x inner)) + size_all tail) ≤ size_all codes → AreMade l z.made.at (alone (L.loop x inner)) →
          Ahead p l n me g k' c (at_todo me i (pushed at_number (alone (L.loop x inner)) (pushed behind tail t))) (record { body = o; code = loop (coded p l n me (loop_in a id x whole) whole) (coded p l n me a rest) } ∷ K)
      into zero at_number behind is_less fewer made = absurd (let w = weight_pushed number codes t in let q = room.enough in omega arith)
      into (suc k') at_number behind is_less fewer made =
          let start = suc at_number in
          let t' = pushed behind tail t in
          let here' : Stands p l n me (inside h (takers (scope_of p) a m (T.loop id mark whole))) (loop_in a id x whole) whole inner = record { shape = shape; sits = sits_loop z.made.at e z z.made.below made } in
          let w = weight_pushed number codes t in
          let v = weight_pushed behind tail t in
          let u = weight_pushed start inner (X.end_of x start inner t') in
          let q = room.enough in
          let r = room.small in
          let last = at_todo me i (pushed start inner (X.end_of x start inner t')) in
          let m' = move_is l n (at_todo me i (X.do_next at_number (L.loop x inner) t')) in
          quiets refl (λ h'. record {
            j = 1;
            i = k';
            z = last;
            steps = further (ap X.next_in m') (subst (λ y. Quietly (X.machine l n) 0 y last) (sym (ap (X.quiet_in (at_todo me i (X.do_next at_number (L.loop x inner) t'))) m')) here);
            few = omega arith;
            rel = record {
              twin = last;
              same = refl;
              near = stands (body start id x start here' here' (fresh_loop a x inner z.made.at z.made.below made) (omega arith) (over.on_top behind (record { shape = shape'; sits = sits }))) near (record { small = omega arith; enough = omega arith });
            };
          })

  -- ---- a continue

  pub again_front : {h : Here} {a : Around} {m : Mark} {id : ℕ} {rest : BlockTree} {o : Option Code} {K : List Part} {t : Todo} (c : Bool) (k number : ℕ) (i : ℤ) → Somebody (scope_of p) h everyone →
      Sits p l n me h a (T.more m (T.again id) rest) (alone (L.again (number_at a.numbers (between id a.opens)))) → Over p l n me a o K t → IsVariable i →
      Budget p l n me c k (pushed number (alone (L.again (number_at a.numbers (between id a.opens)))) t) →
      Ahead p l n me g k c (at_todo me i (pushed number (alone (L.again (number_at a.numbers (between id a.opens)))) t)) (record { body = o; code = again (between id a.opens) } ∷ K)
  again_front c zero number i some z over near room = absurd (let a = room.enough in omega arith)
  again_front {h = h} {a = a} {m = m} {id = id} {rest = rest} {o = o} {K = K} {t = t} c (suc k) number i some z over near room =
      let e = between id a.opens in
      let x = number_at a.numbers e in
      let first = at_todo me i (X.do_next number (L.again x) t) in
      let last = at_todo me i (back_to x t) in
      let deep : e < length a.opens = subst (λ d. e < d) z.around.deep z.keeps in
      let sim = over.on_top {h = h} {core = T.more m (T.again id) rest} number (record { shape = S.again some; sits = z }) in
      let b : Back p l n me (return_to (record { body = o; code = coded p l n me a (T.more m (T.again id) rest) } ∷ K) e) (back_to x (pushed number (alone (L.again x)) t)) = go_back p l n me sim e deep in
      let m' = move_is l n first in
      quiets refl (λ h'. record {
        j = 1;
        i = k;
        z = last;
        steps = further (ap X.next_in m') (subst (λ y. Quietly (X.machine l n) 0 y last) (sym (ap (X.quiet_in first) m')) here);
        few = omega arith;
        rel = record { twin = last; same = refl; near = stands b.sim near (record { small = b.small; enough = hot c h' b.small room.enough }) };
      })
    where
      hot : (c : Bool) → c ≡ false → weight (back_to (number_at a.numbers (between id a.opens)) t) ≤ all p l n me → weight (pushed number (alone (L.again (number_at a.numbers (between id a.opens)))) t) + debt p l n me c ≤ suc k →
          weight (back_to (number_at a.numbers (between id a.opens)) t) + debt p l n me true ≤ k
      hot true e small enough = cc
      hot false e small enough = omega arith
