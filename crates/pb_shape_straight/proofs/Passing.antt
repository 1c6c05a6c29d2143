-- The code of messages and computes does a rank's part of them.
use Rattle.std.proofs.Common.{◌≡◌, ◌≤◌, ℕ, zero, suc, ◌+◌, ℤ, Bool, true, false, List, [], ◌∷◌, ◌++◌, refl, sym, ◌∙◌, ap, arith}
use Rattle.pb_affine.specs.Values.{value}
use Rattle.pb_world.specs.Actions.{Kind, Runs, Sends, Receives}
use Rattle.pb_core_language.specs.declared.tree.CoreEnd.{CoreEnd}
use Rattle.pb_core_language.specs.Tree.{StmtTree, BlockTree}
use Rattle.pb_core_language.specs.Plain.{Protocol}
use Rattle.pb_core_language.specs.FlatOf.{rank_of}
use Rattle.pb_core_language.specs.Laws.{IsInRole}
use Rattle.pb_core_language.specs.Verdict.{IsIn}
use Rattle.pb_core_flat.specs.Seated.{is_rank}
use Rattle.pb_local.specs.Ranks.{Seat}
use Rattle.pb_local.specs.Tree.{Code, Codes, nothing, more, size_all, Program}
use Rattle.pb_local.specs.Tree as L
use Rattle.pb_local.specs.WellMade as W
use Rattle.pb_local.specs.WellMade.{AreMade}
use Rattle.pb_local.specs.Machine.{Todo, do_next, does, pushed}
use Rattle.pb_shape.specs.Places.{Here, Who, peer_of, scope_of}
use Rattle.pb_shape.specs.Guards.{One, there, gone, alone}
use Rattle.pb_shape.specs.Items.{Item, message, Items}
use Rattle.pb_shape.specs.Items as I
use Rattle.pb_shape.specs.Ways.{renewed}
use Rattle.pb_shape.specs.Straight.{IsVariable, IsItem, AreItems, at_todo}
use Rattle.pb_shape_straight.proofs.Segment.{if_so, part, is_mine, my_parts}
use Rattle.pb_shape_straight.proofs.Along.{Goes, goes_joined, still, stays, does_one, when_held, when_not}
use Rattle.pb_shape_straight.proofs.Fits.{IsSize, guards_fit}
use Rattle.pb_shape_straight.proofs.Peers.{IsNumbered}

-- a rank of a world of the protocol, whose peers have numbers
pub record Setting (p : Protocol) (l : Program) (n : ℤ) (me : Seat) : Type 0 where
  pub within : IsIn p.range n
  pub is : is_rank p.roles n me.role me.index ≡ true
  pub in_role : IsInRole me.role p.roles n me.index
  pub size : IsSize n
  pub peers : (e : CoreEnd) (i : ℤ) → is_rank p.roles n e.role (value e.at n i) ≡ true → IsNumbered p l n me i (peer_of e)

-- the rank is at this place
pub record Comes (h : Here) (n : ℤ) (me : Seat) (i : ℤ) : Type 0 where
  pub near : IsVariable i
  pub at : h.at n i ≡ true
  pub comes : h.comes n i me.role me.index ≡ true

pub record Made (l : Program) (codes : Codes) : Type 0 where
  pub scope : W.Scope
  pub made : AreMade l scope codes

pub never : true ≡ false → ⊥
never e = grind arith

module _ (p : Protocol) (l : Program) (n : ℤ) (me : Seat) (g : Setting p l n me) (bound : ℕ) where
  -- from these statements to those behind them
  pub record Done (k number : ℕ) (i j : ℤ) (codes tail : Codes) (rest : Todo) (kinds : List Kind) : Type 0 where
    pub cost : ℕ
    pub behind : ℕ
    pub counts : behind + size_all tail ≡ number + size_all codes
    pub small : cost + size_all tail ≤ size_all codes
    pub go : Goes l n bound me k i j (pushed number codes rest) (pushed behind tail rest) cost kinds

  pub record Room (k : ℕ) (codes : Codes) : Type 0 where
    pub now : size_all codes ≤ k
    pub ever : size_all codes ≤ bound

  pub room_left : (s : List Kind) (c : ℕ) {k : ℕ} {codes : Codes} {left : ℕ} {tail : Codes} → Room k codes → c + size_all tail ≤ size_all codes → renewed bound k s ≤ left + c → Room left tail
  room_left s c {k = k} {codes = codes} {left = left} {tail = tail} room small enough =
      record { now = omega (arith, still l n bound me k c (size_all codes) left s room.now room.ever enough, small); ever = omega (arith, room.ever, small) }

  pub done_joined : {k number : ℕ} {i j h : ℤ} {codes middle tail : Codes} {rest : Todo} {s t : List Kind} →
      Room k codes → Done k number i j codes middle rest s → ((k' number' : ℕ) → Room k' middle → Done k' number' j h middle tail rest t) → Done k number i h codes tail rest (s ++ t)
  done_joined {s = s} room a b =
      let c = b a.go.left a.behind (room_left s a.cost room a.small a.go.enough) in
      record { cost = a.cost + c.cost; behind = c.behind; counts = omega (arith, a.counts, c.counts); small = omega (arith, a.small, c.small); go = goes_joined l n bound me a.go c.go }

  pub nothing_done : (k number : ℕ) (i : ℤ) (codes : Codes) (rest : Todo) → Done k number i i codes codes rest []
  nothing_done k number i codes rest = record { cost = 0; behind = number; counts = refl; small = omega arith; go = stays l n bound me k i (pushed number codes rest) }

  -- an `If` whose ranks the rank is among
  pub one_yes : (k number : ℕ) (i j : ℤ) (s : List Kind) (rest : Todo) (c : ℕ) {h : Here} {who : Who} {first tail codes : Codes} →
      One (scope_of p) h who first tail codes → Comes h n me i → who n i me.role me.index ≡ true → Made l codes → Room k codes → c ≤ size_all first →
      ((k' number' behind : ℕ) → size_all first ≤ k' → size_all first ≤ bound → Made l first → Goes l n bound me k' i j (pushed number' first (pushed behind tail rest)) (pushed behind tail rest) c s) →
      Done k number i j codes tail rest s
  one_yes zero number i j s rest c (there {gs = gs} names some) here' is made room le go = absurd (omega (arith, room.now))
  one_yes (suc k) number i j s rest c {first = first} {tail = tail} (there {gs = gs} names some) here' is made room le go =
      let behind = number + L.size (L.when gs first nothing) in
      record {
        cost = suc c;
        behind = behind;
        counts = omega arith;
        small = omega (arith, le);
        go = when_held l n bound me gs first nothing (pushed behind tail rest) (guards_fit l n me i g.size here'.near gs made.made.0.0)
            (names n i me.role me.index g.within g.is here'.at ∙ is)
            (go k (suc number) behind (omega (arith, room.now)) (omega (arith, room.ever)) (record { scope = made.scope; made = made.made.0.1 }));
      }
  one_yes k number i j s rest c (gone nobody) here' is made room le go = absurd (never (sym is ∙ nobody n i me.role me.index g.within g.is here'.at here'.comes))

  -- an `If` that is for others
  pub one_no : (k number : ℕ) (i : ℤ) (rest : Todo) {h : Here} {who : Who} {first tail codes : Codes} →
      One (scope_of p) h who first tail codes → Comes h n me i → who n i me.role me.index ≡ false → Made l codes → Room k codes → Done k number i i codes tail rest []
  one_no zero number i rest (there {gs = gs} names some) here' is made room = absurd (omega (arith, room.now))
  one_no (suc k) number i rest {first = first} {tail = tail} (there {gs = gs} names some) here' is made room =
      let behind = number + L.size (L.when gs first nothing) in
      record {
        cost = 1;
        behind = behind;
        counts = omega arith;
        small = omega arith;
        go = when_not l n bound me gs first nothing (pushed behind tail rest) (guards_fit l n me i g.size here'.near gs made.made.0.0)
            (names n i me.role me.index g.within g.is here'.at ∙ is) (stays l n bound me k i (pushed behind tail rest));
      }
  one_no k number i rest {tail = tail} (gone nobody) here' is made room = nothing_done k number i tail rest

  pub one_made : {h : Here} {who : Who} {first tail codes : Codes} → One (scope_of p) h who first tail codes → Made l codes → Made l tail
  one_made (there {gs = gs} names some) made = record { scope = _; made = made.made.1 }
  one_made (gone nobody) made = made

  -- the statement is this action
  abbrev pub IsAct : ℤ → Code → Kind → Type 0
  IsAct i code a = (k number : ℕ) (rest : Todo) → Goes l n bound me k i i (do_next number code rest) rest 0 (a ∷ [])

  pub send_act : (i : ℤ) (label : ℕ) (to : CoreEnd) → is_rank p.roles n to.role (value to.at n i) ≡ true → IsAct i (L.send label (peer_of to)) (Sends (rank_of p.roles n to i) label)
  send_act i label to is k number rest =
      let h = g.peers to i is in
      does_one l n bound me (rw h.there (ap (λ q. does (Sends q label) (at_todo me i rest)) h.same))

  pub recv_act : (i : ℤ) (label : ℕ) (from : CoreEnd) → is_rank p.roles n from.role (value from.at n i) ≡ true → IsAct i (L.recv label (peer_of from)) (Receives (rank_of p.roles n from i) label)
  recv_act i label from is k number rest =
      let h = g.peers from i is in
      does_one l n bound me (rw h.there (ap (λ q. does (Receives q label) (at_todo me i rest)) h.same))

  pub run_act : (i : ℤ) (kernel : ℕ) → IsAct i (L.run kernel) (Runs kernel)
  run_act i kernel k number rest = does_one l n bound me refl

  pub one_part : (k number : ℕ) (i : ℤ) (rest : Todo) (b : Bool) (a : Kind) {h : Here} {who : Who} {code : Code} {tail codes : Codes} →
      One (scope_of p) h who (alone code) tail codes → Comes h n me i → who n i me.role me.index ≡ b → Made l codes → Room k codes → IsAct i code a → Done k number i i codes tail rest (if_so b a)
  one_part k number i rest true a {tail = tail} o here' is made room act =
      one_yes k number i i (a ∷ []) rest 0 o here' is made room (omega arith) (λ k' number' behind x y z. act k' number' (pushed behind tail rest))
  one_part k number i rest false a o here' is made room act = one_no k number i rest o here' is made room

  -- a message or a compute
  pub item_done : (varies : Bool) (k number : ℕ) (i : ℤ) (rest : Todo) {h : Here} {s : StmtTree} {tail codes : Codes} →
      Item (scope_of p) h tail s codes → Comes h n me i → IsItem p n varies i s → Made l codes → Room k codes → Done k number i i codes tail rest (part p.roles n (is_mine p.roles n me i) i s)
  item_done varies k number i rest (message {l = label} {f = f} {t = t} a b) here' good made room =
      done_joined room (one_part k number i rest (is_mine p.roles n me i f) (Sends (rank_of p.roles n t i) label) a here' refl made room (send_act i label t good.1.is))
      (λ k' number' room'. one_part k' number' i rest (is_mine p.roles n me i t) (Receives (rank_of p.roles n f i) label) b here' refl (one_made a made) room' (recv_act i label f good.0.is))
  item_done varies k number i rest (I.run {k = kernel} {e = e} a) here' good made room =
      one_part k number i rest (is_mine p.roles n me i e) (Runs kernel) a here' refl made room (run_act i kernel)

  pub item_made : {h : Here} {s : StmtTree} {tail codes : Codes} → Item (scope_of p) h tail s codes → Made l codes → Made l tail
  item_made (message a b) made = one_made b (one_made a made)
  item_made (I.run a) made = one_made a made

  -- the items of one iteration
  pub items_done : (varies : Bool) (i : ℤ) {h : Here} {items : BlockTree} {codes : Codes} (k number : ℕ) (rest : Todo) →
      Items (scope_of p) h items codes → Comes h n me i → AreItems p n varies i items → Made l codes → Room k codes → Done k number i i codes nothing rest (my_parts p.roles n me i items)
  items_done varies i k number rest I.none here' good made room = nothing_done k number i nothing rest
  items_done varies i k number rest (I.item a b) here' good made room =
      done_joined room (item_done varies k number i rest a here' good.0 made room) (λ k' number' room'. items_done varies i k' number' rest b here' good.1 (item_made a made) room')
