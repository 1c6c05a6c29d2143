-- A foreach, in the text: the For of the fixed ranks, and the segments of the others.
use Rattle.std.proofs.Common.{◌≡◌, ◌≤◌, ℕ, zero, suc, ◌+◌, ◌*◌, ℤ, pos, negsuc, ◌+ℤ◌, ◌-ℤ◌, ◌≤ℤ◌, ◌<ℤ◌, Bool, true, false, ◌&&◌, nat_eq, int_le, List, [], ◌∷◌, ◌++◌, refl, sym, ◌∙◌, ap, subst, arith, append_assoc}
use Rattle.std.proofs.lemmas.Int.{ints}
use Rattle.std.proofs.lemmas.Bool.{and_from, and_parts}
use Rattle.pb_affine.specs.declared.lin.Base.{Base}
use Rattle.pb_affine.specs.declared.lin.Base.TheVariants.{Fixed, Param, Var}
use Rattle.pb_affine.specs.declared.lin.Lin.{Lin}
use Rattle.pb_affine.specs.Values.{value, base_value, count_from, count_of, IsSmall}
use Rattle.pb_world.specs.Actions.{Kind, Runs, Sends, Receives}
use Rattle.pb_core_language.specs.declared.protocol.CoreRole.{CoreRole}
use Rattle.pb_core_language.specs.Tree as T
use Rattle.pb_core_language.specs.Tree.{StmtTree, BlockTree}
use Rattle.pb_core_language.specs.declared.tree.Bounds.{Bounds}
use Rattle.pb_core_language.specs.Plain.{Protocol}
use Rattle.pb_core_language.specs.FlatOf.{rank_of}
use Rattle.pb_core_language.specs.Sound.{is_over_n}
use Rattle.pb_local.specs.Ranks.{Seat}
use Rattle.pb_local.specs.Tree.{Code, Codes, nothing, more, size_all, Program}
use Rattle.pb_local.specs.Tree as L
use Rattle.pb_local.specs.Computed.{fits, is_for_some}
use Rattle.pb_local.specs.Machine.{Todo, round_of, pushed, turn, move_from, machine}
use Rattle.pb_shape.specs.Places.{Here, everyone, peer_of, scope_of}
use Rattle.pb_shape.specs.Guards.{Nobody, One, alone}
use Rattle.pb_shape.specs.Items.{Items}
use Rattle.pb_shape.specs.Segments.{is_at_offset, put, segment_codes, offsets, in_segment, OfRole, Segments}
use Rattle.pb_shape.specs.Pieces.{fixed_in, in_for, but_fixed, ForEach}
use Rattle.pb_shape.specs.Segments as E
use Rattle.pb_shape.specs.Pieces as P
use Rattle.pb_shape.specs.Ways as Y
use Rattle.pb_shape.specs.Ways.{Way, renewed}
use Rattle.pb_shape.specs.Straight.{IsVariable, AreItems, IsEach, IsOpenTo, at_todo}
use Rattle.pb_shape_straight.proofs.Order.{gathered, gathered_nothing}
use Rattle.pb_shape_straight.proofs.Segment.{IsSome, if_so, parts, my_parts, segment_does, roles_do, iterations, segments_are, no_roles, fixed_acts}
use Rattle.pb_shape_straight.proofs.Along.{joined, silently, Goes, goes_joined, stays, costs, when_held, when_not, owns}
use Rattle.pb_shape_straight.proofs.Fits.{IsSize, fits_is, value_fits, guards_fit}
use Rattle.pb_shape_straight.proofs.Peers.{bound_near, bound_small}
use Rattle.pb_shape_straight.proofs.Passing.{Setting, Comes, Made, never, Done, Room, room_left, nothing_done, one_yes, one_no, one_made, IsAct, send_act, recv_act, run_act, items_done}

-- without the variable a lin has one value
pub same_value : (l : Lin) (n i j : ℤ) → is_over_n l.base ≡ true → value l n i ≡ value l n j
same_value l n i j h = at l.base h
  where
    at : (b : Base) → is_over_n b ≡ true → l.off +ℤ base_value b n i ≡ l.off +ℤ base_value b n j
    at Fixed h = refl
    at Param h = refl
    at Var h = cc

pub none_left : (a : ℤ) → 0 ≡ count_of a → a ≤ℤ pos 0
none_left (pos n) h = omega (arith, ints, h)
none_left (negsuc n) h = omega (arith, ints)

pub some_left : (m : ℕ) (a : ℤ) → suc m ≡ count_of a → a ≡ pos (suc m)
some_left m (pos n) h = ap pos (sym h)
some_left m (negsuc n) h = grind arith

pub one_less : (m : ℕ) (a b : ℤ) → a ≡ pos (suc m) → b ≡ a -ℤ pos 1 → m ≡ count_of b
one_less m a b h e = let h' : b ≡ pos m = omega (arith, ints, h, e) in rw h' refl

int_above : (v hi : ℤ) → hi <ℤ v → int_le v hi ≡ false
int_above v hi h = grind (arith, ints)

pub int_upto : (v hi : ℤ) → v ≤ℤ hi → int_le v hi ≡ true
int_upto v hi h = grind (arith, ints)

pub is_between : (low high v : ℤ) → low ≤ℤ v → v ≤ℤ high → int_le low v && int_le v high ≡ true
is_between low high v l u = and_from (int_le low v) (int_le v high) (int_upto low v l) (int_upto v high u)

variable_fits : (v : ℤ) → IsVariable v → fits v ≡ true
variable_fits v near = fits_is v (omega (arith, ints, near.low)) (omega (arith, ints, near.high))

-- how many silent steps are left behind a For with so many rounds before
abbrev pub IsSpent : ℕ → ℕ → ℕ → ℕ → ℕ → Type 0
IsSpent bound zero k b left = k ≤ suc left
IsSpent bound (suc m) k b left = bound ≤ suc b + left

-- ---- the For of a rank that has something in each round

module _ (l : Program) (n : ℤ) (bound : ℕ) (me : Seat) (size : IsSize n) (high : Lin) (number : ℕ) (body : Codes) (rest : Todo) (low hi : ℤ) (b : ℕ) (f : ℤ → List Kind)
    (small : IsSmall high.off) (is_hi : (i : ℤ) → value high n i ≡ hi) (above : hi ≤ℤ pos 2019999999) (room : 2 * b + 1 ≤ bound)
    (each : (k : ℕ) (v : ℤ) → IsVariable v → low ≤ℤ v → v ≤ℤ hi → b ≤ k → Goes l n bound me k v v (pushed number body (round_of high number body rest)) (round_of high number body rest) b (f v))
    (some : (v : ℤ) → low ≤ℤ v → v ≤ℤ hi → IsSome (f v)) where
  pub record Turned (m k : ℕ) (i v : ℤ) (todo : Todo) : Type 0 where
    pub last : ℤ
    pub near : IsVariable last
    pub left : ℕ
    pub spent : IsSpent bound m k b left
    pub way : Way (machine l n) bound (at_todo me last rest) left k (at_todo me i todo) (gathered (count_from m v) f)

  some_round : (s : List Kind) (k left : ℕ) → IsSome s → renewed bound k s ≤ left + b → bound ≤ left + b
  some_round [] k left h le = absurd h
  some_round (x ∷ s) k left h le = le

  fewer : (m k left : ℕ) → bound ≤ k + b → IsSpent bound m k b left → bound ≤ suc b + left
  fewer zero k left a h = omega (arith, a, h)
  fewer (suc m) k left a h = h

  -- a round, or the end
  pub turns : (m k : ℕ) (i v : ℤ) (todo : Todo) → move_from l n (at_todo me i todo) todo ≡ turn l n (at_todo me i todo) v high number body rest →
      m ≡ count_of (hi +ℤ pos 1 -ℤ v) → low ≤ℤ v → IsVariable v → suc b ≤ k → Turned m k i v todo
  turns m zero i v todo e is le near room' = absurd (omega (arith, room'))
  turns zero (suc k) i v todo e is le near room' =
      let u = none_left (hi +ℤ pos 1 -ℤ v) is in
      let past : int_le v (value high n v) ≡ false = rw (is_hi v) (int_above v hi (omega (arith, ints, u))) in
      record {
        last = v;
        near = near;
        left = k;
        spent = omega arith;
        way = silently l n bound me (at_todo me i todo) (at_todo me v rest) (e ∙ rw (variable_fits v near, value_fits l n me v size near high small, past) refl) Y.here;
      }
  turns (suc m) (suc k) i v todo e is le near room' =
      let u = some_left m (hi +ℤ pos 1 -ℤ v) is in
      let upto' : v ≤ℤ hi = omega (arith, ints, u) in
      let within : int_le v (value high n v) ≡ true = rw (is_hi v) (int_upto v hi upto') in
      let round = each k v near le upto' (omega (arith, room')) in
      let left : bound ≤ round.left + b = some_round (f v) k round.left (some v le upto') round.enough in
      let near' : IsVariable (v +ℤ pos 1) = record { low = omega (arith, ints, near.low); high = omega (arith, ints, upto', above) } in
      let next' = turns m round.left v (v +ℤ pos 1) (round_of high number body rest) refl (one_less m (hi +ℤ pos 1 -ℤ v) (hi +ℤ pos 1 -ℤ (v +ℤ pos 1)) u (omega (arith, ints)))
      (omega (arith, ints, le)) near' (omega (arith, left, room)) in
      record {
        last = next'.last;
        near = next'.near;
        left = next'.left;
        spent = fewer m round.left next'.left left next'.spent;
        way = silently l n bound me (at_todo me i todo) (at_todo me v (pushed number body (round_of high number body rest))) {last = at_todo me next'.last rest} {left = next'.left}
            (e ∙ rw (variable_fits v near, value_fits l n me v size near high small, within) refl) (joined {last = at_todo me next'.last rest} {left = next'.left} round.way next'.way);
      }

module _ (p : Protocol) (l : Program) (n : ℤ) (me : Seat) (g : Setting p l n me) (bound : ℕ) where
  -- as Done, with some value of the variable at the end
  pub record Ends (k number : ℕ) (i : ℤ) (codes tail : Codes) (rest : Todo) (kinds : List Kind) : Type 0 where
    pub last : ℤ
    pub near : IsVariable last
    pub done : Done p l n me g bound k number i last codes tail rest kinds

  pub ends_joined : {k number : ℕ} {i : ℤ} {codes middle tail : Codes} {rest : Todo} {s t : List Kind} →
      Room p l n me g bound k codes → Ends k number i codes middle rest s →
      ((k' number' : ℕ) (i' : ℤ) → IsVariable i' → Room p l n me g bound k' middle → Ends k' number' i' middle tail rest t) → Ends k number i codes tail rest (s ++ t)
  ends_joined {s = s} room a b =
      let d = a.done in
      let e = b d.go.left d.behind a.last a.near (room_left p l n me g bound s d.cost room d.small d.go.enough) in
      record {
        last = e.last;
        near = e.near;
        done = record { cost = d.cost + e.done.cost; behind = e.done.behind; counts = omega (arith, d.counts, e.done.counts); small = omega (arith, d.small, e.done.small); go = goes_joined l n bound me d.go e.done.go };
      }

  -- ---- one segment

  pub put_go : (b : Bool) (v : ℤ) (code : Code) (a : Kind) (cs : Codes) (s : List Kind) (rest : Todo) →
      IsAct p l n me g bound v code a → ((k number : ℕ) → Goes l n bound me k v v (pushed number cs rest) rest 0 s) → (k number : ℕ) → Goes l n bound me k v v (pushed number (put b code cs) rest) rest 0 (if_so b a ++ s)
  put_go true v code a cs s rest act h k number =
      let one = act k number (pushed (number + L.size code) cs rest) in
      goes_joined l n bound me one (h one.left (number + L.size code))
  put_go false v code a cs s rest act h k number = h k number

  pub segment_go : (items : BlockTree) (v : ℤ) (role : ℕ) (c : ℤ) → AreItems p n true v items → (rest : Todo) (k number : ℕ) →
      Goes l n bound me k v v (pushed number (segment_codes role c items) rest) rest 0 (parts p.roles n (is_at_offset role c) v items)
  segment_go T.nothing v role c good rest k number = stays l n bound me k v rest
  segment_go (T.more m (T.message label f t) items) v role c good rest k number =
      subst (λ s. Goes l n bound me k v v (pushed number (segment_codes role c (T.more m (T.message label f t) items)) rest) rest 0 s)
      (sym (append_assoc (if_so (is_at_offset role c f) (Sends (rank_of p.roles n t v) label)) (if_so (is_at_offset role c t) (Receives (rank_of p.roles n f v) label)) (parts p.roles n (is_at_offset role c) v items)))
      (put_go (is_at_offset role c f) v (L.send label (peer_of t)) (Sends (rank_of p.roles n t v) label) _ _ rest (send_act p l n me g bound v label t good.0.1.is)
      (put_go (is_at_offset role c t) v (L.recv label (peer_of f)) (Receives (rank_of p.roles n f v) label) _ _ rest (recv_act p l n me g bound v label f good.0.0.is) (segment_go items v role c good.1 rest)) k number)
  segment_go (T.more m (T.run kernel e) items) v role c good rest k number =
      put_go (is_at_offset role c e) v (L.run kernel) (Runs kernel) _ _ rest (run_act p l n me g bound v kernel) (segment_go items v role c good.1 rest) k number
  segment_go (T.more m (T.foreach h a s) items) v role c good rest k number = absurd good.0
  segment_go (T.more m (T.loop id a s) items) v role c good rest k number = absurd good.0
  segment_go (T.more m (T.again id) items) v role c good rest k number = absurd good.0
  segment_go (T.more m (T.choice n' a s) items) v role c good rest k number = absurd good.0
  segment_go (T.more m T.barrier items) v role c good rest k number = absurd good.0
  segment_go (T.more m (T.broadcast label e) items) v role c good rest k number = absurd good.0
  segment_go (T.more m (T.reduce label o e) items) v role c good rest k number = absurd good.0
  segment_go (T.more m (T.allreduce label o) items) v role c good rest k number = absurd good.0

  pub own_go : (items : BlockTree) (i v : ℤ) (role : ℕ) (c : ℤ) → me.index +ℤ (pos 0 -ℤ c) ≡ v → IsVariable v → AreItems p n true v items → (rest : Todo) (k number : ℕ) → 1 ≤ k →
      Goes l n bound me k i v (pushed number (more (L.own (pos 0 -ℤ c)) (segment_codes role c items)) rest) rest 1 (parts p.roles n (is_at_offset role c) v items)
  own_go items i v role c e near good rest zero number room = absurd (omega (arith, room))
  own_go items i v role c e near good rest (suc k) number room =
      let cs = pushed (number + 1) (segment_codes role c items) rest in
      owns l n bound me (pos 0 -ℤ c) cs (rw (e, variable_fits v near) refl)
      (subst (λ w. Goes l n bound me k w v cs rest 0 (parts p.roles n (is_at_offset role c) v items)) (sym e) (segment_go items v role c good rest k (number + 1)))

  module _ (h : Here) (b : Bounds) (items : BlockTree) (open' : IsOpenTo h n me) (good : IsEach p n b items) where
    abbrev low : ℤ
    low = value b.low n (pos 0)

    abbrev high : ℤ
    high = value b.high n (pos 0)

    pub near_between : (v : ℤ) → low ≤ℤ v → v ≤ℤ high → IsVariable v
    near_between v x y =
        let a = bound_near b.low n g.size.low good.low in
        let c = bound_near b.high n g.size.low good.high in
        record { low = omega (arith, ints, x, a.0); high = omega (arith, ints, y, c.1, g.size.high) }

    pub here_at : (i : ℤ) → IsVariable i → Comes h n me i
    here_at i near = record { near = near; at = open'.at i; comes = open'.comes i }

    pub in_bounds : (low high x c : ℤ) (a : Bool) → a && (int_le (low +ℤ c) x && int_le x (high +ℤ c)) ≡ true → (low ≤ℤ (x -ℤ c)) × ((x -ℤ c) ≤ℤ high)
    in_bounds low high x c a e = (grind (arith, ints), grind (arith, ints))

    pub segment_done : (role : ℕ) (c : ℤ) (middle codes : Codes) (rest : Todo) (k number : ℕ) (i : ℤ) →
        One (scope_of p) h (in_segment b role c) (more (L.own (pos 0 -ℤ c)) (segment_codes role c items)) middle codes → IsVariable i → Made l codes → Room p l n me g bound k codes →
        Ends k number i codes middle rest (segment_does p.roles n me b items role c)
    segment_done role c middle codes rest k number i one near made room = at (in_segment b role c n (pos 0) me.role me.index) refl
      where
        at : (t : Bool) → in_segment b role c n (pos 0) me.role me.index ≡ t → Ends k number i codes middle rest (segment_does p.roles n me b items role c)
        at true e =
            let v = me.index -ℤ c in
            let w = in_bounds low high me.index c (nat_eq role me.role) e in
            let near' = near_between v w.0 w.1 in
            rw e (record {
              last = v;
              near = near';
              done = one_yes p l n me g bound k number i v (parts p.roles n (is_at_offset role c) v items) rest 1 one (here_at i near) e made room (omega arith)
                  (λ k' number' behind x y z. own_go items i v role c (omega (arith, ints)) near' (good.each v w.0 w.1) (pushed behind middle rest) k' number' (omega (arith, x)));
            })
        at false e = rw e (record { last = i; near = near; done = one_no p l n me g bound k number i rest one (here_at i near) e made room })

    pub of_role_done : (role : ℕ) (tail : Codes) (cs : List ℤ) (codes : Codes) (rest : Todo) (k number : ℕ) (i : ℤ) → OfRole (scope_of p) h b items role tail cs codes → IsVariable i → Made l codes → Room p l n me g bound k codes →
        Ends k number i codes tail rest (gathered cs (segment_does p.roles n me b items role))
    of_role_done role tail [] codes rest k number i E.none near made room = record { last = i; near = near; done = nothing_done p l n me g bound k number i tail rest }
    of_role_done role tail (c ∷ cs) codes rest k number i (E.segment {middle = middle} one more') near made room =
        ends_joined room (segment_done role c middle codes rest k number i one near made room)
        (λ k' number' i' near' room'. of_role_done role tail cs middle rest k' number' i' more' near' (one_made p l n me g bound one made) room')

    pub of_role_made : (role : ℕ) (tail : Codes) (cs : List ℤ) (codes : Codes) → OfRole (scope_of p) h b items role tail cs codes → Made l codes → Made l tail
    of_role_made role tail [] codes E.none made = made
    of_role_made role tail (c ∷ cs) codes (E.segment {middle = middle} one more') made = of_role_made role tail cs middle more' (one_made p l n me g bound one made)

    pub segments_done : (role : ℕ) (rs : List CoreRole) (tail codes : Codes) (rest : Todo) (k number : ℕ) (i : ℤ) → Segments (scope_of p) h b items tail role rs codes → IsVariable i → Made l codes → Room p l n me g bound k codes →
        Ends k number i codes tail rest (roles_do p.roles n me b items role rs)
    segments_done role [] tail codes rest k number i E.none near made room = record { last = i; near = near; done = nothing_done p l n me g bound k number i tail rest }
    segments_done role (r ∷ rs) tail codes rest k number i (E.of_role {middle = middle} one more') near made room =
        ends_joined room (of_role_done role middle (offsets role items) codes rest k number i one near made room)
        (λ k' number' i' near' room'. segments_done (suc role) rs tail middle rest k' number' i' more' near' (of_role_made role middle (offsets role items) codes one made) room')

  module _ (h : Here) (b : Bounds) (items : BlockTree) (open' : IsOpenTo h n me) (good : IsEach p n b items) where
    abbrev lo : ℤ
    lo = value b.low n (pos 0)

    abbrev hi : ℤ
    hi = value b.high n (pos 0)

    abbrev all_rounds : List Kind
    all_rounds = iterations p.roles n me b items

    few_turned : (m k s left : ℕ) (f : ℤ → List Kind) (v : ℤ) → (1 ≤ m → IsSome (f v)) → IsSpent bound m k s left → renewed bound k (gathered (count_from m v) f) ≤ left + suc s
    few_turned zero k s left f v some le = omega (arith, le)
    few_turned (suc m) k s left f v some le = by (f v) (gathered (count_from m (v +ℤ pos 1)) f) (some (omega arith))
      where
        by : (x y : List Kind) → IsSome x → renewed bound k (x ++ y) ≤ left + suc s
        by [] y h = absurd h
        by (a ∷ x) y h = omega (arith, le)

    -- the For of a fixed rank
    rounds_done : (body : Codes) (rest : Todo) (k number : ℕ) (i : ℤ) → Items (scope_of p) (in_for h b items) items body → IsVariable i → fixed_in items n me.role me.index ≡ true → Made l (alone (L.for_each b.low b.high body)) →
        size_all (alone (L.for_each b.low b.high body)) ≤ k → 2 * size_all (alone (L.for_each b.low b.high body)) ≤ bound →
        (j : ℤ) × IsVariable j × Goes l n bound me k i j (pushed number (alone (L.for_each b.low b.high body)) rest) rest (size_all (alone (L.for_each b.low b.high body))) all_rounds
    rounds_done body rest k number i its near fixed made room room' =
        let x = bound_near b.low n g.size.low good.low in
        let y = bound_near b.high n g.size.low good.high in
        let m = count_of (hi +ℤ pos 1 -ℤ lo) in
        let t = turns l n bound me g.size b.high (suc number) body rest lo hi (size_all body) (λ v. my_parts p.roles n me v items) (bound_small b.high good.high)
        (λ j. same_value b.high n j (pos 0) (and_parts (is_over_n b.high.base) _ good.high).0) (omega (arith, ints, y.1, g.size.high)) (omega (arith, room')) done
        (λ v c d. fixed_acts p.roles n me v items fixed) m k i lo (pushed number (alone (L.for_each b.low b.high body)) rest) (starts (value b.low n i) (same_value b.low n i (pos 0) (and_parts (is_over_n b.low.base) _ good.low).0)) refl
        (omega (arith, ints)) (record { low = omega (arith, ints, x.0); high = omega (arith, ints, x.1, g.size.high) }) (omega (arith, room)) in (
          t.last,
          t.near,
          costs l n bound me (suc (size_all body) + 0) (omega arith) (record {
            left = t.left;
            enough = few_turned m k (size_all body) t.left (λ v. my_parts p.roles n me v items) lo (λ le. fixed_acts p.roles n me lo items fixed) t.spent;
            way = t.way;
          }),
        )
      where
        starts : (v : ℤ) → v ≡ lo → turn l n (at_todo me i (pushed number (alone (L.for_each b.low b.high body)) rest)) v b.high (suc number) body rest ≡ turn l n (at_todo me i (pushed number (alone (L.for_each b.low b.high body)) rest)) lo b.high (suc number) body rest
        starts v e = ap (λ w. turn l n (at_todo me i (pushed number (alone (L.for_each b.low b.high body)) rest)) w b.high (suc number) body rest) e

        within : (v : ℤ) → IsVariable v → lo ≤ℤ v → v ≤ℤ hi → Comes (in_for h b items) n me v
        within v near c d = record { near = near; at = is_between lo hi v c d; comes = and_from (fixed_in items n me.role me.index) (h.comes n v me.role me.index) fixed (open'.comes v) }

        done : (k : ℕ) (v : ℤ) → IsVariable v → lo ≤ℤ v → v ≤ℤ hi → size_all body ≤ k →
            Goes l n bound me k v v (pushed (suc number) body (round_of b.high (suc number) body rest)) (round_of b.high (suc number) body rest) (size_all body) (my_parts p.roles n me v items)
        done k v near c d room =
            let e = items_done p l n me g bound true v k (suc number) (round_of b.high (suc number) body rest) its (within v near c d) (good.each v c d)
            (record { scope = made.scope; made = made.made.0.2 }) (record { now = room; ever = omega (arith, room') }) in
            costs l n bound me (size_all body) (omega (arith, e.small)) e.go

    pub last_of : (low high v : ℤ) → low ≤ℤ v → v <ℤ (low +ℤ pos (count_of (high +ℤ pos 1 -ℤ low))) → v ≤ℤ high
    last_of low high v x y = grind (arith, ints)

    none_then : (low high : ℤ) → ((v : ℤ) → low ≤ℤ v → v ≤ℤ high → ⊥) → high <ℤ low
    none_then low high none = at (int_le low high) refl
      where
        at : (t : Bool) → int_le low high ≡ t → high <ℤ low
        at true e = absurd (none low (omega (arith, ints)) (grind (arith, ints)))
        at false e = grind (arith, ints)

    pub free_done : fixed_in items n me.role me.index ≡ false → roles_do p.roles n me b items 0 p.roles ≡ all_rounds
    free_done free = segments_are p.roles n me b items free g.in_role

    -- where nobody comes into the loop, the segments are all that a rank does
    pub segments_do : Nobody (scope_of p) (in_for h b items) everyone → roles_do p.roles n me b items 0 p.roles ≡ all_rounds
    segments_do nobody = at (fixed_in items n me.role me.index) refl
      where
        -- the variable has no value where a fixed rank comes
        none : fixed_in items n me.role me.index ≡ true → (v : ℤ) → lo ≤ℤ v → v ≤ℤ hi → ⊥
        none e v x y = never (nobody n v me.role me.index g.within g.is (is_between lo hi v x y) (and_from (fixed_in items n me.role me.index) (h.comes n v me.role me.index) e (open'.comes v)))

        no_rounds : fixed_in items n me.role me.index ≡ true → all_rounds ≡ []
        no_rounds e = gathered_nothing (count_of (hi +ℤ pos 1 -ℤ lo)) lo (λ v. my_parts p.roles n me v items) (λ v x y. absurd (none e v x (last_of lo hi v x y)))

        at : (t : Bool) → fixed_in items n me.role me.index ≡ t → roles_do p.roles n me b items 0 p.roles ≡ all_rounds
        at true e = no_roles p.roles n me b items 0 p.roles (none_then lo hi (none e)) ∙ sym (no_rounds e)
        at false e = free_done e

    pub each_done : (tail codes : Codes) (rest : Todo) (k number : ℕ) (i : ℤ) → ForEach (scope_of p) h b items tail codes → IsVariable i → Made l codes → size_all codes ≤ k → 2 * size_all codes ≤ bound →
        Ends k number i codes tail rest all_rounds
    each_done tail codes rest k number i (P.segments nobody segs) near made room room' =
        subst (λ s. Ends k number i codes tail rest s) (segments_do nobody) (segments_done h b items open' good 0 p.roles tail codes rest k number i segs near made (record { now = room; ever = omega (arith, room') }))
    each_done tail codes rest zero number i (P.both {gs = gs} {body = body} {other = other} names some its segs) near made room room' = absurd (omega (arith, room))
    each_done tail codes rest (suc k) number i (P.both {gs = gs} {body = body} {other = other} names some its segs) near made room room' = at (fixed_in items n me.role me.index) refl
      where
        behind : ℕ
        behind = number + L.size (L.when gs (alone (L.for_each b.low b.high body)) other)

        held : is_for_some n me i gs ≡ fixed_in items n me.role me.index
        held = names n i me.role me.index g.within g.is (open'.at i)

        at : (t : Bool) → fixed_in items n me.role me.index ≡ t → Ends (suc k) number i (more (L.when gs (alone (L.for_each b.low b.high body)) other) tail) tail rest all_rounds
        at true e =
            let d = rounds_done body (pushed behind tail rest) k (suc number) i its near e (record { scope = made.scope; made = made.made.0.1 }) (omega (arith, room)) (omega (arith, room')) in
            record {
              last = d.0;
              near = d.1;
              done = record {
                cost = suc (size_all (alone (L.for_each b.low b.high body)));
                behind = behind;
                counts = omega arith;
                small = omega arith;
                go = when_held l n bound me gs (alone (L.for_each b.low b.high body)) other (pushed behind tail rest) (guards_fit l n me i g.size near gs made.made.0.0) (held ∙ e) d.2;
              };
            }
        at false e =
            let d = segments_done (but_fixed h items) b items (record { at = open'.at; comes = λ i. rw e (open'.comes i) }) good 0 p.roles nothing other (pushed behind tail rest) k (suc number + size_all (alone (L.for_each b.low b.high body))) i segs near
            (record { scope = _; made = made.made.0.2 }) (record { now = omega (arith, room); ever = omega (arith, room') }) in
            record {
              last = d.last;
              near = d.near;
              done = record {
                cost = suc d.done.cost;
                behind = behind;
                counts = omega arith;
                small = omega (arith, d.done.small);
                go = when_not l n bound me gs (alone (L.for_each b.low b.high body)) other (pushed behind tail rest) (guards_fit l n me i g.size near gs made.made.0.0) (held ∙ e)
                    (subst (λ s. Goes l n bound me k i d.last (pushed (suc number + size_all (alone (L.for_each b.low b.high body))) other (pushed behind tail rest)) (pushed behind tail rest) d.done.cost s) (free_done e) d.done.go);
              };
            }
