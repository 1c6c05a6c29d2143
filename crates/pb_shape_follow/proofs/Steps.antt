-- The steps of a text before a loop or a choice, and through a straight statement.
use Rattle.std.proofs.Common.{◌≡◌, ◌≤◌, ℕ, zero, suc, ◌+◌, ℤ, pos, ◌+ℤ◌, Bool, true, false, List, [], ◌∷◌, Option, refl, sym, ◌∙◌, subst, arith}
use Rattle.std.proofs.lemmas.Int.{ints}
use Rattle.std.proofs.lemmas.Bool.{both_ways}
use Rattle.pb_affine.specs.declared.guard.Guard.{Guard}
use Rattle.pb_affine.specs.Values.{value, count_of}
use Rattle.pb_world.specs.Actions.{Action, Kind, Sends, Receives, Runs, Enters, Leaves, Chooses}
use Rattle.pb_world.specs.Machine.{Does}
use Rattle.pb_world.specs.Carry.{here}
use Rattle.pb_core_language.specs.Plain.{Protocol}
use Rattle.pb_core_flat.specs.Seated.{rank, is_rank}
use Rattle.pb_core_endpoint.specs.Endpoint.{Code, Part, next_code, act_at, branch_of}
use Rattle.pb_core_endpoint.specs.Once.{is_again}
use Rattle.pb_local.specs.declared.stmt.Peer.{Peer}
use Rattle.pb_local.specs.declared.stmt.Relay.{Relay}
use Rattle.pb_local.specs.Ranks.{Seat}
use Rattle.pb_local.specs.Tree as L
use Rattle.pb_local.specs.Tree.{Codes, nothing, more, size_all, Program}
use Rattle.pb_local.specs.Computed.{fits, all_fit, numbers_of, guard_numbers, is_peer, peer_number}
use Rattle.pb_local.specs.WellMade as W
use Rattle.pb_local.specs.WellMade.{AreMade, AreGuards, IsGuard, IsPeer}
use Rattle.pb_local.specs.Machine as X
use Rattle.pb_local.specs.Machine.{Todo, Rank, pushed, move, move_from}
use Rattle.pb_local.specs.Family.{most_silent}
use Rattle.pb_shape.specs.Places.{Here, Who, scope_of}
use Rattle.pb_shape.specs.Guards.{One, there, gone, alone}
use Rattle.pb_shape.specs.Loops.{Around}
use Rattle.pb_shape.specs.Choices.{told_by}
use Rattle.pb_shape.specs.Straight.{IsSeated, IsVariable, at_todo, IsOpenTo, StraightPasses}
use Rattle.pb_shape.specs.Ways as V
use Rattle.pb_shape.specs.Ways.{Way, renewed}
use Rattle.pb_shape_straight.proofs.Fits.{fits_is}
use Rattle.pb_shape_follow.proofs.Stacks.{weight_pushed, me_rank, Sim}
use Rattle.pb_shape_follow.proofs.Fronts.{AreStraight, laid, after, down, Budget, Rel, moves, Front, acts, later, step}

pub variable_fits : (x : ℤ) → IsVariable x → fits x ≡ true
variable_fits x h = let l = h.low in let u = h.high in fits_is x (omega (arith, ints)) (omega (arith, ints))

-- what is known of a rank: it sits in the world, straight code passes, and what it computes fits
pub record Given (p : Protocol) (l : Program) (n : ℤ) (me : Seat) : Type 0 where
  pub passes : StraightPasses
  pub seated : IsSeated p l n (me_rank p l n me) me
  pub index : IsVariable me.index
  pub guards : (i : ℤ) → IsVariable i → (gs : List Guard) → AreGuards l gs → all_fit (numbers_of n me i gs) ≡ true
  pub guard : (i : ℤ) → IsVariable i → (g : Guard) → IsGuard l g → all_fit (guard_numbers n me i g) ≡ true
  pub peer : (i : ℤ) → IsVariable i → (e : Peer) → IsPeer l e → is_rank p.roles n e.role (value e.at n i) ≡ true → (is_peer n me i l e ≡ true) × (count_of (peer_number n me i l e) ≡ rank p.roles n e.role (value e.at n i))

module _ (p : Protocol) (l : Program) (n : ℤ) (me : Seat) (g : Given p l n me) where
  abbrev pub at : ℤ → Todo → Rank
  at = at_todo me

  abbrev pub Ahead : ℕ → Bool → Rank → List Part → Type 0
  Ahead = Front p l n me

  -- ---- ways

  pub quiet_way : {left : ℕ} {c : Bool} {last : Rank} {K : List Part} {k : ℕ} {y : Rank} → Way (down p l n me) (most_silent l) last left k y [] → Ahead left c last K → Ahead k c y K
  quiet_way V.here f = f
  quiet_way (V.silent e w) f = later p l n me e (quiet_way w f)

  -- the action at the head of straight code, and the rest of the way
  abbrev head_act : Code → Code → Kind → Type 0
  head_act c rest kind = (next_code c ≡ Does kind) × (is_again c ≡ false) × ((o : Option Code) (K : List Part) (a : Action) → act_at (record { body = o; code = c } ∷ K) (branch_of a) ≡ record { body = o; code = rest } ∷ K)

  head_is : (kind : Kind) (kinds : List Kind) (c : Code) → AreStraight (kind ∷ kinds) → head_act (laid (kind ∷ kinds) c) (laid kinds c) kind
  head_is (Sends q m) kinds c h = (refl, refl, λ o K a. refl)
  head_is (Receives q m) kinds c h = (refl, refl, λ o K a. refl)
  head_is (Runs k) kinds c h = (refl, refl, λ o K a. refl)
  head_is (Enters j) kinds c h = (refl, refl, λ o K a. refl)
  head_is (Leaves j) kinds c h = (refl, refl, λ o K a. refl)
  head_is (Chooses k m) kinds c h = absurd h

  tail_straight : (kind : Kind) (kinds : List Kind) → AreStraight (kind ∷ kinds) → AreStraight kinds
  tail_straight (Sends q m) kinds h = h
  tail_straight (Receives q m) kinds h = h
  tail_straight (Runs k) kinds h = h
  tail_straight (Enters j) kinds h = h
  tail_straight (Leaves j) kinds h = h
  tail_straight (Chooses k m) kinds h = absurd h

  still : (kinds : List Kind) → after false kinds ≡ false
  still [] = refl
  still (kind ∷ kinds) = refl

  pub act_way : {left : ℕ} {c : Bool} {a : Around} {o : Option Code} {rest : Code} {K : List Part} {i : ℤ} {t : Todo} {k : ℕ} {y : Rank} (kind : Kind) (kinds : List Kind) →
      Way (down p l n me) (most_silent l) (at i t) left k y (kind ∷ kinds) → AreStraight (kind ∷ kinds) → Sim p l n me a (record { body = o; code = rest } ∷ K) t → IsVariable i → Budget p l n me false left t →
      Ahead k c y (record { body = o; code = laid (kind ∷ kinds) rest } ∷ K)
  act_way kind kinds (V.silent e w) h sim near room = later p l n me e (act_way kind kinds w h sim near room)
  act_way {left = left} {c = c} {o = o} {rest = rest} {K = K} {t = t} {k = k} {y = y} kind kinds (V.act {y = z} e f w) h sim near room =
      let head = head_is kind kinds rest h in
      let near' = moves {c = false} w (tail_straight kind kinds h) sim near (subst (λ b. Budget p l n me b left t) (sym (still kinds)) room) in
      acts kind head.0 head.1 (record {
        j = zero;
        z = y;
        steps = here;
        few = omega arith;
        next = e;
        act = λ b same. subst (λ w. Rel p l n me (most_silent l) (record { state = act_at (record { body = o; code = laid (kind ∷ kinds) rest } ∷ K) (branch_of b); went_back = false }) w) (sym (f b same))
            (subst (λ K'. Rel p l n me (most_silent l) (record { state = K'; went_back = false }) z) (sym (head.2 o K b)) (record { twin = z; same = refl; near = near' }));
      })

  -- ---- straight statements

  calm_left : (c : Bool) (k left number behind : ℕ) (codes tail : Codes) (t : Todo) → Budget p l n me c k (pushed number codes t) → size_all tail ≤ size_all codes → k + size_all tail ≤ left + size_all codes → Budget p l n me c left (pushed behind tail t)
  calm_left c k left number behind codes tail t room fewer le =
      let a = room.small in
      let b = room.enough in
      let x = weight_pushed number codes t in
      let y = weight_pushed behind tail t in
      record { small = omega arith; enough = omega arith }

  fresh_left : (c : Bool) (k left number behind : ℕ) (codes tail : Codes) (t : Todo) → Budget p l n me c k (pushed number codes t) → size_all tail ≤ size_all codes → most_silent l + size_all tail ≤ left + size_all codes → Budget p l n me false left (pushed behind tail t)
  fresh_left c k left number behind codes tail t room fewer le =
      let a = room.small in
      let x = weight_pushed number codes t in
      let y = weight_pushed behind tail t in
      record { small = omega arith; enough = omega arith }

  pub piece_front : {left k : ℕ} {c : Bool} {a : Around} {o : Option Code} {rest : Code} {K : List Part} {y : Rank} {i : ℤ} (number behind : ℕ) (t : Todo) (codes tail : Codes) (kinds : List Kind) →
      Way (down p l n me) (most_silent l) (at i (pushed behind tail t)) left k y kinds → AreStraight kinds → renewed (most_silent l) k kinds + size_all tail ≤ left + size_all codes → size_all tail ≤ size_all codes →
      Budget p l n me c k (pushed number codes t) → IsVariable i → Sim p l n me a (record { body = o; code = rest } ∷ K) (pushed behind tail t) →
      (Budget p l n me c left (pushed behind tail t) → Ahead left c (at i (pushed behind tail t)) (record { body = o; code = rest } ∷ K)) → Ahead k c y (record { body = o; code = laid kinds rest } ∷ K)
  piece_front {left = left} {k = k} {c = c} number behind t codes tail [] way h le fewer room near sim go = quiet_way way (go (calm_left c k left number behind codes tail t room fewer le))
  piece_front {left = left} {k = k} {c = c} number behind t codes tail (kind ∷ kinds) way h le fewer room near sim go = act_way kind kinds way h sim near (fresh_left c k left number behind codes tail t room fewer le)

  -- ---- the `If` before a loop or a choice

  -- a rank that doesn't take part passes it
  pub one_skips : {h : Here} {who : Who} {first tail codes : Codes} {c : Bool} {K : List Part} (number : ℕ) (i : ℤ) (t : Todo) (s : W.Scope) (k : ℕ) → One (scope_of p) h who first tail codes → IsOpenTo h n me → AreMade l s codes →
      who n i me.role me.index ≡ false → IsVariable i → Budget p l n me c k (pushed number codes t) →
      ((number' k' : ℕ) → Budget p l n me c k' (pushed number' tail t) → Ahead k' c (at i (pushed number' tail t)) K) → Ahead k c (at i (pushed number codes t)) K
  one_skips number i t s k (gone nobody) open' made no' near room go = go number k room
  one_skips number i t s zero (there {gs = gs} names some) open' made no' near room go = absurd (let a = room.enough in omega arith)
  one_skips {first = first} {tail = tail} {c = c} {K = K} number i t s (suc k) (there {gs = gs} names some) open' made no' near room go =
      let behind = number + L.size (L.when gs first nothing) in
      let fit = g.guards i near gs made.0.0 in
      let held = names n i me.role me.index g.seated.within g.seated.is (open'.at i) ∙ no' in
      let x = weight_pushed number (more (L.when gs first nothing) tail) t in
      let y = weight_pushed behind tail t in
      let a = room.small in
      let b = room.enough in
      step p l n me (at i (pushed number (more (L.when gs first nothing) tail) t)) (at i (pushed behind tail t)) (rw (fit, held) refl) (go behind k (record { small = omega arith; enough = omega arith }))

  -- and one that does goes into it
  pub one_enters : {h : Here} {who : Who} {first tail codes : Codes} {c : Bool} {K : List Part} (number : ℕ) (i : ℤ) (t : Todo) (s : W.Scope) (k : ℕ) → One (scope_of p) h who first tail codes → IsOpenTo h n me → AreMade l s codes →
      who n i me.role me.index ≡ true → IsVariable i → Budget p l n me c k (pushed number codes t) →
      ((inner behind k' : ℕ) → k ≡ suc k' → suc (size_all first + size_all tail) ≤ size_all codes → AreMade l s first → Ahead k' c (at i (pushed inner first (pushed behind tail t))) K) → Ahead k c (at i (pushed number codes t)) K
  one_enters number i t s k (gone nobody) open' made yes' near room go = absurd (both_ways _ (nobody n i me.role me.index g.seated.within g.seated.is (open'.at i) (open'.comes i)) yes')
  one_enters number i t s zero (there {gs = gs} names some) open' made yes' near room go = absurd (let a = room.enough in omega arith)
  one_enters {first = first} {tail = tail} {c = c} {K = K} number i t s (suc k) (there {gs = gs} names some) open' made yes' near room go =
      let behind = number + L.size (L.when gs first nothing) in
      let fit = g.guards i near gs made.0.0 in
      let held = names n i me.role me.index g.seated.within g.seated.is (open'.at i) ∙ yes' in
      step p l n me (at i (pushed number (more (L.when gs first nothing) tail) t)) (at i (pushed (suc number) first (pushed behind tail t))) (rw (fit, held) refl) (go (suc number) behind k refl (omega arith) made.0.1)

  -- ---- the `Own` before a choice with relays

  -- where the source is found
  pub data IsFound (i : ℤ) : List Relay → Type 0 where
    plainly : IsFound i []
    by_index : {r : Relay} {rs : List Relay} → i ≡ me.index → IsFound i (r ∷ rs)

  pub told_front : {c : Bool} {K : List Part} (number : ℕ) (i : ℤ) (t : Todo) (k : ℕ) (relays : List Relay) (code : L.Code) → IsVariable i → size_all (told_by relays code) ≤ k →
      ((j : ℤ) (number' k' : ℕ) → IsVariable j → IsFound j relays → k + size_all (alone code) ≤ k' + size_all (told_by relays code) → k' ≤ k → Ahead k' c (at j (X.do_next number' code t)) K) → Ahead k c (at i (pushed number (told_by relays code) t)) K
  told_front number i t k [] code near le go = go i number k near plainly (omega arith) (omega arith)
  told_front number i t zero (r ∷ rs) code near le go = absurd (omega arith)
  told_front {c = c} {K = K} number i t (suc k) (r ∷ rs) code near le go =
      let e : me.index +ℤ pos 0 ≡ me.index = omega (arith, ints) in
      let near' = subst IsVariable (sym e) g.index in
      step p l n me (at i (pushed number (told_by (r ∷ rs) code) t)) (at (me.index +ℤ pos 0) (X.do_next (number + 1) code t)) (own_fits near') (go (me.index +ℤ pos 0) (number + 1) k near' (by_index e) (omega arith) (omega arith))
    where
      own_fits : IsVariable (me.index +ℤ pos 0) → move_from l n (at i (pushed number (told_by (r ∷ rs) code) t)) (pushed number (told_by (r ∷ rs) code) t) ≡ X.silent (at (me.index +ℤ pos 0) (X.do_next (number + 1) code t))
      own_fits h = rw (variable_fits (me.index +ℤ pos 0) h) refl
