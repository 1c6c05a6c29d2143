-- Each statement of the text of a foreach is reached.
use Rattle.std.proofs.Common.{◌≡◌, ◌≤◌, ℕ, zero, suc, ◌+◌, ℤ, pos, ◌+ℤ◌, ◌-ℤ◌, ◌≤ℤ◌, Bool, true, false, not, ◌&&◌, int_le, if◌then◌else◌, List, [], ◌∷◌, ◌++◌, inl, inr, Some, refl, sym, ap, ◌∙◌, subst, append-nil, arith}
use Rattle.std.proofs.lemmas.Int.{ints}
use Rattle.std.proofs.lemmas.Bool.{and_parts, and_from}
use Rattle.pb_affine.specs.declared.guard.Guard.{Guard}
use Rattle.pb_affine.specs.Values.{value, count_from, count_of}
use Rattle.pb_world.specs.Actions.{Kind}
use Rattle.pb_core_language.specs.declared.tree.Bounds.{Bounds}
use Rattle.pb_core_language.specs.Plain.{Protocol}
use Rattle.pb_core_language.specs.Ranks.{total}
use Rattle.pb_core_language.specs.Sound.{is_over_n}
use Rattle.pb_core_language.specs.Tree as T
use Rattle.pb_core_language.specs.Tree.{StmtTree, BlockTree}
use Rattle.pb_core_language.specs.Verdict.{IsIn}
use Rattle.pb_core_flat.specs.Seated.{is_rank}
use Rattle.pb_local.specs.Ranks.{Seat}
use Rattle.pb_local.specs.Tree as L
use Rattle.pb_local.specs.Tree.{Codes, nothing, more, size, size_all, Program}
use Rattle.pb_local.specs.Computed.{is_for_some}
use Rattle.pb_local.specs.Machine.{Todo, Rank, round_of, silent, pushed, turn, move_from, next_in}
use Rattle.pb_local.specs.Alone.{FirstPart, OtherPart}
use Rattle.pb_local.proofs.Moves.{move_is}
use Rattle.pb_shape.specs.Guards.{Names, Somebody, Nobody, alone}
use Rattle.pb_shape.specs.Items.{Items}
use Rattle.pb_shape.specs.Pieces as P
use Rattle.pb_shape.specs.Pieces.{fixed_in, fixed_here, in_for, but_fixed, ForEach}
use Rattle.pb_shape.specs.Places.{Here, everyone, is_end, scope_of}
use Rattle.pb_shape.specs.Segments.{Segments}
use Rattle.pb_shape.specs.Straight.{at_todo, IsVariable, AreItems, IsEach, IsOpenTo}
use Rattle.pb_shape_straight.proofs.Each.{same_value, none_left, some_left, one_less, int_upto, is_between, near_between, segments_do, free_done}
use Rattle.pb_shape_straight.proofs.Fits.{value_fits}
use Rattle.pb_shape_straight.proofs.Order.{gathered, count_of_is}
use Rattle.pb_shape_straight.proofs.Passing.{Comes, Made, items_done}
use Rattle.pb_shape_straight.proofs.Peers.{bound_small}
use Rattle.pb_shape_straight.proofs.Segment.{my_parts, iterations}
use Rattle.pb_shape_follow.proofs.Steps.{variable_fits}
use Rattle.pb_shape_filled.specs.Filled.{IsSome}
use Rattle.pb_shape_reached.specs.Reached.{AreReached, IsTaken}
use Rattle.pb_shape_reached.proofs.Standing.{Present, Spot, spot_reached, spot_taken, spot_silent, spot_way}
use Rattle.pb_shape_reached.proofs.Finding.{Ahead, Find, Keeps, KeepsEnds, KeepAllEnds, parts_of, reach_items}
use Rattle.pb_shape_reached.proofs.Segments.{Open, FindOpen, still, all_do, after_segments, reach_segments, some_segment}

le_of : (a b : ℤ) → int_le a b ≡ true → a ≤ℤ b
le_of a b h = grind (arith, ints)

not_so : (b : Bool) → not b ≡ true → b ≡ false
not_so b h = grind arith

-- inside a For the variable is the one that is asked for
abbrev Same : ℤ → Seat → ℤ → ℤ → Type 0
Same n me i j = i ≡ j

module _ (p : Protocol) (l : Program) (h : Here) (b : Bounds) (items : BlockTree) (open_of : (n i : ℤ) (me : Seat) → h.comes n i me.role me.index ≡ true → IsOpenTo h n me) (good : (n : ℤ) (me : Seat) → Present p l n me → IsOpenTo h n me → IsEach p n b items) where
  abbrev for_all : Codes → L.Code
  for_all body = L.for_each b.low b.high body

  abbrev lo : ℤ → ℤ
  lo n = value b.low n (pos 0)

  abbrev hi : ℤ → ℤ
  hi n = value b.high n (pos 0)

  abbrev round : ℤ → Seat → ℤ → List Kind
  round n me v = my_parts p.roles n me v items

  -- what is ahead behind a round
  abbrev later : Ahead
  later n me i = gathered (count_from (count_of (hi n -ℤ i)) (i +ℤ pos 1)) (round n me)

  module _ (n : ℤ) (me : Seat) (present : Present p l n me) (open' : IsOpenTo h n me) (fixed : fixed_in items n me.role me.index ≡ true) (body : Codes) (k : ℕ) (t : Todo) (its : Items (scope_of p) (in_for h b items) items body) (made : Made l body) where
    abbrev At : ℤ → Todo → List Kind → Type 0
    At x todo kinds = Spot p l n me present (at_todo me x todo) kinds

    fine : IsEach p n b items
    fine = good n me present open'

    near : (v : ℤ) → lo n ≤ℤ v → v ≤ℤ hi n → IsVariable v
    near v x y = near_between p l n me present.setting 0 h b items open' fine v x y

    pub comes_in : (v : ℤ) → lo n ≤ℤ v → v ≤ℤ hi n → Comes (in_for h b items) n me v
    comes_in v x y = record { near = near v x y; at = is_between (lo n) (hi n) v x y; comes = and_from (fixed_in items n me.role me.index) (h.comes n v me.role me.index) fixed (open'.comes v) }

    -- from the beginning of one round to that of another
    to_round : (m d : ℕ) (x v i : ℤ) (todo : Todo) → move_from l n (at_todo me x todo) todo ≡ turn l n (at_todo me x todo) v b.high k body t → m ≡ count_of (hi n +ℤ pos 1 -ℤ v) → lo n ≤ℤ v → v +ℤ pos d ≡ i → i ≤ℤ hi n →
        At x todo (gathered (count_from m v) (round n me)) → At i (pushed k body (round_of b.high k body t)) (round n me i ++ later n me i)
    to_round zero d x v i todo e is le sum upto spot = absurd (let u = none_left (hi n +ℤ pos 1 -ℤ v) is in omega (arith, ints, u, sum, upto))
    to_round (suc m) d x v i todo e is le sum upto spot =
        let u = some_left m (hi n +ℤ pos 1 -ℤ v) is in
        let to : v ≤ℤ hi n = omega (arith, ints, sum, upto) in
        let near' = near v le to in
        let is_hi = same_value b.high n v (pos 0) (and_parts (is_over_n b.high.base) _ fine.high).0 in
        let within : int_le v (value b.high n v) ≡ true = rw is_hi (int_upto v (hi n) to) in
        let goes : move_from l n (at_todo me x todo) todo ≡ silent (at_todo me v (pushed k body (round_of b.high k body t))) =
        e ∙ rw (variable_fits v near', value_fits l n me v present.setting.size near' b.high (bound_small b.high fine.high), within) refl in
        by d sum u (spot_silent p l n me present (at_todo me v (pushed k body (round_of b.high k body t))) goes spot) (comes_in v le to) (fine.each v le to)
        (λ d' sum' spot'. to_round m d' v (v +ℤ pos 1) i (round_of b.high k body t) refl (one_less m (hi n +ℤ pos 1 -ℤ v) (hi n +ℤ pos 1 -ℤ (v +ℤ pos 1)) u (omega (arith, ints))) (omega (arith, ints, le)) sum' upto spot')
      where
        by : (d : ℕ) → v +ℤ pos d ≡ i → (hi n +ℤ pos 1 -ℤ v) ≡ pos (suc m) → At v (pushed k body (round_of b.high k body t)) (round n me v ++ gathered (count_from m (v +ℤ pos 1)) (round n me)) → Comes (in_for h b items) n me v → AreItems p n true v items →
            ((d' : ℕ) → v +ℤ pos 1 +ℤ pos d' ≡ i → At v (round_of b.high k body t) (gathered (count_from m (v +ℤ pos 1)) (round n me)) → At i (pushed k body (round_of b.high k body t)) (round n me i ++ later n me i)) →
            At i (pushed k body (round_of b.high k body t)) (round n me i ++ later n me i)
        by zero sum u spot' here each next =
            let same : v ≡ i = omega (arith, ints, sum) in
            let count : m ≡ count_of (hi n -ℤ v) = one_less m (hi n +ℤ pos 1 -ℤ v) (hi n -ℤ v) u (omega (arith, ints)) in
            subst (λ z. At z (pushed k body (round_of b.high k body t)) (round n me z ++ later n me z)) same (subst (λ c. At v (pushed k body (round_of b.high k body t)) (round n me v ++ gathered (count_from c (v +ℤ pos 1)) (round n me))) count spot')
        by (suc d) sum u spot' here each next =
            let done = items_done p l n me present.setting (size_all body) true v (size_all body) k (round_of b.high k body t) its here each made (record { now = omega arith; ever = omega arith }) in
            next d (omega (arith, ints, sum))
            (spot_way p l n me present (gathered (count_from m (v +ℤ pos 1)) (round n me)) spot' done.go.way)

    distance : (i : ℤ) → lo n ≤ℤ i → lo n +ℤ pos (count_of (i -ℤ lo n)) ≡ i
    distance i x = let c = count_of_is (i -ℤ lo n) (omega (arith, ints, x)) in omega (arith, ints, c)

    -- from the For to a round
    pub into_round : (x i : ℤ) (number : ℕ) → k ≡ suc number → lo n ≤ℤ i → i ≤ℤ hi n → At x (pushed number (alone (for_all body)) t) (iterations p.roles n me b items) → At i (pushed k body (round_of b.high k body t)) (round n me i ++ later n me i)
    into_round x i number e lower upper spot =
        to_round (count_of (hi n +ℤ pos 1 -ℤ lo n)) (count_of (i -ℤ lo n)) x (lo n) i (pushed number (alone (for_all body)) t) starts refl (omega (arith, ints)) (distance i lower) upper spot
      where
        starts : move_from l n (at_todo me x (pushed number (alone (for_all body)) t)) (pushed number (alone (for_all body)) t) ≡ turn l n (at_todo me x (pushed number (alone (for_all body)) t)) (lo n) b.high k body t
        starts =
            ap (λ w. turn l n (at_todo me x (pushed number (alone (for_all body)) t)) w b.high (suc number) body t) (same_value b.low n x (pos 0) (and_parts (is_over_n b.low.base) _ fine.low).0)
            ∙ ap (λ q. turn l n (at_todo me x (pushed number (alone (for_all body)) t)) (lo n) b.high q body t) (sym e)

  -- ---- the variable of a For

  keeps_same : (s : StmtTree) → KeepsEnds p l Same (in_for h b items) s
  keeps_same (T.message lab f t) = ((λ n me i j e is. subst (λ z. is_end f n z me.role me.index ≡ true) e is), (λ n me i j e is. subst (λ z. is_end t n z me.role me.index ≡ true) e is))
  keeps_same (T.run kernel e) = λ n me i j same is. subst (λ z. is_end e n z me.role me.index ≡ true) same is
  keeps_same (T.foreach b' m its) = tt
  keeps_same (T.loop id m body) = tt
  keeps_same (T.again id) = tt
  keeps_same (T.choice kernel e bs) = tt
  keeps_same T.barrier = tt
  keeps_same (T.broadcast lab e) = tt
  keeps_same (T.reduce lab op e) = tt
  keeps_same (T.allreduce lab op) = tt

  keep_same : (list : BlockTree) → KeepAllEnds p l Same (in_for h b items) list
  keep_same T.nothing = tt
  keep_same (T.more m s rest) = (keeps_same s, keep_same rest)

  abbrev pub rounds : ℤ → Seat → List Kind
  rounds n me = iterations p.roles n me b items

  abbrev FindEach : ℕ → Codes → Type 0
  FindEach k codes = FindOpen p l h b items good k codes (still p l h b items good rounds)

  -- ---- with a For

  module _ (gs : List Guard) (body other tail : Codes) (k : ℕ) (names : Names (scope_of p) h gs (fixed_here items)) (its : Items (scope_of p) (in_for h b items) items body) (find : FindEach k (more (L.when gs (alone (for_all body)) other) tail)) where
    abbrev first : Codes
    first = alone (for_all body)

    abbrev codes : Codes
    codes = more (L.when gs first other) tail

    abbrev behind : Todo → Todo
    behind todo = pushed (k + size (L.when gs first other)) tail todo

    -- a rank that comes to it, and where it goes on
    pub record Before (n : ℤ) (me : Seat) (fixed : Bool) : Type 0 where
      pub present : Present p l n me
      pub j : ℤ
      pub open' : IsOpenTo h n me
      pub near : IsVariable j
      pub todo : Todo
      pub made : Made l codes
      pub spot : Spot p l n me present (at_todo me j (pushed k codes todo)) (rounds n me)
      pub held : is_for_some n me j gs ≡ fixed
      pub goes : move_from l n (at_todo me j (pushed k codes todo)) (pushed k codes todo) ≡ silent (at_todo me j (if fixed then pushed (suc k) first (behind todo) else pushed (suc k + size_all first) other (behind todo)))

    comes_before : (n i : ℤ) (me : Seat) (fixed : Bool) → IsIn p.range n → total p.roles n ≤ 2000000000 → is_rank p.roles n me.role me.index ≡ true → IsOpenTo h n me → fixed_in items n me.role me.index ≡ fixed → Before n me fixed
    comes_before n i me fixed within few is open' e =
        let f = find n i me within few is (open'.at i) (open'.comes i) in
        let held = names n f.j me.role me.index within is f.comes.at ∙ e in
        record {
          present = f.present;
          j = f.j;
          open' = f.link;
          near = f.comes.near;
          todo = f.todo;
          made = f.made;
          spot = f.spot;
          held = held;
          goes = rw (f.present.given.guards f.j f.comes.near gs f.made.made.0.0, held) refl;
        }

    in_first : (n : ℤ) (me : Seat) (x : Before n me true) → Spot p l n me x.present (at_todo me x.j (pushed (suc k) first (behind x.todo))) (rounds n me)
    in_first n me x = spot_silent p l n me x.present (at_todo me x.j (pushed (suc k) first (behind x.todo))) x.goes x.spot

    in_other : (n : ℤ) (me : Seat) (x : Before n me false) → Spot p l n me x.present (at_todo me x.j (pushed (suc k + size_all first) other (behind x.todo))) (rounds n me)
    in_other n me x = spot_silent p l n me x.present (at_todo me x.j (pushed (suc k + size_all first) other (behind x.todo))) x.goes x.spot

    first_made : (n : ℤ) (me : Seat) (x : Bool) → Before n me x → Made l body
    first_made n me x y = record { scope = y.made.scope; made = y.made.made.0.1.0.2 }

    -- ---- its first part

    find_body : Find p l Same (in_for h b items) (suc (suc k)) body (parts_of p l Same (in_for h b items) items later)
    find_body n i me within few is at comes =
        let c = and_parts (fixed_in items n me.role me.index) (h.comes n i me.role me.index) comes in
        let between = and_parts (int_le (lo n) i) (int_le i (hi n)) at in
        let lower = le_of (lo n) i between.0 in
        let upper = le_of i (hi n) between.1 in
        let x = comes_before n i me true within few is (open_of n i me c.1) c.0 in
        let made = first_made n me true x in
        record {
          present = x.present;
          j = i;
          link = refl;
          comes = comes_in n me x.present x.open' c.0 body (suc (suc k)) (behind x.todo) its made i lower upper;
          todo = round_of b.high (suc (suc k)) body (behind x.todo);
          made = made;
          spot = into_round n me x.present x.open' c.0 body (suc (suc k)) (behind x.todo) its made x.j i (suc k) refl lower upper (in_first n me x);
        }

    body_reached : AreReached p l (suc (suc k)) body
    body_reached = reach_items p l Same (in_for h b items) true later (suc (suc k)) its (keep_same items) each find_body
      where
        each : (n j : ℤ) (me : Seat) → Present p l n me → Comes (in_for h b items) n me j → AreItems p n true j items
        each n j me present comes =
            let c = and_parts (fixed_in items n me.role me.index) (h.comes n j me.role me.index) comes.comes in
            let between = and_parts (int_le (lo n) j) (int_le j (hi n)) comes.at in
            (good n me present (open_of n j me c.1)).each j (le_of (lo n) j between.0) (le_of j (hi n) between.1)

    -- ---- its other part

    abbrev apart : Here
    apart = but_fixed h items

    opened : (n : ℤ) (me : Seat) → IsOpenTo apart n me → IsOpenTo h n me
    opened n me op = record { at = op.at; comes = λ i. (and_parts (not (fixed_in items n me.role me.index)) (h.comes n i me.role me.index) (op.comes i)).1 }

    abbrev good_apart : (n : ℤ) (me : Seat) → Present p l n me → IsOpenTo apart n me → IsEach p n b items
    good_apart n me present op = good n me present (opened n me op)

    abbrev nothing_more : ℤ → Seat → List Kind
    nothing_more n me = []

    find_other : FindOpen p l apart b items good_apart (suc k + size_all first) other (still p l apart b items good_apart (all_do p l apart b items good_apart 0 p.roles nothing_more))
    find_other n i me within few is at comes =
        let c = and_parts (not (fixed_in items n me.role me.index)) (h.comes n i me.role me.index) comes in
        let free = not_so (fixed_in items n me.role me.index) c.0 in
        let op = open_of n i me c.1 in
        let x = comes_before n i me false within few is op free in
        let op' : IsOpenTo apart n me = record { at = op.at; comes = λ v. rw free (op.comes v) } in
        record {
          present = x.present;
          j = x.j;
          link = op';
          comes = record { near = x.near; at = op'.at x.j; comes = op'.comes x.j };
          todo = behind x.todo;
          made = record { scope = _; made = x.made.made.0.2 };
          spot = subst (λ s. Spot p l n me x.present (at_todo me x.j (pushed (suc k + size_all first) other (behind x.todo))) s)
              (sym (append-nil _ ∙ free_done p l n me x.present.setting 0 h b items op (good n me x.present op) free)) (in_other n me x);
        }

    other_reached : Segments (scope_of p) apart b items nothing 0 p.roles other → AreReached p l (suc k + size_all first) other
    other_reached segs = reach_segments p l apart b items good_apart 0 nothing_more (suc k + size_all first) segs find_other tt

    other_taken : Segments (scope_of p) apart b items nothing 0 p.roles other → IsSome other → IsTaken p l k OtherPart
    other_taken segs some = elim (some_segment p l apart b items good_apart 0 segs some) [
      | inr none ↦ absurd none
      | inl who ↦
          let me : Seat = record { role = who.role; index = who.index } in
          let c = and_parts (not (fixed_in items who.n me.role me.index)) (h.comes who.n who.i me.role me.index) who.comes in
          let x = comes_before who.n who.i me false who.within who.few who.rank (open_of who.n who.i me c.1) (not_so _ c.0) in
          spot_taken p l who.n me x.present k OtherPart refl (ap next_in (move_is l who.n (at_todo me x.j (pushed k codes x.todo)) ∙ x.goes)) (ap (λ u. Some (if u then FirstPart else OtherPart)) x.held) x.spot
    ]

    pub both_reached : Somebody (scope_of p) (in_for h b items) everyone → Segments (scope_of p) apart b items nothing 0 p.roles other → AreReached p l (k + size (L.when gs first other)) tail → AreReached p l k codes
    both_reached some segs rest =
        let me : Seat = record { role = some.role; index = some.index } in
        let c = and_parts (fixed_in items some.n me.role me.index) (h.comes some.n some.i me.role me.index) some.comes in
        let x = comes_before some.n some.i me true some.within some.few some.rank (open_of some.n some.i me c.1) c.0 in (
          (
            spot_reached p l some.n me x.present k refl x.spot,
            (λ s. spot_taken p l some.n me x.present k FirstPart refl (ap next_in (move_is l some.n (at_todo me x.j (pushed k codes x.todo)) ∙ x.goes)) (ap (λ u. Some (if u then FirstPart else OtherPart)) x.held) x.spot),
            other_taken segs,
            ((spot_reached p l some.n me x.present (suc k) refl (in_first some.n me x), body_reached), tt),
            other_reached segs,
          ),
          rest,
        )

  -- ---- without a For

  find_alone : {codes : Codes} (k : ℕ) → Nobody (scope_of p) (in_for h b items) everyone → FindEach k codes → FindOpen p l h b items good k codes (still p l h b items good (all_do p l h b items good 0 p.roles (λ n me. [])))
  find_alone {codes = codes} k nobody find n i me within few is at comes =
      let f = find n i me within few is at comes in
      record {
        present = f.present;
        j = f.j;
        link = f.link;
        comes = f.comes;
        todo = f.todo;
        made = f.made;
        spot = subst (λ s. Spot p l n me f.present (at_todo me f.j (pushed k codes f.todo)) s) (sym (append-nil _ ∙ segments_do p l n me f.present.setting 0 h b items f.link (good n me f.present f.link) nobody)) f.spot;
      }

  abbrev pub after_each : {tail codes : Codes} → ForEach (scope_of p) h b items tail codes → ℕ → ℕ
  after_each (P.both {gs = gs} {body = body} {other = other} names some its segs) k = k + size (L.when gs (alone (L.for_each b.low b.high body)) other)
  after_each (P.segments nobody segs) k = after_segments p l h b items good 0 segs k

  pub reach_each : {tail codes : Codes} (k : ℕ) (w : ForEach (scope_of p) h b items tail codes) → FindEach k codes → AreReached p l (after_each w k) tail → AreReached p l k codes
  reach_each {tail = tail} k (P.both {gs = gs} {body = body} {other = other} names some its segs) find rest = both_reached gs body other tail k names its find some segs rest
  reach_each k (P.segments nobody segs) find rest = reach_segments p l h b items good 0 (λ n me. []) k segs (find_alone k nobody find) rest
