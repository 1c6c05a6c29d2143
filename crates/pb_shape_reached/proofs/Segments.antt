-- Each statement of the segments of a foreach is reached.
use Rattle.std.proofs.Common.{◌≡◌, ◌≤◌, ℕ, suc, ◌+◌, ◌*◌, ℤ, pos, ◌+ℤ◌, ◌-ℤ◌, ◌≤ℤ◌, Bool, true, false, ◌&&◌, nat_eq, int_le, List, [], ◌∷◌, ◌++◌, ◌⊎◌, inl, inr, refl, sym, ap, ◌∙◌, subst, append_assoc, arith}
use Rattle.std.proofs.lemmas.Int.{ints}
use Rattle.pb_affine.specs.Values.{value}
use Rattle.pb_world.specs.Actions.{Kind, Sends, Receives, Runs}
use Rattle.pb_core_language.specs.declared.protocol.CoreRole.{CoreRole}
use Rattle.pb_core_language.specs.declared.tree.Bounds.{Bounds}
use Rattle.pb_core_language.specs.FlatOf.{rank_of}
use Rattle.pb_core_language.specs.Plain.{Protocol}
use Rattle.pb_core_language.specs.Tree as T
use Rattle.pb_core_language.specs.Tree.{BlockTree}
use Rattle.pb_local.specs.Ranks.{Seat}
use Rattle.pb_local.specs.Tree as L
use Rattle.pb_local.specs.Tree.{Code, Codes, nothing, more, size_all, Program}
use Rattle.pb_local.specs.Machine.{Todo, do_next, silent, pushed, move_from}
use Rattle.pb_shape.specs.Guards.{One, there, gone, Somebody}
use Rattle.pb_shape.specs.Places.{Here, everyone, peer_of, scope_of}
use Rattle.pb_shape.specs.Segments as E
use Rattle.pb_shape.specs.Segments.{is_at_offset, put, segment_codes, offsets, in_segment, OfRole, Segments}
use Rattle.pb_shape.specs.Straight.{at_todo, IsVariable, AreItems, IsEach, IsOpenTo}
use Rattle.pb_shape_straight.proofs.Each.{segment_done, near_between, in_bounds}
use Rattle.pb_shape_straight.proofs.Order.{gathered, only_if}
use Rattle.pb_shape_straight.proofs.Passing.{IsAct, send_act, recv_act, run_act, one_made}
use Rattle.pb_shape_straight.proofs.Segment.{if_so, parts, segment_does, roles_do}
use Rattle.pb_shape_follow.proofs.Steps.{variable_fits}
use Rattle.pb_shape_filled.specs.Filled.{IsSome}
use Rattle.pb_shape_reached.specs.Reached.{IsReached, IsAllReached, AreReached}
use Rattle.pb_shape_reached.proofs.Standing.{Present, Spot, spot_reached, spot_silent, spot_way}
use Rattle.pb_shape_reached.proofs.Texts.{after_one, one_counts}
use Rattle.pb_shape_reached.proofs.Finding.{Ahead, Found, Find, Keeps, Inside, find_same, reach_one, same_behind}

module _ (p : Protocol) (l : Program) where
  -- ---- the statements of one segment

  module _ (n : ℤ) (me : Seat) (present : Present p l n me) (role : ℕ) (c v : ℤ) where
    abbrev At : ℕ → Codes → Todo → List Kind → Type 0
    At k codes t kinds = Spot p l n me present (at_todo me v (pushed k codes t)) kinds

    reach_put : (bit : Bool) (code : Code) (act : Kind) (cs : Codes) (others : List Kind) (k : ℕ) (t : Todo) → IsAct p l n me present.setting 0 v code act → ((k : ℕ) → IsReached p l k → IsAllReached p l k code) →
        ((k : ℕ) → At k cs t others → AreReached p l k cs) → At k (put bit code cs) t (if_so bit act ++ others) → AreReached p l k (put bit code cs)
    reach_put true code act cs others k t does it go spot =
        let one = does 0 k (pushed (k + L.size code) cs t) in
        (it k (spot_reached p l n me present k refl spot), go (k + L.size code) (spot_way p l n me present others spot one.way))
    reach_put false code act cs others k t does it go spot = go k spot

    three : (a b c d : List Kind) → ((a ++ b) ++ c) ++ d ≡ a ++ (b ++ (c ++ d))
    three a b c d = append_assoc (a ++ b) c d ∙ append_assoc a b (c ++ d)

    reach_codes : (items : BlockTree) → AreItems p n true v items → (others : List Kind) (k : ℕ) (t : Todo) → At k (segment_codes role c items) t (parts p.roles n (is_at_offset role c) v items ++ others) → AreReached p l k (segment_codes role c items)
    reach_codes T.nothing good others k t spot = tt
    reach_codes (T.more m (T.message lab f to) items) good others k t spot =
        let a = Sends (rank_of p.roles n to v) lab in
        let b = Receives (rank_of p.roles n f v) lab in
        let rest = parts p.roles n (is_at_offset role c) v items in
        reach_put (is_at_offset role c f) (L.send lab (peer_of to)) a (put (is_at_offset role c to) (L.recv lab (peer_of f)) (segment_codes role c items)) (if_so (is_at_offset role c to) b ++ (rest ++ others)) k t
        (send_act p l n me present.setting 0 v lab to good.0.1.is) (λ k h. h)
        (λ k' spot'. reach_put (is_at_offset role c to) (L.recv lab (peer_of f)) b (segment_codes role c items) (rest ++ others) k' t (recv_act p l n me present.setting 0 v lab f good.0.0.is) (λ k h. h) (λ k2 spot2. reach_codes items good.1 others k2 t spot2) spot')
        (subst (λ s. At k (segment_codes role c (T.more m (T.message lab f to) items)) t s) (three (if_so (is_at_offset role c f) a) (if_so (is_at_offset role c to) b) rest others) spot)
    reach_codes (T.more m (T.run kernel e) items) good others k t spot =
        let rest = parts p.roles n (is_at_offset role c) v items in
        reach_put (is_at_offset role c e) (L.run kernel) (Runs kernel) (segment_codes role c items) (rest ++ others) k t (run_act p l n me present.setting 0 v kernel) (λ k h. h) (λ k2 spot2. reach_codes items good.1 others k2 t spot2)
        (subst (λ s. At k (segment_codes role c (T.more m (T.run kernel e) items)) t s) (append_assoc (if_so (is_at_offset role c e) (Runs kernel)) rest others) spot)
    reach_codes (T.more m (T.foreach h a s) items) good others k t spot = absurd good.0
    reach_codes (T.more m (T.loop id a s) items) good others k t spot = absurd good.0
    reach_codes (T.more m (T.again id) items) good others k t spot = absurd good.0
    reach_codes (T.more m (T.choice n' a s) items) good others k t spot = absurd good.0
    reach_codes (T.more m T.barrier items) good others k t spot = absurd good.0
    reach_codes (T.more m (T.broadcast lab e) items) good others k t spot = absurd good.0
    reach_codes (T.more m (T.reduce lab o e) items) good others k t spot = absurd good.0
    reach_codes (T.more m (T.allreduce lab o) items) good others k t spot = absurd good.0

    pub reach_own : (i : ℤ) (items : BlockTree) → me.index +ℤ (pos 0 -ℤ c) ≡ v → IsVariable v → AreItems p n true v items → (others : List Kind) (k : ℕ) (t : Todo) →
        Spot p l n me present (at_todo me i (pushed k (more (L.own (pos 0 -ℤ c)) (segment_codes role c items)) t)) (parts p.roles n (is_at_offset role c) v items ++ others) → AreReached p l k (more (L.own (pos 0 -ℤ c)) (segment_codes role c items))
    reach_own i items e near good others k t spot =
        let kinds = parts p.roles n (is_at_offset role c) v items ++ others in
        let goes : move_from l n (at_todo me i (pushed k (more (L.own (pos 0 -ℤ c)) (segment_codes role c items)) t)) (pushed k (more (L.own (pos 0 -ℤ c)) (segment_codes role c items)) t)
        ≡ silent (at_todo me (me.index +ℤ (pos 0 -ℤ c)) (pushed (k + 1) (segment_codes role c items) t)) = rw (e, variable_fits v near) refl in
        (spot_reached p l n me present k refl spot, reach_codes items good others (k + 1) t (subst (λ w. Spot p l n me present (at_todo me w (pushed (k + 1) (segment_codes role c items) t)) kinds) e (spot_silent p l n me present (at_todo me (me.index +ℤ (pos 0 -ℤ c)) (pushed (k + 1) (segment_codes role c items) t)) goes spot)))

  -- ---- the segments, one after another

  module _ (h : Here) (b : Bounds) (items : BlockTree) (good : (n : ℤ) (me : Seat) → Present p l n me → IsOpenTo h n me → IsEach p n b items) where
    abbrev pub Open : ℤ → Seat → ℤ → ℤ → Type 0
    Open n me i j = IsOpenTo h n me

    abbrev pub FindOpen : ℕ → Codes → Ahead → Type 0
    FindOpen k codes ahead = Find p l Open h k codes ahead

    -- actions that don't depend on the variable
    abbrev pub still : (ℤ → Seat → List Kind) → Ahead
    still f n me j = f n me

    abbrev does : ℕ → ℤ → (ℤ → Seat → List Kind) → Ahead
    does role c others n me j = segment_does p.roles n me b items role c ++ others n me

    segment_keeps : (role : ℕ) (c : ℤ) → Keeps p l Open h (in_segment b role c)
    segment_keeps role c n me i j link e = e

    inside_segment : (role : ℕ) (c : ℤ) (others : ℤ → Seat → List Kind) (k : ℕ) → Inside p l Open h (in_segment b role c) k (more (L.own (pos 0 -ℤ c)) (segment_codes role c items)) (does role c others)
    inside_segment role c others k n i j me present t link comes is made spot =
        let fine = good n me present link in
        let v = me.index -ℤ c in
        let w = in_bounds p l n me present.setting 0 h b items link fine (value b.low n (pos 0)) (value b.high n (pos 0)) me.index c (nat_eq role me.role) is in
        reach_own n me present role c v j items (omega (arith, ints)) (near_between p l n me present.setting 0 h b items link fine v w.0 w.1) (fine.each v w.0 w.1) (others n me) k t
        (subst (λ z. Spot p l n me present (at_todo me j (pushed k (more (L.own (pos 0 -ℤ c)) (segment_codes role c items)) t)) (only_if z (parts p.roles n (is_at_offset role c) v items) ++ others n me)) is spot)

    next_segment : (role : ℕ) (c : ℤ) {middle codes : Codes} (others : ℤ → Seat → List Kind) (k : ℕ) (one : One (scope_of p) h (in_segment b role c) (more (L.own (pos 0 -ℤ c)) (segment_codes role c items)) middle codes) →
        FindOpen k codes (does role c others) → FindOpen (after_one one k) middle (still others)
    next_segment role c {middle = middle} {codes = codes} others k one find n i me within few is at comes =
        let f = find n i me within few is at comes in
        let fine = good n me f.present f.link in
        let d = segment_done p l n me f.present.setting (size_all codes) h b items f.link fine role c middle codes f.todo (size_all codes) k f.j one f.comes.near f.made (record { now = omega arith; ever = omega arith }) in
        record {
          present = f.present;
          j = d.last;
          link = f.link;
          comes = record { near = d.near; at = f.link.at d.last; comes = f.link.comes d.last };
          todo = f.todo;
          made = one_made p l n me f.present.setting (size_all codes) one f.made;
          spot = subst (λ q. Spot p l n me f.present (at_todo me d.last (pushed q middle f.todo)) (others n me))
              (same_behind _ _ (size_all middle) (k + size_all codes) d.done.counts (one_counts k one))
              (spot_way p l n me f.present (others n me) f.spot d.done.go.way);
        }

    -- ---- of one role

    abbrev role_does : ℕ → List ℤ → (ℤ → Seat → List Kind) → ℤ → Seat → List Kind
    role_does role cs others n me = gathered cs (segment_does p.roles n me b items role) ++ others n me

    abbrev pub after_role : (role : ℕ) {tail : Codes} {cs : List ℤ} {codes : Codes} → OfRole (scope_of p) h b items role tail cs codes → ℕ → ℕ
    after_role role E.none k = k
    after_role role (E.segment one w) k = after_role role w (after_one one k)

    more_does : (role : ℕ) (c : ℤ) (cs : List ℤ) (others : ℤ → Seat → List Kind) (n : ℤ) (me : Seat) (j : ℤ) → still (role_does role (c ∷ cs) others) n me j ≡ does role c (role_does role cs others) n me j
    more_does role c cs others n me j = append_assoc (segment_does p.roles n me b items role c) (gathered cs (segment_does p.roles n me b items role)) (others n me)

    find_first : (role : ℕ) (c : ℤ) (cs : List ℤ) {codes : Codes} (others : ℤ → Seat → List Kind) (k : ℕ) → FindOpen k codes (still (role_does role (c ∷ cs) others)) → FindOpen k codes (does role c (role_does role cs others))
    find_first role c cs others k find = find_same p l Open h (still (role_does role (c ∷ cs) others)) (does role c (role_does role cs others)) (more_does role c cs others) find

    behind_role : (role : ℕ) {tail : Codes} {cs : List ℤ} {codes : Codes} (others : ℤ → Seat → List Kind) (k : ℕ) (w : OfRole (scope_of p) h b items role tail cs codes) → FindOpen k codes (still (role_does role cs others)) → FindOpen (after_role role w k) tail (still others)
    behind_role role others k E.none find = find
    behind_role role others k (E.segment {c = c} {cs = cs} one w) find = behind_role role others (after_one one k) w (next_segment role c (role_does role cs others) k one (find_first role c cs others k find))

    reach_role : (role : ℕ) {tail : Codes} {cs : List ℤ} {codes : Codes} (others : ℤ → Seat → List Kind) (k : ℕ) (w : OfRole (scope_of p) h b items role tail cs codes) → FindOpen k codes (still (role_does role cs others)) → AreReached p l (after_role role w k) tail →
        AreReached p l k codes
    reach_role role others k E.none find rest = rest
    reach_role role others k (E.segment {c = c} {cs = cs} one w) find rest =
        let find' = find_first role c cs others k find in
        reach_one p l Open h (does role c (role_does role cs others)) k one (segment_keeps role c) find' (inside_segment role c (role_does role cs others) (suc k))
        (reach_role role others (after_one one k) w (next_segment role c (role_does role cs others) k one find') rest)

    -- ---- of the roles from one on

    abbrev pub all_do : ℕ → List CoreRole → (ℤ → Seat → List Kind) → ℤ → Seat → List Kind
    all_do role rs others n me = roles_do p.roles n me b items role rs ++ others n me

    abbrev pub after_segments : {tail : Codes} (role : ℕ) {rs : List CoreRole} {codes : Codes} → Segments (scope_of p) h b items tail role rs codes → ℕ → ℕ
    after_segments role E.none k = k
    after_segments role (E.of_role one w) k = after_segments (suc role) w (after_role role one k)

    more_roles : (role : ℕ) (r : CoreRole) (rs : List CoreRole) (others : ℤ → Seat → List Kind) (n : ℤ) (me : Seat) (j : ℤ) → still (all_do role (r ∷ rs) others) n me j ≡ still (role_does role (offsets role items) (all_do (suc role) rs others)) n me j
    more_roles role r rs others n me j = append_assoc (gathered (offsets role items) (segment_does p.roles n me b items role)) (roles_do p.roles n me b items (suc role) rs) (others n me)

    pub reach_segments : {tail : Codes} (role : ℕ) {rs : List CoreRole} {codes : Codes} (others : ℤ → Seat → List Kind) (k : ℕ) (w : Segments (scope_of p) h b items tail role rs codes) → FindOpen k codes (still (all_do role rs others)) → AreReached p l (after_segments role w k) tail →
        AreReached p l k codes
    reach_segments role others k E.none find rest = rest
    reach_segments role others k (E.of_role {r = r} {rs = rs} one w) find rest =
        let behind = all_do (suc role) rs others in
        let find' = find_same p l Open h (still (all_do role (r ∷ rs) others)) (still (role_does role (offsets role items) behind)) (more_roles role r rs others) find in
        reach_role role behind k one find' (reach_segments (suc role) others (after_role role one k) w (behind_role role behind k one find') rest)

    -- ---- somebody comes, where there are some

    some_role : (role : ℕ) {tail : Codes} {cs : List ℤ} {codes : Codes} → OfRole (scope_of p) h b items role tail cs codes → IsSome codes → Somebody (scope_of p) h everyone ⊎ IsSome tail
    some_role role E.none s = inr s
    some_role role (E.segment (there {gs = gs} names some) w) s = inl (record { n = some.n; i = some.i; role = some.role; index = some.index; within = some.within; few = some.few; rank = some.rank; at = some.at; comes = some.comes; is = refl })
    some_role role (E.segment (gone nobody) w) s = some_role role w s

    pub some_segment : {tail : Codes} (role : ℕ) {rs : List CoreRole} {codes : Codes} → Segments (scope_of p) h b items tail role rs codes → IsSome codes → Somebody (scope_of p) h everyone ⊎ IsSome tail
    some_segment role E.none s = inr s
    some_segment role (E.of_role one w) s =
        elim (some_role role one s) [
          | inl x ↦ inl x
          | inr s' ↦ some_segment (suc role) w s'
        ]
