-- A foreach, seen by one rank: which of its iterations have something for it.
use Rattle.std.proofs.Common.{◌≡◌, ◌<◌, ℕ, zero, suc, ◌+◌, ◌==◌, cond, ℤ, pos, ◌+ℤ◌, ◌-ℤ◌, ◌≤ℤ◌, ◌<ℤ◌, Bool, true, false, ◌&&◌, not, nat_eq, ◌⊎◌, inl, inr, List, [], ◌∷◌, ◌++◌, refl, sym, ◌∙◌, ap, ap₂, arith, append_assoc, append-nil, int_le, int_lt}
use Rattle.std.specs.Ordering.{int_eq}
use Rattle.std.proofs.lemmas.Bool.{eqb-true, or_parts, or_cases}
use Rattle.std.proofs.lemmas.Int.{ints}
use Rattle.pb_affine.specs.declared.lin.Base.{Base}
use Rattle.pb_affine.specs.declared.lin.Base.TheVariants.{Fixed, Param, Var}
use Rattle.pb_affine.specs.Values.{value, base_value, range, count_from, count_of}
use Rattle.pb_world.specs.Actions.{Kind, Runs, Sends, Receives}
use Rattle.pb_core_language.specs.declared.protocol.CoreRole.{CoreRole}
use Rattle.pb_core_language.specs.declared.tree.CoreEnd.{CoreEnd}
use Rattle.pb_core_language.specs.Laws.{IsInRole}
use Rattle.pb_core_language.specs.Tree as T
use Rattle.pb_core_language.specs.Tree.{StmtTree, BlockTree}
use Rattle.pb_core_language.specs.declared.tree.Bounds.{Bounds}
use Rattle.pb_core_language.specs.Plain.{Protocol}
use Rattle.pb_core_language.specs.Flat.{Block}
use Rattle.pb_core_language.specs.FlatOf.{for_each, rank_of, flat_stmt, flat_block}
use Rattle.pb_core_flat.specs.Seated.{rank, is_rank, is_at}
use Rattle.pb_core_flat.specs.Meets.{is_var, is_moving}
use Rattle.pb_core_flat.proofs.Seats.{end_is_at}
use Rattle.pb_local.specs.Ranks.{Seat}
use Rattle.pb_shape.specs.Segments.{is_at_offset, put_in, put_end, offsets, in_segment}
use Rattle.pb_shape.specs.Pieces.{is_fixed, is_fixed_at, fixed_in}
use Rattle.pb_shape.specs.Ways.{mine}
use Rattle.pb_shape.specs.Straight.{IsItem, AreItems}
use Rattle.pb_shape_straight.proofs.Order.{gathered, only_if, is_within, IsBelow, Descends, is_in, Only, in_order}

-- ---- offsets descend, each once

put_below : (a b : ℤ) (cs : List ℤ) → a <ℤ b → IsBelow b cs → IsBelow b (put_in a cs)
put_below a b [] h d = (h, tt)
put_below a b (c ∷ cs) h d = at (int_lt c a) (int_lt a c) refl refl (λ l. put_below a c cs l d.1)
  where
    at : (s t : Bool) → int_lt c a ≡ s → int_lt a c ≡ t → (a <ℤ c → IsBelow c (put_in a cs)) → IsBelow b (put_in a (c ∷ cs))
    at true t e e' ih = rw e (h, (grind (arith, ints), d.1))
    at false true e e' ih = rw (e, e') (d.0, ih (grind (arith, ints)))
    at false false e e' ih = rw (e, e') d

put_descends : (a : ℤ) (cs : List ℤ) → Descends cs → Descends (put_in a cs)
put_descends a [] d = tt
put_descends a (c ∷ cs) d = at (int_lt c a) (int_lt a c) refl refl
  where
    at : (s t : Bool) → int_lt c a ≡ s → int_lt a c ≡ t → Descends (put_in a (c ∷ cs))
    at true t e e' = rw e (grind (arith, ints), d)
    at false true e e' = rw (e, e') (put_below a c cs (grind (arith, ints)) d)
    at false false e e' = rw (e, e') d

end_descends : (k : ℕ) (e : CoreEnd) (cs : List ℤ) → Descends cs → Descends (put_end k e cs)
end_descends k e cs d = at (nat_eq k e.role && is_moving e) refl
  where
    at : (b : Bool) → nat_eq k e.role && is_moving e ≡ b → Descends (put_end k e cs)
    at true h = rw h (put_descends e.at.off cs d)
    at false h = rw h d

pub offsets_descend : (k : ℕ) (items : BlockTree) → Descends (offsets k items)
offsets_descend k T.nothing = tt
offsets_descend k (T.more m (T.message l f t) rest) = end_descends k f _ (end_descends k t _ (offsets_descend k rest))
offsets_descend k (T.more m (T.run kernel e) rest) = end_descends k e _ (offsets_descend k rest)
offsets_descend k (T.more m (T.foreach h a s) rest) = offsets_descend k rest
offsets_descend k (T.more m (T.loop id a s) rest) = offsets_descend k rest
offsets_descend k (T.more m (T.again id) rest) = offsets_descend k rest
offsets_descend k (T.more m (T.choice n a s) rest) = offsets_descend k rest
offsets_descend k (T.more m T.barrier rest) = offsets_descend k rest
offsets_descend k (T.more m (T.broadcast l e) rest) = offsets_descend k rest
offsets_descend k (T.more m (T.reduce l o e) rest) = offsets_descend k rest
offsets_descend k (T.more m (T.allreduce l o) rest) = offsets_descend k rest

-- ---- every offset is there

in_put : (a x : ℤ) (cs : List ℤ) → is_in x cs → is_in x (put_in a cs)
in_put a x [] h = absurd h
in_put a x (c ∷ cs) h = at (int_lt c a) (int_lt a c) refl refl (in_put a x cs)
  where
    at : (s t : Bool) → int_lt c a ≡ s → int_lt a c ≡ t → (is_in x cs → is_in x (put_in a cs)) → is_in x (put_in a (c ∷ cs))
    at true t e e' ih = rw e (inr h)
    at false true e e' ih = rw (e, e') (elim h [ inl h' ↦ inl h' | inr h' ↦ inr (ih h') ])
    at false false e e' ih = rw (e, e') h

put_there : (a : ℤ) (cs : List ℤ) → is_in a (put_in a cs)
put_there a [] = inl refl
put_there a (c ∷ cs) = at (int_lt c a) (int_lt a c) refl refl (put_there a cs)
  where
    at : (s t : Bool) → int_lt c a ≡ s → int_lt a c ≡ t → is_in a (put_in a cs) → is_in a (put_in a (c ∷ cs))
    at true t e e' ih = rw e (inl refl)
    at false true e e' ih = rw (e, e') (inr ih)
    at false false e e' ih = rw (e, e') (inl (grind (arith, ints)))

in_end : (k : ℕ) (e : CoreEnd) (x : ℤ) (cs : List ℤ) → is_in x cs → is_in x (put_end k e cs)
in_end k e x cs h = at (nat_eq k e.role && is_moving e) refl
  where
    at : (b : Bool) → nat_eq k e.role && is_moving e ≡ b → is_in x (put_end k e cs)
    at true h' = rw h' (in_put e.at.off x cs h)
    at false h' = rw h' h

end_there : (k : ℕ) (c : ℤ) (e : CoreEnd) (cs : List ℤ) → is_at_offset k c e ≡ true → is_in c (put_end k e cs)
end_there k c e cs h =
    let a : nat_eq k e.role && is_moving e ≡ true = both (nat_eq k e.role) (int_eq c e.at.off) (is_moving e) h in
    let b : c ≡ e.at.off = off (nat_eq k e.role) (is_moving e) e.at.off h in
    rw (a, b) (put_there e.at.off cs)
  where
    both : (x y z : Bool) → x && (y && z) ≡ true → x && z ≡ true
    both x y z h = grind arith

    off : (x z : Bool) (y : ℤ) → x && (int_eq c y && z) ≡ true → c ≡ y
    off x z y h = grind (arith, ints)

-- ---- what those do who are at some ends

abbrev pub if_so : Bool → Kind → List Kind
if_so true a = a ∷ []
if_so false a = []

abbrev pub IsSome : List Kind → Type 0
IsSome [] = ⊥
IsSome (a ∷ s) = Unit {0}

if_so_or : (b : Bool) (a : Kind) → (if_so b a ≡ []) ⊎ (b ≡ true)
if_so_or true a = inr refl
if_so_or false a = inl refl

two_parts : (a b : Bool) → (a ≡ true → b ≡ true → ⊥) → (x y : Kind) (s : List Kind) → cond a (x ∷ s) (cond b (y ∷ s) s) ≡ (if_so a x ++ if_so b y) ++ s
two_parts true true h x y s = absurd (h refl refl)
two_parts true false h x y s = refl
two_parts false true h x y s = refl
two_parts false false h x y s = refl

one_part : (a : Bool) (x : Kind) (s : List Kind) → cond a (x ∷ s) s ≡ if_so a x ++ s
one_part true x s = refl
one_part false x s = refl

module _ (roles : List CoreRole) (n : ℤ) where
  -- a statement's part for those who are at these ends, with i for the variable
  abbrev pub part : (CoreEnd → Bool) → ℤ → StmtTree → List Kind
  part who i (T.message l f t) = if_so (who f) (Sends (rank_of roles n t i) l) ++ if_so (who t) (Receives (rank_of roles n f i) l)
  part who i (T.run k e) = if_so (who e) (Runs k)
  part who i (T.foreach b m items) = []
  part who i (T.loop id m body) = []
  part who i (T.again id) = []
  part who i (T.choice k at bs) = []
  part who i T.barrier = []
  part who i (T.broadcast l root) = []
  part who i (T.reduce l op root) = []
  part who i (T.allreduce l op) = []

  abbrev pub parts : (CoreEnd → Bool) → ℤ → BlockTree → List Kind
  parts who i T.nothing = []
  parts who i (T.more m s rest) = part who i s ++ parts who i rest

  part_or_in : (i : ℤ) (k : ℕ) (c : ℤ) (s : StmtTree) (rest : BlockTree) (m : T.Mark) →
      ((part (is_at_offset k c) i s ≡ []) × (is_in c (offsets k rest) → is_in c (offsets k (T.more m s rest)))) ⊎ is_in c (offsets k (T.more m s rest))
  part_or_in i k c (T.message l f t) rest m =
      elim (if_so_or (is_at_offset k c f) (Sends (rank_of roles n t i) l)) [
        | inr e ↦ inr (end_there k c f _ e)
        | inl e ↦ elim (if_so_or (is_at_offset k c t) (Receives (rank_of roles n f i) l)) [
          | inr e' ↦ inr (in_end k f c _ (end_there k c t _ e'))
          | inl e' ↦ inl (rw (e, e') refl, λ h. in_end k f c _ (in_end k t c _ h))
        ]
      ]
  part_or_in i k c (T.run kernel e) rest m =
      elim (if_so_or (is_at_offset k c e) (Runs kernel)) [
        | inr e' ↦ inr (end_there k c e _ e')
        | inl e' ↦ inl (e', λ h. in_end k e c _ h)
      ]
  part_or_in i k c (T.foreach h a s) rest m = inl (refl, λ h. h)
  part_or_in i k c (T.loop id a s) rest m = inl (refl, λ h. h)
  part_or_in i k c (T.again id) rest m = inl (refl, λ h. h)
  part_or_in i k c (T.choice n' a s) rest m = inl (refl, λ h. h)
  part_or_in i k c T.barrier rest m = inl (refl, λ h. h)
  part_or_in i k c (T.broadcast l e) rest m = inl (refl, λ h. h)
  part_or_in i k c (T.reduce l o e) rest m = inl (refl, λ h. h)
  part_or_in i k c (T.allreduce l o) rest m = inl (refl, λ h. h)

  -- those at an offset that isn't in the list do nothing
  nothing_or_in : (i : ℤ) (k : ℕ) (c : ℤ) (items : BlockTree) → (parts (is_at_offset k c) i items ≡ []) ⊎ is_in c (offsets k items)
  nothing_or_in i k c T.nothing = inl refl
  nothing_or_in i k c (T.more m s rest) =
      elim (part_or_in i k c s rest m) [
        | inr h ↦ inr h
        | inl h ↦ elim (nothing_or_in i k c rest) [ inl e ↦ inl (rw (h.0, e) refl) | inr h' ↦ inr (h.1 h') ]
      ]

  module _ (me : Seat) where
    -- the rank is at the end
    abbrev pub is_mine : ℤ → CoreEnd → Bool
    is_mine i e = is_at e n i me.role me.index

    abbrev pub my_parts : ℤ → BlockTree → List Kind
    my_parts i items = parts (is_mine i) i items

    -- for a rank that isn't fixed, an end is its own at iteration i exactly where its offset is the index less i
    at_offset : (e : CoreEnd) (i : ℤ) → is_fixed e n me.role me.index ≡ false → is_mine i e ≡ is_at_offset me.role (me.index -ℤ i) e
    at_offset e i h = by e.role e.at.base e.at.off h
      where
        by : (role : ℕ) (base : Base) (off : ℤ) → not (is_var base) && (nat_eq role me.role && int_eq (off +ℤ base_value base n (pos 0)) me.index) ≡ false →
            nat_eq role me.role && int_eq (off +ℤ base_value base n i) me.index ≡ nat_eq me.role role && (int_eq (me.index -ℤ i) off && is_var base)
        by role Fixed off h = h ∙ sym (none (nat_eq me.role role) _)
          where
            none : (a b : Bool) → a && (b && false) ≡ false
            none a b = grind arith
        by role Param off h = h ∙ sym (none (nat_eq me.role role) _)
          where
            none : (a b : Bool) → a && (b && false) ≡ false
            none a b = grind arith
        by role Var off h = same me.role me.index
          where
            same : (r : ℕ) (x : ℤ) → nat_eq role r && int_eq (off +ℤ i) x ≡ nat_eq r role && (int_eq (x -ℤ i) off && true)
            same r x =
                let a : int_eq (off +ℤ i) x ≡ int_eq (x -ℤ i) off = grind (arith, ints) in
                let b : nat_eq role r ≡ nat_eq r role = grind arith in
                rw (a, b) (right (nat_eq r role) (int_eq (x -ℤ i) off))
              where
                right : (a b : Bool) → a && b ≡ a && (b && true)
                right a b = grind arith

    part_free : (i : ℤ) (s : StmtTree) → is_fixed_at s n me.role me.index ≡ false → part (is_mine i) i s ≡ part (is_at_offset me.role (me.index -ℤ i)) i s
    part_free i (T.message l f t) h = let a = or_parts _ _ h in rw (at_offset f i a.0, at_offset t i a.1) refl
    part_free i (T.run k e) h = rw (at_offset e i h) refl
    part_free i (T.foreach b m items) h = refl
    part_free i (T.loop id m body) h = refl
    part_free i (T.again id) h = refl
    part_free i (T.choice k at bs) h = refl
    part_free i T.barrier h = refl
    part_free i (T.broadcast l root) h = refl
    part_free i (T.reduce l op root) h = refl
    part_free i (T.allreduce l op) h = refl

    mine_is : (i : ℤ) (items : BlockTree) → fixed_in items n me.role me.index ≡ false → my_parts i items ≡ parts (is_at_offset me.role (me.index -ℤ i)) i items
    mine_is i T.nothing h = refl
    mine_is i (T.more m s rest) h = let a = or_parts _ _ h in ap₂ (λ u v. u ++ v) (part_free i s a.0) (mine_is i rest a.1)

    gathered_same : (xs : List ℤ) (f g : ℤ → List Kind) → ((x : ℤ) → f x ≡ g x) → gathered xs f ≡ gathered xs g
    gathered_same [] f g h = refl
    gathered_same (x ∷ xs) f g h = rw (h x) (ap (λ l. g x ++ l) (gathered_same xs f g h))

    -- what the segment of role k and offset c does for the rank, and what all segments of the role do
    abbrev pub segment_does : Bounds → BlockTree → ℕ → ℤ → List Kind
    segment_does b items k c = only_if (in_segment b k c n (pos 0) me.role me.index) (parts (is_at_offset k c) (me.index -ℤ c) items)

    abbrev pub role_does : Bounds → BlockTree → ℕ → List Kind
    role_does b items k = gathered (offsets k items) (segment_does b items k)

    abbrev pub iterations : Bounds → BlockTree → List Kind
    iterations b items = gathered (range (value b.low n (pos 0)) (value b.high n (pos 0))) (λ v. my_parts v items)

    -- the iterations, ascending, are the segments of the rank's role, offsets descending
    in_segments : (b : Bounds) (items : BlockTree) → fixed_in items n me.role me.index ≡ false → iterations b items ≡ role_does b items me.role
    in_segments b items free =
        let low = value b.low n (pos 0) in let high = value b.high n (pos 0) in
        in_order me.index high (λ v. my_parts v items) (offsets me.role items) low (offsets_descend me.role items) only
        ∙ gathered_same (offsets me.role items) _ _ (λ c. same low high c)
      where
        only : Only me.index (value b.high n (pos 0)) (λ v. my_parts v items) (value b.low n (pos 0)) (offsets me.role items)
        only v l u = elim (nothing_or_in v me.role (me.index -ℤ v) items) [ inl e ↦ inl (mine_is v items free ∙ e) | inr h ↦ inr h ]

        same : (low high c : ℤ) → only_if (is_within low high (me.index -ℤ c)) (my_parts (me.index -ℤ c) items)
            ≡ only_if (nat_eq me.role me.role && (int_le (low +ℤ c) me.index && int_le me.index (high +ℤ c))) (parts (is_at_offset me.role c) (me.index -ℤ c) items)
        same low high c =
            let e : me.index -ℤ (me.index -ℤ c) ≡ c = omega (arith, ints) in
            let m : my_parts (me.index -ℤ c) items ≡ parts (is_at_offset me.role c) (me.index -ℤ c) items =
            mine_is (me.index -ℤ c) items free ∙ ap (λ d. parts (is_at_offset me.role d) (me.index -ℤ c) items) e in
            rw m (ap (λ b. only_if b (parts (is_at_offset me.role c) (me.index -ℤ c) items)) (test me.role low high me.index c))
          where
            test : (r : ℕ) (low high x c : ℤ) → is_within low high (x -ℤ c) ≡ nat_eq r r && (int_le (low +ℤ c) x && int_le x (high +ℤ c))
            test r low high x c =
                let a : int_le low (x -ℤ c) ≡ int_le (low +ℤ c) x = grind (arith, ints) in
                let b : int_le (x -ℤ c) high ≡ int_le x (high +ℤ c) = grind (arith, ints) in
                let d : nat_eq r r ≡ true = grind arith in
                rw (a, b, d) refl

    -- what the segments of the roles from number k on do for the rank
    abbrev pub roles_do : Bounds → BlockTree → ℕ → List CoreRole → List Kind
    roles_do b items k [] = []
    roles_do b items k (r ∷ rs) = role_does b items k ++ roles_do b items (suc k) rs

    other_role : (b : Bounds) (items : BlockTree) (k : ℕ) → nat_eq k me.role ≡ false → role_does b items k ≡ []
    other_role b items k e = at (offsets k items)
      where
        at : (cs : List ℤ) → gathered cs (segment_does b items k) ≡ []
        at [] = refl
        at (c ∷ cs) = rw (off c) (at cs)
          where
            off : (c : ℤ) → segment_does b items k c ≡ []
            off c = rw e refl

    later_roles : (b : Bounds) (items : BlockTree) (k : ℕ) (rs : List CoreRole) → me.role < k → roles_do b items k rs ≡ []
    later_roles b items k [] lt = refl
    later_roles b items k (r ∷ rs) lt = rw (other_role b items k (grind arith), later_roles b items (suc k) rs (omega arith)) refl

    all_roles : (b : Bounds) (items : BlockTree) (k d : ℕ) (rs : List CoreRole) → me.role ≡ k + d → IsInRole d rs n me.index → roles_do b items k rs ≡ role_does b items me.role
    all_roles b items k d [] e within = absurd within
    all_roles b items k zero (r ∷ rs) e within =
        let e' : k ≡ me.role = omega arith in
        rw (later_roles b items (suc k) rs (omega arith), append-nil (role_does b items k)) (ap (λ k. role_does b items k) e')
    all_roles b items k (suc d) (r ∷ rs) e within =
        rw (other_role b items k (grind arith)) (all_roles b items (suc k) d rs (omega arith) within)

    -- so they are the segments of all roles
    pub segments_are : (b : Bounds) (items : BlockTree) → fixed_in items n me.role me.index ≡ false → IsInRole me.role roles n me.index → roles_do b items 0 roles ≡ iterations b items
    segments_are b items free within = all_roles b items 0 me.role roles (omega arith) within ∙ sym (in_segments b items free)

    -- where the variable has no value no segment does anything
    no_segment : (b : Bounds) (items : BlockTree) (k : ℕ) (c : ℤ) → value b.high n (pos 0) <ℤ value b.low n (pos 0) → segment_does b items k c ≡ []
    no_segment b items k c lt = rw (off (nat_eq k me.role) (value b.low n (pos 0)) (value b.high n (pos 0)) c me.index lt) refl
      where
        off : (a : Bool) (low high c x : ℤ) → high <ℤ low → a && (int_le (low +ℤ c) x && int_le x (high +ℤ c)) ≡ false
        off a low high c x lt = grind (arith, ints)

    no_role : (b : Bounds) (items : BlockTree) (k : ℕ) (cs : List ℤ) → value b.high n (pos 0) <ℤ value b.low n (pos 0) → gathered cs (segment_does b items k) ≡ []
    no_role b items k [] lt = refl
    no_role b items k (c ∷ cs) lt = rw (no_segment b items k c lt) (no_role b items k cs lt)

    pub no_roles : (b : Bounds) (items : BlockTree) (k : ℕ) (rs : List CoreRole) → value b.high n (pos 0) <ℤ value b.low n (pos 0) → roles_do b items k rs ≡ []
    no_roles b items k [] lt = refl
    no_roles b items k (r ∷ rs) lt = rw (no_role b items k (offsets k items) lt) (no_roles b items (suc k) rs lt)

    -- a fixed rank has something in each iteration
    some_first : (s t : List Kind) → IsSome s → IsSome (s ++ t)
    some_first [] t h = absurd h
    some_first (x ∷ s) t h = tt

    some_last : (s t : List Kind) → IsSome t → IsSome (s ++ t)
    some_last [] t h = h
    some_last (x ∷ s) t h = tt

    some_if : (b : Bool) (a : Kind) → b ≡ true → IsSome (if_so b a)
    some_if b a e = rw e tt

    fixed_end : (e : CoreEnd) (i : ℤ) → is_fixed e n me.role me.index ≡ true → is_mine i e ≡ true
    fixed_end e i h = by e.at.base e.at.off h
      where
        by : (base : Base) (off : ℤ) → not (is_var base) && (nat_eq e.role me.role && int_eq (off +ℤ base_value base n (pos 0)) me.index) ≡ true →
            nat_eq e.role me.role && int_eq (off +ℤ base_value base n i) me.index ≡ true
        by Fixed off h = h
        by Param off h = h
        by Var off h = grind arith

    fixed_part : (i : ℤ) (s : StmtTree) → is_fixed_at s n me.role me.index ≡ true → IsSome (part (is_mine i) i s)
    fixed_part i (T.message l f t) h =
        let a = if_so (is_mine i f) (Sends (rank_of roles n t i) l) in
        let b = if_so (is_mine i t) (Receives (rank_of roles n f i) l) in
        elim (or_cases (is_fixed f n me.role me.index) (is_fixed t n me.role me.index) h) [
          | inl e ↦ some_first a b (some_if (is_mine i f) (Sends (rank_of roles n t i) l) (fixed_end f i e))
          | inr e ↦ some_last a b (some_if (is_mine i t) (Receives (rank_of roles n f i) l) (fixed_end t i e))
        ]
    fixed_part i (T.run k e) h = some_if (is_mine i e) (Runs k) (fixed_end e i h)
    fixed_part i (T.foreach b m items) h = cc
    fixed_part i (T.loop id m body) h = cc
    fixed_part i (T.again id) h = cc
    fixed_part i (T.choice k at bs) h = cc
    fixed_part i T.barrier h = cc
    fixed_part i (T.broadcast l root) h = cc
    fixed_part i (T.reduce l op root) h = cc
    fixed_part i (T.allreduce l op) h = cc

    pub fixed_acts : (i : ℤ) (items : BlockTree) → fixed_in items n me.role me.index ≡ true → IsSome (my_parts i items)
    fixed_acts i T.nothing h = cc
    fixed_acts i (T.more m s rest) h =
        elim (or_cases (is_fixed_at s n me.role me.index) (fixed_in rest n me.role me.index) h) [
          | inl h' ↦ some_first (part (is_mine i) i s) (my_parts i rest) (fixed_part i s h')
          | inr h' ↦ some_last (part (is_mine i) i s) (my_parts i rest) (fixed_acts i rest h')
        ]

-- ---- a rank's part of the flat statements

module _ (p : Protocol) (n : ℤ) (r : ℕ) (me : Seat) (is : is_rank p.roles n me.role me.index ≡ true) (number : rank p.roles n me.role me.index ≡ r) where
  own_end : (e : CoreEnd) (i : ℤ) → (rank_of p.roles n e i == r) ≡ is_mine p.roles n me i e
  own_end e i = ap (λ q. rank_of p.roles n e i == q) (sym number) ∙ end_is_at p.roles n i e me.role me.index is

  -- of a message or a compute
  pub mine_item : (varies : Bool) (opens : List ℕ) (i : ℤ) (m : T.Mark) (s : StmtTree) (rest : Block) → IsItem p n varies i s →
      mine r (flat_stmt p.roles n opens i m s rest) ≡ part p.roles n (is_mine p.roles n me i) i s ++ mine r rest
  mine_item varies opens i m (T.message l f t) rest h =
      rw (own_end f i, own_end t i) (two_parts (is_mine p.roles n me i f) (is_mine p.roles n me i t) apart (Sends (rank_of p.roles n t i) l) (Receives (rank_of p.roles n f i) l) (mine r rest))
    where
      apart : is_mine p.roles n me i f ≡ true → is_mine p.roles n me i t ≡ true → ⊥
      apart a b = h.2 (eqb-true _ _ (own_end f i ∙ a) ∙ sym (eqb-true _ _ (own_end t i ∙ b)))
  mine_item varies opens i m (T.run k e) rest h = rw (own_end e i) (one_part (is_mine p.roles n me i e) (Runs k) (mine r rest))
  mine_item varies opens i m (T.foreach b k items) rest h = absurd h
  mine_item varies opens i m (T.loop id k body) rest h = absurd h
  mine_item varies opens i m (T.again id) rest h = absurd h
  mine_item varies opens i m (T.choice k at bs) rest h = absurd h
  mine_item varies opens i m T.barrier rest h = absurd h
  mine_item varies opens i m (T.broadcast l root) rest h = absurd h
  mine_item varies opens i m (T.reduce l op root) rest h = absurd h
  mine_item varies opens i m (T.allreduce l op) rest h = absurd h

  mine_items : (varies : Bool) (opens : List ℕ) (i : ℤ) (items : BlockTree) (rest : Block) → AreItems p n varies i items →
      mine r (flat_block p.roles n opens i items rest) ≡ my_parts p.roles n me i items ++ mine r rest
  mine_items varies opens i T.nothing rest h = refl
  mine_items varies opens i (T.more m s items) rest h =
      mine_item varies opens i m s (flat_block p.roles n opens i items rest) h.0
      ∙ ap (λ l. part p.roles n (is_mine p.roles n me i) i s ++ l) (mine_items varies opens i items rest h.1)
      ∙ sym (append_assoc (part p.roles n (is_mine p.roles n me i) i s) _ _)

  mine_rounds : (opens : List ℕ) (c : ℕ) (low : ℤ) (items : BlockTree) (rest : Block) → ((i : ℤ) → low ≤ℤ i → i <ℤ (low +ℤ pos c) → AreItems p n true i items) →
      mine r (for_each (count_from c low) (λ v. flat_block p.roles n opens v items) rest) ≡ gathered (count_from c low) (λ v. my_parts p.roles n me v items) ++ mine r rest
  mine_rounds opens zero low items rest h = refl
  mine_rounds opens (suc c) low items rest h =
      mine_items true opens low items (for_each (count_from c (low +ℤ pos 1)) (λ v. flat_block p.roles n opens v items) rest) (h low (omega (arith, ints)) (omega (arith, ints)))
      ∙ ap (λ l. my_parts p.roles n me low items ++ l) (mine_rounds opens c (low +ℤ pos 1) items rest (λ i a b. h i (omega (arith, ints, a)) (omega (arith, ints, b))))
      ∙ sym (append_assoc (my_parts p.roles n me low items) _ _)

  upto : (low high i : ℤ) → low ≤ℤ i → i <ℤ (low +ℤ pos (count_of (high +ℤ pos 1 -ℤ low))) → i ≤ℤ high
  upto low high i l u = grind (arith, ints)

  -- of a foreach
  pub mine_each : (opens : List ℕ) (b : Bounds) (items : BlockTree) (rest : Block) → ((i : ℤ) → value b.low n (pos 0) ≤ℤ i → i ≤ℤ value b.high n (pos 0) → AreItems p n true i items) →
      mine r (for_each (range (value b.low n (pos 0)) (value b.high n (pos 0))) (λ v. flat_block p.roles n opens v items) rest) ≡ iterations p.roles n me b items ++ mine r rest
  mine_each opens b items rest h =
      let low = value b.low n (pos 0) in let high = value b.high n (pos 0) in
      mine_rounds opens (count_of (high +ℤ pos 1 -ℤ low)) low items rest (λ i l u. h i l (upto low high i l u))
