-- A foreach: the loop, and the `If` around it and the segments.
use Rattle.std.proofs.Common.{◌≡◌, ℕ, suc, ◌+◌, ◌≤◌, max, length, ℤ, pos, ◌+ℤ◌, ◌≤ℤ◌, int_le, nat_eq, if◌then◌else◌, Bool, true, false, ◌&&◌, ◌||◌, not, List, [], ◌∷◌, ◌++◌, map, refl, sym, ap, ◌∙◌, subst, arith}
use Rattle.std.proofs.lemmas.Int.{ints}
use Rattle.std.proofs.lemmas.Bool.{and_parts, false≢true, not-true, or_right, or_left, and_from}
use Rattle.pb_affine.specs.declared.guard.Guard.{Guard}
use Rattle.pb_affine.specs.declared.range.NRange.{NRange}
use Rattle.pb_affine.specs.declared.lin.Base.{Base}
use Rattle.pb_affine.specs.declared.lin.Base.TheVariants.{Fixed, Param, Var}
use Rattle.pb_affine.specs.Values.{value, base_value, hold}
use Rattle.std.specs.Ordering.{int_eq}
use Rattle.pb_part_areas.specs.declared.area.Area.{Area}
use Rattle.pb_part_areas.specs.Areas.{have}
use Rattle.pb_core_language.specs.declared.tree.CoreEnd.{CoreEnd}
use Rattle.pb_core_language.specs.Plain.{Protocol}
use Rattle.pb_core_language.specs.Ranks.{total}
use Rattle.pb_core_language.specs.Sound.{Rows, rows_of, is_block}
use Rattle.pb_core_language.specs.Tree as T
use Rattle.pb_core_language.specs.Tree.{StmtTree, BlockTree}
use Rattle.pb_core_language.specs.declared.tree.Bounds.{Bounds}
use Rattle.pb_core_flat.specs.Seated.{is_at}
use Rattle.pb_core_flat.specs.Meets.{is_var, is_met, meets, meet}
use Rattle.pb_local.specs.declared.stmt.Stmt.{Stmt}
use Rattle.pb_local.specs.Tree as L
use Rattle.std.specs.List.{All}
use Rattle.std.proofs.lemmas.List.Elements.{All-cons, All-nil}
use Rattle.pb_part_takers.proofs.Among.{bound_parts}
use Rattle.pb_local.specs.Tree.{Code, Codes, Program, size_all, plain, plain_all, codes_of}
use Rattle.pb_local.specs.WellMade as W
use Rattle.pb_local.specs.WellMade.{AreMade, IsGuard, AreGuards, behind, loops_in}
use Rattle.pb_shape.specs.Sizes.{braces_all, room_each}
use Rattle.pb_project_piece.specs.Weights.{sizes, depths, loop_count, AreFlat, IsWeighed, IsTabledAs, each_room}
use Rattle.pb_project_piece.proofs.Weights.{weighed_less, sizes_onto, loops_onto, braces_onto, made_onto, small_is, peer_made, guard_made}
use Rattle.pb_shape.specs.Places.{Scope, Here, everyone}
use Rattle.pb_shape.specs.Guards.{Nobody, Somebody}
use Rattle.pb_shape.specs.Segments.{Segments}
use Rattle.pb_shape.specs.Pieces.{is_fixed, is_fixed_at, fixed_in, in_for, but_fixed, ForEach}
use Rattle.pb_core_flat.specs.Seated.{is_rank}
use Rattle.pb_project_piece.specs.Adding.{Added}
use Rattle.pb_project_piece.specs.Ranked.{IsThere, late, brought, IsBrought}
use Rattle.pb_project_piece.proofs.Brought.{fixed_brought, bounds_brought}
use Rattle.pb_project_piece.specs.Comers.{AreBounds}
use Rattle.pb_project_piece.specs.Standing.{Stands, Come, meeting, IsOpen, IsEach}
use Rattle.pb_project_piece.specs.Ones.{end_guard, AreItemsOf}
use Rattle.pb_project_piece.specs.Fixed.{some_of, at_some, AreFairEnds, AreFixed, AreAreas, AreMetAreas}
use Rattle.pb_project_piece.specs.Segments.{IsApart, AreSegments}
use Rattle.pb_project_piece.specs.Looping.{AreStill, Runner, Runs, IsRounds, IsBoth, IsForEach}
use Rattle.pb_project_piece.proofs.Added.{onto_nothing, added_one, added_as}
use Rattle.pb_project_piece.proofs.Ones.{from_zero, inside_range, outside_range, rank_is, met_at, is_late, not_late, late_in}
use Rattle.pb_project_piece.proofs.StillEnds.{fixed_at, guards_hold, fair_items}

-- ---- the ranks at ends without the variable

pub still_areas : (b : BlockTree) (ends : List CoreEnd) (areas : List Area) → AreFixed b ends → AreAreas ends areas → AreStill b areas
still_areas b ends areas fixed are = record {
  is = λ rows n role x fair h. are.is rows n role x (fixed.sound rows fair) h ∙ fixed.is n (pos 0) role x;
}

le_itself : (a b : ℤ) → int_le a b ≡ true → int_le a a && int_le a b ≡ true
le_itself a b h = grind (arith, ints, h)

le_over : (a i b : ℤ) → int_le a i && int_le i b ≡ true → int_le a b ≡ true
le_over a i b h = grind (arith, ints, h)

or_one : (a b c : Bool) → (a ≡ true → c ≡ true) → (b ≡ true → c ≡ true) → a || b ≡ true → c ≡ true
or_one true b c f g h = f refl
or_one false b c f g h = g h

not_empty : (s : Stmt) → s ∷ [] ≡ [] → ⊥
not_empty s h = cc

module _ (low high n : ℤ) (role : ℕ) (x : ℤ) (some : int_le low high ≡ true) where
  end_meets : (e : CoreEnd) → is_fixed e n role x ≡ true → is_met e low high n role x ≡ true
  end_meets e h = met_at e low high n low role x (le_itself low high some) (fixed_at e n low role x h)

  item_meets : (s : StmtTree) → is_fixed_at s n role x ≡ true → meets s low high n role x ≡ true
  item_meets (T.message l f t) h =
      or_one (is_fixed f n role x) (is_fixed t n role x) (is_met f low high n role x || is_met t low high n role x)
      (λ a. or_left _ _ (end_meets f a)) (λ a. or_right _ _ (end_meets t a)) h
  item_meets (T.foreach b m items) h = absurd (false≢true h)
  item_meets (T.loop id m body) h = absurd (false≢true h)
  item_meets (T.again id) h = absurd (false≢true h)
  item_meets (T.choice k at bs) h = absurd (false≢true h)
  item_meets (T.run k e) h = end_meets e h
  item_meets T.barrier h = absurd (false≢true h)
  item_meets (T.broadcast l root) h = absurd (false≢true h)
  item_meets (T.reduce l op root) h = absurd (false≢true h)
  item_meets (T.allreduce l op) h = absurd (false≢true h)

  pub fixed_meets : (b : BlockTree) → fixed_in b n role x ≡ true → meet b low high n role x ≡ true
  fixed_meets T.nothing h = absurd (false≢true h)
  fixed_meets (T.more m s rest) h =
      or_one (is_fixed_at s n role x) (fixed_in rest n role x) (meets s low high n role x || meet rest low high n role x)
      (λ a. or_left _ _ (item_meets s a)) (λ a. or_right _ _ (fixed_meets rest a)) h

  some_meets : (es : List CoreEnd) → at_some es n low role x ≡ true → some_of (λ e. is_met e low high n role x) es ≡ true
  some_meets [] h = absurd (false≢true h)
  some_meets (e ∷ es) h =
      or_one (is_at e n low role x) (at_some es n low role x) (is_met e low high n role x || some_of (λ o. is_met o low high n role x) es)
      (λ a. or_left _ _ (met_at e low high n low role x (le_itself low high some) a)) (λ a. or_right _ _ (some_meets es a)) h

-- ---- who runs the loop

-- whoever is at an end for some value of the variable, for the variable has a value
between_ends : (a : Bool) (low high c x : ℤ) → a && (int_le (low +ℤ c) x && int_le x (high +ℤ c)) ≡ true → int_le low high ≡ true
between_ends a low high c x h = grind (arith, ints, h)

end_valued : (low high n : ℤ) (role : ℕ) (x : ℤ) (r : ℕ) (base : Base) (c : ℤ) → nat_eq r role && (if is_var base then int_le (low +ℤ c) x && int_le x (high +ℤ c) else int_le low high && int_eq (c +ℤ base_value base n (pos 0)) x) ≡ true →
    int_le low high ≡ true
end_valued low high n role x r Fixed c h = (and_parts (int_le low high) _ (and_parts (nat_eq r role) _ h).1).0
end_valued low high n role x r Param c h = (and_parts (int_le low high) _ (and_parts (nat_eq r role) _ h).1).0
end_valued low high n role x r Var c h = between_ends (nat_eq r role) low high c x h

module _ (low high n : ℤ) (role : ℕ) (x : ℤ) where
  one_valued : (e : CoreEnd) → is_met e low high n role x ≡ true → int_le low high ≡ true
  one_valued e h = end_valued low high n role x e.role e.at.base e.at.off h

  some_valued : (es : List CoreEnd) → some_of (λ e. is_met e low high n role x) es ≡ true → int_le low high ≡ true
  some_valued [] h = absurd (false≢true h)
  some_valued (e ∷ es) h = or_one (is_met e low high n role x) (some_of (λ o. is_met o low high n role x) es) (int_le low high) (one_valued e) (some_valued es) h

pub runs_is : (range : NRange) (whole : List Area) (over : Bounds) (ends : List CoreEnd) (fixed met runners : List Area) (b : BlockTree) (t : Bool) → AreFixed b ends → AreMetAreas over ends met →
    ((n : ℤ) (role : ℕ) (x : ℤ) → have runners n role x ≡ have fixed n role x && have met n role x) → IsThere range whole runners t → Runs range whole over fixed b t
runs_is range whole over ends fixed met runners b true found are common there =
    let both = and_parts (have fixed there.n there.role there.index) (have met there.n there.role there.index) (sym (common there.n there.role there.index) ∙ there.there) in
    record {
      n = there.n;
      role = there.role;
      index = there.index;
      within = there.within;
      rank = there.rank;
      there = both.0;
      least = λ rows ids roles bounds sound still m role x within rank is_whole here some.
          let fair = fair_items rows ids b sound in
          let zero = from_zero range m within in
          let low = value over.low m (pos 0) in
          let at_end : fixed_in b m role x ≡ true = sym (still.is rows m role x fair zero) ∙ here in
          let meets_it : have met m role x ≡ true =
          are.is rows m role x (found.sound rows fair) bounds zero ∙ some_meets low (value over.high m (pos 0)) m role x some ends (found.is m low role x ∙ at_end) in
          there.least m role x within is_whole (common m role x ∙ and_from _ _ here meets_it);
      valued = λ rows ids roles bounds sound rank.
          some_valued (value over.low there.n (pos 0)) (value over.high there.n (pos 0)) there.n there.role there.index ends
          (sym (are.is rows there.n there.role there.index (found.sound rows (fair_items rows ids b sound)) bounds (from_zero range there.n there.within)) ∙ both.1);
    }
runs_is range whole over ends fixed met runners b false found are common there = λ rows ids roles n role x bounds sound still within rank is_whole at_end some.
    let low = value over.low n (pos 0) in
    let zero = from_zero range n within in
    let fair = fair_items rows ids b sound in
    let here : have fixed n role x ≡ true = still.is rows n role x fair zero ∙ at_end in
    let meets_it : have met n role x ≡ true =
    are.is rows n role x (found.sound rows fair) bounds zero ∙ some_meets low (value over.high n (pos 0)) n role x some ends (found.is n low role x ∙ at_end) in
    false≢true (sym (there n role x within is_whole) ∙ common n role x ∙ and_from _ _ here meets_it)

-- ---- how large it is, and that it is made

loop_few : (a w : ℕ) → a ≤ w → suc a + 0 ≤ 1 + w
loop_few a w h = omega (arith, h)

loop_shallow : (a : ℕ) → a ≤ 1 → max (suc a) 0 ≤ 2
loop_shallow a h = omega (arith, h)

loop_none : (a : ℕ) → a ≡ 0 → a + 0 ≡ 0
loop_none a h = omega (arith, h)

room_step : (a b c : ℕ) → a ≡ b + c → 10 + a ≡ (4 + b) + (6 + c)
room_step a b c h = omega (arith, h)

room_is : (b : BlockTree) → room_each b ≡ each_room 4 b + each_room 6 b
room_is T.nothing = refl
room_is (T.more m s rest) = room_step (room_each rest) (each_room 4 rest) (each_room 6 rest) (room_is rest)

both_room : (a c r : ℕ) → r ≡ a + c → 2 + (a + c) ≤ 2 + r
both_room a c r h = omega (arith, h)

six_room : (a c r : ℕ) → r ≡ a + c → c ≤ 2 + r
six_room a c r h = omega (arith, h)

three_three : 3 ≤ 3
three_three = omega arith

one_three : 1 ≤ 3
one_three = omega arith

both_few : (f o m w : ℕ) (fc oc : ℕ) → f ≤ 1 + m → o ≤ w → fc ≡ f + 0 → oc ≡ o + 0 → suc (fc + oc) + 0 ≤ 2 + (m + w)
both_few f o m w fc oc h k e g = omega (arith, h, k, e, g)

both_shallow : (f o fc oc : ℕ) → f ≤ 2 → o ≤ 1 → fc ≡ max f 0 → oc ≡ max o 0 → max (suc (max fc oc)) 0 ≤ 3
both_shallow f o fc oc h k e g = omega (arith, h, k, e, g)

both_none : (f o fc oc : ℕ) → f ≡ 0 → o ≡ 0 → fc ≡ f + 0 → oc ≡ o + 0 → (fc + oc) + 0 ≡ 0
both_none f o fc oc h k e g = omega (arith, h, k, e, g)

both_weighed : (gs : List Guard) (first other : List Stmt) (m w : ℕ) → IsWeighed (1 + m) 2 (map plain first) → IsWeighed w 1 (map plain other) → IsWeighed (2 + (m + w)) 3 (L.when gs (plain_all first) (plain_all other) ∷ [])
both_weighed gs first other m w x y =
    let f = map plain first in
    let o = map plain other in
    record {
      few = both_few (sizes f) (sizes o) m w (size_all (plain_all first)) (size_all (plain_all other)) x.few y.few (ap size_all (sym (onto_nothing f)) ∙ sizes_onto f L.nothing) (ap size_all (sym (onto_nothing o)) ∙ sizes_onto o L.nothing);
      shallow = both_shallow (depths f) (depths o) (braces_all (plain_all first)) (braces_all (plain_all other)) x.shallow y.shallow (ap braces_all (sym (onto_nothing f)) ∙ braces_onto f L.nothing) (ap braces_all (sym (onto_nothing o)) ∙ braces_onto o L.nothing);
      none = both_none (loop_count f) (loop_count o) (loops_in (plain_all first)) (loops_in (plain_all other)) x.none y.none (ap loops_in (sym (onto_nothing f)) ∙ loops_onto f L.nothing) (ap loops_in (sym (onto_nothing o)) ∙ loops_onto o L.nothing);
    }

all_made : (l : Program) (list : List Stmt) (at : W.Scope) → loop_count (map plain list) ≡ 0 → AreFlat l (map plain list) → AreMade l at (plain_all list)
all_made l list at none flat = subst (AreMade l at) (onto_nothing (map plain list)) (made_onto l (map plain list) at L.nothing none flat tt)

both_flat : (l : Program) (gs : List Guard) (first other : List Stmt) → AreGuards l gs → loop_count (map plain first) ≡ 0 → AreFlat l (map plain first) → loop_count (map plain other) ≡ 0 → AreFlat l (map plain other) →
    AreFlat l (L.when gs (plain_all first) (plain_all other) ∷ [])
both_flat l gs first other guards no_first first_flat no_other other_flat =
    (λ at. (guards, all_made l first at no_first first_flat, all_made l other (behind at (loops_in (plain_all first))) no_other other_flat), tt)

all_guards : (p : Protocol) (l : Program) (ends : List CoreEnd) → IsTabledAs p l → AreFairEnds (rows_of p) ends → All (IsGuard l) (map end_guard ends)
all_guards p l [] tabled fair = All-nil (IsGuard l)
all_guards p l (e ∷ es) tabled fair = All-cons (IsGuard l) (end_guard e) (map end_guard es) (guard_made l e (peer_made p l e tabled fair.0)) (all_guards p l es tabled fair.1)

-- a list with an end
abbrev HasEnd : List CoreEnd → Type 0
HasEnd [] = ⊥
HasEnd (e ∷ es) = Unit {0}

some_end : (ends : List CoreEnd) (n : ℤ) (role : ℕ) (x : ℤ) → at_some ends n (pos 0) role x ≡ true → HasEnd ends
some_end [] n role x h = absurd (false≢true h)
some_end (e ∷ es) n role x h = tt

long_enough : (n : ℕ) → 1 ≤ suc n
long_enough n = omega arith

some_length : (ends : List CoreEnd) → HasEnd ends → 1 ≤ length (map end_guard ends)
some_length [] h = absurd h
some_length (e ∷ es) h = long_enough (length (map end_guard es))

some_guards : (l : Program) (p : Protocol) (ends : List CoreEnd) (gs : List Guard) → gs ≡ map end_guard ends → IsTabledAs p l → AreFairEnds (rows_of p) ends → HasEnd ends → AreGuards l gs
some_guards l p ends gs is tabled fair some = subst (AreGuards l) (sym is) (record { some = some_length ends some; each = all_guards p l ends tabled fair })

module _ (range : NRange) (roles : ℕ) (whole : List Area) (over : Bounds) (fixed : List Area) (b : BlockTree) where
  still_brought : (rows : Rows) (ids : List ℕ) → is_block rows true ids b ≡ true → AreStill b fixed → IsBrought (λ n role x. have fixed n role x)
  still_brought rows ids sound still n role x le =
      let fair = fair_items rows ids b sound in
      still.is rows n role x fair (omega (arith, ints)) ∙ fixed_brought rows b fair n role x le ∙ sym (still.is rows late role (brought n x) fair (omega (arith, ints)))

  pub loop_rounds : (body list : List Stmt) (s : Stmt) → AreItemsOf range roles whole over fixed b (plain_all body) → plain s ≡ L.for_each over.low over.high (plain_all body) → list ≡ s ∷ [] → IsRounds range roles whole over fixed b list
  loop_rounds body list s items made is = record {
    body = plain_all body;
    is = ap plain_all is ∙ ap (λ c. L.more c L.nothing) made;
    items = λ sc h rows ids stands come bounds sound still.
        let here : IsEach over fixed sc (in_for h over b) = record {
          bounds = bounds;
          at = λ n i. refl;
          comes = λ n i role x within rank comes.
              still.is rows n role x (fair_items rows ids b sound) (from_zero range n (inside_range range roles whole sc stands n within))
              ∙ (and_parts (fixed_in b n role x) (h.comes n i role x) comes).0;
          come = λ n i role x within rank at is.
              let at_end : fixed_in b n role x ≡ true = sym (still.is rows n role x (fair_items rows ids b sound) (from_zero range n (inside_range range roles whole sc stands n within))) ∙ is in
              and_from _ _ at_end (come.come n i role x within rank (fixed_meets (value over.low n (pos 0)) (value over.high n (pos 0)) n role x (le_over (value over.low n (pos 0)) i (value over.high n (pos 0)) at) b at_end));
          steady = still_brought rows ids sound still;
        } in
        items.are sc (in_for h over b) rows ids stands here sound;
    weighed = subst (λ l. IsWeighed (1 + each_room 4 b) 2 (map plain l)) (sym is)
        (subst (λ c. IsWeighed (1 + each_room 4 b) 2 (c ∷ [])) (sym made) (record {
          few = loop_few (size_all (plain_all body)) (each_room 4 b) items.weighed.few;
          shallow = loop_shallow (braces_all (plain_all body)) items.weighed.shallow;
          none = loop_none (loops_in (plain_all body)) items.weighed.none;
        }));
    made = λ p l ids tabled bounds sound goes.
        subst (λ z. AreFlat l (map plain z)) (sym is)
        (subst (λ c. AreFlat l (c ∷ [])) (sym made)
        (λ at. (small_is over.low.off (bound_parts over.low bounds.0).1, small_is over.high.off (bound_parts over.high bounds.1).1, items.made p l ids tabled sound goes at), tt));
  }

  nobody_runs : Runs range whole over fixed b false → (sc : Scope) (h : Here) (rows : Rows) (ids : List ℕ) → Stands range roles whole sc → AreBounds over → is_block rows true ids b ≡ true → AreStill b fixed →
      Nobody sc (in_for h over b) everyone
  nobody_runs none sc h rows ids stands bounds sound still = λ n i role x within rank at comes.
      let w = inside_range range roles whole sc stands n within in
      absurd (none rows ids sc.roles n role x bounds sound still w rank (rank_is range roles whole sc stands n role x w ∙ rank)
      (and_parts (fixed_in b n role x) (h.comes n i role x) comes).0 (le_over (value over.low n (pos 0)) i (value over.high n (pos 0)) at))

  -- ---- both parts

  apart : (sc : Scope) (h : Here) (rows : Rows) (ids : List ℕ) → Stands range roles whole sc → IsOpen h → Come sc h (meeting over b) → is_block rows true ids b ≡ true → AreStill b fixed → IsApart over b fixed sc (but_fixed h b)
  apart sc h rows ids stands open_here come sound still = record {
    at = λ n i. open_here.at n i;
    come = λ n i role x within rank met free.
        and_from _ _ (ap not (sym (still.is rows n role x (fair_items rows ids b sound) (from_zero range n (inside_range range roles whole sc stands n within))) ∙ free)) (come.come n i role x within rank met);
    comes = λ n i role x within rank comes.
        still.is rows n role x (fair_items rows ids b sound) (from_zero range n (inside_range range roles whole sc stands n within))
        ∙ not-true (fixed_in b n role x) (and_parts (not (fixed_in b n role x)) (h.comes n i role x) comes).0;
    steady = still_brought rows ids sound still;
  }

  -- the first N at which one of them does is early
  few_run : (sc : Scope) (rows : Rows) (ids : List ℕ) → Stands range roles whole sc → AreBounds over → is_block rows true ids b ≡ true → AreStill b fixed → (r : Runner range whole over fixed b) →
      int_le (value over.low r.n (pos 0)) (value over.high r.n (pos 0)) ≡ true → total sc.roles r.n ≤ 2000000000
  few_run sc rows ids stands bounds sound still r some = go (int_le late r.n) refl
    where
      go : (t : Bool) → int_le late r.n ≡ t → total sc.roles r.n ≤ 2000000000
      go false e = stands.few r.n r.within (not_late r.n e)
      go true e =
          let le = is_late r.n e in
          let y = brought r.n r.index in
          let in_late = late_in range roles whole sc stands r.n r.within le in
          let rank : is_rank sc.roles late r.role y ≡ true = sym (stands.steady r.n r.role r.index le) ∙ sym (rank_is range roles whole sc stands r.n r.role r.index r.within) ∙ r.rank in
          stands.few r.n r.within (r.least rows ids sc.roles bounds sound still late r.role y in_late rank (rank_is range roles whole sc stands late r.role y in_late ∙ rank)
          (sym (still_brought rows ids sound still r.n r.role r.index le) ∙ r.there) (sym (bounds_brought over bounds.0 bounds.1 r.n le) ∙ some))

  somebody_runs : (sc : Scope) (h : Here) (rows : Rows) (ids : List ℕ) → Stands range roles whole sc → Come sc h (meeting over b) → AreBounds over → is_block rows true ids b ≡ true → AreStill b fixed → Runner range whole over fixed b →
      Somebody sc (in_for h over b) everyone
  somebody_runs sc h rows ids stands come bounds sound still runner =
      let r = runner in
      let low = value over.low r.n (pos 0) in
      let high = value over.high r.n (pos 0) in
      let within = outside_range range roles whole sc stands r.n r.within in
      let rank = sym (rank_is range roles whole sc stands r.n r.role r.index r.within) ∙ r.rank in
      let some = runner.valued rows ids sc.roles bounds sound rank in
      let at_end : fixed_in b r.n r.role r.index ≡ true = sym (still.is rows r.n r.role r.index (fair_items rows ids b sound) (from_zero range r.n r.within)) ∙ r.there in
      record {
        n = r.n;
        i = low;
        role = r.role;
        index = r.index;
        within = within;
        few = few_run sc rows ids stands bounds sound still runner some;
        rank = rank;
        at = le_itself low high some;
        comes = and_from _ _ at_end (come.come r.n low r.role r.index within rank (fixed_meets low high r.n r.role r.index some b at_end));
        is = refl;
      }

  pub both_there : (ends : List CoreEnd) (gs : List Guard) (first other none old new : List Stmt) (s : Stmt) → gs ≡ map end_guard ends → IsRounds range roles whole over fixed b first →
      none ≡ [] → Added none other (AreSegments range roles whole over fixed b) → plain s ≡ L.when gs (plain_all first) (plain_all other) → new ≡ old ++ s ∷ [] → Added old new (IsBoth range roles whole over ends fixed b)
  both_there ends gs first other none old new s gs_is rounds empty segments made pushed =
      let piece_is : map plain other ≡ segments.piece = segments.is ∙ ap (λ l. map plain l ++ segments.piece) empty in
      added_one (IsBoth range roles whole over ends fixed b) old new s (L.when gs (plain_all first) (plain_all other)) pushed made (record {
        is = λ sc h rows ids stands open_here come bounds sound fixed_ends still r tail.
            subst (λ c. ForEach sc h over b tail (L.more (L.when gs c (plain_all other)) tail)) (sym rounds.is)
            (ForEach.both (λ n i role x within rank at. ap (λ g. hold g n i role x) gs_is ∙ guards_hold ends n i role x ∙ fixed_ends.is n i role x)
            (somebody_runs sc h rows ids stands come bounds sound still r) (rounds.items sc h rows ids stands come bounds sound still)
            (subst (Segments sc (but_fixed h b) over b L.nothing 0 sc.roles) (onto_nothing segments.piece ∙ ap codes_of (sym (segments.is ∙ ap (λ l. map plain l ++ segments.piece) empty)))
            (segments.has.are sc (but_fixed h b) rows ids stands (apart sc h rows ids stands open_here come sound still) bounds sound L.nothing)));
        weighed = both_weighed gs first other (each_room 4 b) (each_room 6 b) rounds.weighed (subst (IsWeighed (each_room 6 b) 1) (sym piece_is) segments.has.weighed);
        made = λ p l ids tabled same bounds sound goes fixed_ends still runner.
            let r = runner in
            both_flat l gs first other (some_guards l p ends gs gs_is tabled (fixed_ends.sound (rows_of p) (fair_items (rows_of p) ids b sound))
            (some_end ends r.n r.role r.index (fixed_ends.is r.n (pos 0) r.role r.index ∙ sym (still.is (rows_of p) r.n r.role r.index (fair_items (rows_of p) ids b sound) (from_zero range r.n r.within)) ∙ r.there)))
            (rounds.weighed).none (rounds.made p l ids tabled bounds sound goes) (subst (IsWeighed (each_room 6 b) 1) (sym piece_is) segments.has.weighed).none
            (subst (AreFlat l) (sym piece_is) (segments.has.made p l ids tabled same bounds sound goes));
      })

  -- ---- a foreach

  pub foreach_both : (ends : List CoreEnd) (t : Bool) (old new : List Stmt) → AreFixed b ends → AreStill b fixed → Runs range whole over fixed b t → t ≡ true → Added old new (IsBoth range roles whole over ends fixed b) →
      Added old new (IsForEach range roles whole over b)
  foreach_both ends t old new fixed_ends still runs so a =
      added_as (IsBoth range roles whole over ends fixed b) (IsForEach range roles whole over b) old new
      (λ p z. record {
        is = λ sc h rows ids stands open_here come bounds sound tail. z.is sc h rows ids stands open_here come bounds sound fixed_ends still (subst (Runs range whole over fixed b) so runs) tail;
        weighed = weighed_less (2 + (each_room 4 b + each_room 6 b)) (2 + room_each b) 3 3 p (both_room (each_room 4 b) (each_room 6 b) (room_each b) (room_is b)) three_three z.weighed;
        made = λ pr l ids tabled same bounds sound goes. z.made pr l ids tabled same bounds sound goes fixed_ends still (subst (Runs range whole over fixed b) so runs);
      }) a

  pub foreach_segments : (t : Bool) (less : List Area) (old new : List Stmt) → less ≡ [] → AreStill b fixed → Runs range whole over fixed b t → t ≡ false → Added old new (AreSegments range roles whole over less b) →
      Added old new (IsForEach range roles whole over b)
  foreach_segments t less old new empty still runs so a =
      added_as (AreSegments range roles whole over less b) (IsForEach range roles whole over b) old new
      (λ p z. record {
        is = λ sc h rows ids stands open_here come bounds sound tail.
            ForEach.segments (nobody_runs (subst (Runs range whole over fixed b) so runs) sc h rows ids stands bounds sound still)
            (z.are sc h rows ids stands (record {
              at = open_here.at;
              come = λ n i role x within rank met free. come.come n i role x within rank met;
              comes = λ n i role x within rank comes. ap (λ l. have l n role x) empty;
              steady = λ n role x le. ap (λ l. have l n role x) empty ∙ sym (ap (λ l. have l late role (brought n x)) empty);
            }) bounds sound tail);
        weighed = weighed_less (each_room 6 b) (2 + room_each b) 1 3 p (six_room (each_room 4 b) (each_room 6 b) (room_each b) (room_is b)) one_three z.weighed;
        made = z.made;
      }) a
