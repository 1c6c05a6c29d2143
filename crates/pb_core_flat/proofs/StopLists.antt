-- The lists of those who stop at a foreach give what is found value by value.
use Rattle.std.proofs.Common.{◌≡◌, ℕ, zero, suc, ℤ, pos, ◌+ℤ◌, ◌-ℤ◌, int_le, nat_eq, nat_lt, cond, Bool, true, false, not, ◌||◌, ◌&&◌, if◌then◌else◌, Option, Some, None, List, [], ◌∷◌, ◌++◌, map, refl, ap, ap₂, sym, ◌∙◌, arith}
use Rattle.std.specs.Ordering.{int_eq}
use Rattle.std.proofs.lemmas.Bool.{or_parts, or_from, false≢true, cond-false}
use Rattle.std.proofs.lemmas.Bool.Decides.{nat_tests}
use Rattle.pb_affine.specs.declared.lin.Base.{Base}
use Rattle.pb_affine.specs.declared.lin.Base.TheVariants.{Fixed, Param, Var}
use Rattle.pb_affine.specs.Values.{base_value, range, count_of, count_from}
use Rattle.pb_core_language.specs.declared.protocol.CoreRole.{CoreRole}
use Rattle.pb_core_language.specs.declared.tree.CoreEnd.{CoreEnd}
use Rattle.pb_core_language.specs.Outcomes.{Outcome}
use Rattle.pb_core_flat.specs.Seated.{is_at}
use Rattle.pb_core_flat.specs.Meets.{is_var, is_moving}
use Rattle.pb_core_flat.specs.Stops.{Visit, off_of, moving, IsByFalling, Stop, first_of, outcome_at, at_value, has_fixed, at_first, at_fixed, at_some, stops, few_stops}
use Rattle.pb_core_flat.proofs.Ranges.{count_some, count_ends}
use Rattle.pb_core_flat.proofs.StopOrder.{or_first, first_append, in_turn, in_turn_same, at_count, moved, counted, counted_in_turn}

-- two lists with the same stops for a rank, one by one
same_stops : (f g : Visit → Stop) (role : ℕ) (x : ℤ) → ((v : Visit) → (f v).has role x ≡ (g v).has role x) → ((v : Visit) → (f v).finds x ≡ (g v).finds x) → (vs : List Visit) → first_of (map f vs) role x ≡ first_of (map g vs) role x
same_stops f g role x h k [] = refl
same_stops f g role x h k (v ∷ vs) =
    ap₂ (λ t o. if t then Some o else first_of (map f vs) role x) (h v) (k v) ∙ ap (λ z. if (g v).has role x then Some ((g v).finds x) else z) (same_stops f g role x h k vs)

no_stops : (f : Visit → Stop) (role : ℕ) (x : ℤ) → ((v : Visit) → (f v).has role x ≡ false) → (vs : List Visit) → first_of (map f vs) role x ≡ None
no_stops f role x h [] = refl
no_stops f role x h (v ∷ vs) = cond-false ((f v).has role x) (Some ((f v).finds x)) (first_of (map f vs) role x) (h v) ∙ no_stops f role x h vs

-- an end that stays has the index at each value, or at none; one that moves is at its offset
stays_at : (base : Base) (off n i x : ℤ) → is_var base ≡ false → int_eq (off +ℤ base_value base n i) x ≡ int_eq (off +ℤ base_value base n (pos 0)) x
stays_at Fixed off n i x h = refl
stays_at Param off n i x h = refl
stays_at Var off n i x h = absurd (false≢true (sym h))

moves_at : (base : Base) (off n i x : ℤ) → is_var base ≡ true → int_eq (off +ℤ base_value base n i) x ≡ int_eq (off +ℤ i) x
moves_at Fixed off n i x h = absurd (false≢true h)
moves_at Param off n i x h = absurd (false≢true h)
moves_at Var off n i x h = refl

fixed_at : (e : CoreEnd) (n i : ℤ) (role : ℕ) (x : ℤ) → is_moving e ≡ false → is_at e n i role x ≡ is_at e n (pos 0) role x
fixed_at e n i role x h = ap (λ t. nat_eq e.role role && t) (stays_at e.at.base e.at.off n i x h)

moving_at : (e : CoreEnd) (n i : ℤ) (role : ℕ) (x : ℤ) → is_moving e ≡ true → is_at e n i role x ≡ nat_eq e.role role && int_eq (e.at.off +ℤ i) x
moving_at e n i role x h = ap (λ t. nat_eq e.role role && t) (moves_at e.at.base e.at.off n i x h)

module _ (roles : List CoreRole) (n : ℤ) (role : ℕ) (x : ℤ) where
  -- what the rank finds with i for the variable
  abbrev pub at_i : ℤ → List Visit → Option Outcome
  at_i i vs = first_of (map (at_value roles n i) vs) role x

  or_first_if : (t : Bool) (o : Outcome) (p q : Option Outcome) → (if t then Some o else or_first p q) ≡ or_first (if t then Some o else p) q
  or_first_if true o p q = refl
  or_first_if false o p q = refl

  pub map_append : (i : ℤ) (vs ws : List Visit) → at_i i (vs ++ ws) ≡ or_first (at_i i vs) (at_i i ws)
  map_append i [] ws = refl
  map_append i (v ∷ vs) ws =
      ap (λ z. if is_at v.end n i role x then Some (outcome_at roles n i v.finding) else z) (map_append i vs ws)
      ∙ or_first_if (is_at v.end n i role x) (outcome_at roles n i v.finding) (at_i i vs) (at_i i ws)

  -- where no end that stays has the rank, the ends that move alone count
  move_step : (v : Visit) (vs : List Visit) (i : ℤ) (t : Bool) → is_moving v.end ≡ t → not t && is_at v.end n (pos 0) role x ≡ false → at_i i vs ≡ moved roles n role x i (moving vs) →
      at_i i (v ∷ vs) ≡ moved roles n role x i (cond t (v ∷ moving vs) (moving vs))
  move_step v vs i true e h k =
      ap₂ (λ t z. if t then Some (outcome_at roles n i v.finding) else z) (moving_at v.end n i role x e) k
  move_step v vs i false e h k =
      cond-false (is_at v.end n i role x) (Some (outcome_at roles n i v.finding)) (at_i i vs) (fixed_at v.end n i role x e ∙ h) ∙ k

  moving_alone : (vs : List Visit) → has_fixed roles n vs role x ≡ false → (i : ℤ) → at_i i vs ≡ moved roles n role x i (moving vs)
  moving_alone [] h i = refl
  moving_alone (v ∷ vs) h i =
      let hs = or_parts (not (is_moving v.end) && is_at v.end n (pos 0) role x) (has_fixed roles n vs role x) h in
      move_step v vs i (is_moving v.end) refl hs.0 (moving_alone vs hs.1 i)

  -- where nobody stops no end that stays has the rank
  none_parts : (t : Bool) (o : Outcome) (p : Option Outcome) → (if t then Some o else p) ≡ None → (t ≡ false) × (p ≡ None)
  none_parts true o p h = cc
  none_parts false o p h = (refl, h)

  not_fixed : (v : Visit) (i : ℤ) (t : Bool) → is_moving v.end ≡ t → is_at v.end n i role x ≡ false → not t && is_at v.end n (pos 0) role x ≡ false
  not_fixed v i true e h = refl
  not_fixed v i false e h = sym (fixed_at v.end n i role x e) ∙ h

  none_fixed : (vs : List Visit) (i : ℤ) → at_i i vs ≡ None → has_fixed roles n vs role x ≡ false
  none_fixed [] i h = refl
  none_fixed (v ∷ vs) i h =
      let hs = none_parts (is_at v.end n i role x) (outcome_at roles n i v.finding) (at_i i vs) h in
      or_from (not (is_moving v.end) && is_at v.end n (pos 0) role x) (has_fixed roles n vs role x) (not_fixed v i (is_moving v.end) refl hs.0) (none_fixed vs i hs.1)

  -- the ends at the first of k values, and then the ends that move
  abbrev front : Bool → ℤ → Visit → Stop
  front t low v = record { has = λ role x. t && is_at v.end n low role x; finds = λ x. outcome_at roles n low v.finding }

  module _ (vs sorted : List Visit) (by : IsByFalling sorted (moving vs)) where
    abbrev each_value : List ℤ → Option Outcome
    each_value ys = in_turn (λ y. at_i y vs) ys

    moves_alone : has_fixed roles n vs role x ≡ false → (k : ℕ) (low : ℤ) → each_value (count_from k low) ≡ counted roles n role x k low sorted
    moves_alone h k low =
        in_turn_same (λ y. at_i y vs) (λ y. moved roles n role x y (moving vs)) (moving_alone vs h) (count_from k low) ∙ sym (counted_in_turn roles n role x sorted (moving vs) by k low)

    after_first : (k : ℕ) (low : ℤ) (p : Option Outcome) → at_i low vs ≡ p → or_first p (each_value (count_from k (low +ℤ pos 1))) ≡ or_first p (counted roles n role x (suc k) low sorted)
    after_first k low (Some o) e = refl
    after_first k low None e =
        ap (λ z. or_first z (each_value (count_from k (low +ℤ pos 1)))) (sym e) ∙ moves_alone (none_fixed vs low e) (suc k) low

    count_nat : (k : ℕ) (low : ℤ) → each_value (count_from k low) ≡ or_first (first_of (map (front (nat_lt 0 k) low) vs) role x) (counted roles n role x k low sorted)
    count_nat zero low =
        sym (ap₂ or_first (no_stops (front (nat_lt 0 0) low) role x (λ v. refl) vs) (counted_in_turn roles n role x sorted (moving vs) by zero low))
    count_nat (suc k) low =
        after_first k low (at_i low vs) refl
        ∙ ap (λ z. or_first z (counted roles n role x (suc k) low sorted))
        (same_stops (at_value roles n low) (front (nat_lt 0 (suc k)) low) role x (λ v. ap (λ t. t && is_at v.end n low role x) (sym (more_than_none k))) (λ v. refl) vs) where
          more_than_none : (k : ℕ) → nat_lt 0 (suc k) ≡ true
          more_than_none k = grind (arith, nat_tests)

    -- by the two ends of the range
    counted_ends : (low high : ℤ) → counted roles n role x (count_of (high +ℤ pos 1 -ℤ low)) low sorted ≡ first_of (map (at_some roles n low high) sorted) role x
    counted_ends low high =
        same_stops (at_count roles n role x (count_of (high +ℤ pos 1 -ℤ low)) low) (at_some roles n low high) role x
        (λ v. ap (λ z. nat_eq v.end.role role && z) (count_ends low high (off_of v) x)) (λ v. refl) sorted

    pub stops_are : (low high : ℤ) → each_value (range low high) ≡ first_of (stops roles n low high vs sorted) role x
    stops_are low high =
        count_nat (count_of (high +ℤ pos 1 -ℤ low)) low
        ∙ ap₂ or_first (ap (λ t. first_of (map (front t low) vs) role x) (count_some low high)) (counted_ends low high)
        ∙ sym (first_append (map (at_first roles n low high) vs) (map (at_some roles n low high) sorted) role x)

    and_any : (b t m : Bool) → b && (t && (m || true)) ≡ b && t
    and_any b t m = grind (arith, nat_tests)

    with_fixed : (low high : ℤ) → has_fixed roles n vs role x ≡ true → first_of (map (at_fixed roles n low high vs) vs) role x ≡ first_of (map (at_first roles n low high) vs) role x
    with_fixed low high h =
        same_stops (at_fixed roles n low high vs) (at_first roles n low high) role x
        (λ v. ap (λ z. int_le low high && (is_at v.end n low role x && (not (is_moving v.end) || z))) h ∙ and_any (int_le low high) (is_at v.end n low role x) (not (is_moving v.end))) (λ v. refl) vs

    not_few : (low high : ℤ) (v : Visit) (t : Bool) → is_moving v.end ≡ t → not t && is_at v.end n (pos 0) role x ≡ false → int_le low high && (is_at v.end n low role x && (not t || false)) ≡ false
    not_few low high v true e h = and_none (int_le low high) (is_at v.end n low role x) where
      and_none : (b t : Bool) → b && (t && (false || false)) ≡ false
      and_none b t = grind (arith, nat_tests)
    not_few low high v false e h = none_and (int_le low high) (is_at v.end n low role x) (fixed_at v.end n low role x e ∙ h) where
      none_and : (b t : Bool) → t ≡ false → b && (t && (true || false)) ≡ false
      none_and b t h = grind (arith, nat_tests)

    without_fixed : (low high : ℤ) → has_fixed roles n vs role x ≡ false → (ws : List Visit) → has_fixed roles n ws role x ≡ false → first_of (map (at_fixed roles n low high vs) ws) role x ≡ None
    without_fixed low high h [] k = refl
    without_fixed low high h (w ∷ ws) k =
        let ks = or_parts (not (is_moving w.end) && is_at w.end n (pos 0) role x) (has_fixed roles n ws role x) k in
        cond-false (int_le low high && (is_at w.end n low role x && (not (is_moving w.end) || has_fixed roles n vs role x))) (Some (outcome_at roles n low w.finding)) (first_of (map (at_fixed roles n low high vs) ws) role x)
        (ap (λ z. int_le low high && (is_at w.end n low role x && (not (is_moving w.end) || z))) h ∙ not_few low high w (is_moving w.end) refl ks.0)
        ∙ without_fixed low high h ws ks.1

    few_by : (low high : ℤ) (t : Bool) → has_fixed roles n vs role x ≡ t → each_value (range low high) ≡ or_first (first_of (map (at_fixed roles n low high vs) vs) role x) (first_of (map (at_some roles n low high) sorted) role x)
    few_by low high true e =
        stops_are low high ∙ first_append (map (at_first roles n low high) vs) (map (at_some roles n low high) sorted) role x
        ∙ ap (λ z. or_first z (first_of (map (at_some roles n low high) sorted) role x)) (sym (with_fixed low high e))
    few_by low high false e =
        moves_alone e (count_of (high +ℤ pos 1 -ℤ low)) low ∙ counted_ends low high
        ∙ ap (λ z. or_first z (first_of (map (at_some roles n low high) sorted) role x)) (sym (without_fixed low high e vs e))

    pub few_are : (low high : ℤ) → each_value (range low high) ≡ first_of (few_stops roles n low high vs sorted) role x
    few_are low high = few_by low high (has_fixed roles n vs role x) refl ∙ sym (first_append (map (at_fixed roles n low high vs) vs) (map (at_some roles n low high) sorted) role x)
