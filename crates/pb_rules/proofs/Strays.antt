-- The traps of an end are its breaches of rule 7, and among them is one that no breach of its comes before.
use Rattle.std.proofs.Common.{◌≡◌, ℕ, ℤ, pos, ◌+ℤ◌, ◌≤ℤ◌, ◌<ℤ◌, false, ◌⊎◌, inl, inr, Option, Some, None, IsSome, List, refl, subst, arith}
use Rattle.std.specs.List.{slice_get}
use Rattle.std.proofs.lemmas.Bool.{false≢true}
use Rattle.std.proofs.lemmas.Int.{ints}
use Rattle.pb_affine.specs.declared.range.NRange.{NRange}
use Rattle.pb_core_language.specs.declared.protocol.CoreRole.{CoreRole}
use Rattle.pb_core_language.specs.declared.tree.CoreEnd.{CoreEnd}
use Rattle.pb_core_language.specs.Ranks.{seats}
use Rattle.pb_core_language.specs.Rules.{is_seat, somebody}
use Rattle.pb_core_language.specs.Verdict.{Broken, IsIn}
use Rattle.pb_rules.specs.declared.found.Found.{Found}
use Rattle.pb_rules.specs.declared.line.Line.{Line}
use Rattle.pb_rules.specs.declared.span.Span.{Span}
use Rattle.pb_core_language.specs.declared.tree.Bounds.{Bounds}
use Rattle.pb_rules.specs.declared.ends.Reach.{Reach}
use Rattle.pb_rules.specs.Lines.{line_of, raised, part_of_n, value_at, IsInSpan, at_most, below}
use Rattle.pb_rules.specs.Traps.{reach, alive, stray_trap, stray_traps, end_traps_in, end_traps}
use Rattle.pb_rules.proofs.Order.{not_before_seat}
use Rattle.pb_rules.proofs.Best.{AllHold, AnyCovers, IsCovering, AllNamed}
use Rattle.pb_rules.proofs.Seats.{IsInRole, outside, outside_seat}
use Rattle.pb_rules.proofs.Reaches.{at_most_gives, gives_at_most, below_gives, gives_below, value_line, IsLive, alive_gives, gives_alive, value_live, IsWithin, within, IsAsked, asked_for, first_within}

-- the end asks for the seat y, which isn't there
pub record IsStray (roles : List CoreRole) (over : Option Bounds) (e : CoreEnd) (n y : ℤ) : Type 0 where
  pub asked : IsAsked over e.at n y
  pub out : is_seat (record { role = e.role; index = y }) (seats roles n) ≡ false

-- a breach of rule 7 at the end with this number
abbrev pub stray_found : ℕ → CoreEnd → ℤ → ℤ → Found
stray_found number e n y = record { rule = 7; number = number; place = e.place; n = n; at = Some (record { role = e.role; index = y }) }

abbrev pub broken_7_at : ℕ → CoreEnd → ℤ → ℤ → Broken
broken_7_at number e n y = record { n = n; breach = somebody 7 (record { mark = record { number = number; place = e.place }; seat = record { role = e.role; index = y } }) }

-- ---- orders of numbers

lt_le : (a b : ℤ) → a <ℤ b → a ≤ℤ b
lt_le a b h = omega (arith, ints)

le_lt : (a b c : ℤ) → a ≤ℤ b → b <ℤ c → a <ℤ c
le_lt a b c h k = omega (arith, ints)

le_le : (a b c : ℤ) → a ≤ℤ b → b ≤ℤ c → a ≤ℤ c
le_le a b c h k = omega (arith, ints)

le_self : (a : ℤ) → a ≤ℤ a
le_self a = omega (arith, ints)

lt_not : (a b : ℤ) → a <ℤ b → b ≤ℤ a → ⊥
lt_not a b h k = omega (arith, ints)

next_le : (off p x : ℤ) → (off +ℤ p) <ℤ x → (off +ℤ pos 1 +ℤ p) ≤ℤ x
next_le off p x h = omega (arith, ints)

le_next : (off p x : ℤ) → x ≤ℤ (off +ℤ p) → x ≤ℤ (off +ℤ pos 1 +ℤ p)
le_next off p x h = omega (arith, ints)

next_lt : (off p : ℤ) → (off +ℤ p) <ℤ (off +ℤ pos 1 +ℤ p)
next_lt off p = omega (arith, ints)

sides : (high first : ℤ) → (high <ℤ first) ⊎ (first ≤ℤ high)
sides high first = grind (arith, ints)

module _ (range : NRange) (roles : List CoreRole) (over : Option Bounds) (number : ℕ) (e : CoreEnd) where
  abbrev R : Reach
  R = reach over e.at

  abbrev live : Span
  live = alive range over

  -- ---- the traps of an end of a role

  covering : (index : Line) (span : Span) (n y : ℤ) → IsInSpan span n → value_at index n ≤ℤ y → IsCovering (stray_trap number e index span) (broken_7_at number e n y)
  covering index span n y h le = record { span = h; rule = refl; number = refl; seat = not_before_seat e.role e.role y (value_at index n) refl le }

  module _ (r : CoreRole) (got : slice_get roles e.role ≡ Some r) where
    abbrev low : Line
    low = line_of r.low

    abbrev high : Line
    high = line_of r.high

    covers_below : (n y : ℤ) → IsInSpan live n → IsWithin R n y → y <ℤ value_at low n → AnyCovers (stray_traps live number e low high R) (broken_7_at number e n y)
    covers_below n y h w lt = inl (covering R.first (below live R.first low) n y (gives_below live R.first low n h (le_lt (value_at R.first n) y (value_at low n) w.first lt)) w.first)

    covers_beyond : (n y : ℤ) → IsInSpan live n → IsWithin R n y → value_at high n <ℤ y → AnyCovers (stray_traps live number e low high R) (broken_7_at number e n y)
    covers_beyond n y h w lt =
        elim (sides (value_at high n) (value_at R.first n)) [
          | inl past ↦ inr (inl (covering R.first (below live high R.first) n y (gives_below live high R.first n h past) w.first))
          | inr across ↦ inr (inr (inl (covering (raised high (pos 1)) (at_most (at_most live R.first (raised high (pos 1))) (raised high (pos 1)) R.last) n y
              (gives_at_most (at_most live R.first (raised high (pos 1))) (raised high (pos 1)) R.last n
              (gives_at_most live R.first (raised high (pos 1)) n h (le_next high.off (part_of_n high.moves n) (value_at R.first n) across))
              (le_le (value_at (raised high (pos 1)) n) y (value_at R.last n) (next_le high.off (part_of_n high.moves n) y lt) w.last))
              (next_le high.off (part_of_n high.moves n) y lt))))
        ]

    covers_in : (n y : ℤ) → IsIn range n → IsStray roles over e n y → AnyCovers (stray_traps live number e low high R) (broken_7_at number e n y)
    covers_in n y inside s =
        let h = gives_alive range over n inside (value_live over n s.asked.x s.asked.value_is) in
        let w : IsWithin R n y = subst (λ z. IsWithin R n z) s.asked.index (within over e.at n s.asked.x s.asked.value_is) in
        elim (outside roles r n (record { role = e.role; index = y }) got s.out) [
          | inl lt ↦ covers_below n y h w (subst (λ z. y <ℤ z) (value_line r.low n) lt)
          | inr lt ↦ covers_beyond n y h w (subst (λ z. z <ℤ y) (value_line r.high n) lt)
        ]

    -- ---- and back

    not_in_role : (n y : ℤ) → (y <ℤ value_at low n) ⊎ (value_at high n <ℤ y) → IsInRole r n y → ⊥
    not_in_role n y (inl lt) h = lt_not y (value_at low n) lt (subst (λ z. z ≤ℤ y) (value_line r.low n) h.low)
    not_in_role n y (inr lt) h = lt_not (value_at high n) y lt (subst (λ z. y ≤ℤ z) (value_line r.high n) h.high)

    stray : (n y : ℤ) → IsLive over n → IsWithin R n y → (y <ℤ value_at low n) ⊎ (value_at high n <ℤ y) → IsStray roles over e n y
    stray n y h w out = record { asked = asked_for over e.at n y h w; out = outside_seat roles r n (record { role = e.role; index = y }) got (not_in_role n y out) }

    -- each end at n with a seat that isn't there has Q
    module _ (Q : Found → Type 0) (each : (n y : ℤ) → IsIn range n → IsStray roles over e n y → Q (stray_found number e n y)) where
      under : (n : ℤ) → IsInSpan (below live R.first low) n → Q (stray_found number e n (value_at R.first n))
      under n h =
          let t = below_gives live R.first low n h in
          let a = alive_gives range over n t.0 in
          each n (value_at R.first n) a.0 (stray n (value_at R.first n) a.1 (first_within over e.at n a.1) (inl t.1))

      above : (n : ℤ) → IsInSpan (below live high R.first) n → Q (stray_found number e n (value_at R.first n))
      above n h =
          let t = below_gives live high R.first n h in
          let a = alive_gives range over n t.0 in
          each n (value_at R.first n) a.0 (stray n (value_at R.first n) a.1 (first_within over e.at n a.1) (inr t.1))

      across : (n : ℤ) → IsInSpan (at_most (at_most live R.first (raised high (pos 1))) (raised high (pos 1)) R.last) n → Q (stray_found number e n (value_at (raised high (pos 1)) n))
      across n h =
          let u = at_most_gives (at_most live R.first (raised high (pos 1))) (raised high (pos 1)) R.last n h in
          let t = at_most_gives live R.first (raised high (pos 1)) n u.0 in
          let a = alive_gives range over n t.0 in
          each n (value_at (raised high (pos 1)) n) a.0
          (stray n (value_at (raised high (pos 1)) n) a.1 (record { first = t.1; last = u.1 }) (inr (next_lt high.off (part_of_n high.moves n))))

      hold_in : AllHold Q (stray_traps live number e low high R)
      hold_in = (under, (above, (across, tt)))

  -- ---- at the role's place in the list

  covers_at : (o : Option CoreRole) → slice_get roles e.role ≡ o → IsSome o → (n y : ℤ) → IsIn range n → IsStray roles over e n y → AnyCovers (end_traps_in live number e o R) (broken_7_at number e n y)
  covers_at None got there n y inside s = absurd (false≢true there)
  covers_at (Some r) got there n y inside s = covers_in r got n y inside s

  pub stray_covers : IsSome (slice_get roles e.role) → (n y : ℤ) → IsIn range n → IsStray roles over e n y → AnyCovers (end_traps range roles over number e) (broken_7_at number e n y)
  stray_covers there n y inside s = covers_at (slice_get roles e.role) refl there n y inside s

  hold_at : (Q : Found → Type 0) → ((n y : ℤ) → IsIn range n → IsStray roles over e n y → Q (stray_found number e n y)) → (o : Option CoreRole) → slice_get roles e.role ≡ o → AllHold Q (end_traps_in live number e o R)
  hold_at Q each None got = tt
  hold_at Q each (Some r) got = hold_in r got Q each

  pub stray_holds : (Q : Found → Type 0) → ((n y : ℤ) → IsIn range n → IsStray roles over e n y → Q (stray_found number e n y)) → AllHold Q (end_traps range roles over number e)
  stray_holds Q each = hold_at Q each (slice_get roles e.role) refl

  seven_named : ◌≡◌ {A = ℕ} 7 6 → ⊥
  seven_named e = absurd (omega arith)

  named_in : (o : Option CoreRole) → AllNamed (end_traps_in live number e o R)
  named_in None = tt
  named_in (Some r) = ((λ n. seven_named), ((λ n. seven_named), ((λ n. seven_named), tt)))

  pub stray_named : AllNamed (end_traps range roles over number e)
  stray_named = named_in (slice_get roles e.role)
