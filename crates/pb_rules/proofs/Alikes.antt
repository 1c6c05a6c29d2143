-- The traps of a message are its breaches of rule 8, and among them is one that no breach of its comes before.
use Rattle.std.proofs.Common.{◌≡◌, ℕ, ℤ, ◌+ℤ◌, ◌≤ℤ◌, true, false, ◌&&◌, if◌then◌else◌, nat_eq, ◌⊎◌, inl, inr, Option, Some, List, [], refl, sym, ap, ◌∙◌, subst, arith}
use Rattle.std.proofs.lemmas.Bool.{cases_Bool, eq-eqb, eqb-true, and_right}
use Rattle.std.proofs.lemmas.Int.{ints}
use Rattle.pb_affine.specs.declared.lin.Lin.{Lin}
use Rattle.pb_affine.specs.declared.range.NRange.{NRange}
use Rattle.pb_affine.specs.Values.{value}
use Rattle.pb_core_language.specs.declared.tree.CoreEnd.{CoreEnd}
use Rattle.pb_core_language.specs.Tree.{Mark}
use Rattle.pb_core_language.specs.declared.tree.Bounds.{Bounds}
use Rattle.pb_core_language.specs.Rules.{somebody}
use Rattle.pb_core_language.specs.Verdict.{Broken, IsIn}
use Rattle.pb_rules.specs.declared.found.Found.{Found}
use Rattle.pb_rules.specs.declared.span.Span.{Span}
use Rattle.pb_rules.specs.declared.trap.Trap.{Trap}
use Rattle.pb_rules.specs.declared.ends.Reach.{Reach}
use Rattle.pb_rules.specs.Lines.{value_at, IsInSpan, at_most}
use Rattle.pb_rules.specs.Traps.{reach, alive, met_with, alike_traps, message_traps}
use Rattle.pb_rules.proofs.Order.{not_before_seat}
use Rattle.pb_rules.proofs.Best.{AllHold, AnyCovers, AllNamed}
use Rattle.pb_rules.proofs.Places.{IsValue}
use Rattle.pb_rules.proofs.Reaches.{at_most_gives, gives_at_most, IsLive, alive_gives, gives_alive, value_live, IsWithin, within, asked_for, stays, has_first, first_within, vary_value}

-- sender and receiver ask for one seat of index y
pub record IsAlike (over : Option Bounds) (f t : CoreEnd) (n y : ℤ) : Type 0 where
  pub x : ℤ
  pub value_is : IsValue over n x
  pub sender : value f.at n x ≡ y
  pub receiver : value t.at n x ≡ y
  pub role : f.role ≡ t.role

abbrev pub alike_found : Mark → CoreEnd → ℤ → ℤ → Found
alike_found m f n y = record { rule = 8; number = m.number; place = m.place; n = n; at = Some (record { role = f.role; index = y }) }

abbrev pub broken_8_at : Mark → CoreEnd → ℤ → ℤ → Broken
broken_8_at m f n y = record { n = n; breach = somebody 8 (record { mark = m; seat = record { role = f.role; index = y } }) }

sides : (a b : ℤ) → (a ≤ℤ b) ⊎ (b ≤ℤ a)
sides a b = grind (arith, ints)

le_le : (a b c : ℤ) → a ≤ℤ b → b ≤ℤ c → a ≤ℤ c
le_le a b c h k = omega (arith, ints)

le_self : (a : ℤ) → a ≤ℤ a
le_self a = omega (arith, ints)

le_same : (a b : ℤ) → a ≡ b → a ≤ℤ b
le_same a b e = omega (arith, ints)

one_number : (a b : ℤ) → a ≤ℤ b → b ≤ℤ a → a ≡ b
one_number a b h k = omega (arith, ints)

same_offset : (c d x y : ℤ) → c +ℤ x ≡ d +ℤ x → c +ℤ y ≡ d +ℤ y
same_offset c d x y e = omega (arith, ints)

module _ (range : NRange) (over : Option Bounds) (m : Mark) (f t : CoreEnd) where
  abbrev F : Reach
  F = reach over f.at

  abbrev G : Reach
  G = reach over t.at

  abbrev live : Span
  live = alive range over

  abbrev traps : Reach → Reach → List Trap
  traps a b = alike_traps live m f.role a b

  -- where both have z there is a trap with an index of at most z
  covers_both : (a b : Reach) (n y z : ℤ) → IsInSpan live n → IsWithin a n z → IsWithin b n z → z ≤ℤ y → AnyCovers (traps a b) (broken_8_at m f n y)
  covers_both a b n y z h u v le =
      elim (sides (value_at b.first n) (value_at a.first n)) [
        | inl lower ↦ inl (record {
          span = gives_at_most (at_most live b.first a.first) a.first b.last n (gives_at_most live b.first a.first n h lower) (le_le (value_at a.first n) z (value_at b.last n) u.first v.last);
          rule = refl;
          number = refl;
          seat = not_before_seat f.role f.role y (value_at a.first n) refl (le_le (value_at a.first n) z y u.first le);
        })
        | inr higher ↦ inr (inl (record {
          span = gives_at_most (at_most live a.first b.first) b.first a.last n (gives_at_most live a.first b.first n h higher) (le_le (value_at b.first n) z (value_at a.last n) v.first u.last);
          rule = refl;
          number = refl;
          seat = not_before_seat f.role f.role y (value_at b.first n) refl (le_le (value_at b.first n) z y v.first le);
        }))
      ]

  abbrev fixed : Reach → Reach
  fixed r = record { varies = r.varies; first = r.first; last = r.first }

  both_vary : F.varies ≡ true → G.varies ≡ true → (met_with F G ≡ fixed F) × (met_with G F ≡ fixed G)
  both_vary p q =
      ((ap (λ u. if u && G.varies then fixed F else F) p ∙ ap (λ u. if u then fixed F else F) q), (ap (λ u. if u && F.varies then fixed G else G) q ∙ ap (λ u. if u then fixed G else G) p))

  sender_stays : F.varies ≡ false → (met_with F G ≡ F) × (met_with G F ≡ G)
  sender_stays p = (ap (λ u. if u && G.varies then fixed F else F) p, ap (λ u. if u then fixed G else G) (and_right G.varies F.varies p))

  receiver_stays : G.varies ≡ false → (met_with F G ≡ F) × (met_with G F ≡ G)
  receiver_stays q = (ap (λ u. if u then fixed F else F) (and_right F.varies G.varies q), ap (λ u. if u && F.varies then fixed G else G) q)

  record Cases : Type 0 where
    is : ((F.varies ≡ true) × (G.varies ≡ true)) ⊎ ((F.varies ≡ false) ⊎ (G.varies ≡ false))

  cases : Cases
  cases = elim (cases_Bool F.varies) [
    | inl p ↦ elim (cases_Bool G.varies) [ inl q ↦ record { is = inl (p, q) } | inr q ↦ record { is = inr (inr q) } ]
    | inr p ↦ record { is = inr (inl p) }
  ]

  -- ---- a breach is covered

  covers_plain : (n y : ℤ) → IsIn range n → IsAlike over f t n y → (met_with F G ≡ F) × (met_with G F ≡ G) → AnyCovers (traps (met_with F G) (met_with G F)) (broken_8_at m f n y)
  covers_plain n y inside a same =
      let h = gives_alive range over n inside (value_live over n a.x a.value_is) in
      let u : IsWithin F n y = subst (λ z. IsWithin F n z) a.sender (within over f.at n a.x a.value_is) in
      let v : IsWithin G n y = subst (λ z. IsWithin G n z) a.receiver (within over t.at n a.x a.value_is) in
      subst (λ r. AnyCovers (traps r (met_with G F)) (broken_8_at m f n y)) (sym same.0)
      (subst (λ r. AnyCovers (traps F r) (broken_8_at m f n y)) (sym same.1) (covers_both F G n y y h u v (le_self y)))

  -- where both vary their first indices are one
  same_first : (n y : ℤ) → IsAlike over f t n y → F.varies ≡ true → G.varies ≡ true → IsLive over n → value_at F.first n ≡ value_at G.first n
  same_first n y a p q live' =
      let x = has_first over n live' in
      sym (x.first f.at p) ∙ vary_value over f.at n x.x p
      ∙ same_offset f.at.off t.at.off a.x x.x (sym (vary_value over f.at n a.x p) ∙ a.sender ∙ sym a.receiver ∙ vary_value over t.at n a.x q)
      ∙ sym (vary_value over t.at n x.x q) ∙ x.first t.at q

  covers_varying : (n y : ℤ) → IsIn range n → IsAlike over f t n y → F.varies ≡ true → G.varies ≡ true → AnyCovers (traps (met_with F G) (met_with G F)) (broken_8_at m f n y)
  covers_varying n y inside a p q =
      let live' = value_live over n a.x a.value_is in
      let h = gives_alive range over n inside live' in
      let u : IsWithin F n y = subst (λ z. IsWithin F n z) a.sender (within over f.at n a.x a.value_is) in
      let e = same_first n y a p q live' in
      let same = both_vary p q in
      let z = value_at F.first n in
      subst (λ r. AnyCovers (traps r (met_with G F)) (broken_8_at m f n y)) (sym same.0)
      (subst (λ r. AnyCovers (traps (fixed F) r) (broken_8_at m f n y)) (sym same.1)
      (covers_both (fixed F) (fixed G) n y z h (record { first = le_self z; last = le_self z }) (record { first = le_same (value_at G.first n) z (sym e); last = le_same z (value_at G.first n) e }) u.first))

  covers_met : (n y : ℤ) → IsIn range n → IsAlike over f t n y → AnyCovers (traps (met_with F G) (met_with G F)) (broken_8_at m f n y)
  covers_met n y inside a =
      elim cases.is [
        | inl both ↦ covers_varying n y inside a both.0 both.1
        | inr one ↦ elim one [ inl p ↦ covers_plain n y inside a (sender_stays p) | inr q ↦ covers_plain n y inside a (receiver_stays q) ]
      ]

  pub alike_covers : (n y : ℤ) → IsIn range n → IsAlike over f t n y → AnyCovers (message_traps range over m f t) (broken_8_at m f n y)
  alike_covers n y inside a =
      subst (λ u. AnyCovers (if u then traps (met_with F G) (met_with G F) else []) (broken_8_at m f n y)) (sym (eq-eqb f.role t.role a.role)) (covers_met n y inside a)

  -- ---- a trap is a breach

  settle : (a b c y v : ℤ) → a ≡ b → a ≤ℤ v → v ≤ℤ b → a ≤ℤ y → y ≤ℤ b → v ≡ y
  settle a b c y v e h k l q = omega (arith, ints)

  -- an end that doesn't vary has its index at each value
  settled : (l : Lin) (n x y : ℤ) → (reach over l).varies ≡ false → IsValue over n x → IsWithin (reach over l) n y → value l n x ≡ y
  settled l n x y e v w =
      let u = within over l n x v in
      settle (value_at (reach over l).first n) (value_at (reach over l).last n) y y (value l n x) (ap (λ r. value_at r n) (sym (stays over l e))) u.first u.last w.first w.last

  module _ (role : f.role ≡ t.role) where
    meet_plain : (n y : ℤ) → IsLive over n → (F.varies ≡ false) ⊎ (G.varies ≡ false) → IsWithin F n y → IsWithin G n y → IsAlike over f t n y
    meet_plain n y h (inl p) u v =
        let a = asked_for over t.at n y h v in
        record { x = a.x; value_is = a.value_is; sender = settled f.at n a.x y p a.value_is u; receiver = a.index; role = role }
    meet_plain n y h (inr q) u v =
        let a = asked_for over f.at n y h u in
        record { x = a.x; value_is = a.value_is; sender = a.index; receiver = settled t.at n a.x y q a.value_is v; role = role }

    meet_first : (n y : ℤ) → IsLive over n → F.varies ≡ true → G.varies ≡ true → value_at F.first n ≡ y → value_at G.first n ≡ y → IsAlike over f t n y
    meet_first n y h p q d e =
        let x = has_first over n h in
        record { x = x.x; value_is = x.value_is; sender = x.first f.at p ∙ d; receiver = x.first t.at q ∙ e; role = role }

    module _ (Q : Found → Type 0) (each : (n y : ℤ) → IsIn range n → IsAlike over f t n y → Q (alike_found m f n y)) where
      -- what is known where a trap holds
      hold_both : (a b : Reach)
          → ((n : ℤ) → IsLive over n → value_at b.first n ≤ℤ value_at a.first n → value_at a.first n ≤ℤ value_at b.last n → IsAlike over f t n (value_at a.first n))
          → ((n : ℤ) → IsLive over n → value_at a.first n ≤ℤ value_at b.first n → value_at b.first n ≤ℤ value_at a.last n → IsAlike over f t n (value_at b.first n))
          → AllHold Q (traps a b)
      hold_both a b one two = (left, (right, tt)) where
        left : (n : ℤ) → IsInSpan (at_most (at_most live b.first a.first) a.first b.last) n → Q (alike_found m f n (value_at a.first n))
        left n h =
            let u = at_most_gives (at_most live b.first a.first) a.first b.last n h in
            let v = at_most_gives live b.first a.first n u.0 in
            let w = alive_gives range over n v.0 in
            each n (value_at a.first n) w.0 (one n w.1 v.1 u.1)

        right : (n : ℤ) → IsInSpan (at_most (at_most live a.first b.first) b.first a.last) n → Q (alike_found m f n (value_at b.first n))
        right n h =
            let u = at_most_gives (at_most live a.first b.first) b.first a.last n h in
            let v = at_most_gives live a.first b.first n u.0 in
            let w = alive_gives range over n v.0 in
            each n (value_at b.first n) w.0 (two n w.1 v.1 u.1)

      hold_plain : (F.varies ≡ false) ⊎ (G.varies ≡ false) → (met_with F G ≡ F) × (met_with G F ≡ G) → AllHold Q (traps (met_with F G) (met_with G F))
      hold_plain stay same =
          subst (λ r. AllHold Q (traps r (met_with G F))) (sym same.0)
          (subst (λ r. AllHold Q (traps F r)) (sym same.1)
          (hold_both F G
          (λ n h k l. meet_plain n (value_at F.first n) h stay (first_within over f.at n h) (record { first = k; last = l }))
          (λ n h k l. meet_plain n (value_at G.first n) h stay (record { first = k; last = l }) (first_within over t.at n h))))

      hold_varying : F.varies ≡ true → G.varies ≡ true → AllHold Q (traps (met_with F G) (met_with G F))
      hold_varying p q =
          let same = both_vary p q in
          subst (λ r. AllHold Q (traps r (met_with G F))) (sym same.0)
          (subst (λ r. AllHold Q (traps (fixed F) r)) (sym same.1)
          (hold_both (fixed F) (fixed G)
          (λ n h k l. meet_first n (value_at F.first n) h p q refl (one_number (value_at G.first n) (value_at F.first n) k l))
          (λ n h k l. meet_first n (value_at G.first n) h p q (one_number (value_at F.first n) (value_at G.first n) k l) refl)))

      hold_met : AllHold Q (traps (met_with F G) (met_with G F))
      hold_met =
          elim cases.is [
            | inl both ↦ hold_varying both.0 both.1
            | inr one ↦ elim one [ inl p ↦ hold_plain (inl p) (sender_stays p) | inr q ↦ hold_plain (inr q) (receiver_stays q) ]
          ]

  pub alike_holds : (Q : Found → Type 0) → ((n y : ℤ) → IsIn range n → IsAlike over f t n y → Q (alike_found m f n y)) → AllHold Q (message_traps range over m f t)
  alike_holds Q each =
      elim (cases_Bool (nat_eq f.role t.role)) [
        | inl y ↦ subst (λ u. AllHold Q (if u then traps (met_with F G) (met_with G F) else [])) (sym y) (hold_met (eqb-true f.role t.role y) Q each)
        | inr z ↦ subst (λ u. AllHold Q (if u then traps (met_with F G) (met_with G F) else [])) (sym z) tt
      ]

  eight_named : ◌≡◌ {A = ℕ} 8 6 → ⊥
  eight_named e = absurd (omega arith)

  pub alike_named : AllNamed (message_traps range over m f t)
  alike_named =
      elim (cases_Bool (nat_eq f.role t.role)) [
        | inl y ↦ subst (λ u. AllNamed (if u then traps (met_with F G) (met_with G F) else [])) (sym y) ((λ n. eight_named), ((λ n. eight_named), tt))
        | inr z ↦ subst (λ u. AllNamed (if u then traps (met_with F G) (met_with G F) else [])) (sym z) tt
      ]
