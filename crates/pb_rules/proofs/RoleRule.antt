-- The traps of the roles are their breaches of rule 6.
use Rattle.std.proofs.Common.{◌≡◌, ℕ, suc, ◌+◌, ℤ, pos, ◌≤ℤ◌, ◌<ℤ◌, Bool, true, false, ◌⊎◌, inl, inr, None, List, [], ◌∷◌, if◌then◌else◌, refl, sym, ap, subst, arith, add-one}
use Rattle.std.proofs.lemmas.Bool.{false≢true}
use Rattle.std.proofs.lemmas.Int.{ints}
use Rattle.pb_affine.specs.declared.range.NRange.{NRange}
use Rattle.pb_affine.specs.Values.{value, range}
use Rattle.pb_core_language.specs.declared.protocol.CoreRole.{CoreRole}
use Rattle.pb_core_language.specs.Tree.{Mark}
use Rattle.pb_core_language.specs.Lists.{is_empty}
use Rattle.pb_core_language.specs.Rules.{empty_roles, nobody}
use Rattle.pb_core_language.specs.Verdict.{Broken, IsIn}
use Rattle.pb_rules.specs.declared.found.Found.{Found}
use Rattle.pb_rules.specs.Lines.{line_of, value_at, IsInSpan, whole, below}
use Rattle.pb_rules.specs.Traps.{role_traps}
use Rattle.pb_rules.proofs.Lists.{Has, has_cases, has_left, has_right}
use Rattle.pb_rules.proofs.Best.{AllHold, AnyCovers, AllNamed}
use Rattle.pb_rules.proofs.Seats.{in_range, range_has}
use Rattle.pb_rules.proofs.Reaches.{below_gives, gives_below, whole_gives, gives_whole, value_line}

abbrev pub empty_found : Mark → ℤ → Found
empty_found m n = record { rule = 6; number = m.number; place = m.place; n = n; at = None }

abbrev pub broken_6_at : Mark → ℤ → Broken
broken_6_at m n = record { n = n; breach = nobody 6 m }

abbrev role_mark : ℕ → CoreRole → Mark
role_mark k r = record { number = k; place = r.place }

empty_none : {X : Type 0} (xs : List X) (x : X) → is_empty xs ≡ true → Has xs x → ⊥
empty_none [] x e h = h
empty_none (y ∷ ys) x e h = false≢true e

none_empty : {X : Type 0} (xs : List X) → ((x : X) → Has xs x → ⊥) → is_empty xs ≡ true
none_empty [] k = refl
none_empty (y ∷ ys) k = absurd (k y (inl refl))

if_has : {X : Type 0} (b : Bool) (x y : X) → Has (if b then x ∷ [] else []) y → (b ≡ true) × (x ≡ y)
if_has true x y (inl e) = (refl, e)
if_has true x y (inr h) = absurd h
if_has false x y h = absurd h

sides : (a b : ℤ) → (b <ℤ a) ⊎ (a ≤ℤ b)
sides a b = grind (arith, ints)

not_both : (a b x : ℤ) → b <ℤ a → a ≤ℤ x → x ≤ℤ b → ⊥
not_both a b x h k l = omega (arith, ints)

no_range : (low high : ℤ) → is_empty (range low high) ≡ true → high <ℤ low
no_range low high e =
    elim (sides low high) [ inl lt ↦ lt | inr le ↦ absurd (empty_none (range low high) low e (range_has low high low (same low) le)) ] where
      same : (a : ℤ) → a ≤ℤ a
      same a = omega (arith, ints)

range_no : (low high : ℤ) → high <ℤ low → is_empty (range low high) ≡ true
range_no low high lt = none_empty (range low high) (λ x h. let t = in_range low high x h in not_both low high x lt t.0 t.1)

module _ (r : NRange) where
  pub role_covers : (k : ℕ) (roles : List CoreRole) (n : ℤ) (m : Mark) → IsIn r n → Has (empty_roles k roles n) m → AnyCovers (role_traps r k roles) (broken_6_at m n)
  role_covers k [] n m inside h = absurd h
  role_covers k (q ∷ qs) n m inside h =
      elim (has_cases (if is_empty (range (value q.low n (pos 0)) (value q.high n (pos 0))) then role_mark k q ∷ [] else []) (empty_roles (suc k) qs n) m h) [
        | inl here ↦
            let t = if_has (is_empty (range (value q.low n (pos 0)) (value q.high n (pos 0)))) (role_mark k q) m here in
            let lt = no_range (value q.low n (pos 0)) (value q.high n (pos 0)) t.0 in
            inl (record {
              span = gives_below (whole r) (line_of q.high) (line_of q.low) n (gives_whole r n inside) (subst (λ z. z <ℤ value_at (line_of q.low) n) (value_line q.high n) (subst (λ z. value q.high n (pos 0) <ℤ z) (value_line q.low n) lt));
              rule = refl;
              number = sym (ap (λ x. x.number) t.1);
              seat = refl;
            })
        | inr there ↦ inr (subst (λ j. AnyCovers (role_traps r j qs) (broken_6_at m n)) (sym (add-one k)) (role_covers (suc k) qs n m inside there))
      ]

  pub role_holds : (Q : Found → Type 0) (k : ℕ) (roles : List CoreRole) → ((n : ℤ) (m : Mark) → IsIn r n → Has (empty_roles k roles n) m → Q (empty_found m n)) → AllHold Q (role_traps r k roles)
  role_holds Q k [] each = tt
  role_holds Q k (q ∷ qs) each = (
    here,
    subst (λ j. AllHold Q (role_traps r j qs)) (sym (add-one k))
        (role_holds Q (suc k) qs (λ n m inside h. each n m inside (has_right (if is_empty (range (value q.low n (pos 0)) (value q.high n (pos 0))) then role_mark k q ∷ [] else []) (empty_roles (suc k) qs n) m h))),
  ) where
    here : (n : ℤ) → IsInSpan (below (whole r) (line_of q.high) (line_of q.low)) n → Q (empty_found (role_mark k q) n)
    here n h =
        let t = below_gives (whole r) (line_of q.high) (line_of q.low) n h in
        let lt : value q.high n (pos 0) <ℤ value q.low n (pos 0) = subst (λ z. z <ℤ value q.low n (pos 0)) (sym (value_line q.high n)) (subst (λ z. value_at (line_of q.high) n <ℤ z) (sym (value_line q.low n)) t.1) in
        each n (role_mark k q) (whole_gives r n t.0)
        (has_left (if is_empty (range (value q.low n (pos 0)) (value q.high n (pos 0))) then role_mark k q ∷ [] else []) (empty_roles (suc k) qs n) (role_mark k q)
        (subst (λ u. Has (if u then role_mark k q ∷ [] else []) (role_mark k q)) (sym (range_no (value q.low n (pos 0)) (value q.high n (pos 0)) lt)) (inl refl)))

  pub role_named : (k : ℕ) (roles : List CoreRole) → AllNamed (role_traps r k roles)
  role_named k [] = tt
  role_named k (q ∷ qs) = ((λ n. refl), role_named (k + 1) qs)
