-- The best of sites is a breach at one of them, and no breach at them comes before it.
use Rattle.std.proofs.Common.{◌≡◌, ℕ, ◌+◌, ◌*◌, ℤ, Bool, true, false, not, ◌⊎◌, inl, inr, Option, Some, IsSome, List, [], ◌∷◌, if◌then◌else◌, refl, sym, ap, ap₂, ◌∙◌, subst, arith}
use Rattle.std.specs.List.{slice_get}
use Rattle.std.proofs.lemmas.Bool.{not-true, not_from_false}
use Rattle.pb_affine.specs.declared.range.NRange.{NRange}
use Rattle.pb_affine.specs.Values.{value}
use Rattle.pb_core_language.specs.declared.protocol.CoreRole.{CoreRole}
use Rattle.pb_core_language.specs.declared.tree.CoreEnd.{CoreEnd}
use Rattle.pb_core_language.specs.Ranks.{Seat, seat_eq, seats}
use Rattle.pb_core_language.specs.Tree.{Mark}
use Rattle.pb_core_language.specs.declared.tree.Bounds.{Bounds}
use Rattle.pb_core_language.specs.Flat.{Asked}
use Rattle.pb_core_language.specs.FlatOf.{seat, asked}
use Rattle.pb_core_language.specs.Rules.{is_seat, strays, loners, somebody}
use Rattle.pb_core_language.specs.Verdict.{Broken, IsIn}
use Rattle.pb_rules.specs.declared.found.Found.{Found}
use Rattle.pb_rules.specs.Traps.{kept_all, end_traps, message_traps}
use Rattle.pb_rules.specs.Sites.{Site, one, two, kept_site, kept_sites}
use Rattle.pb_rules.proofs.Lists.{Has}
use Rattle.pb_rules.proofs.Best.{IfFound, all_hold, IsNotBefore, IsNamedBroken, IfNamed, all_named, all_stay, all_come}
use Rattle.pb_rules.proofs.Seats.{seat_same, same_seat}
use Rattle.pb_rules.proofs.Places.{IsValue, At, AnyAt}
use Rattle.pb_rules.proofs.Strays.{IsStray, stray_covers, stray_holds, stray_named}
use Rattle.pb_rules.proofs.Alikes.{IsAlike, alike_covers, alike_holds, alike_named}
use Rattle.pb_rules.proofs.Good.{IsGood, AllGood}

cons_has : {X : Type 0} (b : Bool) (y : X) (ys : List X) (x : X) → Has (if b then y ∷ ys else ys) x → ((b ≡ true) × (y ≡ x)) ⊎ Has ys x
cons_has true y ys x (inl e) = inl (refl, e)
cons_has true y ys x (inr h) = inr h
cons_has false y ys x h = inr h

has_cons : {X : Type 0} (b : Bool) (y : X) (ys : List X) → b ≡ true → Has (if b then y ∷ ys else ys) y
has_cons b y ys e = subst (λ c. Has (if c then y ∷ ys else ys) y) (sym e) (inl refl)

past_cons : {X : Type 0} (b : Bool) (y : X) (ys : List X) (x : X) → Has ys x → Has (if b then y ∷ ys else ys) x
past_cons true y ys x h = inr h
past_cons false y ys x h = h

abbrev pub found_of : ℕ → Asked → ℤ → Found
found_of k a n = record { rule = k; number = a.mark.number; place = a.mark.place; n = n; at = Some (record { role = a.seat.role; index = a.seat.index }) }

abbrev pub broken_at : ℕ → Asked → ℤ → Broken
broken_at k a n = record { n = n; breach = somebody k a }

abbrev seat_with : ℕ → ℤ → Seat
seat_with k x = record { role = k; index = x }

one_seat : (j k : ℕ) (x y : ℤ) → j ≡ k → x ≡ y → seat_with j x ≡ seat_with k y
one_seat j k x y d e = ap₂ seat_with d e

module _ (r : NRange) (roles : List CoreRole) where
  abbrev out : ℤ → CoreEnd → ℤ → Bool
  out n e x = not (is_seat (seat e n x) (seats roles n))

  -- what is at a site breaks the rules
  stray_at : (n : ℤ) (over : Option Bounds) (e : CoreEnd) (x : ℤ) → IsValue over n x → out n e x ≡ true → IsStray roles over e n (value e.at n x)
  stray_at n over e x v t = record { asked = record { x = x; value_is = v; index = refl }; out = not-true (is_seat (seat e n x) (seats roles n)) t }

  alike_at : (n : ℤ) (over : Option Bounds) (f t : CoreEnd) (x : ℤ) → IsValue over n x → seat_eq (seat f n x) (seat t n x) ≡ true → IsAlike over f t n (value f.at n x)
  alike_at n over f t x v e =
      let s = seat_same (seat f n x) (seat t n x) e in
      record { x = x; value_is = v; sender = refl; receiver = sym (ap (λ y. y.index) s); role = ap (λ y. y.role) s }

  -- ---- the best at a site

  end_named : (over : Option Bounds) (k : ℕ) (e : CoreEnd) (best : Option Found) → IfNamed best → IfNamed (kept_all (end_traps r roles over k e) best)
  end_named over k e best h = all_named (end_traps r roles over k e) best (stray_named r roles over k e) h

  site_named : (s : Site) (best : Option Found) → IfNamed best → IfNamed (kept_site r roles s best)
  site_named (one over m e) best h = end_named over (2 * m.number) e best h
  site_named (two over m f t) best h =
      all_named (message_traps r over m f t) _ (alike_named r over m f t) (end_named over (2 * m.number + 1) t _ (end_named over (2 * m.number) f best h))

  end_stay : (c : Broken) (over : Option Bounds) (k : ℕ) (e : CoreEnd) (best : Option Found) → IsNamedBroken c → IfNamed best → IsNotBefore c best → IsNotBefore c (kept_all (end_traps r roles over k e) best)
  end_stay c over k e best named h b = all_stay c (end_traps r roles over k e) best named (stray_named r roles over k e) h b

  message_stay : (c : Broken) (over : Option Bounds) (m : Mark) (f t : CoreEnd) (best : Option Found) → IsNamedBroken c → IfNamed best → IsNotBefore c best → IsNotBefore c (kept_all (message_traps r over m f t) best)
  message_stay c over m f t best named h b = all_stay c (message_traps r over m f t) best named (alike_named r over m f t) h b

  site_stay : (c : Broken) (s : Site) (best : Option Found) → IsNamedBroken c → IfNamed best → IsNotBefore c best → IsNotBefore c (kept_site r roles s best)
  site_stay c (one over m e) best named h b = end_stay c over (2 * m.number) e best named h b
  site_stay c (two over m f t) best named h b =
      let h1 = end_named over (2 * m.number) f best h in
      let h2 = end_named over (2 * m.number + 1) t _ h1 in
      message_stay c over m f t _ named h2 (end_stay c over (2 * m.number + 1) t _ named h1 (end_stay c over (2 * m.number) f best named h b))

  seven : ◌≡◌ {A = ℕ} 7 6 → ⊥
  seven e = absurd (omega arith)

  eight : ◌≡◌ {A = ℕ} 8 6 → ⊥
  eight e = absurd (omega arith)

  end_come : (n : ℤ) (over : Option Bounds) (k : ℕ) (e : CoreEnd) (x : ℤ) (best : Option Found) → IsSome (slice_get roles e.role) → IsIn r n → IfNamed best → IsValue over n x → out n e x ≡ true
      → IsNotBefore (broken_at 7 (asked e k n x) n) (kept_all (end_traps r roles over k e) best)
  end_come n over k e x best there inside h v t =
      all_come (broken_at 7 (asked e k n x) n) (end_traps r roles over k e) best seven (stray_named r roles over k e) h (stray_covers r roles over k e there n (value e.at n x) inside (stray_at n over e x v t))

  site_come_7 : (n : ℤ) (s : Site) (a : Asked) (best : Option Found) → IsGood roles s → IsIn r n → IfNamed best → At n (strays (seats roles n)) s a → IsNotBefore (broken_at 7 a n) (kept_site r roles s best)
  site_come_7 n (one over m e) a best good inside h found =
      elim (cons_has (out n e found.0) (asked e (2 * m.number) n found.0) [] a found.2) [
        | inl y ↦ subst (λ b. IsNotBefore (broken_at 7 b n) (kept_site r roles (one over m e) best)) y.1 (end_come n over (2 * m.number) e found.0 best good inside h found.1 y.0)
        | inr z ↦ absurd z
      ]
  site_come_7 n (two over m f t) a best good inside h found =
      let h1 = end_named over (2 * m.number) f best h in
      let h2 = end_named over (2 * m.number + 1) t _ h1 in
      elim (cons_has (out n f found.0) (asked f (2 * m.number) n found.0) (if out n t found.0 then asked t (2 * m.number + 1) n found.0 ∷ [] else []) a found.2) [
        | inl y ↦ subst (λ b. IsNotBefore (broken_at 7 b n) (kept_site r roles (two over m f t) best)) y.1
            (message_stay (broken_at 7 (asked f (2 * m.number) n found.0) n) over m f t _ seven h2
            (end_stay (broken_at 7 (asked f (2 * m.number) n found.0) n) over (2 * m.number + 1) t _ seven h1
            (end_come n over (2 * m.number) f found.0 best good.0 inside h found.1 y.0)))
        | inr z ↦ elim (cons_has (out n t found.0) (asked t (2 * m.number + 1) n found.0) [] a z) [
          | inl y ↦ subst (λ b. IsNotBefore (broken_at 7 b n) (kept_site r roles (two over m f t) best)) y.1
              (message_stay (broken_at 7 (asked t (2 * m.number + 1) n found.0) n) over m f t _ seven h2
              (end_come n over (2 * m.number + 1) t found.0 _ good.1 inside h1 found.1 y.0))
          | inr w ↦ absurd w
        ]
      ]

  site_come_8 : (n : ℤ) (s : Site) (a : Asked) (best : Option Found) → IsIn r n → IfNamed best → At n loners s a → IsNotBefore (broken_at 8 a n) (kept_site r roles s best)
  site_come_8 n (one over m e) a best inside h found = absurd found.2
  site_come_8 n (two over m f t) a best inside h found =
      let h1 = end_named over (2 * m.number) f best h in
      let h2 = end_named over (2 * m.number + 1) t _ h1 in
      elim (cons_has (seat_eq (seat f n found.0) (seat t n found.0)) (record { mark = m; seat = seat f n found.0 }) [] a found.2) [
        | inl y ↦ subst (λ b. IsNotBefore (broken_at 8 b n) (kept_site r roles (two over m f t) best)) y.1
            (all_come (broken_at 8 (record { mark = m; seat = seat f n found.0 }) n) (message_traps r over m f t) _ eight (alike_named r over m f t) h2
            (alike_covers r over m f t n (value f.at n found.0) inside (alike_at n over f t found.0 found.1 y.0)))
        | inr z ↦ absurd z
      ]

  -- ---- the best of sites

  pub sites_named : (ss : List Site) (best : Option Found) → IfNamed best → IfNamed (kept_sites r roles ss best)
  sites_named [] best h = h
  sites_named (s ∷ ss) best h = sites_named ss (kept_site r roles s best) (site_named s best h)

  pub sites_stay : (c : Broken) (ss : List Site) (best : Option Found) → IsNamedBroken c → IfNamed best → IsNotBefore c best → IsNotBefore c (kept_sites r roles ss best)
  sites_stay c [] best named h b = b
  sites_stay c (s ∷ ss) best named h b = sites_stay c ss (kept_site r roles s best) named (site_named s best h) (site_stay c s best named h b)

  pub sites_come_7 : (n : ℤ) (ss : List Site) (a : Asked) (best : Option Found) → AllGood roles ss → IsIn r n → IfNamed best → AnyAt n (strays (seats roles n)) ss a → IsNotBefore (broken_at 7 a n) (kept_sites r roles ss best)
  sites_come_7 n [] a best good inside h found = absurd found
  sites_come_7 n (s ∷ ss) a best good inside h (inl found) = sites_stay (broken_at 7 a n) ss (kept_site r roles s best) seven (site_named s best h) (site_come_7 n s a best good.0 inside h found)
  sites_come_7 n (s ∷ ss) a best good inside h (inr found) = sites_come_7 n ss a (kept_site r roles s best) good.1 inside (site_named s best h) found

  pub sites_come_8 : (n : ℤ) (ss : List Site) (a : Asked) (best : Option Found) → IsIn r n → IfNamed best → AnyAt n loners ss a → IsNotBefore (broken_at 8 a n) (kept_sites r roles ss best)
  sites_come_8 n [] a best inside h found = absurd found
  sites_come_8 n (s ∷ ss) a best inside h (inl found) = sites_stay (broken_at 8 a n) ss (kept_site r roles s best) eight (site_named s best h) (site_come_8 n s a best inside h found)
  sites_come_8 n (s ∷ ss) a best inside h (inr found) = sites_come_8 n ss a (kept_site r roles s best) inside (site_named s best h) found

  -- ---- the best is a breach

  module _ (Q : Found → Type 0) where
    abbrev pub Each7 : Site → Type 0
    Each7 s = (n : ℤ) (a : Asked) → IsIn r n → At n (strays (seats roles n)) s a → Q (found_of 7 a n)

    abbrev pub Each8 : Site → Type 0
    Each8 s = (n : ℤ) (a : Asked) → IsIn r n → At n loners s a → Q (found_of 8 a n)

    still_out : (n y : ℤ) (over : Option Bounds) (e : CoreEnd) (s : IsStray roles over e n y) → out n e s.asked.x ≡ true
    still_out n y over e s =
        not_from_false (is_seat (seat e n s.asked.x) (seats roles n)) (subst (λ z. is_seat (record { role = e.role; index = z }) (seats roles n) ≡ false) (sym s.asked.index) s.out)

    index_of : (n y : ℤ) (over : Option Bounds) (e : CoreEnd) (k : ℕ) (s : IsStray roles over e n y) → Q (found_of 7 (asked e k n s.asked.x) n) → Q (found_of 7 (record { mark = record { number = k; place = e.place }; seat = record { role = e.role; index = y } }) n)
    index_of n y over e k s q = subst (λ z. Q (found_of 7 (record { mark = record { number = k; place = e.place }; seat = record { role = e.role; index = z } }) n)) s.asked.index q

    site_hold : (s : Site) (best : Option Found) → IfFound Q best → Each7 s → Each8 s → IfFound Q (kept_site r roles s best)
    site_hold (one over m e) best h each7 each8 =
        all_hold Q (end_traps r roles over (2 * m.number) e) best h
        (stray_holds r roles over (2 * m.number) e Q (λ n y inside s.
        index_of n y over e (2 * m.number) s (each7 n (asked e (2 * m.number) n s.asked.x) inside
        (s.asked.x, s.asked.value_is, has_cons (out n e s.asked.x) (asked e (2 * m.number) n s.asked.x) [] (still_out n y over e s)))))
    site_hold (two over m f t) best h each7 each8 =
        all_hold Q (message_traps r over m f t) _
        (all_hold Q (end_traps r roles over (2 * m.number + 1) t) _
        (all_hold Q (end_traps r roles over (2 * m.number) f) best h
        (stray_holds r roles over (2 * m.number) f Q (λ n y inside s.
        index_of n y over f (2 * m.number) s (each7 n (asked f (2 * m.number) n s.asked.x) inside
        (s.asked.x, s.asked.value_is, has_cons (out n f s.asked.x) (asked f (2 * m.number) n s.asked.x) _ (still_out n y over f s))))))
        (stray_holds r roles over (2 * m.number + 1) t Q (λ n y inside s.
        index_of n y over t (2 * m.number + 1) s (each7 n (asked t (2 * m.number + 1) n s.asked.x) inside (
          s.asked.x,
          s.asked.value_is,
          past_cons (out n f s.asked.x) (asked f (2 * m.number) n s.asked.x) (if out n t s.asked.x then asked t (2 * m.number + 1) n s.asked.x ∷ [] else []) (asked t (2 * m.number + 1) n s.asked.x)
              (has_cons (out n t s.asked.x) (asked t (2 * m.number + 1) n s.asked.x) [] (still_out n y over t s)),
        )))))
        (alike_holds r over m f t Q (λ n y inside s.
        subst (λ z. Q (found_of 8 (record { mark = m; seat = record { role = f.role; index = z } }) n)) s.sender
        (each8 n (record { mark = m; seat = seat f n s.x }) inside
        (s.x, s.value_is, has_cons (seat_eq (seat f n s.x) (seat t n s.x)) (record { mark = m; seat = seat f n s.x }) [] (same_seat (seat f n s.x) (seat t n s.x) (one_seat f.role t.role (value f.at n s.x) (value t.at n s.x) s.role (s.sender ∙ sym s.receiver)))))))

    abbrev pub EachSite7 : List Site → Type 0
    EachSite7 ss = (n : ℤ) (a : Asked) → IsIn r n → AnyAt n (strays (seats roles n)) ss a → Q (found_of 7 a n)

    abbrev pub EachSite8 : List Site → Type 0
    EachSite8 ss = (n : ℤ) (a : Asked) → IsIn r n → AnyAt n loners ss a → Q (found_of 8 a n)

    pub sites_hold : (ss : List Site) (best : Option Found) → IfFound Q best → EachSite7 ss → EachSite8 ss → IfFound Q (kept_sites r roles ss best)
    sites_hold [] best h each7 each8 = h
    sites_hold (s ∷ ss) best h each7 each8 =
        sites_hold ss (kept_site r roles s best)
        (site_hold s best h (λ n a inside f. each7 n a inside (inl f)) (λ n a inside f. each8 n a inside (inl f)))
        (λ n a inside f. each7 n a inside (inr f)) (λ n a inside f. each8 n a inside (inr f))
