-- The first breach of a protocol's traps is its first of the rules 6 to 8.
use Rattle.std.proofs.Common.{◌≡◌, ℕ, zero, suc, ◌≤◌, ◌<◌, ℤ, Bool, true, false, ◌⊎◌, inl, inr, Option, Some, None, List, [], ◌++◌, map, refl, ap, subst, arith}
use Rattle.std.proofs.lemmas.Bool.{and_parts}
use Rattle.pb_core_language.specs.Ranks.{Seat, seats, seat_at}
use Rattle.pb_core_language.specs.Tree.{Mark}
use Rattle.pb_core_language.specs.Plain.{Protocol}
use Rattle.pb_core_language.specs.Flat as F
use Rattle.pb_core_language.specs.Flat.{Asked}
use Rattle.pb_core_language.specs.Outcomes.{Outcome}
use Rattle.pb_core_language.specs.FlatOf.{from_none}
use Rattle.pb_core_language.specs.Lists.{over_below}
use Rattle.pb_core_language.specs.Rules.{empty_roles, each_origin, strays, loners, Breach, nobody, somebody, ranked, misfits, misfitting, flat_at, total_at, ranks_at, broken_6, broken_7, broken_8, broken_9, broken_10, broken_11, broken_12, deserted, receives_only, keeps_source, keeps_labels, breaches}
use Rattle.pb_core_language.specs.Sound.{is_range, are_roles, is_block, rows_of, is_sound}
use Rattle.pb_core_language.specs.Verdict.{Broken, IsIn, IsBroken, IsFirstBroken, is_before}
use Rattle.pb_rules.specs.declared.found.Found.{Found}
use Rattle.pb_rules.specs.Traps.{broken_of, role_traps, kept_all}
use Rattle.pb_rules.specs.Sites.{Site, block_sites, best_of}
use Rattle.pb_rules.specs.Verdict.{KeepsIndex}
use Rattle.pb_rules.proofs.Lists.{Has, has, contains, has_cases, has_left, has_right, has_map, map_has}
use Rattle.pb_rules.proofs.Order.{join}
use Rattle.pb_rules.proofs.Best.{IfFound, all_hold, IsNotBefore, IfNamed, all_named, all_come}
use Rattle.pb_rules.proofs.Places.{AnyAt, block_to, block_from}
use Rattle.pb_rules.proofs.RoleRule.{empty_found, role_covers, role_holds, role_named}
use Rattle.pb_rules.proofs.Good.{AllGood, good_block}
use Rattle.pb_rules.proofs.Sitewise.{found_of, sites_stay, sites_come_7, sites_come_8, sites_hold}

over_has : {A : Type 0} (T : ℕ) (f : ℕ → List A) (x : A) → Has (over_below T f) x → (r : ℕ) × Has (f r) x
over_has zero f x h = absurd h
over_has (suc T) f x h = elim (has_cases (over_below T f) (f T) x h) [ inl a ↦ over_has T f x a | inr b ↦ (T, b) ]

strays_none : (ranks : List Seat) (m : Mark) → strays ranks (from_none m) ≡ []
strays_none ranks m = refl

loners_none : (m : Mark) → loners (from_none m) ≡ []
loners_none m = refl

above : (k rule : ℕ) → 8 < k → k ≡ rule → rule ≤ 8 → ⊥
above k rule h e l = omega arith

small : (x : ℕ) → (x ≤ 8) ⊎ (8 < x)
small x = grind arith

under : (x y : ℕ) → 8 < x → y ≤ 8 → y ≤ x
under x y h k = omega arith

apart : (x y : ℕ) → 8 < x → y ≤ 8 → x ≡ y → ⊥
apart x y h k e = omega arith

-- a breach of a later rule is not before one of these
not_earlier : (c d : Broken) → d.breach.rule ≤ 8 → (c.breach.rule ≤ 8 → is_before c d ≡ false) → is_before c d ≡ false
not_earlier c d l k =
    elim (small c.breach.rule) [
      | inl le ↦ k le
      | inr gt ↦ join c.breach.rule d.breach.rule _ (under c.breach.rule d.breach.rule gt l) (λ e. absurd (apart c.breach.rule d.breach.rule gt l e))
    ]

module _ (p : Protocol) (sound : is_sound p ≡ true) where
  sound_body : is_block (rows_of p) false [] p.body.block ≡ true
  sound_body = (and_parts (are_roles p.roles) _ (and_parts _ _ (and_parts (is_range p.range) _ sound).1).1).1

  abbrev sites : List Site
  sites = block_sites None p.body.block

  abbrev start : Option Found
  start = kept_all (role_traps p.range 0 p.roles) None

  good : AllGood p.roles sites
  good = good_block p.roles (rows_of p) refl false [] None p.body.block sound_body

  start_named : IfNamed start
  start_named = all_named (role_traps p.range 0 p.roles) None (role_named p.range 0 p.roles) tt

  -- ---- no breach comes before the best

  late : (n : ℤ) (k : ℕ) (fits : List Outcome → List Outcome → Bool) (b : Breach) → 8 < k → Has (misfitting p n k fits) b → b.rule ≤ 8 → ⊥
  late n k fits b h found l =
      let t = over_has (total_at p n) (λ r. map (ranked k (seat_at r (ranks_at p n))) (misfits fits [] r (flat_at p n))) b found in
      let u = has_map (ranked k (seat_at t.0 (ranks_at p n))) (misfits fits [] t.0 (flat_at p n)) b t.1 in
      above k b.rule h (ap (λ x. x.rule) u.2) l

  least_6 : (n : ℤ) (b : Breach) → IsIn p.range n → Has (broken_6 p n) b → IsNotBefore (record { n = n; breach = b }) (best_of p)
  least_6 n b inside found =
      let t = has_map (nobody 6) (empty_roles 0 p.roles n) b found in
      subst (λ c. IsNotBefore (record { n = n; breach = c }) (best_of p)) t.2
      (sites_stay p.range p.roles (record { n = n; breach = nobody 6 t.0 }) sites start refl start_named
      (all_come (record { n = n; breach = nobody 6 t.0 }) (role_traps p.range 0 p.roles) None refl (role_named p.range 0 p.roles) tt (role_covers p.range 0 p.roles n t.0 inside t.1)))

  least_7 : (n : ℤ) (b : Breach) → IsIn p.range n → Has (broken_7 p n) b → IsNotBefore (record { n = n; breach = b }) (best_of p)
  least_7 n b inside found =
      let t = has_map (somebody 7) (each_origin (strays (ranks_at p n)) (flat_at p n)) b found in
      subst (λ c. IsNotBefore (record { n = n; breach = c }) (best_of p)) t.2
      (elim (block_to p.roles n (strays (ranks_at p n)) (strays_none (ranks_at p n)) (rows_of p) [] p.body.block F.stop t.0 sound_body t.1) [
        | inl y ↦ sites_come_7 p.range p.roles n sites t.0 start good inside start_named y
        | inr z ↦ absurd z
      ])

  least_8 : (n : ℤ) (b : Breach) → IsIn p.range n → Has (broken_8 p n) b → IsNotBefore (record { n = n; breach = b }) (best_of p)
  least_8 n b inside found =
      let t = has_map (somebody 8) (each_origin loners (flat_at p n)) b found in
      subst (λ c. IsNotBefore (record { n = n; breach = c }) (best_of p)) t.2
      (elim (block_to p.roles n loners loners_none (rows_of p) [] p.body.block F.stop t.0 sound_body t.1) [
        | inl y ↦ sites_come_8 p.range p.roles n sites t.0 start inside start_named y
        | inr z ↦ absurd z
      ])

  least_late : (n : ℤ) (b : Breach) → Has (broken_9 p n ++ (broken_10 p n ++ (broken_11 p n ++ broken_12 p n))) b → b.rule ≤ 8 → ⊥
  least_late n b found l =
      elim (has_cases (broken_9 p n) (broken_10 p n ++ (broken_11 p n ++ broken_12 p n)) b found) [
        | inl y ↦ (let t = has_map (nobody 9) (deserted (total_at p n) [] (flat_at p n)) b y in above 9 b.rule (omega arith) (ap (λ x. x.rule) t.2) l)
        | inr z ↦ elim (has_cases (broken_10 p n) (broken_11 p n ++ broken_12 p n) b z) [
          | inl y ↦ late n 10 receives_only b (omega arith) y l
          | inr w ↦ elim (has_cases (broken_11 p n) (broken_12 p n) b w) [
            | inl y ↦ late n 11 keeps_source b (omega arith) y l
            | inr v ↦ late n 12 keeps_labels b (omega arith) v l
          ]
        ]
      ]

  pub least : (c : Broken) → IsBroken p c → c.breach.rule ≤ 8 → IsNotBefore c (best_of p)
  least c broken l =
      elim (has_cases (broken_6 p c.n) (broken_7 p c.n ++ (broken_8 p c.n ++ (broken_9 p c.n ++ (broken_10 p c.n ++ (broken_11 p c.n ++ broken_12 p c.n))))) c.breach (has (breaches p c.n) c.breach broken.there)) [
        | inl y ↦ least_6 c.n c.breach broken.within y
        | inr z ↦ elim (has_cases (broken_7 p c.n) (broken_8 p c.n ++ (broken_9 p c.n ++ (broken_10 p c.n ++ (broken_11 p c.n ++ broken_12 p c.n)))) c.breach z) [
          | inl y ↦ least_7 c.n c.breach broken.within y
          | inr w ↦ elim (has_cases (broken_8 p c.n) (broken_9 p c.n ++ (broken_10 p c.n ++ (broken_11 p c.n ++ broken_12 p c.n))) c.breach w) [
            | inl y ↦ least_8 c.n c.breach broken.within y
            | inr v ↦ absurd (least_late c.n c.breach v l)
          ]
        ]
      ]

  -- ---- the best is a breach

  -- a breach of the rules 6 to 8
  abbrev IsBreach : Found → Type 0
  IsBreach f = IsBroken p (broken_of f) × (f.rule ≤ 8)

  breach_6 : (n : ℤ) (m : Mark) → IsIn p.range n → Has (empty_roles 0 p.roles n) m → IsBreach (empty_found m n)
  breach_6 n m inside found = (
    record {
      within = inside;
      there = contains (breaches p n) (nobody 6 m) (has_left (broken_6 p n) _ (nobody 6 m) (map_has (nobody 6) (empty_roles 0 p.roles n) m found));
    },
    omega arith,
  )

  breach_7 : (n : ℤ) (a : Asked) → IsIn p.range n → AnyAt n (strays (seats p.roles n)) sites a → IsBreach (found_of 7 a n)
  breach_7 n a inside found =
      let h = block_from p.roles n (strays (ranks_at p n)) (strays_none (ranks_at p n)) (rows_of p) [] p.body.block F.stop a sound_body found in (
        record {
          within = inside;
          there = contains (breaches p n) (somebody 7 a) (has_right (broken_6 p n) _ (somebody 7 a)
              (has_left (broken_7 p n) _ (somebody 7 a) (map_has (somebody 7) (each_origin (strays (ranks_at p n)) (flat_at p n)) a h)));
        },
        omega arith,
      )

  breach_8 : (n : ℤ) (a : Asked) → IsIn p.range n → AnyAt n loners sites a → IsBreach (found_of 8 a n)
  breach_8 n a inside found =
      let h = block_from p.roles n loners loners_none (rows_of p) [] p.body.block F.stop a sound_body found in (
        record {
          within = inside;
          there = contains (breaches p n) (somebody 8 a) (has_right (broken_6 p n) _ (somebody 8 a) (has_right (broken_7 p n) _ (somebody 8 a)
              (has_left (broken_8 p n) _ (somebody 8 a) (map_has (somebody 8) (each_origin loners (flat_at p n)) a h))));
        },
        omega arith,
      )

  pub breach : IfFound IsBreach (best_of p)
  breach = sites_hold p.range p.roles IsBreach sites start (all_hold IsBreach (role_traps p.range 0 p.roles) None tt (role_holds p.range IsBreach 0 p.roles breach_6)) breach_7 breach_8

  -- ---- what follows

  pub first_found : (f : Found) → best_of p ≡ Some f → IsFirstBroken p (broken_of f) × (f.rule ≤ 8)
  first_found f same =
      let b : IsBreach f = subst (λ q. IfFound IsBreach q) same breach in
      (record { broken = b.0; first = λ c broken. not_earlier c (broken_of f) b.1 (λ l. subst (λ q. IsNotBefore c q) same (least c broken l)) }, b.1)

  pub none_found : best_of p ≡ None → KeepsIndex p
  none_found e c broken l = subst (λ q. IsNotBefore c q) e (least c broken l)
