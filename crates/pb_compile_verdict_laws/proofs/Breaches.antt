-- Which mark a breach of each rule has, and whether it names a rank.
use Rattle.std.proofs.Common.{◌≡◌, ℕ, suc, ◌+◌, ℤ, pos, Bool, true, false, if◌then◌else◌, nat_eq, ◌⊎◌, inl, inr, Option, Some, None, List, [], ◌∷◌, map, length, refl, sym, ap, subst, ◌∙◌, arith}
use Rattle.std.specs.List.{Contains}
use Rattle.pb_affine.specs.Values.{value, range}
use Rattle.pb_syntax.specs.Tree.{PlainFile}
use Rattle.pb_core_language.specs.declared.protocol.CoreRole.{CoreRole}
use Rattle.pb_core_language.specs.Tree.{Mark}
use Rattle.pb_core_language.specs.Ranks.{Seat, seats, seat_at, total}
use Rattle.pb_core_language.specs.Plain.{Protocol}
use Rattle.pb_core_language.specs.Flat.{Block, stop}
use Rattle.pb_core_language.specs.FlatOf.{flat}
use Rattle.pb_core_language.specs.Lists.{is_empty}
use Rattle.pb_core_language.specs.Meaning.{meaning, table_of}
use Rattle.pb_core_language.specs.Outcomes.{Outcome}
use Rattle.pb_core_language.specs.Rules.{Breach, breaches, empty_roles, each_origin, strays, loners, deserted, misfits, nobody, somebody, ranked, receives_only, keeps_source, keeps_labels, misfitting, broken_6, broken_7, broken_8, broken_9, broken_10, broken_11, broken_12}
use Rattle.pb_rules.proofs.Lists.{Has, has, has_cases, has_map}
use Rattle.pb_compile_verdict_laws.proofs.Lists.{has_where, has_below}
use Rattle.pb_compile_verdict_laws.proofs.Marks.{Found, of_block}
use Rattle.pb_compile_verdict_laws.proofs.Rising.{Rises, one_mark}
use Rattle.pb_compile_verdict_laws.proofs.Numbers.{rise_block}
use Rattle.pb_compile_verdict_laws.proofs.Flat.{From, from_block, strays_are, loners_are, deserted_are, misfits_are}

-- ---- roles, each by its number

abbrev role_marks : ℕ → List CoreRole → List Mark
role_marks k [] = []
role_marks k (role ∷ roles) = record { number = k; place = role.place } ∷ role_marks (suc k) roles

roles_rise : (k : ℕ) (roles : List CoreRole) → Rises k (k + length roles) (role_marks k roles)
roles_rise k [] = omega arith
roles_rise k (role ∷ roles) = (omega arith, subst (λ t. Rises (suc k) t (role_marks (suc k) roles)) (omega arith) (roles_rise (suc k) roles))

empty_are : (k : ℕ) (roles : List CoreRole) (n : ℤ) (m : Mark) → Has (empty_roles k roles n) m → Has (role_marks k roles) m
empty_are k [] n m h = absurd h
empty_are k (role ∷ roles) n m h =
    elim (has_cases (if is_empty (range (value role.low n (pos 0)) (value role.high n (pos 0))) then record { number = k; place = role.place } ∷ [] else []) (empty_roles (suc k) roles n) m h) [
      | inl x ↦ inl (has_where (is_empty (range (value role.low n (pos 0)) (value role.high n (pos 0)))) m (record { number = k; place = role.place }) x)
      | inr y ↦ inr (empty_are (suc k) roles n m y)
    ]

-- ---- all marks of a protocol

abbrev found : Protocol → Found
found p = of_block p.body.block

-- the marks that breaches of a rule can have, and whether they name a rank
abbrev marks_of : Protocol → ℕ → List Mark
marks_of p rule =
    if nat_eq rule 6 then role_marks 0 p.roles else
    (if nat_eq rule 7 then (found p).ends else
    (if nat_eq rule 8 then (found p).owns else
    (if nat_eq rule 9 then (found p).owns else (found p).branches)))

abbrev is_seated : ℕ → Bool
is_seated rule = if nat_eq rule 6 then false else (if nat_eq rule 9 then false else true)

abbrev has_seat : Option Seat → Bool
has_seat None = false
has_seat (Some seat) = true

record Fits (p : Protocol) (b : Breach) : Type 0 where
  mark : Has (marks_of p b.rule) b.mark
  seat : has_seat b.at ≡ is_seated b.rule

-- ---- each breach fits

module _ (p : Protocol) (n : ℤ) where
  abbrev flat_here : Block
  flat_here = flat p.roles n p.body.block

  all_from : From (found p) flat_here
  all_from = from_block (found p) p.roles n [] (pos 0) p.body.block stop ((λ x h. h), (λ x h. h), (λ x h. h)) tt

  fits_6 : (b : Breach) → Has (broken_6 p n) b → Fits p b
  fits_6 b h =
      let t = has_map (nobody 6) (empty_roles 0 p.roles n) b h in
      subst (Fits p) t.2 (record { mark = empty_are 0 p.roles n t.0 t.1; seat = refl })

  fits_7 : (b : Breach) → Has (broken_7 p n) b → Fits p b
  fits_7 b h =
      let t = has_map (somebody 7) (each_origin (strays (seats p.roles n)) flat_here) b h in
      subst (Fits p) t.2 (record { mark = strays_are (found p) (seats p.roles n) flat_here t.0 all_from t.1; seat = refl })

  fits_8 : (b : Breach) → Has (broken_8 p n) b → Fits p b
  fits_8 b h =
      let t = has_map (somebody 8) (each_origin loners flat_here) b h in
      subst (Fits p) t.2 (record { mark = loners_are (found p) flat_here t.0 all_from t.1; seat = refl })

  fits_9 : (b : Breach) → Has (broken_9 p n) b → Fits p b
  fits_9 b h =
      let t = has_map (nobody 9) (deserted (total p.roles n) [] flat_here) b h in
      subst (Fits p) t.2 (record { mark = deserted_are (found p) (total p.roles n) [] flat_here t.0 all_from t.1; seat = refl })

  record Ranked (rule : ℕ) (b : Breach) : Type 0 where
    rank : ℕ
    mark : Mark
    there : Has (found p).branches mark
    is : ranked rule (seat_at rank (seats p.roles n)) mark ≡ b

  ranked_by : (rule : ℕ) (fits : List Outcome → List Outcome → Bool) (b : Breach) → Has (misfitting p n rule fits) b → Ranked rule b
  ranked_by rule fits b h =
      let s = has_below (total p.roles n) (λ r. map (ranked rule (seat_at r (seats p.roles n))) (misfits fits [] r flat_here)) b h in
      let t = has_map (ranked rule (seat_at s.0 (seats p.roles n))) (misfits fits [] s.0 flat_here) b s.1 in
      record { rank = s.0; mark = t.0; there = misfits_are (found p) fits s.0 [] flat_here t.0 all_from t.1; is = t.2 }

  fits_10 : (b : Breach) → Has (broken_10 p n) b → Fits p b
  fits_10 b h = let t = ranked_by 10 receives_only b h in subst (Fits p) t.is (record { mark = t.there; seat = refl })

  fits_11 : (b : Breach) → Has (broken_11 p n) b → Fits p b
  fits_11 b h = let t = ranked_by 11 keeps_source b h in subst (Fits p) t.is (record { mark = t.there; seat = refl })

  fits_12 : (b : Breach) → Has (broken_12 p n) b → Fits p b
  fits_12 b h = let t = ranked_by 12 keeps_labels b h in subst (Fits p) t.is (record { mark = t.there; seat = refl })

  fits : (b : Breach) → Has (breaches p n) b → Fits p b
  fits b h = elim (has_cases (broken_6 p n) _ b h) [
    | inl x ↦ fits_6 b x
    | inr h7 ↦
        elim (has_cases (broken_7 p n) _ b h7) [
          | inl x ↦ fits_7 b x
          | inr h8 ↦
              elim (has_cases (broken_8 p n) _ b h8) [
                | inl x ↦ fits_8 b x
                | inr h9 ↦
                    elim (has_cases (broken_9 p n) _ b h9) [
                      | inl x ↦ fits_9 b x
                      | inr h10 ↦
                          elim (has_cases (broken_10 p n) _ b h10) [
                            | inl x ↦ fits_10 b x
                            | inr h11 ↦
                                elim (has_cases (broken_11 p n) (broken_12 p n) b h11) [ inl x ↦ fits_11 b x | inr y ↦ fits_12 b y ]
                          ]
                    ]
              ]
        ]
  ]

-- ---- numbers tell marks, and rules tell whether a rank is named

record Rising (ms : List Mark) : Type 0 where
  low : ℕ
  high : ℕ
  rises : Rises low high ms

rising_if : (b : Bool) (xs ys : List Mark) → Rising xs → Rising ys → Rising (if b then xs else ys)
rising_if true xs ys h k = h
rising_if false xs ys h k = k

marks_rise : (f : PlainFile) (rule : ℕ) → Rising (marks_of (meaning f) rule)
marks_rise f rule =
    let r = rise_block (table_of f) [] 0 1 f.body.list in
    let all = found (meaning f) in
    let owns : Rising all.owns = record { low = _; high = _; rises = r.0 } in
    let ends : Rising all.ends = record { low = _; high = _; rises = r.1 } in
    let branches : Rising all.branches = record { low = _; high = _; rises = r.2 } in
    rising_if (nat_eq rule 6) _ _ (record { low = 0; high = _; rises = roles_rise 0 (meaning f).roles })
    (rising_if (nat_eq rule 7) _ _ ends (rising_if (nat_eq rule 8) _ _ owns (rising_if (nat_eq rule 9) _ _ owns branches)))

-- two breaches of one rule with marks of one number
pub record Alike (b c : Breach) : Type 0 where
  pub mark : b.mark ≡ c.mark
  pub seat : has_seat b.at ≡ has_seat c.at

pub alike : (f : PlainFile) (n m : ℤ) (b c : Breach) → Contains (breaches (meaning f) n) b → Contains (breaches (meaning f) m) c → b.rule ≡ c.rule → b.mark.number ≡ c.mark.number → Alike b c
alike f n m b c h k rule number =
    let x = fits (meaning f) n b (has (breaches (meaning f) n) b h) in
    let y = fits (meaning f) m c (has (breaches (meaning f) m) c k) in
    let there : Has (marks_of (meaning f) b.rule) c.mark = subst (λ (q : ℕ). Has (marks_of (meaning f) q) c.mark) (sym rule) y.mark in
    let up = marks_rise f b.rule in
    record { mark = one_mark up.low up.high (marks_of (meaning f) b.rule) b.mark c.mark up.rises x.mark there number; seat = x.seat ∙ ap is_seated rule ∙ sym y.seat }

-- both name a rank, or neither does
pub seats_both : (a b : Option Seat) → has_seat a ≡ has_seat b → ((a ≡ None) × (b ≡ None)) ⊎ ((s : Seat) × (t : Seat) × (a ≡ Some s) × (b ≡ Some t))
seats_both None None e = inl (refl, refl)
seats_both None (Some t) e = absurd (cc)
seats_both (Some s) None e = absurd (cc)
seats_both (Some s) (Some t) e = inr (s, t, refl, refl)
