-- What can end by calls in one another that are deep enough can end by as many as there are subprotocols.
use Rattle.std.proofs.Common.{◌≡◌, ℕ, zero, suc, ◌≤◌, Bool, cond, true, false, ◌&&◌, Option, Some, None, List, [], ◌∷◌, length, ◌⊎◌, inl, inr, refl, sym, ap, ap₂, ◌∙◌, subst, arith}
use Rattle.std.specs.List.{slice_get}
use Rattle.std.proofs.lemmas.Bool.{and_parts, or_cases, or_left, or_right}
use Rattle.pb_do_syntax.specs.Calls.{Call, plain, foreach, loop, choice, call, Calls, nothing, more, CallBranches, no_branch, branch, PlainSub}
use Rattle.pb_do_syntax.specs.Names.{Name, sub_named, sub_at, sub_names}
use Rattle.pb_text.specs.Tables.{position_of}
use Rattle.pb_do_laws.specs.Ends.{can_end, all_can_end, some_can_end, body_can_end, ends_within}
use Rattle.pb_do_laws.specs.Laws.{CallsEnd, EndsAreLeast}

module _ (p q : Name → Bool) where
  -- ---- more calls that can end

  module _ (less : (f : Name) → p f ≡ true → q f ≡ true) where
    mutual
      more_end : (s : Call) → can_end p s ≡ true → can_end q s ≡ true
      more_end (plain s) h = h
      more_end (foreach place x over at items) h = refl
      more_end (loop place x at body) h = all_more_end body h
      more_end (choice place k who bs) h = some_more_end bs h
      more_end (call place f args) h = less f.name h

      all_more_end : (c : Calls) → all_can_end p c ≡ true → all_can_end q c ≡ true
      all_more_end nothing h = refl
      all_more_end (more s rest) h =
          let both = and_parts (can_end p s) (all_can_end p rest) h in
          ap₂ (λ a b. a && b) (more_end s both.0) (all_more_end rest both.1)

      some_more_end : (bs : CallBranches) → some_can_end p bs ≡ true → some_can_end q bs ≡ true
      some_more_end no_branch h = h
      some_more_end (branch at first rest) h =
          elim (or_cases (all_can_end p first) (some_can_end p rest) h) [
            | inl y ↦ or_left (all_can_end q first) (some_can_end q rest) (all_more_end first y)
            | inr y ↦ or_right (all_can_end q first) (some_can_end q rest) (some_more_end rest y)
          ]

    more_bodies_end : (o : Option PlainSub) → body_can_end p o ≡ true → body_can_end q o ≡ true
    more_bodies_end None h = refl
    more_bodies_end (Some sub) h = all_more_end sub.body.list h

both_ways : (a b : Bool) → (a ≡ true → b ≡ true) → (b ≡ true → a ≡ true) → a ≡ b
both_ways true b f g = sym (f refl)
both_ways false true f g = g refl
both_ways false false f g = refl

-- ---- how many can

abbrev tally : (PlainSub → Bool) → List PlainSub → ℕ
tally h [] = 0
tally h (s ∷ ss) = cond (h s) (suc (tally h ss)) (tally h ss)

abbrev Agree : (g h : PlainSub → Bool) → List PlainSub → Type 0
Agree g h [] = Unit {0}
Agree g h (s ∷ ss) = (g s ≡ h s) × Agree g h ss

tally_most : (h : PlainSub → Bool) (ss : List PlainSub) → tally h ss ≤ length ss
tally_most h [] = omega arith
tally_most h (s ∷ ss) = by (h s) (tally_most h ss)
  where
    by : (b : Bool) → tally h ss ≤ length ss → cond b (suc (tally h ss)) (tally h ss) ≤ suc (length ss)
    by true e = omega (arith, e)
    by false e = omega (arith, e)

module _ (g h : PlainSub → Bool) (less : (s : PlainSub) → g s ≡ true → h s ≡ true) where
  keeps_up : (ss : List PlainSub) → tally g ss ≤ tally h ss
  keeps_up [] = omega arith
  keeps_up (s ∷ ss) = by (g s) (h s) (less s) (keeps_up ss)
    where
      by : (a b : Bool) → (a ≡ true → b ≡ true) → tally g ss ≤ tally h ss → cond a (suc (tally g ss)) (tally g ss) ≤ cond b (suc (tally h ss)) (tally h ss)
      by true true l e = omega (arith, e)
      by true false l e = let no' : false ≡ true = l refl in cc
      by false true l e = omega (arith, e)
      by false false l e = e

  rises : (ss : List PlainSub) → Agree g h ss ⊎ (suc (tally g ss) ≤ tally h ss)
  rises [] = inl tt
  rises (s ∷ ss) = by (g s) (h s) (less s) (keeps_up ss) (rises ss)
    where
      by : (a b : Bool) → (a ≡ true → b ≡ true) → tally g ss ≤ tally h ss → Agree g h ss ⊎ (suc (tally g ss) ≤ tally h ss) →
          ((a ≡ b) × Agree g h ss) ⊎ (suc (cond a (suc (tally g ss)) (tally g ss)) ≤ cond b (suc (tally h ss)) (tally h ss))
      by true true l e (inl y) = inl (refl, y)
      by true true l e (inr y) = inr (omega (arith, y))
      by true false l e r = let no' : false ≡ true = l refl in cc
      by false true l e r = inr (omega (arith, e))
      by false false l e (inl y) = inl (refl, y)
      by false false l e (inr y) = inr y

agree_at : (g h : PlainSub → Bool) (ss : List PlainSub) (i : ℕ) (s : PlainSub) → Agree g h ss → slice_get ss i ≡ Some s → g s ≡ h s
agree_at g h [] i s a e = cc
agree_at g h (x ∷ ss) zero s a e = let same : x ≡ s = cc in subst (λ y. g y ≡ h y) same a.0
agree_at g h (x ∷ ss) (suc i) s a e = agree_at g h ss i s a.1 e

-- ---- deeper and deeper

module _ (subs : List PlainSub) where
  abbrev at_depth : ℕ → PlainSub → Bool
  at_depth k sub = all_can_end (ends_within subs k) sub.body.list

  deeper : (k : ℕ) (f : Name) → ends_within subs k f ≡ true → ends_within subs (suc k) f ≡ true
  deeper zero f h = cc
  deeper (suc k) f h = more_bodies_end (ends_within subs k) (ends_within subs (suc k)) (deeper k) (sub_named subs f) h

  at_deeper : (k : ℕ) (s : PlainSub) → at_depth k s ≡ true → at_depth (suc k) s ≡ true
  at_deeper k s h = all_more_end (ends_within subs k) (ends_within subs (suc k)) (deeper k) s.body.list h

  abbrev Settled : ℕ → Type 0
  Settled k = Agree (at_depth k) (at_depth (suc k)) subs

  sub_settled : (k : ℕ) → Settled k → (s : PlainSub) (o : Option ℕ) → sub_at subs o ≡ Some s → at_depth k s ≡ at_depth (suc k) s
  sub_settled k a s None e = cc
  sub_settled k a s (Some i) e = agree_at (at_depth k) (at_depth (suc k)) subs i s a e

  body_settled : (k : ℕ) → Settled k → (o : Option PlainSub) → ((s : PlainSub) → o ≡ Some s → at_depth k s ≡ at_depth (suc k) s) →
      body_can_end (ends_within subs k) o ≡ body_can_end (ends_within subs (suc k)) o
  body_settled k a None h = refl
  body_settled k a (Some s) h = h s refl

  calls_settled : (k : ℕ) → Settled k → (f : Name) → ends_within subs (suc k) f ≡ ends_within subs (suc (suc k)) f
  calls_settled k a f = body_settled k a (sub_named subs f) (λ s e. sub_settled k a s (position_of f (sub_names subs)) e)

  settled_on : (k : ℕ) → Settled k → (ss : List PlainSub) → Agree (at_depth (suc k)) (at_depth (suc (suc k))) ss
  settled_on k a [] = tt
  settled_on k a (s ∷ ss) = (
    both_ways (at_depth (suc k) s) (at_depth (suc (suc k)) s)
        (all_more_end (ends_within subs (suc k)) (ends_within subs (suc (suc k))) (λ f e. sym (calls_settled k a f) ∙ e) s.body.list)
        (all_more_end (ends_within subs (suc (suc k))) (ends_within subs (suc k)) (λ f e. calls_settled k a f ∙ e) s.body.list),
    settled_on k a ss,
  )

  climbs : (k : ℕ) → Settled k ⊎ (suc k ≤ tally (at_depth (suc k)) subs)
  climbs zero = elim (rises (at_depth 0) (at_depth 1) (at_deeper 0) subs) [ inl a ↦ inl a | inr e ↦ inr (omega (arith, e)) ]
  climbs (suc k) = by (climbs k) (rises (at_depth (suc k)) (at_depth (suc (suc k))) (at_deeper (suc k)) subs)
    where
      by : Settled k ⊎ (suc k ≤ tally (at_depth (suc k)) subs) → Settled (suc k) ⊎ (suc (tally (at_depth (suc k)) subs) ≤ tally (at_depth (suc (suc k))) subs) →
          Settled (suc k) ⊎ (suc (suc k) ≤ tally (at_depth (suc (suc k))) subs)
      by (inl a) r = inl (settled_on k a subs)
      by (inr e) (inl a) = inl a
      by (inr e) (inr d) = inr (omega (arith, e, d))

  settled : Settled (length subs)
  settled = elim (climbs (length subs)) [
    | inl a ↦ a
    | inr e ↦ let most = tally_most (at_depth (suc (length subs))) subs in absurd (omega (arith, e, most))
  ]

pub calls_end : CallsEnd
calls_end subs f sub e =
    ap (λ o. body_can_end (ends_within subs (length subs)) o) e
    ∙ sub_settled subs (length subs) (settled subs) sub (position_of f (sub_names subs)) e

ends_least : (subs : List PlainSub) (holds : Name → Bool) → ((f : Name) → body_can_end holds (sub_named subs f) ≡ true → holds f ≡ true) → (k : ℕ) (f : Name) → ends_within subs k f ≡ true → holds f ≡ true
ends_least subs holds closed zero f h = cc
ends_least subs holds closed (suc k) f h = closed f (more_bodies_end (ends_within subs k) holds (λ x e. ends_least subs holds closed k x e) (sub_named subs f) h)

pub least : EndsAreLeast
least subs holds closed f h = ends_least subs holds closed (suc (length subs)) f h
