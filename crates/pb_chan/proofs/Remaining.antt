-- The first of the lists that are left.
use Rattle.std.proofs.Common.{◌≡◌, ◌⊎◌, inr, ◌<◌, ◌≤◌, ℕ, Bool, true, false, ◌&&◌, nat_eq, cond, List, [], ◌∷◌, Option, Some, None, refl, sym, ap, subst, ◌∙◌, arith, if◌then◌else◌}
use Rattle.std.proofs.lemmas.Bool.{eqb-true, and_parts}
use Rattle.std.proofs.lemmas.Bool.Decides.{nat_tests}
use Rattle.std.proofs.lemmas.List.Elements.{recursion_from_All}
use Rattle.std.specs.HashMap.{get, HashMap}
use Rattle.std.specs.List.{AllByRecursion, All}
use Rattle.std.specs.Map.{lookup}
use Rattle.std.specs.Option.{IfSome}
use Rattle.pb_chan.specs.declared.message.Message.{Message}
use Rattle.pb_chan.specs.Lists.{messages, label_of, IsFirstLeft}
use Rattle.pb_chan.specs.Shown.{Queue, shown, items_of, left_of, is_before, lesser, least}
use Rattle.pb_chan.proofs.Seen.{seen}

abbrev Left : Type 0
Left = ℕ × ℕ × ℕ

-- x comes no later than y
record IsUpTo (x y : Left) : Type 0 where
  up : (x.0 < y.0) ⊎ ((x.0 ≡ y.0) × (x.1 ≤ y.1))

later_than : (x y z : Left) → is_before y x ≡ true → IsUpTo z y → IsUpTo z x
later_than x y z h u = let g = u.up in record { up = grind (arith, nat_tests) }

not_before : (x y z : Left) → is_before y x ≡ false → IsUpTo z x → IsUpTo z y
not_before x y z h u = let g = u.up in record { up = grind (arith, nat_tests) }

up_to_itself : (z : Left) → IsUpTo z z
up_to_itself z = record { up = inr (refl, omega arith) }

split : (a b : Option Left) (z : Left) → IfSome (lesser a b) (IsUpTo z) → IfSome a (IsUpTo z) × IfSome b (IsUpTo z)
split None b z h = (tt, h)
split (Some x) None z h = (h, tt)
split (Some x) (Some y) z h = go (is_before y x) refl h
  where
    go : (c : Bool) → is_before y x ≡ c → IfSome (if c then Some y else Some x) (IsUpTo z) → IsUpTo z x × IsUpTo z y
    go true e u = (later_than x y z e u, u)
    go false e u = (u, not_before x y z e u)

below : (x : Option Left) (es : List ((ℕ × ℕ) × Queue)) (z : Left) → least x es ≡ Some z → IfSome x (IsUpTo z) × AllByRecursion (λ e. IfSome (left_of e.0 e.1.items) (IsUpTo z)) es
below x [] z h = (subst (λ o. IfSome o (IsUpTo z)) (sym h) (up_to_itself z), tt)
below x (e ∷ es) z h =
    let b = below (lesser x (left_of e.0 e.1.items)) es z h in
    let s = split x (left_of e.0 e.1.items) z b.0 in
    (s.0, (s.1, b.1))

-- what holds of each holds of the least
joined : (P : Left → Type 0) (a b : Option Left) → IfSome a P → IfSome b P → IfSome (lesser a b) P
joined P None b g h = h
joined P (Some x) None g h = g
joined P (Some x) (Some y) g h = go (is_before y x)
  where
    go : (c : Bool) → IfSome (if c then Some y else Some x) P
    go true = h
    go false = g

holds : (P : Left → Type 0) (x : Option Left) (es : List ((ℕ × ℕ) × Queue)) → IfSome x P → AllByRecursion (λ e. IfSome (left_of e.0 e.1.items) P) es → IfSome (least x es) P
holds P x [] g h = g
holds P x (e ∷ es) g h = holds P (lesser x (left_of e.0 e.1.items)) es (joined P x (left_of e.0 e.1.items) g h.0) h.1

none_of : (a b : Option Left) → lesser a b ≡ None → (a ≡ None) × (b ≡ None)
none_of None b h = (refl, h)
none_of (Some x) None h = absurd (cc)
none_of (Some x) (Some y) h = go (is_before y x) h
  where
    go : (c : Bool) → (if c then Some y else Some x) ≡ None → (Some x ≡ None) × (Some y ≡ None)
    go true e = absurd (cc)
    go false e = absurd (cc)

none_left_in : (x : Option Left) (es : List ((ℕ × ℕ) × Queue)) → least x es ≡ None → (x ≡ None) × AllByRecursion (λ e. left_of e.0 e.1.items ≡ None) es
none_left_in x [] h = (h, tt)
none_left_in x (e ∷ es) h =
    let b = none_left_in (lesser x (left_of e.0 e.1.items)) es h in
    let s = none_of x (left_of e.0 e.1.items) b.0 in
    (s.0, (s.1, b.1))

-- what a look-up finds is an entry
found : (Q : (ℕ × ℕ) × Queue → Type 0) (test : ℕ × ℕ → Bool) (es : List ((ℕ × ℕ) × Queue)) (v : Queue) → AllByRecursion Q es → lookup test es ≡ Some v → (k : ℕ × ℕ) × (test k ≡ true) × Q (k, v)
found Q test [] v all h = absurd (cc)
found Q test (e ∷ es) v all h = go (test e.0) refl h (λ g. found Q test es v all.1 g)
  where
    go : (c : Bool) → test e.0 ≡ c → cond c (Some e.1) (lookup test es) ≡ Some v → (lookup test es ≡ Some v → (k : ℕ × ℕ) × (test k ≡ true) × Q (k, v)) → (k : ℕ × ℕ) × (test k ≡ true) × Q (k, v)
    go true is g more = let same : e.1 ≡ v = cc in (e.0, is, subst (λ w. Q (e.0, w)) same all.0)
    go false is g more = more g

no_label : (p q : ℕ) (ms : List Message) → left_of (p, q) ms ≡ None → ms ≡ []
no_label p q [] h = refl
no_label p q (m ∷ ms) h = absurd (cc)

module _ {S : Type 0} (m : HashMap (ℕ × ℕ) Queue S) where
  abbrev Begins : Left → Type 0
  Begins x = label_of (messages (shown m) x.1 x.0) ≡ Some x.2

  begins_at : (p q : ℕ) (ms : List Message) → messages (shown m) p q ≡ ms → IfSome (left_of (p, q) ms) Begins
  begins_at p q [] h = tt
  begins_at p q (x ∷ ms) h = ap label_of h

  begins_in : (es : List ((ℕ × ℕ) × Queue)) → AllByRecursion (λ e. get (λ x y. nat_eq x.0 y.0 && nat_eq x.1 y.1) m e.0 ≡ Some e.1) es → AllByRecursion (λ e. IfSome (left_of e.0 e.1.items) Begins) es
  begins_in [] h = tt
  begins_in (e ∷ es) h = (begins_at e.0.0 e.0.1 e.1.items (seen m e.0.0 e.0.1 ∙ ap items_of h.0), begins_in es h.1)

  -- the list of a pair, where there is something to say of each entry
  of_pair : (Q : ℕ → ℕ → List Message → Type 0) → ((p q : ℕ) → Q p q []) → AllByRecursion (λ e. Q e.0.0 e.0.1 e.1.items) m.entries → (p q : ℕ) → Q p q (messages (shown m) p q)
  of_pair Q none all p q = subst (Q p q) (sym (seen m p q)) (go (lookup (λ k. nat_eq p k.0 && nat_eq q k.1) m.entries) refl)
    where
      go : (o : Option Queue) → lookup (λ k. nat_eq p k.0 && nat_eq q k.1) m.entries ≡ o → Q p q (items_of o)
      go None h = none p q
      go (Some v) h =
          let f = found (λ e. Q e.0.0 e.0.1 e.1.items) (λ k. nat_eq p k.0 && nat_eq q k.1) m.entries v all h in
          let a : p ≡ f.0.0 = eqb-true p f.0.0 (and_parts (nat_eq p f.0.0) (nat_eq q f.0.1) f.1).0 in
          let b : q ≡ f.0.1 = eqb-true q f.0.1 (and_parts (nat_eq p f.0.0) (nat_eq q f.0.1) f.1).1 in
          subst (λ x. Q x q v.items) (sym a) (subst (λ y. Q f.0.0 y v.items) (sym b) f.2)

  pub none_left : least None m.entries ≡ None → (p q : ℕ) → messages (shown m) p q ≡ []
  none_left h = of_pair (λ p q ms. ms ≡ []) (λ p q. refl) (all m.entries (none_left_in None m.entries h).1)
    where
      all : (es : List ((ℕ × ℕ) × Queue)) → AllByRecursion (λ e. left_of e.0 e.1.items ≡ None) es → AllByRecursion (λ e. e.1.items ≡ []) es
      all [] g = tt
      all (e ∷ es) g = (no_label e.0.0 e.0.1 e.1.items g.0, all es g.1)

  up_to_all : (z : Left) (es : List ((ℕ × ℕ) × Queue)) → AllByRecursion (λ e. IfSome (left_of e.0 e.1.items) (IsUpTo z)) es → AllByRecursion (λ e. (e.1.items ≡ [] → ⊥) → (z.0 < e.0.1) ⊎ ((z.0 ≡ e.0.1) × (z.1 ≤ e.0.0))) es
  up_to_all z [] g = tt
  up_to_all z (e ∷ es) g = (at e.1.items g.0, up_to_all z es g.1)
    where
      at : (ms : List Message) → IfSome (left_of e.0 ms) (IsUpTo z) → (ms ≡ [] → ⊥) → (z.0 < e.0.1) ⊎ ((z.0 ≡ e.0.1) × (z.1 ≤ e.0.0))
      at [] u some = absurd (some refl)
      at (x ∷ ms) u some = u.up

  is_first : (r : Option Left) → least None m.entries ≡ r → IfSome r Begins → IfSome r (λ x. IsFirstLeft (shown m) x.0 x.1 x.2)
  is_first None h g = tt
  is_first (Some z) h g =
      record {
        begins = g;
        least = of_pair (λ p q ms. (ms ≡ [] → ⊥) → (z.0 < q) ⊎ ((z.0 ≡ q) × (z.1 ≤ p))) (λ p q some. absurd (some refl)) (up_to_all z m.entries (below None m.entries z h).1);
      }

  pub first_left : (r : Option Left) → All (λ e. get (λ x y. nat_eq x.0 y.0 && nat_eq x.1 y.1) m e.0 ≡ Some e.1) m.entries → r ≡ least None m.entries → IfSome r (λ x. IsFirstLeft (shown m) x.0 x.1 x.2)
  first_left r all h = is_first r (sym h) (subst (λ o. IfSome o Begins) (sym h) (holds Begins None m.entries tt (begins_in m.entries (recursion_from_All _ m.entries all))))
