-- With which tokens the texts of a form begin.
use Rattle.std.proofs.Common.{◌≡◌, ℕ, List, [], ◌∷◌, ◌++◌, ◌⊎◌, inl, inr, Bool, true, false, Option, Some, None, refl, ap, ◌∙◌}
use Rattle.std.specs.Prelude.{not, ◌&&◌, ◌==◌, if◌then◌else◌}
use Rattle.std.proofs.lemmas.Bool.{eqb-true, eq-eqb, cases_Bool, or_from, not-true, or_cases, and_parts}
use Rattle.std.proofs.lemmas.List.{append-nil}
use Rattle.pb_text.specs.declared.token.Token.{Token}
use Rattle.pb_text.specs.declared.token.TokenKind.{TokenKind}
use Rattle.pb_text.specs.declared.token.TokenKind.TheVariants as kind
use Rattle.pb_text.specs.declared.token.Mark.{Mark}
use Rattle.pb_text.specs.declared.token.Key.{Key}
use Rattle.pb_text.specs.declared.place.Place.{Place}
use Rattle.pb_text.specs.declared.place.Spot.{Spot}
use Rattle.pb_syntax.specs.Tree.{Numeral}
use Rattle.pb_syntax.specs.Form.{Form, done, one, many, ◌or◌, Both, ManyText, OneText}
use Rattle.pb_syntax.specs.Form.{◌>>=◌ as ◌then◌}
use Rattle.pb_syntax.specs.Grammar.{kind_number, mark_number, key_number, mapped, word_in, number_in, numeral_in, not_large, not_zero, reads_mark, reads_key, reads_name, reads_number, reads_count}
use Rattle.pb_syntax.specs.Reading.{starts, within, among}
use Rattle.pb_syntax.proofs.Exact.{Begins, Misses, Apart}

-- none of these is one of those; each of these is one of those
abbrev pub apart : List ℕ → List ℕ → Bool
apart [] ns = true
apart (m ∷ ms) ns = not (within ns m) && apart ms ns

abbrev pub inside : List ℕ → List ℕ → Bool
inside [] ns = true
inside (m ∷ ms) ns = within ns m && inside ms ns

pub apart_ok : (ms ns : List ℕ) → apart ms ns ≡ true → (k : ℕ) → within ms k ≡ true → within ns k ≡ false
apart_ok [] ns e k h = cc
apart_ok (m ∷ ms) ns e k h =
    let both = and_parts (not (within ns m)) (apart ms ns) e in
    elim (or_cases (k == m) (within ms k) h) [
      | inl here ↦ ap (within ns) (eqb-true k m here) ∙ not-true (within ns m) both.0
      | inr later ↦ apart_ok ms ns both.1 k later
    ]

pub inside_ok : (ms ns : List ℕ) → inside ms ns ≡ true → (k : ℕ) → within ns k ≡ false → within ms k ≡ false
inside_ok [] ns e k h = refl
inside_ok (m ∷ ms) ns e k h =
    let both = and_parts (within ns m) (inside ms ns) e in
    elim (cases_Bool (k == m)) [
      | inl here ↦ let yes : within ns k ≡ true = ap (within ns) (eqb-true k m here) ∙ both.0 in cc
      | inr other ↦ or_from (k == m) (within ms k) other (inside_ok ms ns both.1 k h)
    ]

-- the kind of a single token
pub record Kind {A : Type 0} (reads : Token → Option A) (n : ℕ) : Type 0 where
  pub number : (t : Token) (x : A) → reads t ≡ Some x → kind_number t.kind ≡ n

if_some : {A : Type 0} → (b : Bool) (x y : A) → (if b then Some x else None) ≡ Some y → b ≡ true
if_some true x y e = refl
if_some false x y e = cc

pub mark_kind : (m : Mark) → Kind (reads_mark m) (mark_number m)
mark_kind m = record { number = λ t x e. eqb-true (kind_number t.kind) (mark_number m) (if_some (kind_number t.kind == mark_number m) t.place x e) }

pub key_kind : (k : Key) → Kind (reads_key k) (key_number k)
key_kind k = record { number = λ t x e. eqb-true (kind_number t.kind) (key_number k) (if_some (kind_number t.kind == key_number k) t.place x e) }

word_is : (place : Place) (k : TokenKind) (s : Spot) → mapped (λ (w : List ℕ). record { name = w; place = place }) (word_in k) ≡ Some s → kind_number k ≡ 37
word_is place (kind.Word w) s e = refl
word_is place (kind.Key w) s e = cc
word_is place (kind.Number w) s e = cc
word_is place (kind.Mark w) s e = cc

pub name_kind : Kind reads_name 37
name_kind = record { number = λ t x e. word_is t.place t.kind x e }

number_is : (place : Place) (k : TokenKind) (s : Numeral) → mapped (λ (n : ℕ). record { value = n; place = place }) (number_in k) ≡ Some s → kind_number k ≡ 38
number_is place (kind.Word w) s e = cc
number_is place (kind.Key w) s e = cc
number_is place (kind.Number w) s e = refl
number_is place (kind.Mark w) s e = cc

small_is : (t : Token) (s : Numeral) (o : Option Numeral) → numeral_in t ≡ o → not_large o ≡ Some s → kind_number t.kind ≡ 38
small_is t s (Some n) e h = number_is t.place t.kind n e
small_is t s None e h = cc

pub number_kind : Kind reads_number 38
number_kind = record { number = λ t x e. small_is t x (numeral_in t) refl e }

count_is : (t : Token) (s : Numeral) (o : Option Numeral) → reads_number t ≡ o → not_zero o ≡ Some s → kind_number t.kind ≡ 38
count_is t s (Some n) e h = number_kind.number t n e
count_is t s None e h = cc

pub count_kind : Kind reads_count 38
count_kind = record { number = λ t x e. count_is t x (reads_number t) refl e }

one_begins : {A : Type 0} (reads : Token → Option A) (n : ℕ) (ns : List ℕ) → Kind reads n → within ns n ≡ true → (xs : List Token) (x : A) → OneText reads xs x → (t : Token) × (ts : List Token) × (xs ≡ t ∷ ts) × (among ns t ≡ true)
one_begins reads n ns k e [] x h = absurd h
one_begins reads n ns k e (t ∷ []) x h = (t, [], refl, ap (within ns) (k.number t x h) ∙ e)
one_begins reads n ns k e (t ∷ u ∷ xs) x h = absurd h

pub first_one : {A : Type 0} {reads : Token → Option A} {n : ℕ} {ns : List ℕ} → Kind reads n → within ns n ≡ true → Begins ns (one reads)
unfolding one
first_one {A} {reads} {n} {ns} k e = record { begins = one_begins reads n ns k e }

module _ {A B : Type 0} {a : Form A} (f : A → Form B) {ns : List ℕ} where
  then_begins : Begins ns a → (xs : List Token) (y : B) → Both a.text (λ x. (f x).text) xs y → (t : Token) × (ts : List Token) × (xs ≡ t ∷ ts) × (among ns t ≡ true)
  then_begins first xs y h = let g = first.begins h.head h.value h.whole in (g.0, g.1 ++ h.tail, h.split ∙ ap (λ (l : List Token). l ++ h.tail) g.2, g.3)

  pub first_then : Begins ns a → Begins ns (a then f)
  unfolding ◌then◌
  first_then first = record { begins = then_begins first }

module _ {A : Type 0} {a b : Form A} {ns : List ℕ} where
  or_begins : Begins ns a → Begins ns b → (xs : List Token) (y : A) → a.text xs y ⊎ b.text xs y → (t : Token) × (ts : List Token) × (xs ≡ t ∷ ts) × (among ns t ≡ true)
  or_begins fa fb xs y (inl h) = fa.begins xs y h
  or_begins fa fb xs y (inr h) = fb.begins xs y h

  pub first_or : Begins ns a → Begins ns b → Begins ns (a or b)
  unfolding ◌or◌
  first_or fa fb = record { begins = or_begins fa fb }

module _ {A : Type 0} {b : Form A} {ms ns goes : List ℕ} where
  pub misses_first : Begins ms b → apart ms ns ≡ true → Misses ns b goes
  misses_first first e = record {
    misses = λ xs rest x h stop.
        let g = first.begins xs x h in
        ap (λ (l : List Token). starts (among ns) (l ++ rest)) g.2 ∙ apart_ok ms ns e (kind_number g.0.kind) g.3;
  }

inside_starts : (ms goes : List ℕ) → inside ms goes ≡ true → (rest : List Token) → starts (among goes) rest ≡ false → starts (among ms) rest ≡ false
inside_starts ms goes e [] h = refl
inside_starts ms goes e (t ∷ ts) h = inside_ok ms goes e (kind_number t.kind) h

pub misses_done : {A : Type 0} (x : A) {ms goes : List ℕ} → inside ms goes ≡ true → Misses ms (done x) goes
unfolding done
misses_done x {ms} {goes} e = record { misses = λ xs rest y h stop. ap (λ (l : List Token). starts (among ms) (l ++ rest)) h.0 ∙ inside_starts ms goes e rest stop }

module _ {A : Type 0} {a b : Form A} {ns goes : List ℕ} where
  or_misses : Misses ns a goes → Misses ns b goes → (xs rest : List Token) (y : A) → a.text xs y ⊎ b.text xs y → starts (among goes) rest ≡ false → starts (among ns) (xs ++ rest) ≡ false
  or_misses fa fb xs rest y (inl h) stop = fa.misses xs rest y h stop
  or_misses fa fb xs rest y (inr h) stop = fb.misses xs rest y h stop

  pub misses_or : Misses ns a goes → Misses ns b goes → Misses ns (a or b) goes
  unfolding ◌or◌
  misses_or fa fb = record { misses = or_misses fa fb }

module _ {A : Type 0} {a : Form A} {ms : List ℕ} where
  many_misses : (ns goes : List ℕ) → Begins ms a → apart ms ns ≡ true → inside ns goes ≡ true → (xs rest : List Token) (list : List A) → ManyText a.text xs list → starts (among goes) rest ≡ false → starts (among ns) (xs ++ rest) ≡ false
  many_misses ns goes first e i xs rest [] h stop = ap (λ (l : List Token). starts (among ns) (l ++ rest)) h ∙ inside_starts ns goes i rest stop
  many_misses ns goes first e i xs rest (x ∷ list) h stop =
      let g = first.begins h.0 x h.3 in
      ap (λ (l : List Token). starts (among ns) (l ++ rest)) (h.2 ∙ ap (λ (l : List Token). l ++ h.1) g.2) ∙ apart_ok ms ns e (kind_number g.0.kind) g.3

  pub misses_many : {ns goes : List ℕ} → Begins ms a → apart ms ns ≡ true → inside ns goes ≡ true → Misses ns (many a) goes
  unfolding many
  misses_many {ns} {goes} first e i = record { misses = many_misses ns goes first e i }

-- a last part that has no token
module _ {A B : Type 0} {a : Form A} (g : A → B) {ns goes : List ℕ} where
  pub misses_last : Misses ns a goes → Misses ns (a then (λ x. done (g x))) goes
  unfolding ◌then◌ done
  misses_last m = record {
    misses = λ xs rest y h stop.
        ap (λ (l : List Token). starts (among ns) (l ++ rest)) (h.split ∙ ap (λ (l : List Token). h.head ++ l) h.rest.0 ∙ append-nil h.head) ∙ m.misses h.head rest h.value h.whole stop;
  }

pub apart_of : {A B : Type 0} {first goes : List ℕ} {f : A → Form B} → ((x : A) → Misses first (f x) goes) → Apart first f goes
apart_of m = record { follows = λ x ys rest y h stop. (m x).misses ys rest y h stop }

same : (n : ℕ) → within (n ∷ []) n ≡ true
same n = rw (eq-eqb n n refl) refl

alone : (first : List ℕ) (n : ℕ) → within first n ≡ false → apart (n ∷ []) first ≡ true
alone first n e = rw e refl

-- the next part begins with this one token
pub apart_one : {A B C : Type 0} {first goes : List ℕ} {reads : Token → Option B} {n : ℕ} (g : A → B → Form C) → Kind reads n → within first n ≡ false → Apart first (λ x. one reads then g x) goes
apart_one {first = first} {n = n} g k e = apart_of (λ x. misses_first {ms = n ∷ []} (first_then (g x) (first_one k (same n))) (alone first n e))

pub apart_all : (test first : List ℕ) → apart test first ≡ true → (t : Token) → among test t ≡ true → among first t ≡ false
apart_all test first e t h = apart_ok test first e (kind_number t.kind) h

pub ends_all : (test first goes : List ℕ) → inside test goes ≡ true → inside first goes ≡ true → (t : Token) → among goes t ≡ false → (among test t ≡ false) × (among first t ≡ false)
ends_all test first goes p q t h = (inside_ok test goes p (kind_number t.kind) h, inside_ok first goes q (kind_number t.kind) h)
