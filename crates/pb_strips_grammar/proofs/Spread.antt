-- Readers that read the same are exact for forms that mean the same. Two such pairs: a choice in the other order, and a
-- choice with a further part behind it, which is a choice between two with that part behind each.
use Rattle.std.proofs.Common.{◌≡◌, ℕ, List, ◌++◌, ◌⊎◌, inl, inr, Bool, true, false, Result, Ok, Err, refl, sym, ap, subst, ◌∙◌}
use Rattle.std.specs.Prelude.{if◌then◌else◌}
use Rattle.std.proofs.lemmas.Bool.{cases_Bool}
use Rattle.pb_text.specs.declared.token.Token.{Token}
use Rattle.pb_syntax.specs.Form.{Form, done, ◌or◌, Both, Behind}
use Rattle.pb_syntax.specs.Form.{◌>>=◌ as ◌then◌}
use Rattle.pb_syntax.specs.Grammar.{kind_number}
use Rattle.pb_syntax.specs.Reading.{Reader, next, done_at, starts, choose, among}
use Rattle.pb_syntax.specs.Reading.{◌>>=◌ as ◌at◌}
use Rattle.pb_syntax.proofs.Exact.{Exact, Reads, Begins, Misses, done_reads, never, ◌>>=◌, either}
use Rattle.pb_syntax.proofs.Firsts.{first_then, inside, inside_ok}

-- what begins with one of these begins with one of more
more_among : (ms ns : List ℕ) → inside ms ns ≡ true → (t : Token) → among ms t ≡ true → among ns t ≡ true
more_among ms ns e t h = elim (cases_Bool (among ns t)) [
  | inl here ↦ here
  | inr other ↦ let none : among ms t ≡ false = inside_ok ms ns e (kind_number t.kind) other in cc
]

pub begins_in : {A : Type 0} {a : Form A} {ms ns : List ℕ} → Begins ms a → inside ms ns ≡ true → Begins ns a
begins_in {A} {a} {ms} {ns} first e = record { begins = λ xs x h. let g = first.begins xs x h in (g.0, g.1, g.2, more_among ms ns e g.0 g.3) }

-- two forms have the same texts, each front of the first is one of the second, and their readers read the same
record Means {A : Type 0} (f g : Form A) (r s : Reader A) : Type 0 where
  text : (ts : List Token) (x : A) → f.text ts x → g.text ts x
  back : (ts : List Token) (x : A) → g.text ts x → f.text ts x
  front : (ts : List Token) → f.front ts → g.front ts
  read : (ts : List Token) → r ts ≡ s ts

module _ {A : Type 0} {f g : Form A} {r s : Reader A} (means : Means f g r s) where
  means_exact : (ts : List Token) (o : Result (A × List Token) (List Token)) → Exact f r ts o → Exact g s ts o
  means_exact ts (Ok p) took = record { front = took.front; split = took.split; whole = means.text took.front p.0 took.whole; same = λ more h. sym (means.read (took.front ++ more)) ∙ took.same more h }
  means_exact ts (Err left) stuck = record { front = stuck.front; split = stuck.split; begun = means.front stuck.front stuck.begun; same = λ more h. sym (means.read (stuck.front ++ more)) ∙ stuck.same more h }

  means_reads : {goes : List ℕ} → Reads f r goes → Reads g s goes
  means_reads reads = record {
    exact = λ ts. means_exact ts (s ts) (subst (λ (o : Result (A × List Token) (List Token)). Exact f r ts o) (means.read ts) (reads.exact ts));
    all = λ xs rest x h stop. sym (means.read (xs ++ rest)) ∙ reads.all xs rest x (means.back xs x h) stop;
  }

other_way : {A B : Type 0} → A ⊎ B → B ⊎ A
other_way (inl x) = inr x
other_way (inr x) = inl x

pub turned : {A : Type 0} (a b : Form A) {r : Reader A} {goes : List ℕ} → Reads (a or b) r goes → Reads (b or a) r goes
unfolding ◌or◌
turned a b reads = means_reads (record { text = λ ts x h. other_way h; back = λ ts x h. other_way h; front = λ ts h. other_way h; read = λ ts. refl }) reads

next_if : {A B : Type 0} (rf : A → Reader B) (v : Bool) (x y : Result (A × List Token) (List Token)) → (if v then next x rf else next y rf) ≡ next (if v then x else y) rf
next_if rf true x y = refl
next_if rf false x y = refl

module _ {A B : Type 0} (a b : Form A) (f : A → Form B) where
  spread_text : (ts : List Token) (y : B) → Both a.text (λ x. (f x).text) ts y ⊎ Both b.text (λ x. (f x).text) ts y → Both (a or b).text (λ x. (f x).text) ts y
  unfolding ◌or◌
  spread_text ts y (inl h) = record { head = h.head; tail = h.tail; value = h.value; split = h.split; whole = inl h.whole; rest = h.rest }
  spread_text ts y (inr h) = record { head = h.head; tail = h.tail; value = h.value; split = h.split; whole = inr h.whole; rest = h.rest }

  spread_back : (ts : List Token) (y : B) → Both (a or b).text (λ x. (f x).text) ts y → Both a.text (λ x. (f x).text) ts y ⊎ Both b.text (λ x. (f x).text) ts y
  unfolding ◌or◌
  spread_back ts y h = elim h.whole [
    | inl w ↦ inl (record { head = h.head; tail = h.tail; value = h.value; split = h.split; whole = w; rest = h.rest })
    | inr w ↦ inr (record { head = h.head; tail = h.tail; value = h.value; split = h.split; whole = w; rest = h.rest })
  ]

  spread_front : (ts : List Token) → (a.front ts ⊎ Behind a.text (λ x. (f x).front) ts) ⊎ (b.front ts ⊎ Behind b.text (λ x. (f x).front) ts) → (a or b).front ts ⊎ Behind (a or b).text (λ x. (f x).front) ts
  unfolding ◌or◌
  spread_front ts (inl (inl h)) = inl (inl h)
  spread_front ts (inl (inr h)) = inr (record { head = h.head; tail = h.tail; value = h.value; split = h.split; whole = inl h.whole; rest = h.rest })
  spread_front ts (inr (inl h)) = inl (inr h)
  spread_front ts (inr (inr h)) = inr (record { head = h.head; tail = h.tail; value = h.value; split = h.split; whole = inr h.whole; rest = h.rest })

module _ {A B : Type 0} (test : List ℕ) (a b : Form A) (f : A → Form B) {ra rb : Reader A} {rf : A → Reader B} {goes : List ℕ} where
  spread : Reads ((a then f) or (b then f)) (choose (among test) (ra at rf) (rb at rf)) goes → Reads ((a or b) then f) (choose (among test) ra rb at rf) goes
  unfolding ◌then◌ ◌or◌
  spread reads = means_reads (record { text = spread_text a b f; back = spread_back a b f; front = spread_front a b f; read = λ ts. next_if rf (starts (among test) ts) (ra ts) (rb ts) }) reads

module _ {A B : Type 0} (x : A) (f : A → Form B) {ns goes : List ℕ} where
  misses_after : Misses ns (f x) goes → Misses ns (done x then f) goes
  unfolding ◌then◌ done
  misses_after m = record {
    misses = λ xs rest y h stop.
        let only : xs ≡ h.tail = h.split ∙ ap (λ (l : List Token). l ++ h.tail) h.whole.0 in
        let text : (f x).text h.tail y = subst (λ (v : A). (f v).text h.tail y) h.whole.1 h.rest in
        ap (λ (l : List Token). starts (among ns) (l ++ rest)) only ∙ m.misses h.tail rest y text stop;
  }

-- something or nothing, and a further part, which goes on with nothing that the something begins with where there was nothing
module _ {A B : Type 0} {a : Form A} {ra : Reader A} {none : A} {f : A → Form B} {rf : A → Reader B} {goes : List ℕ} (test : List ℕ) where
  pub or_nothing : Begins test a → Misses test (f none) goes → Reads a ra never → ((x : A) → Reads (f x) (rf x) goes) → Reads ((a or done none) then f) (choose (among test) ra (done_at none) at rf) goes
  or_nothing begins misses reads further = spread test a (done none) f (either test (first_then f begins) (misses_after none f misses) (reads >>= further) (done_reads none >>= further))
