-- A form has a text, what its fronts begin is a text, and what begins a text is a front.
use Rattle.std.proofs.Common.{◌≡◌, List, [], ◌∷◌, ◌++◌, ◌⊎◌, inl, inr, Option, Some, refl, sym, ap, subst, ◌∙◌, append_assoc}
use Rattle.std.proofs.lemmas.List.{append-nil}
use Rattle.pb_text.specs.declared.token.Token.{Token}
use Rattle.pb_syntax.specs.Form.{Form, done, one, many, ◌or◌, Both, Behind, ManyText, OneText, OneFront}
use Rattle.pb_syntax.specs.Form.{◌>>=◌ as ◌then◌}
use Rattle.pb_syntax.proofs.Split.{cuts, nil_front}

pub record Begins {A : Type 0} (f : Form A) (ts : List Token) : Type 0 where
  pub rest : List Token
  pub value : A
  pub whole : f.text (ts ++ rest) value

pub record Lawful {A : Type 0} (f : Form A) : Type 0 where
  pub tokens : List Token
  pub value : A
  pub whole : f.text tokens value
  pub grows : (ts : List Token) → f.front ts → Begins f ts
  pub shrinks : (ts rest : List Token) (x : A) → f.text (ts ++ rest) x → f.front ts

pub done_ok : {A : Type 0} → (x : A) → Lawful (done x)
unfolding done
done_ok x = record {
  tokens = [];
  value = x;
  whole = (refl, refl);
  grows = λ ts e. record { rest = []; value = x; whole = (append-nil ts ∙ e, refl) };
  shrinks = λ ts rest y h. nil_front ts rest h.0;
}

one_grows : {A : Type 0} → (reads : Token → Option A) (t : Token) (x : A) → reads t ≡ Some x → (ts : List Token) → OneFront reads ts → (rest : List Token) × (y : A) × OneText reads (ts ++ rest) y
one_grows reads t x e [] h = (t ∷ [], x, e)
one_grows reads t x e (u ∷ []) h = ([], h.0, h.1)
one_grows reads t x e (u ∷ v ∷ ts) h = absurd h

one_shrinks : {A : Type 0} → (reads : Token → Option A) (ts rest : List Token) (x : A) → OneText reads (ts ++ rest) x → OneFront reads ts
one_shrinks reads [] rest x h = tt
one_shrinks reads (t ∷ []) [] x h = (x, h)
one_shrinks reads (t ∷ []) (u ∷ rest) x h = absurd h
one_shrinks reads (t ∷ u ∷ ts) rest x h = absurd h

pub one_ok : {A : Type 0} → (reads : Token → Option A) (t : Token) (x : A) → reads t ≡ Some x → Lawful (one reads)
unfolding one
one_ok reads t x e = record {
  tokens = t ∷ [];
  value = x;
  whole = e;
  grows = λ ts h. let g = one_grows reads t x e ts h in record { rest = g.0; value = g.1; whole = g.2 };
  shrinks = one_shrinks reads;
}

module _ {A B : Type 0} {a : Form A} {f : A → Form B} where
  then_shrinks : Lawful a → ((x : A) → Lawful (f x)) → (ts rest : List Token) (y : B) → Both a.text (λ x. (f x).text) (ts ++ rest) y → a.front ts ⊎ Behind a.text (λ x. (f x).front) ts
  then_shrinks la lf ts rest y h = elim (cuts ts rest h.head h.tail h.split) [
    | inl p ↦ inl (la.shrinks ts p.mid h.value (subst (λ (l : List Token). a.text l h.value) p.longer h.whole))
    | inr p ↦ inr (record {
      head = h.head;
      tail = p.mid;
      value = h.value;
      split = p.front;
      whole = h.whole;
      rest = (lf h.value).shrinks p.mid rest y (subst (λ (l : List Token). (f h.value).text l y) p.left h.rest);
    })
  ]

  then_grows : Lawful a → ((x : A) → Lawful (f x)) → (ts : List Token) → a.front ts ⊎ Behind a.text (λ x. (f x).front) ts → (rest : List Token) × (y : B) × Both a.text (λ x. (f x).text) (ts ++ rest) y
  then_grows la lf ts (inl h) =
      let g = la.grows ts h in
      let more = lf g.value in
      (g.rest ++ more.tokens, more.value, record { head = ts ++ g.rest; tail = more.tokens; value = g.value; split = sym (append_assoc ts g.rest more.tokens); whole = g.whole; rest = more.whole })
  then_grows la lf ts (inr h) =
      let g = (lf h.value).grows h.tail h.rest in
      (g.rest, g.value, record { head = h.head; tail = h.tail ++ g.rest; value = h.value; split = ap (λ (l : List Token). l ++ g.rest) h.split ∙ append_assoc h.head h.tail g.rest; whole = h.whole; rest = g.whole })

  infixl 10 ◌>>=◌
  pub ◌>>=◌ : Lawful a → ((x : A) → Lawful (f x)) → Lawful (a then f)
  unfolding ◌then◌
  la >>= lf = record {
    tokens = la.tokens ++ (lf la.value).tokens;
    value = (lf la.value).value;
    whole = record { head = la.tokens; tail = (lf la.value).tokens; value = la.value; split = refl; whole = la.whole; rest = (lf la.value).whole };
    grows = λ ts h. let g = then_grows la lf ts h in record { rest = g.0; value = g.1; whole = g.2 };
    shrinks = then_shrinks la lf;
  }

module _ {A : Type 0} {a b : Form A} where
  either_grows : Lawful a → Lawful b → (ts : List Token) → a.front ts ⊎ b.front ts → (rest : List Token) × (y : A) × (a.text (ts ++ rest) y ⊎ b.text (ts ++ rest) y)
  either_grows la lb ts (inl h) = let g = la.grows ts h in (g.rest, g.value, inl g.whole)
  either_grows la lb ts (inr h) = let g = lb.grows ts h in (g.rest, g.value, inr g.whole)

  either_shrinks : Lawful a → Lawful b → (ts rest : List Token) (x : A) → a.text (ts ++ rest) x ⊎ b.text (ts ++ rest) x → a.front ts ⊎ b.front ts
  either_shrinks la lb ts rest x (inl h) = inl (la.shrinks ts rest x h)
  either_shrinks la lb ts rest x (inr h) = inr (lb.shrinks ts rest x h)

  infixr 5 ◌or_ok◌
  pub ◌or_ok◌ : Lawful a → Lawful b → Lawful (a or b)
  unfolding ◌or◌
  la or_ok lb = record {
    tokens = la.tokens;
    value = la.value;
    whole = inl la.whole;
    grows = λ ts h. let g = either_grows la lb ts h in record { rest = g.0; value = g.1; whole = g.2 };
    shrinks = either_shrinks la lb;
  }

module _ {A : Type 0} (a : Form A) where
  one_more : (xs ys : List Token) (list : List A) (x : A) → ManyText a.text xs list → a.text ys x → ManyText a.text (xs ++ ys) (list ++ x ∷ [])
  one_more xs ys [] x none h = (ys, [], ap (λ (l : List Token). l ++ ys) none ∙ sym (append-nil ys), h, refl)
  one_more xs ys (y ∷ list) x some h =
      (some.0, some.1 ++ ys, ap (λ (l : List Token). l ++ ys) some.2 ∙ append_assoc some.0 some.1 ys, some.3, one_more some.1 ys list x some.4 h)

  many_grows : Lawful a → (ts : List Token) → (ts ≡ []) ⊎ Behind (ManyText a.text) (λ (xs : List A). a.front) ts → (rest : List Token) × (list : List A) × ManyText a.text (ts ++ rest) list
  many_grows la ts (inl none) = ([], [], append-nil ts ∙ none)
  many_grows la ts (inr h) =
      let g = la.grows h.tail h.rest in
      let again : h.head ++ (h.tail ++ g.rest) ≡ ts ++ g.rest = sym (ap (λ (l : List Token). l ++ g.rest) h.split ∙ append_assoc h.head h.tail g.rest) in
      (g.rest, h.value ++ g.value ∷ [], subst (λ (l : List Token). ManyText a.text l (h.value ++ g.value ∷ [])) again (one_more h.head (h.tail ++ g.rest) h.value g.value h.whole g.whole))

  pub later : (ts head mid : List Token) (x : A) → a.front [] → ts ≡ head ++ mid → a.text head x → (mid ≡ []) ⊎ Behind (ManyText a.text) (λ (xs : List A). a.front) mid → (ts ≡ []) ⊎ Behind (ManyText a.text) (λ (xs : List A). a.front) ts
  later ts head mid x empty split whole (inl none) =
      inr (record { head = head; tail = []; value = x ∷ []; split = split ∙ ap (λ (l : List Token). head ++ l) none; whole = (head, [], sym (append-nil head), whole, refl); rest = empty })
  later ts head mid x empty split whole (inr h) =
      inr (record { head = head ++ h.head; tail = h.tail; value = x ∷ h.value; split = split ∙ ap (λ (l : List Token). head ++ l) h.split ∙ sym (append_assoc head h.head h.tail); whole = (head, h.head, refl, whole, h.whole); rest = h.rest })

  many_shrinks : Lawful a → (ts rest : List Token) (list : List A) → ManyText a.text (ts ++ rest) list → (ts ≡ []) ⊎ Behind (ManyText a.text) (λ (xs : List A). a.front) ts
  many_shrinks la ts rest [] none = inl (nil_front ts rest none)
  many_shrinks la ts rest (x ∷ list) some = elim (cuts ts rest some.0 some.1 some.2) [
    | inl p ↦ inr (record { head = []; tail = ts; value = []; split = refl; whole = refl; rest = la.shrinks ts p.mid x (subst (λ (l : List Token). a.text l x) p.longer some.3) })
    | inr p ↦ later ts some.0 p.mid x (la.shrinks [] la.tokens la.value la.whole) p.front some.3
        (many_shrinks la p.mid rest list (subst (λ (l : List Token). ManyText a.text l list) p.left some.4))
  ]

  many_lawful : Lawful a → Lawful (many a)
  unfolding many
  many_lawful la = record {
    tokens = [];
    value = [];
    whole = refl;
    grows = λ ts h. let g = many_grows la ts h in record { rest = g.0; value = g.1; whole = g.2 };
    shrinks = many_shrinks la;
  }

pub many_ok : {A : Type 0} {a : Form A} → Lawful a → Lawful (many a)
many_ok {A} {a} la = many_lawful a la
