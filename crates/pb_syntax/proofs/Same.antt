-- Two forms with the same texts and the same fronts.
use Rattle.std.proofs.Common.{◌≡◌, List, [], ◌++◌, ◌⊎◌, inl, inr, refl, sym, ap, subst, ◌∙◌, append_assoc}
use Rattle.pb_text.specs.declared.token.Token.{Token}
use Rattle.pb_syntax.specs.Form.{Form, done, ◌or◌, ◌>>=◌, Both, Behind}
use Rattle.pb_syntax.specs.Laws.{Same}

pub same : {A : Type 0} {f : Form A} → Same f f
same = record { to = λ ts x h. h; from = λ ts x h. h; front_to = λ ts h. h; front_from = λ ts h. h }

pub same_sym : {A : Type 0} {f g : Form A} → Same f g → Same g f
same_sym p = record { to = p.from; from = p.to; front_to = p.front_from; front_from = p.front_to }

pub same_trans : {A : Type 0} {f g h : Form A} → Same f g → Same g h → Same f h
same_trans p q = record {
  to = λ ts x w. q.to ts x (p.to ts x w);
  from = λ ts x w. p.from ts x (q.from ts x w);
  front_to = λ ts w. q.front_to ts (p.front_to ts w);
  front_from = λ ts w. p.front_from ts (q.front_from ts w);
}

module _ {A B : Type 0} (a : Form A) (f g : A → Form B) (p : (x : A) → Same (f x) (g x)) where
  next_front : (ts : List Token) → a.front ts ⊎ Behind a.text (λ x. (f x).front) ts → a.front ts ⊎ Behind a.text (λ x. (g x).front) ts
  next_front ts (inl h) = inl h
  next_front ts (inr h) = inr (record { head = h.head; tail = h.tail; value = h.value; split = h.split; whole = h.whole; rest = (p h.value).front_to h.tail h.rest })

  next_text : (ts : List Token) (y : B) → Both a.text (λ x. (f x).text) ts y → Both a.text (λ x. (g x).text) ts y
  next_text ts y h = record { head = h.head; tail = h.tail; value = h.value; split = h.split; whole = h.whole; rest = (p h.value).to h.tail y h.rest }

-- the first part stays
pub behind : {A B : Type 0} (a : Form A) {f g : A → Form B} → ((x : A) → Same (f x) (g x)) → Same (a >>= f) (a >>= g)
unfolding ◌>>=◌
behind a {f} {g} p = record {
  to = next_text a f g p;
  from = next_text a g f (λ x. same_sym (p x));
  front_to = next_front a f g p;
  front_from = next_front a g f (λ x. same_sym (p x));
}

module _ {A : Type 0} (a b c d : Form A) (p : Same a c) (q : Same b d) where
  or_text : (ts : List Token) (x : A) → a.text ts x ⊎ b.text ts x → c.text ts x ⊎ d.text ts x
  or_text ts x (inl h) = inl (p.to ts x h)
  or_text ts x (inr h) = inr (q.to ts x h)

  or_front : (ts : List Token) → a.front ts ⊎ b.front ts → c.front ts ⊎ d.front ts
  or_front ts (inl h) = inl (p.front_to ts h)
  or_front ts (inr h) = inr (q.front_to ts h)

infixr 5 ◌or_same◌
pub ◌or_same◌ : {A : Type 0} {a b c d : Form A} → Same a c → Same b d → Same (a or b) (c or d)
unfolding ◌or◌
◌or_same◌ {A} {a} {b} {c} {d} p q = record {
  to = or_text a b c d p q;
  from = or_text c d a b (same_sym p) (same_sym q);
  front_to = or_front a b c d p q;
  front_from = or_front c d a b (same_sym p) (same_sym q);
}

swap : {P Q : Type 0} → P ⊎ Q → Q ⊎ P
swap (inl h) = inr h
swap (inr h) = inl h

pub turned : {A : Type 0} (a b : Form A) → Same (a or b) (b or a)
unfolding ◌or◌
turned a b = record { to = λ ts x h. swap h; from = λ ts x h. swap h; front_to = λ ts h. swap h; front_from = λ ts h. swap h }

module _ {A B : Type 0} (a : Form A) (f g : A → Form B) where
  spread_text : (ts : List Token) (y : B) → Both a.text (λ x zs z. (f x).text zs z ⊎ (g x).text zs z) ts y → Both a.text (λ x. (f x).text) ts y ⊎ Both a.text (λ x. (g x).text) ts y
  spread_text ts y h = elim h.rest [
    | inl w ↦ inl (record { head = h.head; tail = h.tail; value = h.value; split = h.split; whole = h.whole; rest = w })
    | inr w ↦ inr (record { head = h.head; tail = h.tail; value = h.value; split = h.split; whole = h.whole; rest = w })
  ]

  gather_text : (ts : List Token) (y : B) → Both a.text (λ x. (f x).text) ts y ⊎ Both a.text (λ x. (g x).text) ts y → Both a.text (λ x zs z. (f x).text zs z ⊎ (g x).text zs z) ts y
  gather_text ts y (inl h) = record { head = h.head; tail = h.tail; value = h.value; split = h.split; whole = h.whole; rest = inl h.rest }
  gather_text ts y (inr h) = record { head = h.head; tail = h.tail; value = h.value; split = h.split; whole = h.whole; rest = inr h.rest }

  spread_front : (ts : List Token) → a.front ts ⊎ Behind a.text (λ x zs. (f x).front zs ⊎ (g x).front zs) ts → (a.front ts ⊎ Behind a.text (λ x. (f x).front) ts) ⊎ (a.front ts ⊎ Behind a.text (λ x. (g x).front) ts)
  spread_front ts (inl h) = inl (inl h)
  spread_front ts (inr h) = elim h.rest [
    | inl w ↦ inl (inr (record { head = h.head; tail = h.tail; value = h.value; split = h.split; whole = h.whole; rest = w }))
    | inr w ↦ inr (inr (record { head = h.head; tail = h.tail; value = h.value; split = h.split; whole = h.whole; rest = w }))
  ]

  gather_front : (ts : List Token) → (a.front ts ⊎ Behind a.text (λ x. (f x).front) ts) ⊎ (a.front ts ⊎ Behind a.text (λ x. (g x).front) ts) → a.front ts ⊎ Behind a.text (λ x zs. (f x).front zs ⊎ (g x).front zs) ts
  gather_front ts (inl (inl h)) = inl h
  gather_front ts (inl (inr h)) = inr (record { head = h.head; tail = h.tail; value = h.value; split = h.split; whole = h.whole; rest = inl h.rest })
  gather_front ts (inr (inl h)) = inl h
  gather_front ts (inr (inr h)) = inr (record { head = h.head; tail = h.tail; value = h.value; split = h.split; whole = h.whole; rest = inr h.rest })

-- alternatives behind a part are alternatives
pub spread : {A B : Type 0} (a : Form A) (f g : A → Form B) → Same (a >>= (λ x. f x or g x)) ((a >>= f) or (a >>= g))
unfolding ◌or◌ ◌>>=◌
spread a f g = record { to = spread_text a f g; from = gather_text a f g; front_to = spread_front a f g; front_from = gather_front a f g }

module _ {A B : Type 0} (a b : Form A) (k : A → Form B) where
  share_text : (ts : List Token) (y : B) → Both (λ zs x. a.text zs x ⊎ b.text zs x) (λ x. (k x).text) ts y → Both a.text (λ x. (k x).text) ts y ⊎ Both b.text (λ x. (k x).text) ts y
  share_text ts y h = elim h.whole [
    | inl w ↦ inl (record { head = h.head; tail = h.tail; value = h.value; split = h.split; whole = w; rest = h.rest })
    | inr w ↦ inr (record { head = h.head; tail = h.tail; value = h.value; split = h.split; whole = w; rest = h.rest })
  ]

  unshare_text : (ts : List Token) (y : B) → Both a.text (λ x. (k x).text) ts y ⊎ Both b.text (λ x. (k x).text) ts y → Both (λ zs x. a.text zs x ⊎ b.text zs x) (λ x. (k x).text) ts y
  unshare_text ts y (inl h) = record { head = h.head; tail = h.tail; value = h.value; split = h.split; whole = inl h.whole; rest = h.rest }
  unshare_text ts y (inr h) = record { head = h.head; tail = h.tail; value = h.value; split = h.split; whole = inr h.whole; rest = h.rest }

  share_front : (ts : List Token) → (a.front ts ⊎ b.front ts) ⊎ Behind (λ zs x. a.text zs x ⊎ b.text zs x) (λ x. (k x).front) ts → (a.front ts ⊎ Behind a.text (λ x. (k x).front) ts) ⊎ (b.front ts ⊎ Behind b.text (λ x. (k x).front) ts)
  share_front ts (inl (inl h)) = inl (inl h)
  share_front ts (inl (inr h)) = inr (inl h)
  share_front ts (inr h) = elim h.whole [
    | inl w ↦ inl (inr (record { head = h.head; tail = h.tail; value = h.value; split = h.split; whole = w; rest = h.rest }))
    | inr w ↦ inr (inr (record { head = h.head; tail = h.tail; value = h.value; split = h.split; whole = w; rest = h.rest }))
  ]

  unshare_front : (ts : List Token) → (a.front ts ⊎ Behind a.text (λ x. (k x).front) ts) ⊎ (b.front ts ⊎ Behind b.text (λ x. (k x).front) ts) → (a.front ts ⊎ b.front ts) ⊎ Behind (λ zs x. a.text zs x ⊎ b.text zs x) (λ x. (k x).front) ts
  unshare_front ts (inl (inl h)) = inl (inl h)
  unshare_front ts (inl (inr h)) = inr (record { head = h.head; tail = h.tail; value = h.value; split = h.split; whole = inl h.whole; rest = h.rest })
  unshare_front ts (inr (inl h)) = inl (inr h)
  unshare_front ts (inr (inr h)) = inr (record { head = h.head; tail = h.tail; value = h.value; split = h.split; whole = inr h.whole; rest = h.rest })

-- what stands behind alternatives stands behind each
pub share : {A B : Type 0} (a b : Form A) (k : A → Form B) → Same ((a or b) >>= k) ((a >>= k) or (b >>= k))
unfolding ◌or◌ ◌>>=◌
share a b k = record { to = share_text a b k; from = unshare_text a b k; front_to = share_front a b k; front_from = unshare_front a b k }

module _ {A B C : Type 0} (a : Form A) (f : A → Form B) (k : B → Form C) where
  flat_text : (ts : List Token) (y : C) → Both (Both a.text (λ x. (f x).text)) (λ x. (k x).text) ts y → Both a.text (λ x. Both (f x).text (λ z. (k z).text)) ts y
  flat_text ts y h = record {
    head = h.whole.head;
    tail = h.whole.tail ++ h.tail;
    value = h.whole.value;
    split = h.split ∙ ap (λ (l : List Token). l ++ h.tail) h.whole.split ∙ append_assoc h.whole.head h.whole.tail h.tail;
    whole = h.whole.whole;
    rest = record { head = h.whole.tail; tail = h.tail; value = h.value; split = refl; whole = h.whole.rest; rest = h.rest };
  }

  deep_text : (ts : List Token) (y : C) → Both a.text (λ x. Both (f x).text (λ z. (k z).text)) ts y → Both (Both a.text (λ x. (f x).text)) (λ x. (k x).text) ts y
  deep_text ts y h = record {
    head = h.head ++ h.rest.head;
    tail = h.rest.tail;
    value = h.rest.value;
    split = h.split ∙ ap (λ (l : List Token). h.head ++ l) h.rest.split ∙ sym (append_assoc h.head h.rest.head h.rest.tail);
    whole = record { head = h.head; tail = h.rest.head; value = h.value; split = refl; whole = h.whole; rest = h.rest.whole };
    rest = h.rest.rest;
  }

  flat_front : (ts : List Token) → (a.front ts ⊎ Behind a.text (λ x. (f x).front) ts) ⊎ Behind (Both a.text (λ x. (f x).text)) (λ x. (k x).front) ts → a.front ts ⊎ Behind a.text (λ x zs. (f x).front zs ⊎ Behind (f x).text (λ z. (k z).front) zs) ts
  flat_front ts (inl (inl h)) = inl h
  flat_front ts (inl (inr h)) = inr (record { head = h.head; tail = h.tail; value = h.value; split = h.split; whole = h.whole; rest = inl h.rest })
  flat_front ts (inr h) = inr (record {
    head = h.whole.head;
    tail = h.whole.tail ++ h.tail;
    value = h.whole.value;
    split = h.split ∙ ap (λ (l : List Token). l ++ h.tail) h.whole.split ∙ append_assoc h.whole.head h.whole.tail h.tail;
    whole = h.whole.whole;
    rest = inr (record { head = h.whole.tail; tail = h.tail; value = h.value; split = refl; whole = h.whole.rest; rest = h.rest });
  })

  deep_front : (ts : List Token) → a.front ts ⊎ Behind a.text (λ x zs. (f x).front zs ⊎ Behind (f x).text (λ z. (k z).front) zs) ts → (a.front ts ⊎ Behind a.text (λ x. (f x).front) ts) ⊎ Behind (Both a.text (λ x. (f x).text)) (λ x. (k x).front) ts
  deep_front ts (inl h) = inl (inl h)
  deep_front ts (inr h) = elim h.rest [
    | inl w ↦ inl (inr (record { head = h.head; tail = h.tail; value = h.value; split = h.split; whole = h.whole; rest = w }))
    | inr w ↦ inr (record {
      head = h.head ++ w.head;
      tail = w.tail;
      value = w.value;
      split = h.split ∙ ap (λ (l : List Token). h.head ++ l) w.split ∙ sym (append_assoc h.head w.head w.tail);
      whole = record { head = h.head; tail = w.head; value = h.value; split = refl; whole = h.whole; rest = w.whole };
      rest = w.rest;
    })
  ]

-- three parts, however they are put together
pub flat : {A B C : Type 0} (a : Form A) (f : A → Form B) (k : B → Form C) → Same ((a >>= f) >>= k) (a >>= (λ x. f x >>= k))
unfolding ◌>>=◌
flat a f k = record { to = flat_text a f k; from = deep_text a f k; front_to = flat_front a f k; front_from = deep_front a f k }

module _ {A B : Type 0} (x : A) (k : A → Form B) where
  drop_text : (ts : List Token) (y : B) → Both (λ zs z. (zs ≡ []) × (z ≡ x)) (λ z. (k z).text) ts y → (k x).text ts y
  drop_text ts y h =
      let all : h.tail ≡ ts = sym (h.split ∙ ap (λ (l : List Token). l ++ h.tail) h.whole.0) in
      subst (λ (l : List Token). (k x).text l y) all (subst (λ (z : A). (k z).text h.tail y) h.whole.1 h.rest)

  drop_front : (k x).front [] → (ts : List Token) → (ts ≡ []) ⊎ Behind (λ zs z. (zs ≡ []) × (z ≡ x)) (λ z. (k z).front) ts → (k x).front ts
  drop_front empty ts (inl h) = subst (k x).front (sym h) empty
  drop_front empty ts (inr h) =
      let all : h.tail ≡ ts = sym (h.split ∙ ap (λ (l : List Token). l ++ h.tail) h.whole.0) in
      subst (λ (l : List Token). (k x).front l) all (subst (λ (z : A). (k z).front h.tail) h.whole.1 h.rest)

-- a first part without tokens
pub done_first : {A B : Type 0} (x : A) (k : A → Form B) → (k x).front [] → Same (done x >>= k) (k x)
unfolding ◌>>=◌ done
done_first x k empty = record {
  to = drop_text x k;
  from = λ ts y h. record { head = []; tail = ts; value = x; split = refl; whole = (refl, refl); rest = h };
  front_to = drop_front x k empty;
  front_from = λ ts h. inr (record { head = []; tail = ts; value = x; split = refl; whole = (refl, refl); rest = h });
}

pub or_flat : {A : Type 0} (a b c : Form A) → Same ((a or b) or c) (a or (b or c))
unfolding ◌or◌
or_flat a b c = record { to = λ ts x h. left h; from = λ ts x h. right h; front_to = λ ts h. left h; front_from = λ ts h. right h }
  where
    left : {P Q R : Type 0} → (P ⊎ Q) ⊎ R → P ⊎ (Q ⊎ R)
    left (inl (inl h)) = inl h
    left (inl (inr h)) = inr (inl h)
    left (inr h) = inr (inr h)

    right : {P Q R : Type 0} → P ⊎ (Q ⊎ R) → (P ⊎ Q) ⊎ R
    right (inl h) = inl (inl h)
    right (inr (inl h)) = inl (inr h)
    right (inr (inr h)) = inr h
