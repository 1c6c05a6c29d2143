-- What reading a form does to the limits' counts, and what its value has then.
use Rattle.std.proofs.Common.{◌≡◌, ℕ, ◌⊎◌, inl, inr, None, List, [], ◌∷◌, ◌++◌, refl, sym, subst}
use Rattle.pb_text.specs.declared.token.Token.{Token}
use Rattle.pb_text.specs.Tokens.{IsSoundKind}
use Rattle.pb_syntax.specs.Form.{Form, done, many, ◌or◌, Both, ManyText}
use Rattle.pb_syntax.specs.Form.{◌>>=◌ as ◌then◌}
use Rattle.pb_parse.specs.declared.limits.Counts.{Counts}
use Rattle.pb_parse.specs.declared.limits.Behind.{Behind}
use Rattle.pb_parse.specs.declared.limits.Behind.TheVariants as behind
use Rattle.pb_parse.specs.Limits.{passed, counts_next, counts_from}

-- tokens that are sound and pass no limit
abbrev pub AreFine : Counts → List Token → Type 0
AreFine c [] = Unit {0}
AreFine c (t ∷ ts) = ((passed c t ≡ None) × IsSoundKind t.kind) × AreFine (counts_next c t) ts

-- from these counts on, each text of the form leaves such counts and such a value
pub record Does {A : Type 0} (c : Counts) (form : Form A) (post : Counts → A → Type 0) : Type 0 where
  pub does : (ts : List Token) (x : A) → form.text ts x → AreFine c ts → post (counts_from c ts) x

-- a form of one token
pub record Step {A : Type 0} (c : Counts) (form : Form A) (next : Counts) (is : A → Type 0) : Type 0 where
  pub step : (ts : List Token) (x : A) → form.text ts x → AreFine c ts → (counts_from c ts ≡ next) × is x

pub fine_both : (c : Counts) (xs ys : List Token) → AreFine c (xs ++ ys) → AreFine c xs × AreFine (counts_from c xs) ys
fine_both c [] ys h = (tt, h)
fine_both c (x ∷ xs) ys h = let g = fine_both (counts_next c x) xs ys h.1 in ((h.0, g.0), g.1)

counts_both : (c : Counts) (xs ys : List Token) → counts_from c (xs ++ ys) ≡ counts_from (counts_from c xs) ys
counts_both c [] ys = refl
counts_both c (x ∷ xs) ys = counts_both (counts_next c x) xs ys

pub joined : {B : Type 0} (c : Counts) (ts xs ys : List Token) (y : B) (post : Counts → B → Type 0) → ts ≡ xs ++ ys → post (counts_from (counts_from c xs) ys) y → post (counts_from c ts) y
joined c ts xs ys y post e h = rw (e, counts_both c xs ys) h

module _ {A B : Type 0} {a : Form A} {f : A → Form B} {c : Counts} {post : Counts → B → Type 0} where
  pub after : {mid : Counts → A → Type 0} → Does c a mid → ((c1 : Counts) (x : A) → mid c1 x → Does c1 (f x) post) → Does c (a then f) post
  unfolding ◌then◌
  after d k = record { does = λ ts y h fine. both ts y h fine }
    where
      both : (ts : List Token) (y : B) → Both a.text (λ x. (f x).text) ts y → AreFine c ts → post (counts_from c ts) y
      both ts y h fine =
          let g = fine_both c h.head h.tail (subst (AreFine c) h.split fine) in
          joined c ts h.head h.tail y post h.split ((k _ _ (d.does h.head h.value h.whole g.0)).does h.tail y h.rest g.1)

  infixl 10 ◌>>>◌
  pub ◌>>>◌ : {next : Counts} {is : A → Type 0} → Step c a next is → ((x : A) → is x → Does next (f x) post) → Does c (a then f) post
  unfolding ◌then◌
  d >>> k = record { does = λ ts y h fine. both ts y h fine }
    where
      both : (ts : List Token) (y : B) → Both a.text (λ x. (f x).text) ts y → AreFine c ts → post (counts_from c ts) y
      both ts y h fine =
          let g = fine_both c h.head h.tail (subst (AreFine c) h.split fine) in
          let one = d.step h.head h.value h.whole g.0 in
          joined c ts h.head h.tail y post h.split ((subst (λ (c1 : Counts). Does c1 (f h.value) post) (sym one.0) (k h.value one.1)).does h.tail y h.rest g.1)

pub done_does : {A : Type 0} {c : Counts} (x : A) {post : Counts → A → Type 0} → post c x → Does c (done x) post
unfolding done
done_does {A} {c} x {post} p = record { does = λ ts y h fine. here ts y h }
  where
    here : (ts : List Token) (y : A) → (ts ≡ []) × (y ≡ x) → post (counts_from c ts) y
    here ts y h = rw (h.0, h.1) p

infixr 5 ◌or_does◌
pub ◌or_does◌ : {A : Type 0} {a b : Form A} {c : Counts} {post : Counts → A → Type 0} → Does c a post → Does c b post → Does c (a or b) post
unfolding ◌or◌
◌or_does◌ {A} {a} {b} {c} {post} da db = record { does = λ ts x h fine. either ts x h fine }
  where
    either : (ts : List Token) (x : A) → a.text ts x ⊎ b.text ts x → AreFine c ts → post (counts_from c ts) x
    either ts x (inl h) fine = da.does ts x h fine
    either ts x (inr h) fine = db.does ts x h fine

pub weaker : {A : Type 0} {form : Form A} {c : Counts} {p q : Counts → A → Type 0} → Does c form p → ((c1 : Counts) (x : A) → p c1 x → q c1 x) → Does c form q
weaker d k = record { does = λ ts x h fine. k _ x (d.does ts x h fine) }

-- any number of times: what none has, and what one more keeps
pub many_do : {A : Type 0} {a : Form A} {good : Counts → Counts → A → Type 0} {all : Counts → Counts → List A → Type 0} {from : Counts → Type 0}
    → ((c : Counts) → from c → Does c a (λ c1 x. from c1 × good c c1 x)) → ((c : Counts) → from c → all c c [])
    → ((c c1 c2 : Counts) (x : A) (xs : List A) → good c c1 x → all c1 c2 xs → all c c2 (x ∷ xs)) → (c : Counts) → from c → Does c (many a) (λ c1 xs. from c1 × all c c1 xs)
unfolding many
many_do {A} {a} {good} {all} {from} each_one none more c start = record { does = λ ts xs h fine. each c start ts xs h fine }
  where
    each : (c : Counts) → from c → (ts : List Token) (xs : List A) → ManyText a.text ts xs → AreFine c ts → from (counts_from c ts) × all c (counts_from c ts) xs
    each c start ts [] e fine = rw e (start, none c start)
    each c start ts (x ∷ xs) h fine =
        let g = fine_both c h.0 h.1 (subst (AreFine c) h.2 fine) in
        let p = (each_one c start).does h.0 x h.3 g.0 in
        let q = each (counts_from c h.0) p.0 h.1 xs h.4 g.1 in
        joined c ts h.0 h.1 (x ∷ xs) (λ c2 ys. from c2 × all c c2 ys) h.2 (q.0, more c (counts_from c h.0) (counts_from (counts_from c h.0) h.1) x xs p.1 q.1)

-- ---- forms that count nothing

abbrev pub co : ℕ → ℕ → ℕ → List ℕ → Behind → Counts
co d s r bs l = record { depth = d; statements = s; roles = r; branches = bs; last = l }

-- no statement begins behind it
abbrev pub IsInside : Behind → Type 0
IsInside behind.Boundary = ⊥
IsInside behind.ElementType = Unit {0}
IsInside behind.TypeBracket = Unit {0}
IsInside behind.Dots = Unit {0}
IsInside behind.Other = Unit {0}

pub record Quiet {A : Type 0} (d s r : ℕ) (bs : List ℕ) (l : Behind) (form : Form A) (good : A → Type 0) : Type 0 where
  pub quiet : Does (co d s r bs l) form (λ c x. ((c ≡ co d s r bs c.last) × IsInside c.last) × good x)

module _ {A B : Type 0} {a : Form A} {f : A → Form B} {d s r : ℕ} {bs : List ℕ} {l : Behind} {post : Counts → B → Type 0} where
  infixl 10 ◌>>=◌
  pub ◌>>=◌ : {good : A → Type 0} → Quiet d s r bs l a good → ((l1 : Behind) → IsInside l1 → (x : A) → good x → Does (co d s r bs l1) (f x) post) → Does (co d s r bs l) (a then f) post
  h >>= k = after h.quiet (λ c x p. subst (λ (c1 : Counts). Does c1 (f x) post) (sym p.0.0) (k c.last p.0.1 x p.1))
