-- What reading a form does to what is seen, and what its value has then.
use Rattle.std.proofs.Common.{◌≡◌, ℕ, suc, ◌+◌, if◌then◌else◌, ◌⊎◌, inl, inr, List, [], ◌∷◌, ◌++◌, length, refl, sym, subst, ap₂, arith}
use Rattle.std.proofs.lemmas.List.{length-append}
use Rattle.pb_text.specs.declared.token.Token.{Token}
use Rattle.pb_syntax.specs.Form.{Form, done, many, ◌or◌, Both, ManyText}
use Rattle.pb_syntax.specs.Form.{◌>>=◌ as ◌then◌}
use Rattle.pb_parse.specs.declared.limits.Behind.{Behind}
use Rattle.pb_parse.specs.Limits.{sort_of}
use Rattle.pb_parse_laws.proofs.Seen.{Seen, seen_next, seen_from, AreFine}

-- from what was seen on, each text of the form within the limits leaves this much seen, tokens read and a value
pub record Does {A : Type 0} (s : Seen) (form : Form A) (post : Seen → ℕ → A → Type 0) : Type 0 where
  pub does : (ts : List Token) (x : A) → form.text ts x → AreFine s ts → post (seen_from s ts) (length ts) x

-- a form of one token
pub record Step {A : Type 0} (s : Seen) (form : Form A) (next : Seen) (is : A → Type 0) : Type 0 where
  pub step : (ts : List Token) (x : A) → form.text ts x → AreFine s ts → (seen_from s ts ≡ next) × ((length ts ≡ 1) × is x)

abbrev pub seen : ℕ → ℕ → Behind → Seen
seen d r l = record { depth = d; roles = r; last = l }

-- a form that leaves braces and roles as they were
pub record Stays {A : Type 0} (d r : ℕ) (l : Behind) (form : Form A) (good : ℕ → A → Type 0) : Type 0 where
  pub stays : Does (seen d r l) form (λ s n x. (s.depth ≡ d) × ((s.roles ≡ r) × good n x))

pub same_seen : (s : Seen) (d r : ℕ) → s.depth ≡ d → s.roles ≡ r → s ≡ seen d r s.last
same_seen s d r e m = ap₂ (λ a b. seen a b s.last) e m

pub fine_both : (s : Seen) (xs ys : List Token) → AreFine s (xs ++ ys) → AreFine s xs × AreFine (seen_from s xs) ys
fine_both s [] ys h = (tt, h)
fine_both s (x ∷ xs) ys h = let g = fine_both (seen_next s (sort_of x.kind)) xs ys h.1 in ((h.0, g.0), g.1)

pub seen_both : (s : Seen) (xs ys : List Token) → seen_from s (xs ++ ys) ≡ seen_from (seen_from s xs) ys
seen_both s [] ys = refl
seen_both s (x ∷ xs) ys = seen_both (seen_next s (sort_of x.kind)) xs ys

pub joined : {B : Type 0} (s : Seen) (ts xs ys : List Token) (y : B) (post : Seen → ℕ → B → Type 0) → ts ≡ xs ++ ys → post (seen_from (seen_from s xs) ys) (length xs + length ys) y → post (seen_from s ts) (length ts) y
joined s ts xs ys y post e h = rw (e, seen_both s xs ys, length-append xs ys) h

module _ {A B : Type 0} {a : Form A} {f : A → Form B} {s : Seen} {post : Seen → ℕ → B → Type 0} where
  pub after : {mid : Seen → ℕ → A → Type 0} → Does s a mid → ((s1 : Seen) (n : ℕ) (x : A) → mid s1 n x → Does s1 (f x) (λ s2 k y. post s2 (n + k) y)) → Does s (a then f) post
  unfolding ◌then◌
  after d k = record { does = λ ts y h fine. both ts y h fine }
    where
      both : (ts : List Token) (y : B) → Both a.text (λ x. (f x).text) ts y → AreFine s ts → post (seen_from s ts) (length ts) y
      both ts y h fine =
          let g = fine_both s h.head h.tail (subst (AreFine s) h.split fine) in
          joined s ts h.head h.tail y post h.split ((k _ _ h.value (d.does h.head h.value h.whole g.0)).does h.tail y h.rest g.1)

  infixl 10 ◌>>>◌
  pub ◌>>>◌ : {next : Seen} {is : A → Type 0} → Step s a next is → ((x : A) → is x → Does next (f x) (λ s2 k y. post s2 (suc k) y)) → Does s (a then f) post
  unfolding ◌then◌
  d >>> k = record { does = λ ts y h fine. both ts y h fine }
    where
      moved : (s1 next : Seen) (n : ℕ) (x : A) → s1 ≡ next → n ≡ 1 → Does next (f x) (λ s2 k y. post s2 (suc k) y) → Does s1 (f x) (λ s2 k y. post s2 (n + k) y)
      moved s1 next n x e m does = rw (e, m) (record { does = λ ts y h fine. rw (one_more (length ts)) (does.does ts y h fine) })
        where
          one_more : (k : ℕ) → 1 + k ≡ suc k
          one_more k = omega arith

      both : (ts : List Token) (y : B) → Both a.text (λ x. (f x).text) ts y → AreFine s ts → post (seen_from s ts) (length ts) y
      both ts y h fine =
          let g = fine_both s h.head h.tail (subst (AreFine s) h.split fine) in
          let one = d.step h.head h.value h.whole g.0 in
          joined s ts h.head h.tail y post h.split ((moved _ _ _ h.value one.0 one.1.0 (k h.value one.1.1)).does h.tail y h.rest g.1)

pub done_does : {A : Type 0} {s : Seen} (x : A) {post : Seen → ℕ → A → Type 0} → post s 0 x → Does s (done x) post
unfolding done
done_does {A} {s} x {post} p = record { does = λ ts y h fine. here ts y h }
  where
    here : (ts : List Token) (y : A) → (ts ≡ []) × (y ≡ x) → post (seen_from s ts) (length ts) y
    here ts y h = rw (h.0, h.1) p

infixr 5 ◌or_does◌
pub ◌or_does◌ : {A : Type 0} {a b : Form A} {s : Seen} {post : Seen → ℕ → A → Type 0} → Does s a post → Does s b post → Does s (a or b) post
unfolding ◌or◌
◌or_does◌ {A} {a} {b} {s} {post} da db = record { does = λ ts x h fine. either ts x h fine }
  where
    either : (ts : List Token) (x : A) → a.text ts x ⊎ b.text ts x → AreFine s ts → post (seen_from s ts) (length ts) x
    either ts x (inl h) fine = da.does ts x h fine
    either ts x (inr h) fine = db.does ts x h fine

pub weaker : {A : Type 0} {form : Form A} {s : Seen} {p q : Seen → ℕ → A → Type 0} → Does s form p → ((s1 : Seen) (n : ℕ) (x : A) → p s1 n x → q s1 n x) → Does s form q
weaker d k = record { does = λ ts x h fine. k _ _ x (d.does ts x h fine) }

-- ---- forms that leave braces and roles as they were

module _ {A B : Type 0} {a : Form A} {f : A → Form B} {d r : ℕ} {l : Behind} {post : Seen → ℕ → B → Type 0} where
  infixl 10 ◌>>=◌
  pub ◌>>=◌ : {good : ℕ → A → Type 0} → Stays d r l a good → ((l1 : Behind) (n : ℕ) (x : A) → good n x → Does (seen d r l1) (f x) (λ s k y. post s (n + k) y)) → Does (seen d r l) (a then f) post
  h >>= k = after h.stays (λ s n x p. same s n x p.0 p.1.0 (k s.last n x p.1.1))
    where
      same : (s : Seen) (n : ℕ) (x : A) → s.depth ≡ d → s.roles ≡ r → Does (seen d r s.last) (f x) (λ s1 k y. post s1 (n + k) y) → Does s (f x) (λ s1 k y. post s1 (n + k) y)
      same s n x e m does = subst (λ (s1 : Seen). Does s1 (f x) (λ s2 k y. post s2 (n + k) y)) (sym (same_seen s d r e m)) does

pub done_stays : {A : Type 0} {d r : ℕ} {l : Behind} (x : A) {good : ℕ → A → Type 0} → good 0 x → Stays d r l (done x) good
done_stays x p = record { stays = done_does x (refl, (refl, p)) }

pub softer : {A : Type 0} {form : Form A} {d r : ℕ} {l : Behind} {p q : ℕ → A → Type 0} → Stays d r l form p → ((n : ℕ) (x : A) → p n x → q n x) → Stays d r l form q
softer h k = record { stays = weaker h.stays (λ s n x p. (p.0, (p.1.0, k n x p.1.1))) }

infixr 5 ◌or_stays◌
pub ◌or_stays◌ : {A : Type 0} {a b : Form A} {d r : ℕ} {l : Behind} {good : ℕ → A → Type 0} → Stays d r l a good → Stays d r l b good → Stays d r l (a or b) good
x or_stays y = record { stays = x.stays or_does y.stays }

-- any number of times: what none has, and what one more keeps
pub many_stays : {A : Type 0} {a : Form A} {d r : ℕ} {good : ℕ → A → Type 0} {all : ℕ → List A → Type 0}
    → ((l : Behind) → Stays d r l a good) → all 0 [] → ((n k : ℕ) (x : A) (xs : List A) → good n x → all k xs → all (n + k) (x ∷ xs)) → (l : Behind) → Stays d r l (many a) all
unfolding many
many_stays {A} {a} {d} {r} {good} {all} each_one none more l = record { stays = record { does = λ ts xs h fine. each l ts xs h fine } }
  where
    each : (l : Behind) (ts : List Token) (xs : List A) → ManyText a.text ts xs → AreFine (seen d r l) ts → ((seen_from (seen d r l) ts).depth ≡ d) × (((seen_from (seen d r l) ts).roles ≡ r) × all (length ts) xs)
    each l ts [] e fine = rw e (refl, (refl, none))
    each l ts (x ∷ xs) h fine =
        let g = fine_both (seen d r l) h.0 h.1 (subst (AreFine (seen d r l)) h.2 fine) in
        let p = (each_one l).stays.does h.0 x h.3 g.0 in
        let s = seen_from (seen d r l) h.0 in
        let same : s ≡ seen d r s.last = same_seen s d r p.0 p.1.0 in
        let q = each s.last h.1 xs h.4 (subst (λ (s1 : Seen). AreFine s1 h.1) same g.1) in
        joined (seen d r l) ts h.0 h.1 (x ∷ xs) (λ s1 n ys. (s1.depth ≡ d) × ((s1.roles ≡ r) × all n ys)) h.2
        (subst (λ (s1 : Seen). ((seen_from s1 h.1).depth ≡ d) × (((seen_from s1 h.1).roles ≡ r) × all (length h.0 + length h.1) (x ∷ xs))) (sym same) (q.0, (q.1.0, more (length h.0) (length h.1) x xs p.1.1 q.1.1)))
