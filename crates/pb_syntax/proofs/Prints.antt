-- From a text of a form the tokens that its value is printed as: any tokens of these kinds are a text for the same value,
-- places aside.
use Rattle.std.proofs.Common.{◌≡◌, ℕ, List, [], ◌∷◌, ◌++◌, ◌⊎◌, inl, inr, Option, Some, refl, sym, ap, subst, ◌∙◌, append_assoc}
use Rattle.std.specs.Prelude.{map}
use Rattle.std.proofs.lemmas.List.{append-nil, append_cancel_left}
use Rattle.pb_text.specs.declared.token.Token.{Token}
use Rattle.pb_text.specs.declared.token.TokenKind.{TokenKind}
use Rattle.pb_syntax.specs.Form.{Form, done, one, many, ◌or◌, Both, ManyText, OneText}
use Rattle.pb_syntax.specs.Form.{◌>>=◌ as ◌then◌}
use Rattle.pb_syntax.specs.Laws.{Same}
use Rattle.pb_syntax.specs.Printed.{Kinds}

abbrev pub kinds_of : List Token → Kinds
kinds_of [] = []
kinds_of (t ∷ ts) = t.kind ∷ kinds_of ts

abbrev pub AllOf : (TokenKind → Type 0) → Kinds → Type 0
AllOf p [] = Unit {0}
AllOf p (k ∷ ks) = p k × AllOf p ks

all_append : (p : TokenKind → Type 0) (xs ys : Kinds) → AllOf p xs → AllOf p ys → AllOf p (xs ++ ys)
all_append p [] ys a b = b
all_append p (x ∷ xs) ys a b = (a.0, all_append p xs ys a.1 b)

kinds_append : (xs ys : List Token) → kinds_of (xs ++ ys) ≡ kinds_of xs ++ kinds_of ys
kinds_append [] ys = refl
kinds_append (x ∷ xs) ys = ap (λ (l : Kinds). x.kind ∷ l) (kinds_append xs ys)

all_left : (p : TokenKind → Type 0) (xs ys : List Token) → AllOf p (kinds_of (xs ++ ys)) → AllOf p (kinds_of xs)
all_left p [] ys a = tt
all_left p (x ∷ xs) ys a = (a.0, all_left p xs ys a.1)

all_right : (p : TokenKind → Type 0) (xs ys : List Token) → AllOf p (kinds_of (xs ++ ys)) → AllOf p (kinds_of ys)
all_right p [] ys a = a
all_right p (x ∷ xs) ys a = all_right p xs ys a.1

record Cut (us : List Token) (ks ls : Kinds) : Type 0 where
  head : List Token
  tail : List Token
  split : us ≡ head ++ tail
  front : kinds_of head ≡ ks
  back : kinds_of tail ≡ ls

cut : (us : List Token) (ks ls : Kinds) → kinds_of us ≡ ks ++ ls → Cut us ks ls
cut us [] ls e = record { head = []; tail = us; split = refl; front = refl; back = e }
cut [] (k ∷ ks) ls e = cc
cut (u ∷ us) (k ∷ ks) ls e =
    let same : u.kind ≡ k = cc in
    let rest : kinds_of us ≡ ks ++ ls = cc in
    let c = cut us ks ls rest in
    record { head = u ∷ c.head; tail = c.tail; split = ap (λ (l : List Token). u ∷ l) c.split; front = cc (same, c.front); back = c.back }

pub no_kinds : (us : List Token) → kinds_of us ≡ [] → us ≡ []
no_kinds [] e = refl
no_kinds (u ∷ us) e = cc

-- these tokens are a text, for the same value, places aside
pub record Again {A : Type 0} (bare : A → A) (g : Form A) (x : A) (us : List Token) : Type 0 where
  pub value : A
  pub whole : g.text us value
  pub alike : bare x ≡ bare value

pub record Reprint {A : Type 0} (p : TokenKind → Type 0) (bare : A → A) (front : Kinds → Kinds) (show : A → Kinds → Kinds) (g : Form A) (ts : List Token) (x : A) : Type 0 where
  pub kinds : Kinds
  pub shown : (before : Kinds) → show x before ≡ front before ++ kinds
  pub fine : AllOf p (kinds_of ts) → AllOf p kinds
  pub again : (us : List Token) → kinds_of us ≡ kinds → Again bare g x us

-- What is shown of a value of f is what was shown before, and then kinds of which any tokens are a text of g. In f and g
-- what was read before may differ in places.
pub record Prints {A : Type 0} (p : TokenKind → Type 0) (bare : A → A) (front : Kinds → Kinds) (show : A → Kinds → Kinds) (f g : Form A) : Type 0 where
  pub prints : (ts : List Token) (x : A) → f.text ts x → Reprint p bare front show g ts x

pub done_prints : {A : Type 0} {p : TokenKind → Type 0} {bare : A → A} {front : Kinds → Kinds} {show : A → Kinds → Kinds} (x y : A) → ((before : Kinds) → show x before ≡ front before) → bare x ≡ bare y → Prints p bare front show (done x) (done y)
unfolding done
done_prints {A} {p} {bare} {front} {show} x y shows alike = record {
  prints = λ ts z h. record {
    kinds = [];
    shown = λ before. ap (λ (w : A). show w before) h.1 ∙ shows before ∙ sym (append-nil (front before));
    fine = λ a. tt;
    again = λ us e. record { value = y; whole = (no_kinds us e, refl); alike = ap bare h.1 ∙ alike };
  };
}

-- the last part of a form
pub last_prints : {A : Type 0} {p : TokenKind → Type 0} {bare : A → A} {front : Kinds → Kinds} {show next : A → Kinds → Kinds} {f g : Form A} → Prints p bare (λ before. before) show f g → ((x : A) (before : Kinds) → next x before ≡ show x (front before)) → Prints p bare front next f g
last_prints {A} {p} {bare} {front} {show} {next} {f} {g} h same = record {
  prints = λ ts x w.
      let r = h.prints ts x w in
      record { kinds = r.kinds; shown = λ before. same x before ∙ r.shown (front before); fine = r.fine; again = r.again };
}

-- a single token
pub record OneAgain {A : Type 0} (bare : A → A) (show : A → Kinds → Kinds) (reads : Token → Option A) (t : Token) (x : A) : Type 0 where
  pub shown : (before : Kinds) → show x before ≡ before ++ t.kind ∷ []
  pub again : (u : Token) → u.kind ≡ t.kind → (y : A) × (reads u ≡ Some y) × (bare x ≡ bare y)

module _ {A : Type 0} (p : TokenKind → Type 0) (bare : A → A) (show : A → Kinds → Kinds) (reads : Token → Option A) (same : (t : Token) (x : A) → reads t ≡ Some x → OneAgain bare show reads t x) where
  one_again : (t : Token) (x : A) → OneAgain bare show reads t x → (us : List Token) → kinds_of us ≡ t.kind ∷ [] → Again bare (one reads) x us
  unfolding one
  one_again t x o [] e = cc
  one_again t x o (u ∷ []) e = let k : u.kind ≡ t.kind = cc in let y = o.again u k in record { value = y.0; whole = y.1; alike = y.2 }
  one_again t x o (u ∷ v ∷ us) e = cc

  one_reprint : (ts : List Token) (x : A) → OneText reads ts x → Reprint p bare (λ before. before) show (one reads) ts x
  one_reprint [] x h = absurd h
  one_reprint (t ∷ []) x h = let o = same t x h in record { kinds = t.kind ∷ []; shown = o.shown; fine = λ a. a; again = one_again t x o }
  one_reprint (t ∷ u ∷ ts) x h = absurd h

  pub one_prints : Prints p bare (λ before. before) show (one reads) (one reads)
  unfolding one
  one_prints = record { prints = one_reprint }

module _ {A B : Type 0} {p : TokenKind → Type 0} {bare : A → A} {bare_next : B → B} {show : A → Kinds → Kinds} {front : Kinds → Kinds} {next : B → Kinds → Kinds} {a c : Form A} {f g : A → Form B} where
  then_again : Prints p bare (λ before. before) show a c → ((l r : A) → bare l ≡ bare r → Prints p bare_next (λ before. show l (front before)) next (f l) (g r)) → (ts : List Token) (y : B) → (h : Both a.text (λ x. (f x).text) ts y)
      → (r : Reprint p bare (λ before. before) show c h.head h.value) → (s : Reprint p bare_next (λ before. show h.value (front before)) next (g h.value) h.tail y) → (us : List Token) → kinds_of us ≡ r.kinds ++ s.kinds → Again bare_next (c then g) y us
  unfolding ◌then◌
  then_again pa pf ts y h r s us e =
      let u = cut us r.kinds s.kinds e in
      let x = r.again u.head u.front in
      let q = (pf h.value x.value x.alike).prints h.tail y h.rest in
      let same : s.kinds ≡ q.kinds = append_cancel_left (show h.value (front [])) s.kinds q.kinds (sym (s.shown []) ∙ q.shown []) in
      let z = q.again u.tail (u.back ∙ same) in
      record { value = z.value; whole = record { head = u.head; tail = u.tail; value = x.value; split = u.split; whole = x.whole; rest = z.whole }; alike = z.alike }

  then_reprint : Prints p bare (λ before. before) show a c → ((l r : A) → bare l ≡ bare r → Prints p bare_next (λ before. show l (front before)) next (f l) (g r)) → (ts : List Token) (y : B) → Both a.text (λ x. (f x).text) ts y → Reprint p bare_next front next (c then g) ts y
  then_reprint pa pf ts y h =
      let r = pa.prints h.head h.value h.whole in
      let s = (pf h.value h.value refl).prints h.tail y h.rest in
      record {
        kinds = r.kinds ++ s.kinds;
        shown = λ before. s.shown before ∙ ap (λ (l : Kinds). l ++ s.kinds) (r.shown (front before)) ∙ append_assoc (front before) r.kinds s.kinds;
        fine = λ all.
            let cut_all : AllOf p (kinds_of (h.head ++ h.tail)) = subst (λ (l : List Token). AllOf p (kinds_of l)) h.split all in
            all_append p r.kinds s.kinds (r.fine (all_left p h.head h.tail cut_all)) (s.fine (all_right p h.head h.tail cut_all));
        again = then_again pa pf ts y h r s;
      }

  infixl 10 ◌>>=◌
  pub ◌>>=◌ : Prints p bare (λ before. before) show a c → ((l r : A) → bare l ≡ bare r → Prints p bare_next (λ before. show l (front before)) next (f l) (g r)) → Prints p bare_next front next (a then f) (c then g)
  unfolding ◌then◌
  pa >>= pf = record { prints = then_reprint pa pf }

module _ {A : Type 0} (p : TokenKind → Type 0) (bare : A → A) (front : Kinds → Kinds) (show : A → Kinds → Kinds) (a b c d : Form A) where
  left_reprint : (ts : List Token) (x : A) → Reprint p bare front show c ts x → Reprint p bare front show (c or d) ts x
  unfolding ◌or◌
  left_reprint ts x r = record { kinds = r.kinds; shown = r.shown; fine = r.fine; again = λ us e. let y = r.again us e in record { value = y.value; whole = inl y.whole; alike = y.alike } }

  right_reprint : (ts : List Token) (x : A) → Reprint p bare front show d ts x → Reprint p bare front show (c or d) ts x
  unfolding ◌or◌
  right_reprint ts x r = record { kinds = r.kinds; shown = r.shown; fine = r.fine; again = λ us e. let y = r.again us e in record { value = y.value; whole = inr y.whole; alike = y.alike } }

  or_reprint : Prints p bare front show a c → Prints p bare front show b d → (ts : List Token) (x : A) → a.text ts x ⊎ b.text ts x → Reprint p bare front show (c or d) ts x
  or_reprint pa pb ts x (inl h) = left_reprint ts x (pa.prints ts x h)
  or_reprint pa pb ts x (inr h) = right_reprint ts x (pb.prints ts x h)

infixr 5 ◌or_prints◌
pub ◌or_prints◌ : {A : Type 0} {p : TokenKind → Type 0} {bare : A → A} {front : Kinds → Kinds} {show : A → Kinds → Kinds} {a b c d : Form A} → Prints p bare front show a c → Prints p bare front show b d → Prints p bare front show (a or b) (c or d)
unfolding ◌or◌
◌or_prints◌ {A} {p} {bare} {front} {show} {a} {b} {c} {d} pa pb = record { prints = or_reprint p bare front show a b c d pa pb }

-- things one behind the other
abbrev pub show_all : {A : Type 0} → (A → Kinds → Kinds) → List A → Kinds → Kinds
show_all show [] before = before
show_all show (x ∷ xs) before = show_all show xs (show x before)

module _ {A : Type 0} (p : TokenKind → Type 0) (bare : A → A) (show : A → Kinds → Kinds) (a c : Form A) (pa : Prints p bare (λ before. before) show a c) where
  more_again : (x : A) (xs : List A) (ks ls : Kinds) → ((us : List Token) → kinds_of us ≡ ks → Again bare c x us) → ((us : List Token) → kinds_of us ≡ ls → Again (map bare) (many c) xs us) → (us : List Token) → kinds_of us ≡ ks ++ ls → Again (map bare) (many c) (x ∷ xs) us
  unfolding many
  more_again x xs ks ls first others us e =
      let u = cut us ks ls e in
      let y = first u.head u.front in
      let ys = others u.tail u.back in
      record { value = y.value ∷ ys.value; whole = (u.head, u.tail, u.split, y.whole, ys.whole); alike = cc (y.alike, ys.alike) }

  many_reprint : (ts : List Token) (xs : List A) → ManyText a.text ts xs → Reprint p (map bare) (λ before. before) (show_all show) (many c) ts xs
  unfolding many
  many_reprint ts [] h = record { kinds = []; shown = λ before. sym (append-nil before); fine = λ all. tt; again = λ us e. record { value = []; whole = no_kinds us e; alike = refl } }
  many_reprint ts (x ∷ xs) h =
      let r = pa.prints h.0 x h.3 in
      let s = many_reprint h.1 xs h.4 in
      record {
        kinds = r.kinds ++ s.kinds;
        shown = λ before. s.shown (show x before) ∙ ap (λ (l : Kinds). l ++ s.kinds) (r.shown before) ∙ append_assoc before r.kinds s.kinds;
        fine = λ all.
            let cut_all : AllOf p (kinds_of (h.0 ++ h.1)) = subst (λ (l : List Token). AllOf p (kinds_of l)) h.2 all in
            all_append p r.kinds s.kinds (r.fine (all_left p h.0 h.1 cut_all)) (s.fine (all_right p h.0 h.1 cut_all));
        again = more_again x xs r.kinds s.kinds r.again s.again;
      }

  many_of : Prints p (map bare) (λ before. before) (show_all show) (many a) (many c)
  unfolding many
  many_of = record { prints = many_reprint }

pub many_prints : {A : Type 0} {p : TokenKind → Type 0} {bare : A → A} {show : A → Kinds → Kinds} {a c : Form A} → Prints p bare (λ before. before) show a c → Prints p (map bare) (λ before. before) (show_all show) (many a) (many c)
many_prints {A} {p} {bare} {show} {a} {c} pa = many_of p bare show a c pa

-- through forms that are the same
pub same_prints : {A : Type 0} {p : TokenKind → Type 0} {bare : A → A} {front : Kinds → Kinds} {show : A → Kinds → Kinds} {a b c d : Form A} → Same a b → Same c d → Prints p bare front show b d → Prints p bare front show a c
same_prints {A} {p} {bare} {front} {show} {a} {b} {c} {d} left right pb = record {
  prints = λ ts x h.
      let r = pb.prints ts x (left.to ts x h) in
      record { kinds = r.kinds; shown = r.shown; fine = r.fine; again = λ us e. let y = r.again us e in record { value = y.value; whole = right.from us y.value y.whole; alike = y.alike } };
}

-- things of the same value, shown alike
pub shown_prints : {A : Type 0} {p : TokenKind → Type 0} {bare other : A → A} {front : Kinds → Kinds} {show next : A → Kinds → Kinds} {a c : Form A} → Prints p bare front show a c → ((x : A) (before : Kinds) → next x before ≡ show x before) → ((x y : A) → bare x ≡ bare y → other x ≡ other y) → Prints p other front next a c
shown_prints {A} {p} {bare} {other} {front} {show} {next} {a} {c} pa same alike = record {
  prints = λ ts x h.
      let r = pa.prints ts x h in
      record { kinds = r.kinds; shown = λ before. same x before ∙ r.shown before; fine = r.fine; again = λ us e. let y = r.again us e in record { value = y.value; whole = y.whole; alike = alike x y.value y.alike } };
}
