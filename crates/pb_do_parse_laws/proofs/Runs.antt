-- What reading a form within the limits does to what is counted, and what its value has then.
use Rattle.std.proofs.Common.{◌≡◌, ◌⊎◌, inl, inr, Option, Some, None, List, [], ◌∷◌, ◌++◌, refl, sym, ap, subst, ◌∙◌}
use Rattle.pb_text.specs.declared.place.Place.{Place}
use Rattle.pb_text.specs.declared.place.Spot.{Spot}
use Rattle.pb_text.specs.declared.token.Token.{Token}
use Rattle.pb_text.specs.declared.token.TokenKind.TheVariants as kind
use Rattle.pb_text.specs.declared.token.Mark.{Mark}
use Rattle.pb_text.specs.declared.token.Key.{Key}
use Rattle.pb_syntax.specs.Form.{Form, done, one, many, ◌or◌, Both, ManyText, OneText}
use Rattle.pb_syntax.specs.Form.{◌>>=◌ as ◌then◌}
use Rattle.pb_syntax.specs.Grammar.{mark, key, name, number, reads_mark, reads_key, reads_name, reads_number, reads_count}
use Rattle.pb_syntax.specs.Tree.{Numeral}
use Rattle.pb_syntax.proofs.PrintsTokens.{mark_prints, key_prints, name_prints, number_prints, count_prints_one}
use Rattle.pb_do_parse.specs.declared.limits.Counts.{Counts}
use Rattle.pb_do_parse.specs.declared.limits.Sort.{Sort}
use Rattle.pb_do_parse.specs.declared.limits.Behind.TheVariants as behind
use Rattle.pb_do_parse.specs.Limits.{sort_of, number_passed, behind_next, part_next, sort_passed, counted, counts_next, counts_from, NonePasses}
use Rattle.pb_do_text_laws.proofs.Said.{one_kind}

-- from these counts on, each text of the form within the limits leaves these counts and a value
pub record Runs {A : Type 0} (c : Counts) (form : Form A) (post : Counts → A → Type 0) : Type 0 where
  pub runs : (ts : List Token) (x : A) → form.text ts x → NonePasses c ts → post (counts_from c ts) x

pub none_both : (c : Counts) (xs ys : List Token) → NonePasses c (xs ++ ys) → NonePasses c xs × NonePasses (counts_from c xs) ys
none_both c [] ys h = (tt, h)
none_both c (x ∷ xs) ys h = let g = none_both (counts_next c x) xs ys h.1 in ((h.0, g.0), g.1)

counts_both : (c : Counts) (xs ys : List Token) → counts_from c (xs ++ ys) ≡ counts_from (counts_from c xs) ys
counts_both c [] ys = refl
counts_both c (x ∷ xs) ys = counts_both (counts_next c x) xs ys

pub joined : {B : Type 0} (c : Counts) (ts xs ys : List Token) (y : B) (post : Counts → B → Type 0) → ts ≡ xs ++ ys → post (counts_from (counts_from c xs) ys) y → post (counts_from c ts) y
joined c ts xs ys y post e h = subst (λ (d : Counts). post d y) (sym (ap (counts_from c) e ∙ counts_both c xs ys)) h

-- a part, and the next one from the counts that it leaves
pub after : {A B : Type 0} {a : Form A} {f : A → Form B} {c : Counts} {mid : Counts → A → Type 0} {post : Counts → B → Type 0} → Runs c a mid → ((d : Counts) (x : A) → mid d x → Runs d (f x) post) → Runs c (a then f) post
unfolding ◌then◌
after {A} {B} {a} {f} {c} {mid} {post} r k = record { runs = λ ts y h none. both ts y h none }
  where
    both : (ts : List Token) (y : B) → Both a.text (λ x. (f x).text) ts y → NonePasses c ts → post (counts_from c ts) y
    both ts y h none =
        let g = none_both c h.head h.tail (subst (NonePasses c) h.split none) in
        joined c ts h.head h.tail y post h.split ((k _ h.value (r.runs h.head h.value h.whole g.0)).runs h.tail y h.rest g.1)

-- where these counts are known
abbrev pub Leaves : {A : Type 0} → Counts → (A → Type 0) → Counts → A → Type 0
Leaves next good d x = (d ≡ next) × good x

infixl 10 ◌>>=◌
pub ◌>>=◌ : {A B : Type 0} {a : Form A} {f : A → Form B} {c next : Counts} {good : A → Type 0} {post : Counts → B → Type 0} → Runs c a (Leaves next good) → ((x : A) → good x → Runs next (f x) post) → Runs c (a then f) post
◌>>=◌ {f = f} {post = post} r k = after r (λ d x p. subst (λ (e : Counts). Runs e (f x) post) (sym p.0) (k x p.1))

pub done_runs : {A : Type 0} {c : Counts} (x : A) {post : Counts → A → Type 0} → post c x → Runs c (done x) post
unfolding done
done_runs {A} {c} x {post} p = record { runs = λ ts y h none. here ts y h }
  where
    here : (ts : List Token) (y : A) → (ts ≡ []) × (y ≡ x) → post (counts_from c ts) y
    here ts y h = rw (h.0, h.1) p

infixr 5 ◌or_runs◌
pub ◌or_runs◌ : {A : Type 0} {a b : Form A} {c : Counts} {post : Counts → A → Type 0} → Runs c a post → Runs c b post → Runs c (a or b) post
unfolding ◌or◌
◌or_runs◌ {A} {a} {b} {c} {post} ra rb = record { runs = λ ts x h none. either ts x h none }
  where
    either : (ts : List Token) (x : A) → a.text ts x ⊎ b.text ts x → NonePasses c ts → post (counts_from c ts) x
    either ts x (inl h) none = ra.runs ts x h none
    either ts x (inr h) none = rb.runs ts x h none

pub weaker : {A : Type 0} {form : Form A} {c : Counts} {p q : Counts → A → Type 0} → Runs c form p → ((d : Counts) (x : A) → p d x → q d x) → Runs c form q
weaker r k = record { runs = λ ts x h none. k _ x (r.runs ts x h none) }

-- any number of times: a predicate of counts that each keeps, and what one more adds to the values
pub many_runs : {A : Type 0} {a : Form A} {keeps : Counts → Type 0} {good : A → Type 0} {all : List A → Type 0} → ((c : Counts) → keeps c → Runs c a (λ d x. keeps d × good x)) → all [] → ((x : A) (xs : List A) → good x → all xs → all (x ∷ xs))
    → (c : Counts) → keeps c → Runs c (many a) (λ d xs. keeps d × all xs)
unfolding many
many_runs {A} {a} {keeps} {good} {all} each_one nil cons c kept = record { runs = λ ts xs h none. each c kept ts xs h none }
  where
    each : (c : Counts) → keeps c → (ts : List Token) (xs : List A) → ManyText a.text ts xs → NonePasses c ts → keeps (counts_from c ts) × all xs
    each c kept ts [] e none = rw e (kept, nil)
    each c kept ts (x ∷ xs) h none =
        let g = none_both c h.0 h.1 (subst (NonePasses c) h.2 none) in
        let p = (each_one c kept).runs h.0 x h.3 g.0 in
        let q = each (counts_from c h.0) p.0 h.1 xs h.4 g.1 in
        joined c ts h.0 h.1 (x ∷ xs) (λ d ys. keeps d × all ys) h.2 (q.0, cons x xs p.1 q.1)

-- ---- single tokens

abbrev pub next : Counts → Sort → Counts
next c s = record (counted c s) { last = behind_next c.last s; part = part_next c.part s }

one_runs : {A : Type 0} {c : Counts} (reads : Token → Option A) (sort : A → Sort) → ((t : Token) (x : A) → reads t ≡ Some x → sort_of t.kind ≡ sort x)
    → Runs c (one reads) (λ d x. (d ≡ next c (sort x)) × (sort_passed c (sort x) ≡ None))
unfolding one
one_runs {A} {c} reads sort tells = record { runs = λ ts x h none. at ts x h none }
  where
    at : (ts : List Token) (x : A) → OneText reads ts x → NonePasses c ts → (counts_from c ts ≡ next c (sort x)) × (sort_passed c (sort x) ≡ None)
    at [] x h none = absurd h
    at (t ∷ []) x h none = let e = tells t x h in (ap (next c) e, ap (sort_passed c) (sym e) ∙ none.0)
    at (t ∷ u ∷ ts) x h none = absurd h

pub mark_runs : {c : Counts} (m : Mark) → Runs c (mark m) (Leaves (next c (sort_of (kind.Mark m))) (λ (p : Place). sort_passed c (sort_of (kind.Mark m)) ≡ None))
mark_runs m = one_runs (reads_mark m) (λ p. sort_of (kind.Mark m)) (λ t x e. ap sort_of (one_kind (reads_mark m) _ _ t x (kind.Mark m) (mark_prints m) refl e))

pub key_runs : {c : Counts} (k : Key) → Runs c (key k) (Leaves (next c (sort_of (kind.Key k))) (λ (p : Place). sort_passed c (sort_of (kind.Key k)) ≡ None))
key_runs k = one_runs (reads_key k) (λ p. sort_of (kind.Key k)) (λ t x e. ap sort_of (one_kind (reads_key k) _ _ t x (kind.Key k) (key_prints k) refl e))

pub name_runs : {c : Counts} → Runs c name (Leaves (next c (sort_of (kind.Word []))) (λ (s : Spot). sort_passed c (sort_of (kind.Word [])) ≡ None))
name_runs = one_runs reads_name (λ s. sort_of (kind.Word [])) (λ t x e. ap sort_of (one_kind reads_name _ _ t x (kind.Word x.name) name_prints refl e))

-- a number, and what it says of itself
pub number_runs : {c : Counts} → Runs c number (Leaves (record c { last = behind.Other }) (λ (n : Numeral). number_passed c n.value ≡ None))
number_runs = one_runs reads_number (λ n. sort_of (kind.Number n.value)) (λ t x e. ap sort_of (one_kind reads_number _ _ t x (kind.Number x.value) number_prints refl e))

pub count_runs : {c : Counts} → Runs c (one reads_count) (Leaves (record c { last = behind.Other }) (λ (n : Numeral). number_passed c n.value ≡ None))
count_runs = one_runs reads_count (λ n. sort_of (kind.Number n.value)) (λ t x e. ap sort_of (one_kind reads_count _ _ t x (kind.Number x.value) count_prints_one refl e))
