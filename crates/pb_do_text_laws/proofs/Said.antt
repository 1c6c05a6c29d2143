-- What is said in tokens as they can be written: some tokens are a text of a form for a value.
use Rattle.std.proofs.Common.{◌≡◌, List, [], ◌∷◌, ◌++◌, ◌⊎◌, inl, inr, Option, Some, if◌then◌else◌, refl, sym, subst, ◌∙◌}
use Rattle.pb_text.specs.declared.place.Place.{Place}
use Rattle.pb_text.specs.declared.place.Spot.{Spot}
use Rattle.pb_text.specs.declared.token.Token.{Token}
use Rattle.pb_text.specs.declared.token.TokenKind.{TokenKind}
use Rattle.pb_text.specs.declared.token.TokenKind.TheVariants as kind
use Rattle.pb_text.specs.declared.token.Mark.{Mark}
use Rattle.pb_text.specs.declared.token.Mark.TheVariants as marks
use Rattle.pb_text.specs.declared.token.Key.{Key}
use Rattle.pb_text.specs.declared.token.Key.TheVariants as keys
use Rattle.pb_syntax.specs.Form.{Form, done, one, many, ◌or◌, OneText, ManyText}
use Rattle.pb_syntax.specs.Form.{◌>>=◌ as ◌then◌}
use Rattle.pb_syntax.specs.Grammar.{mark, key, name, reads_mark, reads_key, reads_name, mapped, word_in}
use Rattle.pb_syntax.specs.Printed.{Kinds}
use Rattle.pb_syntax.proofs.Prints.{AllOf, Prints, kinds_of}
use Rattle.pb_syntax.proofs.Relex.{IsWritten}

pub record Said {A : Type 0} (form : Form A) (x : A) : Type 0 where
  pub tokens : List Token
  pub text : form.text tokens x
  pub written : AllOf IsWritten (kinds_of tokens)

-- ---- parts put together

pub said_done : {A : Type 0} (x : A) → Said (done x) x
unfolding done
said_done x = record { tokens = []; text = (refl, refl); written = tt }

written_both : (xs ys : List Token) → AllOf IsWritten (kinds_of xs) → AllOf IsWritten (kinds_of ys) → AllOf IsWritten (kinds_of (xs ++ ys))
written_both [] ys a b = b
written_both (x ∷ xs) ys a b = (a.0, written_both xs ys a.1 b)

written_left : (xs ys : List Token) → AllOf IsWritten (kinds_of (xs ++ ys)) → AllOf IsWritten (kinds_of xs)
written_left [] ys a = tt
written_left (x ∷ xs) ys a = (a.0, written_left xs ys a.1)

written_right : (xs ys : List Token) → AllOf IsWritten (kinds_of (xs ++ ys)) → AllOf IsWritten (kinds_of ys)
written_right [] ys a = a
written_right (x ∷ xs) ys a = written_right xs ys a.1

pub said_then : {A B : Type 0} {a : Form A} {x : A} {y : B} (f : A → Form B) → Said a x → Said (f x) y → Said (a then f) y
unfolding ◌then◌
said_then {x = x} f p q = record {
  tokens = p.tokens ++ q.tokens;
  text = record { head = p.tokens; tail = q.tokens; value = x; split = refl; whole = p.text; rest = q.text };
  written = written_both p.tokens q.tokens p.written q.written;
}

pub said_left : {A : Type 0} {a : Form A} {x : A} (b : Form A) → Said a x → Said (a or b) x
unfolding ◌or◌
said_left b p = record { tokens = p.tokens; text = inl p.text; written = p.written }

pub said_right : {A : Type 0} {b : Form A} {x : A} (a : Form A) → Said b x → Said (a or b) x
unfolding ◌or◌
said_right a p = record { tokens = p.tokens; text = inr p.text; written = p.written }

said_one : {A : Type 0} (reads : Token → Option A) (t : Token) (x : A) → reads t ≡ Some x → IsWritten t.kind → Said (one reads) x
unfolding one
said_one reads t x e is = record { tokens = t ∷ []; text = e; written = (is, tt) }

mark_is : (m : Mark) (p : Place) → reads_mark m (record { kind = kind.Mark m; place = p }) ≡ Some p
mark_is marks.Dots p = refl
mark_is marks.Equals p = refl
mark_is marks.Semicolon p = refl
mark_is marks.LeftParen p = refl
mark_is marks.RightParen p = refl
mark_is marks.LeftBracket p = refl
mark_is marks.RightBracket p = refl
mark_is marks.LeftBrace p = refl
mark_is marks.RightBrace p = refl
mark_is marks.Comma p = refl
mark_is marks.Colon p = refl
mark_is marks.Plus p = refl
mark_is marks.Minus p = refl

key_is : (k : Key) (p : Place) → reads_key k (record { kind = kind.Key k; place = p }) ≡ Some p
key_is keys.Const p = refl
key_is keys.Global p = refl
key_is keys.Protocol p = refl
key_is keys.Role p = refl
key_is keys.From p = refl
key_is keys.To p = refl
key_is keys.Foreach p = refl
key_is keys.Rec p = refl
key_is keys.Continue p = refl
key_is keys.Choice p = refl
key_is keys.At p = refl
key_is keys.Or p = refl
key_is keys.Compute p = refl
key_is keys.Barrier p = refl
key_is keys.Broadcast p = refl
key_is keys.Reduce p = refl
key_is keys.Allreduce p = refl
key_is keys.With p = refl
key_is keys.Max p = refl
key_is keys.Min p = refl
key_is keys.Sum p = refl
key_is keys.Int32 p = refl
key_is keys.Uint32 p = refl
key_is keys.Do p = refl

pub said_mark : (m : Mark) (p : Place) → Said (mark m) p
said_mark m p = said_one (reads_mark m) (record { kind = kind.Mark m; place = p }) p (mark_is m p) tt

pub said_key : (k : Key) (p : Place) → Said (key k) p
said_key k p = said_one (reads_key k) (record { kind = kind.Key k; place = p }) p (key_is k p) tt

pub said_name : (s : Spot) → IsWritten (kind.Word s.name) → Said name s
said_name s is = said_one reads_name (record { kind = kind.Word s.name; place = s.place }) s refl is

abbrev pub AllSaid : {A : Type 0} → Form A → List A → Type 0
AllSaid form [] = Unit {0}
AllSaid form (x ∷ xs) = Said form x × AllSaid form xs

pub said_many : {A : Type 0} (a : Form A) (xs : List A) → AllSaid a xs → Said (many a) xs
unfolding many
said_many a [] all = record { tokens = []; text = refl; written = tt }
said_many a (x ∷ xs) all =
    let rest = said_many a xs all.1 in
    record {
      tokens = all.0.tokens ++ rest.tokens;
      text = (all.0.tokens, rest.tokens, refl, all.0.text, rest.text);
      written = written_both all.0.tokens rest.tokens all.0.written rest.written;
    }

-- ---- and taken apart

pub record Parts {A B : Type 0} (a : Form A) (f : A → Form B) (y : B) : Type 0 where
  pub value : A
  pub first : Said a value
  pub rest : Said (f value) y

pub parts : {A B : Type 0} (a : Form A) (f : A → Form B) {y : B} → Said (a then f) y → Parts a f y
unfolding ◌then◌
parts a f p =
    let h = p.text in
    let written : AllOf IsWritten (kinds_of (h.head ++ h.tail)) = subst (λ (l : List Token). AllOf IsWritten (kinds_of l)) h.split p.written in
    record {
      value = h.value;
      first = record { tokens = h.head; text = h.whole; written = written_left h.head h.tail written };
      rest = record { tokens = h.tail; text = h.rest; written = written_right h.head h.tail written };
    }

pub of_done : {A : Type 0} {y : A} (x : A) → Said (done x) y → y ≡ x
unfolding done
of_done x p = p.text.1

pub either : {A : Type 0} {x : A} (a b : Form A) → Said (a or b) x → Said a x ⊎ Said b x
unfolding ◌or◌
either {x = x} a b p = at p.text
  where
    at : a.text p.tokens x ⊎ b.text p.tokens x → Said a x ⊎ Said b x
    at (inl h) = inl (record { tokens = p.tokens; text = h; written = p.written })
    at (inr h) = inr (record { tokens = p.tokens; text = h; written = p.written })

pub of_many : {A : Type 0} (a : Form A) (xs : List A) → Said (many a) xs → AllSaid a xs
unfolding many
of_many {A} a xs p = at xs p.tokens p.text p.written
  where
    at : (ys : List A) (ts : List Token) → ManyText a.text ts ys → AllOf IsWritten (kinds_of ts) → AllSaid a ys
    at [] ts h written = tt
    at (y ∷ ys) ts h written =
        let both : AllOf IsWritten (kinds_of (h.0 ++ h.1)) = subst (λ (l : List Token). AllOf IsWritten (kinds_of l)) h.2 written in
        (record { tokens = h.0; text = h.3; written = written_left h.0 h.1 both }, at ys h.1 h.4 (written_right h.0 h.1 both))

word_at : (k : TokenKind) (p : Place) (s : Spot) → mapped (λ w. record { name = w; place = p }) (word_in k) ≡ Some s → IsWritten k → IsWritten (kind.Word s.name)
word_at (kind.Word w) p s e is = let same : record { name = w; place = p } ≡ s = cc in subst (λ (x : Spot). IsWritten (kind.Word x.name)) same is
word_at (kind.Mark m) p s e is = cc
word_at (kind.Key k) p s e is = cc
word_at (kind.Number n) p s e is = cc

-- a name is a word
pub of_name : (s : Spot) → Said name s → IsWritten (kind.Word s.name)
unfolding one
of_name s p = at p.tokens p.text p.written
  where
    at : (ts : List Token) → OneText reads_name ts s → AllOf IsWritten (kinds_of ts) → IsWritten (kind.Word s.name)
    at [] h written = absurd h
    at (t ∷ []) h written = word_at t.kind t.place s h written.0
    at (t ∷ u ∷ ts) h written = absurd h

-- ---- single tokens

-- a token of this kind is read
pub one_kind : {A : Type 0} (reads : Token → Option A) (bare : A → A) (show : A → Kinds → Kinds) (t : Token) (x : A) (k : TokenKind) → Prints (λ j. t.kind ≡ j) bare (λ before. before) show (one reads) (one reads)
    → show x [] ≡ k ∷ [] → reads t ≡ Some x → t.kind ≡ k
unfolding one
one_kind reads bare show t x k prints e h =
    let r = prints.prints (t ∷ []) x h in
    let all : AllOf (λ j. t.kind ≡ j) (k ∷ []) = subst (AllOf (λ j. t.kind ≡ j)) (sym (r.shown []) ∙ e) (r.fine (refl, tt)) in
    all.0
