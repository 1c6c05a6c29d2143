-- In a text with strips no form reads the number that stands for the keyword `do`, so that its tokens are such as can be
-- written.
use Rattle.std.proofs.Common.{◌≡◌, ◌≤◌, Bool, true, false, nat_le, if◌then◌else◌, ◌⊎◌, inl, inr, Option, Some, None, List, [], ◌∷◌, ◌++◌, refl, sym, subst, arith}
use Rattle.std.proofs.lemmas.Bool.Decides.{nat_tests}
use Rattle.pb_text.specs.declared.place.Place.{Place}
use Rattle.pb_text.specs.declared.place.Spot.{Spot}
use Rattle.pb_text.specs.declared.token.Token.{Token}
use Rattle.pb_text.specs.declared.token.TokenKind.{TokenKind}
use Rattle.pb_text.specs.declared.token.TokenKind.TheVariants as kind
use Rattle.pb_text.specs.declared.token.Mark.{Mark}
use Rattle.pb_text.specs.declared.token.Mark.TheVariants as marks
use Rattle.pb_text.specs.declared.token.Key.{Key}
use Rattle.pb_text.specs.declared.token.Key.TheVariants as keys
use Rattle.pb_syntax.specs.Form.{Form, done, one, many, ◌or◌, Both, ManyText, OneText}
use Rattle.pb_syntax.specs.Form.{◌>>=◌ as ◌then◌}
use Rattle.pb_syntax.specs.Tree.{Numeral}
use Rattle.pb_syntax.specs.Grammar.{mark, key, name, number, reads_mark, reads_key, reads_name, reads_number, reads_count, not_large, not_zero, mapped, number_in, offset, lin, range, top, role_range, type, count, carried, payload, op, plain_index, after_name, bracketed, any_index}
use Rattle.pb_syntax.proofs.Prints.{AllOf, kinds_of}
use Rattle.pb_syntax.proofs.PrintsTokens.{mark_prints, key_prints, name_prints}
use Rattle.pb_do_text_laws.proofs.Said.{one_kind}

abbrev pub IsRead : TokenKind → Type 0
IsRead (kind.Word w) = Unit {0}
IsRead (kind.Number n) = n ≤ 2000000000
IsRead (kind.Key k) = Unit {0}
IsRead (kind.Mark m) = Unit {0}

-- each text of the form has such tokens alone
pub record Reads {A : Type 0} (form : Form A) : Type 0 where
  pub reads : (ts : List Token) (x : A) → form.text ts x → AllOf IsRead (kinds_of ts)

-- ---- forms

both_read : (xs ys : List Token) → AllOf IsRead (kinds_of xs) → AllOf IsRead (kinds_of ys) → AllOf IsRead (kinds_of (xs ++ ys))
both_read [] ys a b = b
both_read (x ∷ xs) ys a b = (a.0, both_read xs ys a.1 b)

split_read : (ts xs ys : List Token) → ts ≡ xs ++ ys → AllOf IsRead (kinds_of xs) → AllOf IsRead (kinds_of ys) → AllOf IsRead (kinds_of ts)
split_read ts xs ys e a b = subst (λ (l : List Token). AllOf IsRead (kinds_of l)) (sym e) (both_read xs ys a b)

infixl 10 ◌>>=◌
pub ◌>>=◌ : {A B : Type 0} {a : Form A} {f : A → Form B} → Reads a → ((x : A) → Reads (f x)) → Reads (a then f)
unfolding ◌then◌
◌>>=◌ {A} {B} {a} {f} r k = record { reads = λ ts y h. both ts y h }
  where
    both : (ts : List Token) (y : B) → Both a.text (λ x. (f x).text) ts y → AllOf IsRead (kinds_of ts)
    both ts y h = split_read ts h.head h.tail h.split (r.reads h.head h.value h.whole) ((k h.value).reads h.tail y h.rest)

pub done_reads : {A : Type 0} (x : A) → Reads (done x)
unfolding done
done_reads {A} x = record { reads = λ ts y h. subst (λ (l : List Token). AllOf IsRead (kinds_of l)) (sym h.0) tt }

infixr 5 ◌or_reads◌
pub ◌or_reads◌ : {A : Type 0} {a b : Form A} → Reads a → Reads b → Reads (a or b)
unfolding ◌or◌
◌or_reads◌ {A} {a} {b} ra rb = record { reads = λ ts x h. either ts x h }
  where
    either : (ts : List Token) (x : A) → a.text ts x ⊎ b.text ts x → AllOf IsRead (kinds_of ts)
    either ts x (inl h) = ra.reads ts x h
    either ts x (inr h) = rb.reads ts x h

pub many_reads : {A : Type 0} {a : Form A} → Reads a → Reads (many a)
unfolding many
many_reads {A} {a} r = record { reads = λ ts xs h. each ts xs h }
  where
    each : (ts : List Token) (xs : List A) → ManyText a.text ts xs → AllOf IsRead (kinds_of ts)
    each ts [] e = subst (λ (l : List Token). AllOf IsRead (kinds_of l)) (sym e) tt
    each ts (x ∷ xs) h = split_read ts h.0 h.1 h.2 (r.reads h.0 x h.3) (each h.1 xs h.4)

-- ---- single tokens

one_reads : {A : Type 0} (reads : Token → Option A) → ((t : Token) (x : A) → reads t ≡ Some x → IsRead t.kind) → Reads (one reads)
unfolding one
one_reads {A} reads are = record { reads = λ ts x h. at ts x h }
  where
    at : (ts : List Token) (x : A) → OneText reads ts x → AllOf IsRead (kinds_of ts)
    at [] x h = absurd h
    at (t ∷ []) x h = (are t x h, tt)
    at (t ∷ u ∷ ts) x h = absurd h

pub mark_reads : (m : Mark) → Reads (mark m)
mark_reads m = one_reads (reads_mark m) (λ t x e. subst IsRead (sym (one_kind (reads_mark m) _ _ t x (kind.Mark m) (mark_prints m) refl e)) tt)

pub key_reads : (k : Key) → Reads (key k)
key_reads k = one_reads (reads_key k) (λ t x e. subst IsRead (sym (one_kind (reads_key k) _ _ t x (kind.Key k) (key_prints k) refl e)) tt)

pub name_reads : Reads name
name_reads = one_reads reads_name (λ t x e. subst IsRead (sym (one_kind reads_name _ _ t x (kind.Word x.name) name_prints refl e)) tt)

number_in_bounds : (k : TokenKind) (p : Place) (x : Numeral) → not_large (mapped (λ n. record { value = n; place = p }) (number_in k)) ≡ Some x → IsRead k
number_in_bounds (kind.Word w) p x e = tt
number_in_bounds (kind.Key key) p x e = tt
number_in_bounds (kind.Mark m) p x e = tt
number_in_bounds (kind.Number n) p x e = by (nat_le n 2000000000) refl e
  where
    by : (b : Bool) → nat_le n 2000000000 ≡ b → (if b then Some (record { value = n; place = p }) else None) ≡ Some x → n ≤ 2000000000
    by true h f = grind (arith, nat_tests, h)
    by false h f = absurd (grind arith)

pub number_reads : Reads number
number_reads = one_reads reads_number (λ t x e. number_in_bounds t.kind t.place x e)

any_count : (o : Option Numeral) (x : Numeral) → not_zero o ≡ Some x → (y : Numeral) × (o ≡ Some y)
any_count None x e = absurd (grind arith)
any_count (Some y) x e = (y, refl)

count_number_reads : Reads (one reads_count)
count_number_reads = one_reads reads_count (λ t x e. let y = any_count (reads_number t) x e in number_in_bounds t.kind t.place y.0 y.1)

-- ---- parts of statements

offset_reads : Reads offset
offset_reads =
    (mark_reads marks.Plus >>= λ p. number_reads >>= λ n. done_reads _)
    or_reads (mark_reads marks.Minus >>= λ p. number_reads >>= λ n. done_reads _)
    or_reads done_reads _

pub lin_reads : Reads lin
lin_reads = (number_reads >>= λ n. done_reads _) or_reads (name_reads >>= λ s. offset_reads >>= λ z. done_reads _)

pub range_reads : Reads range
range_reads = lin_reads >>= λ l. mark_reads marks.Dots >>= λ p. lin_reads >>= λ h. done_reads _

pub top_reads : Reads top
top_reads = (number_reads >>= λ n. done_reads _) or_reads (key_reads keys.Max >>= λ p. done_reads _)

pub role_range_reads : Reads role_range
role_range_reads = (mark_reads marks.LeftBracket >>= λ p. range_reads >>= λ r. mark_reads marks.RightBracket >>= λ q. done_reads _) or_reads done_reads _

type_reads : Reads type
type_reads = (key_reads keys.Int32 >>= λ p. done_reads _) or_reads (key_reads keys.Uint32 >>= λ p. done_reads _)

count_reads : Reads count
count_reads = (mark_reads marks.LeftBracket >>= λ p. count_number_reads >>= λ n. mark_reads marks.RightBracket >>= λ q. done_reads _) or_reads done_reads _

carried_reads : Reads carried
carried_reads = (type_reads >>= λ of. count_reads >>= λ n. done_reads _) or_reads done_reads _

pub payload_reads : Reads payload
payload_reads = mark_reads marks.LeftParen >>= λ p. carried_reads >>= λ w. mark_reads marks.RightParen >>= λ q. done_reads _

pub op_reads : Reads op
op_reads = (key_reads keys.Min >>= λ p. done_reads _) or_reads (key_reads keys.Max >>= λ p. done_reads _) or_reads (key_reads keys.Sum >>= λ p. done_reads _)

pub plain_index_reads : Reads plain_index
plain_index_reads = (mark_reads marks.LeftBracket >>= λ p. lin_reads >>= λ l. mark_reads marks.RightBracket >>= λ q. done_reads _) or_reads done_reads _

after_name_reads : (first : Spot) → Reads (after_name first)
after_name_reads first = (mark_reads marks.Colon >>= λ p. range_reads >>= λ r. done_reads _) or_reads (offset_reads >>= λ z. done_reads _)

bracketed_reads : Reads bracketed
bracketed_reads = (number_reads >>= λ n. done_reads _) or_reads (name_reads >>= λ s. after_name_reads s)

pub any_index_reads : Reads any_index
any_index_reads = (mark_reads marks.LeftBracket >>= λ p. bracketed_reads >>= λ i. mark_reads marks.RightBracket >>= λ q. done_reads _) or_reads done_reads _
