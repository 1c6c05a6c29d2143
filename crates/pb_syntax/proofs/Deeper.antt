-- A text in which braces stand n deep is one in which they stand at most m deep, for each m from n on.
use Rattle.std.proofs.Common.{◌≡◌, ℕ, zero, suc, ◌+◌, List, [], ◌∷◌, ◌⊎◌, inl, inr, refl, subst, arith}
use Rattle.pb_text.specs.declared.token.Token.{Token}
use Rattle.pb_syntax.specs.Form.{Form, many, ◌or◌, ManyText}
use Rattle.pb_syntax.specs.Form.{◌>>=◌ as ◌then◌}
use Rattle.pb_syntax.specs.Tree.{PlainStatement, PlainBlock}
use Rattle.pb_syntax.specs.Grammar.{braces, rec_text, or_block, choice_text, statement, block, file}

pub record Wider {A : Type 0} (f g : Form A) : Type 0 where
  pub more : (ts : List Token) (x : A) → f.text ts x → g.text ts x

pub same : {A : Type 0} {f : Form A} → Wider f f
same = record { more = λ ts x h. h }

pub wider_trans : {A : Type 0} {f g h : Form A} → Wider f g → Wider g h → Wider f h
wider_trans p q = record { more = λ ts x w. q.more ts x (p.more ts x w) }

module _ {A B : Type 0} {a b : Form A} {f g : A → Form B} where
  infixl 10 ◌>>=◌
  pub ◌>>=◌ : Wider a b → ((x : A) → Wider (f x) (g x)) → Wider (a then f) (b then g)
  unfolding ◌then◌
  p >>= q = record { more = λ ts y h. record { head = h.head; tail = h.tail; value = h.value; split = h.split; whole = p.more h.head h.value h.whole; rest = (q h.value).more h.tail y h.rest } }

module _ {A : Type 0} (a b c d : Form A) where
  or_more : Wider a c → Wider b d → (ts : List Token) (x : A) → a.text ts x ⊎ b.text ts x → c.text ts x ⊎ d.text ts x
  or_more p q ts x (inl h) = inl (p.more ts x h)
  or_more p q ts x (inr h) = inr (q.more ts x h)

infixr 5 ◌or_wider◌
pub ◌or_wider◌ : {A : Type 0} {a b c d : Form A} → Wider a c → Wider b d → Wider (a or b) (c or d)
unfolding ◌or◌
◌or_wider◌ {A} {a} {b} {c} {d} p q = record { more = or_more a b c d p q }

module _ {A : Type 0} (a b : Form A) where
  many_more : Wider a b → (ts : List Token) (xs : List A) → ManyText a.text ts xs → ManyText b.text ts xs
  many_more p ts [] h = h
  many_more p ts (x ∷ xs) h = (h.0, h.1, h.2, p.more h.0 x h.3, many_more p h.1 xs h.4)

pub many_wider : {A : Type 0} {a b : Form A} → Wider a b → Wider (many a) (many b)
unfolding many
many_wider {A} {a} {b} p = record { more = many_more a b p }

braces_wider : {a b : Form PlainStatement} → Wider a b → Wider (braces a) (braces b)
braces_wider p = do
  open_brace ← same
  list ← many_wider p
  same

or_block_wider : {a b : Form PlainBlock} → Wider a b → Wider (or_block a) (or_block b)
or_block_wider p = do
  or_key ← same
  p

rec_wider : {a b : Form PlainBlock} → Wider a b → Wider (rec_text a) (rec_text b)
rec_wider p = do
  start ← same
  of ← same
  body ← p
  same

choice_wider : {a b : Form PlainBlock} → Wider a b → Wider (choice_text a) (choice_text b)
choice_wider p = do
  start ← same
  kernel ← same
  at_key ← same
  who ← same
  first ← p
  second ← or_block_wider p
  others ← many_wider (or_block_wider p)
  same

statement_wider : {a b : Form PlainBlock} → Wider a b → Wider (statement a) (statement b)
statement_wider p = same or_wider same or_wider rec_wider p or_wider same or_wider choice_wider p or_wider same or_wider same

block_wider : (n : ℕ) → Wider (block n) (block (suc n))
unfolding block ◌then◌ many
block_wider zero = record {
  more = λ ts x h. record {
    head = h.head;
    tail = h.tail;
    value = h.value;
    split = h.split;
    whole = h.whole;
    rest = record { head = []; tail = h.tail; value = []; split = refl; whole = refl; rest = h.rest };
  };
}
block_wider (suc n) = braces_wider (statement_wider (block_wider n))

pub block_deeper : (k n : ℕ) → Wider (block n) (block (k + n))
block_deeper zero n = let e : n ≡ 0 + n = omega arith in subst (λ (m : ℕ). Wider (block n) (block m)) e same
block_deeper (suc k) n = let e : suc (k + n) ≡ suc k + n = omega arith in subst (λ (m : ℕ). Wider (block n) (block m)) e (wider_trans (block_deeper k n) (block_wider (k + n)))

pub file_wider : {a b : Form PlainBlock} → Wider a b → Wider (file a) (file b)
file_wider p = do
  const_key ← same
  constant ← same
  equals ← same
  low ← same
  dots ← same
  high ← same
  semicolon ← same
  global_key ← same
  protocol_key ← same
  protocol ← same
  left ← same
  list ← same
  right ← same
  body ← p
  same
