-- A text in which braces stand n deep is one in which they stand at most m deep, for each m from n on.
use Rattle.std.proofs.Common.{◌≡◌, ℕ, zero, suc, ◌+◌, [], refl, subst, arith}
use Rattle.pb_syntax.specs.Form.{Form, many, ◌or◌}
use Rattle.pb_syntax.specs.Form.{◌>>=◌ as ◌then◌}
use Rattle.pb_syntax.proofs.Deeper.{Wider, same, wider_trans, many_wider, ◌>>=◌, ◌or_wider◌}
use Rattle.pb_strips_syntax.specs.Strips.{Strip, PlainStripBlock}
use Rattle.pb_strips_grammar.specs.Grammar.{braces, columns_text, items, items_or_columns, rec_text, or_block, choice_text, statement, column_block, block, file}

braces_wider : {a b : Form Strip} → Wider a b → Wider (braces a) (braces b)
braces_wider p = do
  open_brace ← same
  list ← many_wider p
  same

columns_wider : {a b : Form PlainStripBlock} → Wider a b → Wider (columns_text a) (columns_text b)
columns_wider p = do
  start ← same
  left ← same
  var ← same
  colon ← same
  low ← same
  dots ← same
  high ← same
  right ← same
  body ← p
  same

or_block_wider : {a b : Form PlainStripBlock} → Wider a b → Wider (or_block a) (or_block b)
or_block_wider p = do
  or_key ← same
  p

rec_wider : {a b : Form PlainStripBlock} → Wider a b → Wider (rec_text a) (rec_text b)
rec_wider p = do
  start ← same
  of ← same
  body ← p
  same

choice_wider : {a b : Form PlainStripBlock} → Wider a b → Wider (choice_text a) (choice_text b)
choice_wider p = do
  start ← same
  kernel ← same
  at_key ← same
  who ← same
  first ← p
  second ← or_block_wider p
  others ← many_wider (or_block_wider p)
  same

statement_wider : (inside : Form PlainStripBlock) {a b : Form PlainStripBlock} → Wider a b → Wider (statement inside a) (statement inside b)
statement_wider inside p = same or_wider same or_wider rec_wider p or_wider same or_wider choice_wider p or_wider same or_wider same

-- braces without anything between them are braces in which anything stands no time
nothing_wider : (a : Form Strip) → Wider (column_block zero) (braces a)
unfolding column_block ◌then◌ many
nothing_wider a = record {
  more = λ ts x h. record {
    head = h.head;
    tail = h.tail;
    value = h.value;
    split = h.split;
    whole = h.whole;
    rest = record { head = []; tail = h.tail; value = []; split = refl; whole = refl; rest = h.rest };
  };
}

column_block_wider : (n : ℕ) → Wider (column_block n) (column_block (suc n))
unfolding column_block
column_block_wider zero = nothing_wider (statement items (column_block zero))
column_block_wider (suc n) = braces_wider (statement_wider items (column_block_wider n))

block_wider : (n : ℕ) → Wider (block n) (block (suc n))
unfolding block column_block
block_wider zero = nothing_wider (columns_text (column_block zero) or statement items_or_columns (block zero))
block_wider (suc n) = braces_wider (columns_wider (column_block_wider n) or_wider statement_wider items_or_columns (block_wider n))

pub block_deeper : (k n : ℕ) → Wider (block n) (block (k + n))
block_deeper zero n = let e : n ≡ 0 + n = omega arith in subst (λ (m : ℕ). Wider (block n) (block m)) e same
block_deeper (suc k) n = let e : suc (k + n) ≡ suc k + n = omega arith in subst (λ (m : ℕ). Wider (block n) (block m)) e (wider_trans (block_deeper k n) (block_wider (k + n)))

pub file_wider : {a b : Form PlainStripBlock} → Wider a b → Wider (file a) (file b)
file_wider p = do
  const_key ← same
  constant ← same
  equals ← same
  low ← same
  dots ← same
  high ← same
  semicolon ← same
  global_key ← same
  protocol_key ← same
  protocol ← same
  left ← same
  list ← same
  right ← same
  body ← p
  same
