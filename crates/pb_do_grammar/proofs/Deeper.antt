-- A text in which braces stand n deep is one in which they stand at most m deep, for each m from n on.
use Rattle.std.proofs.Common.{◌≡◌, ℕ, zero, suc, ◌+◌, [], refl, subst, arith}
use Rattle.pb_syntax.specs.Form.{Form, many}
use Rattle.pb_syntax.specs.Form.{◌>>=◌ as ◌then◌}
use Rattle.pb_syntax.proofs.Deeper.{Wider, same, wider_trans, many_wider, ◌>>=◌, ◌or_wider◌}
use Rattle.pb_do_syntax.specs.Calls.{Call, PlainCallBlock}
use Rattle.pb_do_grammar.specs.Grammar.{braces, rec_text, or_block, choice_text, statement, block, subprotocol, file}

braces_wider : {a b : Form Call} → Wider a b → Wider (braces a) (braces b)
braces_wider p = do
  open_brace ← same
  list ← many_wider p
  same

or_block_wider : {a b : Form PlainCallBlock} → Wider a b → Wider (or_block a) (or_block b)
or_block_wider p = do
  or_key ← same
  p

rec_wider : {a b : Form PlainCallBlock} → Wider a b → Wider (rec_text a) (rec_text b)
rec_wider p = do
  start ← same
  of ← same
  body ← p
  same

choice_wider : {a b : Form PlainCallBlock} → Wider a b → Wider (choice_text a) (choice_text b)
choice_wider p = do
  start ← same
  kernel ← same
  at_key ← same
  who ← same
  first ← p
  second ← or_block_wider p
  others ← many_wider (or_block_wider p)
  same

statement_wider : {a b : Form PlainCallBlock} → Wider a b → Wider (statement a) (statement b)
statement_wider p = same or_wider same or_wider rec_wider p or_wider same or_wider choice_wider p or_wider same or_wider same or_wider same

block_wider : (n : ℕ) → Wider (block n) (block (suc n))
unfolding block ◌then◌ many
block_wider zero = record {
  more = λ ts x h. record {
    head = h.head;
    tail = h.tail;
    value = h.value;
    split = h.split;
    whole = h.whole;
    rest = record { head = []; tail = h.tail; value = []; split = refl; whole = refl; rest = h.rest };
  };
}
block_wider (suc n) = braces_wider (statement_wider (block_wider n))

pub block_deeper : (k n : ℕ) → Wider (block n) (block (k + n))
block_deeper zero n = let e : n ≡ 0 + n = omega arith in subst (λ (m : ℕ). Wider (block n) (block m)) e same
block_deeper (suc k) n = let e : suc (k + n) ≡ suc k + n = omega arith in subst (λ (m : ℕ). Wider (block n) (block m)) e (wider_trans (block_deeper k n) (block_wider (k + n)))

subprotocol_wider : {a b : Form PlainCallBlock} → Wider a b → Wider (subprotocol a) (subprotocol b)
subprotocol_wider p = do
  start ← same
  of ← same
  left ← same
  first ← same
  others ← same
  right ← same
  body ← p
  same

pub file_wider : {a b : Form PlainCallBlock} → Wider a b → Wider (file a) (file b)
file_wider p = do
  const_key ← same
  constant ← same
  equals ← same
  low ← same
  dots ← same
  high ← same
  semicolon ← same
  subs ← many_wider (subprotocol_wider p)
  global_key ← same
  protocol_key ← same
  protocol ← same
  left ← same
  list ← same
  right ← same
  body ← p
  same
