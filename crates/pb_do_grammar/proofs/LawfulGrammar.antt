-- Each form of the grammar has a text, and its fronts are what its texts begin with.
use Rattle.std.proofs.Common.{◌≡◌, ℕ, zero, suc, [], ◌∷◌, Some, refl}
use Rattle.pb_text.specs.declared.place.Place.{Place}
use Rattle.pb_text.specs.declared.token.TokenKind.TheVariants as kind
use Rattle.pb_text.specs.declared.token.Mark.{Mark}
use Rattle.pb_text.specs.declared.token.Mark.TheVariants as marks
use Rattle.pb_text.specs.declared.token.Key.{Key}
use Rattle.pb_text.specs.declared.token.Key.TheVariants as keys
use Rattle.pb_syntax.specs.Form.{Form}
use Rattle.pb_syntax.specs.Tree.{PlainStatement}
use Rattle.pb_syntax.specs.Grammar.{reads_mark, reads_key, reads_name, reads_number, mark, key, name, number}
use Rattle.pb_syntax.proofs.Lawful.{Lawful, done_ok, one_ok, many_ok, ◌>>=◌, ◌or_ok◌}
use Rattle.pb_syntax.proofs.LawfulGrammar.{range_ok, top_ok, roles_ok, plain_end_ok, message_text_ok, compute_text_ok, continue_text_ok, collective_ok, and_semicolon_ok, item_ok}
use Rattle.pb_do_syntax.specs.Calls.{Call, PlainCallBlock}
use Rattle.pb_do_grammar.specs.Grammar.{simple, item_call, braces, foreach_text, rec_text, or_block, choice_text, comma_name, call_text, statement, block, parameter, comma_parameter, subprotocol, file}

here : Place
here = record { line = 1; col = 1 }

name_ok : Lawful name
name_ok = one_ok reads_name (record { kind = kind.Word (120 ∷ []); place = here }) _ refl

number_ok : Lawful number
number_ok = one_ok reads_number (record { kind = kind.Number 1; place = here }) _ refl

mark_ok : (m : Mark) → reads_mark m (record { kind = kind.Mark m; place = here }) ≡ Some here → Lawful (mark m)
mark_ok m e = one_ok (reads_mark m) (record { kind = kind.Mark m; place = here }) here e

key_ok : (k : Key) → reads_key k (record { kind = kind.Key k; place = here }) ≡ Some here → Lawful (key k)
key_ok k e = one_ok (reads_key k) (record { kind = kind.Key k; place = here }) here e

simple_ok : {what : Form PlainStatement} → Lawful what → Lawful (simple what)
simple_ok what_ok = do
  s ← and_semicolon_ok what_ok
  done_ok _

pub item_call_ok : Lawful item_call
item_call_ok = do
  s ← item_ok
  done_ok _

braces_ok : {inside : Form Call} → Lawful inside → Lawful (braces inside)
braces_ok inside_ok = do
  open_brace ← mark_ok marks.LeftBrace refl
  list ← many_ok inside_ok
  close_brace ← mark_ok marks.RightBrace refl
  done_ok _

foreach_text_ok : Lawful foreach_text
foreach_text_ok = do
  start ← key_ok keys.Foreach refl
  left ← mark_ok marks.LeftParen refl
  var ← name_ok
  colon ← mark_ok marks.Colon refl
  over ← range_ok
  right ← mark_ok marks.RightParen refl
  items ← braces_ok item_call_ok
  done_ok _

rec_text_ok : {block : Form PlainCallBlock} → Lawful block → Lawful (rec_text block)
rec_text_ok block_ok = do
  start ← key_ok keys.Rec refl
  of ← name_ok
  body ← block_ok
  done_ok _

pub or_block_ok : {block : Form PlainCallBlock} → Lawful block → Lawful (or_block block)
or_block_ok block_ok = do
  or_key ← key_ok keys.Or refl
  block_ok

choice_text_ok : {block : Form PlainCallBlock} → Lawful block → Lawful (choice_text block)
choice_text_ok block_ok = do
  start ← key_ok keys.Choice refl
  kernel ← name_ok
  at_key ← key_ok keys.At refl
  who ← plain_end_ok
  first ← block_ok
  second ← or_block_ok block_ok
  others ← many_ok (or_block_ok block_ok)
  done_ok _

pub comma_name_ok : Lawful comma_name
comma_name_ok = do
  comma ← mark_ok marks.Comma refl
  name_ok

call_text_ok : Lawful call_text
call_text_ok = do
  start ← key_ok keys.Do refl
  of ← name_ok
  left ← mark_ok marks.LeftParen refl
  first ← name_ok
  others ← many_ok comma_name_ok
  right ← mark_ok marks.RightParen refl
  semicolon ← mark_ok marks.Semicolon refl
  done_ok _

pub statement_ok : {block : Form PlainCallBlock} → Lawful block → Lawful (statement block)
statement_ok block_ok =
    simple_ok message_text_ok
    or_ok foreach_text_ok
    or_ok rec_text_ok block_ok
    or_ok simple_ok continue_text_ok
    or_ok choice_text_ok block_ok
    or_ok simple_ok compute_text_ok
    or_ok call_text_ok
    or_ok simple_ok collective_ok

pub block_ok : (n : ℕ) → Lawful (block n)
unfolding block
block_ok zero = do
  open_brace ← mark_ok marks.LeftBrace refl
  close_brace ← mark_ok marks.RightBrace refl
  done_ok _
block_ok (suc n) = braces_ok (statement_ok (block_ok n))

parameter_ok : Lawful parameter
parameter_ok = do
  start ← key_ok keys.Role refl
  name_ok

pub comma_parameter_ok : Lawful comma_parameter
comma_parameter_ok = do
  comma ← mark_ok marks.Comma refl
  parameter_ok

pub subprotocol_ok : {block : Form PlainCallBlock} → Lawful block → Lawful (subprotocol block)
subprotocol_ok block_ok = do
  start ← key_ok keys.Protocol refl
  of ← name_ok
  left ← mark_ok marks.LeftParen refl
  first ← parameter_ok
  others ← many_ok comma_parameter_ok
  right ← mark_ok marks.RightParen refl
  body ← block_ok
  done_ok _

pub file_ok : {block : Form PlainCallBlock} → Lawful block → Lawful (file block)
file_ok block_ok = do
  const_key ← key_ok keys.Const refl
  constant ← name_ok
  equals ← mark_ok marks.Equals refl
  low ← number_ok
  dots ← mark_ok marks.Dots refl
  high ← top_ok
  semicolon ← mark_ok marks.Semicolon refl
  subs ← many_ok (subprotocol_ok block_ok)
  global_key ← key_ok keys.Global refl
  protocol_key ← key_ok keys.Protocol refl
  protocol ← name_ok
  left ← mark_ok marks.LeftParen refl
  list ← roles_ok
  right ← mark_ok marks.RightParen refl
  body ← block_ok
  done_ok _
