-- Each form of the grammar has a text, and its fronts are what its texts begin with.
use Rattle.std.proofs.Common.{◌≡◌, ℕ, zero, suc, [], ◌∷◌, Option, Some, None, refl}
use Rattle.pb_text.specs.declared.place.Place.{Place}
use Rattle.pb_text.specs.declared.token.TokenKind.TheVariants as kind
use Rattle.pb_text.specs.declared.token.Mark.{Mark}
use Rattle.pb_text.specs.declared.token.Mark.TheVariants as marks
use Rattle.pb_text.specs.declared.token.Key.{Key}
use Rattle.pb_text.specs.declared.token.Key.TheVariants as keys
use Rattle.pb_syntax.specs.declared.tree.IndexText.{IndexText}
use Rattle.pb_syntax.specs.declared.tree.IndexText.TheVariants as index
use Rattle.pb_syntax.specs.Form.{Form, ◌or◌}
use Rattle.pb_syntax.specs.Grammar.{reads_mark, reads_key, reads_name, reads_number, mark, key, name, number}
use Rattle.pb_syntax.proofs.Lawful.{Lawful, done_ok, one_ok, many_ok, ◌>>=◌, ◌or_ok◌}
use Rattle.pb_syntax.proofs.LawfulGrammar.{lin_ok, range_ok, top_ok, role_range_ok, payload_ok, op_ok, plain_index_ok, any_index_ok}
use Rattle.pb_strips_syntax.specs.Strips.{Strip, PlainStripBlock}
use Rattle.pb_strips_grammar.specs.Grammar.{width, width_behind, role, comma_role, roles, column, column_behind, plain_end, any_end, end_beside, message_text, item_message, compute_text, continue_text, collective, and_semicolon, item, braces, columns_text, foreach_text, items, items_or_columns, rec_text, or_block, choice_text, statement, column_block, block, file}

here : Place
here = record { line = 1; col = 1 }

name_ok : Lawful name
name_ok = one_ok reads_name (record { kind = kind.Word (120 ∷ []); place = here }) _ refl

number_ok : Lawful number
number_ok = one_ok reads_number (record { kind = kind.Number 1; place = here }) _ refl

mark_ok : (m : Mark) → reads_mark m (record { kind = kind.Mark m; place = here }) ≡ Some here → Lawful (mark m)
mark_ok m e = one_ok (reads_mark m) (record { kind = kind.Mark m; place = here }) here e

key_ok : (k : Key) → reads_key k (record { kind = kind.Key k; place = here }) ≡ Some here → Lawful (key k)
key_ok k e = one_ok (reads_key k) (record { kind = kind.Key k; place = here }) here e

-- ---- roles

width_ok : Lawful width
width_ok =
    (do
      left ← mark_ok marks.LeftBracket refl
      low ← number_ok
      dots ← mark_ok marks.Dots refl
      high ← number_ok
      right ← mark_ok marks.RightBracket refl
      done_ok _)
    or_ok done_ok _

width_behind_ok : {A : Type 0} (over : Option A) → Lawful (width_behind over)
width_behind_ok (Some rows) = width_ok
width_behind_ok None = done_ok _

role_ok : Lawful role
role_ok = do
  start ← key_ok keys.Role refl
  of ← name_ok
  over ← role_range_ok
  wide ← width_behind_ok over
  done_ok _

pub comma_role_ok : Lawful comma_role
comma_role_ok = do
  comma ← mark_ok marks.Comma refl
  role_ok

roles_ok : Lawful roles
roles_ok = do
  first ← role_ok
  others ← many_ok comma_role_ok
  done_ok _

-- ---- ends

column_ok : Lawful column
column_ok =
    (do
      left ← mark_ok marks.LeftBracket refl
      at ← lin_ok
      right ← mark_ok marks.RightBracket refl
      done_ok _)
    or_ok done_ok _

column_behind_ok : (at : IndexText) → Lawful (column_behind at)
column_behind_ok index.Zero = done_ok _
column_behind_ok (index.At at) = column_ok
column_behind_ok (index.Bind var over) = column_ok

plain_end_ok : Lawful plain_end
plain_end_ok = do
  of ← name_ok
  at ← plain_index_ok
  in_column ← column_behind_ok at
  done_ok _

any_end_ok : Lawful any_end
any_end_ok = do
  of ← name_ok
  at ← any_index_ok
  in_column ← column_behind_ok at
  done_ok _

end_beside_ok : (first : IndexText) → Lawful (end_beside first)
end_beside_ok (index.Bind var over) = plain_end_ok
end_beside_ok index.Zero = any_end_ok
end_beside_ok (index.At at) = any_end_ok

-- ---- statements without braces

message_text_ok : Lawful message_text
message_text_ok = do
  label ← name_ok
  carries ← payload_ok
  from_key ← key_ok keys.From refl
  from ← any_end_ok
  to_key ← key_ok keys.To refl
  to ← end_beside_ok from.index
  done_ok _

item_message_ok : Lawful item_message
item_message_ok = do
  label ← name_ok
  carries ← payload_ok
  from_key ← key_ok keys.From refl
  from ← plain_end_ok
  to_key ← key_ok keys.To refl
  to ← plain_end_ok
  done_ok _

compute_text_ok : Lawful compute_text
compute_text_ok = do
  start ← key_ok keys.Compute refl
  kernel ← name_ok
  at_key ← key_ok keys.At refl
  who ← plain_end_ok
  done_ok _

continue_text_ok : Lawful continue_text
continue_text_ok = do
  start ← key_ok keys.Continue refl
  of ← name_ok
  done_ok _

collective_ok : Lawful collective
collective_ok =
    (do
      start ← key_ok keys.Barrier refl
      done_ok _)
    or_ok (do
      start ← key_ok keys.Broadcast refl
      label ← name_ok
      carries ← payload_ok
      from_key ← key_ok keys.From refl
      from ← plain_end_ok
      done_ok _)
    or_ok (do
      start ← key_ok keys.Reduce refl
      label ← name_ok
      carries ← payload_ok
      with_key ← key_ok keys.With refl
      by ← op_ok
      to_key ← key_ok keys.To refl
      to ← plain_end_ok
      done_ok _)
    or_ok (do
      start ← key_ok keys.Allreduce refl
      label ← name_ok
      carries ← payload_ok
      with_key ← key_ok keys.With refl
      by ← op_ok
      done_ok _)

and_semicolon_ok : {what : Form Strip} → Lawful what → Lawful (and_semicolon what)
and_semicolon_ok what_ok = do
  s ← what_ok
  semicolon ← mark_ok marks.Semicolon refl
  done_ok _

pub item_ok : Lawful item
item_ok = and_semicolon_ok item_message_ok or_ok and_semicolon_ok compute_text_ok

-- ---- braces

braces_ok : {inside : Form Strip} → Lawful inside → Lawful (braces inside)
braces_ok inside_ok = do
  open_brace ← mark_ok marks.LeftBrace refl
  list ← many_ok inside_ok
  close_brace ← mark_ok marks.RightBrace refl
  done_ok _

columns_text_ok : {block : Form PlainStripBlock} → Lawful block → Lawful (columns_text block)
columns_text_ok block_ok = do
  start ← key_ok keys.Do refl
  left ← mark_ok marks.LeftParen refl
  var ← name_ok
  colon ← mark_ok marks.Colon refl
  low ← number_ok
  dots ← mark_ok marks.Dots refl
  high ← number_ok
  right ← mark_ok marks.RightParen refl
  body ← block_ok
  done_ok _

foreach_text_ok : {block : Form PlainStripBlock} → Lawful block → Lawful (foreach_text block)
foreach_text_ok block_ok = do
  start ← key_ok keys.Foreach refl
  left ← mark_ok marks.LeftParen refl
  var ← name_ok
  colon ← mark_ok marks.Colon refl
  over ← range_ok
  right ← mark_ok marks.RightParen refl
  items ← block_ok
  done_ok _

pub items_ok : Lawful items
items_ok = braces_ok item_ok

pub item_or_columns_ok : Lawful (item or columns_text items)
item_or_columns_ok = item_ok or_ok columns_text_ok items_ok

pub items_or_columns_ok : Lawful items_or_columns
items_or_columns_ok = braces_ok item_or_columns_ok

rec_text_ok : {block : Form PlainStripBlock} → Lawful block → Lawful (rec_text block)
rec_text_ok block_ok = do
  start ← key_ok keys.Rec refl
  of ← name_ok
  body ← block_ok
  done_ok _

pub or_block_ok : {block : Form PlainStripBlock} → Lawful block → Lawful (or_block block)
or_block_ok block_ok = do
  or_key ← key_ok keys.Or refl
  block_ok

choice_text_ok : {block : Form PlainStripBlock} → Lawful block → Lawful (choice_text block)
choice_text_ok block_ok = do
  start ← key_ok keys.Choice refl
  kernel ← name_ok
  at_key ← key_ok keys.At refl
  who ← plain_end_ok
  first ← block_ok
  second ← or_block_ok block_ok
  others ← many_ok (or_block_ok block_ok)
  done_ok _

pub statement_ok : {items block : Form PlainStripBlock} → Lawful items → Lawful block → Lawful (statement items block)
statement_ok items_ok block_ok =
    and_semicolon_ok message_text_ok
    or_ok foreach_text_ok items_ok
    or_ok rec_text_ok block_ok
    or_ok and_semicolon_ok continue_text_ok
    or_ok choice_text_ok block_ok
    or_ok and_semicolon_ok compute_text_ok
    or_ok and_semicolon_ok collective_ok

pub column_block_ok : (n : ℕ) → Lawful (column_block n)
unfolding column_block
column_block_ok zero = do
  open_brace ← mark_ok marks.LeftBrace refl
  close_brace ← mark_ok marks.RightBrace refl
  done_ok _
column_block_ok (suc n) = braces_ok (statement_ok items_ok (column_block_ok n))

-- a statement outside of columns
pub statement_or_columns_ok : {inner block : Form PlainStripBlock} → Lawful inner → Lawful block → Lawful (columns_text inner or statement items_or_columns block)
statement_or_columns_ok inner_ok block_ok = columns_text_ok inner_ok or_ok statement_ok items_or_columns_ok block_ok

pub block_ok : (n : ℕ) → Lawful (block n)
unfolding block
block_ok zero = do
  open_brace ← mark_ok marks.LeftBrace refl
  close_brace ← mark_ok marks.RightBrace refl
  done_ok _
block_ok (suc n) = braces_ok (statement_or_columns_ok (column_block_ok n) (block_ok n))

pub file_ok : {block : Form PlainStripBlock} → Lawful block → Lawful (file block)
file_ok block_ok = do
  const_key ← key_ok keys.Const refl
  constant ← name_ok
  equals ← mark_ok marks.Equals refl
  low ← number_ok
  dots ← mark_ok marks.Dots refl
  high ← top_ok
  semicolon ← mark_ok marks.Semicolon refl
  global_key ← key_ok keys.Global refl
  protocol_key ← key_ok keys.Protocol refl
  protocol ← name_ok
  left ← mark_ok marks.LeftParen refl
  list ← roles_ok
  right ← mark_ok marks.RightParen refl
  body ← block_ok
  done_ok _
