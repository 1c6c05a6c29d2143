-- Each form of the grammar has a text, and its fronts are what its texts begin with.
use Rattle.std.proofs.Common.{◌≡◌, ℕ, zero, suc, [], ◌∷◌, Some, refl}
use Rattle.pb_text.specs.declared.place.Place.{Place}
use Rattle.pb_text.specs.declared.place.Spot.{Spot}
use Rattle.pb_text.specs.declared.token.Token.{Token}
use Rattle.pb_text.specs.declared.token.TokenKind.{TokenKind}
use Rattle.pb_text.specs.declared.token.TokenKind.TheVariants as kind
use Rattle.pb_text.specs.declared.token.Mark.{Mark}
use Rattle.pb_text.specs.declared.token.Mark.TheVariants as marks
use Rattle.pb_text.specs.declared.token.Key.{Key}
use Rattle.pb_text.specs.declared.token.Key.TheVariants as keys
use Rattle.pb_syntax.specs.declared.tree.IndexText.{IndexText}
use Rattle.pb_syntax.specs.declared.tree.IndexText.TheVariants as index
use Rattle.pb_syntax.specs.Form.{Form, one}
use Rattle.pb_syntax.specs.Tree.{PlainStatement, PlainBlock}
use Rattle.pb_syntax.specs.Grammar.{reads_mark, reads_key, reads_name, reads_number, reads_count, mark, key, name, number, offset, lin, range, top, role_range, role, comma_role, roles, type, count, carried, payload, op, plain_index, plain_end, after_name, bracketed, any_index, any_end, end_beside, message_text, item_message, compute_text, collective, and_semicolon, braces, item, foreach_text, rec_text, continue_text, or_block, choice_text, statement, block, file}
use Rattle.pb_syntax.proofs.Lawful.{Lawful, done_ok, one_ok, many_ok, ◌>>=◌, ◌or_ok◌}

here : Place
here = record { line = 1; col = 1 }

of_kind : TokenKind → Token
of_kind k = record { kind = k; place = here }

name_ok : Lawful name
unfolding of_kind
name_ok = one_ok reads_name (of_kind (kind.Word (120 ∷ []))) _ refl

number_ok : Lawful number
unfolding of_kind
number_ok = one_ok reads_number (of_kind (kind.Number 1)) _ refl

nonzero_ok : Lawful (one reads_count)
unfolding of_kind
nonzero_ok = one_ok reads_count (of_kind (kind.Number 1)) _ refl

mark_ok : (m : Mark) → reads_mark m (record { kind = kind.Mark m; place = here }) ≡ Some here → Lawful (mark m)
mark_ok m e = one_ok (reads_mark m) (record { kind = kind.Mark m; place = here }) here e

key_ok : (k : Key) → reads_key k (record { kind = kind.Key k; place = here }) ≡ Some here → Lawful (key k)
key_ok k e = one_ok (reads_key k) (record { kind = kind.Key k; place = here }) here e

pub offset_ok : Lawful offset
offset_ok =
    (do
      plus ← mark_ok marks.Plus refl
      n ← number_ok
      done_ok _)
    or_ok (do
      minus ← mark_ok marks.Minus refl
      n ← number_ok
      done_ok _)
    or_ok done_ok _

pub lin_ok : Lawful lin
lin_ok =
    (do
      n ← number_ok
      done_ok _)
    or_ok (do
      base ← name_ok
      off ← offset_ok
      done_ok _)

pub range_ok : Lawful range
range_ok = do
  low ← lin_ok
  dots ← mark_ok marks.Dots refl
  high ← lin_ok
  done_ok _

pub top_ok : Lawful top
top_ok =
    (do
      n ← number_ok
      done_ok _)
    or_ok (do
      max ← key_ok keys.Max refl
      done_ok _)

pub role_range_ok : Lawful role_range
role_range_ok =
    (do
      left ← mark_ok marks.LeftBracket refl
      over ← range_ok
      right ← mark_ok marks.RightBracket refl
      done_ok _)
    or_ok done_ok _

pub role_ok : Lawful role
role_ok = do
  start ← key_ok keys.Role refl
  of ← name_ok
  over ← role_range_ok
  done_ok _

pub comma_role_ok : Lawful comma_role
comma_role_ok = do
  comma ← mark_ok marks.Comma refl
  role_ok

pub roles_ok : Lawful roles
roles_ok = do
  first ← role_ok
  others ← many_ok comma_role_ok
  done_ok _

pub type_ok : Lawful type
type_ok =
    (do
      int32 ← key_ok keys.Int32 refl
      done_ok _)
    or_ok (do
      uint32 ← key_ok keys.Uint32 refl
      done_ok _)

pub count_ok : Lawful count
count_ok =
    (do
      left ← mark_ok marks.LeftBracket refl
      n ← nonzero_ok
      right ← mark_ok marks.RightBracket refl
      done_ok _)
    or_ok done_ok _

pub carried_ok : Lawful carried
carried_ok =
    (do
      of ← type_ok
      n ← count_ok
      done_ok _)
    or_ok done_ok _

pub payload_ok : Lawful payload
payload_ok = do
  left ← mark_ok marks.LeftParen refl
  what ← carried_ok
  right ← mark_ok marks.RightParen refl
  done_ok _

pub op_ok : Lawful op
op_ok =
    (do
      min ← key_ok keys.Min refl
      done_ok _)
    or_ok (do
      max ← key_ok keys.Max refl
      done_ok _)
    or_ok (do
      sum ← key_ok keys.Sum refl
      done_ok _)

pub plain_index_ok : Lawful plain_index
plain_index_ok =
    (do
      left ← mark_ok marks.LeftBracket refl
      at ← lin_ok
      right ← mark_ok marks.RightBracket refl
      done_ok _)
    or_ok done_ok _

pub plain_end_ok : Lawful plain_end
plain_end_ok = do
  of ← name_ok
  at ← plain_index_ok
  done_ok _

after_name_ok : (first : Spot) → Lawful (after_name first)
after_name_ok first =
    (do
      colon ← mark_ok marks.Colon refl
      over ← range_ok
      done_ok _)
    or_ok (do
      off ← offset_ok
      done_ok _)

pub bracketed_ok : Lawful bracketed
bracketed_ok =
    (do
      n ← number_ok
      done_ok _)
    or_ok (do
      first ← name_ok
      after_name_ok first)

pub any_index_ok : Lawful any_index
any_index_ok =
    (do
      left ← mark_ok marks.LeftBracket refl
      inside ← bracketed_ok
      right ← mark_ok marks.RightBracket refl
      done_ok _)
    or_ok done_ok _

pub any_end_ok : Lawful any_end
any_end_ok = do
  of ← name_ok
  at ← any_index_ok
  done_ok _

end_beside_ok : (first : IndexText) → Lawful (end_beside first)
end_beside_ok (index.Bind var over) = plain_end_ok
end_beside_ok index.Zero = any_end_ok
end_beside_ok (index.At at) = any_end_ok

pub message_text_ok : Lawful message_text
message_text_ok = do
  label ← name_ok
  carries ← payload_ok
  from_key ← key_ok keys.From refl
  from ← any_end_ok
  to_key ← key_ok keys.To refl
  to ← end_beside_ok from.index
  done_ok _

pub item_message_ok : Lawful item_message
item_message_ok = do
  label ← name_ok
  carries ← payload_ok
  from_key ← key_ok keys.From refl
  from ← plain_end_ok
  to_key ← key_ok keys.To refl
  to ← plain_end_ok
  done_ok _

pub compute_text_ok : Lawful compute_text
compute_text_ok = do
  start ← key_ok keys.Compute refl
  kernel ← name_ok
  at_key ← key_ok keys.At refl
  who ← plain_end_ok
  done_ok _

pub collective_ok : Lawful collective
collective_ok =
    (do
      start ← key_ok keys.Barrier refl
      done_ok _)
    or_ok (do
      start ← key_ok keys.Broadcast refl
      label ← name_ok
      carries ← payload_ok
      from_key ← key_ok keys.From refl
      from ← plain_end_ok
      done_ok _)
    or_ok (do
      start ← key_ok keys.Reduce refl
      label ← name_ok
      carries ← payload_ok
      with_key ← key_ok keys.With refl
      by ← op_ok
      to_key ← key_ok keys.To refl
      to ← plain_end_ok
      done_ok _)
    or_ok (do
      start ← key_ok keys.Allreduce refl
      label ← name_ok
      carries ← payload_ok
      with_key ← key_ok keys.With refl
      by ← op_ok
      done_ok _)

pub and_semicolon_ok : {what : Form PlainStatement} → Lawful what → Lawful (and_semicolon what)
and_semicolon_ok what_ok = do
  s ← what_ok
  semicolon ← mark_ok marks.Semicolon refl
  done_ok _

pub braces_ok : {inside : Form PlainStatement} → Lawful inside → Lawful (braces inside)
braces_ok inside_ok = do
  open_brace ← mark_ok marks.LeftBrace refl
  list ← many_ok inside_ok
  close_brace ← mark_ok marks.RightBrace refl
  done_ok _

pub item_ok : Lawful item
item_ok = and_semicolon_ok item_message_ok or_ok and_semicolon_ok compute_text_ok

pub foreach_text_ok : Lawful foreach_text
foreach_text_ok = do
  start ← key_ok keys.Foreach refl
  left ← mark_ok marks.LeftParen refl
  var ← name_ok
  colon ← mark_ok marks.Colon refl
  over ← range_ok
  right ← mark_ok marks.RightParen refl
  items ← braces_ok item_ok
  done_ok _

pub rec_text_ok : {block : Form PlainBlock} → Lawful block → Lawful (rec_text block)
rec_text_ok block_ok = do
  start ← key_ok keys.Rec refl
  of ← name_ok
  body ← block_ok
  done_ok _

pub continue_text_ok : Lawful continue_text
continue_text_ok = do
  start ← key_ok keys.Continue refl
  of ← name_ok
  done_ok _

pub or_block_ok : {block : Form PlainBlock} → Lawful block → Lawful (or_block block)
or_block_ok block_ok = do
  or_key ← key_ok keys.Or refl
  block_ok

pub choice_text_ok : {block : Form PlainBlock} → Lawful block → Lawful (choice_text block)
choice_text_ok block_ok = do
  start ← key_ok keys.Choice refl
  kernel ← name_ok
  at_key ← key_ok keys.At refl
  who ← plain_end_ok
  first ← block_ok
  second ← or_block_ok block_ok
  others ← many_ok (or_block_ok block_ok)
  done_ok _

pub statement_ok : {block : Form PlainBlock} → Lawful block → Lawful (statement block)
statement_ok block_ok =
    and_semicolon_ok message_text_ok
    or_ok foreach_text_ok
    or_ok rec_text_ok block_ok
    or_ok and_semicolon_ok continue_text_ok
    or_ok choice_text_ok block_ok
    or_ok and_semicolon_ok compute_text_ok
    or_ok and_semicolon_ok collective_ok

pub block_ok : (n : ℕ) → Lawful (block n)
unfolding block
block_ok zero = do
  open_brace ← mark_ok marks.LeftBrace refl
  close_brace ← mark_ok marks.RightBrace refl
  done_ok _
block_ok (suc n) = braces_ok (statement_ok (block_ok n))

pub file_ok : {block : Form PlainBlock} → Lawful block → Lawful (file block)
file_ok block_ok = do
  const_key ← key_ok keys.Const refl
  constant ← name_ok
  equals ← mark_ok marks.Equals refl
  low ← number_ok
  dots ← mark_ok marks.Dots refl
  high ← top_ok
  semicolon ← mark_ok marks.Semicolon refl
  global_key ← key_ok keys.Global refl
  protocol_key ← key_ok keys.Protocol refl
  protocol ← name_ok
  left ← mark_ok marks.LeftParen refl
  list ← roles_ok
  right ← mark_ok marks.RightParen refl
  body ← block_ok
  done_ok _
