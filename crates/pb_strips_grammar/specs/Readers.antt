-- Reading each form from left to right.
use Rattle.std.specs.Prelude.{ℕ, zero, suc, Bool, Option, Some, None, List, [], ◌∷◌, length, Result, Ok, Err}
use Rattle.pb_text.specs.declared.token.Token.{Token}
use Rattle.pb_text.specs.declared.token.Mark.TheVariants.{Dots, Equals, Semicolon, LeftParen, RightParen, LeftBracket, RightBracket, LeftBrace, RightBrace, Comma, Colon}
use Rattle.pb_text.specs.declared.token.Key.TheVariants as keys
use Rattle.pb_syntax.specs.declared.tree.IndexText.{IndexText}
use Rattle.pb_syntax.specs.declared.tree.IndexText.TheVariants as index
use Rattle.pb_syntax.specs.Grammar.{key_number}
use Rattle.pb_syntax.specs.Reading.{Reader, next, done_at, ◌>>=◌, choose, many_at, among}
use Rattle.pb_syntax.specs.Readers as plainly
use Rattle.pb_syntax.specs.Readers.{mark_at, key_at, name_at, number_at, mark_next, key_next, word_next, lin_at, range_at, top_at, role_range_at, payload_at, op_at, plain_index_at, any_index_at, item_keys}
use Rattle.pb_strips_syntax.specs.declared.tree.Col.{Col}
use Rattle.pb_strips_syntax.specs.declared.tree.StripEnd.{StripEnd}
use Rattle.pb_strips_syntax.specs.declared.tree.StripRole.{StripRole}
use Rattle.pb_strips_syntax.specs.Strips.{Strip, message, foreach, loop, again, choice, compute, barrier, broadcast, reduce, allreduce, columns, strips_of, branches_of, PlainStripBlock, PlainStripFile}

-- the first tokens of statements, and of items, where `columns` may stand
abbrev pub strip_keys : List ℕ
strip_keys = key_number keys.Do ∷ plainly.statement_keys

abbrev pub strip_item_keys : List ℕ
strip_item_keys = key_number keys.Do ∷ item_keys

-- ---- roles

-- optionally [ NUM .. NUM ] behind a range
unfoldable pub width_at : Reader (Option (ℕ × ℕ))
width_at =
    choose (mark_next LeftBracket) (do
      left ← mark_at LeftBracket
      low ← number_at
      dots ← mark_at Dots
      high ← number_at
      right ← mark_at RightBracket
      done_at (Some (low.value, high.value))) (
    (done_at None))

-- a role without a range has no columns
unfoldable pub width_behind_at : {A : Type 0} → Option A → Reader (Option (ℕ × ℕ))
width_behind_at (Some rows) = width_at
width_behind_at None = done_at None

-- role NAME, or role NAME [ lin .. lin ], or role NAME [ lin .. lin ] [ NUM .. NUM ]
unfoldable pub role_at : Reader StripRole
role_at = do
  start ← key_at keys.Role
  of ← name_at
  over ← role_range_at
  wide ← width_behind_at over
  done_at (record { role = of; range = over; columns = wide })

unfoldable pub comma_role_at : Reader StripRole
comma_role_at = do
  comma ← mark_at Comma
  role_at

-- the others after a first role
abbrev pub roles_from : StripRole → Reader (List StripRole)
roles_from first = do
  others ← many_at (mark_next Comma) comma_role_at
  done_at (first ∷ others)

-- role {, role}
unfoldable pub roles_at : Reader (List StripRole)
roles_at = do
  first ← role_at
  roles_from first

-- ---- ends

-- nothing, or [ col ]: a number, or a name with an offset
unfoldable pub column_at : Reader (Option Col)
column_at =
    choose (mark_next LeftBracket) (do
      left ← mark_at LeftBracket
      at ← lin_at
      right ← mark_at RightBracket
      done_at (Some (record { var = at.base; off = at.off }))) (
    (done_at None))

-- an end without an index has no column
unfoldable pub column_behind_at : IndexText → Reader (Option Col)
column_behind_at index.Zero = done_at None
column_behind_at other = column_at

-- NAME, or NAME [ lin ], or NAME [ lin ] [ col ]
unfoldable pub plain_end_at : Reader StripEnd
plain_end_at = do
  of ← name_at
  at ← plain_index_at
  in_column ← column_behind_at at
  done_at (record { role = of; index = at; col = in_column })

-- such an end, or, binding, NAME [ NAME : lin .. lin ], or NAME [ NAME : lin .. lin ] [ col ]
unfoldable pub any_end_at : Reader StripEnd
any_end_at = do
  of ← name_at
  at ← any_index_at
  in_column ← column_behind_at at
  done_at (record { role = of; index = at; col = in_column })

-- the second end of a message: at most one of the two binds
unfoldable pub end_beside_at : IndexText → Reader StripEnd
end_beside_at (index.Bind var over) = plain_end_at
end_beside_at other = any_end_at

-- ---- statements without braces

-- NAME payload from end to end
unfoldable pub message_text_at : Reader Strip
message_text_at = do
  label ← name_at
  carries ← payload_at
  from_key ← key_at keys.From
  from ← any_end_at
  to_key ← key_at keys.To
  to ← end_beside_at from.index
  done_at (message label carries from to)

unfoldable pub item_message_at : Reader Strip
item_message_at = do
  label ← name_at
  carries ← payload_at
  from_key ← key_at keys.From
  from ← plain_end_at
  to_key ← key_at keys.To
  to ← plain_end_at
  done_at (message label carries from to)

-- compute NAME at end
unfoldable pub compute_text_at : Reader Strip
compute_text_at = do
  start ← key_at keys.Compute
  kernel ← name_at
  at_key ← key_at keys.At
  who ← plain_end_at
  done_at (compute start kernel who)

-- continue NAME
unfoldable pub continue_text_at : Reader Strip
continue_text_at = do
  start ← key_at keys.Continue
  of ← name_at
  done_at (again start of)

-- broadcast NAME payload from end
abbrev pub broadcast_text_at : Reader Strip
broadcast_text_at = do
  start ← key_at keys.Broadcast
  label ← name_at
  carries ← payload_at
  from_key ← key_at keys.From
  from ← plain_end_at
  done_at (broadcast start label carries from)

-- reduce NAME payload with op to end
abbrev pub reduce_text_at : Reader Strip
reduce_text_at = do
  start ← key_at keys.Reduce
  label ← name_at
  carries ← payload_at
  with_key ← key_at keys.With
  by ← op_at
  to_key ← key_at keys.To
  to ← plain_end_at
  done_at (reduce start label carries by to)

-- allreduce NAME payload with op
abbrev pub allreduce_text_at : Reader Strip
allreduce_text_at = do
  start ← key_at keys.Allreduce
  label ← name_at
  carries ← payload_at
  with_key ← key_at keys.With
  by ← op_at
  done_at (allreduce start label carries by)

-- barrier, or broadcast .., or reduce .., or allreduce ..
unfoldable pub collective_at : Reader Strip
collective_at =
    choose (key_next keys.Barrier) (do
      start ← key_at keys.Barrier
      done_at (barrier start)) (
    choose (key_next keys.Broadcast) broadcast_text_at (
    choose (key_next keys.Reduce) reduce_text_at (
    allreduce_text_at)))

unfoldable pub and_semicolon_at : Reader Strip → Reader Strip
and_semicolon_at what = do
  s ← what
  semicolon ← mark_at Semicolon
  done_at s

unfoldable pub item_at : Reader Strip
item_at =
    choose (word_next) (and_semicolon_at item_message_at) (
    (and_semicolon_at compute_text_at))

-- ---- braces

-- { what it holds, any number of times }
unfoldable pub braces_at : (Token → Bool) → Reader Strip → Reader PlainStripBlock
braces_at test inside = do
  open_brace ← mark_at LeftBrace
  list ← many_at test inside
  close_brace ← mark_at RightBrace
  done_at (record { place = open_brace; list = strips_of list })

-- columns ( NAME : NUM .. NUM ) block
unfoldable pub columns_text_at : Reader PlainStripBlock → Reader Strip
columns_text_at block = do
  start ← key_at keys.Do
  left ← mark_at LeftParen
  var ← name_at
  colon ← mark_at Colon
  low ← number_at
  dots ← mark_at Dots
  high ← number_at
  right ← mark_at RightParen
  body ← block
  done_at (columns start var low.value high.value body.place body.list)

-- foreach ( NAME : lin .. lin ) block
unfoldable pub foreach_text_at : Reader PlainStripBlock → Reader Strip
foreach_text_at block = do
  start ← key_at keys.Foreach
  left ← mark_at LeftParen
  var ← name_at
  colon ← mark_at Colon
  over ← range_at
  right ← mark_at RightParen
  items ← block
  done_at (foreach start var over items.place items.list)

-- the items of a foreach: { items }, and outside of columns { items and columns of items }
unfoldable pub items_at : Reader PlainStripBlock
items_at = braces_at (among item_keys) item_at

unfoldable pub item_or_columns_at : Reader Strip
item_or_columns_at = choose (key_next keys.Do) (columns_text_at items_at) item_at

unfoldable pub items_or_columns_at : Reader PlainStripBlock
items_or_columns_at = braces_at (among strip_item_keys) item_or_columns_at

-- rec NAME block
unfoldable pub rec_text_at : Reader PlainStripBlock → Reader Strip
rec_text_at block = do
  start ← key_at keys.Rec
  of ← name_at
  body ← block
  done_at (loop start of body.place body.list)

-- or block
unfoldable pub or_block_at : Reader PlainStripBlock → Reader PlainStripBlock
or_block_at block = do
  or_key ← key_at keys.Or
  block

-- choice NAME at end block or block {or block}
unfoldable pub choice_text_at : Reader PlainStripBlock → Reader Strip
choice_text_at block = do
  start ← key_at keys.Choice
  kernel ← name_at
  at_key ← key_at keys.At
  who ← plain_end_at
  first ← block
  second ← or_block_at block
  others ← many_at (key_next keys.Or) (or_block_at block)
  done_at (choice start kernel who (branches_of (first ∷ second ∷ others)))

-- a statement whose foreach has these items, and whose braces hold such a block
unfoldable pub statement_at : Reader PlainStripBlock → Reader PlainStripBlock → Reader Strip
statement_at items block =
    choose (word_next) (and_semicolon_at message_text_at) (
    choose (key_next keys.Foreach) (foreach_text_at items) (
    choose (key_next keys.Rec) (rec_text_at block) (
    choose (key_next keys.Continue) (and_semicolon_at continue_text_at) (
    choose (key_next keys.Choice) (choice_text_at block) (
    choose (key_next keys.Compute) (and_semicolon_at compute_text_at) (
    (and_semicolon_at collective_at)))))))

-- { statements } inside of columns, in which braces stand at most n deep
unfoldable pub column_block_at : ℕ → Reader PlainStripBlock
column_block_at zero = do
  open_brace ← mark_at LeftBrace
  close_brace ← mark_at RightBrace
  done_at (record { place = open_brace; list = strips_of [] })
column_block_at (suc n) = braces_at (among plainly.statement_keys) (statement_at items_at (column_block_at n))

-- a statement outside of columns
unfoldable pub statement_or_columns_at : Reader PlainStripBlock → Reader PlainStripBlock → Reader Strip
statement_or_columns_at inner block = choose (key_next keys.Do) (columns_text_at inner) (statement_at items_or_columns_at block)

-- and outside of columns
unfoldable pub block_at : ℕ → Reader PlainStripBlock
block_at zero = do
  open_brace ← mark_at LeftBrace
  close_brace ← mark_at RightBrace
  done_at (record { place = open_brace; list = strips_of [] })
block_at (suc n) = braces_at (among strip_keys) (statement_or_columns_at (column_block_at n) (block_at n))

-- ---- a file

unfoldable pub file_at : Reader PlainStripBlock → Reader PlainStripFile
file_at block = do
  const_key ← key_at keys.Const
  constant ← name_at
  equals ← mark_at Equals
  low ← number_at
  dots ← mark_at Dots
  high ← top_at
  semicolon ← mark_at Semicolon
  global_key ← key_at keys.Global
  protocol_key ← key_at keys.Protocol
  protocol ← name_at
  left ← mark_at LeftParen
  list ← roles_at
  right ← mark_at RightParen
  body ← block
  done_at (record { constant = constant; low = low.value; low_place = low.place; high = high.high; high_place = high.place; protocol = protocol; roles = list; body = body })

-- Reading all the tokens. No text has more blocks, one in another, than tokens.
abbrev pub ended : PlainStripFile → Reader PlainStripFile
ended f [] = Ok (f, [])
ended f (t ∷ ts) = Err (t ∷ ts)

abbrev pub whole_at : List Token → Result (PlainStripFile × List Token) (List Token)
whole_at ts = next (file_at (block_at (length ts)) ts) ended
