-- The grammar of a file with strips, over tokens in which the keyword `do` stands for `columns`. It is that of a protocol
-- file with three forms more: a strip in the place of a role, an end with a column, and `columns`.
use Rattle.std.specs.Prelude.{ℕ, zero, suc, Option, Some, None, List, [], ◌∷◌}
use Rattle.pb_text.specs.declared.token.Token.{Token}
use Rattle.pb_text.specs.declared.token.Mark.TheVariants.{Dots, Equals, Semicolon, LeftParen, RightParen, LeftBracket, RightBracket, LeftBrace, RightBrace, Comma, Colon}
use Rattle.pb_text.specs.declared.token.Key.TheVariants as keys
use Rattle.pb_syntax.specs.declared.tree.IndexText.{IndexText}
use Rattle.pb_syntax.specs.declared.tree.IndexText.TheVariants as index
use Rattle.pb_syntax.specs.Form.{Form, done, many, ◌>>=◌, ◌or◌}
use Rattle.pb_syntax.specs.Grammar.{mark, key, name, number, lin, range, top, role_range, payload, op, plain_index, any_index}
use Rattle.pb_strips_syntax.specs.declared.tree.Col.{Col}
use Rattle.pb_strips_syntax.specs.declared.tree.StripEnd.{StripEnd}
use Rattle.pb_strips_syntax.specs.declared.tree.StripRole.{StripRole}
use Rattle.pb_strips_syntax.specs.Strips.{Strip, message, foreach, loop, again, choice, compute, barrier, broadcast, reduce, allreduce, columns, strips_of, branches_of, PlainStripBlock, PlainStripFile}

-- ---- roles

-- optionally [ NUM .. NUM ] behind a range
abbrev pub width : Form (Option (ℕ × ℕ))
width =
    (do
      left ← mark LeftBracket
      low ← number
      dots ← mark Dots
      high ← number
      right ← mark RightBracket
      done (Some (low.value, high.value)))
    or done None

-- a role without a range has no columns
abbrev pub width_behind : {A : Type 0} → Option A → Form (Option (ℕ × ℕ))
width_behind (Some rows) = width
width_behind None = done None

-- role NAME, or role NAME [ lin .. lin ], or role NAME [ lin .. lin ] [ NUM .. NUM ]
abbrev pub role : Form StripRole
role = do
  start ← key keys.Role
  of ← name
  over ← role_range
  wide ← width_behind over
  done (record { role = of; range = over; columns = wide })

abbrev pub comma_role : Form StripRole
comma_role = do
  comma ← mark Comma
  role

-- role {, role}
abbrev pub roles : Form (List StripRole)
roles = do
  first ← role
  others ← many comma_role
  done (first ∷ others)

-- ---- ends

-- nothing, or [ col ]: a number, or a name with an offset
abbrev pub column : Form (Option Col)
column =
    (do
      left ← mark LeftBracket
      at ← lin
      right ← mark RightBracket
      done (Some (record { var = at.base; off = at.off })))
    or done None

-- an end without an index has no column
abbrev pub column_behind : IndexText → Form (Option Col)
column_behind index.Zero = done None
column_behind other = column

-- NAME, or NAME [ lin ], or NAME [ lin ] [ col ]
abbrev pub plain_end : Form StripEnd
plain_end = do
  of ← name
  at ← plain_index
  in_column ← column_behind at
  done (record { role = of; index = at; col = in_column })

-- such an end, or, binding, NAME [ NAME : lin .. lin ], or NAME [ NAME : lin .. lin ] [ col ]
abbrev pub any_end : Form StripEnd
any_end = do
  of ← name
  at ← any_index
  in_column ← column_behind at
  done (record { role = of; index = at; col = in_column })

-- the second end of a message: at most one of the two binds
abbrev pub end_beside : IndexText → Form StripEnd
end_beside (index.Bind var over) = plain_end
end_beside other = any_end

-- ---- statements without braces

-- NAME payload from end to end
abbrev pub message_text : Form Strip
message_text = do
  label ← name
  carries ← payload
  from_key ← key keys.From
  from ← any_end
  to_key ← key keys.To
  to ← end_beside from.index
  done (message label carries from to)

abbrev pub item_message : Form Strip
item_message = do
  label ← name
  carries ← payload
  from_key ← key keys.From
  from ← plain_end
  to_key ← key keys.To
  to ← plain_end
  done (message label carries from to)

-- compute NAME at end
abbrev pub compute_text : Form Strip
compute_text = do
  start ← key keys.Compute
  kernel ← name
  at_key ← key keys.At
  who ← plain_end
  done (compute start kernel who)

-- continue NAME
abbrev pub continue_text : Form Strip
continue_text = do
  start ← key keys.Continue
  of ← name
  done (again start of)

-- barrier, or broadcast .., or reduce .., or allreduce ..
abbrev pub collective : Form Strip
collective =
    (do
      start ← key keys.Barrier
      done (barrier start))
    or (do
      start ← key keys.Broadcast
      label ← name
      carries ← payload
      from_key ← key keys.From
      from ← plain_end
      done (broadcast start label carries from))
    or (do
      start ← key keys.Reduce
      label ← name
      carries ← payload
      with_key ← key keys.With
      by ← op
      to_key ← key keys.To
      to ← plain_end
      done (reduce start label carries by to))
    or (do
      start ← key keys.Allreduce
      label ← name
      carries ← payload
      with_key ← key keys.With
      by ← op
      done (allreduce start label carries by))

abbrev pub and_semicolon : Form Strip → Form Strip
and_semicolon what = do
  s ← what
  semicolon ← mark Semicolon
  done s

abbrev pub item : Form Strip
item = and_semicolon item_message or and_semicolon compute_text

-- ---- braces

-- { what it holds, any number of times }
abbrev pub braces : Form Strip → Form PlainStripBlock
braces inside = do
  open_brace ← mark LeftBrace
  list ← many inside
  close_brace ← mark RightBrace
  done (record { place = open_brace; list = strips_of list })

-- columns ( NAME : NUM .. NUM ) block
abbrev pub columns_text : Form PlainStripBlock → Form Strip
columns_text block = do
  start ← key keys.Do
  left ← mark LeftParen
  var ← name
  colon ← mark Colon
  low ← number
  dots ← mark Dots
  high ← number
  right ← mark RightParen
  body ← block
  done (columns start var low.value high.value body.place body.list)

-- foreach ( NAME : lin .. lin ) block
abbrev pub foreach_text : Form PlainStripBlock → Form Strip
foreach_text block = do
  start ← key keys.Foreach
  left ← mark LeftParen
  var ← name
  colon ← mark Colon
  over ← range
  right ← mark RightParen
  items ← block
  done (foreach start var over items.place items.list)

-- the items of a foreach: { items }, and outside of columns { items and columns of items }
abbrev pub items : Form PlainStripBlock
items = braces item

abbrev pub items_or_columns : Form PlainStripBlock
items_or_columns = braces (item or columns_text items)

-- rec NAME block
abbrev pub rec_text : Form PlainStripBlock → Form Strip
rec_text block = do
  start ← key keys.Rec
  of ← name
  body ← block
  done (loop start of body.place body.list)

-- or block
abbrev pub or_block : Form PlainStripBlock → Form PlainStripBlock
or_block block = do
  or_key ← key keys.Or
  block

-- choice NAME at end block or block {or block}
abbrev pub choice_text : Form PlainStripBlock → Form Strip
choice_text block = do
  start ← key keys.Choice
  kernel ← name
  at_key ← key keys.At
  who ← plain_end
  first ← block
  second ← or_block block
  others ← many (or_block block)
  done (choice start kernel who (branches_of (first ∷ second ∷ others)))

-- a statement whose foreach has these items, and whose braces hold such a block
abbrev pub statement : Form PlainStripBlock → Form PlainStripBlock → Form Strip
statement items block =
    and_semicolon message_text
    or foreach_text items
    or rec_text block
    or and_semicolon continue_text
    or choice_text block
    or and_semicolon compute_text
    or and_semicolon collective

-- { statements } inside of columns, in which braces stand at most n deep
unfoldable pub column_block : ℕ → Form PlainStripBlock
column_block zero = do
  open_brace ← mark LeftBrace
  close_brace ← mark RightBrace
  done (record { place = open_brace; list = strips_of [] })
column_block (suc n) = braces (statement items (column_block n))

-- and outside of columns
unfoldable pub block : ℕ → Form PlainStripBlock
block zero = do
  open_brace ← mark LeftBrace
  close_brace ← mark RightBrace
  done (record { place = open_brace; list = strips_of [] })
block (suc n) = braces (columns_text (column_block n) or statement items_or_columns (block n))

-- ---- a file

abbrev pub file : Form PlainStripBlock → Form PlainStripFile
file block = do
  const_key ← key keys.Const
  constant ← name
  equals ← mark Equals
  low ← number
  dots ← mark Dots
  high ← top
  semicolon ← mark Semicolon
  global_key ← key keys.Global
  protocol_key ← key keys.Protocol
  protocol ← name
  left ← mark LeftParen
  list ← roles
  right ← mark RightParen
  body ← block
  done (record { constant = constant; low = low.value; low_place = low.place; high = high.high; high_place = high.place; protocol = protocol; roles = list; body = body })

-- the tokens are a file with strips, and this is its tree
abbrev pub IsStripFile : List Token → PlainStripFile → Type 0
IsStripFile ts f = (n : ℕ) × (file (block n)).text ts f

-- the tokens are a front of such a file
abbrev pub IsStripFront : List Token → Type 0
IsStripFront ts = (n : ℕ) × (file (block n)).front ts
