-- Reading each form.
use Rattle.std.specs.Prelude.{ℕ, zero, suc, ℤ, pos, ◌-ℤ◌, Bool, List, [], ◌∷◌, length, Option, Some, None, Result, Ok, Err}
use Rattle.pb_text.specs.declared.place.Place.{Place}
use Rattle.pb_text.specs.declared.place.Spot.{Spot}
use Rattle.pb_text.specs.declared.token.Token.{Token}
use Rattle.pb_text.specs.declared.token.Mark.{Mark}
use Rattle.pb_text.specs.declared.token.Mark.TheVariants.{Dots, Equals, Semicolon, LeftParen, RightParen, LeftBracket, RightBracket, LeftBrace, RightBrace, Comma, Colon, Plus, Minus}
use Rattle.pb_text.specs.declared.token.Key.{Key}
use Rattle.pb_text.specs.declared.token.Key.TheVariants as keys
use Rattle.pb_syntax.specs.declared.tree.High.TheVariants as tops
use Rattle.pb_syntax.specs.declared.tree.Payload.{Payload}
use Rattle.pb_syntax.specs.declared.tree.Payload.TheVariants as pay
use Rattle.pb_syntax.specs.declared.tree.Op.{Op}
use Rattle.pb_syntax.specs.declared.tree.Op.TheVariants as ops
use Rattle.pb_syntax.specs.declared.tree.LinText.{LinText}
use Rattle.pb_syntax.specs.declared.tree.RangeText.{RangeText}
use Rattle.pb_syntax.specs.declared.tree.IndexText.{IndexText}
use Rattle.pb_syntax.specs.declared.tree.IndexText.TheVariants as index
use Rattle.pb_syntax.specs.declared.tree.End.{End}
use Rattle.pb_syntax.specs.declared.tree.RoleText.{RoleText}
use Rattle.pb_syntax.specs.Tree.{Numeral}
use Rattle.pb_syntax.specs.Tree.{Top}
use Rattle.pb_syntax.specs.Tree.{PlainStatement, message, foreach, loop, again, choice, compute, barrier, broadcast, reduce, allreduce, PlainBlock, statements_of, branches_of, PlainFile}
use Rattle.pb_syntax.specs.Grammar.{mark_number, key_number, name_number, numeral_number, reads_mark, reads_key, reads_name, reads_number, reads_count}
use Rattle.pb_syntax.specs.Reading.{Reader, next, done_at, one_at, ◌>>=◌, choose, many_at, among}

abbrev pub mark_at : Mark → Reader Place
mark_at m = one_at (reads_mark m)

abbrev pub key_at : Key → Reader Place
key_at k = one_at (reads_key k)

abbrev pub name_at : Reader Spot
name_at = one_at reads_name

abbrev pub number_at : Reader Numeral
number_at = one_at reads_number

abbrev pub mark_next : Mark → Token → Bool
mark_next m = among (mark_number m ∷ [])

abbrev pub key_next : Key → Token → Bool
key_next k = among (key_number k ∷ [])

abbrev pub word_next : Token → Bool
word_next = among (name_number ∷ [])

-- the first tokens of statements, and of items
abbrev pub statement_keys : List ℕ
statement_keys =
    name_number ∷ key_number keys.Foreach ∷ key_number keys.Rec ∷ key_number keys.Continue ∷ key_number keys.Choice ∷ key_number keys.Compute
    ∷ key_number keys.Barrier ∷ key_number keys.Broadcast ∷ key_number keys.Reduce ∷ key_number keys.Allreduce ∷ []

abbrev pub item_keys : List ℕ
item_keys = name_number ∷ key_number keys.Compute ∷ []

abbrev pub number_next : Token → Bool
number_next = among (numeral_number ∷ [])

-- nothing, or + NUM, or - NUM
unfoldable pub offset_at : Reader ℤ
offset_at =
    choose (mark_next Plus) (do
      plus ← mark_at Plus
      n ← number_at
      done_at (pos n.value)) (
    choose (mark_next Minus) (do
      minus ← mark_at Minus
      n ← number_at
      done_at (pos 0 -ℤ pos n.value)) (
    (done_at (pos 0))))

-- NUM, or NAME with an offset
unfoldable pub lin_at : Reader LinText
lin_at =
    choose (number_next) (do
      n ← number_at
      done_at (record { base = None; off = pos n.value; place = n.place })) (
    (do
      base ← name_at
      off ← offset_at
      done_at (record { base = Some base; off = off; place = base.place })))

-- lin .. lin
unfoldable pub range_at : Reader RangeText
range_at = do
  low ← lin_at
  dots ← mark_at Dots
  high ← lin_at
  done_at (record { low = low; high = high })

-- NUM or max
unfoldable pub top_at : Reader Top
top_at =
    choose (number_next) (do
      n ← number_at
      done_at (record { high = tops.Upto n.value; place = n.place })) (
    (do
      max ← key_at keys.Max
      done_at (record { high = tops.Max; place = max })))

-- optionally [ lin .. lin ]
unfoldable pub role_range_at : Reader (Option RangeText)
role_range_at =
    choose (mark_next LeftBracket) (do
      left ← mark_at LeftBracket
      over ← range_at
      right ← mark_at RightBracket
      done_at (Some over)) (
    (done_at None))

-- role NAME, optionally [ lin .. lin ]
unfoldable pub role_at : Reader RoleText
role_at = do
  start ← key_at keys.Role
  of ← name_at
  over ← role_range_at
  done_at (record { role = of; range = over })

unfoldable pub comma_role_at : Reader RoleText
comma_role_at = do
  comma ← mark_at Comma
  role_at

-- the others after a first role
abbrev pub roles_from : RoleText → Reader (List RoleText)
roles_from first = do
  others ← many_at (mark_next Comma) comma_role_at
  done_at (first ∷ others)

-- role {, role}
unfoldable pub roles_at : Reader (List RoleText)
roles_at = do
  first ← role_at
  roles_from first

-- int32 or uint32
unfoldable pub type_at : Reader (ℕ → Payload)
type_at =
    choose (key_next keys.Int32) (do
      int32 ← key_at keys.Int32
      done_at (λ n. pay.Int32 n)) (
    (do
      uint32 ← key_at keys.Uint32
      done_at (λ n. pay.Uint32 n)))

-- nothing, or [ NUM ] with a number other than 0
unfoldable pub count_at : Reader ℕ
count_at =
    choose (mark_next LeftBracket) (do
      left ← mark_at LeftBracket
      n ← one_at reads_count
      right ← mark_at RightBracket
      done_at n.value) (
    (done_at 1))

-- nothing, or a type with a count
unfoldable pub carried_at : Reader Payload
carried_at =
    choose (among (key_number keys.Int32 ∷ key_number keys.Uint32 ∷ [])) (do
      of ← type_at
      n ← count_at
      done_at (of n)) (
    (done_at pay.Unit))

-- ( ), or ( type ), or ( type [ NUM ] ) with a number other than 0
unfoldable pub payload_at : Reader Payload
payload_at = do
  left ← mark_at LeftParen
  what ← carried_at
  right ← mark_at RightParen
  done_at what

-- min, max or sum
unfoldable pub op_at : Reader Op
op_at =
    choose (key_next keys.Min) (do
      min ← key_at keys.Min
      done_at ops.Min) (
    choose (key_next keys.Max) (do
      max ← key_at keys.Max
      done_at ops.Max) (
    (do
      sum ← key_at keys.Sum
      done_at ops.Sum)))

-- nothing, or [ lin ]
unfoldable pub plain_index_at : Reader IndexText
plain_index_at =
    choose (mark_next LeftBracket) (do
      left ← mark_at LeftBracket
      at ← lin_at
      right ← mark_at RightBracket
      done_at (index.At at)) (
    (done_at index.Zero))

-- NAME, or NAME [ lin ]
unfoldable pub plain_end_at : Reader End
plain_end_at = do
  of ← name_at
  at ← plain_index_at
  done_at (record { role = of; index = at })

-- after a name in brackets: : lin .. lin, or an offset
unfoldable pub after_name_at : Spot → Reader IndexText
after_name_at first =
    choose (mark_next Colon) (do
      colon ← mark_at Colon
      over ← range_at
      done_at (index.Bind first over)) (
    (do
      off ← offset_at
      done_at (index.At (record { base = Some first; off = off; place = first.place }))))

-- lin, or NAME : lin .. lin
unfoldable pub bracketed_at : Reader IndexText
bracketed_at =
    choose (number_next) (do
      n ← number_at
      done_at (index.At (record { base = None; off = pos n.value; place = n.place }))) (
    (do
      first ← name_at
      after_name_at first))

-- nothing, or [ lin ], or [ NAME : lin .. lin ]
unfoldable pub any_index_at : Reader IndexText
any_index_at =
    choose (mark_next LeftBracket) (do
      left ← mark_at LeftBracket
      inside ← bracketed_at
      right ← mark_at RightBracket
      done_at inside) (
    (done_at index.Zero))

-- NAME, or NAME [ lin ], or, binding, NAME [ NAME : lin .. lin ]
unfoldable pub any_end_at : Reader End
any_end_at = do
  of ← name_at
  at ← any_index_at
  done_at (record { role = of; index = at })

-- the second end of a message: at most one of the two binds
unfoldable pub end_beside_at : IndexText → Reader End
end_beside_at (index.Bind var over) = plain_end_at
end_beside_at other = any_end_at

-- NAME payload from end to end
unfoldable pub message_text_at : Reader PlainStatement
message_text_at = do
  label ← name_at
  carries ← payload_at
  from_key ← key_at keys.From
  from ← any_end_at
  to_key ← key_at keys.To
  to ← end_beside_at from.index
  done_at (message label carries from to)

unfoldable pub item_message_at : Reader PlainStatement
item_message_at = do
  label ← name_at
  carries ← payload_at
  from_key ← key_at keys.From
  from ← plain_end_at
  to_key ← key_at keys.To
  to ← plain_end_at
  done_at (message label carries from to)

-- compute NAME at end
unfoldable pub compute_text_at : Reader PlainStatement
compute_text_at = do
  start ← key_at keys.Compute
  kernel ← name_at
  at_key ← key_at keys.At
  who ← plain_end_at
  done_at (compute start kernel who)

-- barrier, or broadcast .., or reduce .., or allreduce ..
unfoldable pub collective_at : Reader PlainStatement
collective_at =
    choose (key_next keys.Barrier) (do
      start ← key_at keys.Barrier
      done_at (barrier start)) (
    choose (key_next keys.Broadcast) (do
      start ← key_at keys.Broadcast
      label ← name_at
      carries ← payload_at
      from_key ← key_at keys.From
      from ← plain_end_at
      done_at (broadcast start label carries from)) (
    choose (key_next keys.Reduce) (do
      start ← key_at keys.Reduce
      label ← name_at
      carries ← payload_at
      with_key ← key_at keys.With
      by ← op_at
      to_key ← key_at keys.To
      to ← plain_end_at
      done_at (reduce start label carries by to)) (
    (do
      start ← key_at keys.Allreduce
      label ← name_at
      carries ← payload_at
      with_key ← key_at keys.With
      by ← op_at
      done_at (allreduce start label carries by)))))

unfoldable pub and_semicolon_at : Reader PlainStatement → Reader PlainStatement
and_semicolon_at what = do
  s ← what
  semicolon ← mark_at Semicolon
  done_at s

-- { what it holds, any number of times }
unfoldable pub braces_at : (Token → Bool) → Reader PlainStatement → Reader PlainBlock
braces_at test inside = do
  open_brace ← mark_at LeftBrace
  list ← many_at test inside
  close_brace ← mark_at RightBrace
  done_at (record { place = open_brace; list = statements_of list })

unfoldable pub item_at : Reader PlainStatement
item_at =
    choose (word_next) (and_semicolon_at item_message_at) (
    (and_semicolon_at compute_text_at))

-- foreach ( NAME : lin .. lin ) { items }
unfoldable pub foreach_text_at : Reader PlainStatement
foreach_text_at = do
  start ← key_at keys.Foreach
  left ← mark_at LeftParen
  var ← name_at
  colon ← mark_at Colon
  over ← range_at
  right ← mark_at RightParen
  items ← braces_at (among item_keys) item_at
  done_at (foreach start var over items.place items.list)

-- rec NAME block
unfoldable pub rec_text_at : Reader PlainBlock → Reader PlainStatement
rec_text_at block = do
  start ← key_at keys.Rec
  of ← name_at
  body ← block
  done_at (loop start of body.place body.list)

-- continue NAME
unfoldable pub continue_text_at : Reader PlainStatement
continue_text_at = do
  start ← key_at keys.Continue
  of ← name_at
  done_at (again start of)

-- or block
unfoldable pub or_block_at : Reader PlainBlock → Reader PlainBlock
or_block_at block = do
  or_key ← key_at keys.Or
  block

-- choice NAME at end block or block {or block}
unfoldable pub choice_text_at : Reader PlainBlock → Reader PlainStatement
choice_text_at block = do
  start ← key_at keys.Choice
  kernel ← name_at
  at_key ← key_at keys.At
  who ← plain_end_at
  first ← block
  second ← or_block_at block
  others ← many_at (key_next keys.Or) (or_block_at block)
  done_at (choice start kernel who (branches_of (first ∷ second ∷ others)))

unfoldable pub statement_at : Reader PlainBlock → Reader PlainStatement
statement_at block =
    choose (word_next) (and_semicolon_at message_text_at) (
    choose (key_next keys.Foreach) foreach_text_at (
    choose (key_next keys.Rec) (rec_text_at block) (
    choose (key_next keys.Continue) (and_semicolon_at continue_text_at) (
    choose (key_next keys.Choice) (choice_text_at block) (
    choose (key_next keys.Compute) (and_semicolon_at compute_text_at) (
    (and_semicolon_at collective_at)))))))

-- { statements }, in which braces stand at most n deep
unfoldable pub block_at : ℕ → Reader PlainBlock
block_at zero = do
  open_brace ← mark_at LeftBrace
  close_brace ← mark_at RightBrace
  done_at (record { place = open_brace; list = statements_of [] })
block_at (suc n) = braces_at (among statement_keys) (statement_at (block_at n))

unfoldable pub file_at : Reader PlainBlock → Reader PlainFile
file_at block = do
  const_key ← key_at keys.Const
  constant ← name_at
  equals ← mark_at Equals
  low ← number_at
  dots ← mark_at Dots
  high ← top_at
  semicolon ← mark_at Semicolon
  global_key ← key_at keys.Global
  protocol_key ← key_at keys.Protocol
  protocol ← name_at
  left ← mark_at LeftParen
  list ← roles_at
  right ← mark_at RightParen
  body ← block
  done_at (record { constant = constant; low = low.value; low_place = low.place; high = high.high; high_place = high.place; protocol = protocol; roles = list; body = body })

-- Reading all the tokens. No text has more blocks, one in another, than tokens.
abbrev pub ended : PlainFile → Reader PlainFile
ended f [] = Ok (f, [])
ended f (t ∷ ts) = Err (t ∷ ts)

abbrev pub whole_at : List Token → Result (PlainFile × List Token) (List Token)
whole_at ts = next (file_at (block_at (length ts)) ts) ended
