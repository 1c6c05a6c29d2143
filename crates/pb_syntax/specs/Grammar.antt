-- The grammar of a file.
use Rattle.std.specs.Prelude.{ℕ, zero, suc, ℤ, pos, ◌-ℤ◌, Bool, List, [], ◌∷◌, ◌==◌, nat_le, Option, Some, None, if◌then◌else◌}
use Rattle.pb_text.specs.declared.place.Place.{Place}
use Rattle.pb_text.specs.declared.place.Spot.{Spot}
use Rattle.pb_text.specs.declared.token.Token.{Token}
use Rattle.pb_text.specs.declared.token.TokenKind.{TokenKind}
use Rattle.pb_text.specs.declared.token.TokenKind.TheVariants as kind
use Rattle.pb_text.specs.declared.token.Mark.{Mark}
use Rattle.pb_text.specs.declared.token.Mark.TheVariants.{Dots, Equals, Semicolon, LeftParen, RightParen, LeftBracket, RightBracket, LeftBrace, RightBrace, Comma, Colon, Plus, Minus}
use Rattle.pb_text.specs.declared.token.Key.{Key}
use Rattle.pb_text.specs.declared.token.Key.TheVariants as keys
use Rattle.pb_text.specs.declared.limits.TheConstants.{MOST_NUMBER}
use Rattle.pb_syntax.specs.declared.tree.High.TheVariants as tops
use Rattle.pb_syntax.specs.declared.tree.Payload.{Payload}
use Rattle.pb_syntax.specs.declared.tree.Payload.TheVariants as pay
use Rattle.pb_syntax.specs.declared.tree.Op.{Op}
use Rattle.pb_syntax.specs.declared.tree.Op.TheVariants as ops
use Rattle.pb_syntax.specs.declared.tree.LinText.{LinText}
use Rattle.pb_syntax.specs.declared.tree.RangeText.{RangeText}
use Rattle.pb_syntax.specs.declared.tree.IndexText.{IndexText}
use Rattle.pb_syntax.specs.declared.tree.IndexText.TheVariants as index
use Rattle.pb_syntax.specs.declared.tree.End.{End}
use Rattle.pb_syntax.specs.declared.tree.RoleText.{RoleText}
use Rattle.pb_syntax.specs.Tree.{Numeral}
use Rattle.pb_syntax.specs.Tree.{Top}
use Rattle.pb_syntax.specs.Form.{Form, done, one, many, ◌>>=◌, ◌or◌}
use Rattle.pb_syntax.specs.Tree.{PlainStatement, message, foreach, loop, again, choice, compute, barrier, broadcast, reduce, allreduce, PlainBlock, statements_of, branches_of, PlainFile}

abbrev pub mark_number : Mark → ℕ
mark_number Dots = 0
mark_number Equals = 1
mark_number Semicolon = 2
mark_number LeftParen = 3
mark_number RightParen = 4
mark_number LeftBracket = 5
mark_number RightBracket = 6
mark_number LeftBrace = 7
mark_number RightBrace = 8
mark_number Comma = 9
mark_number Colon = 10
mark_number Plus = 11
mark_number Minus = 12

abbrev pub key_number : Key → ℕ
key_number keys.Const = 13
key_number keys.Global = 14
key_number keys.Protocol = 15
key_number keys.Role = 16
key_number keys.From = 17
key_number keys.To = 18
key_number keys.Foreach = 19
key_number keys.Rec = 20
key_number keys.Continue = 21
key_number keys.Choice = 22
key_number keys.At = 23
key_number keys.Or = 24
key_number keys.Compute = 25
key_number keys.Barrier = 26
key_number keys.Broadcast = 27
key_number keys.Reduce = 28
key_number keys.Allreduce = 29
key_number keys.With = 30
key_number keys.Max = 31
key_number keys.Min = 32
key_number keys.Sum = 33
key_number keys.Int32 = 34
key_number keys.Uint32 = 35
key_number keys.Do = 36

abbrev pub name_number : ℕ
name_number = 37

abbrev pub numeral_number : ℕ
numeral_number = 38

-- The kinds of tokens have numbers, names and numerals one each.
abbrev pub kind_number : TokenKind → ℕ
kind_number (kind.Mark m) = mark_number m
kind_number (kind.Key k) = key_number k
kind_number (kind.Word w) = name_number
kind_number (kind.Number n) = numeral_number

-- Single tokens, and what each stands for.
abbrev pub is_mark : Mark → TokenKind → Bool
is_mark m k = kind_number k == mark_number m

abbrev pub is_key : Key → TokenKind → Bool
is_key key k = kind_number k == key_number key

abbrev pub word_in : TokenKind → Option (List ℕ)
word_in (kind.Word w) = Some w
word_in other = None

abbrev pub number_in : TokenKind → Option ℕ
number_in (kind.Number n) = Some n
number_in other = None

abbrev pub mapped : {A B : Type 0} → (A → B) → Option A → Option B
mapped f (Some x) = Some (f x)
mapped f None = None

abbrev pub reads_mark : Mark → Token → Option Place
reads_mark m t = if is_mark m t.kind then Some t.place else None

abbrev pub reads_key : Key → Token → Option Place
reads_key k t = if is_key k t.kind then Some t.place else None

abbrev pub reads_name : Token → Option Spot
reads_name t = mapped (λ w. record { name = w; place = t.place }) (word_in t.kind)

-- no token has a larger number
abbrev pub not_large : Option Numeral → Option Numeral
not_large (Some n) = if nat_le n.value MOST_NUMBER then Some n else None
not_large None = None

abbrev pub numeral_in : Token → Option Numeral
numeral_in t = mapped (λ n. record { value = n; place = t.place }) (number_in t.kind)

abbrev pub reads_number : Token → Option Numeral
reads_number t = not_large (numeral_in t)

abbrev pub not_zero : Option Numeral → Option Numeral
not_zero (Some n) = if n.value == 0 then None else Some n
not_zero None = None

abbrev pub reads_count : Token → Option Numeral
reads_count t = not_zero (reads_number t)

abbrev pub mark : Mark → Form Place
mark m = one (reads_mark m)

abbrev pub key : Key → Form Place
key k = one (reads_key k)

abbrev pub name : Form Spot
name = one reads_name

abbrev pub number : Form Numeral
number = one reads_number

-- nothing, or + NUM, or - NUM
abbrev pub offset : Form ℤ
offset =
    (do
      plus ← mark Plus
      n ← number
      done (pos n.value))
    or (do
      minus ← mark Minus
      n ← number
      done (pos 0 -ℤ pos n.value))
    or done (pos 0)

-- NUM, or NAME with an offset
abbrev pub lin : Form LinText
lin =
    (do
      n ← number
      done (record { base = None; off = pos n.value; place = n.place }))
    or (do
      base ← name
      off ← offset
      done (record { base = Some base; off = off; place = base.place }))

-- lin .. lin
abbrev pub range : Form RangeText
range = do
  low ← lin
  dots ← mark Dots
  high ← lin
  done (record { low = low; high = high })

-- NUM or max
abbrev pub top : Form Top
top =
    (do
      n ← number
      done (record { high = tops.Upto n.value; place = n.place }))
    or (do
      max ← key keys.Max
      done (record { high = tops.Max; place = max }))

-- optionally [ lin .. lin ]
abbrev pub role_range : Form (Option RangeText)
role_range =
    (do
      left ← mark LeftBracket
      over ← range
      right ← mark RightBracket
      done (Some over))
    or done None

-- role NAME, optionally [ lin .. lin ]
abbrev pub role : Form RoleText
role = do
  start ← key keys.Role
  of ← name
  over ← role_range
  done (record { role = of; range = over })

abbrev pub comma_role : Form RoleText
comma_role = do
  comma ← mark Comma
  role

-- role {, role}
abbrev pub roles : Form (List RoleText)
roles = do
  first ← role
  others ← many comma_role
  done (first ∷ others)

-- int32 or uint32
abbrev pub type : Form (ℕ → Payload)
type =
    (do
      int32 ← key keys.Int32
      done (λ n. pay.Int32 n))
    or (do
      uint32 ← key keys.Uint32
      done (λ n. pay.Uint32 n))

-- nothing, or [ NUM ] with a number other than 0
abbrev pub count : Form ℕ
count =
    (do
      left ← mark LeftBracket
      n ← one reads_count
      right ← mark RightBracket
      done n.value)
    or done 1

-- nothing, or a type with a count
abbrev pub carried : Form Payload
carried =
    (do
      of ← type
      n ← count
      done (of n))
    or done pay.Unit

-- ( ), or ( type ), or ( type [ NUM ] ) with a number other than 0
abbrev pub payload : Form Payload
payload = do
  left ← mark LeftParen
  what ← carried
  right ← mark RightParen
  done what

-- min, max or sum
abbrev pub op : Form Op
op =
    (do
      min ← key keys.Min
      done ops.Min)
    or (do
      max ← key keys.Max
      done ops.Max)
    or (do
      sum ← key keys.Sum
      done ops.Sum)

-- nothing, or [ lin ]
abbrev pub plain_index : Form IndexText
plain_index =
    (do
      left ← mark LeftBracket
      at ← lin
      right ← mark RightBracket
      done (index.At at))
    or done index.Zero

-- NAME, or NAME [ lin ]
abbrev pub plain_end : Form End
plain_end = do
  of ← name
  at ← plain_index
  done (record { role = of; index = at })

-- after a name in brackets: : lin .. lin, or an offset
abbrev pub after_name : Spot → Form IndexText
after_name first =
    (do
      colon ← mark Colon
      over ← range
      done (index.Bind first over))
    or (do
      off ← offset
      done (index.At (record { base = Some first; off = off; place = first.place })))

-- lin, or NAME : lin .. lin
abbrev pub bracketed : Form IndexText
bracketed =
    (do
      n ← number
      done (index.At (record { base = None; off = pos n.value; place = n.place })))
    or (do
      first ← name
      after_name first)

-- nothing, or [ lin ], or [ NAME : lin .. lin ]
abbrev pub any_index : Form IndexText
any_index =
    (do
      left ← mark LeftBracket
      inside ← bracketed
      right ← mark RightBracket
      done inside)
    or done index.Zero

-- NAME, or NAME [ lin ], or, binding, NAME [ NAME : lin .. lin ]
abbrev pub any_end : Form End
any_end = do
  of ← name
  at ← any_index
  done (record { role = of; index = at })

-- the second end of a message: at most one of the two binds
abbrev pub end_beside : IndexText → Form End
end_beside (index.Bind var over) = plain_end
end_beside other = any_end

-- NAME payload from end to end
abbrev pub message_text : Form PlainStatement
message_text = do
  label ← name
  carries ← payload
  from_key ← key keys.From
  from ← any_end
  to_key ← key keys.To
  to ← end_beside from.index
  done (message label carries from to)

abbrev pub item_message : Form PlainStatement
item_message = do
  label ← name
  carries ← payload
  from_key ← key keys.From
  from ← plain_end
  to_key ← key keys.To
  to ← plain_end
  done (message label carries from to)

-- compute NAME at end
abbrev pub compute_text : Form PlainStatement
compute_text = do
  start ← key keys.Compute
  kernel ← name
  at_key ← key keys.At
  who ← plain_end
  done (compute start kernel who)

-- barrier, or broadcast .., or reduce .., or allreduce ..
abbrev pub collective : Form PlainStatement
collective =
    (do
      start ← key keys.Barrier
      done (barrier start))
    or (do
      start ← key keys.Broadcast
      label ← name
      carries ← payload
      from_key ← key keys.From
      from ← plain_end
      done (broadcast start label carries from))
    or (do
      start ← key keys.Reduce
      label ← name
      carries ← payload
      with_key ← key keys.With
      by ← op
      to_key ← key keys.To
      to ← plain_end
      done (reduce start label carries by to))
    or (do
      start ← key keys.Allreduce
      label ← name
      carries ← payload
      with_key ← key keys.With
      by ← op
      done (allreduce start label carries by))

abbrev pub and_semicolon : Form PlainStatement → Form PlainStatement
and_semicolon what = do
  s ← what
  semicolon ← mark Semicolon
  done s

-- { what it holds, any number of times }
abbrev pub braces : Form PlainStatement → Form PlainBlock
braces inside = do
  open_brace ← mark LeftBrace
  list ← many inside
  close_brace ← mark RightBrace
  done (record { place = open_brace; list = statements_of list })

abbrev pub item : Form PlainStatement
item = and_semicolon item_message or and_semicolon compute_text

-- foreach ( NAME : lin .. lin ) { items }
abbrev pub foreach_text : Form PlainStatement
foreach_text = do
  start ← key keys.Foreach
  left ← mark LeftParen
  var ← name
  colon ← mark Colon
  over ← range
  right ← mark RightParen
  items ← braces item
  done (foreach start var over items.place items.list)

-- rec NAME block
abbrev pub rec_text : Form PlainBlock → Form PlainStatement
rec_text block = do
  start ← key keys.Rec
  of ← name
  body ← block
  done (loop start of body.place body.list)

-- continue NAME
abbrev pub continue_text : Form PlainStatement
continue_text = do
  start ← key keys.Continue
  of ← name
  done (again start of)

-- or block
abbrev pub or_block : Form PlainBlock → Form PlainBlock
or_block block = do
  or_key ← key keys.Or
  block

-- choice NAME at end block or block {or block}
abbrev pub choice_text : Form PlainBlock → Form PlainStatement
choice_text block = do
  start ← key keys.Choice
  kernel ← name
  at_key ← key keys.At
  who ← plain_end
  first ← block
  second ← or_block block
  others ← many (or_block block)
  done (choice start kernel who (branches_of (first ∷ second ∷ others)))

abbrev pub statement : Form PlainBlock → Form PlainStatement
statement block =
    and_semicolon message_text
    or foreach_text
    or rec_text block
    or and_semicolon continue_text
    or choice_text block
    or and_semicolon compute_text
    or and_semicolon collective

-- { statements }, in which braces stand at most n deep
unfoldable pub block : ℕ → Form PlainBlock
block zero = do
  open_brace ← mark LeftBrace
  close_brace ← mark RightBrace
  done (record { place = open_brace; list = statements_of [] })
block (suc n) = braces (statement (block n))

abbrev pub file : Form PlainBlock → Form PlainFile
file block = do
  const_key ← key keys.Const
  constant ← name
  equals ← mark Equals
  low ← number
  dots ← mark Dots
  high ← top
  semicolon ← mark Semicolon
  global_key ← key keys.Global
  protocol_key ← key keys.Protocol
  protocol ← name
  left ← mark LeftParen
  list ← roles
  right ← mark RightParen
  body ← block
  done (record { constant = constant; low = low.value; low_place = low.place; high = high.high; high_place = high.place; protocol = protocol; roles = list; body = body })

-- the tokens are a file, and this is its tree
abbrev pub IsFile : List Token → PlainFile → Type 0
IsFile ts f = (n : ℕ) × (file (block n)).text ts f

-- the tokens are a front of a file
abbrev pub IsFront : List Token → Type 0
IsFront ts = (n : ℕ) × (file (block n)).front ts
