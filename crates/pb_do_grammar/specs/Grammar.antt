-- The grammar of a file with subprotocols. It is that of a protocol file with two forms more: a subprotocol before the
-- protocol, and the call of one as a statement.
use Rattle.std.specs.Prelude.{ℕ, zero, suc, List, [], ◌∷◌}
use Rattle.pb_text.specs.declared.place.Spot.{Spot}
use Rattle.pb_text.specs.declared.token.Token.{Token}
use Rattle.pb_text.specs.declared.token.Mark.TheVariants.{Dots, Equals, Semicolon, LeftParen, RightParen, LeftBrace, RightBrace, Comma, Colon}
use Rattle.pb_text.specs.declared.token.Key.TheVariants as keys
use Rattle.pb_syntax.specs.Form.{Form, done, many, ◌>>=◌, ◌or◌}
use Rattle.pb_syntax.specs.Tree.{PlainStatement}
use Rattle.pb_syntax.specs.Grammar.{mark, key, name, number, range, top, roles, plain_end, message_text, compute_text, continue_text, collective, and_semicolon, item}
use Rattle.pb_do_syntax.specs.Calls.{Call, plain, foreach, loop, choice, call, calls_of, branches_of, PlainCallBlock, PlainSub, PlainCallFile}

-- a statement of a protocol that has no braces
abbrev pub simple : Form PlainStatement → Form Call
simple what = do
  s ← and_semicolon what
  done (plain s)

-- an item of a foreach, which is no call
abbrev pub item_call : Form Call
item_call = do
  s ← item
  done (plain s)

-- { what it holds, any number of times }
abbrev pub braces : Form Call → Form PlainCallBlock
braces inside = do
  open_brace ← mark LeftBrace
  list ← many inside
  close_brace ← mark RightBrace
  done (record { place = open_brace; list = calls_of list })

-- foreach ( NAME : lin .. lin ) { items }
abbrev pub foreach_text : Form Call
foreach_text = do
  start ← key keys.Foreach
  left ← mark LeftParen
  var ← name
  colon ← mark Colon
  over ← range
  right ← mark RightParen
  items ← braces item_call
  done (foreach start var over items.place items.list)

-- rec NAME block
abbrev pub rec_text : Form PlainCallBlock → Form Call
rec_text block = do
  start ← key keys.Rec
  of ← name
  body ← block
  done (loop start of body.place body.list)

-- or block
abbrev pub or_block : Form PlainCallBlock → Form PlainCallBlock
or_block block = do
  or_key ← key keys.Or
  block

-- choice NAME at end block or block {or block}
abbrev pub choice_text : Form PlainCallBlock → Form Call
choice_text block = do
  start ← key keys.Choice
  kernel ← name
  at_key ← key keys.At
  who ← plain_end
  first ← block
  second ← or_block block
  others ← many (or_block block)
  done (choice start kernel who (branches_of (first ∷ second ∷ others)))

-- , NAME
abbrev pub comma_name : Form Spot
comma_name = do
  comma ← mark Comma
  name

-- do NAME ( NAME {, NAME} ) ;
abbrev pub call_text : Form Call
call_text = do
  start ← key keys.Do
  of ← name
  left ← mark LeftParen
  first ← name
  others ← many comma_name
  right ← mark RightParen
  semicolon ← mark Semicolon
  done (call start of (first ∷ others))

abbrev pub statement : Form PlainCallBlock → Form Call
statement block =
    simple message_text
    or foreach_text
    or rec_text block
    or simple continue_text
    or choice_text block
    or simple compute_text
    or call_text
    or simple collective

-- { statements }, in which braces stand at most n deep
unfoldable pub block : ℕ → Form PlainCallBlock
block zero = do
  open_brace ← mark LeftBrace
  close_brace ← mark RightBrace
  done (record { place = open_brace; list = calls_of [] })
block (suc n) = braces (statement (block n))

-- role NAME
abbrev pub parameter : Form Spot
parameter = do
  start ← key keys.Role
  name

abbrev pub comma_parameter : Form Spot
comma_parameter = do
  comma ← mark Comma
  parameter

-- protocol NAME ( role NAME {, role NAME} ) block
abbrev pub subprotocol : Form PlainCallBlock → Form PlainSub
subprotocol block = do
  start ← key keys.Protocol
  of ← name
  left ← mark LeftParen
  first ← parameter
  others ← many comma_parameter
  right ← mark RightParen
  body ← block
  done (record { name = of; params = first ∷ others; body = body })

-- a constant, any number of subprotocols, and a protocol
abbrev pub file : Form PlainCallBlock → Form PlainCallFile
file block = do
  const_key ← key keys.Const
  constant ← name
  equals ← mark Equals
  low ← number
  dots ← mark Dots
  high ← top
  semicolon ← mark Semicolon
  subs ← many (subprotocol block)
  global_key ← key keys.Global
  protocol_key ← key keys.Protocol
  protocol ← name
  left ← mark LeftParen
  list ← roles
  right ← mark RightParen
  body ← block
  done (record { subs = subs; constant = constant; low = low.value; low_place = low.place; high = high.high; high_place = high.place; protocol = protocol; roles = list; body = body })

-- the tokens are a file with subprotocols, and this is its tree
abbrev pub IsCallFile : List Token → PlainCallFile → Type 0
IsCallFile ts f = (n : ℕ) × (file (block n)).text ts f

-- the tokens are a front of such a file
abbrev pub IsCallFront : List Token → Type 0
IsCallFront ts = (n : ℕ) × (file (block n)).front ts
