-- Reading each form from left to right.
use Rattle.std.specs.Prelude.{ℕ, zero, suc, Bool, List, [], ◌∷◌, length, Result, Ok, Err}
use Rattle.pb_text.specs.declared.place.Spot.{Spot}
use Rattle.pb_text.specs.declared.token.Token.{Token}
use Rattle.pb_text.specs.declared.token.Mark.TheVariants.{Dots, Equals, Semicolon, LeftParen, RightParen, LeftBrace, RightBrace, Comma, Colon}
use Rattle.pb_text.specs.declared.token.Key.TheVariants as keys
use Rattle.pb_syntax.specs.Tree.{PlainStatement}
use Rattle.pb_syntax.specs.Grammar.{key_number}
use Rattle.pb_syntax.specs.Reading.{Reader, next, done_at, ◌>>=◌, choose, many_at, among}
use Rattle.pb_syntax.specs.Readers as plainly
use Rattle.pb_syntax.specs.Readers.{mark_at, key_at, name_at, number_at, mark_next, key_next, word_next, item_keys, range_at, top_at, roles_at, plain_end_at, message_text_at, compute_text_at, continue_text_at, collective_at, and_semicolon_at, item_at}
use Rattle.pb_do_syntax.specs.Calls.{Call, plain, foreach, loop, choice, call, calls_of, branches_of, PlainCallBlock, PlainSub, PlainCallFile}

-- the first tokens of statements
abbrev pub call_keys : List ℕ
call_keys = key_number keys.Do ∷ plainly.statement_keys

-- a statement of a protocol that has no braces
unfoldable pub simple_at : Reader PlainStatement → Reader Call
simple_at what = do
  s ← and_semicolon_at what
  done_at (plain s)

-- an item of a foreach, which is no call
unfoldable pub item_call_at : Reader Call
item_call_at = do
  s ← item_at
  done_at (plain s)

-- { what it holds, any number of times }
unfoldable pub braces_at : (Token → Bool) → Reader Call → Reader PlainCallBlock
braces_at test inside = do
  open_brace ← mark_at LeftBrace
  list ← many_at test inside
  close_brace ← mark_at RightBrace
  done_at (record { place = open_brace; list = calls_of list })

-- foreach ( NAME : lin .. lin ) { items }
unfoldable pub foreach_text_at : Reader Call
foreach_text_at = do
  start ← key_at keys.Foreach
  left ← mark_at LeftParen
  var ← name_at
  colon ← mark_at Colon
  over ← range_at
  right ← mark_at RightParen
  items ← braces_at (among item_keys) item_call_at
  done_at (foreach start var over items.place items.list)

-- rec NAME block
unfoldable pub rec_text_at : Reader PlainCallBlock → Reader Call
rec_text_at block = do
  start ← key_at keys.Rec
  of ← name_at
  body ← block
  done_at (loop start of body.place body.list)

-- or block
unfoldable pub or_block_at : Reader PlainCallBlock → Reader PlainCallBlock
or_block_at block = do
  or_key ← key_at keys.Or
  block

-- choice NAME at end block or block {or block}
unfoldable pub choice_text_at : Reader PlainCallBlock → Reader Call
choice_text_at block = do
  start ← key_at keys.Choice
  kernel ← name_at
  at_key ← key_at keys.At
  who ← plain_end_at
  first ← block
  second ← or_block_at block
  others ← many_at (key_next keys.Or) (or_block_at block)
  done_at (choice start kernel who (branches_of (first ∷ second ∷ others)))

-- , NAME
unfoldable pub comma_name_at : Reader Spot
comma_name_at = do
  comma ← mark_at Comma
  name_at

-- do NAME ( NAME {, NAME} ) ;
unfoldable pub call_text_at : Reader Call
call_text_at = do
  start ← key_at keys.Do
  of ← name_at
  left ← mark_at LeftParen
  first ← name_at
  others ← many_at (mark_next Comma) comma_name_at
  right ← mark_at RightParen
  semicolon ← mark_at Semicolon
  done_at (call start of (first ∷ others))

unfoldable pub statement_at : Reader PlainCallBlock → Reader Call
statement_at block =
    choose (word_next) (simple_at message_text_at) (
    choose (key_next keys.Foreach) foreach_text_at (
    choose (key_next keys.Rec) (rec_text_at block) (
    choose (key_next keys.Continue) (simple_at continue_text_at) (
    choose (key_next keys.Choice) (choice_text_at block) (
    choose (key_next keys.Compute) (simple_at compute_text_at) (
    choose (key_next keys.Do) call_text_at (
    (simple_at collective_at))))))))

-- { statements }, in which braces stand at most n deep
unfoldable pub block_at : ℕ → Reader PlainCallBlock
block_at zero = do
  open_brace ← mark_at LeftBrace
  close_brace ← mark_at RightBrace
  done_at (record { place = open_brace; list = calls_of [] })
block_at (suc n) = braces_at (among call_keys) (statement_at (block_at n))

-- role NAME
unfoldable pub parameter_at : Reader Spot
parameter_at = do
  start ← key_at keys.Role
  name_at

unfoldable pub comma_parameter_at : Reader Spot
comma_parameter_at = do
  comma ← mark_at Comma
  parameter_at

-- protocol NAME ( role NAME {, role NAME} ) block
unfoldable pub subprotocol_at : Reader PlainCallBlock → Reader PlainSub
subprotocol_at block = do
  start ← key_at keys.Protocol
  of ← name_at
  left ← mark_at LeftParen
  first ← parameter_at
  others ← many_at (mark_next Comma) comma_parameter_at
  right ← mark_at RightParen
  body ← block
  done_at (record { name = of; params = first ∷ others; body = body })

-- a constant, any number of subprotocols, and a protocol
unfoldable pub file_at : Reader PlainCallBlock → Reader PlainCallFile
file_at block = do
  const_key ← key_at keys.Const
  constant ← name_at
  equals ← mark_at Equals
  low ← number_at
  dots ← mark_at Dots
  high ← top_at
  semicolon ← mark_at Semicolon
  subs ← many_at (key_next keys.Protocol) (subprotocol_at block)
  global_key ← key_at keys.Global
  protocol_key ← key_at keys.Protocol
  protocol ← name_at
  left ← mark_at LeftParen
  list ← roles_at
  right ← mark_at RightParen
  body ← block
  done_at (record { subs = subs; constant = constant; low = low.value; low_place = low.place; high = high.high; high_place = high.place; protocol = protocol; roles = list; body = body })

-- Reading all the tokens. No text has more blocks, one in another, than tokens.
abbrev pub ended : PlainCallFile → Reader PlainCallFile
ended f [] = Ok (f, [])
ended f (t ∷ ts) = Err (t ∷ ts)

abbrev pub whole_at : List Token → Result (PlainCallFile × List Token) (List Token)
whole_at ts = next (file_at (block_at (length ts)) ts) ended
