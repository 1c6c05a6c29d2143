-- The tokens that a tree is printed as, behind the tokens that stand before it.
use Rattle.std.specs.Prelude.{ℕ, zero, suc, ℤ, pos, negsuc, List, [], ◌∷◌, ◌++◌, ◌==◌, Option, Some, None, if◌then◌else◌}
use Rattle.pb_text.specs.declared.place.Spot.{Spot}
use Rattle.pb_text.specs.declared.token.TokenKind.{TokenKind}
use Rattle.pb_text.specs.declared.token.TokenKind.TheVariants as kind
use Rattle.pb_text.specs.declared.token.Mark.{Mark}
use Rattle.pb_text.specs.declared.token.Mark.TheVariants.{Dots, Equals, Semicolon, LeftParen, RightParen, LeftBracket, RightBracket, LeftBrace, RightBrace, Comma, Colon, Plus, Minus}
use Rattle.pb_text.specs.declared.token.Key.{Key}
use Rattle.pb_text.specs.declared.token.Key.TheVariants as keys
use Rattle.pb_syntax.specs.declared.tree.High.{High}
use Rattle.pb_syntax.specs.declared.tree.High.TheVariants as high
use Rattle.pb_syntax.specs.declared.tree.Payload.{Payload}
use Rattle.pb_syntax.specs.declared.tree.Payload.TheVariants as pay
use Rattle.pb_syntax.specs.declared.tree.Op.{Op}
use Rattle.pb_syntax.specs.declared.tree.Op.TheVariants as ops
use Rattle.pb_syntax.specs.declared.tree.LinText.{LinText}
use Rattle.pb_syntax.specs.declared.tree.RangeText.{RangeText}
use Rattle.pb_syntax.specs.declared.tree.IndexText.{IndexText}
use Rattle.pb_syntax.specs.declared.tree.IndexText.TheVariants as index
use Rattle.pb_syntax.specs.declared.tree.End.{End}
use Rattle.pb_syntax.specs.declared.tree.RoleText.{RoleText}
use Rattle.pb_syntax.specs.Tree.{PlainStatement, message, foreach, loop, again, choice, compute, barrier, broadcast, reduce, allreduce, PlainStatements, nothing, more, PlainBranches, no_branch, branch, PlainBlock, PlainFile}

abbrev pub Kinds : Type 0
Kinds = List TokenKind

-- one part, and the next one behind it
infixl 6 ◌>>◌
abbrev pub ◌>>◌ : (Kinds → Kinds) → (Kinds → Kinds) → Kinds → Kinds
(f >> g) before = g (f before)

abbrev pub mark : Mark → Kinds → Kinds
mark m before = before ++ kind.Mark m ∷ []

abbrev pub key : Key → Kinds → Kinds
key k before = before ++ kind.Key k ∷ []

abbrev pub word : List ℕ → Kinds → Kinds
word name before = before ++ kind.Word name ∷ []

abbrev pub number : ℕ → Kinds → Kinds
number n before = before ++ kind.Number n ∷ []

-- an offset 0 is left out
abbrev pub offset_tokens : ℤ → Kinds → Kinds
offset_tokens (pos zero) before = before
offset_tokens (pos (suc n)) before = (mark Plus >> number (suc n)) before
offset_tokens (negsuc n) before = (mark Minus >> number (suc n)) before

-- a number, which has no sign
abbrev pub size : ℤ → ℕ
size (pos n) = n
size (negsuc n) = suc n

abbrev pub based_tokens : Option Spot → ℤ → Kinds → Kinds
based_tokens None off = number (size off)
based_tokens (Some base) off = word base.name >> offset_tokens off

abbrev pub lin_tokens : LinText → Kinds → Kinds
lin_tokens l = based_tokens l.base l.off

abbrev pub range_tokens : RangeText → Kinds → Kinds
range_tokens r = lin_tokens r.low >> mark Dots >> lin_tokens r.high

abbrev pub over_tokens : Option RangeText → Kinds → Kinds
over_tokens None before = before
over_tokens (Some r) before = (mark LeftBracket >> range_tokens r >> mark RightBracket) before

abbrev pub role_tokens : RoleText → Kinds → Kinds
role_tokens r = key keys.Role >> word r.role.name >> over_tokens r.range

-- the roles behind a first one
abbrev pub comma_tokens : List RoleText → Kinds → Kinds
comma_tokens [] before = before
comma_tokens (r ∷ rs) before = comma_tokens rs ((mark Comma >> role_tokens r) before)

abbrev pub roles_tokens : List RoleText → Kinds → Kinds
roles_tokens [] before = before
roles_tokens (r ∷ rs) before = (role_tokens r >> comma_tokens rs) before

abbrev pub high_tokens : High → Kinds → Kinds
high_tokens (high.Upto n) = number n
high_tokens high.Max = key keys.Max

-- a count 1 is left out
abbrev pub count_tokens : ℕ → Kinds → Kinds
count_tokens n before = if n == 1 then before else (mark LeftBracket >> number n >> mark RightBracket) before

abbrev pub carried_tokens : Payload → Kinds → Kinds
carried_tokens pay.Unit before = before
carried_tokens (pay.Int32 n) before = (key keys.Int32 >> count_tokens n) before
carried_tokens (pay.Uint32 n) before = (key keys.Uint32 >> count_tokens n) before

abbrev pub payload_tokens : Payload → Kinds → Kinds
payload_tokens p = mark LeftParen >> carried_tokens p >> mark RightParen

abbrev pub op_tokens : Op → Kinds → Kinds
op_tokens ops.Min = key keys.Min
op_tokens ops.Max = key keys.Max
op_tokens ops.Sum = key keys.Sum

abbrev pub bracketed_tokens : IndexText → Kinds → Kinds
bracketed_tokens index.Zero before = before
bracketed_tokens (index.At l) before = lin_tokens l before
bracketed_tokens (index.Bind var over) before = (word var.name >> mark Colon >> range_tokens over) before

abbrev pub index_tokens : IndexText → Kinds → Kinds
index_tokens index.Zero before = before
index_tokens (index.At l) before = (mark LeftBracket >> bracketed_tokens (index.At l) >> mark RightBracket) before
index_tokens (index.Bind var over) before = (mark LeftBracket >> bracketed_tokens (index.Bind var over) >> mark RightBracket) before

abbrev pub end_tokens : End → Kinds → Kinds
end_tokens e = word e.role.name >> index_tokens e.index

abbrev pub message_tokens : Spot → Payload → End → End → Kinds → Kinds
message_tokens label payload from to = word label.name >> payload_tokens payload >> key keys.From >> end_tokens from >> key keys.To >> end_tokens to >> mark Semicolon

-- up to the items
abbrev pub foreach_tokens : Spot → RangeText → Kinds → Kinds
foreach_tokens var over = key keys.Foreach >> mark LeftParen >> word var.name >> mark Colon >> range_tokens over >> mark RightParen

-- a keyword, a kernel and where it runs
abbrev pub kernel_tokens : Key → Spot → End → Kinds → Kinds
kernel_tokens k kernel who = key k >> word kernel.name >> key keys.At >> end_tokens who

abbrev pub broadcast_tokens : Spot → Payload → End → Kinds → Kinds
broadcast_tokens label payload from = key keys.Broadcast >> word label.name >> payload_tokens payload >> key keys.From >> end_tokens from >> mark Semicolon

abbrev pub reduce_tokens : Spot → Payload → Op → End → Kinds → Kinds
reduce_tokens label payload op to = key keys.Reduce >> word label.name >> payload_tokens payload >> key keys.With >> op_tokens op >> key keys.To >> end_tokens to >> mark Semicolon

abbrev pub allreduce_tokens : Spot → Payload → Op → Kinds → Kinds
allreduce_tokens label payload op = key keys.Allreduce >> word label.name >> payload_tokens payload >> key keys.With >> op_tokens op >> mark Semicolon

abbrev mutual
  pub statement_tokens : PlainStatement → Kinds → Kinds
  statement_tokens (message label payload from to) before = message_tokens label payload from to before
  statement_tokens (foreach place var over at items) before = mark RightBrace (statements_tokens items (mark LeftBrace (foreach_tokens var over before)))
  statement_tokens (loop place name at body) before = mark RightBrace (statements_tokens body ((key keys.Rec >> word name.name >> mark LeftBrace) before))
  statement_tokens (again place name) before = (key keys.Continue >> word name.name >> mark Semicolon) before
  statement_tokens (choice place kernel who branches) before = branches_tokens branches (kernel_tokens keys.Choice kernel who before)
  statement_tokens (compute place kernel who) before = mark Semicolon (kernel_tokens keys.Compute kernel who before)
  statement_tokens (barrier place) before = (key keys.Barrier >> mark Semicolon) before
  statement_tokens (broadcast place label payload from) before = broadcast_tokens label payload from before
  statement_tokens (reduce place label payload op to) before = reduce_tokens label payload op to before
  statement_tokens (allreduce place label payload op) before = allreduce_tokens label payload op before

  pub statements_tokens : PlainStatements → Kinds → Kinds
  statements_tokens nothing before = before
  statements_tokens (more s rest) before = statements_tokens rest (statement_tokens s before)

  pub branches_tokens : PlainBranches → Kinds → Kinds
  branches_tokens no_branch before = before
  branches_tokens (branch at body rest) before = or_tokens rest (mark RightBrace (statements_tokens body (mark LeftBrace before)))

  -- the branches behind a first one
  pub or_tokens : PlainBranches → Kinds → Kinds
  or_tokens no_branch before = before
  or_tokens (branch at body rest) before = or_tokens rest (mark RightBrace (statements_tokens body ((key keys.Or >> mark LeftBrace) before)))

-- before the branch of a number
abbrev pub or_at : ℕ → Kinds → Kinds
or_at n before = if n == 0 then before else key keys.Or before

abbrev pub block_tokens : PlainBlock → Kinds → Kinds
block_tokens b before = mark RightBrace (statements_tokens b.list (mark LeftBrace before))

abbrev pub constant_tokens : PlainFile → Kinds → Kinds
constant_tokens f = key keys.Const >> word f.constant.name >> mark Equals >> number f.low >> mark Dots >> high_tokens f.high >> mark Semicolon

abbrev pub head_tokens : PlainFile → Kinds → Kinds
head_tokens f = constant_tokens f >> key keys.Global >> key keys.Protocol >> word f.protocol.name >> mark LeftParen >> roles_tokens f.roles >> mark RightParen

abbrev pub file_tokens : PlainFile → Kinds
file_tokens f = (head_tokens f >> block_tokens f.body) []
