-- The limits on a file with subprotocols. They are counted on the tokens, from the first one on, and are no part of the
-- grammar. The statements of all blocks count together; the parameters of a subprotocol are no roles.
use Rattle.std.specs.Prelude.{◌≡◌, ℕ, ◌+◌, ◌-◌, List, [], ◌∷◌, replicate, take, drop, Option, Some, None, Result, Ok, Err, slice_set, slice_index}
use Rattle.pb_text.specs.declared.quantity.Quantity.{Quantity}
use Rattle.pb_text.specs.declared.quantity.Quantity.TheVariants as quantity
use Rattle.pb_text.specs.declared.token.Token.{Token}
use Rattle.pb_text.specs.declared.token.TokenKind.{TokenKind}
use Rattle.pb_text.specs.declared.token.TokenKind.TheVariants as kind
use Rattle.pb_text.specs.declared.token.Mark.{Mark}
use Rattle.pb_text.specs.declared.token.Mark.TheVariants as mark
use Rattle.pb_text.specs.declared.token.Key.{Key}
use Rattle.pb_text.specs.declared.token.Key.TheVariants as key
use Rattle.pb_parse.specs.Limits.{full, above}
use Rattle.pb_do_parse.specs.declared.limits.Counts.{Counts}
use Rattle.pb_do_parse.specs.declared.limits.Sort.{Sort}
use Rattle.pb_do_parse.specs.declared.limits.Sort.TheVariants.{LeftBrace, RightBrace, Semicolon, LeftBracket, Dots, ElementType, Role, Choice, Or, Statement, Global, Name, Number, Other}
use Rattle.pb_do_parse.specs.declared.limits.Behind.{Behind}
use Rattle.pb_do_parse.specs.declared.limits.Behind.TheVariants as behind
use Rattle.pb_do_parse.specs.declared.limits.Part.{Part}
use Rattle.pb_do_parse.specs.declared.limits.Part.TheVariants as part

-- what a token is to the limits
abbrev pub mark_sort : Mark → Sort
mark_sort mark.LeftBrace = LeftBrace
mark_sort mark.RightBrace = RightBrace
mark_sort mark.Semicolon = Semicolon
mark_sort mark.LeftBracket = LeftBracket
mark_sort mark.Dots = Dots
mark_sort _ = Other

-- a keyword that begins a statement, and is not choice, is the sort Statement
abbrev pub key_sort : Key → Sort
key_sort key.Global = Global
key_sort key.Role = Role
key_sort key.Choice = Choice
key_sort key.Or = Or
key_sort key.Int32 = ElementType
key_sort key.Uint32 = ElementType
key_sort key.Foreach = Statement
key_sort key.Rec = Statement
key_sort key.Continue = Statement
key_sort key.Compute = Statement
key_sort key.Barrier = Statement
key_sort key.Broadcast = Statement
key_sort key.Reduce = Statement
key_sort key.Allreduce = Statement
key_sort key.Do = Statement
key_sort _ = Other

abbrev pub sort_of : TokenKind → Sort
sort_of (kind.Word w) = Name
sort_of (kind.Number n) = Number n
sort_of (kind.Mark m) = mark_sort m
sort_of (kind.Key k) = key_sort k

-- what a token is to the next one
abbrev pub behind_bracket : Behind → Behind
behind_bracket behind.ElementType = behind.TypeBracket
behind_bracket _ = behind.Other

abbrev pub behind_next : Behind → Sort → Behind
behind_next last LeftBrace = behind.Boundary
behind_next last RightBrace = behind.Boundary
behind_next last Semicolon = behind.Boundary
behind_next last ElementType = behind.ElementType
behind_next last Dots = behind.Dots
behind_next last LeftBracket = behind_bracket last
behind_next last _ = behind.Other

-- the constant ends with the first ; and the subprotocols end with global
abbrev pub behind_semicolon : Part → Part
behind_semicolon part.Constant = part.Subprotocols
behind_semicolon part.Subprotocols = part.Subprotocols
behind_semicolon part.Protocol = part.Protocol

abbrev pub part_next : Part → Sort → Part
part_next here Semicolon = behind_semicolon here
part_next here Global = part.Protocol
part_next here _ = here

-- before the first token
abbrev pub at_start : Counts
at_start = record { depth = 0; statements = 0; roles = 0; branches = replicate 65 0; last = behind.Other; part = part.Constant }

-- The number behind the dots of the constant is its upper end, and has no limit here.
abbrev pub number_behind_dots : Part → ℕ → Option Quantity
number_behind_dots part.Constant n = None
number_behind_dots _ n = above 100000 n quantity.Constant

-- The number behind the [ behind a type is a payload's count. Any other but the upper end is the constant's lower end, or
-- stands in a lin.
abbrev pub number_behind : Behind → Part → ℕ → Option Quantity
number_behind behind.TypeBracket here n = above 1024 n quantity.PayloadCount
number_behind behind.Dots here n = number_behind_dots here n
number_behind _ here n = above 100000 n quantity.Constant

abbrev pub number_passed : Counts → ℕ → Option Quantity
number_passed c n = number_behind c.last c.part n

-- a role is one of the protocol; behind the same keyword stands a parameter of a subprotocol
abbrev pub role_passed : Part → ℕ → Option Quantity
role_passed part.Protocol roles = full 64 roles quantity.Roles
role_passed _ roles = None

-- a name behind a brace or a semicolon is the label of a message, and begins a statement
abbrev pub name_passed : Behind → ℕ → Option Quantity
name_passed behind.Boundary statements = full 4000 statements quantity.Statements
name_passed _ statements = None

-- the limit that a token passes behind these counts
abbrev pub sort_passed : Counts → Sort → Option Quantity
sort_passed c LeftBrace = full 64 c.depth quantity.Nesting
sort_passed c Role = role_passed c.part c.roles
sort_passed c Or = full 64 (slice_index c.branches c.depth) quantity.Branches
sort_passed c Choice = full 4000 c.statements quantity.Statements
sort_passed c Statement = full 4000 c.statements quantity.Statements
sort_passed c Name = name_passed c.last c.statements
sort_passed c (Number n) = number_passed c n
sort_passed c _ = None

-- the counts behind a token that passes none
abbrev pub role_counted : Part → Counts → Counts
role_counted part.Protocol c = record c { roles = c.roles + 1 }
role_counted _ c = c

abbrev pub name_counted : Behind → Counts → Counts
name_counted behind.Boundary c = record c { statements = c.statements + 1 }
name_counted _ c = c

abbrev pub counted : Counts → Sort → Counts
counted c LeftBrace = record c { depth = c.depth + 1 }
counted c RightBrace = record c { depth = c.depth - 1 }
counted c Role = role_counted c.part c
counted c Or = record c { branches = slice_set c.branches c.depth (slice_index c.branches c.depth + 1) }
counted c Choice = record c { statements = c.statements + 1; branches = slice_set c.branches c.depth 1 }
counted c Statement = record c { statements = c.statements + 1 }
counted c Name = name_counted c.last c
counted c _ = c

abbrev pub passed : Counts → Token → Option Quantity
passed c t = sort_passed c (sort_of t.kind)

abbrev pub counts_next : Counts → Token → Counts
counts_next c t = record (counted c (sort_of t.kind)) { last = behind_next c.last (sort_of t.kind); part = part_next c.part (sort_of t.kind) }

-- the counts behind these tokens
abbrev pub counts_from : Counts → List Token → Counts
counts_from c [] = c
counts_from c (t ∷ ts) = counts_from (counts_next c t) ts

abbrev pub counts : List Token → Counts
counts ts = counts_from at_start ts

-- none of these tokens passes a limit
abbrev pub NonePasses : Counts → List Token → Type 0
NonePasses c [] = Unit {0}
NonePasses c (t ∷ ts) = (passed c t ≡ None) × NonePasses (counts_next c t) ts

abbrev pub AreWithin : List Token → Type 0
AreWithin ts = NonePasses at_start ts

-- What a step of counting returns: the limit that is passed, or none, and then the new counts.
abbrev pub Steps : Result (Unit {0}) Quantity → Counts → Option Quantity → Counts → Type 0
Steps (Ok u) new limit after = (limit ≡ None) × (new ≡ after)
Steps (Err q) new limit after = limit ≡ Some q

-- the first of these tokens passes this limit
abbrev pub NextPasses : Counts → List Token → Quantity → Type 0
NextPasses c [] q = ⊥
NextPasses c (t ∷ ts) q = passed c t ≡ Some q

abbrev pub IsFirstPassed : List Token → Option (Quantity × ℕ) → Type 0
IsFirstPassed ts None = AreWithin ts
IsFirstPassed ts (Some found) = AreWithin (take found.1 ts) × NextPasses (counts (take found.1 ts)) (drop found.1 ts) found.0
