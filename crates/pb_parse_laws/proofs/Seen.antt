-- What the limits' counts say of braces, roles and numbers.
use Rattle.std.proofs.Common.{◌≡◌, ℕ, ◌+◌, ◌-◌, ◌<◌, Bool, true, false, nat_le, if◌then◌else◌, Some, None, List, [], ◌∷◌, refl, arith}
use Rattle.std.proofs.lemmas.Bool.Decides.{nat_tests}
use Rattle.pb_text.specs.declared.quantity.Quantity.{Quantity}
use Rattle.pb_text.specs.declared.quantity.Quantity.TheVariants as quantity
use Rattle.pb_text.specs.declared.token.Token.{Token}
use Rattle.pb_parse.specs.declared.limits.Counts.{Counts}
use Rattle.pb_parse.specs.declared.limits.Sort.{Sort}
use Rattle.pb_parse.specs.declared.limits.Sort.TheVariants.{LeftBrace, RightBrace, Semicolon, LeftBracket, Dots, ElementType, Role, Choice, Or, Statement, Name, Number, Other}
use Rattle.pb_parse.specs.declared.limits.Behind.{Behind}
use Rattle.pb_parse.specs.declared.limits.Behind.TheVariants as behind
use Rattle.pb_parse.specs.Limits.{sort_of, behind_next, name_counted, counted, full, number_behind, sort_passed, counts_next, NonePasses}

-- how deep braces stand, how many roles there were, and what the last token was
pub record Seen : Type 0 where
  pub depth : ℕ
  pub roles : ℕ
  pub last : Behind

abbrev pub depth_next : ℕ → Sort → ℕ
depth_next d LeftBrace = d + 1
depth_next d RightBrace = d - 1
depth_next d _ = d

abbrev pub roles_next : ℕ → Sort → ℕ
roles_next r Role = r + 1
roles_next r _ = r

abbrev pub seen_next : Seen → Sort → Seen
seen_next s sort = record { depth = depth_next s.depth sort; roles = roles_next s.roles sort; last = behind_next s.last sort }

abbrev pub seen_from : Seen → List Token → Seen
seen_from s [] = s
seen_from s (t ∷ ts) = seen_from (seen_next s (sort_of t.kind)) ts

-- a token of this sort is within the limits
abbrev pub IsFine : Seen → Sort → Type 0
IsFine s LeftBrace = s.depth < 64
IsFine s Role = s.roles < 64
IsFine s (Number n) = number_behind s.last s.roles n ≡ None
IsFine s _ = Unit {0}

abbrev pub AreFine : Seen → List Token → Type 0
AreFine s [] = Unit {0}
AreFine s (t ∷ ts) = IsFine s (sort_of t.kind) × AreFine (seen_next s (sort_of t.kind)) ts

abbrev pub at_start : Seen
at_start = record { depth = 0; roles = 0; last = behind.Other }

-- ---- from the counts

abbrev seen_in : Counts → Seen
seen_in c = record { depth = c.depth; roles = c.roles; last = c.last }

named : (b : Behind) (c : Counts) → ((name_counted b c).depth ≡ c.depth) × ((name_counted b c).roles ≡ c.roles)
named behind.Boundary c = (refl, refl)
named behind.ElementType c = (refl, refl)
named behind.TypeBracket c = (refl, refl)
named behind.Dots c = (refl, refl)
named behind.Other c = (refl, refl)

depth_is : (c : Counts) (sort : Sort) → (counted c sort).depth ≡ depth_next c.depth sort
depth_is c LeftBrace = refl
depth_is c RightBrace = refl
depth_is c Semicolon = refl
depth_is c LeftBracket = refl
depth_is c Dots = refl
depth_is c ElementType = refl
depth_is c Role = refl
depth_is c Choice = refl
depth_is c Or = refl
depth_is c Statement = refl
depth_is c Name = (named c.last c).0
depth_is c (Number n) = refl
depth_is c Other = refl

roles_are : (c : Counts) (sort : Sort) → (counted c sort).roles ≡ roles_next c.roles sort
roles_are c LeftBrace = refl
roles_are c RightBrace = refl
roles_are c Semicolon = refl
roles_are c LeftBracket = refl
roles_are c Dots = refl
roles_are c ElementType = refl
roles_are c Role = refl
roles_are c Choice = refl
roles_are c Or = refl
roles_are c Statement = refl
roles_are c Name = (named c.last c).1
roles_are c (Number n) = refl
roles_are c Other = refl

next_is : (c : Counts) (t : Token) → seen_in (counts_next c t) ≡ seen_next (seen_in c) (sort_of t.kind)
next_is c t = cc (depth_is c (sort_of t.kind), roles_are c (sort_of t.kind))

not_full : (n : ℕ) (limit : Quantity) → full 64 n limit ≡ None → n < 64
not_full n limit e = at (nat_le 64 n) refl e
  where
    at : (b : Bool) → nat_le 64 n ≡ b → (if b then Some limit else None) ≡ None → n < 64
    at true h e = absurd (grind arith)
    at false h e = grind (arith, nat_tests)

fine_at : (c : Counts) (sort : Sort) → sort_passed c sort ≡ None → IsFine (seen_in c) sort
fine_at c LeftBrace e = not_full c.depth quantity.Nesting e
fine_at c RightBrace e = tt
fine_at c Semicolon e = tt
fine_at c LeftBracket e = tt
fine_at c Dots e = tt
fine_at c ElementType e = tt
fine_at c Role e = not_full c.roles quantity.Roles e
fine_at c Choice e = tt
fine_at c Or e = tt
fine_at c Statement e = tt
fine_at c Name e = tt
fine_at c (Number n) e = e
fine_at c Other e = tt

pub fine_from : (c : Counts) (ts : List Token) → NonePasses c ts → AreFine (seen_in c) ts
fine_from c [] h = tt
fine_from c (t ∷ ts) h = (fine_at c (sort_of t.kind) h.0, rw (← (next_is c t)) (fine_from (counts_next c t) ts h.1))
