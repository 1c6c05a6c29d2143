-- What the limits count over kinds of tokens, one behind the other.
use Rattle.std.proofs.Common.{◌≡◌, ℕ, ◌+◌, ◌<◌, ◌≤◌, Bool, true, false, ◌==◌, nat_le, nat_lt, if◌then◌else◌, None, List, [], ◌∷◌, ◌++◌, refl, ap, subst, ◌∙◌, arith}
use Rattle.std.proofs.lemmas.Bool.Decides.{nat_tests}
use Rattle.pb_text.specs.declared.quantity.Quantity.{Quantity}
use Rattle.pb_text.specs.declared.quantity.Quantity.TheVariants as quantity
use Rattle.pb_text.specs.declared.token.Token.{Token}
use Rattle.pb_text.specs.declared.token.TokenKind.{TokenKind}
use Rattle.pb_text.specs.declared.token.TokenKind.TheVariants as kind
use Rattle.pb_text.specs.declared.token.Mark.TheVariants as marks
use Rattle.pb_syntax.specs.Printed.{Kinds, mark, word, number}
use Rattle.pb_syntax.proofs.Prints.{kinds_of}
use Rattle.pb_parse.specs.declared.limits.Counts.{Counts}
use Rattle.pb_parse.specs.declared.limits.Sort.{Sort}
use Rattle.pb_parse.specs.declared.limits.Sort.TheVariants as sorts
use Rattle.pb_parse.specs.declared.limits.Behind.{Behind}
use Rattle.pb_parse.specs.declared.limits.Behind.TheVariants as behind
use Rattle.pb_parse.specs.Limits.{sort_of, behind_next, at_start, full, above, sort_passed, counted, counts_next, NonePasses}

abbrev pub next_counts : Counts → TokenKind → Counts
next_counts c k = record (counted c (sort_of k)) { last = behind_next c.last (sort_of k) }

abbrev pub counts_over : Counts → Kinds → Counts
counts_over c [] = c
counts_over c (k ∷ ks) = counts_over (next_counts c k) ks

abbrev pub NonePass : Counts → Kinds → Type 0
NonePass c [] = Unit {0}
NonePass c (k ∷ ks) = (sort_passed c (sort_of k) ≡ None) × NonePass (next_counts c k) ks

-- tokens of these kinds are within the limits
pub none_passes : (c : Counts) (ts : List Token) → NonePass c (kinds_of ts) → NonePasses c ts
none_passes c [] h = tt
none_passes c (t ∷ ts) h = (h.0, none_passes (counts_next c t) ts h.1)

-- these kinds are within the limits, and this is counted behind them
pub record At (before : Kinds) (c : Counts) : Type 0 where
  pub within : NonePass at_start before
  pub counts : counts_over at_start before ≡ c

pub nothing_yet : At [] at_start
nothing_yet = record { within = tt; counts = refl }

one_more : (c : Counts) (ks : Kinds) (k : TokenKind) → NonePass c ks → sort_passed (counts_over c ks) (sort_of k) ≡ None → NonePass c (ks ++ k ∷ [])
one_more c [] k h e = (e, tt)
one_more c (l ∷ ks) k h e = (h.0, one_more (next_counts c l) ks k h.1 e)

counts_last : (c : Counts) (ks : Kinds) (k : TokenKind) → counts_over c (ks ++ k ∷ []) ≡ next_counts (counts_over c ks) k
counts_last c [] k = refl
counts_last c (l ∷ ks) k = counts_last (next_counts c l) ks k

-- one token more
pub step : {before : Kinds} {c : Counts} (k : TokenKind) → At before c → sort_passed c (sort_of k) ≡ None → At (before ++ k ∷ []) (next_counts c k)
step {before} {c} k h e = record {
  within = one_more at_start before k h.within (ap (λ (x : Counts). sort_passed x (sort_of k)) h.counts ∙ e);
  counts = counts_last at_start before k ∙ ap (λ (x : Counts). next_counts x k) h.counts;
}

pub step_as : {before : Kinds} {c : Counts} (k : TokenKind) (s : Sort) → sort_of k ≡ s → At before c → sort_passed c s ≡ None → At (before ++ k ∷ []) (record (counted c s) { last = behind_next c.last s })
step_as {before} {c} k s same h e =
    subst (λ (x : Sort). At (before ++ k ∷ []) (record (counted c x) { last = behind_next c.last x })) same
    (step k h (ap (sort_passed c) same ∙ e))

-- ---- tests of limits

pub not_full : (most n : ℕ) (q : Quantity) → n < most → full most n q ≡ None
not_full most n q few = let e : nat_le most n ≡ false = grind (arith, few, nat_tests) in rw e refl

pub not_above : (most n : ℕ) (q : Quantity) → n ≤ most → above most n q ≡ None
not_above most n q few = let e : nat_lt most n ≡ false = grind (arith, few, nat_tests) in rw e refl

-- ---- within a statement

-- where a name begins no statement, and a number is no count of a payload
abbrev pub IsCalm : Behind → Type 0
IsCalm behind.Other = Unit {0}
IsCalm behind.Dots = Unit {0}
IsCalm behind.Boundary = ⊥
IsCalm behind.ElementType = ⊥
IsCalm behind.TypeBracket = ⊥

-- this is counted, but for what the last token was
pub record Amid (before : Kinds) (c : Counts) : Type 0 where
  pub last : Behind
  pub calm : IsCalm last
  pub at : At before (record c { last = last })

abbrev pub behind_other : Counts → Counts
behind_other c = record c { last = behind.Other }

pub amid : {before : Kinds} {c : Counts} → At before (behind_other c) → Amid before c
amid h = record { last = behind.Other; calm = tt; at = h }

pub amid_other : {before : Kinds} {c : Counts} (k : TokenKind) → sort_of k ≡ sorts.Other → Amid before c → Amid (before ++ k ∷ []) c
amid_other {before} {c} k same m = record { last = behind.Other; calm = tt; at = step_as k sorts.Other same m.at refl }

pub amid_dots : {before : Kinds} {c : Counts} → Amid before c → Amid (mark marks.Dots before) c
amid_dots {before} {c} m = record { last = behind.Dots; calm = tt; at = step_as (kind.Mark marks.Dots) sorts.Dots refl m.at refl }

pub amid_bracket : {before : Kinds} {c : Counts} → Amid before c → Amid (mark marks.LeftBracket before) c
amid_bracket {before} {c} m = from m.last m.calm m.at
  where
    from : (last : Behind) → IsCalm last → At before (record c { last = last }) → Amid (mark marks.LeftBracket before) c
    from behind.Other calm at = record { last = behind.Other; calm = tt; at = step_as (kind.Mark marks.LeftBracket) sorts.LeftBracket refl at refl }
    from behind.Dots calm at = record { last = behind.Other; calm = tt; at = step_as (kind.Mark marks.LeftBracket) sorts.LeftBracket refl at refl }
    from behind.Boundary calm at = absurd calm
    from behind.ElementType calm at = absurd calm
    from behind.TypeBracket calm at = absurd calm

pub amid_word : {before : Kinds} {c : Counts} (w : List ℕ) → Amid before c → Amid (word w before) c
amid_word {before} {c} w m = from m.last m.calm m.at
  where
    from : (last : Behind) → IsCalm last → At before (record c { last = last }) → Amid (word w before) c
    from behind.Other calm at = record { last = behind.Other; calm = tt; at = step_as (kind.Word w) sorts.Name refl at refl }
    from behind.Dots calm at = record { last = behind.Other; calm = tt; at = step_as (kind.Word w) sorts.Name refl at refl }
    from behind.Boundary calm at = absurd calm
    from behind.ElementType calm at = absurd calm
    from behind.TypeBracket calm at = absurd calm

number_dots : (b : Bool) (n : ℕ) → n ≤ 100000 → (if b then None else above 100000 n quantity.Constant) ≡ None
number_dots true n few = refl
number_dots false n few = not_above 100000 n quantity.Constant few

pub amid_number : {before : Kinds} {c : Counts} (n : ℕ) → n ≤ 100000 → Amid before c → Amid (number n before) c
amid_number {before} {c} n few m = from m.last m.calm m.at
  where
    from : (last : Behind) → IsCalm last → At before (record c { last = last }) → Amid (number n before) c
    from behind.Other calm at = record { last = behind.Other; calm = tt; at = step_as (kind.Number n) (sorts.Number n) refl at (not_above 100000 n quantity.Constant few) }
    from behind.Dots calm at = record { last = behind.Other; calm = tt; at = step_as (kind.Number n) (sorts.Number n) refl at (number_dots (c.roles == 0) n few) }
    from behind.Boundary calm at = absurd calm
    from behind.ElementType calm at = absurd calm
    from behind.TypeBracket calm at = absurd calm

-- ---- at the bounds of a statement

abbrev pub at_boundary : Counts → Counts
at_boundary c = record c { last = behind.Boundary }

pub ended : {before : Kinds} {c : Counts} → Amid before c → At (mark marks.Semicolon before) (at_boundary c)
ended {before} {c} m = step_as (kind.Mark marks.Semicolon) sorts.Semicolon refl m.at refl

pub opened : {before : Kinds} {c : Counts} → c.depth < 64 → Amid before c → At (mark marks.LeftBrace before) (record c { depth = c.depth + 1; last = behind.Boundary })
opened {before} {c} few m = step_as (kind.Mark marks.LeftBrace) sorts.LeftBrace refl m.at (not_full 64 c.depth quantity.Nesting few)
