-- Single tokens: their sorts, and what is seen behind them.
use Rattle.std.proofs.Common.{◌≡◌, ℕ, ◌<◌, ◌==◌, Bool, true, false, nat_le, if◌then◌else◌, Option, Some, None, List, [], ◌∷◌, length, get_or, refl, sym, ap, subst, ◌∙◌, arith, lit<}
use Rattle.std.proofs.lemmas.Bool.Decides.{nat_tests}
use Rattle.std.proofs.lemmas.Option.{cond_some}
use Rattle.pb_text.specs.declared.place.Place.{Place}
use Rattle.pb_text.specs.declared.place.Spot.{Spot}
use Rattle.pb_text.specs.declared.token.Token.{Token}
use Rattle.pb_text.specs.declared.token.TokenKind.{TokenKind}
use Rattle.pb_text.specs.declared.token.TokenKind.TheVariants as kind
use Rattle.pb_text.specs.declared.token.Mark.{Mark}
use Rattle.pb_text.specs.declared.token.Mark.TheVariants as marks
use Rattle.pb_text.specs.declared.token.Key.{Key}
use Rattle.pb_text.specs.declared.token.Key.TheVariants as keys
use Rattle.pb_syntax.specs.Tree.{Numeral}
use Rattle.pb_syntax.specs.Form.{one, OneText}
use Rattle.pb_syntax.specs.Grammar.{mark_number, key_number, kind_number, is_mark, is_key, mapped, word_in, number_in, not_large, not_zero, reads_mark, reads_key, reads_name, reads_number, reads_count, mark, key, name, number}
use Rattle.pb_parse.specs.declared.limits.Sort.{Sort}
use Rattle.pb_parse.specs.declared.limits.Sort.TheVariants.{LeftBrace, RightBrace, Semicolon, LeftBracket, Dots, ElementType, Role, Choice, Or, Statement, Name, Number, Other}
use Rattle.pb_parse.specs.declared.limits.Behind.TheVariants as behind
use Rattle.pb_parse.specs.Limits.{sort_of, mark_sort, key_sort, number_behind}
use Rattle.pb_parse_laws.proofs.Seen.{Seen, seen_next, seen_from, IsFine, AreFine}
use Rattle.pb_parse_laws.proofs.Does.{Step, seen}

-- the sorts of the kinds 0 to 37
abbrev sorts : List Sort
sorts =
    Dots ∷ Other ∷ Semicolon ∷ Other ∷ Other ∷ LeftBracket ∷ Other ∷ LeftBrace ∷ RightBrace ∷ Other ∷ Other ∷ Other ∷ Other
    ∷ Other ∷ Other ∷ Other ∷ Role ∷ Other ∷ Other ∷ Statement ∷ Statement ∷ Statement ∷ Choice ∷ Other ∷ Or ∷ Statement ∷ Statement
    ∷ Statement ∷ Statement ∷ Statement ∷ Other ∷ Other ∷ Other ∷ Other ∷ ElementType ∷ ElementType ∷ Other ∷ Name ∷ []

mark_sorted : (m : Mark) → mark_sort m ≡ get_or sorts (mark_number m) Other
mark_sorted marks.Dots = refl
mark_sorted marks.Equals = refl
mark_sorted marks.Semicolon = refl
mark_sorted marks.LeftParen = refl
mark_sorted marks.RightParen = refl
mark_sorted marks.LeftBracket = refl
mark_sorted marks.RightBracket = refl
mark_sorted marks.LeftBrace = refl
mark_sorted marks.RightBrace = refl
mark_sorted marks.Comma = refl
mark_sorted marks.Colon = refl
mark_sorted marks.Plus = refl
mark_sorted marks.Minus = refl

key_sorted : (k : Key) → key_sort k ≡ get_or sorts (key_number k) Other
key_sorted keys.Const = refl
key_sorted keys.Global = refl
key_sorted keys.Protocol = refl
key_sorted keys.Role = refl
key_sorted keys.From = refl
key_sorted keys.To = refl
key_sorted keys.Foreach = refl
key_sorted keys.Rec = refl
key_sorted keys.Continue = refl
key_sorted keys.Choice = refl
key_sorted keys.At = refl
key_sorted keys.Or = refl
key_sorted keys.Compute = refl
key_sorted keys.Barrier = refl
key_sorted keys.Broadcast = refl
key_sorted keys.Reduce = refl
key_sorted keys.Allreduce = refl
key_sorted keys.With = refl
key_sorted keys.Max = refl
key_sorted keys.Min = refl
key_sorted keys.Sum = refl
key_sorted keys.Int32 = refl
key_sorted keys.Uint32 = refl
key_sorted keys.Do = refl

mark_few : (m : Mark) → mark_number m < 38
mark_few marks.Dots = lit< tt
mark_few marks.Equals = lit< tt
mark_few marks.Semicolon = lit< tt
mark_few marks.LeftParen = lit< tt
mark_few marks.RightParen = lit< tt
mark_few marks.LeftBracket = lit< tt
mark_few marks.RightBracket = lit< tt
mark_few marks.LeftBrace = lit< tt
mark_few marks.RightBrace = lit< tt
mark_few marks.Comma = lit< tt
mark_few marks.Colon = lit< tt
mark_few marks.Plus = lit< tt
mark_few marks.Minus = lit< tt

key_few : (k : Key) → key_number k < 38
key_few keys.Const = lit< tt
key_few keys.Global = lit< tt
key_few keys.Protocol = lit< tt
key_few keys.Role = lit< tt
key_few keys.From = lit< tt
key_few keys.To = lit< tt
key_few keys.Foreach = lit< tt
key_few keys.Rec = lit< tt
key_few keys.Continue = lit< tt
key_few keys.Choice = lit< tt
key_few keys.At = lit< tt
key_few keys.Or = lit< tt
key_few keys.Compute = lit< tt
key_few keys.Barrier = lit< tt
key_few keys.Broadcast = lit< tt
key_few keys.Reduce = lit< tt
key_few keys.Allreduce = lit< tt
key_few keys.With = lit< tt
key_few keys.Max = lit< tt
key_few keys.Min = lit< tt
key_few keys.Sum = lit< tt
key_few keys.Int32 = lit< tt
key_few keys.Uint32 = lit< tt
key_few keys.Do = lit< tt

-- the sort of a kind that is no number
sorted : (k : TokenKind) (n : ℕ) → kind_number k ≡ n → n < 38 → sort_of k ≡ get_or sorts n Other
sorted (kind.Mark m) n e few = mark_sorted m ∙ ap (λ i. get_or sorts i Other) e
sorted (kind.Key k) n e few = key_sorted k ∙ ap (λ i. get_or sorts i Other) e
sorted (kind.Word w) n e few = ap (λ i. get_or sorts i Other) e
sorted (kind.Number v) n e few = absurd (omega (arith, e, few))

equal : (a b : ℕ) → (a == b) ≡ true → a ≡ b
equal a b e = grind (arith, nat_tests)

one_step : {A : Type 0} {s next : Seen} {is : A → Type 0} (reads : Token → Option A)
    → ((t : Token) (x : A) → reads t ≡ Some x → IsFine s (sort_of t.kind) → (seen_next s (sort_of t.kind) ≡ next) × is x) → Step s (one reads) next is
unfolding one
one_step {A} {s} {next} {is} reads tells = record { step = at }
  where
    at : (ts : List Token) (x : A) → OneText reads ts x → AreFine s ts → (seen_from s ts ≡ next) × ((length ts ≡ 1) × is x)
    at [] x h fine = absurd h
    at (t ∷ []) x h fine = let p = tells t x h fine.0 in (p.0, (refl, p.1))
    at (t ∷ u ∷ ts) x h fine = absurd h

fine_sort : (s : Seen) {k m : Sort} → k ≡ m → IsFine s k → (seen_next s k ≡ seen_next s m) × IsFine s m
fine_sort s e fine = (ap (seen_next s) e, subst (IsFine s) e fine)

pub mark_step : {s : Seen} (m : Mark) → Step s (mark m) (seen_next s (mark_sort m)) (λ (p : Place). IsFine s (mark_sort m))
mark_step {s} m = one_step (reads_mark m) (λ t x e fine. fine_sort s (sorted t.kind (mark_number m) (equal _ _ (cond_some (is_mark m t.kind) t.place x e).0) (mark_few m) ∙ sym (mark_sorted m)) fine)

pub key_step : {s : Seen} (k : Key) → Step s (key k) (seen_next s (key_sort k)) (λ (p : Place). IsFine s (key_sort k))
key_step {s} k = one_step (reads_key k) (λ t x e fine. fine_sort s (sorted t.kind (key_number k) (equal _ _ (cond_some (is_key k t.kind) t.place x e).0) (key_few k) ∙ sym (key_sorted k)) fine)

is_word : (k : TokenKind) (p : Place) (x : Spot) → mapped (λ w. record { name = w; place = p }) (word_in k) ≡ Some x → sort_of k ≡ Name
is_word (kind.Word w) p x e = refl
is_word (kind.Mark m) p x e = absurd (grind arith)
is_word (kind.Key k) p x e = absurd (grind arith)
is_word (kind.Number n) p x e = absurd (grind arith)

pub name_step : {s : Seen} → Step s name (seen s.depth s.roles behind.Other) (λ (x : Spot). Unit {0})
name_step {s} = one_step reads_name (λ t x e fine. (ap (seen_next s) (is_word t.kind t.place x e), tt))

is_large : (n x : Numeral) → not_large (Some n) ≡ Some x → n ≡ x
is_large n x e = at (nat_le n.value 2000000000) e
  where
    at : (b : Bool) → (if b then Some n else None) ≡ Some x → n ≡ x
    at true e = cc
    at false e = absurd (grind arith)

is_number : (k : TokenKind) (p : Place) (x : Numeral) → not_large (mapped (λ n. record { value = n; place = p }) (number_in k)) ≡ Some x → sort_of k ≡ Number x.value
is_number (kind.Number n) p x e = ap (λ (v : Numeral). Number v.value) (is_large (record { value = n; place = p }) x e)
is_number (kind.Word w) p x e = absurd (grind arith)
is_number (kind.Mark m) p x e = absurd (grind arith)
is_number (kind.Key k) p x e = absurd (grind arith)

pub number_step : {s : Seen} → Step s number (seen s.depth s.roles behind.Other) (λ (n : Numeral). number_behind s.last s.roles n.value ≡ None)
number_step {s} = one_step reads_number (λ t x e fine. fine_sort s (is_number t.kind t.place x e) fine)

not_zero_is : (n : Option Numeral) (x : Numeral) → not_zero n ≡ Some x → n ≡ Some x
not_zero_is None x e = absurd (grind arith)
not_zero_is (Some n) x e = at (n.value == 0) e
  where
    at : (b : Bool) → (if b then None else Some n) ≡ Some x → Some n ≡ Some x
    at true e = absurd (grind arith)
    at false e = e

pub count_step : {s : Seen} → Step s (one reads_count) (seen s.depth s.roles behind.Other) (λ (n : Numeral). Unit {0})
count_step {s} = one_step reads_count (λ t x e fine. ((fine_sort s (is_number t.kind t.place x (not_zero_is (reads_number t) x e)) fine).0, tt))
