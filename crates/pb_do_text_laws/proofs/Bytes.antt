-- How many bytes a laid out list of tokens has at most.
use Rattle.std.proofs.Common.{◌≡◌, ℕ, zero, suc, ◌+◌, ◌-◌, ◌*◌, ◌<◌, ◌≤◌, Bool, true, false, ◌&&◌, nat_le, if◌then◌else◌, Option, Some, None, [], ◌∷◌, ◌++◌, length, length-append, refl, ap, subst, ◌∙◌, arith}
use Rattle.std.proofs.lemmas.Bool.Decides.{nat_tests}
use Rattle.std.proofs.lemmas.Fmt.{length-decimal-le}
use Rattle.pb_text.specs.declared.quantity.Quantity.{Quantity}
use Rattle.pb_text.specs.declared.quantity.Quantity.TheVariants as quantity
use Rattle.pb_text.specs.declared.token.TokenKind.{TokenKind}
use Rattle.pb_text.specs.declared.token.TokenKind.TheVariants as kind
use Rattle.pb_text.specs.declared.token.Mark.{Mark}
use Rattle.pb_text.specs.declared.token.Mark.TheVariants as marks
use Rattle.pb_text.specs.declared.token.Key.{Key}
use Rattle.pb_text.specs.declared.token.Key.TheVariants as keys
use Rattle.pb_text.specs.Spellings.{key_spelling, mark_spelling}
use Rattle.pb_syntax.specs.declared.layout.Gap.{Gap}
use Rattle.pb_syntax.specs.declared.layout.Gap.TheVariants as gaps
use Rattle.pb_syntax.specs.Grammar.{is_mark, is_key}
use Rattle.pb_syntax.specs.Printed.{Kinds}
use Rattle.pb_syntax.specs.Layout.{spelling, is_spaced, ends_line, gap_at, gap_text, indent, depth_of, depth_behind, laid}
use Rattle.pb_syntax.proofs.Prints.{AllOf}
use Rattle.pb_syntax.proofs.Relex.{IsWritten}
use Rattle.pb_parse.specs.declared.limits.Counts.{Counts}
use Rattle.pb_parse.specs.declared.limits.Behind.{Behind}
use Rattle.pb_parse.specs.declared.limits.Behind.TheVariants as behind
use Rattle.pb_parse.specs.Limits.{sort_of, sort_passed, full, name_counted}
use Rattle.pb_do_text_laws.proofs.Counted.{next_counts, NonePass}

-- no spelling is longer
abbrev pub most_spelled : TokenKind → ℕ
most_spelled (kind.Word w) = 64
most_spelled (kind.Number n) = 10
most_spelled (kind.Key k) = 9
most_spelled (kind.Mark m) = 2

-- no gap is longer, where at most 64 braces are open
abbrev pub most_between : Option TokenKind → TokenKind → ℕ
most_between None b = 0
most_between (Some a) b = if ends_line a then (if is_mark marks.RightBrace a && is_key keys.Or b then 1 else 129) else 1

-- so many bytes suffice for these tokens
abbrev pub cost : Option TokenKind → Kinds → ℕ
cost last [] = 0
cost last (k ∷ ks) = (most_between last k + most_spelled k) + cost (Some k) ks

-- ---- spellings

key_short : (k : Key) → length (key_spelling k) ≤ 9
key_short keys.Const = omega arith
key_short keys.Global = omega arith
key_short keys.Protocol = omega arith
key_short keys.Role = omega arith
key_short keys.From = omega arith
key_short keys.To = omega arith
key_short keys.Foreach = omega arith
key_short keys.Rec = omega arith
key_short keys.Continue = omega arith
key_short keys.Choice = omega arith
key_short keys.At = omega arith
key_short keys.Or = omega arith
key_short keys.Compute = omega arith
key_short keys.Barrier = omega arith
key_short keys.Broadcast = omega arith
key_short keys.Reduce = omega arith
key_short keys.Allreduce = omega arith
key_short keys.With = omega arith
key_short keys.Max = omega arith
key_short keys.Min = omega arith
key_short keys.Sum = omega arith
key_short keys.Int32 = omega arith
key_short keys.Uint32 = omega arith
key_short keys.Do = omega arith

mark_short : (m : Mark) → length (mark_spelling m) ≤ 2
mark_short marks.Dots = omega arith
mark_short marks.Equals = omega arith
mark_short marks.Semicolon = omega arith
mark_short marks.LeftParen = omega arith
mark_short marks.RightParen = omega arith
mark_short marks.LeftBracket = omega arith
mark_short marks.RightBracket = omega arith
mark_short marks.LeftBrace = omega arith
mark_short marks.RightBrace = omega arith
mark_short marks.Comma = omega arith
mark_short marks.Colon = omega arith
mark_short marks.Plus = omega arith
mark_short marks.Minus = omega arith

spelled : (k : TokenKind) → IsWritten k → length (spelling k) ≤ most_spelled k
spelled (kind.Word w) is = is.1
spelled (kind.Number n) is = length-decimal-le 10 n (omega arith) (omega (arith, is)) (omega (arith, is))
spelled (kind.Key k) is = key_short k
spelled (kind.Mark m) is = mark_short m

-- ---- gaps

indent_is : (d : ℕ) → length (indent d) ≡ 2 * d
indent_is zero = omega arith
indent_is (suc d) = omega (arith, indent_is d)

abbrev most_gap : Gap → ℕ
most_gap gaps.Nothing = 0
most_gap gaps.Space = 1
most_gap gaps.Line = 129

gap_short : (g : Gap) (d : ℕ) → d ≤ 64 → length (gap_text g d) ≤ most_gap g
gap_short gaps.Nothing d few = omega arith
gap_short gaps.Space d few = omega arith
gap_short gaps.Line d few = omega (arith, few, indent_is d)

gap_cases : (ends or_key spaced : Bool) → most_gap (if ends then (if or_key then gaps.Space else gaps.Line) else if spaced then gaps.Space else gaps.Nothing) ≤ (if ends then (if or_key then 1 else 129) else 1)
gap_cases true true spaced = omega arith
gap_cases true false spaced = omega arith
gap_cases false or_key true = omega arith
gap_cases false or_key false = omega arith

gap_most : (last : Option TokenKind) (k : TokenKind) → most_gap (gap_at last k) ≤ most_between last k
gap_most None k = omega arith
gap_most (Some a) k = gap_cases (ends_line a) (is_mark marks.RightBrace a && is_key keys.Or k) (is_spaced a k)

less_deep : (b : Bool) (d : ℕ) → d ≤ 64 → (if b then d - 1 else d) ≤ 64
less_deep true d few = omega (arith, few)
less_deep false d few = few

-- ---- depths

is_open : (n : ℕ) (q : Quantity) → full 64 n q ≡ None → n < 64
is_open n q e = at (nat_le 64 n) refl e
  where
    at : (b : Bool) → nat_le 64 n ≡ b → (if b then Some q else None) ≡ None → n < 64
    at true h f = absurd (grind arith)
    at false h f = grind (arith, nat_tests)

name_depth : (b : Behind) (c : Counts) → (name_counted b c).depth ≡ c.depth
name_depth behind.Boundary c = refl
name_depth behind.ElementType c = refl
name_depth behind.TypeBracket c = refl
name_depth behind.Dots c = refl
name_depth behind.Other c = refl

-- the open braces of the layout are those that are counted
deep : (k : TokenKind) (c : Counts) → sort_passed c (sort_of k) ≡ None → c.depth ≤ 64 → ((next_counts c k).depth ≡ depth_behind c.depth k) × (depth_behind c.depth k ≤ 64)
deep (kind.Mark marks.Dots) c e few = (refl, few)
deep (kind.Mark marks.Equals) c e few = (refl, few)
deep (kind.Mark marks.Semicolon) c e few = (refl, few)
deep (kind.Mark marks.LeftParen) c e few = (refl, few)
deep (kind.Mark marks.RightParen) c e few = (refl, few)
deep (kind.Mark marks.LeftBracket) c e few = (refl, few)
deep (kind.Mark marks.RightBracket) c e few = (refl, few)
deep (kind.Mark marks.LeftBrace) c e few = (refl, omega (arith, is_open c.depth quantity.Nesting e))
deep (kind.Mark marks.RightBrace) c e few = (refl, omega (arith, few))
deep (kind.Mark marks.Comma) c e few = (refl, few)
deep (kind.Mark marks.Colon) c e few = (refl, few)
deep (kind.Mark marks.Plus) c e few = (refl, few)
deep (kind.Mark marks.Minus) c e few = (refl, few)
deep (kind.Key keys.Const) c e few = (refl, few)
deep (kind.Key keys.Global) c e few = (refl, few)
deep (kind.Key keys.Protocol) c e few = (refl, few)
deep (kind.Key keys.Role) c e few = (refl, few)
deep (kind.Key keys.From) c e few = (refl, few)
deep (kind.Key keys.To) c e few = (refl, few)
deep (kind.Key keys.Foreach) c e few = (refl, few)
deep (kind.Key keys.Rec) c e few = (refl, few)
deep (kind.Key keys.Continue) c e few = (refl, few)
deep (kind.Key keys.Choice) c e few = (refl, few)
deep (kind.Key keys.At) c e few = (refl, few)
deep (kind.Key keys.Or) c e few = (refl, few)
deep (kind.Key keys.Compute) c e few = (refl, few)
deep (kind.Key keys.Barrier) c e few = (refl, few)
deep (kind.Key keys.Broadcast) c e few = (refl, few)
deep (kind.Key keys.Reduce) c e few = (refl, few)
deep (kind.Key keys.Allreduce) c e few = (refl, few)
deep (kind.Key keys.With) c e few = (refl, few)
deep (kind.Key keys.Max) c e few = (refl, few)
deep (kind.Key keys.Min) c e few = (refl, few)
deep (kind.Key keys.Sum) c e few = (refl, few)
deep (kind.Key keys.Int32) c e few = (refl, few)
deep (kind.Key keys.Uint32) c e few = (refl, few)
deep (kind.Key keys.Do) c e few = (refl, few)
deep (kind.Word w) c e few = (name_depth c.last c, few)
deep (kind.Number n) c e few = (refl, few)

pub laid_short : (ks : Kinds) (last : Option TokenKind) (depth : ℕ) (c : Counts) → c.depth ≡ depth → depth ≤ 64 → NonePass c ks → AllOf IsWritten ks → length (laid last depth ks) ≤ cost last ks + 1
laid_short [] last depth c e few h all = omega arith
laid_short (k ∷ ks) last depth c e few h all =
    let next = deep k c h.0 (omega (arith, e, few)) in
    let same : (next_counts c k).depth ≡ depth_behind depth k = next.0 ∙ ap (λ (d : ℕ). depth_behind d k) e in
    let most : depth_behind depth k ≤ 64 = subst (λ (d : ℕ). depth_behind d k ≤ 64) e next.1 in
    let rest = laid_short ks (Some k) (depth_behind depth k) (next_counts c k) same most h.1 all.1 in
    let gap = gap_short (gap_at last k) (depth_of depth k) (less_deep (is_mark marks.RightBrace k) depth few) in
    omega (
      arith,
      rest,
      gap,
      gap_most last k,
      spelled k all.0,
      length-append (gap_text (gap_at last k) (depth_of depth k)) (spelling k ++ laid (Some k) (depth_behind depth k) ks),
      length-append (spelling k) (laid (Some k) (depth_behind depth k) ks),
    )
