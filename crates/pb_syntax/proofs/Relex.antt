-- What is laid out is read again as the same tokens.
use Rattle.std.proofs.Common.{◌≡◌, ℕ, zero, suc, ◌+◌, ◌-◌, ◌*◌, ◌^◌, ◌<◌, ◌≤◌, Bool, true, false, cond, ◌||◌, ◌&&◌, List, [], ◌∷◌, ◌++◌, length, take, drop, Option, Some, None, refl, sym, ap, subst, ◌∙◌, arith, rules, nat_eq, nat_le, if◌then◌else◌}
use Rattle.std.specs.Prelude.{decimal, codes}
use Rattle.std.specs.Char.{is_ascii_digit}
use Rattle.std.specs.Int.{is_in_range}
use Rattle.std.specs.List.{prefix_len}
use Rattle.std.specs.Str.{all_ascii_digits}
use Rattle.std.proofs.lemmas.Str.Parse.{IsNumeralModel, numerals_by_fold}
use Rattle.std.proofs.lemmas.Fmt.{digits_decimal, digits_value-decimal, decimal_nonempty}
use Rattle.std.proofs.lemmas.List.{take_at, drop_at}
use Rattle.std.proofs.lemmas.Bool.{and_parts}
use Rattle.pb_text.specs.declared.token.TokenKind.{TokenKind}
use Rattle.pb_text.specs.declared.token.TokenKind.TheVariants as kind
use Rattle.pb_text.specs.declared.token.Mark.{Mark}
use Rattle.pb_text.specs.declared.token.Mark.TheVariants as marks
use Rattle.pb_text.specs.declared.token.Key.{Key}
use Rattle.pb_text.specs.declared.token.Key.TheVariants as keys
use Rattle.pb_text.specs.Spellings.{key_spelling, key_of, mark_spelling, mark_at, begins_with}
use Rattle.pb_text.specs.Spellings as spellings
use Rattle.pb_text.specs.Lexemes.{Lexeme, token, lexeme, lexeme_of, is_blank, begins_word, goes_on_word, word_token, number, value_from, mark_token}
use Rattle.pb_text.specs.Lexemes.{gap}
use Rattle.pb_text.specs.Places.{place_behind, place_after}
use Rattle.pb_text.specs.Tokens.{Lexes, done, skip, read}
use Rattle.pb_text.specs.declared.place.Place.{Place}
use Rattle.pb_text.specs.declared.token.Token.{Token}
use Rattle.pb_syntax.specs.declared.layout.Gap.{Gap}
use Rattle.pb_syntax.specs.declared.layout.Gap.TheVariants as gaps
use Rattle.pb_syntax.specs.Grammar.{is_mark, is_key}
use Rattle.pb_syntax.specs.Printed.{Kinds}
use Rattle.pb_syntax.specs.Layout.{spelling, is_wordy, is_spaced, ends_line, closes, gap_between, gap_at, gap_text, indent, depth_of, depth_behind, laid}
use Rattle.pb_syntax.proofs.Prints.{AllOf, kinds_of}

-- the text begins with a byte that passes the test
abbrev pub starts : (ℕ → Bool) → List ℕ → Bool
starts p [] = false
starts p (b ∷ bs) = p b

-- where one byte passes a test and another doesn't, they are two
differs : (p : ℕ → Bool) (x n : ℕ) → p x ≡ true → p n ≡ false → nat_eq x n ≡ false
differs p x n here there = by (nat_eq x n) refl
  where
    by : (c : Bool) → nat_eq x n ≡ c → nat_eq x n ≡ false
    by true e = let same : x ≡ n = grind arith in absurd (subst holds (sym here ∙ ap p same ∙ there) tt)
      where
        holds : Bool → Type 0
        holds true = Unit {0}
        holds false = ⊥
    by false e = e

behind_all : (p : ℕ → Bool) (w rest : List ℕ) → prefix_len p w ≡ length w → starts p rest ≡ false → prefix_len p (w ++ rest) ≡ length w
behind_all p [] [] all stops = refl
behind_all p [] (b ∷ rest) all stops = rw stops refl
behind_all p (x ∷ w) rest all stops = by (p x) refl all (λ less. behind_all p w rest less stops)
  where
    by : (c : Bool) → p x ≡ c → cond c (1 + prefix_len p w) 0 ≡ length (x ∷ w) → (prefix_len p w ≡ length w → prefix_len p (w ++ rest) ≡ length w) → prefix_len p ((x ∷ w) ++ rest) ≡ length (x ∷ w)
    by true e h others = let less : prefix_len p w ≡ length w = omega (arith, h) in rw e (ap (λ (n : ℕ). 1 + n) (others less) ∙ omega arith)
    by false e h others = absurd (omega (arith, h))

-- a word
lexeme_word : (x : ℕ) (xs rest : List ℕ) → begins_word x ≡ true → prefix_len goes_on_word (x ∷ xs) ≡ length (x ∷ xs) → starts goes_on_word rest ≡ false
    → lexeme ((x ∷ xs) ++ rest) ≡ word_token (x ∷ xs) (length (x ∷ xs)) (key_of (x ∷ xs))
unfolding lexeme
lexeme_word x xs rest begins all stops =
    let len : prefix_len goes_on_word (x ∷ (xs ++ rest)) ≡ length (x ∷ xs) = behind_all goes_on_word (x ∷ xs) rest all stops in
    let front : take (length (x ∷ xs)) (x ∷ (xs ++ rest)) ≡ x ∷ xs = take_at (x ∷ xs) rest (length (x ∷ xs)) refl in
    let space : nat_eq x 32 ≡ false = differs begins_word x 32 begins refl in
    let tab : nat_eq x 9 ≡ false = differs begins_word x 9 begins refl in
    let return : nat_eq x 13 ≡ false = differs begins_word x 13 begins refl in
    let feed : nat_eq x 10 ≡ false = differs begins_word x 10 begins refl in
    let slash : nat_eq 47 x ≡ false = grind (arith, differs begins_word x 47 begins refl) in
    rw (space, tab, return, feed, slash, begins, len, front) refl

mark_again : (m : Mark) (rest : List ℕ) → lexeme (mark_spelling m ++ rest) ≡ token (kind.Mark m) (length (mark_spelling m))
unfolding lexeme mark_at spellings.marks
mark_again marks.Dots rest = refl
mark_again marks.Equals rest = refl
mark_again marks.Semicolon rest = refl
mark_again marks.LeftParen rest = refl
mark_again marks.RightParen rest = refl
mark_again marks.LeftBracket rest = refl
mark_again marks.RightBracket rest = refl
mark_again marks.LeftBrace rest = refl
mark_again marks.RightBrace rest = refl
mark_again marks.Comma rest = refl
mark_again marks.Colon rest = refl
mark_again marks.Plus rest = refl
mark_again marks.Minus rest = refl

-- a number
numerals : IsNumeralModel (λ ds. all_ascii_digits ds ≡ true) (value_from 0)
numerals = numerals_by_fold _ (search rules) value_from (search rules)

all_digits : (ds : List ℕ) → all_ascii_digits ds ≡ true → prefix_len is_ascii_digit ds ≡ length ds
all_digits [] all = refl
all_digits (d ∷ ds) all = rw (and_parts (is_ascii_digit d) (all_ascii_digits ds) all).0 (ap (λ (n : ℕ). 1 + n) (all_digits ds (and_parts (is_ascii_digit d) (all_ascii_digits ds) all).1) ∙ omega arith)

no_word : (d : ℕ) → is_ascii_digit d ≡ true → begins_word d ≡ false
no_word d digit = grind arith

lexeme_digits : (d : ℕ) (ds rest : List ℕ) → all_ascii_digits (d ∷ ds) ≡ true → starts is_ascii_digit rest ≡ false → nat_le (value_from 0 (d ∷ ds)) 2000000000 ≡ true
    → lexeme ((d ∷ ds) ++ rest) ≡ token (kind.Number (value_from 0 (d ∷ ds))) (length (d ∷ ds))
unfolding lexeme
lexeme_digits d ds rest all stops small =
    let digit : is_ascii_digit d ≡ true = (and_parts (is_ascii_digit d) (all_ascii_digits ds) all).0 in
    let len : prefix_len is_ascii_digit (d ∷ (ds ++ rest)) ≡ length (d ∷ ds) = behind_all is_ascii_digit (d ∷ ds) rest (all_digits (d ∷ ds) all) stops in
    let front : take (length (d ∷ ds)) (d ∷ (ds ++ rest)) ≡ d ∷ ds = take_at (d ∷ ds) rest (length (d ∷ ds)) refl in
    let space : nat_eq d 32 ≡ false = differs is_ascii_digit d 32 digit refl in
    let tab : nat_eq d 9 ≡ false = differs is_ascii_digit d 9 digit refl in
    let return : nat_eq d 13 ≡ false = differs is_ascii_digit d 13 digit refl in
    let feed : nat_eq d 10 ≡ false = differs is_ascii_digit d 10 digit refl in
    let slash : nat_eq 47 d ≡ false = grind (arith, differs is_ascii_digit d 47 digit refl) in
    rw (space, tab, return, feed, slash, no_word d digit, len, front, digit, small) refl

lexeme_number : (ds rest : List ℕ) → all_ascii_digits ds ≡ true → 0 < length ds → starts is_ascii_digit rest ≡ false → value_from 0 ds ≤ 2000000000
    → lexeme (ds ++ rest) ≡ token (kind.Number (value_from 0 ds)) (length ds)
lexeme_number [] rest all some stops small = absurd (omega (arith, some))
lexeme_number (d ∷ ds) rest all some stops small = lexeme_digits d ds rest all stops (grind (arith, small))

number_again : (n : ℕ) (rest : List ℕ) → n ≤ 2000000000 → starts is_ascii_digit rest ≡ false → lexeme (decimal n ++ rest) ≡ token (kind.Number n) (length (decimal n))
number_again n rest small stops =
    let wide : n < 2 ^ 64 = omega (arith, small) in
    let value : value_from 0 (decimal n) ≡ n = digits_value-decimal numerals n wide in
    lexeme_number (decimal n) rest (digits_decimal numerals n wide) (decimal_nonempty n wide) stops (omega (arith, value, small)) ∙ ap (λ (m : ℕ). token (kind.Number m) (length (decimal n))) value

-- a keyword
key_is : (k : Key) → key_of (key_spelling k) ≡ Some k
unfolding key_of spellings.keys
key_is keys.Const = refl
key_is keys.Global = refl
key_is keys.Protocol = refl
key_is keys.Role = refl
key_is keys.From = refl
key_is keys.To = refl
key_is keys.Foreach = refl
key_is keys.Rec = refl
key_is keys.Continue = refl
key_is keys.Choice = refl
key_is keys.At = refl
key_is keys.Or = refl
key_is keys.Compute = refl
key_is keys.Barrier = refl
key_is keys.Broadcast = refl
key_is keys.Reduce = refl
key_is keys.Allreduce = refl
key_is keys.With = refl
key_is keys.Max = refl
key_is keys.Min = refl
key_is keys.Sum = refl
key_is keys.Int32 = refl
key_is keys.Uint32 = refl
key_is keys.Do = refl

-- a word as a name or a keyword is spelled
pub record IsWord (w : List ℕ) : Type 0 where
  pub begins : starts begins_word w ≡ true
  pub goes_on : prefix_len goes_on_word w ≡ length w

key_word : (k : Key) → IsWord (key_spelling k)
key_word keys.Const = record { begins = refl; goes_on = refl }
key_word keys.Global = record { begins = refl; goes_on = refl }
key_word keys.Protocol = record { begins = refl; goes_on = refl }
key_word keys.Role = record { begins = refl; goes_on = refl }
key_word keys.From = record { begins = refl; goes_on = refl }
key_word keys.To = record { begins = refl; goes_on = refl }
key_word keys.Foreach = record { begins = refl; goes_on = refl }
key_word keys.Rec = record { begins = refl; goes_on = refl }
key_word keys.Continue = record { begins = refl; goes_on = refl }
key_word keys.Choice = record { begins = refl; goes_on = refl }
key_word keys.At = record { begins = refl; goes_on = refl }
key_word keys.Or = record { begins = refl; goes_on = refl }
key_word keys.Compute = record { begins = refl; goes_on = refl }
key_word keys.Barrier = record { begins = refl; goes_on = refl }
key_word keys.Broadcast = record { begins = refl; goes_on = refl }
key_word keys.Reduce = record { begins = refl; goes_on = refl }
key_word keys.Allreduce = record { begins = refl; goes_on = refl }
key_word keys.With = record { begins = refl; goes_on = refl }
key_word keys.Max = record { begins = refl; goes_on = refl }
key_word keys.Min = record { begins = refl; goes_on = refl }
key_word keys.Sum = record { begins = refl; goes_on = refl }
key_word keys.Int32 = record { begins = refl; goes_on = refl }
key_word keys.Uint32 = record { begins = refl; goes_on = refl }
key_word keys.Do = record { begins = refl; goes_on = refl }

word_again : (w rest : List ℕ) → IsWord w → starts goes_on_word rest ≡ false → lexeme (w ++ rest) ≡ word_token w (length w) (key_of w)
word_again [] rest is stops = let e : false ≡ true = is.begins in cc
word_again (x ∷ xs) rest is stops = lexeme_word x xs rest is.begins is.goes_on stops

key_again : (k : Key) (rest : List ℕ) → starts goes_on_word rest ≡ false → lexeme (key_spelling k ++ rest) ≡ token (kind.Key k) (length (key_spelling k))
key_again k rest stops = word_again (key_spelling k) rest (key_word k) stops ∙ ap (λ (o : Option Key). word_token (key_spelling k) (length (key_spelling k)) o) (key_is k)

-- Tokens as a text has them: a name is a word and no keyword, of 64 bytes at most, and a number is at most 2,000,000,000.
abbrev pub IsWritten : TokenKind → Type 0
IsWritten (kind.Word w) = IsWord w × (length w ≤ 64) × (key_of w ≡ None)
IsWritten (kind.Number n) = n ≤ 2000000000
IsWritten (kind.Key k) = Unit {0}
IsWritten (kind.Mark m) = Unit {0}

digit_goes : (rest : List ℕ) → starts goes_on_word rest ≡ false → starts is_ascii_digit rest ≡ false
digit_goes [] stops = refl
digit_goes (b ∷ rest) stops = grind (arith, stops)

name_again : (w rest : List ℕ) → IsWord w → length w ≤ 64 → key_of w ≡ None → starts goes_on_word rest ≡ false → lexeme (w ++ rest) ≡ token (kind.Word w) (length w)
name_again w rest is most none stops =
    let small : nat_le (length w) 64 ≡ true = grind (arith, most) in
    word_again w rest is stops ∙ ap (λ (o : Option Key). word_token w (length w) o) none ∙ rw small refl

-- a token is read again, before bytes that don't go on with it
pub kind_again : (k : TokenKind) (rest : List ℕ) → IsWritten k → (is_wordy k ≡ true → starts goes_on_word rest ≡ false) → lexeme (spelling k ++ rest) ≡ token k (length (spelling k))
kind_again (kind.Word w) rest is stops = name_again w rest is.0 is.1 is.2 (stops refl)
kind_again (kind.Key k) rest is stops = key_again k rest (stops refl)
kind_again (kind.Number n) rest is stops = number_again n rest is (digit_goes rest (stops refl))
kind_again (kind.Mark m) rest is stops = mark_again m rest

-- words don't stand side by side
mark_begins : (m : Mark) (rest : List ℕ) → starts goes_on_word (mark_spelling m ++ rest) ≡ false
mark_begins marks.Dots rest = refl
mark_begins marks.Equals rest = refl
mark_begins marks.Semicolon rest = refl
mark_begins marks.LeftParen rest = refl
mark_begins marks.RightParen rest = refl
mark_begins marks.LeftBracket rest = refl
mark_begins marks.RightBracket rest = refl
mark_begins marks.LeftBrace rest = refl
mark_begins marks.RightBrace rest = refl
mark_begins marks.Comma rest = refl
mark_begins marks.Colon rest = refl
mark_begins marks.Plus rest = refl
mark_begins marks.Minus rest = refl

abbrev IsGap : Gap → Type 0
IsGap gaps.Nothing = ⊥
IsGap gaps.Space = Unit {0}
IsGap gaps.Line = Unit {0}

gap_if : (c : Bool) (a b : Gap) → (c ≡ true → IsGap a) → (c ≡ false → IsGap b) → IsGap (if c then a else b)
gap_if true a b h g = h refl
gap_if false a b h g = g refl

spaced_words : (a b : TokenKind) → is_wordy a ≡ true → is_wordy b ≡ true → is_spaced a b ≡ true
spaced_words a b e f = by (is_mark marks.LeftBrace b)
  where
    by : (brace : Bool) → (((((brace || (is_wordy b && (is_wordy a || closes a))) || is_mark marks.Comma a) || is_mark marks.Equals a) || is_mark marks.Equals b) || (is_key keys.Foreach a && is_mark marks.LeftParen b)) ≡ true
    by true = refl
    by false = rw (e, f) refl

gap_words : (a b : TokenKind) → is_wordy a ≡ true → is_wordy b ≡ true → IsGap (gap_between a b)
gap_words a b e f = gap_if (ends_line a) _ _ (λ c. gap_if (is_mark marks.RightBrace a && is_key keys.Or b) _ _ (λ d. tt) (λ d. tt)) (λ c. subst (λ (s : Bool). IsGap (if s then gaps.Space else gaps.Nothing)) (sym (spaced_words a b e f)) tt)

behind_gap : (g : Gap) (depth : ℕ) (rest : List ℕ) → IsGap g → starts goes_on_word (gap_text g depth ++ rest) ≡ false
behind_gap gaps.Nothing depth rest h = absurd h
behind_gap gaps.Space depth rest h = refl
behind_gap gaps.Line depth rest h = refl

mark_behind : (g : Gap) (depth : ℕ) (m : Mark) (rest : List ℕ) → starts goes_on_word (gap_text g depth ++ (mark_spelling m ++ rest)) ≡ false
mark_behind gaps.Nothing depth m rest = mark_begins m rest
mark_behind gaps.Space depth m rest = refl
mark_behind gaps.Line depth m rest = refl

apart : (a : TokenKind) (depth : ℕ) (ks : Kinds) → is_wordy a ≡ true → starts goes_on_word (laid (Some a) depth ks) ≡ false
apart a depth [] e = refl
apart a depth (kind.Mark m ∷ ks) e = mark_behind (gap_between a (kind.Mark m)) _ m _
apart a depth (kind.Key k ∷ ks) e = behind_gap (gap_between a (kind.Key k)) _ _ (gap_words a (kind.Key k) e refl)
apart a depth (kind.Word w ∷ ks) e = behind_gap (gap_between a (kind.Word w)) _ _ (gap_words a (kind.Word w) e refl)
apart a depth (kind.Number n ∷ ks) e = behind_gap (gap_between a (kind.Number n)) _ _ (gap_words a (kind.Number n) e refl)

-- gaps are skipped
abbrev AreBlank : List ℕ → Type 0
AreBlank [] = Unit {0}
AreBlank (b ∷ bs) = (is_blank b ≡ true) × AreBlank bs

indent_blank : (depth : ℕ) → AreBlank (indent depth)
indent_blank zero = tt
indent_blank (suc depth) = (refl, (refl, indent_blank depth))

gap_blank : (g : Gap) (depth : ℕ) → AreBlank (gap_text g depth)
gap_blank gaps.Nothing depth = tt
gap_blank gaps.Space depth = (refl, tt)
gap_blank gaps.Line depth = (refl, indent_blank depth)

blank_again : (b : ℕ) (bytes : List ℕ) → is_blank b ≡ true → lexeme (b ∷ bytes) ≡ gap 1
unfolding lexeme
blank_again b bytes e = rw e refl

skip_all : (g bytes : List ℕ) (place end : Place) (tokens : List Token) → AreBlank g → Lexes end [] (place_after place g) bytes tokens → Lexes end [] place (g ++ bytes) tokens
skip_all [] bytes place end tokens blank l = l
skip_all (b ∷ g) bytes place end tokens blank l = skip 1 (blank_again b (g ++ bytes) blank.0) (skip_all g bytes (place_behind place b) end tokens blank.1 l)

-- the tokens of a text laid out
pub record Read (place : Place) (bytes : List ℕ) (ks : Kinds) : Type 0 where
  pub end : Place
  pub tokens : List Token
  pub lexes : Lexes end [] place bytes tokens
  pub kinds : kinds_of tokens ≡ ks

read_one : (k : TokenKind) (rest : List ℕ) (place end : Place) (tokens : List Token) → lexeme (spelling k ++ rest) ≡ token k (length (spelling k)) → Lexes end [] (place_after place (spelling k)) rest tokens
    → Lexes end [] place (spelling k ++ rest) (record { kind = k; place = place } ∷ tokens)
read_one k rest place end tokens e l =
    let front : take (length (spelling k)) (spelling k ++ rest) ≡ spelling k = take_at (spelling k) rest (length (spelling k)) refl in
    let back : drop (length (spelling k)) (spelling k ++ rest) ≡ rest = drop_at (spelling k) rest (length (spelling k)) refl in
    read k (length (spelling k)) e (rw (front, back) l)

pub laid_again : (ks : Kinds) (last : Option TokenKind) (depth : ℕ) (place : Place) → AllOf IsWritten ks → Read place (laid last depth ks) ks
laid_again [] last depth place all = record { end = place_behind place 10; tokens = []; lexes = skip 1 (blank_again 10 [] refl) done; kinds = refl }
laid_again (k ∷ ks) last depth place all =
    let g = gap_text (gap_at last k) (depth_of depth k) in
    let rest = laid (Some k) (depth_behind depth k) ks in
    let there = place_after place g in
    let r = laid_again ks (Some k) (depth_behind depth k) (place_after there (spelling k)) all.1 in
    let one = read_one k rest there r.end r.tokens (kind_again k rest all.0 (apart k (depth_behind depth k) ks)) r.lexes in
    record { end = r.end; tokens = record { kind = k; place = there } ∷ r.tokens; lexes = skip_all g (spelling k ++ rest) place r.end _ (gap_blank (gap_at last k) (depth_of depth k)) one; kinds = ap (λ (l : Kinds). k ∷ l) r.kinds }
