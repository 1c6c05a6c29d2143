-- The printed layout: what stands between two tokens, and how each is spelled.
use Rattle.std.specs.Prelude.{ℕ, zero, suc, ◌+◌, ◌-◌, Bool, true, false, ◌||◌, ◌&&◌, List, [], ◌∷◌, ◌++◌, Option, Some, None, decimal, if◌then◌else◌}
use Rattle.pb_text.specs.declared.token.TokenKind.{TokenKind}
use Rattle.pb_text.specs.declared.token.TokenKind.TheVariants as kind
use Rattle.pb_text.specs.declared.token.Mark.{Mark}
use Rattle.pb_text.specs.declared.token.Mark.TheVariants.{Equals, Semicolon, LeftParen, RightParen, RightBracket, LeftBrace, RightBrace, Comma}
use Rattle.pb_text.specs.declared.token.Key.{Key}
use Rattle.pb_text.specs.declared.token.Key.TheVariants.{Foreach, Or}
use Rattle.pb_text.specs.Spellings.{key_spelling, mark_spelling}
use Rattle.pb_syntax.specs.Grammar.{is_mark, is_key}
use Rattle.pb_syntax.specs.Tree.{PlainFile}
use Rattle.pb_syntax.specs.Printed.{Kinds, file_tokens}
use Rattle.pb_syntax.specs.declared.layout.Gap.{Gap}
use Rattle.pb_syntax.specs.declared.layout.Gap.TheVariants.{Nothing, Space, Line}

-- a keyword, a name or a number
abbrev pub is_wordy : TokenKind → Bool
is_wordy (kind.Mark m) = false
is_wordy (kind.Key k) = true
is_wordy (kind.Word w) = true
is_wordy (kind.Number n) = true

abbrev pub ends_line : TokenKind → Bool
ends_line a = (is_mark Semicolon a || is_mark LeftBrace a) || is_mark RightBrace a

abbrev pub closes : TokenKind → Bool
closes a = is_mark RightParen a || is_mark RightBracket a

abbrev pub is_spaced : TokenKind → TokenKind → Bool
is_spaced a b =
    ((((is_mark LeftBrace b || (is_wordy b && (is_wordy a || closes a))) || is_mark Comma a) || is_mark Equals a) || is_mark Equals b) || (is_key Foreach a && is_mark LeftParen b)

-- Behind `;`, `{` and `}` begins a line, but for `} or`. A space stands before `{`, between two words, behind `)` and
-- `]` before a word, behind a comma, around `=`, and in `foreach (`.
abbrev pub gap_between : TokenKind → TokenKind → Gap
gap_between a b =
    if ends_line a then (if is_mark RightBrace a && is_key Or b then Space else Line) else
    if is_spaced a b then Space else Nothing

abbrev pub gap_at : Option TokenKind → TokenKind → Gap
gap_at None b = Nothing
gap_at (Some a) b = gap_between a b

-- two spaces for each open brace
abbrev pub indent : ℕ → List ℕ
indent zero = []
indent (suc depth) = 32 ∷ 32 ∷ indent depth

abbrev pub gap_text : Gap → ℕ → List ℕ
gap_text Nothing depth = []
gap_text Space depth = 32 ∷ []
gap_text Line depth = 10 ∷ indent depth

abbrev pub spelling : TokenKind → List ℕ
spelling (kind.Word name) = name
spelling (kind.Key k) = key_spelling k
spelling (kind.Number n) = decimal n
spelling (kind.Mark m) = mark_spelling m

-- the open braces of the line of a token, which a closing brace is none of, and those behind it
abbrev pub depth_of : ℕ → TokenKind → ℕ
depth_of depth k = if is_mark RightBrace k then depth - 1 else depth

abbrev pub depth_behind : ℕ → TokenKind → ℕ
depth_behind depth k = if is_mark LeftBrace k then depth + 1 else depth_of depth k

-- behind a token, with so many open braces: the tokens, and a line feed
abbrev pub laid : Option TokenKind → ℕ → Kinds → List ℕ
laid last depth [] = 10 ∷ []
laid last depth (k ∷ ks) = gap_text (gap_at last k) (depth_of depth k) ++ (spelling k ++ laid (Some k) (depth_behind depth k) ks)

abbrev pub laid_out : Kinds → List ℕ
laid_out ks = laid None 0 ks

-- the printed text of a file
abbrev pub printed : PlainFile → List ℕ
printed f = laid_out (file_tokens f)
