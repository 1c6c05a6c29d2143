-- The tokens of a file with strips. In such a file `columns` is a keyword, and in no other: there it is a name. So that the
-- forms of `pb_syntax` read these tokens too, the keyword `do`, which begins nothing here, stands for it; and for a `do` of
-- the file stands a number that no form reads, since it is above the largest.
use Rattle.std.specs.Prelude.{ℕ, suc, Bool, nat_eq, if◌then◌else◌, List, [], ◌∷◌, map}
use Rattle.std.specs.Cmp.Lexicographic.{pointwise}
use Rattle.pb_text.specs.declared.token.Token.{Token}
use Rattle.pb_text.specs.declared.token.TokenKind.{TokenKind}
use Rattle.pb_text.specs.declared.token.TokenKind.TheVariants as kind
use Rattle.pb_text.specs.declared.token.Key.{Key}
use Rattle.pb_text.specs.declared.token.Key.TheVariants as keys
use Rattle.pb_text.specs.declared.limits.TheConstants.{MOST_NUMBER}

-- the letters of `columns`
abbrev pub columns_word : List ℕ
columns_word = 99 ∷ 111 ∷ 108 ∷ 117 ∷ 109 ∷ 110 ∷ 115 ∷ []

abbrev pub is_columns : List ℕ → Bool
is_columns word = pointwise nat_eq word columns_word

abbrev pub no_number : ℕ
no_number = suc MOST_NUMBER

abbrev pub key_here : Key → TokenKind
key_here keys.Do = kind.Number no_number
key_here other = kind.Key other

abbrev pub kind_here : TokenKind → TokenKind
kind_here (kind.Word w) = if is_columns w then kind.Key keys.Do else kind.Word w
kind_here (kind.Key k) = key_here k
kind_here other = other

abbrev pub token_here : Token → Token
token_here t = record { kind = kind_here t.kind; place = t.place }

-- the tokens as a reader of a file with strips takes them
abbrev pub tokens_here : List Token → List Token
tokens_here tokens = map token_here tokens
