-- The tokens so far, a lexeme on.
use Rattle.std.proofs.Common.{◌≡◌, ℕ, List, [], ◌∷◌, ◌++◌, take, drop, sym, subst, append_assoc}
use Rattle.std.specs.List.{All}
use Rattle.std.proofs.lemmas.List.Elements.{All-push}
use Rattle.pb_text.specs.Places.{first_place, place_after}
use Rattle.pb_text.specs.Lexemes.{lexeme, token}
use Rattle.pb_text.specs.Tokens.{Lexes, skip, read, done, IsSoundKind, IsSoundToken}
use Rattle.pb_text.specs.declared.place.Place.{Place}
use Rattle.pb_text.specs.declared.token.Token.{Token}
use Rattle.pb_text.specs.declared.token.TokenKind.{TokenKind}
use Rattle.pb_text.specs.declared.token.TokenKind.TheVariants as kind
use Rattle.pb_lex.specs.declared.lexeme.Sort.{Sort}
use Rattle.pb_lex.specs.declared.lexeme.Sort.TheVariants.{Gap, Line, Name, Key, Number, Mark, Bad}
use Rattle.pb_lex.specs.declared.lexeme.Fault.TheVariants as faults
use Rattle.pb_lex.specs.Seen.{AreGaps, IsBegun, Adds, Reads, stop_of, IsRefusal, IsSound}
use Rattle.pb_lex.proofs.Gaps.{joined}

-- whatever tokens a text is from the place on, they come behind the tokens so far
abbrev pub SoFar : List ℕ → Place → List ℕ → List Token → Type 0
SoFar bytes place text before =
    (end : Place) (rest : List ℕ) (tokens : List Token) → Lexes end rest place text tokens → Lexes end rest first_place bytes (before ++ tokens)

pub gaps_on : (bytes : List ℕ) (place : Place) (text : List ℕ) (old : List Token) (len : ℕ) → AreGaps len text → SoFar bytes place text old
    → SoFar bytes (place_after place (take len text)) (drop len text) old
gaps_on bytes place text old len gaps before = λ end rest tokens way. before end rest tokens (joined (gaps place) way)

pub token_on : (bytes : List ℕ) (place : Place) (text : List ℕ) (old : List Token) (kind : TokenKind) (len : ℕ)
    → token kind len ≡ lexeme text → SoFar bytes place text old
    → SoFar bytes (place_after place (take len text)) (drop len text) (old ++ record { kind = kind; place = place } ∷ [])
token_on bytes place text old kind len is before =
    let item : Token = record { kind = kind; place = place } in
    λ end rest tokens way. subst (Lexes end rest first_place bytes) (sym (append_assoc old (item ∷ []) tokens))
    (before end rest (item ∷ tokens) (read kind len (sym is) way))

read_by : (bytes : List ℕ) (place : Place) (text : List ℕ) (old new : List Token) (kind : TokenKind) (len : ℕ)
    → token kind len ≡ lexeme text → Adds kind place old new → SoFar bytes place text old
    → SoFar bytes (place_after place (take len text)) (drop len text) new
read_by bytes place text old new kind len is adds before =
    subst (SoFar bytes (place_after place (take len text)) (drop len text)) (sym adds) (token_on bytes place text old kind len is before)

skip_by : (bytes : List ℕ) (place : Place) (text : List ℕ) (old new : List Token) (len : ℕ) → AreGaps len text → new ≡ old → SoFar bytes place text old
    → SoFar bytes (place_after place (take len text)) (drop len text) new
skip_by bytes place text old new len gaps same before =
    subst (SoFar bytes (place_after place (take len text)) (drop len text)) (sym same) (gaps_on bytes place text old len gaps before)

pub read_on : (sort : Sort) (len : ℕ) (place : Place) (bytes text : List ℕ) (old new : List Token)
    → IsBegun sort len text → Reads sort len text place old new → SoFar bytes place text old
    → SoFar bytes (place_after place (take len text)) (drop len text) new
read_on Gap len place bytes text old new begun reads before = skip_by bytes place text old new len begun reads before
read_on Line len place bytes text old new begun reads before =
    skip_by bytes place text old new len (λ p. skip len (sym begun) done) reads before
read_on Name len place bytes text old new begun reads before = read_by bytes place text old new _ len begun reads before
read_on (Key key) len place bytes text old new begun reads before = read_by bytes place text old new _ len begun reads before
read_on (Number n) len place bytes text old new begun reads before = read_by bytes place text old new _ len begun reads before
read_on (Mark mark) len place bytes text old new begun reads before = read_by bytes place text old new _ len begun reads before
read_on (Bad fault) len place bytes text old new begun reads before = absurd reads

sound_by : (place : Place) (old new : List Token) (kind : TokenKind) → IsSoundKind kind → Adds kind place old new → All IsSoundToken old → All IsSoundToken new
sound_by place old new kind sound adds before =
    subst (All IsSoundToken) (sym adds) (All-push IsSoundToken old (record { kind = kind; place = place }) before sound)

pub read_sound : (sort : Sort) (len : ℕ) (text : List ℕ) (place : Place) (old new : List Token)
    → IsSound sort len text → Reads sort len text place old new → All IsSoundToken old → All IsSoundToken new
read_sound Gap len text place old new sound reads before = subst (All IsSoundToken) (sym reads) before
read_sound Line len text place old new sound reads before = subst (All IsSoundToken) (sym reads) before
read_sound Name len text place old new sound reads before = sound_by place old new _ sound reads before
read_sound (Key key) len text place old new sound reads before = sound_by place old new (kind.Key key) tt reads before
read_sound (Number n) len text place old new sound reads before = sound_by place old new (kind.Number n) sound reads before
read_sound (Mark mark) len text place old new sound reads before = sound_by place old new (kind.Mark mark) tt reads before
read_sound (Bad fault) len text place old new sound reads before = absurd reads

-- a lexeme that isn't read is the first fault
pub refused : (sort : Sort) (len : ℕ) (place : Place) (bytes text : List ℕ) (old : List Token)
    → IsBegun sort len text → SoFar bytes place text old → IsRefusal bytes (stop_of sort place)
refused Gap len place bytes text old begun before = tt
refused Line len place bytes text old begun before = tt
refused Name len place bytes text old begun before = tt
refused (Key key) len place bytes text old begun before = tt
refused (Number n) len place bytes text old begun before = tt
refused (Mark mark) len place bytes text old begun before = tt
refused (Bad faults.BadByte) len place bytes text old begun before = (text, old ++ [], before place text [] done, sym begun)
refused (Bad faults.OpenComment) len place bytes text old begun before = (text, old ++ [], before place text [] done, sym begun)
refused (Bad faults.NumberTooLarge) len place bytes text old begun before = (text, old ++ [], before place text [] done, sym begun)
refused (Bad faults.NameTooLong) len place bytes text old begun before = (text, old ++ [], before place text [] done, sym begun)
