-- What `strips` answers: the file couldn't be read, or is too long; its bytes are no file with strips, or one that
-- stands for none, and one line tells it; or the printed protocol file that it stands for.
use Rattle.std.specs.Prelude.{◌≡◌, ℕ, ◌<◌, ◌⊎◌, List, length, Option, None}
use Rattle.pb_text.specs.declared.quantity.Quantity.TheVariants as quantity
use Rattle.pb_io.specs.Files.{File}
use Rattle.pb_syntax.specs.Layout.{printed}
use Rattle.pb_parse.specs.Parsed.{OfTokens}
use Rattle.pb_parse.specs.declared.fault.ParseFault.{ParseFault}
use Rattle.pb_parse.specs.declared.fault.ParseFault.TheVariants as P
use Rattle.pb_strips_syntax.specs.Strips.{PlainStripFile}
use Rattle.pb_strips_syntax.specs.Flattening.{flat_file}
use Rattle.pb_strips_grammar.specs.Grammar.{IsStripFile}
use Rattle.pb_strips_grammar.specs.Tokens.{tokens_here}
use Rattle.pb_do_parse.specs.Limits.{AreWithin}
use Rattle.pb_strips_parse.specs.Parsed.{IsTextFault}
use Rattle.pb_strips_faults.specs.Found.{HasNoFault}
use Rattle.pb_strips_flatten.specs.Excess.{excess_of}
use Rattle.pb_strips.specs.Flattened.{IsRefused}
use Rattle.pb_strips.specs.declared.fault.StripFault.{StripFault}
use Rattle.pb_strips.specs.declared.fault.StripFault.TheVariants as D
use Rattle.pb_cli_status.specs.Lines.{line_of, status_of}
use Rattle.pb_cli_status.specs.declared.strip.StripWrong.TheVariants as wrong
use Rattle.pb_cli_status.specs.declared.refusal.Refusal.{Refusal}
use Rattle.pb_cli_status.specs.declared.refusal.Refusal.TheVariants as refusal
use Rattle.pb_cli_status.specs.declared.status.Status.{Status}
use Rattle.pb_cli_status.specs.declared.status.Status.TheVariants as S
use Rattle.pb_cli_verdict.specs.Refusals.{error_refusal}
use Rattle.pb_cli_file.specs.Files.{OnFile, OnShort, most_bytes}

-- ---- refusals

-- why bytes are no file with strips
abbrev pub text_refusal : ParseFault → Refusal
text_refusal (P.Lex error) = error_refusal error
text_refusal (P.Unexpected place) = refusal.Syntax place
text_refusal (P.TooDeep place) = refusal.Limit quantity.Nesting place
text_refusal (P.TooMany limit place) = refusal.Limit limit place
text_refusal P.NoMemory = refusal.NoMemory

-- why a file with strips stands for none
abbrev pub strip_refusal : StripFault → Refusal
strip_refusal (D.Width place) = refusal.Strip wrong.Width place
strip_refusal (D.Plain place) = refusal.Strip wrong.Plain place
strip_refusal (D.Variable place) = refusal.Strip wrong.Variable place
strip_refusal (D.Column place) = refusal.Strip wrong.Column place
strip_refusal (D.Clash place) = refusal.Strip wrong.Clash place
strip_refusal (D.TooMany limit place) = refusal.Limit limit place
strip_refusal D.NoMemory = refusal.NoMemory

-- ---- what belongs to the bytes of a file

-- they are a file with strips within the limits, and this is its tree
abbrev pub IsStripTree : List ℕ → PlainStripFile → Type 0
IsStripTree bytes strips = OfTokens bytes (λ tokens. IsStripFile (tokens_here tokens) strips × AreWithin (tokens_here tokens))

-- why it stands for no file
abbrev pub IsUnprinted : PlainStripFile → Refusal → Type 0
IsUnprinted strips why = (fault : StripFault) × IsRefused strips fault × (why ≡ strip_refusal fault)

-- the printed protocol file that it stands for
abbrev pub IsPrinted : PlainStripFile → List ℕ → Type 0
IsPrinted strips text = HasNoFault strips × (excess_of strips ≡ None) × (text ≡ printed (flat_file strips))

-- the same of the bytes
abbrev pub IsFlattened : List ℕ → List ℕ → Type 0
IsFlattened bytes text = (strips : PlainStripFile) × IsStripTree bytes strips × IsPrinted strips text

-- or why they are no file with strips, or one that stands for none
abbrev pub IsUnflattened : List ℕ → Refusal → Type 0
IsUnflattened bytes why =
    ((fault : ParseFault) × IsTextFault bytes fault × (why ≡ text_refusal fault)) ⊎ ((strips : PlainStripFile) × IsStripTree bytes strips × IsUnprinted strips why)

-- such a refusal has this status and this line
abbrev pub IsToldOf : List ℕ → Status → List ℕ → Type 0
IsToldOf bytes status text = (why : Refusal) × IsUnflattened bytes why × (status ≡ status_of why) × (text ≡ line_of why)

-- ---- what is answered

abbrev pub IsStripsReply : List ℕ → Option (List File) → Status → List ℕ → Type 0
IsStripsReply name holds S.Done text = OnShort name holds (λ bytes. IsFlattened bytes text)
IsStripsReply name holds S.Refused text = OnShort name holds (λ bytes. IsToldOf bytes S.Refused text)
IsStripsReply name holds S.StripFault text = OnShort name holds (λ bytes. IsToldOf bytes S.StripFault text)
IsStripsReply name holds S.Limit text =
    (OnFile name holds (λ bytes. most_bytes < length bytes) × (text ≡ line_of refusal.FileBytes)) ⊎ OnShort name holds (λ bytes. IsToldOf bytes S.Limit text)
IsStripsReply name holds S.ReadFault text = text ≡ line_of refusal.ReadFault
IsStripsReply name holds S.NoMemory text = text ≡ line_of refusal.NoMemory
IsStripsReply name holds other text = ⊥
