-- What `expand` answers: the file couldn't be read, or is too long; its bytes are no file with subprotocols, or its calls can't be
-- replaced, and one line tells it; or the printed protocol file in which each call is replaced.
use Rattle.std.specs.Prelude.{◌≡◌, ℕ, ◌<◌, ◌⊎◌, List, length, Option}
use Rattle.pb_text.specs.declared.quantity.Quantity.TheVariants as quantity
use Rattle.pb_io.specs.Files.{File}
use Rattle.pb_syntax.specs.Tree.{PlainFile}
use Rattle.pb_syntax.specs.Layout.{printed}
use Rattle.pb_parse.specs.Parsed.{OfTokens}
use Rattle.pb_parse.specs.declared.fault.ParseFault.{ParseFault}
use Rattle.pb_parse.specs.declared.fault.ParseFault.TheVariants as P
use Rattle.pb_do_syntax.specs.Calls.{PlainCallFile}
use Rattle.pb_do_syntax.specs.Inlining.{IsInlined}
use Rattle.pb_do_grammar.specs.Grammar.{IsCallFile}
use Rattle.pb_do_parse.specs.Limits.{AreWithin}
use Rattle.pb_do_parse.specs.Parsed.{IsTextFault}
use Rattle.pb_do_faults.specs.Found.{HasNoFault}
use Rattle.pb_do.specs.Inlined.{IsRefused}
use Rattle.pb_do.specs.declared.fault.DoFault.{DoFault}
use Rattle.pb_do.specs.declared.fault.DoFault.TheVariants as D
use Rattle.pb_cli_status.specs.Lines.{line_of, status_of}
use Rattle.pb_cli_status.specs.declared.call.CallWrong.TheVariants as wrong
use Rattle.pb_cli_status.specs.declared.refusal.Refusal.{Refusal}
use Rattle.pb_cli_status.specs.declared.refusal.Refusal.TheVariants as refusal
use Rattle.pb_cli_status.specs.declared.status.Status.{Status}
use Rattle.pb_cli_status.specs.declared.status.Status.TheVariants as S
use Rattle.pb_cli_verdict.specs.Refusals.{error_refusal}
use Rattle.pb_cli_file.specs.Files.{OnFile, OnShort, most_bytes}

-- ---- refusals

-- why bytes are no file with subprotocols
abbrev pub text_refusal : ParseFault → Refusal
text_refusal (P.Lex error) = error_refusal error
text_refusal (P.Unexpected place) = refusal.Syntax place
text_refusal (P.TooDeep place) = refusal.Limit quantity.Nesting place
text_refusal (P.TooMany limit place) = refusal.Limit limit place
text_refusal P.NoMemory = refusal.NoMemory

-- why calls can't be replaced
abbrev pub call_refusal : DoFault → Refusal
call_refusal (D.Twice place) = refusal.Call wrong.Twice place
call_refusal (D.Unknown place) = refusal.Call wrong.Unknown place
call_refusal (D.Arity place) = refusal.Call wrong.Arity place
call_refusal (D.Stranger place) = refusal.Call wrong.Stranger place
call_refusal (D.Cycle place) = refusal.Call wrong.Cycle place
call_refusal (D.TooMany limit place) = refusal.Limit limit place
call_refusal D.NoMemory = refusal.NoMemory

-- ---- what belongs to the bytes of a file

-- they are a file with subprotocols within the limits, and this is its tree
abbrev pub IsCallTree : List ℕ → PlainCallFile → Type 0
IsCallTree bytes calls = OfTokens bytes (λ tokens. IsCallFile tokens calls × AreWithin tokens)

-- why its calls can't be replaced
abbrev pub IsUnreplaced : PlainCallFile → Refusal → Type 0
IsUnreplaced calls why = (fault : DoFault) × IsRefused calls fault × (why ≡ call_refusal fault)

-- the printed protocol file in which each call is replaced by the statements of its subprotocol
abbrev pub IsReplaced : PlainCallFile → List ℕ → Type 0
IsReplaced calls text = HasNoFault calls × ((file : PlainFile) × IsInlined calls file × (text ≡ printed file))

-- the same of the bytes
abbrev pub IsExpanded : List ℕ → List ℕ → Type 0
IsExpanded bytes text = (calls : PlainCallFile) × IsCallTree bytes calls × IsReplaced calls text

-- or why they are no file with subprotocols
abbrev pub IsUnexpanded : List ℕ → Refusal → Type 0
IsUnexpanded bytes why =
    ((fault : ParseFault) × IsTextFault bytes fault × (why ≡ text_refusal fault)) ⊎ ((calls : PlainCallFile) × IsCallTree bytes calls × IsUnreplaced calls why)

-- such a refusal has this status and this line
abbrev pub IsToldOf : List ℕ → Status → List ℕ → Type 0
IsToldOf bytes status text = (why : Refusal) × IsUnexpanded bytes why × (status ≡ status_of why) × (text ≡ line_of why)

-- ---- what is answered

abbrev pub IsExpandReply : List ℕ → Option (List File) → Status → List ℕ → Type 0
IsExpandReply name holds S.Done text = OnShort name holds (λ bytes. IsExpanded bytes text)
IsExpandReply name holds S.Refused text = OnShort name holds (λ bytes. IsToldOf bytes S.Refused text)
IsExpandReply name holds S.CallFault text = OnShort name holds (λ bytes. IsToldOf bytes S.CallFault text)
IsExpandReply name holds S.Limit text =
    (OnFile name holds (λ bytes. most_bytes < length bytes) × (text ≡ line_of refusal.FileBytes)) ⊎ OnShort name holds (λ bytes. IsToldOf bytes S.Limit text)
IsExpandReply name holds S.ReadFault text = text ≡ line_of refusal.ReadFault
IsExpandReply name holds S.NoMemory text = text ≡ line_of refusal.NoMemory
IsExpandReply name holds other text = ⊥
