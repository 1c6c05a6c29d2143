-- From what is made of a file's bytes to the reply.
use Rattle.std.proofs.Common.{◌≡◌, ℕ, ◌≤◌, inl, inr, List, length, Option, None, Some, refl}
use Rattle.pb_io.specs.Files.{File, IsContent}
use Rattle.pb_syntax.specs.Tree.{PlainFile}
use Rattle.pb_syntax.specs.Layout.{printed}
use Rattle.pb_lex.specs.declared.error.LexError.TheVariants as E
use Rattle.pb_parse.specs.declared.fault.ParseFault.{ParseFault}
use Rattle.pb_parse.specs.declared.fault.ParseFault.TheVariants as P
use Rattle.pb_do_syntax.specs.Calls.{PlainCallFile}
use Rattle.pb_do_syntax.specs.Inlining.{IsInlined}
use Rattle.pb_do_parse.specs.Parsed.{IsTextFault}
use Rattle.pb_do_faults.specs.Found.{HasNoFault}
use Rattle.pb_do.specs.Inlined.{IsRefused}
use Rattle.pb_do.specs.declared.fault.DoFault.{DoFault}
use Rattle.pb_do.specs.declared.fault.DoFault.TheVariants as D
use Rattle.pb_cli_status.specs.Lines.{line_of, status_of}
use Rattle.pb_cli_status.specs.declared.refusal.Refusal.{Refusal}
use Rattle.pb_cli_status.specs.declared.refusal.Refusal.TheVariants as refusal
use Rattle.pb_cli_status.specs.declared.status.Status.{Status}
use Rattle.pb_cli_status.specs.declared.status.Status.TheVariants as S
use Rattle.pb_cli_file.specs.Files.{IsUnread, OnShort, most_bytes}
use Rattle.pb_cli_file.proofs.Answered.{on_short}
use Rattle.pb_cli_expand.specs.Expand.{IsCallTree, IsExpanded, IsExpandReply, IsReplaced, IsToldOf, IsUnexpanded, IsUnreplaced, call_refusal, text_refusal}

-- ---- a tree, and the bytes of one

pub replaced : (calls : PlainCallFile) (file : PlainFile) (text : List ℕ) → HasNoFault calls → IsInlined calls file → text ≡ printed file → IsReplaced calls text
replaced calls file text sound is same = (sound, (file, is, same))

pub unprinted : (calls : PlainCallFile) → IsUnreplaced calls refusal.NoMemory
unprinted calls = (D.NoMemory, tt, refl)

pub unreplaced : (calls : PlainCallFile) (fault : DoFault) → IsRefused calls fault → IsUnreplaced calls (call_refusal fault)
unreplaced calls fault is = (fault, is, refl)

pub expanded : (bytes text : List ℕ) (calls : PlainCallFile) → IsCallTree bytes calls → IsReplaced calls text → IsExpanded bytes text
expanded bytes text calls read is = (calls, read, is)

pub unread : (bytes : List ℕ) (fault : ParseFault) → IsTextFault bytes fault → IsUnexpanded bytes (text_refusal fault)
unread bytes fault is = inl (fault, is, refl)

pub unexpanded : (bytes : List ℕ) (why : Refusal) (calls : PlainCallFile) → IsCallTree bytes calls → IsUnreplaced calls why → IsUnexpanded bytes why
unexpanded bytes why calls read is = inr (calls, read, is)

-- ---- a file

module _ (name : List ℕ) (holds : Option (List File)) (bytes : List ℕ) (read : IsContent holds name bytes) (short : length bytes ≤ most_bytes) where
  pub done : (text : List ℕ) → IsExpanded bytes text → IsExpandReply name holds S.Done text
  done text is = on_short (λ l. IsExpanded l text) name holds bytes read short is

  is_told : (why : Refusal) → IsUnexpanded bytes why → OnShort name holds (λ l. IsToldOf l (status_of why) (line_of why))
  is_told why is = on_short (λ l. IsToldOf l (status_of why) (line_of why)) name holds bytes read short (why, is, refl, refl)

  told_text : (fault : ParseFault) → IsUnexpanded bytes (text_refusal fault) → IsExpandReply name holds (status_of (text_refusal fault)) (line_of (text_refusal fault))
  told_text (P.Lex (E.BadByte place)) is = is_told (text_refusal (P.Lex (E.BadByte place))) is
  told_text (P.Lex (E.OpenComment place)) is = is_told (text_refusal (P.Lex (E.OpenComment place))) is
  told_text (P.Lex (E.NumberTooLarge place)) is = inr (is_told (text_refusal (P.Lex (E.NumberTooLarge place))) is)
  told_text (P.Lex (E.NameTooLong place)) is = inr (is_told (text_refusal (P.Lex (E.NameTooLong place))) is)
  told_text (P.Unexpected place) is = is_told (refusal.Syntax place) is
  told_text (P.TooDeep place) is = inr (is_told (text_refusal (P.TooDeep place)) is)
  told_text (P.TooMany limit place) is = inr (is_told (refusal.Limit limit place) is)
  told_text P.NoMemory is = refl

  told_calls : (fault : DoFault) → IsUnexpanded bytes (call_refusal fault) → IsExpandReply name holds (status_of (call_refusal fault)) (line_of (call_refusal fault))
  told_calls (D.Twice place) is = is_told (call_refusal (D.Twice place)) is
  told_calls (D.Unknown place) is = is_told (call_refusal (D.Unknown place)) is
  told_calls (D.Arity place) is = is_told (call_refusal (D.Arity place)) is
  told_calls (D.Stranger place) is = is_told (call_refusal (D.Stranger place)) is
  told_calls (D.Cycle place) is = is_told (call_refusal (D.Cycle place)) is
  told_calls (D.TooMany limit place) is = inr (is_told (refusal.Limit limit place) is)
  told_calls D.NoMemory is = refl

  pub told : (why : Refusal) → IsUnexpanded bytes why → IsExpandReply name holds (status_of why) (line_of why)
  told why (inl (fault, is, same)) = rw same (told_text fault (inl (fault, is, refl)))
  told why (inr (calls, is, (fault, refused, same))) = rw same (told_calls fault (inr (calls, is, (fault, refused, refl))))

pub denied : (name : List ℕ) (holds : Option (List File)) (why : Refusal) → IsUnread name holds why → IsExpandReply name holds (status_of why) (line_of why)
denied name holds refusal.ReadFault is = refl
denied name holds refusal.FileBytes is = inl (is, refl)
denied name holds refusal.NoMemory is = refl
denied name holds other is = absurd is
