-- From what is made of a file's bytes to the reply.
use Rattle.std.proofs.Common.{◌≡◌, ℕ, ◌≤◌, inl, inr, List, length, Option, None, refl}
use Rattle.pb_io.specs.Files.{File, IsContent}
use Rattle.pb_syntax.specs.Layout.{printed}
use Rattle.pb_lex.specs.declared.error.LexError.TheVariants as E
use Rattle.pb_parse.specs.declared.fault.ParseFault.{ParseFault}
use Rattle.pb_parse.specs.declared.fault.ParseFault.TheVariants as P
use Rattle.pb_strips_syntax.specs.Strips.{PlainStripFile}
use Rattle.pb_strips_syntax.specs.Flattening.{flat_file}
use Rattle.pb_strips_parse.specs.Parsed.{IsTextFault}
use Rattle.pb_strips_faults.specs.Found.{HasNoFault}
use Rattle.pb_strips_flatten.specs.Excess.{excess_of}
use Rattle.pb_strips.specs.Flattened.{IsRefused}
use Rattle.pb_strips.specs.declared.fault.StripFault.{StripFault}
use Rattle.pb_strips.specs.declared.fault.StripFault.TheVariants as D
use Rattle.pb_cli_status.specs.Lines.{line_of, status_of}
use Rattle.pb_cli_status.specs.declared.refusal.Refusal.{Refusal}
use Rattle.pb_cli_status.specs.declared.refusal.Refusal.TheVariants as refusal
use Rattle.pb_cli_status.specs.declared.status.Status.TheVariants as S
use Rattle.pb_cli_file.specs.Files.{IsUnread, OnShort, most_bytes}
use Rattle.pb_cli_file.proofs.Answered.{on_short}
use Rattle.pb_cli_strips.specs.Strips.{IsStripTree, IsFlattened, IsStripsReply, IsPrinted, IsToldOf, IsUnflattened, IsUnprinted, strip_refusal, text_refusal}

-- ---- a tree, and the bytes of one

pub printed_file : (strips : PlainStripFile) (text : List ℕ) → HasNoFault strips → excess_of strips ≡ None → text ≡ printed (flat_file strips) → IsPrinted strips text
printed_file strips text sound small same = (sound, small, same)

pub unheld : (strips : PlainStripFile) → IsUnprinted strips refusal.NoMemory
unheld strips = (D.NoMemory, tt, refl)

pub unprinted : (strips : PlainStripFile) (fault : StripFault) → IsRefused strips fault → IsUnprinted strips (strip_refusal fault)
unprinted strips fault is = (fault, is, refl)

pub flattened : (bytes text : List ℕ) (strips : PlainStripFile) → IsStripTree bytes strips → IsPrinted strips text → IsFlattened bytes text
flattened bytes text strips read is = (strips, read, is)

pub unread : (bytes : List ℕ) (fault : ParseFault) → IsTextFault bytes fault → IsUnflattened bytes (text_refusal fault)
unread bytes fault is = inl (fault, is, refl)

pub unflattened : (bytes : List ℕ) (why : Refusal) (strips : PlainStripFile) → IsStripTree bytes strips → IsUnprinted strips why → IsUnflattened bytes why
unflattened bytes why strips read is = inr (strips, read, is)

-- ---- a file

module _ (name : List ℕ) (holds : Option (List File)) (bytes : List ℕ) (read : IsContent holds name bytes) (short : length bytes ≤ most_bytes) where
  pub done : (text : List ℕ) → IsFlattened bytes text → IsStripsReply name holds S.Done text
  done text is = on_short (λ l. IsFlattened l text) name holds bytes read short is

  is_told : (why : Refusal) → IsUnflattened bytes why → OnShort name holds (λ l. IsToldOf l (status_of why) (line_of why))
  is_told why is = on_short (λ l. IsToldOf l (status_of why) (line_of why)) name holds bytes read short (why, is, refl, refl)

  told_text : (fault : ParseFault) → IsUnflattened bytes (text_refusal fault) → IsStripsReply name holds (status_of (text_refusal fault)) (line_of (text_refusal fault))
  told_text (P.Lex (E.BadByte place)) is = is_told (text_refusal (P.Lex (E.BadByte place))) is
  told_text (P.Lex (E.OpenComment place)) is = is_told (text_refusal (P.Lex (E.OpenComment place))) is
  told_text (P.Lex (E.NumberTooLarge place)) is = inr (is_told (text_refusal (P.Lex (E.NumberTooLarge place))) is)
  told_text (P.Lex (E.NameTooLong place)) is = inr (is_told (text_refusal (P.Lex (E.NameTooLong place))) is)
  told_text (P.Unexpected place) is = is_told (refusal.Syntax place) is
  told_text (P.TooDeep place) is = inr (is_told (text_refusal (P.TooDeep place)) is)
  told_text (P.TooMany limit place) is = inr (is_told (refusal.Limit limit place) is)
  told_text P.NoMemory is = refl

  told_strips : (fault : StripFault) → IsUnflattened bytes (strip_refusal fault) → IsStripsReply name holds (status_of (strip_refusal fault)) (line_of (strip_refusal fault))
  told_strips (D.Width place) is = is_told (strip_refusal (D.Width place)) is
  told_strips (D.Plain place) is = is_told (strip_refusal (D.Plain place)) is
  told_strips (D.Variable place) is = is_told (strip_refusal (D.Variable place)) is
  told_strips (D.Column place) is = is_told (strip_refusal (D.Column place)) is
  told_strips (D.Clash place) is = is_told (strip_refusal (D.Clash place)) is
  told_strips (D.TooMany limit place) is = inr (is_told (refusal.Limit limit place) is)
  told_strips D.NoMemory is = refl

  pub told : (why : Refusal) → IsUnflattened bytes why → IsStripsReply name holds (status_of why) (line_of why)
  told why (inl (fault, is, same)) = rw same (told_text fault (inl (fault, is, refl)))
  told why (inr (strips, is, (fault, refused, same))) = rw same (told_strips fault (inr (strips, is, (fault, refused, refl))))

pub denied : (name : List ℕ) (holds : Option (List File)) (why : Refusal) → IsUnread name holds why → IsStripsReply name holds (status_of why) (line_of why)
denied name holds refusal.ReadFault is = refl
denied name holds refusal.FileBytes is = inl (is, refl)
denied name holds refusal.NoMemory is = refl
denied name holds other is = absurd is
