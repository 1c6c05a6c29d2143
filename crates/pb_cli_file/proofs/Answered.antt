-- From what is made of a file's bytes, or the verdict on them, to the reply.
use Rattle.std.proofs.Common.{◌≡◌, ◌≢◌, ℕ, ◌≤◌, inr, List, length, Option, None, Some, refl, subst}
use Rattle.pb_io.specs.Files.{File, IsContent}
use Rattle.pb_core_language.specs.Plain.{Protocol}
use Rattle.pb_lex.specs.declared.error.LexError.TheVariants as E
use Rattle.pb_cli_status.specs.Lines.{line_of, status_of}
use Rattle.pb_cli_status.specs.declared.refusal.Refusal.{Refusal}
use Rattle.pb_cli_status.specs.declared.refusal.Refusal.TheVariants as refusal
use Rattle.pb_cli_status.specs.declared.status.Status.{Status}
use Rattle.pb_cli_status.specs.declared.status.Status.TheVariants as S
use Rattle.pb_cli_status.specs.declared.status.Status.TheVariants.{Done, ReadFault}
use Rattle.pb_ctree.specs.declared.tree.CTree.{CTree}
use Rattle.pb_ctree.specs.Trees.{IsTree}
use Rattle.pb_compile.specs.Compiled.{IsCompiled}
use Rattle.pb_compile.specs.Verdict.{IsAcceptedAs, IsVerdict, IsKept, OnTree}
use Rattle.pb_compile.specs.declared.verdict.Verdict.{Verdict}
use Rattle.pb_compile.specs.declared.verdict.Verdict.TheVariants as verdict
use Rattle.pb_cli_verdict.specs.Refusals.{refusal_of}
use Rattle.pb_cli_file.specs.Files.{IsFileRefusal, IsFileReply, IsMeaningOf, IsTold, IsTreeOf, OnShort, most_bytes}

-- an accepted file keeps its rules
pub checked : (bytes : List ℕ) (p : Protocol) → IsAcceptedAs bytes p → OnTree bytes IsKept
checked bytes p is = (is.0, is.1, is.2.0)

-- what is so of the bytes that were read is so of the file
pub on_short : (P : List ℕ → Type 0) (name : List ℕ) (holds : Option (List File)) (bytes : List ℕ)
    → IsContent holds name bytes → length bytes ≤ most_bytes → P bytes → OnShort name holds P
on_short P name None bytes read short is = tt
on_short P name (Some files) bytes read short is = subst (λ (l : List ℕ). (length l ≤ most_bytes) × P l) read (short, is)

module _ (IsText : List ℕ → List ℕ → Type 0) (name : List ℕ) (holds : Option (List File)) (bytes : List ℕ)
    (read : IsContent holds name bytes) (short : length bytes ≤ most_bytes) where
  pub done : (text : List ℕ) → IsText bytes text → IsFileReply IsText name holds Done text
  done text is = on_short (λ l. IsText l text) name holds bytes read short is

  is_told : (v : Verdict) → IsVerdict bytes v → IsTold name holds (status_of (refusal_of v)) (line_of (refusal_of v))
  is_told v is = (v, on_short (λ l. IsVerdict l v) name holds bytes read short is, refl, refl)

  pub told : (v : Verdict) → IsVerdict bytes v → IsFileReply IsText name holds (status_of (refusal_of v)) (line_of (refusal_of v))
  told (verdict.Lex (E.BadByte place)) is = is_told (verdict.Lex (E.BadByte place)) is
  told (verdict.Lex (E.OpenComment place)) is = is_told (verdict.Lex (E.OpenComment place)) is
  told (verdict.Lex (E.NumberTooLarge place)) is = inr (is_told (verdict.Lex (E.NumberTooLarge place)) is)
  told (verdict.Lex (E.NameTooLong place)) is = inr (is_told (verdict.Lex (E.NameTooLong place)) is)
  told (verdict.Unexpected place) is = is_told (verdict.Unexpected place) is
  told (verdict.TooDeep place) is = inr (is_told (verdict.TooDeep place) is)
  told (verdict.TooMany limit place) is = inr (is_told (verdict.TooMany limit place) is)
  told (verdict.Broken rule place n role index) is = is_told (verdict.Broken rule place n role index) is
  told verdict.TooManyCases is = inr (is_told verdict.TooManyCases is)
  told verdict.NoMemory is = refl

-- ---- a file that isn't taken, whatever is wanted of it

-- no refusal says that all is done
pub never_done : (why : Refusal) → status_of why ≢ Done
never_done refusal.Usage e = absurd cc
never_done refusal.ReadFault e = absurd cc
never_done refusal.FileBytes e = absurd cc
never_done refusal.NoMemory e = absurd cc
never_done (refusal.Syntax place) e = absurd cc
never_done (refusal.Limit limit place) e = absurd cc
never_done refusal.Breakpoints e = absurd cc
never_done (refusal.Broken rule place n at) e = absurd cc
never_done (refusal.KernelMarker line) e = absurd cc
never_done (refusal.Kernel kind name wrong) e = absurd cc
never_done (refusal.Text place) e = absurd cc
never_done (refusal.Schedule line) e = absurd cc
never_done refusal.Events e = absurd cc
never_done (refusal.OutOfRange n range) e = absurd cc
never_done refusal.Ranks e = absurd cc
never_done refusal.WordsInFlight e = absurd cc
never_done (refusal.Turns turns) e = absurd cc
never_done refusal.Pieces e = absurd cc
never_done (refusal.Call wrong place) e = absurd cc
never_done (refusal.Strip wrong place) e = absurd cc
never_done (refusal.CostLoop place) e = absurd cc
never_done (refusal.LogDiffers line rank) e = absurd cc
never_done (refusal.LogBeyond line rank) e = absurd cc
never_done (refusal.LogMalformed line) e = absurd cc

-- and one alone says that a file couldn't be read
pub fault_is : (why : Refusal) → status_of why ≡ ReadFault → why ≡ refusal.ReadFault
fault_is refusal.Usage e = absurd cc
fault_is refusal.ReadFault e = refl
fault_is refusal.FileBytes e = absurd cc
fault_is refusal.NoMemory e = absurd cc
fault_is (refusal.Syntax place) e = absurd cc
fault_is (refusal.Limit limit place) e = absurd cc
fault_is refusal.Breakpoints e = absurd cc
fault_is (refusal.Broken rule place n at) e = absurd cc
fault_is (refusal.KernelMarker line) e = absurd cc
fault_is (refusal.Kernel kind name wrong) e = absurd cc
fault_is (refusal.Text place) e = absurd cc
fault_is (refusal.Schedule line) e = absurd cc
fault_is refusal.Events e = absurd cc
fault_is (refusal.OutOfRange n range) e = absurd cc
fault_is refusal.Ranks e = absurd cc
fault_is refusal.WordsInFlight e = absurd cc
fault_is (refusal.Turns turns) e = absurd cc
fault_is refusal.Pieces e = absurd cc
fault_is (refusal.Call wrong place) e = absurd cc
fault_is (refusal.Strip wrong place) e = absurd cc
fault_is (refusal.CostLoop place) e = absurd cc
fault_is (refusal.LogDiffers line rank) e = absurd cc
fault_is (refusal.LogBeyond line rank) e = absurd cc
fault_is (refusal.LogMalformed line) e = absurd cc

no_file : (IsText : List ℕ → List ℕ → Type 0) (name : List ℕ) (holds : Option (List File)) → OnShort name holds (λ bytes. ⊥) → (text : List ℕ) → IsFileReply IsText name holds Done text
no_file IsText name None is text = tt
no_file IsText name (Some files) is text = absurd is.1

wider : (IsText : List ℕ → List ℕ → Type 0) (name : List ℕ) (holds : Option (List File)) (status : Status) (text : List ℕ)
    → IsFileReply (λ bytes written. ⊥) name holds status text → IsFileReply IsText name holds status text
wider IsText name holds S.Done text is = no_file IsText name holds is text
wider IsText name holds S.Refused text is = is
wider IsText name holds S.Limit text is = is
wider IsText name holds S.ReadFault text is = is
wider IsText name holds S.NoMemory text is = is
wider IsText name holds other text is = absurd is

pub unread : (IsText : List ℕ → List ℕ → Type 0) (name : List ℕ) (holds : Option (List File)) (why : Refusal)
    → IsFileRefusal name holds (status_of why) (line_of why) → IsFileReply IsText name holds (status_of why) (line_of why)
unread IsText name holds why is = wider IsText name holds (status_of why) (line_of why) is.1

pub refused : (name : List ℕ) (holds : Option (List File)) (bytes : List ℕ) → IsContent holds name bytes → length bytes ≤ most_bytes → (v : Verdict) → IsVerdict bytes v
    → IsFileRefusal name holds (status_of (refusal_of v)) (line_of (refusal_of v))
refused name holds bytes read short v is = (never_done (refusal_of v), told (λ bytes written. ⊥) name holds bytes read short v is)

-- ---- what the file means, and a tree that is simulated

pub meaning : (name : List ℕ) (holds : Option (List File)) (bytes : List ℕ) (p : Protocol) → IsContent holds name bytes → length bytes ≤ most_bytes → IsAcceptedAs bytes p → IsMeaningOf name holds p
meaning name holds bytes p read short is = record { bytes = bytes; content = read; short = short; accepted = is }

pub compiled : (name : List ℕ) (holds : Option (List File)) (bytes : List ℕ) (p : Protocol) (tree : CTree) → IsContent holds name bytes → length bytes ≤ most_bytes → IsCompiled bytes p tree → IsTreeOf name holds tree
compiled name holds bytes p tree read short is = record { bytes = bytes; protocol = p; content = read; short = short; compiled = is }

pub made : (bytes : List ℕ) (p : Protocol) (tree : CTree) → IsCompiled bytes p tree → IsTree tree
made bytes p tree is = is.projected.made
