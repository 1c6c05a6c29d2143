-- From what belongs to an answer to what is said.
use Rattle.std.proofs.Common.{◌≡◌, ℕ, List, Option, Result, Ok, Err, IsErrOf, ap}
use Rattle.pb_cli_status.specs.Lines.{line_of, status_of}
use Rattle.pb_cli_status.specs.Written.{Says}
use Rattle.pb_cli_status.specs.declared.refusal.Refusal.{Refusal}
use Rattle.pb_cli_status.specs.declared.refusal.Refusal.TheVariants as refusal
use Rattle.pb_cli_status.specs.declared.status.Status.{Status}
use Rattle.pb_cli_status.specs.declared.status.Status.TheVariants.{Done, ReadFault}
use Rattle.pb_cli_file.specs.Files.{Answers, OrUnread, SaysOf, bytes_of}
use Rattle.pb_cli_file.specs.declared.answer.Answer.{Answer}
use Rattle.pb_cli_file.proofs.Answered.{fault_is}

pub said : (Belong : Status → List ℕ → Type 0) (answer : Result Answer Refusal) (result : Status) (old new : Option (List ℕ))
    → Answers answer Belong → Answers answer (λ status text. Says status text result old new) → SaysOf Belong result old new
said Belong (Ok answer) result old new reply says = (Done, bytes_of answer, reply, says)
said Belong (Err refusal) result old new reply says = (status_of refusal, line_of refusal, reply, says)

-- and where a read fault is told it is so of the file
pub said_of : (unread : Type 0) (Belong : Status → List ℕ → Type 0) (answer : Result Answer Refusal) (result : Status) (old new : Option (List ℕ))
    → (IsErrOf answer refusal.ReadFault → unread) → Answers answer Belong → Answers answer (λ status text. Says status text result old new) → SaysOf (OrUnread unread Belong) result old new
said_of unread Belong (Ok answer) result old new read reply says = (Done, bytes_of answer, (λ e. absurd (not_read e), reply), says) where
  not_read : Done ≡ ReadFault → ⊥
  not_read e = absurd cc
said_of unread Belong (Err refusal) result old new read reply says = (status_of refusal, line_of refusal, (λ e. read (ap Err (fault_is refusal e)), reply), says)
