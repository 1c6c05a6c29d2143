-- Want of memory is a reply to all words.
use Rattle.std.proofs.Common.{◌≡◌, ℕ, List, Option, Some, None, refl, inl}
use Rattle.pb_io.specs.Files.{File}
use Rattle.pb_cli_words.specs.Request.{Request, check, gen, gen_with, project, sim, replay, run, demo, expand, strips, cost, judge}
use Rattle.pb_cli_status.specs.Lines.{line_of}
use Rattle.pb_cli_status.specs.declared.refusal.Refusal.{Refusal}
use Rattle.pb_cli_status.specs.declared.refusal.Refusal.TheVariants as refusal
use Rattle.pb_cli_status.specs.declared.status.Status.{Status}
use Rattle.pb_cli_status.specs.declared.status.Status.TheVariants.{NoMemory, ReadFault}
use Rattle.pb_cli.specs.Program.{SaysReply}
use Rattle.pb_cli_status.specs.Written.{Says}
use Rattle.pb_cli_file.proofs.Answered.{never_done}

not_unread : NoMemory ≡ ReadFault → ⊥
not_unread e = absurd cc

other_refusal : ◌≡◌ {A = Refusal} refusal.NoMemory refusal.ReadFault → ⊥
other_refusal e = absurd cc

-- want of memory belongs to all words
pub no_memory : (post : ℕ → ℕ → ℕ → ℕ → Type 0) (unread : List ℕ → Type 0) (form : Option Request) (holds : Option (List File)) (result : Status) (old new : Option (List ℕ))
    → Says NoMemory (line_of refusal.NoMemory) result old new → SaysReply post unread form holds result old new
no_memory post unread None holds result old new says = (NoMemory, line_of refusal.NoMemory, refl, says)
no_memory post unread (Some (check name)) holds result old new says = (NoMemory, line_of refusal.NoMemory, (λ e. absurd (not_unread e), refl), says)
no_memory post unread (Some (gen name)) holds result old new says = (NoMemory, line_of refusal.NoMemory, (λ e. absurd (not_unread e), refl), says)
no_memory post unread (Some (gen_with name kernels)) holds result old new says = (NoMemory, line_of refusal.NoMemory, inl (never_done refusal.NoMemory, refl), says)
no_memory post unread (Some (project name)) holds result old new says = (NoMemory, line_of refusal.NoMemory, (λ e. absurd (not_unread e), refl), says)
no_memory post unread (Some (sim name options)) holds result old new says = inl (refusal.NoMemory, record { kind = tt; read = λ e. absurd (other_refusal e); untaken = tt }, says)
no_memory post unread (Some (replay name schedule n)) holds result old new says = inl (refusal.NoMemory, record { kind = tt; read = λ e. absurd (other_refusal e); untaken = tt }, says)
no_memory post unread (Some (run name options)) holds result old new says = inl (NoMemory, line_of refusal.NoMemory, (λ e. absurd (not_unread e), (never_done refusal.NoMemory, refl)), says)
no_memory post unread (Some (demo count)) holds result old new says = (NoMemory, line_of refusal.NoMemory, refl, says)
no_memory post unread (Some (expand name)) holds result old new says = (NoMemory, line_of refusal.NoMemory, (λ e. absurd (not_unread e), refl), says)
no_memory post unread (Some (strips name)) holds result old new says = (NoMemory, line_of refusal.NoMemory, (λ e. absurd (not_unread e), refl), says)
no_memory post unread (Some (cost name)) holds result old new says = (NoMemory, line_of refusal.NoMemory, inl (λ e. absurd (not_unread e), (never_done refusal.NoMemory, refl)), says)
no_memory post unread (Some (judge name log n)) holds result old new says = (NoMemory, line_of refusal.NoMemory, inl (λ e. absurd (not_unread e), (never_done refusal.NoMemory, refl)), says)
