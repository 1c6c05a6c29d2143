-- What `demo` answers: the counts of a run of a protocol that the program makes itself. The protocol is printed, and the bytes are
-- compiled as those of a file. Its tree is simulated at N = 8, by the draws of a seed that is the number of its statements, each
-- event eager, with at most 1,000,000 events.
use Rattle.std.specs.Prelude.{◌≡◌, ℕ, ◌<◌, ◌⊎◌, pos, List, [], ◌∷◌, length, Option, codes, decimal}
use Rattle.std.specs.List.{flat_map}
use Rattle.pb_text.specs.declared.limits.TheConstants.{MOST_EVENTS}
use Rattle.pb_world.specs.Actions.{Action}
use Rattle.pb_syntax.specs.Layout.{printed}
use Rattle.pb_demo_file.specs.File.{demo_file}
use Rattle.pb_core_language.specs.Plain.{Protocol}
use Rattle.pb_ctree.specs.declared.tree.CTree.{CTree}
use Rattle.pb_compile.specs.Compiled.{IsCompiled}
use Rattle.pb_compile.specs.Verdict.{IsVerdict}
use Rattle.pb_compile.specs.declared.verdict.Verdict.{Verdict}
use Rattle.pb_cli_verdict.specs.Refusals.{refusal_of}
use Rattle.pb_cli_status.specs.Lines.{line_of, status_of}
use Rattle.pb_cli_status.specs.Written.{Says}
use Rattle.pb_cli_status.specs.declared.refusal.Refusal.{Refusal}
use Rattle.pb_cli_status.specs.declared.refusal.Refusal.TheVariants as refusal
use Rattle.pb_cli_status.specs.declared.status.Status.{Status}
use Rattle.pb_cli_status.specs.declared.status.Status.TheVariants as S
use Rattle.pb_sim.specs.Made.{ranks_of}
use Rattle.pb_sim.specs.Scheduled.{Turn}
use Rattle.pb_sim.specs.declared.counts.Counts.{Counts}
use Rattle.pb_sim.specs.declared.seen.Seen.{Seen}
use Rattle.pb_sim.specs.declared.standing.Standing.TheVariants as T
use Rattle.pb_sim_play.specs.Endings.{IsFull, Ran, Stands}
use Rattle.pb_sim_count.specs.Counted.{counts_of}
use Rattle.pb_sim_count.specs.Played.{eager}

-- the bytes of the protocol of so many statements
abbrev pub bytes_of : ℕ → List ℕ
bytes_of count = printed (demo_file count)

-- how many bytes a protocol file may have
abbrev pub most_bytes : ℕ
most_bytes = 1048576

-- one of the trees that may be printed for it
abbrev pub IsTreeOf : ℕ → CTree → Type 0
IsTreeOf count tree = (p : Protocol) × IsCompiled (bytes_of count) p tree

-- why there is none: memory is wanting, there are more bytes than a file may have, or else the verdict on them
abbrev pub IsDenied : ℕ → Refusal → Type 0
IsDenied count why =
    (why ≡ refusal.NoMemory)
    ⊎ (((most_bytes < length (bytes_of count)) × (why ≡ refusal.FileBytes))
    ⊎ ((v : Verdict) × IsVerdict (bytes_of count) v × (why ≡ refusal_of v)))

-- its seven lines
abbrev pub summary : ℕ → Counts → List ℕ
summary count c =
    flat_map (λ part. part)
    (codes "demo " ∷ decimal count ∷ codes "\nsends " ∷ decimal c.sends ∷ codes "\nreceives " ∷ decimal c.receives ∷ codes "\nruns " ∷ decimal c.runs
    ∷ codes "\nenters " ∷ decimal c.enters ∷ codes "\nleaves " ∷ decimal c.leaves ∷ codes "\nwords " ∷ decimal c.words ∷ codes "\n" ∷ [])

module _ (post : ℕ → ℕ → ℕ → Type 0) (count : ℕ) where
  -- one of its trees was simulated, with words that `post` tells, and of that run this is so
  abbrev pub Runs : (CTree → List Turn → List (ℕ × Action) → Seen → Type 0) → Type 0
  Runs P = (tree : CTree) × IsTreeOf count tree × Ran tree (pos 8) post (eager count) MOST_EVENTS (P tree)

  -- all ranks have ended and no message is left, and these are the counts of what was done from the start on
  abbrev pub HasCounts : Counts → Type 0
  HasCounts c = Runs (λ tree turns w x. Stands tree (pos 8) x T.Ended × (c ≡ counts_of w))

  -- the verdict on the bytes, with its status and its line
  abbrev pub IsTold : Status → List ℕ → Type 0
  IsTold status text = (v : Verdict) × IsVerdict (bytes_of count) v × (status ≡ status_of (refusal_of v)) × (text ≡ line_of (refusal_of v))

  -- a limit is passed: of the file's bytes, of what the verdict tells, of ranks, or of words in flight
  abbrev pub PassesLimit : List ℕ → Type 0
  PassesLimit text =
      ((most_bytes < length (bytes_of count)) × (text ≡ line_of refusal.FileBytes))
      ⊎ (IsTold S.Limit text
      ⊎ (((tree : CTree) × IsTreeOf count tree × (1024 < ranks_of tree (pos 8)) × (text ≡ line_of refusal.Ranks))
      ⊎ (Runs (λ tree turns w x. (length turns < MOST_EVENTS) × IsFull tree (pos 8) (eager count) (length turns) w x) × (text ≡ line_of refusal.WordsInFlight))))

  -- a status belongs to it, and the bytes that it comes with
  abbrev pub IsReply : Status → List ℕ → Type 0
  IsReply S.Done text = (c : Counts) × HasCounts c × (text ≡ summary count c)
  IsReply S.Refused text = IsTold S.Refused text
  IsReply S.Limit text = PassesLimit text
  IsReply S.Turns text = Runs (λ tree turns w x. Stands tree (pos 8) x T.Going × (length turns ≡ MOST_EVENTS)) × (text ≡ line_of (refusal.Turns MOST_EVENTS))
  IsReply S.NoMemory text = text ≡ line_of refusal.NoMemory
  IsReply other text = ⊥

  -- so it was, or a write failed
  abbrev pub SaysDemo : Status → Option (List ℕ) → Option (List ℕ) → Type 0
  SaysDemo result old new = (status : Status) × (text : List ℕ) × IsReply status text × Says status text result old new
