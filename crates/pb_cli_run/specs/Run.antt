-- What `run` answers: a protocol file is compiled, and its tree is simulated.
use Rattle.std.specs.Prelude.{◌≡◌, ℕ, ◌<◌, ◌≤◌, ◌⊎◌, pos, List, [], ◌++◌, length, Option}
use Rattle.pb_io.specs.Files.{File, IsContent}
use Rattle.pb_io.specs.Sinks.{AppendsFront}
use Rattle.pb_world.specs.Actions.{Action, answers_of, Covers}
use Rattle.pb_world.specs.Counted.{Counted}
use Rattle.pb_world.specs.Family.{Family}
use Rattle.pb_world.specs.Theorem.{IsWhole}
use Rattle.pb_core_language.specs.Plain.{Protocol}
use Rattle.pb_core_language.specs.Ranks.{total}
use Rattle.pb_core_language.specs.Verdict.{IsIn}
use Rattle.pb_local.specs.Family.{family}
use Rattle.pb_local.specs.Machine as M
use Rattle.pb_local.specs.Tree.{program_of}
use Rattle.pb_ctree.specs.declared.tree.CTree.{CTree}
use Rattle.pb_shape.specs.Theorem.{sequence_of}
use Rattle.pb_compile.specs.Compiled.{IsCompiled}
use Rattle.pb_sim_world.specs.Worlds.{world_of}
use Rattle.pb_cli_words.specs.declared.options.Options.{Options}
use Rattle.pb_cli_words.specs.declared.options.Shown.{Shown}
use Rattle.pb_cli_status.specs.Lines.{line_of}
use Rattle.pb_cli_status.specs.declared.refusal.Refusal.TheVariants as refusal
use Rattle.pb_cli_status.specs.declared.status.Status.{Status}
use Rattle.pb_cli_status.specs.declared.status.Status.TheVariants as S
use Rattle.pb_sim.specs.declared.seen.Seen.{Seen}
use Rattle.pb_sim.specs.Scheduled.{Turn}
use Rattle.pb_sim.specs.Standing.{IsGoing}
use Rattle.pb_sim_play.specs.Plans.{Source, drawn}
use Rattle.pb_sim_play.specs.Endings.{Ran, IsFull, text_of, part_of}
use Rattle.pb_cli_simulate.specs.Endings.{ended_line}
use Rattle.pb_cli_file.specs.Files.{IsFileRefusal, MayRun, OrUnread, SaysOf, most_bytes}

-- the ranks of the text at N = n, beside the sequential runs of the protocol
abbrev pub ranks_of : Protocol → CTree → ℕ → Family (Counted M.Rank)
ranks_of p tree n = family (program_of tree.local) (pos n) (sequence_of p (pos n))

-- what was done is, up to swaps of actions of different ranks, a prefix of the sequential run under the answers that were given
abbrev pub Begins : Protocol → CTree → ℕ → List (ℕ × Action) → Type 0
Begins p tree n w = (m : ℕ) × Covers ((ranks_of p tree n).run (answers_of w) m) w

module _ (p : Protocol) (tree : CTree) (n : ℕ) (post : ℕ → ℕ → ℕ → Type 0) (source : Source) (most : ℕ) (shown : Shown) (seed : ℕ) where
  -- A simulation was made that begins the protocol's run, and it stands so; the text is what is told of it, with this line behind
  abbrev pub RunsTo : (List Turn → List (ℕ × Action) → Seen → List ℕ → Type 0) → List ℕ → List ℕ → Type 0
  RunsTo P line text =
      MayRun p n × ((body : List ℕ) × Ran tree (pos n) post source most (λ turns w x. Begins p tree n w × P turns w x body) × (text ≡ body ++ line))

  -- To a protocol with its tree, an N, the source of events and what is shown belong a status and the bytes that it comes with.
  -- All is done only where all ranks have ended, no message is left, and each rank has done its part of a whole sequential run
  abbrev pub IsRunReply : Status → List ℕ → Type 0
  IsRunReply S.Done text =
      RunsTo (λ turns w x body. IsWhole (ranks_of p tree n) w (world_of x.state) × (body ≡ text_of shown seed tree turns w)) (ended_line shown) text
  IsRunReply S.Turns text =
      RunsTo (λ turns w x body. IsGoing (ranks_of p tree n) (world_of x.state) × (length turns ≡ most) × (body ≡ text_of shown seed tree turns w)) (line_of (refusal.Turns most)) text
  IsRunReply S.Limit text =
      RunsTo (λ turns w x body. (length turns < most) × IsFull tree (pos n) source (length turns) w x × (body ≡ part_of shown tree w)) (line_of refusal.WordsInFlight) text
      ⊎ (IsIn p.range (pos n) × (1024 < total p.roles (pos n)) × (text ≡ line_of refusal.Ranks))
  IsRunReply S.OutOfRange text = (IsIn p.range (pos n) → ⊥) × (text ≡ line_of (refusal.OutOfRange n p.range))
  IsRunReply S.NoMemory text =
      (text ≡ line_of refusal.NoMemory) ⊎ RunsTo (λ turns w x body. body ≡ part_of shown tree w) (line_of refusal.NoMemory) text
  IsRunReply other text = ⊥

  -- a status was given with the bytes that belong to it, or a write failed and only some first bytes were written of them, or of
  -- what belongs to the run as far as it has come
  abbrev pub SaysRunReply : Status → Option (List ℕ) → Option (List ℕ) → Type 0
  SaysRunReply result old new =
      SaysOf IsRunReply result old new
      ⊎ ((result ≡ S.WriteFault) × ((text : List ℕ) × RunsTo (λ turns w x body. (body ≡ part_of shown tree w) ⊎ (body ≡ text_of shown seed tree turns w)) [] text × AppendsFront old new text))

-- The file is refused, and one line tells it; or it is accepted, and the simulation of one of the trees that may be printed for it is told
abbrev pub SaysRun : (ℕ → ℕ → ℕ → ℕ → Type 0) → (List ℕ → Type 0) → List ℕ → Options → Option (List File) → Status → Option (List ℕ) → Option (List ℕ) → Type 0
SaysRun post unread name options holds result old new =
    SaysOf (OrUnread (unread name) (IsFileRefusal name holds)) result old new
    ⊎ ((bytes : List ℕ) × (p : Protocol) × (tree : CTree) × IsContent holds name bytes × (length bytes ≤ most_bytes) × IsCompiled bytes p tree
    × SaysRunReply p tree options.n (post options.seed) (drawn options.seed options.modes) options.turns options.shown options.seed result old new)
