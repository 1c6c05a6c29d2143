-- What is answered where a tree is simulated for an N: a status, and the bytes that are written.
use Rattle.std.specs.Prelude.{◌≡◌, ℕ, ◌<◌, ◌≤◌, ◌⊎◌, ℤ, pos, List, [], ◌++◌, Option}
use Rattle.std.specs.Io.KnownBytes.{Appends}
use Rattle.pb_io.specs.Sinks.{AppendsFront}
use Rattle.pb_ctree.specs.declared.tree.CTree.{CTree}
use Rattle.pb_local.specs.Tree.{program_of}
use Rattle.pb_cli_words.specs.declared.options.Shown.{Shown}
use Rattle.pb_cli_status.specs.Lines.{line_of}
use Rattle.pb_affine.specs.declared.range.NRange.{NRange}
use Rattle.pb_cli_status.specs.declared.refusal.Refusal.{Refusal}
use Rattle.pb_cli_status.specs.declared.refusal.Refusal.TheVariants as refusal
use Rattle.pb_cli_status.specs.declared.status.Status.{Status}
use Rattle.pb_cli_status.specs.declared.status.Status.TheVariants as S
use Rattle.pb_sim.specs.declared.outcomes.SimFault.{SimFault}
use Rattle.pb_sim.specs.declared.outcomes.SimFault.TheVariants as F
use Rattle.pb_sim.specs.declared.standing.Cause.{Cause}
use Rattle.pb_sim.specs.Made.{IsNumber, ranks_of}
use Rattle.pb_sim_play.specs.declared.ending.Ending.{Ending}
use Rattle.pb_sim_play.specs.declared.ending.Ending.TheVariants as E
use Rattle.pb_sim_play.specs.Plans.{Source}
use Rattle.pb_sim_play.specs.Endings.{EndsWith, IsSoFar}
use Rattle.pb_cli_status.specs.Written.{Says}
use Rattle.pb_cli_simulate.specs.Endings.{last_line}

-- what a fault of the start is to the program
abbrev pub refusal_of : SimFault → ℕ → NRange → Refusal
refusal_of F.OutOfRange n range = refusal.OutOfRange n range
refusal_of F.TooManyRanks n range = refusal.Ranks
refusal_of F.NoMemory n range = refusal.NoMemory

-- the tree can be simulated for this N
pub record Starts (tree : CTree) (n : ℕ) : Type 0 where
  pub number : IsNumber tree.local.range (pos n)
  pub few : ranks_of tree (pos n) ≤ 1024

module _ (tree : CTree) (n : ℕ) (post : ℕ → ℕ → ℕ → Type 0) (source : Source) (most : ℕ) (shown : Shown) (seed : ℕ) where
  -- a simulation was made that ended so, and the text tells what was done and how it ended
  abbrev pub IsTold : Ending → List ℕ → Type 0
  IsTold ending text = Starts tree n × ((body : List ℕ) × EndsWith tree (pos n) post source most shown seed ending body × (text ≡ body ++ last_line (program_of tree.local) most shown ending))

  -- to the tree, N, the source of events and what is shown belong a status and the bytes that it comes with
  abbrev pub IsReply : Status → List ℕ → Type 0
  IsReply S.Done text = IsTold E.Ended text
  IsReply S.Stuck text = (rank : ℕ) × (cause : Cause) × IsTold (E.Stuck rank cause) text
  IsReply S.Turns text = IsTold E.Turns text
  IsReply S.Schedule text = (t : ℕ) × IsTold (E.Refused t) text
  IsReply S.Limit text =
      IsTold E.Full text
      ⊎ (IsNumber tree.local.range (pos n) × (1024 < ranks_of tree (pos n)) × (text ≡ line_of refusal.Ranks))
  IsReply S.OutOfRange text = (IsNumber tree.local.range (pos n) → ⊥) × (text ≡ line_of (refusal.OutOfRange n tree.local.range))
  IsReply S.NoMemory text = (text ≡ line_of refusal.NoMemory) ⊎ IsTold E.NoMemory text
  IsReply other text = ⊥

  -- a status was given with the bytes that belong to it, or a write failed and only some first bytes were written of them, or
  -- of what belongs to the run as far as it has come
  abbrev pub SaysReply : Status → Option (List ℕ) → Option (List ℕ) → Type 0
  SaysReply result old new =
      ((status : Status) × (text : List ℕ) × IsReply status text × Says status text result old new)
      ⊎ ((result ≡ S.WriteFault) × ((text : List ℕ) × Starts tree n × IsSoFar tree (pos n) post source most shown seed text × AppendsFront old new text))
