-- What `judge` answers: the file isn't accepted, and one line tells it; or it is, and the ruling on a log of its protocol is told,
-- or why there is none.
--
-- p is the protocol, and n is N.
use Rattle.std.specs.Prelude.{◌≡◌, ℕ, ◌<◌, ◌≤◌, ◌⊎◌, pos, List, length, codes, Option}
use Rattle.pb_text.specs.declared.action.Action.{Action}
use Rattle.pb_text.specs.declared.limits.TheConstants.{MOST_TEXT_BYTES}
use Rattle.pb_io.specs.Files.{File}
use Rattle.pb_core_language.specs.Collectives.{setting_of}
use Rattle.pb_core_language.specs.FlatOf.{flat}
use Rattle.pb_core_language.specs.Plain.{Protocol}
use Rattle.pb_core_language.specs.Ranks.{total}
use Rattle.pb_core_language.specs.Verdict.{IsIn}
use Rattle.pb_judge_log.specs.Entries.{IsBadLine, IsLog, numbered, tables_of}
use Rattle.pb_judge_ruling.specs.Ruling.{IsRuling}
use Rattle.pb_judge_ruling.specs.declared.ruling.Ruling.{Ruling}
use Rattle.pb_judge_ruling.specs.declared.ruling.Ruling.TheVariants.{Whole, Covered, Differs, Beyond}
use Rattle.pb_compile.specs.Verdict.{IsAcceptedAs}
use Rattle.pb_cli_status.specs.Lines.{line_of}
use Rattle.pb_cli_status.specs.declared.refusal.Refusal.{Refusal}
use Rattle.pb_cli_status.specs.declared.refusal.Refusal.TheVariants as refusal
use Rattle.pb_cli_status.specs.declared.status.Status.{Status}
use Rattle.pb_cli_status.specs.declared.status.Status.TheVariants as S
use Rattle.pb_cli_file.specs.Files.{IsFileRefusal, IsMeaningOf, MayRun, OnFile, OnShort, OrUnread}

-- where the folder tells the log's bytes they are such, and few enough
abbrev pub OnLog : List ℕ → Option (List File) → (List ℕ → Type 0) → Type 0
OnLog name holds P = OnFile name holds (λ bytes. (length bytes ≤ MOST_TEXT_BYTES) × P bytes)

-- ---- the bytes of a log

-- they are a log of the protocol at this N, and this is the ruling on it
abbrev pub IsRuledAs : Protocol → ℕ → List ℕ → Ruling → Type 0
IsRuledAs p n bytes ruling =
    (actions : List Action) × IsLog (tables_of p) (total p.roles (pos n)) bytes actions
    × IsRuling (setting_of p (pos n)) (flat p.roles (pos n) p.body.block) (numbered actions) ruling

-- the line of a log that kept the protocol
abbrev pub IsKeptLine : Protocol → ℕ → List ℕ → List ℕ → Type 0
IsKeptLine p n bytes text = (IsRuledAs p n bytes Whole × (text ≡ codes "whole\n")) ⊎ (IsRuledAs p n bytes Covered × (text ≡ codes "covered\n"))

-- the line of one that didn't: the line and the rank of the ruling
abbrev pub IsAgainstLine : Protocol → ℕ → List ℕ → List ℕ → Type 0
IsAgainstLine p n bytes text =
    (rank : ℕ) × (line : ℕ)
    × ((IsRuledAs p n bytes (Differs rank line) × (text ≡ line_of (refusal.LogDiffers line rank)))
    ⊎ (IsRuledAs p n bytes (Beyond rank line) × (text ≡ line_of (refusal.LogBeyond line rank))))

-- that of bytes that are no log
abbrev pub IsMalformedLine : Protocol → ℕ → List ℕ → List ℕ → Type 0
IsMalformedLine p n bytes text = (line : ℕ) × IsBadLine (tables_of p) (total p.roles (pos n)) bytes line × (text ≡ line_of (refusal.LogMalformed line))

-- a log that kept the protocol
abbrev pub IsKeptLog : Protocol → ℕ → List ℕ → Type 0
IsKeptLog p n bytes = IsRuledAs p n bytes Whole ⊎ IsRuledAs p n bytes Covered

-- ---- the reply

-- To an accepted protocol, an N and a log belong a status and a text. `unread` says of the log that it couldn't be read
abbrev pub IsJudgeAnswer : (List ℕ → Type 0) → Protocol → ℕ → List ℕ → Option (List File) → Status → List ℕ → Type 0
IsJudgeAnswer unread p n log holds S.Done text = MayRun p n × OnLog log holds (λ bytes. IsKeptLine p n bytes text)
IsJudgeAnswer unread p n log holds S.NotCovered text = MayRun p n × OnLog log holds (λ bytes. IsAgainstLine p n bytes text)
IsJudgeAnswer unread p n log holds S.Log text = MayRun p n × OnLog log holds (λ bytes. IsMalformedLine p n bytes text)
IsJudgeAnswer unread p n log holds S.Limit text =
    (IsIn p.range (pos n) × (1024 < total p.roles (pos n)) × (text ≡ line_of refusal.Ranks))
    ⊎ (MayRun p n × OnFile log holds (λ bytes. MOST_TEXT_BYTES < length bytes) × (text ≡ line_of refusal.FileBytes))
IsJudgeAnswer unread p n log holds S.OutOfRange text = (IsIn p.range (pos n) → ⊥) × (text ≡ line_of (refusal.OutOfRange n p.range))
IsJudgeAnswer unread p n log holds S.ReadFault text = MayRun p n × unread log × (text ≡ line_of refusal.ReadFault)
IsJudgeAnswer unread p n log holds S.NoMemory text = text ≡ line_of refusal.NoMemory
IsJudgeAnswer unread p n log holds other text = ⊥

abbrev pub IsJudgeReply : (List ℕ → Type 0) → List ℕ → List ℕ → ℕ → Option (List File) → Status → List ℕ → Type 0
IsJudgeReply unread name log n holds status text =
    OrUnread (unread name) (IsFileRefusal name holds) status text
    ⊎ ((p : Protocol) × IsMeaningOf name holds p × IsJudgeAnswer unread p n log holds status text)

-- the file is short enough and accepted, and the protocol can be run at this N: then the log is read
abbrev pub IsJudgedFile : List ℕ → ℕ → Option (List File) → Type 0
IsJudgedFile name n holds = OnShort name holds (λ bytes. (p : Protocol) × IsAcceptedAs bytes p × MayRun p n)

-- ---- why there is no ruling

-- the protocol isn't run at this N
abbrev pub IsNoStart : Protocol → ℕ → Refusal → Type 0
IsNoStart p n (refusal.OutOfRange m range) = (IsIn p.range (pos n) → ⊥) × ((m ≡ n) × (range ≡ p.range))
IsNoStart p n refusal.Ranks = IsIn p.range (pos n) × (1024 < total p.roles (pos n))
IsNoStart p n other = ⊥

-- the log's bytes can't be had
abbrev pub IsUnreadLog : (List ℕ → Type 0) → List ℕ → Option (List File) → Refusal → Type 0
IsUnreadLog unread log holds refusal.ReadFault = unread log
IsUnreadLog unread log holds refusal.FileBytes = OnFile log holds (λ bytes. MOST_TEXT_BYTES < length bytes)
IsUnreadLog unread log holds refusal.NoMemory = Unit {0}
IsUnreadLog unread log holds other = ⊥

-- they are no log, or one that didn't keep the protocol
abbrev pub IsAgainst : Protocol → ℕ → List ℕ → Refusal → Type 0
IsAgainst p n bytes (refusal.LogDiffers line rank) = IsRuledAs p n bytes (Differs rank line)
IsAgainst p n bytes (refusal.LogBeyond line rank) = IsRuledAs p n bytes (Beyond rank line)
IsAgainst p n bytes (refusal.LogMalformed line) = IsBadLine (tables_of p) (total p.roles (pos n)) bytes line
IsAgainst p n bytes refusal.NoMemory = Unit {0}
IsAgainst p n bytes other = ⊥

-- ---- what tells a ruling

-- the line of one that is whole or covered
abbrev pub IsLineOf : Ruling → List ℕ → Type 0
IsLineOf Whole line = line ≡ codes "whole\n"
IsLineOf Covered line = line ≡ codes "covered\n"
IsLineOf (Differs rank number) line = ⊥
IsLineOf (Beyond rank number) line = ⊥

-- the refusal of another
abbrev pub IsRefusalOf : Ruling → Refusal → Type 0
IsRefusalOf Whole why = ⊥
IsRefusalOf Covered why = ⊥
IsRefusalOf (Differs rank number) why = why ≡ refusal.LogDiffers number rank
IsRefusalOf (Beyond rank number) why = why ≡ refusal.LogBeyond number rank
