-- From what is told of a protocol and a log to the reply.
use Rattle.std.proofs.Common.{◌≡◌, ◌≤◌, inl, inr, ℕ, ◌+◌, ◌-◌, ◌^◌, min, pos, Bool, true, List, length, Option, None, Some, Result, Err, refl, sym, ap, subst, ◌∙◌, arith}
use Rattle.pb_io.specs.Faults.{Rose}
use Rattle.pb_io.specs.Files.{File, IsContent}
use Rattle.pb_io.specs.Unread.{IsUnread}
use Rattle.pb_text.specs.declared.limits.TheConstants.{MOST_TEXT_BYTES}
use Rattle.pb_text.specs.declared.action.Action.{Action}
use Rattle.pb_core_language.specs.Collectives.{setting_of}
use Rattle.pb_core_language.specs.FlatOf.{flat}
use Rattle.pb_core_language.specs.Plain.{Protocol}
use Rattle.pb_core_language.specs.Ranks.{total}
use Rattle.pb_core_language.specs.Sound.{is_sound}
use Rattle.pb_local.specs.WellMade.{AreLabels, AreKernels}
use Rattle.pb_parse_laws.proofs.Sound.{parsed_is_sound}
use Rattle.pb_compile_laws.proofs.Tabled.{file_is_tabled}
use Rattle.pb_compile.specs.Verdict.{IsAcceptedAs}
use Rattle.pb_judge_log.specs.Entries.{IsLog, numbered, tables_of}
use Rattle.pb_judge_ruling.specs.Ruling.{IsRuling}
use Rattle.pb_judge_ruling.specs.declared.ruling.Ruling.{Ruling}
use Rattle.pb_judge_ruling.specs.declared.ruling.Ruling.TheVariants.{Whole, Covered, Differs, Beyond}
use Rattle.pb_judge_ruling.specs.Laws.{HasRanks}
use Rattle.pb_judge.proofs.ReadRanks.{read_logs_have_ranks}
use Rattle.pb_cli_status.specs.Lines.{line_of, status_of}
use Rattle.pb_cli_status.specs.Written.{Says}
use Rattle.pb_cli_status.specs.declared.refusal.Refusal.{Refusal}
use Rattle.pb_cli_status.specs.declared.refusal.Refusal.TheVariants as refusal
use Rattle.pb_cli_status.specs.declared.status.Status.{Status}
use Rattle.pb_cli_status.specs.declared.status.Status.TheVariants as S
use Rattle.pb_cli_file.specs.Files.{IsFileRefusal, IsMeaningOf, MayRun, SaysOf}
use Rattle.pb_cli_file.proofs.Answered.{fault_is, on_short}
use Rattle.pb_cli_judge.specs.Judge.{IsAgainst, IsAgainstLine, IsJudgeAnswer, IsJudgeReply, IsJudgedFile, IsKeptLine, IsLineOf, IsMalformedLine, IsNoStart, IsRefusalOf, IsRuledAs, IsUnreadLog, OnLog}

-- ---- what an accepted protocol has

pub sound : (bytes : List ℕ) (p : Protocol) → IsAcceptedAs bytes p → is_sound p ≡ true
sound bytes p a = ap is_sound a.2.1 ∙ parsed_is_sound bytes a.0 a.1 a.2.0.0.earlier

pub labels : (bytes : List ℕ) (p : Protocol) → IsAcceptedAs bytes p → AreLabels p.labels
labels bytes p a = subst (λ (q : Protocol). AreLabels q.labels) (sym a.2.1) (file_is_tabled bytes a.0 a.1 a.2.0.0).labels

pub kernels : (bytes : List ℕ) (p : Protocol) → IsAcceptedAs bytes p → AreKernels p.kernels
kernels bytes p a = subst (λ (q : Protocol). AreKernels q.kernels) (sym a.2.1) (file_is_tabled bytes a.0 a.1 a.2.0.0).kernels

-- ---- a log

ruled_as : (p : Protocol) (n : ℕ) (bytes : List ℕ) (ruling : Ruling) (actions : List Action) (log : List (ℕ × Action)) → IsLog (tables_of p) (total p.roles (pos n)) bytes actions → log ≡ numbered actions
    → IsRuling (setting_of p (pos n)) (flat p.roles (pos n) p.body.block) log ruling → IsRuledAs p n bytes ruling
ruled_as p n bytes ruling actions log is same rules = (actions, is, subst (λ (l : List (ℕ × Action)). IsRuling (setting_of p (pos n)) (flat p.roles (pos n) p.body.block) l ruling) same rules)

pub has_ranks : (p : Protocol) (total : ℕ) (bytes : List ℕ) (log : List (ℕ × Action)) → (actions : List Action) × IsLog (tables_of p) total bytes actions × (log ≡ numbered actions) → HasRanks total log
has_ranks p total bytes log (actions, is, same) = subst (HasRanks total) (sym same) (read_logs_have_ranks (tables_of p) total bytes actions is)

module _ (p : Protocol) (n : ℕ) (bytes : List ℕ) where
  kept_line : (ruling : Ruling) (line : List ℕ) → IsRuledAs p n bytes ruling → IsLineOf ruling line → IsKeptLine p n bytes line
  kept_line Whole line is told = inl (is, told)
  kept_line Covered line is told = inr (is, told)
  kept_line (Differs rank number) line is told = absurd told
  kept_line (Beyond rank number) line is told = absurd told

  refused : (ruling : Ruling) (why : Refusal) → IsRuledAs p n bytes ruling → IsRefusalOf ruling why → IsAgainst p n bytes why
  refused Whole why is told = absurd told
  refused Covered why is told = absurd told
  refused (Differs rank number) why is told = subst (IsAgainst p n bytes) (sym told) is
  refused (Beyond rank number) why is told = subst (IsAgainst p n bytes) (sym told) is

  module _ (log : List (ℕ × Action)) (read : (actions : List Action) × IsLog (tables_of p) (total p.roles (pos n)) bytes actions × (log ≡ numbered actions)) (ruling : Ruling)
      (rules : IsRuling (setting_of p (pos n)) (flat p.roles (pos n) p.body.block) log ruling) where
    pub kept_as : (line : List ℕ) → IsLineOf ruling line → IsKeptLine p n bytes line
    kept_as line told = kept_line ruling line (ruled_as p n bytes ruling read.0 log read.1 read.2 rules) told

    pub refused_as : (why : Refusal) → IsRefusalOf ruling why → IsAgainst p n bytes why
    refused_as why told = refused ruling why (ruled_as p n bytes ruling read.0 log read.1 read.2 rules) told

-- what is so of the bytes that were read is so of the log
on_log : (P : List ℕ → Type 0) (name : List ℕ) (holds : Option (List File)) (bytes : List ℕ) → IsContent holds name bytes → length bytes ≤ MOST_TEXT_BYTES → P bytes → OnLog name holds P
on_log P name None bytes read short is = tt
on_log P name (Some files) bytes read short is = subst (λ l. (length l ≤ MOST_TEXT_BYTES) × P l) read (short, is)

module _ (unread : List ℕ → Type 0) (p : Protocol) (n : ℕ) (log : List ℕ) (holds : Option (List File)) where
  pub no_start : (why : Refusal) → IsNoStart p n why → IsJudgeAnswer unread p n log holds (status_of why) (line_of why)
  no_start (refusal.OutOfRange m range) (out, (same, ranges)) = (out, ap (λ k. line_of (refusal.OutOfRange k range)) same ∙ ap (λ r. line_of (refusal.OutOfRange n r)) ranges)
  no_start refusal.Ranks (within, many) = inl (within, many, refl)
  no_start other is = absurd is

  module _ (runs : MayRun p n) where
    pub unread_log : (why : Refusal) → IsUnreadLog unread log holds why → IsJudgeAnswer unread p n log holds (status_of why) (line_of why)
    unread_log refusal.ReadFault is = (runs, is, refl)
    unread_log refusal.FileBytes is = inr (runs, is, refl)
    unread_log refusal.NoMemory is = refl
    unread_log other is = absurd is

    module _ (bytes : List ℕ) (read : IsContent holds log bytes) (short : length bytes ≤ MOST_TEXT_BYTES) where
      pub kept : (line : List ℕ) → IsKeptLine p n bytes line → IsJudgeAnswer unread p n log holds S.Done line
      kept line is = (runs, on_log (λ l. IsKeptLine p n l line) log holds bytes read short is)

      pub against : (why : Refusal) → IsAgainst p n bytes why → IsJudgeAnswer unread p n log holds (status_of why) (line_of why)
      against (refusal.LogDiffers line rank) is = (runs, on_log (λ l. IsAgainstLine p n l (line_of (refusal.LogDiffers line rank))) log holds bytes read short (rank, line, inl (is, refl)))
      against (refusal.LogBeyond line rank) is = (runs, on_log (λ l. IsAgainstLine p n l (line_of (refusal.LogBeyond line rank))) log holds bytes read short (rank, line, inr (is, refl)))
      against (refusal.LogMalformed line) is = (runs, on_log (λ l. IsMalformedLine p n l (line_of (refusal.LogMalformed line))) log holds bytes read short (line, is, refl))
      against refusal.NoMemory is = refl
      against other is = absurd is

-- ---- reading both files

pub rose_before : (before between now : ℕ) → before ≤ between → Rose between now → Rose before now
rose_before before between now less rose = let next : min (before + 1) (2 ^ 64 - 1) ≤ min (between + 1) (2 ^ 64 - 1) = grind (arith, less) in omega (arith, next, rose)

pub unread_since : (steady : Bool) (holds : Option (List File)) (before between now : ℕ) (name : List ℕ) → before ≤ between → IsUnread steady holds between now name → IsUnread steady holds before now name
unread_since steady holds before between now name less is = record { rose = rose_before before between now less is.rose; unsure = is.unsure }

pub answer_since : (unread more : List ℕ → Type 0) (p : Protocol) (n : ℕ) (log : List ℕ) (holds : Option (List File)) → (unread log → more log) → (status : Status) (text : List ℕ)
    → IsJudgeAnswer unread p n log holds status text → IsJudgeAnswer more p n log holds status text
answer_since unread more p n log holds wider S.ReadFault text (runs, is, line) = (runs, wider is, line)
answer_since unread more p n log holds wider S.Done text is = is
answer_since unread more p n log holds wider S.NotCovered text is = is
answer_since unread more p n log holds wider S.Log text is = is
answer_since unread more p n log holds wider S.Limit text is = is
answer_since unread more p n log holds wider S.OutOfRange text is = is
answer_since unread more p n log holds wider S.NoMemory text is = is
answer_since unread more p n log holds wider other text is = absurd is

pub why_is : {T : Type 0} (why other : Refusal) → ◌≡◌ {A = Result T Refusal} (Err why) (Err other) → why ≡ other
why_is why other e = cc

-- what is told of the log once the file was read
pub told_since : (steady new_steady : Bool) (holds new_holds : Option (List File)) (before between now : ℕ) (name log : List ℕ) (n : ℕ) (p : Protocol) (status : Status) (text : List ℕ) → before ≤ between → new_holds ≡ holds → new_steady ≡ steady
    → IsMeaningOf name holds p → IsJudgeAnswer (IsUnread new_steady new_holds between now) p n log new_holds status text → IsJudgeReply (IsUnread steady holds before now) name log n holds status text
told_since steady new_steady holds new_holds before between now name log n p status text less eh es of is =
    let a : IsJudgeAnswer (IsUnread steady new_holds between now) p n log new_holds status text = subst (λ (s : Bool). IsJudgeAnswer (IsUnread s new_holds between now) p n log new_holds status text) es is in
    let b : IsJudgeAnswer (IsUnread steady holds between now) p n log holds status text = subst (λ (h : Option (List File)). IsJudgeAnswer (IsUnread steady h between now) p n log h status text) eh a in
    inr (p, of, answer_since (IsUnread steady holds between now) (IsUnread steady holds before now) p n log holds (unread_since steady holds before between now log less) status text b)

module _ (unread : List ℕ → Type 0) (name log : List ℕ) (n : ℕ) (holds : Option (List File)) where
  pub denied : (why : Refusal) → (why ≡ refusal.ReadFault → unread name) → IsFileRefusal name holds (status_of why) (line_of why) → IsJudgeReply unread name log n holds (status_of why) (line_of why)
  denied why read is = inl ((λ e. read (fault_is why e)), is)

pub judged : (name : List ℕ) (n : ℕ) (holds : Option (List File)) (p : Protocol) → IsMeaningOf name holds p → MayRun p n → IsJudgedFile name n holds
judged name n holds p of runs = on_short (λ l. (q : Protocol) × IsAcceptedAs l q × MayRun q n) name holds of.bytes of.content of.short (p, of.accepted, runs)

-- ---- what is said

pub said : (Belong : Status → List ℕ → Type 0) (status result : Status) (text : List ℕ) (old new : Option (List ℕ)) → Belong status text → Says status text result old new → SaysOf Belong result old new
said Belong status result text old new is says = (status, text, is, says)
