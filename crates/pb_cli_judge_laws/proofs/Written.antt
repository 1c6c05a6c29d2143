-- From what `run` writes to how it is ruled.
use Rattle.std.proofs.Common.{◌≡◌, ◌⊎◌, inl, inr, ℕ, ◌≤◌, pos, List, [], ◌++◌, refl, ap, subst, ◌∙◌, arith}
use Rattle.std.specs.Prelude.{codes, decimal, Some}
use Rattle.std.specs.List.{AllByRecursion}
use Rattle.pb_text.specs.declared.limits.TheConstants.{MOST_EVENTS}
use Rattle.pb_io.specs.Files.{File, content_of}
use Rattle.pb_world.specs.Actions.{Action, of_rank, answers_of}
use Rattle.pb_world.specs.Log as L
use Rattle.pb_core_language.specs.Plain.{Protocol}
use Rattle.pb_core_language.specs.Ranks.{total}
use Rattle.pb_local.specs.Tree.{Program, program_of}
use Rattle.pb_ctree.specs.declared.tree.CTree.{CTree}
use Rattle.pb_shape.specs.Theorem.{sequence_of}
use Rattle.pb_compile.specs.Compiled.{IsCompiled}
use Rattle.pb_sim.specs.declared.seen.Seen.{Seen}
use Rattle.pb_sim.specs.Scheduled.{Turn}
use Rattle.pb_sim_world.specs.States.{program}
use Rattle.pb_sim_world.specs.Worlds.{world_of}
use Rattle.pb_local.specs.Family.{family}
use Rattle.pb_sim_play.specs.Plans.{Source}
use Rattle.pb_sim_play.specs.Plays.{IsPlay, log_of}
use Rattle.pb_judge_log.specs.Entries.{IsEnding, IsTold, tables_of}
use Rattle.pb_judge_log.proofs.Spelled.{decimal_within}
use Rattle.pb_judge_ruling.specs.declared.ruling.Ruling.TheVariants.{Whole, Covered, Differs, Beyond}
use Rattle.pb_judge_told.specs.Told.{AreAnsweredSmall}
use Rattle.pb_cli_words.specs.declared.options.Shown.TheVariants.{Log}
use Rattle.pb_cli_status.specs.Lines.{line_of}
use Rattle.pb_cli_status.specs.declared.refusal.Refusal.TheVariants as refusal
use Rattle.pb_cli_status.specs.declared.status.Status.{Status}
use Rattle.pb_cli_status.specs.declared.status.Status.TheVariants as S
use Rattle.pb_cli_file.specs.Files.{MayRun}
use Rattle.pb_cli_demo.proofs.Runs.{reaches}
use Rattle.pb_cli_run.specs.Run.{Begins, IsRunReply, ranks_of}
use Rattle.pb_cli_judge.specs.Judge.{IsJudgeAnswer, IsRuledAs}
use Rattle.pb_cli_judge_laws.specs.Laws.{AnswersFit, IsKept, KeptLogsAreNotRefused, LogsAreRuled}
use Rattle.pb_cli_judge_laws.proofs.Answered.{run_small}
use Rattle.pb_cli_judge_laws.proofs.Kept.{are_told, kept, whole}

-- ---- the last line

module _ (q : Program) (many : ℕ) where
  ended_ends : IsEnding q many (codes "ended\n")
  ended_ends = inr (inl refl)

  no_memory_ends : IsEnding q many (line_of refusal.NoMemory)
  no_memory_ends = inr (inr (codes "no memory", refl, refl))

  in_flight_ends : IsEnding q many (line_of refusal.WordsInFlight)
  in_flight_ends = inr (inr (codes "limit words in flight", refl, refl))

  turns_ends : (most : ℕ) → most ≤ MOST_EVENTS → IsEnding q many (line_of (refusal.Turns most))
  turns_ends most le = inr (inr (codes "turns " ++ decimal most, decimal_within most (omega (arith, le)), refl))

-- ---- a run

module _ (post : ℕ → ℕ → ℕ → ℕ → Type 0) (file : List ℕ) (p : Protocol) (tree : CTree) (n seed : ℕ) (source : Source) (is : IsCompiled file p tree) (may : MayRun p n) (fits : AnswersFit (post seed)) where
  play_small : (turns : List Turn) (w : List (ℕ × Action)) (x : Seen) → IsPlay tree (pos n) (post seed) source turns w x → AreAnsweredSmall w
  play_small turns w x play = run_small (family (program x.state) x.state.n (sequence_of p (pos n))) (post seed) fits (play.run.run (sequence_of p (pos n)))

  each_told : (turns : List Turn) (w : List (ℕ × Action)) (x : Seen) → IsPlay tree (pos n) (post seed) source turns w x → AllByRecursion (IsTold (tables_of p) (total p.roles (pos n))) (L.log_of w)
  each_told turns w x play = are_told file p tree n is may w (world_of x.state) (reaches p tree n (post seed) source turns w x play) (play_small turns w x play)

  module _ (turns : List Turn) (w : List (ℕ × Action)) (x : Seen) (play : IsPlay tree (pos n) (post seed) source turns w x) (begins : Begins p tree n w) (body line text : List ℕ)
      (logged : body ≡ log_of (program_of tree.local) w) (ends : IsEnding (tables_of p) (total p.roles (pos n)) line) (written : text ≡ body ++ line) where
    text_is : text ≡ log_of (program_of tree.local) w ++ line
    text_is = written ∙ ap (λ l. l ++ line) logged

    played_kept : IsKept p n text
    played_kept = kept file p tree n is may w text line (each_told turns w x play) ends text_is begins

  -- where nothing was done
  alone_kept : (line text : List ℕ) → IsEnding (tables_of p) (total p.roles (pos n)) line → text ≡ line → IsKept p n text
  alone_kept line text ends same =
      kept file p tree n is may [] text line tt ends same (0, λ r. (of_rank r ((ranks_of p tree n).run (answers_of []) 0), refl))

  module _ (most : ℕ) (less : most ≤ MOST_EVENTS) where
    reply_kept : (status : Status) (text : List ℕ) → IsRunReply p tree n (post seed) source most Log seed status text → IsKept p n text
    reply_kept S.Done text (runs, (body, ran, written)) =
        played_kept ran.turns ran.w ran.x ran.play ran.is.0 body (codes "ended\n") text ran.is.1.1 (ended_ends (tables_of p) (total p.roles (pos n))) written
    reply_kept S.Turns text (runs, (body, ran, written)) =
        played_kept ran.turns ran.w ran.x ran.play ran.is.0 body (line_of (refusal.Turns most)) text ran.is.1.2 (turns_ends (tables_of p) (total p.roles (pos n)) most less) written
    reply_kept S.Limit text (inl (runs, (body, ran, written))) =
        played_kept ran.turns ran.w ran.x ran.play ran.is.0 body (line_of refusal.WordsInFlight) text ran.is.1.2 (in_flight_ends (tables_of p) (total p.roles (pos n))) written
    reply_kept S.Limit text (inr (within, many, line)) = let few = may.few in absurd (omega (arith, many, few))
    reply_kept S.OutOfRange text (out, line) = absurd (out may.within)
    reply_kept S.NoMemory text (inl line) = alone_kept (line_of refusal.NoMemory) text (no_memory_ends (tables_of p) (total p.roles (pos n))) line
    reply_kept S.NoMemory text (inr (runs, (body, ran, written))) =
        played_kept ran.turns ran.w ran.x ran.play ran.is.0 body (line_of refusal.NoMemory) text ran.is.1 (no_memory_ends (tables_of p) (total p.roles (pos n))) written
    reply_kept other text is = absurd is

module _ (post : ℕ → ℕ → ℕ → ℕ → Type 0) (file : List ℕ) (p : Protocol) (tree : CTree) (n seed most : ℕ) (source : Source) (text : List ℕ) (is : IsCompiled file p tree) (may : MayRun p n) (fits : AnswersFit (post seed)) where
  done_whole : IsRunReply p tree n (post seed) source most Log seed S.Done text → IsRuledAs p n text Whole
  done_whole (runs, (body, ran, written)) =
      whole file p tree n is may ran.w text (codes "ended\n") (each_told post file p tree n seed source is may fits ran.turns ran.w ran.x ran.play) (ended_ends (tables_of p) (total p.roles (pos n)))
      (written ∙ ap (λ l. l ++ codes "ended\n") ran.is.1.1) (world_of ran.x.state) ran.is.1.0 ran.is.0

pub logs_are_ruled : (post : ℕ → ℕ → ℕ → ℕ → Type 0) → LogsAreRuled post
logs_are_ruled post = record {
  kept = λ file p tree n seed most source status text is may fits less reply. reply_kept post file p tree n seed source is may fits most less status text reply;
  whole = λ file p tree n seed most source text is may fits reply. done_whole post file p tree n seed most source text is may fits reply;
}

-- ---- what `judge` answers

differs_no : (rank line : ℕ) → (Differs rank line ≡ Whole) ⊎ (Differs rank line ≡ Covered) → ⊥
differs_no rank line (inl e) = absurd cc
differs_no rank line (inr e) = absurd cc

beyond_no : (rank line : ℕ) → (Beyond rank line ≡ Whole) ⊎ (Beyond rank line ≡ Covered) → ⊥
beyond_no rank line (inl e) = absurd cc
beyond_no rank line (inr e) = absurd cc

module _ (p : Protocol) (n : ℕ) (files : List File) (log line : List ℕ) (keeps : IsKept p n (content_of files log)) where
  not_against : IsJudgeAnswer (λ name. Unit {0}) p n log (Some files) S.NotCovered line → ⊥
  not_against (runs, (short, (rank, number, inl told))) = differs_no rank number (keeps.ruled (Differs rank number) told.0)
  not_against (runs, (short, (rank, number, inr told))) = beyond_no rank number (keeps.ruled (Beyond rank number) told.0)

  not_malformed : IsJudgeAnswer (λ name. Unit {0}) p n log (Some files) S.Log line → ⊥
  not_malformed (runs, (short, (number, bad, told))) = keeps.fine number bad

pub kept_logs_are_not_refused : KeptLogsAreNotRefused
kept_logs_are_not_refused p n files log line status keeps answer = (
  λ e. not_against p n files log line keeps (subst (λ (s : Status). IsJudgeAnswer (λ name. Unit {0}) p n log (Some files) s line) e answer),
  λ e. not_malformed p n files log line keeps (subst (λ (s : Status). IsJudgeAnswer (λ name. Unit {0}) p n log (Some files) s line) e answer),
)
