-- The log of a run is kept, and that of one that has ended is whole.
use Rattle.std.proofs.Common.{◌≡◌, ◌⊎◌, inl, inr, ℕ, suc, ◌<◌, ◌≤◌, ◌^◌, pos, true, List, [], ◌∷◌, ◌++◌, map, refl, sym, ap, ap₂, subst, ◌∙◌, arith}
use Rattle.std.specs.List.{AllByRecursion, flat_map}
use Rattle.pb_text.specs.declared.action.Action as T
use Rattle.pb_text.specs.declared.action.Action.TheVariants as E
use Rattle.pb_text.specs.declared.action.Joint.TheVariants as J
use Rattle.pb_syntax.specs.declared.core_label.CoreKernel.{CoreKernel}
use Rattle.pb_syntax.specs.declared.core_label.CoreLabel.{CoreLabel}
use Rattle.pb_world.specs.Actions.{Action, Choose, Run, Send, Recv, Enter, Leave, Collective, Barrier, Broadcast, Reduce, Allreduce, AnswerTable, answers_of, of_rank}
use Rattle.pb_world.specs.Counted.{Counted}
use Rattle.pb_world.specs.Log as L
use Rattle.pb_world.specs.Theorem.{IsWhole}
use Rattle.pb_world.specs.World.{World, Reached}
use Rattle.pb_world.proofs.Recorded.{log_laws}
use Rattle.pb_core_language.specs.Collectives.{setting_of}
use Rattle.pb_core_language.specs.Flat.{Block}
use Rattle.pb_core_language.specs.FlatOf.{flat}
use Rattle.pb_core_language.specs.Plain.{Protocol}
use Rattle.pb_core_language.specs.Ranks.{total}
use Rattle.pb_core_language.specs.Run.{Setting, seq, is_over}
use Rattle.pb_local.specs.Machine as M
use Rattle.pb_local.specs.Tree.{Program, program_of}
use Rattle.pb_ctree.specs.declared.tree.CTree.{CTree}
use Rattle.pb_shape.specs.Theorem.{DoesRun, sequence_of}
use Rattle.pb_shape_follow.proofs.Starts.{total_same}
use Rattle.pb_compile.specs.Compiled.{IsCompiled}
use Rattle.pb_sched.specs.Logged.{log_line}
use Rattle.pb_sim_collectives.specs.Calls.{joint_of}
use Rattle.pb_sim_play.specs.Plays.{told, log_of}
use Rattle.pb_judge_log.specs.Entries.{IsEnding, IsLog, IsTold, numbered, numbered_from, rows_of, tables_of}
use Rattle.pb_judge_log.proofs.Finished.{no_bad, one_log}
use Rattle.pb_judge_ruling.specs.Laws.{HasRanks}
use Rattle.pb_judge_ruling.specs.Ruling.{actions_of, IsRuling}
use Rattle.pb_judge_ruling.specs.Ruling as R
use Rattle.pb_judge_ruling.specs.declared.ruling.Ruling.TheVariants.{Whole}
use Rattle.pb_judge_told.specs.Told.{AreAnsweredSmall}
use Rattle.pb_judge_told.proofs.Runs.{runs_are_told}
use Rattle.pb_judge_walks.proofs.Runs.{runs_are_ruled}
use Rattle.pb_judge.proofs.ReadRanks.{read_logs_have_ranks}
use Rattle.pb_cli_file.specs.Files.{MayRun}
use Rattle.pb_cli_run.specs.Run.{Begins, ranks_of}
use Rattle.pb_cli_judge.specs.Judge.{IsRuledAs}
use Rattle.pb_cli_judge.proofs.Told.{kernels, labels}
use Rattle.pb_cli_judge_laws.specs.Laws.{IsKept}
use Rattle.pb_cli_judge_laws.proofs.Past.{run_past, begins_nothing}

-- ---- the lines of a log

joint_same : (j : Collective) → joint_of j ≡ L.known_by j
joint_same Barrier = refl
joint_same (Broadcast label root) = refl
joint_same (Reduce label operation root) = refl
joint_same (Allreduce label operation) = refl

told_same : (r : ℕ) (a : Action) → told r a ≡ L.recorded r a
told_same r (Choose kernel branches branch) = refl
told_same r (Run kernel) = refl
told_same r (Send to label words) = refl
told_same r (Recv from label words) = refl
told_same r (Enter j words) = ap (λ what. E.Enter r what words) (joint_same j)
told_same r (Leave j words) = ap (λ what. E.Leave r what words) (joint_same j)

-- a line speaks of labels and kernels alone
row_line : (q : Program) (a : T.Action) → log_line q a ≡ log_line (rows_of q.labels q.kernels) a
row_line q (E.Choose rank kernel answer) = refl
row_line q (E.Run rank kernel) = refl
row_line q (E.Send rank to label words) = refl
row_line q (E.Recv rank from label words) = refl
row_line q (E.Enter rank J.Barrier words) = refl
row_line q (E.Enter rank (J.Labelled label) words) = refl
row_line q (E.Leave rank J.Barrier words) = refl
row_line q (E.Leave rank (J.Labelled label) words) = refl

actions_numbered : (k : ℕ) (us : List T.Action) → actions_of (numbered_from k us) ≡ us
actions_numbered k [] = refl
actions_numbered k (a ∷ us) = ap (λ xs. a ∷ xs) (actions_numbered (suc k) us)

below_or_not : (r total : ℕ) → (r < total) ⊎ (total ≤ r)
below_or_not r total = grind arith

module _ (file : List ℕ) (p : Protocol) (tree : CTree) (n : ℕ) (is : IsCompiled file p tree) (may : MayRun p n) where
  abbrev many : ℕ
  many = total p.roles (pos n)

  abbrev s : Setting
  s = setting_of p (pos n)

  abbrev b : Block
  b = flat p.roles (pos n) p.body.block

  rows_same : rows_of (program_of tree.local).labels (program_of tree.local).kernels ≡ tables_of p
  rows_same = ap₂ (λ (ls : List CoreLabel) (ks : List CoreKernel). rows_of ls ks) is.projected.shape.labels is.projected.shape.kernels

  line_same : (r : ℕ) (a : Action) → log_line (program_of tree.local) (told r a) ≡ log_line (tables_of p) (L.recorded r a)
  line_same r a =
      ap (λ e. log_line (program_of tree.local) e) (told_same r a) ∙ row_line (program_of tree.local) (L.recorded r a) ∙ ap (λ q. log_line q (L.recorded r a)) rows_same

  lines_same : (w : List (ℕ × Action)) → log_of (program_of tree.local) w ≡ flat_map (log_line (tables_of p)) (L.log_of w)
  lines_same [] = refl
  lines_same (step ∷ w) = ap₂ (λ x y. x ++ y) (line_same step.0 step.1) (lines_same w)

  few : many ≤ 2 ^ 32
  few = let less : many ≤ 1024 = may.few in omega (arith, less)

  does : DoesRun p (program_of tree.local) (pos n)
  does = is.does (pos n) may.within (let less = may.few in omega (arith, less))

  totals : many ≡ (ranks_of p tree n).total
  totals = total_same p (program_of tree.local) (pos n) is.projected.shape

  -- the actions of a run are ones that lines may tell
  pub are_told : (w : List (ℕ × Action)) (W : World (Counted M.Rank)) → Reached (ranks_of p tree n) w W → AreAnsweredSmall w → AllByRecursion (IsTold (tables_of p) many) (L.log_of w)
  are_told w W reached small =
      let told = runs_are_told (program_of tree.local) (pos n) (sequence_of p (pos n)) w W is.projected.made.made reached small in
      subst (λ (t : ℕ). AllByRecursion (IsTold (tables_of p) t) (L.log_of w)) (sym totals) (subst (λ (q : Program). AllByRecursion (IsTold q (ranks_of p tree n).total) (L.log_of w)) rows_same told)

  module _ (w : List (ℕ × Action)) (text line : List ℕ) (each : AllByRecursion (IsTold (tables_of p) many) (L.log_of w)) (ends : IsEnding (tables_of p) many line) (written : text ≡ log_of (program_of tree.local) w ++ line) where
    log_is : IsLog (tables_of p) many text (L.log_of w)
    log_is = (line, record { is = written ∙ ap (λ l. l ++ line) (lines_same w); each = each }, ends)

    ranks_are : HasRanks many (numbered (L.log_of w))
    ranks_are = read_logs_have_ranks (tables_of p) many text (L.log_of w) log_is

    one : (us : List T.Action) → IsLog (tables_of p) many text us → us ≡ L.log_of w
    one us log = one_log (tables_of p) many (labels file p is.accepted) (kernels file p is.accepted) few text us (L.log_of w) log log_is

    pub kept : Begins p tree n w → IsKept p n text
    kept begins =
        let r = runs_are_ruled s b w (numbered (L.log_of w)) many begins.0 (actions_numbered 0 (L.log_of w)) ranks_are begins.1 in
        record {
          actions = L.log_of w;
          log = log_is;
          fine = λ line bad. no_bad (tables_of p) many (labels file p is.accepted) (kernels file p is.accepted) few text (L.log_of w) line log_is bad;
          covered = r.0;
          ruled = λ x ruled. r.1 x (subst (λ (us : List T.Action). IsRuling s b (numbered us) x) (one ruled.0 ruled.1) ruled.2);
        }

    -- ---- a run that has ended

    log_shows : L.log_answers (L.log_of w) ≡ answers_of w
    log_shows = λ i. λ r. log_laws.answers w r i

    same_answers : L.log_answers (actions_of (numbered (L.log_of w))) ≡ answers_of w
    same_answers = ap (λ (us : List T.Action). L.log_answers us) (actions_numbered 0 (L.log_of w)) ∙ log_shows

    run_is : (m : ℕ) → R.run s b (numbered (L.log_of w)) m ≡ L.log_of (seq s b (answers_of w) m)
    run_is m = ap (λ (A : AnswerTable). L.log_of (seq s b A m)) same_answers

    module _ (W : World (Counted M.Rank)) (ended : IsWhole (ranks_of p tree n) w W) (begins : Begins p tree n w) where
      done_same : (r : ℕ) → of_rank r w ≡ of_rank r (seq s b (answers_of w) ended.steps)
      done_same r = elim (below_or_not r (ranks_of p tree n).total) [
        | inl lt ↦ sym (ended.all ended.steps r (omega arith) lt)
        | inr le ↦
            let past = λ (m : ℕ). run_past (ranks_of p tree n) does.0.sequential (answers_of w) m r le in
            begins_nothing (of_rank r w) (of_rank r ((ranks_of p tree n).run (answers_of w) begins.0)) (begins.1 r) (past begins.0) ∙ sym (past ended.steps)
      ]

      logged_same : (r : ℕ) → L.log_of_rank r (actions_of (numbered (L.log_of w))) ≡ L.log_of_rank r (R.run s b (numbered (L.log_of w)) ended.steps)
      logged_same r =
          ap (L.log_of_rank r) (actions_numbered 0 (L.log_of w)) ∙ log_laws.rank w r ∙ ap (map (L.recorded r)) (done_same r) ∙ sym (log_laws.rank (seq s b (answers_of w) ended.steps) r)
          ∙ ap (L.log_of_rank r) (sym (run_is ended.steps))

      pub whole : IsRuledAs p n text Whole
      whole = (L.log_of w, log_is, (ended.steps, subst (λ (A : AnswerTable). is_over s b A ended.steps ≡ true) (sym same_answers) ended.over, logged_same))
