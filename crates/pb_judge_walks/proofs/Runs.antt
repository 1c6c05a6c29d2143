-- The logs of runs are covered.
use Rattle.std.proofs.Common.{◌≡◌, ℕ, ◌⊎◌, inl, inr, List, refl, sym, ap, subst, ◌∙◌}
use Rattle.pb_text.specs.declared.action.Action.{Action}
use Rattle.pb_world.specs.Actions as W
use Rattle.pb_world.specs.Actions.{AnswerTable, answers_of, Covers}
use Rattle.pb_world.specs.Log.{log_of, LogCovers, log_answers}
use Rattle.pb_world.proofs.Recorded.{log_laws}
use Rattle.pb_core_language.specs.Flat.{Block}
use Rattle.pb_core_language.specs.Run.{Setting, seq}
use Rattle.pb_judge_ruling.specs.Laws.{IsCovered, HasRanks}
use Rattle.pb_judge_ruling.specs.Ruling.{actions_of, IsRuling}
use Rattle.pb_judge_ruling.specs.declared.ruling.Ruling.{Ruling}
use Rattle.pb_judge_ruling.specs.declared.ruling.Ruling.TheVariants.{Whole, Covered, Differs, Beyond}
use Rattle.pb_judge_ruling.proofs.Rulings.{ruling_means}
use Rattle.pb_judge_walks.specs.Laws.{RunsAreRuled}

module _ (s : Setting) (protocol : Block) (w : List (ℕ × W.Action)) (log : List (ℕ × Action)) (total m : ℕ) (is : actions_of log ≡ log_of w) (ranks : HasRanks total log) (covers : Covers (seq s protocol (answers_of w) m) w) where
  same_answers : answers_of w ≡ log_answers (actions_of log)
  same_answers = λ i. λ r. (sym (log_laws.answers w r) ∙ ap (λ l. log_answers l r) (sym is)) i

  covered : IsCovered s protocol log
  covered = (
    m,
    subst (λ l. LogCovers (log_of (seq s protocol (log_answers (actions_of log)) m)) l) (sym is)
        (subst (λ (A : AnswerTable). LogCovers (log_of (seq s protocol A m)) (log_of w)) same_answers (log_laws.covers (seq s protocol (answers_of w) m) w covers)),
  )

  ruled : (x : Ruling) → IsRuling s protocol log x → (x ≡ Whole) ⊎ (x ≡ Covered)
  ruled Whole h = inl refl
  ruled Covered h = inr refl
  ruled (Differs r line) h = absurd ((ruling_means s protocol log total (Differs r line) ranks h).0 covered)
  ruled (Beyond r line) h = absurd ((ruling_means s protocol log total (Beyond r line) ranks h).0 covered)

pub runs_are_ruled : RunsAreRuled
runs_are_ruled s protocol w log total m is ranks cov = (covered s protocol w log total m is ranks cov, λ x h. ruled s protocol w log total m is ranks cov x h)
