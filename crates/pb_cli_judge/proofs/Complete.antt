-- Of a log that kept the protocol that is told, or memory is wanting, or the log couldn't be read.
use Rattle.std.proofs.Common.{◌≡◌, ◌⊎◌, ◌<◌, ◌≤◌, inl, inr, ℕ, ◌^◌, pos, List, length, Some, refl, subst, arith}
use Rattle.pb_text.specs.declared.action.Action.{Action}
use Rattle.pb_text.specs.declared.limits.TheConstants.{MOST_TEXT_BYTES}
use Rattle.pb_io.specs.Files.{File, content_of}
use Rattle.pb_core_language.specs.Collectives.{setting_of}
use Rattle.pb_core_language.specs.FlatOf.{flat}
use Rattle.pb_core_language.specs.Plain.{Protocol}
use Rattle.pb_core_language.specs.Ranks.{total}
use Rattle.pb_judge_log.specs.Entries.{IsBadLine, numbered, tables_of}
use Rattle.pb_judge_log.proofs.Finished.{one_log, no_bad}
use Rattle.pb_judge_ruling.specs.Ruling.{IsRuling}
use Rattle.pb_judge_ruling.specs.declared.ruling.Ruling.{Ruling}
use Rattle.pb_judge_ruling.specs.declared.ruling.Ruling.TheVariants.{Whole, Covered, Differs, Beyond}
use Rattle.pb_judge_ruling.proofs.Rulings.{one_ruling}
use Rattle.pb_compile.specs.Verdict.{IsAcceptedAs}
use Rattle.pb_cli_status.specs.declared.status.Status.{Status}
use Rattle.pb_cli_status.specs.declared.status.Status.TheVariants as S
use Rattle.pb_cli_file.specs.Files.{MayRun}
use Rattle.pb_cli_judge.specs.Judge.{IsJudgeAnswer, IsKeptLog, IsRuledAs}
use Rattle.pb_cli_judge.proofs.Told.{kernels, labels}

apart : (rank line : ℕ) (x : Ruling) → x ≡ Whole → x ≡ Differs rank line → ⊥
apart rank line x e f = absurd cc

apart_covered : (rank line : ℕ) (x : Ruling) → x ≡ Covered → x ≡ Differs rank line → ⊥
apart_covered rank line x e f = absurd cc

beyond_whole : (rank line : ℕ) (x : Ruling) → x ≡ Whole → x ≡ Beyond rank line → ⊥
beyond_whole rank line x e f = absurd cc

beyond_covered : (rank line : ℕ) (x : Ruling) → x ≡ Covered → x ≡ Beyond rank line → ⊥
beyond_covered rank line x e f = absurd cc

module _ (file : List ℕ) (p : Protocol) (accepted : IsAcceptedAs file p) (n : ℕ) (runs : MayRun p n) (bytes : List ℕ) where
  few : total p.roles (pos n) ≤ 2 ^ 32
  few = let less : total p.roles (pos n) ≤ 1024 = runs.few in omega (arith, less)

  -- the bytes have one ruling
  pub one_ruled : (x y : Ruling) → IsRuledAs p n bytes x → IsRuledAs p n bytes y → x ≡ y
  one_ruled x y (us, log, is) (vs, other, also) =
      let same : us ≡ vs = one_log (tables_of p) (total p.roles (pos n)) (labels file p accepted) (kernels file p accepted) few bytes us vs log other in
      one_ruling (setting_of p (pos n)) (flat p.roles (pos n) p.body.block) (numbered vs) x y (subst (λ (ws : List Action). IsRuling (setting_of p (pos n)) (flat p.roles (pos n) p.body.block) (numbered ws) x) same is) also

  not_differs : (rank line : ℕ) → IsKeptLog p n bytes → IsRuledAs p n bytes (Differs rank line) → ⊥
  not_differs rank line (inl is) other = apart rank line Whole refl (one_ruled Whole (Differs rank line) is other)
  not_differs rank line (inr is) other = apart_covered rank line Covered refl (one_ruled Covered (Differs rank line) is other)

  not_beyond : (rank line : ℕ) → IsKeptLog p n bytes → IsRuledAs p n bytes (Beyond rank line) → ⊥
  not_beyond rank line (inl is) other = beyond_whole rank line Whole refl (one_ruled Whole (Beyond rank line) is other)
  not_beyond rank line (inr is) other = beyond_covered rank line Covered refl (one_ruled Covered (Beyond rank line) is other)

  ruled_not_bad : (x : Ruling) (line : ℕ) → IsRuledAs p n bytes x → IsBadLine (tables_of p) (total p.roles (pos n)) bytes line → ⊥
  ruled_not_bad x line (us, log, is) bad = no_bad (tables_of p) (total p.roles (pos n)) (labels file p accepted) (kernels file p accepted) few bytes us line log bad

  not_bad : (line : ℕ) → IsKeptLog p n bytes → IsBadLine (tables_of p) (total p.roles (pos n)) bytes line → ⊥
  not_bad line (inl is) bad = ruled_not_bad Whole line is bad
  not_bad line (inr is) bad = ruled_not_bad Covered line is bad

-- no other status belongs to it
module _ (unread : List ℕ → Type 0) (file : List ℕ) (p : Protocol) (accepted : IsAcceptedAs file p) (n : ℕ) (runs : MayRun p n) (log : List ℕ) (files : List File) (short : length (content_of files log) ≤ MOST_TEXT_BYTES)
    (is_kept : IsKeptLog p n (content_of files log)) where
  many_not : 1024 < total p.roles (pos n) → ⊥
  many_not many = let less : total p.roles (pos n) ≤ 1024 = runs.few in absurd (omega (arith, less, many))

  long_not : MOST_TEXT_BYTES < length (content_of files log) → ⊥
  long_not long = absurd (omega (arith, short, long))

  pub judge_comes : (status : Status) (text : List ℕ) → IsJudgeAnswer unread p n log (Some files) status text → (status ≡ S.Done) ⊎ ((status ≡ S.NoMemory) ⊎ (status ≡ S.ReadFault))
  judge_comes S.Done text is = inl refl
  judge_comes S.NoMemory text is = inr (inl refl)
  judge_comes S.ReadFault text is = inr (inr refl)
  judge_comes S.NotCovered text (r, (less, (rank, line, inl (against, told)))) = absurd (not_differs file p accepted n runs (content_of files log) rank line is_kept against)
  judge_comes S.NotCovered text (r, (less, (rank, line, inr (against, told)))) = absurd (not_beyond file p accepted n runs (content_of files log) rank line is_kept against)
  judge_comes S.Log text (r, (less, (line, bad, told))) = absurd (not_bad file p accepted n runs (content_of files log) line is_kept bad)
  judge_comes S.Limit text (inl (within, many, told)) = absurd (many_not many)
  judge_comes S.Limit text (inr (r, long, told)) = absurd (long_not long)
  judge_comes S.OutOfRange text (out, told) = absurd (out runs.within)
  judge_comes other text is = absurd is
