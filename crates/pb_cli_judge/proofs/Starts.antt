-- Whether a protocol can be run at an N.
use Rattle.std.proofs.Common.{◌≡◌, ◌<◌, ◌≤◌, ℕ, pos, true, false, nat_le, refl, arith}
use Rattle.std.proofs.lemmas.Bool.{leb-true}
use Rattle.std.proofs.lemmas.Bool.Decides.{nat_tests}
use Rattle.pb_core_language.specs.Plain.{Protocol}
use Rattle.pb_core_language.specs.Ranks.{total}
use Rattle.pb_core_language.specs.Verdict.{IsIn}
use Rattle.pb_cli_status.specs.declared.refusal.Refusal.TheVariants as refusal
use Rattle.pb_cli_file.specs.Files.{MayRun}
use Rattle.pb_cli_judge.specs.Judge.{IsNoStart}

few_by : (t : ℕ) → nat_le t 1024 ≡ true → t ≤ 1024
few_by t e = leb-true t 1024 e

many_by : (t : ℕ) → nat_le t 1024 ≡ false → 1024 < t
many_by t e = grind (arith, nat_tests, e)

module _ (p : Protocol) (n : ℕ) where
  pub may_run : IsIn p.range (pos n) → nat_le (total p.roles (pos n)) 1024 ≡ true → MayRun p n
  may_run within few = record { within = within; few = few_by (total p.roles (pos n)) few }

  pub outside : (IsIn p.range (pos n) → ⊥) → IsNoStart p n (refusal.OutOfRange n p.range)
  outside out = (out, (refl, refl))

  pub many : IsIn p.range (pos n) → nat_le (total p.roles (pos n)) 1024 ≡ false → IsNoStart p n refusal.Ranks
  many within e = (within, many_by (total p.roles (pos n)) e)
