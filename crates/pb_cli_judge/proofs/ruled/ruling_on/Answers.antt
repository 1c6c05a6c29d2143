use Rattle.std.proofs.Common.{◌≡◌, ℤ, pos, IfOk, rules, subst, ◌∙◌, SFits, w64, to_z, of_z, to_z-of_z}
use Rattle.pb_core_language.specs.Collectives.{setting_of}
use Rattle.pb_core_language.specs.FlatOf.{flat}
use Rattle.pb_core_language.specs.Plain.{plain}
use Rattle.pb_judge_ruling.specs.Ruling.{IsRuling}
use Rattle.pb_cli_judge.proofs.ruled.ruling_on.Goals as goal

pub returns : goal.returns
returns c =
    let fits : SFits w64 c.from.result = search rules in
    let n_is : to_z w64 (of_z w64 c.from.result) ≡ pos c.args.n = to_z-of_z fits ∙ c.from.ensures in
    subst (λ (m : ℤ). IfOk c.judge.result (λ ruling. IsRuling (setting_of (plain c.args.core.now) m) (flat c.args.core.now.roles.items m (plain c.args.core.now).body.block) c.args.log.now ruling)) n_is c.judge.ensures.ruling
