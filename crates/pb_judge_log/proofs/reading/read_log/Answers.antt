use Rattle.std.proofs.Common.{◌≡◌, ◌≤◌, ◌^◌, List, subst, sym, w64, to_z, of_z, arith}
use Rattle.std.proofs.lemmas.Int.{ints}
use Rattle.pb_text.specs.declared.action.Action.{Action}
use Rattle.pb_core_language.specs.Plain.{plain}
use Rattle.pb_core_language.specs.Ranks.{total}
use Rattle.pb_judge_log.specs.Entries.{tables_of, IsLog, numbered}
use Rattle.pb_judge_log.specs.Outcomes.{IsReadAs}
use Rattle.pb_judge_log.proofs.Finished.{read_as}
use Rattle.pb_judge_log.proofs.reading.read_log.Goals as goal

pub returns-clause-read : goal.returns-clause-read
returns-clause-read c =
    let p = tables_of (plain c.args.core.now) in
    let roles = c.args.core.now.roles.items in
    let n_is : to_z w64 (of_z w64 c.args.n) ≡ c.args.n = omega (arith, ints) in
    let few : total roles c.args.n ≤ 2 ^ 32 = omega (arith, c.requires.few) in
    subst (λ n. (us : List Action) → IsLog p (total roles n) c.args.bytes.now us → IsReadAs (numbered us) c.read.result) n_is
    (read_as p (total roles (to_z w64 (of_z w64 c.args.n))) c.requires.labels c.requires.kernels (subst (λ n. total roles n ≤ 2 ^ 32) (sym n_is) few) c.args.bytes.now c.read.result c.read.ensures.ok c.read.ensures.fault)
