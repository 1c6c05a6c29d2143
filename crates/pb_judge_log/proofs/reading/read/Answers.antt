use Rattle.std.proofs.Common.{◌≡◌, ◌≤◌, ◌^◌, true, false, sym, ap₂, ◌∙◌, w64, to_z, of_z, arith}
use Rattle.std.proofs.lemmas.Int.{ints}
use Rattle.pb_core_language.specs.Plain.{plain}
use Rattle.pb_core_language.specs.Ranks.{total}
use Rattle.pb_judge_log.specs.Entries.{tables_of}
use Rattle.pb_judge_log.specs.Outcomes.{ends}
use Rattle.pb_judge_log.proofs.Finished.{is_log, is_bad, stops_there}
use Rattle.pb_judge_log.proofs.reading.read.Goals as goal

pub returns-then-is_ending-clause-ok : goal.returns-then-is_ending-clause-ok
returns-then-is_ending-clause-ok c =
    let p = tables_of (plain c.args.core.now) in
    let ranks = total c.args.core.now.roles.items c.args.n in
    let n_is : to_z w64 (of_z w64 c.args.n) ≡ c.args.n = omega (arith, ints) in
    let ranks_are : c.in_ok-tables.tables.total ≡ ranks = c.in_ok-tables.ensures.total ∙ c.total.ensures ∙ ap₂ total c.deref.ensures.value n_is in
    let few : ranks ≤ 2 ^ 32 = omega (arith, c.requires.few) in
    let s = stops_there _ p _ ranks _ _ _ _ c.in_ok-tables.ensures.rows ranks_are c.in_ok-number.ensures in
    let ended : ends c.in_ok-number.rest.now ≡ true = sym c.is_ending.ensures ∙ c.if-is_ending.true in
    is_log p ranks c.requires.labels c.requires.kernels few _ _ _ _ s ended

pub returns-clause-fault : goal.returns-clause-fault
returns-clause-fault c =
    let p = tables_of (plain c.args.core.now) in
    let ranks = total c.args.core.now.roles.items c.args.n in
    let n_is : to_z w64 (of_z w64 c.args.n) ≡ c.args.n = omega (arith, ints) in
    let ranks_are : c.in_ok-tables.tables.total ≡ ranks = c.in_ok-tables.ensures.total ∙ c.total.ensures ∙ ap₂ total c.deref.ensures.value n_is in
    let few : ranks ≤ 2 ^ 32 = omega (arith, c.requires.few) in
    let s = stops_there _ p _ ranks _ _ _ _ c.in_ok-tables.ensures.rows ranks_are c.in_ok-number.ensures in
    let not_ended : ends c.in_ok-number.rest.now ≡ false = sym c.is_ending.ensures ∙ c.if-is_ending.false in
    is_bad p ranks c.requires.labels c.requires.kernels few _ _ _ _ s not_ended
