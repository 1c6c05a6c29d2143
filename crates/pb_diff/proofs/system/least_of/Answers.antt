use Rattle.std.proofs.Common.{rules, ◌≡◌, ◌+◌, ◌*◌, pos, Some, None, get_or, length, subst, arith, w64, to_z-of_z, SFits}
use Rattle.pb_diff.specs.Systems.{at, Differences}
use Rattle.pb_diff.specs.Tables.{through}
use Rattle.pb_diff.proofs.Elimination.{near_more, reach_least}
use Rattle.pb_diff.proofs.Tabled.{table_first, table_step_at, answered, lows_found, IsTableOf}
use Rattle.pb_diff.proofs.system.least_of.Goals as goal

pub loop-k-init : goal.loop-k-init
loop-k-init c = table_first c.args.vars c.args.constraints.now

pub loop-k-preserved : goal.loop-k-preserved
loop-k-preserved c =
    let fits : SFits w64 c.smaller.result = search rules in
    let own : SFits w64 (at c.args.constraints.now c.loop-k.k-index).c = search rules in
    let is : Some c.smaller.result ≡ through (get_or c.loop-k.table (6 * c.from.result + c.from-in-loop-k.result) None) (Some (at c.args.constraints.now c.loop-k.k-index).c) (Some (pos 0)) = simp to_z-of_z at c.smaller.ensures in
    simp to_z-of_z (table_step_at c.args.vars c.args.constraints.now c.loop-k.k-index c.loop-k.table c.from.result c.from-in-loop-k.result c.smaller.result c.requires.system.few c.loop-k-test.true c.requires.system.allowed c.from.ensures c.from-in-loop-k.ensures is c.loop-k.invariant)

pub solved-requires-clause-near : goal.solved-requires-clause-near
solved-requires-clause-near c = near_more _ _ _ (reach_least _ c.requires.system.few) c.loop-k.invariant.near

pub solved-requires-clause-lows : goal.solved-requires-clause-lows
solved-requires-clause-lows c =
    let done : c.loop-k.k-index ≡ length c.args.constraints.now = omega arith in
    let d : Differences = record { vars = c.args.vars; list = c.args.constraints.now } in
    lows_found d _ (subst (λ i. IsTableOf c.args.vars c.args.constraints.now i c.loop-k.table) done c.loop-k.invariant) c.requires.bounded

pub returns : goal.returns
returns c =
    let done : c.loop-k.k-index ≡ length c.args.constraints.now = omega arith in
    let d : Differences = record { vars = c.args.vars; list = c.args.constraints.now } in
    let table : IsTableOf c.args.vars c.args.constraints.now (length c.args.constraints.now) c.loop-k.table = subst (λ i. IsTableOf c.args.vars c.args.constraints.now i c.loop-k.table) done c.loop-k.invariant in
    answered d c.loop-k.table c.solved.result table c.solved.ensures
