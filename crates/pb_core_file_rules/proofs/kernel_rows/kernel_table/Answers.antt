use Rattle.std.proofs.Common.{◌+◌, drop, sym, ap}
use Rattle.pb_core_language.specs.Meaning.{has_kernel, kernels_after}
use Rattle.pb_core_file_rules.proofs.Growing.{fewer, still_few}
use Rattle.pb_core_file_rules.proofs.Loops.{goes_on, ends}
use Rattle.pb_core_file_rules.proofs.kernel_rows.kernel_table.Goals as goal

pub add-requires-clause-few : goal.add-requires-clause-few
add-requires-clause-few c = fewer _ _ _ _ c.loop-one.invariant.few c.loop-one-test.true c.requires

pub loop-one-preserved : goal.loop-one-preserved
loop-one-preserved c =
    let rows = c.loop-one.table.rows.items in
    let new = c.add.new.self.rows.items in
    let i = c.loop-one.one-index in
    let k = c.one-item.result in
    let grown = c.in_ok-add.ensures.rows in
    record {
      names = c.in_ok-add.ensures.names;
      few = still_few (has_kernel k.name rows) rows new k i grown c.loop-one.invariant.few;
      rows = goes_on kernels_after c.args.list.now i k rows new _ c.loop-one-test.true c.one-item.is (ap (λ rs. kernels_after rs (drop (i + 1) c.args.list.now)) (sym grown)) c.loop-one.invariant.rows;
    }

pub returns-clause-rows : goal.returns-clause-rows
returns-clause-rows c = ends kernels_after c.args.list.now c.loop-one.one-index c.loop-one.table.rows.items _ c.loop-one-test.false c.loop-one.invariant.rows
