use Rattle.std.proofs.Common.{◌≡◌, ◌≤◌, ◌-◌, [], false, length, take}
use Rattle.pb_renew_put.specs.Jobs.{Task}
use Rattle.pb_renew_put.specs.Phases.{Leads, Own, has, Phase}
use Rattle.pb_renew_put.specs.Steps.{Sets}
use Rattle.pb_renew_put.proofs.whole.append_all.Given as goal

abbrev pub invariant-loop-done : goal.invariant-loop-done
invariant-loop-done g l = record {
  within : l.done ≤ length l.bytes;
  goes : (t : Task) (set : Own → Phase) → Sets t (g.S.Store.written l.initial.store) set
      → Leads t (set (has [] false)) (g.S.Store.deeds l.initial.store) (g.S.Store.deeds l.store) (g.S.Store.holds l.initial.store) (g.S.Store.holds l.store) (λ p. p ≡ set (has (take l.done l.bytes) false));
  same : g.S.Store.written l.store ≡ g.S.Store.written l.initial.store;
  later : g.S.Store.faults l.initial.store ≤ g.S.Store.faults l.store;
}

abbrev pub decreases-loop-done : goal.decreases-loop-done
decreases-loop-done g l = length l.initial.bytes - l.done
