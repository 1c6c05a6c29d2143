use Rattle.std.proofs.Common.{◌≤◌}
use Rattle.pb_renew_store.specs.Deeds.{DidNothing}
use Rattle.pabble_renew.proofs.naming.old_name.Given as goal

abbrev pub invariant-loop-number : goal.invariant-loop-number
invariant-loop-number g l =
    DidNothing (g.S.Store.deeds l.fn.store) (g.S.Store.deeds l.store) (g.S.Store.holds l.fn.store) (g.S.Store.holds l.store) × (g.S.Store.faults l.fn.store ≤ g.S.Store.faults l.store)
