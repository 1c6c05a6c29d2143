use Rattle.std.proofs.Common.{◌≡◌, ◌≤◌, true, false, []}
use Rattle.pb_renew_put.specs.Jobs.{Task}
use Rattle.pb_renew_put.specs.Phases.{Leads, Own, is_own, unkept, untouched}
use Rattle.pb_renew_put.specs.Steps.{AllTaken, under}
use Rattle.pb_renew_put.proofs.old.copy_old.Given as goal

abbrev pub invariant-loop-number : goal.invariant-loop-number
invariant-loop-number g l = record {
  goes : (t : Task) (fresh spare : Own) → t.out ≡ l.out → t.keeps_old ≡ true → is_own fresh ≡ true
      → Leads t (under fresh spare unkept [] true true false untouched) (g.S.Store.deeds l.initial.store) (g.S.Store.deeds l.store) (g.S.Store.holds l.initial.store) (g.S.Store.holds l.store) (AllTaken t fresh spare l.number);
  later : g.S.Store.faults l.initial.store ≤ g.S.Store.faults l.store;
}
