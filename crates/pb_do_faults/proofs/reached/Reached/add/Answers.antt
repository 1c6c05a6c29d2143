use Rattle.std.proofs.Common.{◌≡◌, true, false, ℕ, List, set, sym, subst, arith}
use Rattle.pb_do_faults.specs.Search.{IsSeen}
use Rattle.pb_do_faults.proofs.Searches.{one_more_seen, read_false}
use Rattle.pb_do_faults.proofs.reached.Reached.add.Goals as goal

pub invariant_of-self-then-not-index : goal.invariant_of-self-then-not-index
invariant_of-self-then-not-index c =
    let seen = c.args.self.now.seen.items in
    let off : c.index.result.now ≡ false = grind arith in
    record {
      kept = subst (λ (l : List ℕ). IsSeen (set seen c.args.i true) l) (sym c.in_ok-push.ensures.items)
          (one_more_seen seen c.args.self.now.order.items c.args.i c.args.self.now.kept (omega (arith, c.if-i-len.true, c.len.ensures)) (read_false seen c.args.i c.index.result.now c.index.ensures off));
    }
