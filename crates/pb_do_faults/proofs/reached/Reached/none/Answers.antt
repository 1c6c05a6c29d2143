use Rattle.std.proofs.Common.{ℕ, List, sym, subst}
use Rattle.pb_do_faults.specs.Search.{IsSeen}
use Rattle.pb_do_faults.proofs.Searches.{nothing_seen}
use Rattle.pb_do_faults.proofs.reached.Reached.none.Goals as goal

pub invariant_of-result : goal.invariant_of-result
invariant_of-result c = record {
  kept = subst (λ (l : List ℕ). IsSeen c.in_ok-vec.field-0.items l) (sym c.new.ensures.items)
      (nothing_seen c.in_ok-vec.field-0.items c.args.count (c.in_ok-vec.ensures.items_if_clones_equal (λ y h. h)));
}
