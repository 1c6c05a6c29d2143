use Rattle.std.proofs.Common.{◌≡◌, ℕ, ℤ, drop}
use Rattle.pb_part_takers.proofs.HeldLoops.{holds_id}
use Rattle.pb_part_takers.proofs.held.add_held.Given as goal

abbrev pub invariant-loop-h : goal.invariant-loop-h
invariant-loop-h l = record {
  same : l.out.items ≡ l.initial.out.items;
  holds : (n : ℤ) (role : ℕ) (x : ℤ) → holds_id l.id (drop l.h-index l.held) n role x ≡ holds_id l.id l.held n role x;
}
