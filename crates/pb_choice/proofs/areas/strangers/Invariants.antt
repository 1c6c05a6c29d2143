use Rattle.std.proofs.Common.{◌≡◌, ℕ, ℤ, ◌||◌, drop}
use Rattle.std.specs.List.{list_any}
use Rattle.pb_part_areas.specs.Areas.{have}
use Rattle.pb_choice_entries.specs.Clashes.{is_strange}
use Rattle.pb_choice.proofs.areas.strangers.Given as goal

abbrev pub invariant-loop-entry : goal.invariant-loop-entry
invariant-loop-entry l = (n : ℤ) (role : ℕ) (x : ℤ) →
    have l.out.items n role x || list_any (λ e. is_strange e n role x) (drop l.entry-index l.here)
    ≡ have l.initial.out.items n role x || list_any (λ e. is_strange e n role x) l.here
