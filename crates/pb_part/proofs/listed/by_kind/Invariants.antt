use Rattle.std.proofs.Common.{◌≡◌, ℕ, ℤ, ◌||◌, vec_len}
use Rattle.pb_cases.specs.Breakpoints.{Division, IsInRange}
use Rattle.pb_core_language.specs.Cuts.{cuts}
use Rattle.pb_core_language.specs.Outcomes.{Outcome}
use Rattle.pb_core_language.specs.Plain.{plain}
use Rattle.pb_part_firsts.specs.Firsts.{finds}
use Rattle.pb_part_firsts.specs.Fitting.{EntriesFit}
use Rattle.pb_part.specs.FirstLists.{answers, AreAligned}
use Rattle.pb_part.proofs.listed.by_kind.Given as goal

abbrev pub invariant-kinds : goal.invariant-kinds
invariant-kinds l = record {
  is : (n : ℤ) (role : ℕ) (x : ℤ) (o : Outcome) → IsInRange l.core.range n →
      answers l.core.roles.items l.list.items n role x o || finds l.core.roles.items l.left.items n role x o ≡ finds l.core.roles.items l.initial.left.items n role x o;
  fits : EntriesFit l.core.range (cuts (plain l.core)) l.left.items;
  aligned : (d : Division) → d.range ≡ l.core.range → d.cuts ≡ cuts (plain l.core) → AreAligned d l.list.items;
}

abbrev pub decreases-kinds : goal.decreases-kinds
decreases-kinds l = vec_len l.left
