use Rattle.std.proofs.Common.{◌≡◌, ◌≤◌, ℕ, ℤ, Bool, ◌&&◌, nat_lt, true, List, length}
use Rattle.std.specs.List.{All}
use Rattle.pb_affine.specs.declared.lin.Lin.{Lin}
use Rattle.pb_affine.specs.Values.{hold}
use Rattle.pb_cases.specs.Breakpoints.{IsCut}
use Rattle.pb_core_language.specs.Verdict.{IsIn}
use Rattle.pb_part_firsts.specs.Fitting.{EntriesFit}
use Rattle.pb_core_flat.specs.Seated.{is_rank}
use Rattle.pb_local.specs.Tree.{Program}
use Rattle.pb_local.specs.WellMade.{IsRange, IsTest}
use Rattle.pb_project_piece.specs.Standing.{Stands}
use Rattle.pb_shape.specs.Places.{Scope}
use Rattle.pb_shape.specs.Choices.{guards_of}
use Rattle.pb_project_choice.specs.Found.{entries_at, tells, AreKnown}
use Rattle.pb_project_choice.specs.Tested.{HaveHolders, TellSuch, AscendTo}
use Rattle.pb_project_choice.proofs.testing.tests_of.Given as goal

abbrev pub invariant-loop-branch : goal.invariant-loop-branch
invariant-loop-branch l = record {
  number : length l.branches ≤ 64 → l.number ≡ l.branch-index;
  holds : (sc : Scope) (cuts : List Lin) → Stands l.setting.range l.setting.roles l.setting.whole.now sc → IsRange l.setting.range → length l.branches ≤ 64 → All IsCut cuts → ((k : ℕ) → EntriesFit l.setting.range cuts (entries_at k l.branches)) →
      (j m : ℕ) (n i : ℤ) (role : ℕ) (x : ℤ) → IsIn l.setting.range n → is_rank sc.roles n role x ≡ true →
      hold (guards_of j m l.tests.items) n i role x ≡ nat_lt j l.branch-index && tells m (entries_at j l.branches) n role x;
  each : (p : Program) (sc : Scope) (cuts : List Lin) → Stands l.setting.range l.setting.roles l.setting.whole.now sc → IsRange l.setting.range → length l.branches ≤ 64 → All IsCut cuts → ((k : ℕ) → EntriesFit l.setting.range cuts (entries_at k l.branches)) →
      ((k : ℕ) → AreKnown sc (entries_at k l.branches) (length p.labels)) → length p.roles ≡ l.setting.roles → All (IsTest p (length l.branches)) l.tests.items;
  held : (such : ℤ → ℕ → ℤ → Bool) (sc : Scope) (cuts : List Lin) → Stands l.setting.range l.setting.roles l.setting.whole.now sc → IsRange l.setting.range → length l.branches ≤ 64 → All IsCut cuts → ((k : ℕ) → EntriesFit l.setting.range cuts (entries_at k l.branches)) →
      ((k : ℕ) → TellSuch l.setting.range sc.roles such (entries_at k l.branches)) → HaveHolders l.setting.range sc.roles such l.tests.items;
  ascend : length l.branches ≤ 64 → AscendTo l.branch-index 0 l.tests.items;
}
