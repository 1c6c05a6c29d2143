use Rattle.std.proofs.Common.{◌≡◌, ◌≤◌, ◌<◌, ◌+◌, ℕ, length, refl, sym, ap, ◌∙◌, subst, arith}
use Rattle.std.specs.List.{All}
use Rattle.std.proofs.lemmas.List.Elements.{All-nil}
use Rattle.pb_part_firsts.specs.Fitting.{EntriesFit}
use Rattle.pb_core_language.specs.Verdict.{IsIn}
use Rattle.pb_local.specs.WellMade.{IsTest}
use Rattle.pb_project_choice.specs.Found.{entries_at, AreKnown}
use Rattle.pb_project_choice.specs.Tested.{HasHolder, HaveHolders, TellSuch, AscendTo}
use Rattle.pb_project_choice.proofs.Telling.{entries_here, holds_more, holds_all, holds_none, fit_in, told_is, labels_known, tell_such, ascend_none}
use Rattle.pb_project_choice.proofs.testing.tests_of.Goals as goal

pub loop-branch-init : goal.loop-branch-init
loop-branch-init c = record {
  number = λ few. refl;
  holds = λ sc cuts st r few h f j m n i role x within is. holds_none c.args.branches.now c.new-tests.result.items j m n i role x c.new-tests.ensures.items;
  each = λ p sc cuts st r few h f known same. subst (All (IsTest p (length c.args.branches.now))) (sym c.new-tests.ensures.items) (All-nil (IsTest p (length c.args.branches.now)));
  held = λ such sc cuts st r few h f tell. subst (HaveHolders c.args.setting.now.range sc.roles such) (sym c.new-tests.ensures.items) (All-nil (λ t. HasHolder c.args.setting.now.range sc.roles such t.guards));
  ascend = λ few. ascend_none 0 0 c.new-tests.result.items c.new-tests.ensures.items;
}

few_more : (a b c d : ℕ) → a ≡ b → b < c → c ≤ 64 → (a ≤ 64 → d ≡ a + 1) → d ≡ b + 1
few_more a b c d e lt le h = h (omega (arith, e, lt, le)) ∙ ap (λ z. z + 1) e

pub loop-branch-preserved : goal.loop-branch-preserved
loop-branch-preserved c =
    let found = c.args.branches.now in
    let i = c.loop-branch.branch-index in
    let number : length found ≤ 64 → c.loop-branch.number ≡ i = c.loop-branch.invariant.number in
    let here : c.deref.result.now ≡ entries_at i found = c.deref.ensures.value ∙ ap (λ b. b.entries.items) c.branch-item.is ∙ entries_here found i c.branch-item.result c.loop-branch-test.true in
    record {
      number = λ few. few_more c.loop-branch.number i (length found) c.next-number.result (number few) c.loop-branch-test.true few c.next-number.ensures;
      holds = λ sc cuts st r few h f j m n v role x within is.
          holds_more found i c.loop-branch.number c.deref.result.now _ _ j m n role x (number few) here (c.loop-branch.invariant.holds sc cuts st r few h f j m n v role x within is)
          (c.in_ok-put_tests.ensures.is.holds sc cuts st r h (subst (EntriesFit c.args.setting.now.range cuts) (sym here) (f i)) j m n v role x within is);
      each = λ p sc cuts st r few h f known same.
          c.in_ok-put_tests.ensures.is.each p (length found) sc cuts st r h (subst (EntriesFit c.args.setting.now.range cuts) (sym here) (f i)) (subst (λ es. AreKnown sc es (length p.labels)) (sym here) (known i)) same
          (subst (λ z. z < length found) (sym (number few)) c.loop-branch-test.true) (c.loop-branch.invariant.each p sc cuts st r few h f known same);
      held = λ such sc cuts st r few h f tell.
          c.in_ok-put_tests.ensures.is.held such sc cuts st r h (subst (EntriesFit c.args.setting.now.range cuts) (sym here) (f i)) (subst (TellSuch c.args.setting.now.range sc.roles such) (sym here) (tell i))
          (c.loop-branch.invariant.held such sc cuts st r few h f tell);
      ascend = λ few. subst (λ z. AscendTo (z + 1) 0 c.put_tests.new.tests.items) (number few)
          (c.in_ok-put_tests.ensures.ascend (subst (λ z. AscendTo z 0 c.loop-branch.tests.items) (sym (number few)) (c.loop-branch.invariant.ascend few)));
    }

pub returns-clause-is : goal.returns-clause-is
returns-clause-is c = λ sc h a bs st opened r few it k l n i role x within is at.
    let found = c.args.branches.now in
    holds_all found c.loop-branch.branch-index _ k l n role x c.loop-branch-test.false
    (c.loop-branch.invariant.holds sc it.cuts st r few it.are_cuts (fit_in c.args.setting.now.range sc a bs found st.range_is it) k l n i role x (subst (λ z. IsIn z n) st.range_is within) is)
    ∙ told_is sc a bs found it k l n i role x within is

pub returns-clause-each : goal.returns-clause-each
returns-clause-each c = λ p sc a bs rows st r few it sound labels same.
    let found = c.args.branches.now in
    c.loop-branch.invariant.each p sc it.cuts st r few it.are_cuts (fit_in c.args.setting.now.range sc a bs found st.range_is it)
    (λ k. subst (AreKnown sc (entries_at k found)) labels (labels_known sc a bs found rows it sound k)) same

pub returns-clause-held : goal.returns-clause-held
returns-clause-held c = λ sc a bs such st r few it told.
    let found = c.args.branches.now in
    c.loop-branch.invariant.held such sc it.cuts st r few it.are_cuts (fit_in c.args.setting.now.range sc a bs found st.range_is it) (tell_such sc a bs found c.args.setting.now.range such st.range_is it told)
