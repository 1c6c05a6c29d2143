use Rattle.std.proofs.Common.{◌≡◌, true, [], List, length, ◌∷◌, refl, sym, subst, ◌∙◌}
use Rattle.std.specs.List.{list_any}
use Rattle.std.proofs.lemmas.Bool.{eqb-true}
use Rattle.std.proofs.lemmas.List.Elements.{All-nil}
use Rattle.pb_part_firsts.specs.declared.firsts.Source.{Source}
use Rattle.pb_local.specs.declared.stmt.Test.{Test}
use Rattle.pb_project_choice.specs.Relayed.{HasCaller, HaveCallers, AreRelayed}
use Rattle.pb_project_choice.specs.Sources.{is_from, is_listed}
use Rattle.pb_project_choice.proofs.Relaying.{no_tests, relays_right, relays_each, relays_called}
use Rattle.pb_project_choice.proofs.relays.relays_of.Goals as goal

empty_is : (ts : List Test) → length ts ≡ 0 → ts ≡ []
empty_is [] e = refl
empty_is (t ∷ ts) e = cc

pub returns-then-is_empty-clause-is : goal.returns-then-is_empty-clause-is
returns-then-is_empty-clause-is c = λ sc h a bs st opened range_is small found one tests.
    no_tests sc h a c.args.chooser bs c.args.tests.now c.new.result.items opened tests (empty_is c.args.tests.now (eqb-true (length c.args.tests.now) 0 (sym c.is_empty.ensures ∙ c.if-is_empty.true)))

pub returns-clause-is : goal.returns-clause-is
returns-clause-is c = λ sc h a bs st opened range_is small found one tests.
    let s = c.args.setting.now in
    relays_right s.range s.roles s.whole.now sc a c.args.chooser bs c.args.branches.now c.in_ok-entries.entries.items c.in_ok-sources.sources.items c.in_ok-relays.relays.items st range_is small found one c.in_ok-entries.ensures
    (subst (λ z. (q : Source) → list_any (λ e. is_from q e.kind) z ≡ true → is_listed q c.in_ok-sources.sources.items ≡ true) c.deref.ensures.value c.in_ok-sources.ensures.there)
    (subst (λ z. AreRelayed s.range s.roles s.whole.now c.args.chooser z c.in_ok-sources.sources.items c.in_ok-relays.relays.items) c.deref-2.ensures.value
    (subst (λ z. AreRelayed s.range s.roles s.whole.now c.args.chooser c.deref-2.result.now z c.in_ok-relays.relays.items) c.deref-3.ensures.value c.in_ok-relays.ensures))

pub returns-clause-each : goal.returns-clause-each
returns-clause-each c = λ p sc a bs st range_is small found one same.
    let s = c.args.setting.now in
    relays_each s.range s.roles s.whole.now sc a c.args.chooser bs c.args.branches.now c.in_ok-entries.entries.items c.in_ok-sources.sources.items c.in_ok-relays.relays.items p st range_is found one c.in_ok-entries.ensures
    (subst (λ z. AreRelayed s.range s.roles s.whole.now c.args.chooser z c.in_ok-sources.sources.items c.in_ok-relays.relays.items) c.deref-2.ensures.value
    (subst (λ z. AreRelayed s.range s.roles s.whole.now c.args.chooser c.deref-2.result.now z c.in_ok-relays.relays.items) c.deref-3.ensures.value c.in_ok-relays.ensures))
    same

pub returns-then-is_empty-clause-called : goal.returns-then-is_empty-clause-called
returns-then-is_empty-clause-called c = λ sc a bs such st range_is small found one told.
    subst (HaveCallers c.args.setting.now.range sc.roles such c.args.chooser) (sym c.new.ensures.items)
    (All-nil (HasCaller c.args.setting.now.range sc.roles such c.args.chooser))

pub returns-clause-called : goal.returns-clause-called
returns-clause-called c = λ sc a bs such st range_is small found one told.
    let s = c.args.setting.now in
    relays_called s.range s.roles s.whole.now sc a c.args.chooser bs c.args.branches.now c.in_ok-entries.entries.items c.in_ok-sources.sources.items c.in_ok-relays.relays.items such st range_is small found one c.in_ok-entries.ensures
    (subst (λ z. AreRelayed s.range s.roles s.whole.now c.args.chooser z c.in_ok-sources.sources.items c.in_ok-relays.relays.items) c.deref-2.ensures.value
    (subst (λ z. AreRelayed s.range s.roles s.whole.now c.args.chooser c.deref-2.result.now z c.in_ok-relays.relays.items) c.deref-3.ensures.value c.in_ok-relays.ensures))
    told
