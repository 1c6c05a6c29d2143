use Rattle.std.proofs.Common.{◌≡◌, true, ◌||◌, sym, ap, subst, ◌∙◌}
use Rattle.pb_part_areas.specs.Areas.{have}
use Rattle.pb_part_firsts.specs.Firsts.{are_small}
use Rattle.pb_choice_entries.specs.Clashes.{AreWhere, AreSplit, clashes}
use Rattle.pb_choice.specs.Found.{mark_of}
use Rattle.pb_choice.specs.Senders.{AreCurrent}
use Rattle.pb_choice.proofs.RuleTests.{first_of_rules}
use Rattle.pb_choice.proofs.branch.rules_kept.Goals as goal

pub returns-clause-first : goal.returns-clause-first
returns-clause-first c = λ current.
    first_of_rules c.args.setting.now.range c.args.setting.now.whole.now c.args.here.now c.args.left.now (mark_of c.args.mark) c.args.past.now.entries.items c.args.past.now.mixed.items
    c.add_entries.new.entries.items c.attach_all.new.out.items c.in_ok-strange.strange.items c.in_ok-split.split.items c.in_ok-shared.shared.items
    c.deref-4.result.now c.deref-5.result.now c.deref-6.result.now c.args.best c.in_ok-first.first c.in_ok-second.second c.in_ok-third.third
    c.deref-4.ensures.value c.deref-5.ensures.value c.deref-6.ensures.value c.in_ok-strange.ensures
    (subst (λ e. are_small c.args.here.now ≡ true → are_small e ≡ true → AreSplit c.args.here.now e c.args.past.now.mixed.items c.in_ok-split.split.items) c.deref.ensures.value
    (subst (λ m. are_small c.args.here.now ≡ true → are_small c.deref.result.now ≡ true → AreSplit c.args.here.now c.deref.result.now m c.in_ok-split.split.items) c.deref-2.ensures.value
    (c.in_ok-split.ensures.split (subst (λ e. AreCurrent c.args.past.now.sources.items e) (sym c.deref.ensures.value) current))))
    (subst (λ e. are_small c.args.here.now ≡ true → are_small e ≡ true → AreWhere c.in_ok-shared.shared.items (clashes c.args.here.now e)) c.deref-3.ensures.value c.in_ok-shared.ensures)
    c.in_ok-first.ensures c.in_ok-second.ensures c.in_ok-third.ensures c.in_ok-add_entries.ensures
    (λ n role x. c.in_ok-attach_all.ensures.is n role x ∙ ap (λ l. have c.args.past.now.mixed.items n role x || have l n role x) c.deref-7.ensures.value)
