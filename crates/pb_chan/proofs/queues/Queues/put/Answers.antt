use Rattle.std.proofs.Common.{◌&&◌, nat_eq, true, ◌∷◌, ◌++◌, [], refl, ap, sym, subst, ◌∙◌}
use Rattle.std.specs.HashMap.{get, PutsEntry}
use Rattle.std.specs.List.Sorted.{IsPermutation}
use Rattle.std.specs.Option.{IsSome}
use Rattle.pb_chan.proofs.Counts.{pushed_words, kept_words, inserted_words}
use Rattle.pb_chan.specs.Shown.{items_of}
use Rattle.pb_chan.proofs.Written.{on_err, Updated, pushed, kept}
use Rattle.pb_chan.proofs.queues.Queues.put.Goals as goal

pub returns-in_err-push_back-in-Some-clause-kept :
    goal.returns-in_err-push_back-in-Some-clause-kept
returns-in_err-push_back-in-Some-clause-kept c =
    let had = c.in-Some.ensures.value in
    let is = ((c.get_mut.follows.holds c.push_back.new.self).3 (subst IsSome had refl)).0 in
    on_err c.from_residual.result (kept c.args.self.now.map (c.get_mut.follows.lender c.push_back.new.self) c.args.from c.args.to c.push_back.new.self is (c.in_err-push_back-in-Some.ensures.items ∙ ap items_of had))

pub returns-in_ok-push_back-in-Some-clause-put : goal.returns-in_ok-push_back-in-Some-clause-put
returns-in_ok-push_back-in-Some-clause-put c =
    let had = c.in-Some.ensures.value in
    let is = ((c.get_mut.follows.holds c.push_back.new.self).3 (subst IsSome had refl)).0 in
    pushed c.args.self.now.map (c.get_mut.follows.lender c.push_back.new.self) c.args.from c.args.to c.push_back.new.self _ is (c.in_ok-push_back-in-Some.ensures.items ∙ ap (λ l. l ++ record { label = c.args.label; words = c.args.words } ∷ []) (ap items_of had))

pub returns-in_ok-insert-in-None-clause-put : goal.returns-in_ok-insert-in-None-clause-put
returns-in_ok-insert-in-None-clause-put c =
    let had = c.in-None.ensures.value in
    let is = subst (λ t. Updated t c.insert.new.self c.args.from c.args.to c.push_back-in-None.new.self) c.get_mut.follows.holds-at-none c.in_ok-insert-in-None.ensures.updates.0 in
    pushed c.args.self.now.map c.insert.new.self c.args.from c.args.to c.push_back-in-None.new.self _ is
    (c.in_ok-push_back-in-None.ensures.items ∙ ap (λ l. l ++ record { label = c.args.label; words = c.args.words } ∷ []) (c.new-queue.ensures.items ∙ ap items_of had))

pub returns-in_err-push_back-in-Some-clause-kept_words :
    goal.returns-in_err-push_back-in-Some-clause-kept_words
returns-in_err-push_back-in-Some-clause-kept_words c =
    on_err c.from_residual.result
    (kept_words c.args.self.now.map (c.get_mut.follows.lender c.push_back.new.self) _ c.in-Some.queue.now c.push_back.new.self (c.get_mut.follows.holds c.push_back.new.self).0 (sym c.in-Some.ensures.value) c.in_err-push_back-in-Some.ensures.items)

pub returns-in_ok-push_back-in-Some-clause-words : goal.returns-in_ok-push_back-in-Some-clause-words
returns-in_ok-push_back-in-Some-clause-words c =
    pushed_words c.args.self.now.map (c.get_mut.follows.lender c.push_back.new.self) _ c.in-Some.queue.now c.push_back.new.self (record { label = c.args.label; words = c.args.words }) (c.get_mut.follows.holds c.push_back.new.self).0 (sym c.in-Some.ensures.value)
    c.in_ok-push_back-in-Some.ensures.items

pub returns-in_ok-insert-in-None-clause-words : goal.returns-in_ok-insert-in-None-clause-words
returns-in_ok-insert-in-None-clause-words c =
    let same = c.get_mut.follows.holds-at-none in
    let none = c.in_ok-insert-in-None.ensures.old ∙ ap (λ t. get (λ x y. nat_eq x.0 y.0 && nat_eq x.1 y.1) t (c.args.from, c.args.to)) same ∙ sym c.in-None.ensures.value in
    let entry = subst (λ o. PutsEntry (λ x y. nat_eq x.0 y.0 && nat_eq x.1 y.1) c.get_mut.follows.lender-at-none c.insert.new.self (c.args.from, c.args.to) c.push_back-in-None.new.self o) none c.in_ok-insert-in-None.ensures.entries in
    inserted_words c.args.self.now.map c.insert.new.self (λ k. true) (c.args.from, c.args.to) c.push_back-in-None.new.self (record { label = c.args.label; words = c.args.words })
    (subst (λ t. IsPermutation (((c.args.from, c.args.to), c.push_back-in-None.new.self) ∷ t.entries) c.insert.new.self.entries) same entry)
    (c.in_ok-push_back-in-None.ensures.items ∙ ap (λ l. l ++ record { label = c.args.label; words = c.args.words } ∷ []) c.new-queue.ensures.items)
