use Rattle.std.proofs.Common.{◌≡◌, ◌<◌, length, remove, get_or, refl, ap, sym, subst, ◌∙◌}
use Rattle.std.proofs.lemmas.Option.{slice_get_read}
use Rattle.std.specs.Option.{IsSome, IfSome, OnSome, option_copied_mut}
use Rattle.pb_chan.specs.Shown.{items_of, list_at}
use Rattle.pb_chan.proofs.Counts.{removed_words}
use Rattle.pb_chan.proofs.Written.{removed}
use Rattle.pb_chan.proofs.queues.Queues.take.Goals as goal

pub returns-clause-taken : goal.returns-clause-taken
returns-clause-taken c =
    let had = sym (ap option_copied_mut c.unwrap-queue.ensures) ∙ c.get_mut.ensures.value in
    let message = c.unwrap-message.result in
    let value = subst (λ o. IfSome o (λ y. y ≡ get_or c.unwrap-queue.result.now.items c.args.at y)) c.unwrap-message.ensures c.remove.ensures.value in (
      message.label,
      slice_get_read (list_at c.args.self.now.map c.args.from c.args.to) (length (list_at c.args.self.now.map c.args.from c.args.to)) c.args.at message refl c.requires
          (subst (λ l. message ≡ get_or l c.args.at message) (ap items_of had) value),
    )

pub returns-clause-left : goal.returns-clause-left
returns-clause-left c =
    let had = sym (ap option_copied_mut c.unwrap-queue.ensures) ∙ c.get_mut.ensures.value in
    let is = ((c.get_mut.follows.holds c.remove.new.self).3 (subst IsSome had refl)).0 in
    let items = subst (λ o. OnSome o (c.remove.new.self.items ≡ remove c.unwrap-queue.result.now.items c.args.at)) c.unwrap-message.ensures c.remove.ensures.items in
    removed c.args.self.now.map (c.get_mut.follows.lender c.remove.new.self) c.args.from c.args.to c.remove.new.self c.args.at is (items ∙ ap (λ l. remove l c.args.at) (ap items_of had))

pub returns-clause-words : goal.returns-clause-words
returns-clause-words c =
    let had = sym (ap option_copied_mut c.unwrap-queue.ensures) ∙ c.get_mut.ensures.value in
    let value = subst (λ o. IfSome o (λ y. y ≡ get_or c.unwrap-queue.result.now.items c.args.at y)) c.unwrap-message.ensures c.remove.ensures.value in
    let items = subst (λ o. OnSome o (c.remove.new.self.items ≡ remove c.unwrap-queue.result.now.items c.args.at)) c.unwrap-message.ensures c.remove.ensures.items in
    removed_words c.args.self.now.map (c.get_mut.follows.lender c.remove.new.self) _ c.unwrap-queue.result.now c.remove.new.self c.args.at c.unwrap-message.result (c.get_mut.follows.holds c.remove.new.self).0 (sym had) items
    (subst (λ l. c.args.at < length l) (sym (ap items_of had)) c.requires) value
