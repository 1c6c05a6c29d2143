use Rattle.std.proofs.Common.{◌≡◌, length, take, drop, ◌++◌, ap₂, sym, subst, ◌∙◌, arith, false}
use Rattle.std.proofs.lemmas.List.{take_at}
use Rattle.pb_judge_lists.specs.Places.{left_of, AreKept}
use Rattle.pb_judge_lists.proofs.Linking.{left_first, kept_first}
use Rattle.pb_judge_lists.proofs.lists.Lists.of.Goals as goal

pub invariant_of-result : goal.invariant_of-result
invariant_of-result c =
    let n : take c.in_ok-next.next.len (c.link.new.next ++ drop (length c.link.new.next) c.in_ok-next.next.items) ≡ c.link.new.next = take_at c.link.new.next _ _ (omega (arith, c.link.ensures.next, c.deref_mut.ensures.len)) in
    let a : take c.in_ok-after.after.len (c.link.new.after ++ drop (length c.link.new.after) c.in_ok-after.after.items) ≡ c.link.new.after = take_at c.link.new.after _ _ (omega (arith, c.link.ensures.after, c.deref_mut-2.ensures.len)) in
    let size : length c.link.new.next ≡ c.args.total = omega (arith, c.link.ensures.next, c.deref_mut.ensures.len, c.in_ok-next.ensures.len) in
    subst (λ xs. AreKept (record { log = c.args.log.now; next = xs; after = take c.in_ok-after.after.len (c.link.new.after ++ drop (length c.link.new.after) c.in_ok-after.after.items); total = c.args.total; used = 0; owes = false })) (sym n)
    (subst (λ ys. AreKept (record { log = c.args.log.now; next = c.link.new.next; after = ys; total = c.args.total; used = 0; owes = false })) (sym a)
    (kept_first c.args.total c.args.log.now c.link.new.next c.link.new.after size c.requires c.link.ensures.linked))

pub returns : goal.returns
returns c =
    let n : take c.in_ok-next.next.len (c.link.new.next ++ drop (length c.link.new.next) c.in_ok-next.next.items) ≡ c.link.new.next = take_at c.link.new.next _ _ (omega (arith, c.link.ensures.next, c.deref_mut.ensures.len)) in
    let a : take c.in_ok-after.after.len (c.link.new.after ++ drop (length c.link.new.after) c.in_ok-after.after.items) ≡ c.link.new.after = take_at c.link.new.after _ _ (omega (arith, c.link.ensures.after, c.deref_mut-2.ensures.len)) in
    let size : length c.link.new.next ≡ c.args.total = omega (arith, c.link.ensures.next, c.deref_mut.ensures.len, c.in_ok-next.ensures.len) in
    ap₂ (λ xs ys. left_of (record { log = c.args.log.now; next = xs; after = ys; total = c.args.total; used = 0; owes = false })) n a
    ∙ left_first c.args.total c.args.log.now c.link.new.next c.link.new.after size c.requires c.link.ensures.linked
