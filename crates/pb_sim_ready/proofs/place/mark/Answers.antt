use Rattle.std.proofs.Common.{◌≡◌, ◌<◌, ◌≤◌, refl, true, arith, length, vec_capacity, sym, ◌∙◌}
use Rattle.std.specs.Result.{is_ok}
use Rattle.std.specs.List.{insert}
use Rattle.pb_sim_ready.proofs.Keeps.{edit_done, room_left}
use Rattle.pb_sim_ready.proofs.place.mark.Goals as goal

pub unwrap-requires : goal.unwrap-requires
unwrap-requires c =
    let l : length c.args.list.now.items < c.args.total = room_left c.requires.marked.0 c.args.total c.args.list.now.items c.place_of-at.result c.args.number (rw c.deref.ensures.value at c.place_of-at.ensures) (sym (rw c.deref-2.ensures.value at c.stands.ensures) ∙ c.if-stands.false) c.requires.below c.requires.marked.1 in
    let r : c.args.total ≤ vec_capacity c.args.list.now = c.requires.room in
    c.insert.ensures.succeeds (omega (arith, l, r))

pub returns-then-not-ready-clause-marked : goal.returns-then-not-ready-clause-marked
returns-then-not-ready-clause-marked c = λ f h.
    edit_done f c.args.total c.args.list.now.items c.remove.new.self.items c.place_of-at.result c.args.number c.args.ready c.stands.result
    (rw c.deref.ensures.value at c.place_of-at.ensures) (rw c.deref-2.ensures.value at c.stands.ensures) (rw (c.if-stands.true, c.if-not-ready.true) c.remove.ensures.items) c.requires.below h

pub returns-else-not-ready-clause-marked : goal.returns-else-not-ready-clause-marked
returns-else-not-ready-clause-marked c = λ f h.
    edit_done f c.args.total c.args.list.now.items c.args.list.now.items c.place_of-at.result c.args.number c.args.ready c.stands.result
    (rw c.deref.ensures.value at c.place_of-at.ensures) (rw c.deref-2.ensures.value at c.stands.ensures) (rw (c.if-stands.true, c.if-not-ready.false) refl) c.requires.below h

pub returns-then-ready-clause-marked : goal.returns-then-ready-clause-marked
returns-then-ready-clause-marked c = λ f h.
    let l : length c.args.list.now.items < c.args.total = room_left f c.args.total c.args.list.now.items c.place_of-at.result c.args.number (rw c.deref.ensures.value at c.place_of-at.ensures) (sym (rw c.deref-2.ensures.value at c.stands.ensures) ∙ c.if-stands.false) c.requires.below h in
    let r : c.args.total ≤ vec_capacity c.args.list.now = c.requires.room in
    let k : is_ok c.insert.result ≡ true = c.insert.ensures.succeeds (omega (arith, l, r)) in
    let e : c.insert.new.self.items ≡ insert c.args.list.now.items c.place_of-at.result c.args.number = rw k at c.insert.ensures.items in
    edit_done f c.args.total c.args.list.now.items c.insert.new.self.items c.place_of-at.result c.args.number c.args.ready c.stands.result
    (rw c.deref.ensures.value at c.place_of-at.ensures) (rw c.deref-2.ensures.value at c.stands.ensures) (rw (c.if-stands.false, c.if-ready.true) e) c.requires.below h

pub returns-else-ready-clause-marked : goal.returns-else-ready-clause-marked
returns-else-ready-clause-marked c = λ f h.
    edit_done f c.args.total c.args.list.now.items c.args.list.now.items c.place_of-at.result c.args.number c.args.ready c.stands.result
    (rw c.deref.ensures.value at c.place_of-at.ensures) (rw c.deref-2.ensures.value at c.stands.ensures) (rw (c.if-stands.false, c.if-ready.false) refl) c.requires.below h
