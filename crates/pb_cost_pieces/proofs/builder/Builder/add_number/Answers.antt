use Rattle.std.proofs.Common.{subst, pos, ◌+ℤ◌, to_z-of_z}
use Rattle.std.proofs.lemmas.Result.{IfOk-weaker}
use Rattle.pb_cost_pieces.specs.Building.{Leaves, Extends, Follows}
use Rattle.pb_cost_pieces.proofs.Extend.{turned_adds, turned_last, turned_to}
use Rattle.pb_cost_pieces.proofs.builder.Builder.add_number.Goals as goal

pub returns-in-Some-clause-adds : goal.returns-in-Some-clause-adds
returns-in-Some-clause-adds c =
    let ext : Extends (λ n. c.args.value) (c.args.self.now.latest.to +ℤ pos 1) c.args.self.now.latest c.in-Some.longer = subst (λ v. Extends (λ n. v) (c.args.self.now.latest.to +ℤ pos 1) c.args.self.now.latest c.in-Some.longer) (to_z-of_z c.ranges.value) c.in-Some.ensures in
    ext.adds c.args.self.now.done.items

pub returns-in-None-clause-to : goal.returns-in-None-clause-to
returns-in-None-clause-to c =
    let f = subst (λ v. Follows (λ n. v) c.args.self.now.latest (c.args.self.now.latest.to +ℤ pos 1) c.number_behind-next.result) (to_z-of_z c.ranges.value) c.number_behind-next.ensures in
    IfOk-weaker c.turn.result _ _ (λ _ t. turned_to (λ n. c.args.value) c.args.self.now.done.items c.args.self.now.latest (c.args.self.now.latest.to +ℤ pos 1) c.number_behind-next.result c.turn.new.self.done.items c.turn.new.self.latest f t) c.turn.ensures

pub returns-in-None-clause-last : goal.returns-in-None-clause-last
returns-in-None-clause-last c =
    let f = subst (λ v. Follows (λ n. v) c.args.self.now.latest (c.args.self.now.latest.to +ℤ pos 1) c.number_behind-next.result) (to_z-of_z c.ranges.value) c.number_behind-next.ensures in
    IfOk-weaker c.turn.result _ _ (λ _ t. turned_last (λ n. c.args.value) c.args.self.now.done.items c.args.self.now.latest (c.args.self.now.latest.to +ℤ pos 1) c.number_behind-next.result c.turn.new.self.done.items c.turn.new.self.latest f t) c.turn.ensures

pub returns-in-None-clause-adds : goal.returns-in-None-clause-adds
returns-in-None-clause-adds c =
    let f = subst (λ v. Follows (λ n. v) c.args.self.now.latest (c.args.self.now.latest.to +ℤ pos 1) c.number_behind-next.result) (to_z-of_z c.ranges.value) c.number_behind-next.ensures in
    let l = subst (λ v. Leaves (λ n. v) c.args.self.now.latest) (to_z-of_z c.ranges.value) c.in-None.ensures in
    IfOk-weaker c.turn.result _ _ (λ _ t. turned_adds (λ n. c.args.value) c.args.self.now.done.items c.args.self.now.latest (c.args.self.now.latest.to +ℤ pos 1) c.number_behind-next.result c.turn.new.self.done.items c.turn.new.self.latest l f t) c.turn.ensures
