use Rattle.std.proofs.Common.{subst, w64, to_z, of_z, to_z-of_z}
use Rattle.std.proofs.lemmas.Result.{IfOk-weaker}
use Rattle.pb_cost_pieces.specs.Lines.{along, value_at}
use Rattle.pb_cost_pieces.specs.Building.{Leaves, Follows}
use Rattle.pb_cost_pieces.proofs.Extend.{turned_adds, turned_last, turned_to}
use Rattle.pb_cost_pieces.proofs.builder.Builder.add_line.Goals as goal

pub returns-in-None-clause-to : goal.returns-in-None-clause-to
returns-in-None-clause-to c =
    let s = c.args.self.now.latest in
    let f : Follows (along (value_at c.args.self.now.latest c.args.self.now.latest.to) c.args.slope c.args.self.now.latest.to) c.args.self.now.latest c.args.to c.line_behind-next.result = subst (λ v. Follows (along (value_at c.args.self.now.latest c.args.self.now.latest.to) v c.args.self.now.latest.to) c.args.self.now.latest c.args.to c.line_behind-next.result) (to_z-of_z c.ranges.slope) (subst (λ v. Follows (along (value_at c.args.self.now.latest c.args.self.now.latest.to) (to_z w64 (of_z w64 c.args.slope)) c.args.self.now.latest.to) c.args.self.now.latest v c.line_behind-next.result) (to_z-of_z c.ranges.to) c.line_behind-next.ensures) in
    IfOk-weaker c.turn.result _ _ (λ _ t. turned_to (along (value_at s s.to) c.args.slope s.to) c.args.self.now.done.items s c.args.to c.line_behind-next.result c.turn.new.self.done.items c.turn.new.self.latest f t) c.turn.ensures

pub returns-in-None-clause-last : goal.returns-in-None-clause-last
returns-in-None-clause-last c =
    let s = c.args.self.now.latest in
    let f : Follows (along (value_at c.args.self.now.latest c.args.self.now.latest.to) c.args.slope c.args.self.now.latest.to) c.args.self.now.latest c.args.to c.line_behind-next.result = subst (λ v. Follows (along (value_at c.args.self.now.latest c.args.self.now.latest.to) v c.args.self.now.latest.to) c.args.self.now.latest c.args.to c.line_behind-next.result) (to_z-of_z c.ranges.slope) (subst (λ v. Follows (along (value_at c.args.self.now.latest c.args.self.now.latest.to) (to_z w64 (of_z w64 c.args.slope)) c.args.self.now.latest.to) c.args.self.now.latest v c.line_behind-next.result) (to_z-of_z c.ranges.to) c.line_behind-next.ensures) in
    IfOk-weaker c.turn.result _ _ (λ _ t. turned_last (along (value_at s s.to) c.args.slope s.to) c.args.self.now.done.items s c.args.to c.line_behind-next.result c.turn.new.self.done.items c.turn.new.self.latest f t) c.turn.ensures

pub returns-in-None-clause-adds : goal.returns-in-None-clause-adds
returns-in-None-clause-adds c =
    let s = c.args.self.now.latest in
    let f : Follows (along (value_at c.args.self.now.latest c.args.self.now.latest.to) c.args.slope c.args.self.now.latest.to) c.args.self.now.latest c.args.to c.line_behind-next.result = subst (λ v. Follows (along (value_at c.args.self.now.latest c.args.self.now.latest.to) v c.args.self.now.latest.to) c.args.self.now.latest c.args.to c.line_behind-next.result) (to_z-of_z c.ranges.slope) (subst (λ v. Follows (along (value_at c.args.self.now.latest c.args.self.now.latest.to) (to_z w64 (of_z w64 c.args.slope)) c.args.self.now.latest.to) c.args.self.now.latest v c.line_behind-next.result) (to_z-of_z c.ranges.to) c.line_behind-next.ensures) in
    let l : Leaves (along (value_at c.args.self.now.latest c.args.self.now.latest.to) c.args.slope c.args.self.now.latest.to) c.args.self.now.latest = subst (λ v. Leaves (along (value_at c.args.self.now.latest c.args.self.now.latest.to) v c.args.self.now.latest.to) c.args.self.now.latest) (to_z-of_z c.ranges.slope) c.in-None.ensures in
    IfOk-weaker c.turn.result _ _ (λ _ t. turned_adds (along (value_at s s.to) c.args.slope s.to) c.args.self.now.done.items s c.args.to c.line_behind-next.result c.turn.new.self.done.items c.turn.new.self.latest l f t) c.turn.ensures
