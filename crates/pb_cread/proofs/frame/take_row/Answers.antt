use Rattle.std.proofs.Common.{ℕ, Bool, Some, None, sym, ap, subst, ◌∙◌, if◌then◌else◌}
use Rattle.pb_cread_frame.specs.Views.{state_of}
use Rattle.pb_cread.specs.Reached.{InFrame}
use Rattle.pb_cread.proofs.Ended.{frame_early}
use Rattle.pb_cread.proofs.Faulted.{frame_goes, frame_stops}
use Rattle.pb_cread.proofs.frame.take_row.Goals as goal

pub returns-in_default-clause-fault : goal.returns-in_default-clause-fault
returns-in_default-clause-fault c = λ text f.
    frame_early text c.args.lines.now.rest.now c.args.lines.now.line (state_of c.args.reader.now) c.place-place.result f c.in_default.ensures.line c.requires.left c.place-place.ensures.line c.place-place.ensures.col

pub returns-then-not-branch-clause-fault : goal.returns-then-not-branch-clause-fault
returns-then-not-branch-clause-fault c = λ text f.
    frame_stops text c.args.lines.now.rest.now c.args.lines.now.line (state_of c.args.reader.now) c.in-Some.line.now c.take.new.self.rest.now c.place-place.result f c.in-Some.ensures.line
    (c.in_ok-take.ensures.went ∙ ap (λ b. if b then Some (state_of c.take-2.new.self) else None) c.if-not-branch.true)
    c.requires.left c.place-place.ensures.line c.place-place.ensures.col

pub returns-clause-read : goal.returns-clause-read
returns-clause-read c = λ text f.
    subst (λ (n : ℕ). InFrame text c.take.new.self.rest.now n (state_of c.take-2.new.self)) (sym c.in-Some.ensures.number)
    (frame_goes text c.args.lines.now.rest.now c.args.lines.now.line (state_of c.args.reader.now) (state_of c.take-2.new.self) c.in-Some.line.now c.take.new.self.rest.now f c.in-Some.ensures.line
    (c.in_ok-take.ensures.went ∙ ap (λ b. if b then Some (state_of c.take-2.new.self) else None) c.if-not-branch.false))
