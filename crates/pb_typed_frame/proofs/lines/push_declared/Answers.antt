use Rattle.std.proofs.Common.{◌∷◌, map}
use Rattle.pb_typed_frame.proofs.Written.{fronted}
use Rattle.pb_typed_frame.proofs.lines.push_declared.Goals as goal

pub returns : goal.returns
returns c =
    fronted c.args.front.now c.args.element.now (c.args.word.now ∷ c.args.name.now ∷ map (λ w. w.now) c.args.words.now) c.args.out.now.items c.push_front.new.out.items c.push_begun.new.out.items
    c.in_ok-push_front.ensures c.in_ok-push_begun.ensures
