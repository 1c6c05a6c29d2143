use Rattle.std.proofs.Common.{◌≡◌, ◌++◌, drop, map}
use Rattle.pb_cread_frame.specs.Views.{texts_of}
use Rattle.pb_cread_frame.proofs.lines.push_all.Given as goal

abbrev pub invariant-loop-text : goal.invariant-loop-text
invariant-loop-text l = texts_of l.lines.items ++ map (λ t. t.now) (drop l.text-index l.texts) ≡ texts_of l.initial.lines.items ++ map (λ t. t.now) l.texts
