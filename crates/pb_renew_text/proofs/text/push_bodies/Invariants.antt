use Rattle.std.proofs.Common.{◌≡◌, ◌++◌, drop, map}
use Rattle.pb_renew_text.specs.Texts.{body_for}
use Rattle.pb_renew_text.proofs.text.push_bodies.Given as goal

abbrev pub invariant-loop-function : goal.invariant-loop-function
invariant-loop-function l =
    l.out.items ++ map (λ f. body_for l.form l.old f) (drop l.function-index l.functions) ≡ l.initial.out.items ++ map (λ f. body_for l.form l.old f) l.functions
