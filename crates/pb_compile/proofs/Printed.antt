-- A text with default bodies.
use Rattle.std.proofs.Common.{◌≡◌, ℕ, List, [], Result, Ok, Err, IfOk}
use Rattle.std.specs.Global.{Vec}
use Rattle.pb_local.specs.Tree.{program_of}
use Rattle.pb_ctree.specs.declared.tree.CTree.{CTree}
use Rattle.pb_ctree.specs.declared.body.Bodies.{Bodies}
use Rattle.pb_ctree.specs.Functions.{defaults_of}
use Rattle.pb_ctree.specs.Texts.{Spells}
use Rattle.pb_compile.specs.Compiled.{IsTextOf}

pub printed : {E : Type 0} (tree : CTree) (bodies : Bodies) (r : Result (Vec ℕ) E) → bodies.prelude ≡ [] → bodies.list.items ≡ defaults_of (program_of tree.local)
    → IfOk r (λ text. Spells tree bodies text.items) → IfOk r (λ text. IsTextOf tree text.items)
printed tree bodies (Ok text) prelude list spells = record { bodies = bodies; prelude = prelude; list = list; spells = spells }
printed tree bodies (Err e) prelude list spells = tt
