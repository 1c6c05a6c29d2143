-- The plain trees of statements that hold others.
use Rattle.std.proofs.Common.{◌≡◌, ℕ, List, map, ap, sym, ◌∙◌, Vec}
use Rattle.std.proofs.lemmas.Simd.{map-map}
use Rattle.std.specs.declared.alloc.Global.{Global}
use Rattle.pb_affine.specs.declared.lin.Lin.{Lin}
use Rattle.pb_affine.specs.declared.guard.Guard.{Guard}
use Rattle.pb_local.specs.declared.stmt.Peer.{Peer}
use Rattle.pb_local.specs.declared.stmt.Test.{Test}
use Rattle.pb_local.specs.declared.stmt.Relay.{Relay}
use Rattle.pb_local.specs.declared.stmt.Stmt.{Stmt, fold-roll-Stmt}
use Rattle.pb_local.specs.declared.stmt.Stmt.TheVariants.{If, rolls-If, For, rolls-For, Loop, rolls-Loop, Choice, rolls-Choice}
use Rattle.pb_local.specs.declared.stmt.Stmt.TheOpen as Layer
use Rattle.pb_local.specs.Tree.{Code, when, for_each, loop, choice, parts_of, layer, plain, plain_all}

-- the branches are vectors in a vector
pub choice_plain : (who : Guard) (kernel : ℕ) (relays : Vec Relay Global) (from : Peer) (tests : Vec Test Global) (branches : Vec (Vec Stmt Global) Global)
    → plain (Choice who kernel relays from tests branches) ≡ choice who kernel relays.items from tests.items (parts_of (map (λ v. map plain v.items) branches.items))
choice_plain who kernel relays from tests branches =
    ap plain (sym (rolls-Choice who kernel relays from tests branches))
    ∙ fold-roll-Stmt Code layer (Layer.Choice who kernel relays from tests branches)
    ∙ ap (λ x. choice who kernel relays.items from tests.items (parts_of x)) (map-map (λ v. v.items) _ branches.items)

pub when_plain : (guards : List Guard) (first other : Vec Stmt Global) → plain (If guards first other) ≡ when guards (plain_all first.items) (plain_all other.items)
when_plain guards first other = ap plain (sym (rolls-If guards first other)) ∙ fold-roll-Stmt Code layer (Layer.If guards first other)

pub for_plain : (low high : Lin) (body : Vec Stmt Global) → plain (For low high body) ≡ for_each low high (plain_all body.items)
for_plain low high body = ap plain (sym (rolls-For low high body)) ∙ fold-roll-Stmt Code layer (Layer.For low high body)

pub loop_plain : (id : ℕ) (body : Vec Stmt Global) → plain (Loop id body) ≡ loop id (plain_all body.items)
loop_plain id body = ap plain (sym (rolls-Loop id body)) ∙ fold-roll-Stmt Code layer (Layer.Loop id body)
