-- Copies of statements that hold others.
use Rattle.std.proofs.Common.{◌≡◌, ◌≤◌, ℕ, List, [], ◌++◌, map, drop, length, ap, sym, ◌∙◌, Vec, append-nil, drop_of_length-le}
use Rattle.std.specs.declared.alloc.Global.{Global}
use Rattle.pb_affine.specs.declared.lin.Lin.{Lin}
use Rattle.pb_affine.specs.declared.guard.Guard.{Guard}
use Rattle.pb_local.specs.declared.stmt.Peer.{Peer}
use Rattle.pb_local.specs.declared.stmt.Test.{Test}
use Rattle.pb_local.specs.declared.stmt.Relay.{Relay}
use Rattle.pb_local.specs.declared.stmt.Stmt.{Stmt}
use Rattle.pb_local.specs.declared.stmt.Stmt.TheVariants.{If, For, Loop, Choice}
use Rattle.pb_local.specs.Tree.{Code, when, for_each, loop, choice, codes_of, parts_of, plain, plain_all}
use Rattle.pb_local.proofs.Plains.{choice_plain, when_plain, for_plain, loop_plain}

abbrev plains : List (Vec Stmt Global) → List (List Code)
plains vs = map (λ v. map plain v.items) vs

pub choice_copied : (stmt : Stmt) (who : Guard) (kernel : ℕ) (relays rs : Vec Relay Global) (from : Peer) (tests ts : Vec Test Global) (branches parts : Vec (Vec Stmt Global) Global) (items : List (Vec Stmt Global)) (i : ℕ)
    → stmt ≡ Choice who kernel relays from tests branches → rs.items ≡ relays.items → ts.items ≡ tests.items → items ≡ branches.items → length items ≤ i
    → plains parts.items ++ plains (drop i items) ≡ plains items → plain (Choice who kernel rs from ts parts) ≡ plain stmt
choice_copied stmt who kernel relays rs from tests ts branches parts items i is rs_is ts_is items_is all done =
    let none : drop i items ≡ [] = drop_of_length-le items all in
    let same : plains parts.items ≡ plains items = sym (append-nil _) ∙ (rw none at done) in
    choice_plain who kernel rs from ts parts
    ∙ ap (λ x. choice who kernel x from ts.items (parts_of (plains parts.items))) rs_is
    ∙ ap (λ x. choice who kernel relays.items from x (parts_of (plains parts.items))) ts_is
    ∙ ap (λ x. choice who kernel relays.items from tests.items (parts_of x)) (same ∙ ap plains items_is)
    ∙ sym (ap plain is ∙ choice_plain who kernel relays from tests branches)

pub when_copied : (stmt : Stmt) (guards gs : List Guard) (first other a b : Vec Stmt Global) → stmt ≡ If guards first other
    → gs ≡ guards → map plain a.items ≡ map plain first.items → map plain b.items ≡ map plain other.items → plain (If gs a b) ≡ plain stmt
when_copied stmt guards gs first other a b is gs_is a_is b_is =
    when_plain gs a b
    ∙ ap (λ x. when x (plain_all a.items) (plain_all b.items)) gs_is
    ∙ ap (λ x. when guards (codes_of x) (plain_all b.items)) a_is
    ∙ ap (λ x. when guards (plain_all first.items) (codes_of x)) b_is
    ∙ sym (ap plain is ∙ when_plain guards first other)

pub for_copied : (stmt : Stmt) (low high : Lin) (body a : Vec Stmt Global) → stmt ≡ For low high body → map plain a.items ≡ map plain body.items → plain (For low high a) ≡ plain stmt
for_copied stmt low high body a is a_is = for_plain low high a ∙ ap (λ x. for_each low high (codes_of x)) a_is ∙ sym (ap plain is ∙ for_plain low high body)

pub loop_copied : (stmt : Stmt) (id : ℕ) (body a : Vec Stmt Global) → stmt ≡ Loop id body → map plain a.items ≡ map plain body.items → plain (Loop id a) ≡ plain stmt
loop_copied stmt id body a is a_is = loop_plain id a ∙ ap (λ x. loop id (codes_of x)) a_is ∙ sym (ap plain is ∙ loop_plain id body)
