-- The size and the height of a choice whose branches were counted.
use Rattle.std.proofs.Common.{◌≡◌, ◌≤◌, ◌<◌, ◌^◌, max, ℕ, ◌+◌, List, [], length, drop, ap, sym, Vec, arith, drop_of_length-le}
use Rattle.std.specs.declared.alloc.Global.{Global}
use Rattle.pb_affine.specs.declared.guard.Guard.{Guard}
use Rattle.pb_local.specs.declared.stmt.Peer.{Peer}
use Rattle.pb_local.specs.declared.stmt.Test.{Test}
use Rattle.pb_local.specs.declared.stmt.Relay.{Relay}
use Rattle.pb_local.specs.declared.stmt.Stmt.{Stmt}
use Rattle.pb_local.specs.declared.stmt.Stmt.TheVariants.{Choice}
use Rattle.pb_local.specs.Tree.{choice, plain, size, size_parts}
use Rattle.pb_machine_next.specs.Heights.{height, height_parts}
use Rattle.pb_machine_next.proofs.Plains.{parts}
use Rattle.pb_machine_next.proofs.Arms.{choice_is}

pub whole_size : (s : Stmt) (who : Guard) (k : ℕ) (rs : Vec Relay Global) (e : Peer) (ts : Vec Test Global) (bs : Vec (Vec Stmt Global) Global) (items : List (Vec Stmt Global)) (i count : ℕ) →
    s ≡ Choice who k rs e ts bs → items ≡ bs.items → (count < 2 ^ 60 → count + size_parts (parts (drop i items)) ≡ 1 + size_parts (parts items)) → length items ≤ i → count < 2 ^ 60 → count ≡ size (plain s)
whole_size s who k rs e ts bs items i count is same so_far past less =
    let f : size (plain s) ≡ size (choice who k rs.items e ts.items (parts bs.items)) = ap size (choice_is s who k rs e ts bs is) in
    let g : size_parts (parts bs.items) ≡ size_parts (parts items) = ap (λ z. size_parts (parts z)) (sym same) in
    let d : size_parts (parts (drop i items)) ≡ size_parts (parts []) = ap (λ z. size_parts (parts z)) (drop_of_length-le items past) in
    omega (arith, f, g, d, so_far less)

pub whole_height : (s : Stmt) (who : Guard) (k : ℕ) (rs : Vec Relay Global) (e : Peer) (ts : Vec Test Global) (bs : Vec (Vec Stmt Global) Global) (items : List (Vec Stmt Global)) (i most : ℕ) →
    s ≡ Choice who k rs e ts bs → items ≡ bs.items → (most < 2 ^ 60 → max most (height_parts (parts (drop i items))) ≡ height_parts (parts items)) → length items ≤ i → most < 2 ^ 60 → most + 1 ≡ height (plain s)
whole_height s who k rs e ts bs items i most is same so_far past less =
    let f : height (plain s) ≡ height (choice who k rs.items e ts.items (parts bs.items)) = ap height (choice_is s who k rs e ts bs is) in
    let g : height_parts (parts bs.items) ≡ height_parts (parts items) = ap (λ z. height_parts (parts z)) (sym same) in
    let d : height_parts (parts (drop i items)) ≡ height_parts (parts []) = ap (λ z. height_parts (parts z)) (drop_of_length-le items past) in
    omega (arith, f, g, d, so_far less)
