-- The plain tree of an endpoint program.
use Rattle.std.specs.Prelude.{ℕ, suc, ◌+◌, ℤ, List, [], ◌∷◌, map}
use Rattle.pb_affine.specs.declared.lin.Lin.{Lin}
use Rattle.pb_affine.specs.declared.guard.Guard.{Guard}
use Rattle.pb_affine.specs.declared.range.NRange.{NRange}
use Rattle.pb_syntax.specs.declared.tree.Op.{Op}
use Rattle.pb_syntax.specs.declared.core_label.CoreLabel.{CoreLabel}
use Rattle.pb_syntax.specs.declared.core_label.CoreKernel.{CoreKernel}
use Rattle.pb_local.specs.declared.stmt.Peer.{Peer}
use Rattle.pb_local.specs.declared.stmt.Test.{Test}
use Rattle.pb_local.specs.declared.stmt.Relay.{Relay}
use Rattle.pb_local.specs.declared.stmt.Stmt.{Stmt, Stmt-F, fold-Stmt}
use Rattle.pb_local.specs.declared.stmt.Stmt.TheOpen as Layer
use Rattle.pb_local.specs.declared.tables.Role.{Role}
use Rattle.pb_local.specs.declared.tables.Local.{Local}

mutual
  -- a statement
  pub data Code : Type 0 where
    when : (guards : List Guard) (first other : Codes) → Code
    for_each : (low high : Lin) (body : Codes) → Code
    own : (off : ℤ) → Code
    loop : (id : ℕ) (body : Codes) → Code
    again : (id : ℕ) → Code
    choice : (who : Guard) (kernel : ℕ) (relays : List Relay) (from : Peer) (tests : List Test) (branches : Parts) → Code
    send : (label : ℕ) (to : Peer) → Code
    recv : (label : ℕ) (from : Peer) → Code
    run : (kernel : ℕ) → Code
    barrier : Code
    broadcast : (label : ℕ) (root : Peer) → Code
    reduce : (label : ℕ) (op : Op) (root : Peer) → Code
    allreduce : (label : ℕ) (op : Op) → Code

  -- statements, one after the other
  pub data Codes : Type 0 where
    nothing : Codes
    more : (first : Code) (rest : Codes) → Codes

  -- the branches of a choice
  pub data Parts : Type 0 where
    no_part : Parts
    part : (first : Codes) (rest : Parts) → Parts

abbrev pub codes_of : List Code → Codes
codes_of [] = nothing
codes_of (c ∷ cs) = more c (codes_of cs)

abbrev pub parts_of : List (List Code) → Parts
parts_of [] = no_part
parts_of (b ∷ bs) = part (codes_of b) (parts_of bs)

abbrev pub layer : Stmt-F Code → Code
layer (Layer.If guards first other) = when guards (codes_of first.items) (codes_of other.items)
layer (Layer.For low high body) = for_each low high (codes_of body.items)
layer (Layer.Own off) = own off
layer (Layer.Loop id body) = loop id (codes_of body.items)
layer (Layer.Again id) = again id
layer (Layer.Choice who kernel relays from tests branches) = choice who kernel relays.items from tests.items (parts_of (map (λ v. v.items) branches.items))
layer (Layer.Send label to) = send label to
layer (Layer.Recv label from) = recv label from
layer (Layer.Run kernel) = run kernel
layer Layer.Barrier = barrier
layer (Layer.Broadcast label root) = broadcast label root
layer (Layer.Reduce label op root) = reduce label op root
layer (Layer.Allreduce label op) = allreduce label op

-- the plain tree of a statement, and of statements
abbrev pub plain : Stmt → Code
plain = fold-Stmt Code layer

abbrev pub plain_all : List Stmt → Codes
plain_all list = codes_of (map plain list)

-- the plain tree of an endpoint program
pub record Program : Type 0 where
  pub protocol : List ℕ
  pub range : NRange
  pub roles : List Role
  pub labels : List CoreLabel
  pub kernels : List CoreKernel
  pub body : Codes

abbrev pub program_of : Local → Program
program_of l = record { protocol = l.protocol; range = l.range; roles = l.roles.items; labels = l.labels.items; kernels = l.kernels.items; body = plain_all l.body.items }

-- the number of statements
abbrev mutual
  pub size : Code → ℕ
  size (when guards first other) = suc (size_all first + size_all other)
  size (for_each low high body) = suc (size_all body)
  size (own off) = 1
  size (loop id body) = suc (size_all body)
  size (again id) = 1
  size (choice who kernel relays from tests branches) = suc (size_parts branches)
  size (send label to) = 1
  size (recv label from) = 1
  size (run kernel) = 1
  size barrier = 1
  size (broadcast label root) = 1
  size (reduce label op root) = 1
  size (allreduce label op) = 1

  pub size_all : Codes → ℕ
  size_all nothing = 0
  size_all (more c rest) = size c + size_all rest

  pub size_parts : Parts → ℕ
  size_parts no_part = 0
  size_parts (part a rest) = size_all a + size_parts rest
