-- How an endpoint program is laid out.
use Rattle.std.specs.Prelude.{ℕ, ◌+◌, ℤ, pos, negsuc, nat_eq, Bool, true, false, ◌&&◌, cond, if◌then◌else◌, Option, Some, None, List, [], ◌∷◌, ◌++◌, codes, decimal}
use Rattle.std.specs.Ordering.{int_eq}
use Rattle.std.specs.Fmt.{signed_decimal}
use Rattle.pb_affine.specs.declared.lin.Base.{Base}
use Rattle.pb_affine.specs.declared.lin.Base.TheVariants.{Fixed, Param, Var}
use Rattle.pb_affine.specs.declared.lin.Lin.{Lin}
use Rattle.pb_affine.specs.declared.guard.Guard.{Guard}
use Rattle.pb_affine.specs.declared.range.NRange.{NRange}
use Rattle.pb_syntax.specs.declared.tree.Op.{Op}
use Rattle.pb_syntax.specs.declared.tree.Op.TheVariants.{Min, Max, Sum}
use Rattle.pb_local.specs.declared.stmt.Peer.{Peer}
use Rattle.pb_local.specs.declared.stmt.Test.{Test}
use Rattle.pb_local.specs.declared.stmt.Relay.{Relay}
use Rattle.pb_local.specs.Pieces.{joined, line}
use Rattle.pb_local.specs.Tables.{role_at, label_at, kernel_at}
use Rattle.pb_local.specs.Tree.{Code, when, for_each, own, loop, again, choice, send, recv, run, barrier, broadcast, reduce, allreduce, Codes, nothing, more, Parts, no_part, part, Program}

-- ---- lins and guards

-- an offset of 0 isn't written
abbrev pub offset_text : ℤ → List ℕ
offset_text (pos n) = cond (nat_eq n 0) [] (codes "+" ++ decimal n)
offset_text (negsuc n) = codes "-" ++ decimal (n + 1)

abbrev pub based_text : Base → ℤ → List ℕ
based_text Fixed off = signed_decimal off
based_text Param off = codes "N" ++ offset_text off
based_text Var off = codes "i" ++ offset_text off

abbrev pub lin_text : Lin → List ℕ
lin_text l = based_text l.base l.off

abbrev pub is_same_base : Base → Base → Bool
is_same_base Fixed Fixed = true
is_same_base Param Param = true
is_same_base Var Var = true
is_same_base a b = false

abbrev pub is_same_lin : Lin → Lin → Bool
is_same_lin a b = is_same_base a.base b.base && int_eq a.off b.off

-- the indices of a guard: all, one, or those from and up to an end
abbrev pub index_text : Option Lin → Option Lin → List ℕ
index_text None None = []
index_text (Some low) None = joined (codes "[" ∷ lin_text low ∷ codes "..]" ∷ [])
index_text None (Some high) = joined (codes "[.." ∷ lin_text high ∷ codes "]" ∷ [])
index_text (Some low) (Some high) =
    if is_same_lin low high
    then joined (codes "[" ∷ lin_text low ∷ codes "]" ∷ [])
    else joined (codes "[" ∷ lin_text low ∷ codes ".." ∷ lin_text high ∷ codes "]" ∷ [])

abbrev pub from_text : Option ℕ → List ℕ
from_text None = []
from_text (Some n) = codes " N>=" ++ decimal n

abbrev pub to_text : Option ℕ → List ℕ
to_text None = []
to_text (Some n) = codes " N<=" ++ decimal n

abbrev pub guard_text : Program → Guard → List ℕ
guard_text p g = joined ((role_at p g.role).name ∷ index_text g.low g.high ∷ from_text g.from ∷ to_text g.to ∷ [])

abbrev pub others_text : Program → List Guard → List ℕ
others_text p [] = []
others_text p (g ∷ gs) = joined (codes " or " ∷ guard_text p g ∷ others_text p gs ∷ [])

-- several guards are joined by 'or'
abbrev pub guards_text : Program → List Guard → List ℕ
guards_text p [] = []
guards_text p (g ∷ gs) = guard_text p g ++ others_text p gs

abbrev pub peer_text : Program → Peer → List ℕ
peer_text p e = joined ((role_at p e.role).name ∷ codes "[" ∷ lin_text e.at ∷ codes "]" ∷ [])

abbrev pub op_text : Op → List ℕ
op_text Min = codes "min"
op_text Max = codes "max"
op_text Sum = codes "sum"

-- ---- lines

abbrev pub high_text : Option ℕ → List ℕ
high_text None = codes "max"
high_text (Some n) = decimal n

abbrev pub range_line : NRange → List ℕ
range_line r = line 0 (joined (codes "N " ∷ decimal r.low ∷ codes " to " ∷ high_text r.high ∷ []))

abbrev pub protocol_line : Program → List ℕ
protocol_line p = line 0 (joined (codes "local " ∷ p.protocol ∷ []))

abbrev pub when_line : Program → ℕ → List Guard → List ℕ
when_line p d guards = line d (codes "when " ++ guards_text p guards)

abbrev pub for_line : ℕ → Lin → Lin → List ℕ
for_line d low high = line d (joined (codes "for " ∷ lin_text low ∷ codes " to " ∷ lin_text high ∷ []))

-- the own index is written I
abbrev pub own_line : ℕ → ℤ → List ℕ
own_line d off = line d (codes "own I" ++ offset_text off)

abbrev pub loop_line : ℕ → ℕ → List ℕ
loop_line d id = line d (codes "loop " ++ decimal id)

abbrev pub again_line : ℕ → ℕ → List ℕ
again_line d id = line d (codes "again " ++ decimal id)

abbrev pub choice_line : Program → ℕ → ℕ → Guard → List ℕ
choice_line p d kernel who = line d (joined (codes "choice " ∷ (kernel_at p kernel).name ∷ codes " at " ∷ guard_text p who ∷ []))

abbrev pub relay_line : Program → ℕ → Relay → List ℕ
relay_line p d r = line d (joined (codes "relay " ∷ peer_text p r.from ∷ codes " when " ∷ guards_text p r.guards ∷ []))

abbrev pub test_line : Program → ℕ → Test → List ℕ
test_line p d t = line d (joined (codes "told " ∷ (label_at p t.label).name ∷ codes " " ∷ decimal t.branch ∷ codes " when " ∷ guards_text p t.guards ∷ []))

abbrev pub branch_line : ℕ → ℕ → List ℕ
branch_line d number = line d (codes "branch " ++ decimal number)

abbrev pub send_line : Program → ℕ → ℕ → Peer → List ℕ
send_line p d label to = line d (joined (codes "send " ∷ (label_at p label).name ∷ codes " to " ∷ peer_text p to ∷ []))

abbrev pub recv_line : Program → ℕ → ℕ → Peer → List ℕ
recv_line p d label from = line d (joined (codes "recv " ∷ (label_at p label).name ∷ codes " from " ∷ peer_text p from ∷ []))

abbrev pub run_line : Program → ℕ → ℕ → List ℕ
run_line p d kernel = line d (codes "run " ++ (kernel_at p kernel).name)

abbrev pub broadcast_line : Program → ℕ → ℕ → Peer → List ℕ
broadcast_line p d label root = line d (joined (codes "broadcast " ∷ (label_at p label).name ∷ codes " from " ∷ peer_text p root ∷ []))

abbrev pub reduce_line : Program → ℕ → ℕ → Op → Peer → List ℕ
reduce_line p d label op root = line d (joined (codes "reduce " ∷ (label_at p label).name ∷ codes " " ∷ op_text op ∷ codes " to " ∷ peer_text p root ∷ []))

abbrev pub allreduce_line : Program → ℕ → ℕ → Op → List ℕ
allreduce_line p d label op = line d (joined (codes "allreduce " ∷ (label_at p label).name ∷ codes " " ∷ op_text op ∷ []))

-- ---- statements: those inside a statement stand one deeper

abbrev pub relay_lines : Program → ℕ → List Relay → List ℕ
relay_lines p d [] = []
relay_lines p d (r ∷ rs) = relay_line p d r ++ relay_lines p d rs

abbrev pub test_lines : Program → ℕ → List Test → List ℕ
test_lines p d [] = []
test_lines p d (t ∷ ts) = test_line p d t ++ test_lines p d ts

abbrev pub choice_lines : Program → ℕ → Guard → ℕ → List Relay → List Test → List ℕ
choice_lines p d who kernel relays tests = choice_line p d kernel who ++ relay_lines p d relays ++ test_lines p d tests

abbrev mutual
  pub statement : Program → ℕ → Code → List ℕ
  statement p d (when guards first other) = when_line p d guards ++ statements p (d + 1) first ++ else_part p d other
  statement p d (for_each low high body) = for_line d low high ++ statements p (d + 1) body ++ line d (codes "end")
  statement p d (own off) = own_line d off
  statement p d (loop id body) = loop_line d id ++ statements p (d + 1) body ++ line d (codes "end")
  statement p d (again id) = again_line d id
  statement p d (choice who kernel relays from tests branches) =
      choice_lines p d who kernel relays tests ++ branches_from p d 0 branches
  statement p d (send label to) = send_line p d label to
  statement p d (recv label from) = recv_line p d label from
  statement p d (run kernel) = run_line p d kernel
  statement p d barrier = line d (codes "barrier")
  statement p d (broadcast label root) = broadcast_line p d label root
  statement p d (reduce label op root) = reduce_line p d label op root
  statement p d (allreduce label op) = allreduce_line p d label op

  pub statements : Program → ℕ → Codes → List ℕ
  statements p d nothing = []
  statements p d (more c rest) = statement p d c ++ statements p d rest

  -- the other part, where it isn't empty, and the end
  pub else_part : Program → ℕ → Codes → List ℕ
  else_part p d nothing = line d (codes "end")
  else_part p d (more c rest) = line d (codes "else") ++ (statement p (d + 1) c ++ statements p (d + 1) rest) ++ line d (codes "end")

  -- the branches from number k on, and the end
  pub branches_from : Program → ℕ → ℕ → Parts → List ℕ
  branches_from p d k no_part = line d (codes "end")
  branches_from p d k (part b rest) = branch_line d k ++ statements p (d + 1) b ++ branches_from p d (k + 1) rest

abbrev pub branch_part : Program → ℕ → ℕ → Codes → List ℕ
branch_part p d k b = branch_line d k ++ statements p (d + 1) b

-- the layout of an endpoint program
abbrev pub layout : Program → List ℕ
layout p = protocol_line p ++ range_line p.range ++ statements p 0 p.body ++ line 0 (codes "done")
