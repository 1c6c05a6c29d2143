-- Which lines have numbers that fit the types of an item, and name rows that the tables have.
use Rattle.std.specs.Prelude.{ℕ, ◌<◌, ◌^◌, ℤ, pos, negsuc, length, All, Option, Some, None}
use Rattle.pb_affine.specs.declared.lin.Lin.{Lin}
use Rattle.pb_affine.specs.declared.guard.Guard.{Guard}
use Rattle.pb_local.specs.declared.stmt.Peer.{Peer}
use Rattle.pb_local.specs.Tree.{Program}
use Rattle.pb_ctree.specs.Lines.{Item, raw, close, else_open, if_open, else_if_open, for_open, own_is, loop_open, goto, makes, root_makes, takes, root_takes, mpi_send, mpi_recv, mpi_barrier, mpi_bcast, mpi_reduce, mpi_allreduce, calls, chooses, probe, test_open, else_test_open, picks, aborts, pick_open, else_pick_open}

-- 32 bits without a sign
abbrev pub FitsNumber : ℕ → Type 0
FitsNumber n = n < 2 ^ 32

abbrev pub FitsNumberIf : Option ℕ → Type 0
FitsNumberIf None = Unit {0}
FitsNumberIf (Some n) = FitsNumber n

-- 32 bits with a sign; `negsuc n` is -(n + 1)
abbrev pub FitsOffset : ℤ → Type 0
FitsOffset (pos n) = n < 2 ^ 31
FitsOffset (negsuc n) = n < 2 ^ 31

abbrev pub FitsLinIf : Option Lin → Type 0
FitsLinIf None = Unit {0}
FitsLinIf (Some l) = FitsOffset l.off

pub record FitsGuard (g : Guard) : Type 0 where
  pub role : FitsNumber g.role
  pub low : FitsLinIf g.low
  pub high : FitsLinIf g.high
  pub from : FitsNumberIf g.from
  pub to : FitsNumberIf g.to

-- a root is spelled by its role's number
pub record FitsRoot (e : Peer) : Type 0 where
  pub role : FitsNumber e.role
  pub at : FitsOffset e.at.off

-- a peer is spelled by its role's name
pub record FitsPeer (p : Program) (e : Peer) : Type 0 where
  pub role : e.role < length p.roles
  pub at : FitsOffset e.at.off

abbrev pub HasLabel : Program → ℕ → Type 0
HasLabel p label = label < length p.labels

abbrev pub HasKernel : Program → ℕ → Type 0
HasKernel p kernel = kernel < length p.kernels

-- a line of statements; of what is spelled by its name alone, the tables have the row
abbrev pub Fits : Program → Item → Type 0
Fits p (raw text) = ⊥
Fits p close = Unit {0}
Fits p else_open = Unit {0}
Fits p (if_open guards) = All FitsGuard guards
Fits p (else_if_open guards) = All FitsGuard guards
Fits p (for_open low high) = FitsOffset low.off × FitsOffset high.off
Fits p (own_is off) = FitsOffset off
Fits p (loop_open id) = FitsNumber id
Fits p (goto id) = FitsNumber id
Fits p (makes label) = HasLabel p label
Fits p (root_makes root label) = FitsRoot root × HasLabel p label
Fits p (takes label side) = HasLabel p label
Fits p (root_takes root label) = FitsRoot root × HasLabel p label
Fits p (mpi_send label to) = FitsNumber label × FitsPeer p to
Fits p (mpi_recv label from) = FitsNumber label × FitsPeer p from
Fits p mpi_barrier = Unit {0}
Fits p (mpi_bcast label root) = HasLabel p label × FitsPeer p root
Fits p (mpi_reduce label op root) = HasLabel p label × FitsPeer p root
Fits p (mpi_allreduce label op) = HasLabel p label
Fits p (calls kernel) = HasKernel p kernel
Fits p (chooses kernel) = HasKernel p kernel
Fits p (probe from) = FitsPeer p from
Fits p (test_open label guards) = FitsNumber label × All FitsGuard guards
Fits p (else_test_open label guards) = FitsNumber label × All FitsGuard guards
Fits p (picks branch) = FitsNumber branch
Fits p aborts = Unit {0}
Fits p (pick_open branch) = FitsNumber branch
Fits p (else_pick_open branch) = FitsNumber branch
