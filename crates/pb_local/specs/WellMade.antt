-- Which endpoint programs are well made.
use Rattle.std.specs.Prelude.{◌≡◌, ◌≢◌, ℕ, suc, ◌+◌, ◌<◌, ◌≤◌, pos, ◌≤ℤ◌, IsTrue, Option, Some, None, List, [], ◌∷◌, length, map, All, Contains, ◌⊎◌}
use Rattle.pb_text.specs.declared.limits.TheConstants.{MOST_NUMBER}
use Rattle.pb_affine.specs.declared.lin.Base.TheVariants.{Var}
use Rattle.pb_affine.specs.declared.lin.Lin.{Lin}
use Rattle.pb_affine.specs.declared.guard.Guard.{Guard}
use Rattle.pb_affine.specs.declared.range.NRange.{NRange}
use Rattle.pb_affine.specs.Values.{value, IsSmall, IsSmallGuard}
use Rattle.pb_syntax.specs.declared.tree.Payload.{Payload}
use Rattle.pb_syntax.specs.declared.tree.Payload.TheVariants.{Unit as NoWords, Int32, Uint32}
use Rattle.pb_syntax.specs.declared.tree.Op.{Op}
use Rattle.pb_syntax.specs.declared.tree.Op.TheVariants.{Min, Max, Sum}
use Rattle.pb_syntax.specs.declared.core_label.CoreLabel.{CoreLabel}
use Rattle.pb_syntax.specs.declared.core_label.CoreKernel.{CoreKernel}
use Rattle.pb_syntax.specs.declared.core_label.KernelKind.TheVariants.{Compute, Choice as Chooses}
use Rattle.pb_local.specs.declared.stmt.Peer.{Peer}
use Rattle.pb_local.specs.declared.stmt.Test.{Test}
use Rattle.pb_local.specs.declared.stmt.Relay.{Relay}
use Rattle.pb_local.specs.declared.tables.Role.{Role}
use Rattle.pb_local.specs.Names.{is_name, AreDistinct}
use Rattle.pb_local.specs.Ranks.{ranks_of}
use Rattle.pb_local.specs.Tables.{label_at, kernel_at}
use Rattle.pb_local.specs.Tree.{Code, when, for_each, own, loop, again, choice, send, recv, run, barrier, broadcast, reduce, allreduce, Codes, nothing, more, Parts, no_part, part, Program}

-- ---- the tables

abbrev pub IsUpperEnd : ℕ → Option ℕ → Type 0
IsUpperEnd low None = Unit {0}
IsUpperEnd low (Some high) = (low ≤ high) × (high ≤ MOST_NUMBER)

pub record IsRange (r : NRange) : Type 0 where
  pub some : 1 ≤ r.low
  pub most : r.low ≤ MOST_NUMBER
  pub high : IsUpperEnd r.low r.high

abbrev pub IsUpTo : ℕ → Option ℕ → Type 0
IsUpTo n None = Unit {0}
IsUpTo n (Some high) = n ≤ high

-- n is a number of the range
pub record IsInRange (r : NRange) (n : ℕ) : Type 0 where
  pub low : r.low ≤ n
  pub high : IsUpTo n r.high

-- the range has one number
abbrev pub IsSingle : NRange → Type 0
IsSingle r = r.high ≡ Some r.low

pub record IsRole (range : NRange) (r : Role) : Type 0 where
  pub name : IsTrue (is_name r.name)
  pub low : IsSmall r.low.off
  pub high : IsSmall r.high.off
  pub low_fixed : r.low.base ≢ Var
  pub high_fixed : r.high.base ≢ Var
  -- at least one index for every N
  pub some : (n : ℕ) → IsInRange range n → value r.low (pos n) (pos 0) ≤ℤ value r.high (pos n) (pos 0)

abbrev pub IsPayload : Payload → Type 0
IsPayload NoWords = Unit {0}
IsPayload (Int32 count) = (1 ≤ count) × (count ≤ 1024)
IsPayload (Uint32 count) = (1 ≤ count) × (count ≤ 1024)

pub record IsLabelRow (l : CoreLabel) : Type 0 where
  pub name : IsTrue (is_name l.name)
  pub payload : IsPayload l.payload

pub record AreRoles (range : NRange) (roles : List Role) : Type 0 where
  pub some : 1 ≤ length roles
  pub most : length roles ≤ 64
  pub distinct : AreDistinct (map (λ r. r.name) roles)
  pub each : All (IsRole range) roles
  -- a world of another size has another N
  pub size : (pos 1 ≤ℤ (ranks_of roles).a) ⊎ IsSingle range

pub record AreLabels (labels : List CoreLabel) : Type 0 where
  pub most : length labels ≤ 4000
  pub distinct : AreDistinct (map (λ l. l.name) labels)
  pub each : All IsLabelRow labels

pub record AreKernels (kernels : List CoreKernel) : Type 0 where
  pub most : length kernels ≤ 4000
  pub distinct : AreDistinct (map (λ k. k.name) kernels)
  pub each : All (λ k. IsTrue (is_name k.name)) kernels

-- ---- parts of statements

pub record IsPeer (p : Program) (e : Peer) : Type 0 where
  pub role : e.role < length p.roles
  pub off : IsSmall e.at.off

abbrev pub IsBoundIf : Option ℕ → Type 0
IsBoundIf None = Unit {0}
IsBoundIf (Some n) = n ≤ MOST_NUMBER

pub record IsGuard (p : Program) (g : Guard) : Type 0 where
  pub role : g.role < length p.roles
  pub small : IsSmallGuard g
  pub from : IsBoundIf g.from
  pub to : IsBoundIf g.to

-- a list of guards isn't empty
pub record AreGuards (p : Program) (gs : List Guard) : Type 0 where
  pub some : 1 ≤ length gs
  pub each : All (IsGuard p) gs

abbrev pub IsLabel : Program → ℕ → Type 0
IsLabel p label = label < length p.labels

abbrev pub HasWords : Payload → Type 0
HasWords NoWords = ⊥
HasWords (Int32 count) = Unit {0}
HasWords (Uint32 count) = Unit {0}

-- a sum is of unsigned numbers
abbrev pub GoesWith : Op → Payload → Type 0
GoesWith Sum NoWords = ⊥
GoesWith Sum (Int32 count) = ⊥
GoesWith Sum (Uint32 count) = Unit {0}
GoesWith Min payload = HasWords payload
GoesWith Max payload = HasWords payload

-- one rank, for every N
abbrev pub IsOne : Option Lin → Option Lin → Type 0
IsOne None high = ⊥
IsOne (Some low) None = ⊥
IsOne (Some low) (Some high) = (low ≡ high) × (low.base ≢ Var)

pub record IsChooser (g : Guard) : Type 0 where
  pub one : IsOne g.low g.high
  pub from : g.from ≡ None
  pub to : g.to ≡ None

pub record IsRelay (p : Program) (r : Relay) : Type 0 where
  pub guards : AreGuards p r.guards
  pub from : IsPeer p r.from

pub record IsTest (p : Program) (branches : ℕ) (t : Test) : Type 0 where
  pub branch : t.branch < branches
  pub label : IsLabel p t.label
  pub guards : AreGuards p t.guards

-- by branch, and then by label
abbrev pub ComesAfter : Test → Test → Type 0
ComesAfter s t = (s.branch < t.branch) ⊎ ((s.branch ≡ t.branch) × (s.label < t.label))

abbrev pub Ascend : List Test → Type 0
Ascend [] = Unit {0}
Ascend (t ∷ []) = Unit {0}
Ascend (s ∷ t ∷ ts) = ComesAfter s t × Ascend (t ∷ ts)

-- where nobody is told the branch, nobody asks for it: there are no relays, and the source is the chooser
abbrev pub IsToldIf : Guard → List Relay → Peer → List Test → Type 0
IsToldIf who relays from [] = (relays ≡ []) × (from.role ≡ who.role) × (who.low ≡ Some from.at)
IsToldIf who relays from (t ∷ ts) = Unit {0}

abbrev pub count_parts : Parts → ℕ
count_parts no_part = 0
count_parts (part b rest) = suc (count_parts rest)

pub record IsChoice (p : Program) (who : Guard) (kernel : ℕ) (relays : List Relay) (from : Peer) (tests : List Test) (branches : ℕ) : Type 0 where
  pub guard : IsGuard p who
  pub chooser : IsChooser who
  pub known : kernel < length p.kernels
  pub chooses : (kernel_at p kernel).kind ≡ Chooses
  pub each_relay : All (IsRelay p) relays
  pub source : IsPeer p from
  pub each_test : All (IsTest p branches) tests
  pub ascend : Ascend tests
  pub told : IsToldIf who relays from tests
  pub some : 2 ≤ branches
  pub most : branches ≤ 64

-- ---- statements

-- how many loops stand in a statement
abbrev mutual
  pub loops_at : Code → ℕ
  loops_at (when guards first other) = loops_in first + loops_in other
  loops_at (for_each low high body) = loops_in body
  loops_at (own off) = 0
  loops_at (loop id body) = suc (loops_in body)
  loops_at (again id) = 0
  loops_at (choice who kernel relays from tests branches) = loops_among branches
  loops_at (send label to) = 0
  loops_at (recv label from) = 0
  loops_at (run kernel) = 0
  loops_at barrier = 0
  loops_at (broadcast label root) = 0
  loops_at (reduce label op root) = 0
  loops_at (allreduce label op) = 0

  pub loops_in : Codes → ℕ
  loops_in nothing = 0
  loops_in (more c rest) = loops_at c + loops_in rest

  pub loops_among : Parts → ℕ
  loops_among no_part = 0
  loops_among (part b rest) = loops_in b + loops_among rest

-- where a statement stands: how many loops begin before it, and those that are around it
pub record Scope : Type 0 where
  pub loops : ℕ
  pub around : List ℕ

abbrev pub outermost : Scope
outermost = record { loops = 0; around = [] }

abbrev pub behind : Scope → ℕ → Scope
behind s loops = record { loops = s.loops + loops; around = s.around }

abbrev pub in_loop : Scope → ℕ → Scope
in_loop s id = record { loops = s.loops + 1; around = id ∷ s.around }

abbrev mutual
  pub IsMade : Program → Scope → Code → Type 0
  IsMade p s (when guards first other) = AreGuards p guards × AreMade p s first × AreMade p (behind s (loops_in first)) other
  IsMade p s (for_each low high body) = IsSmall low.off × IsSmall high.off × AreMade p s body
  IsMade p s (own off) = IsSmall off
  -- loops are numbered from 0 in text order
  IsMade p s (loop id body) = (id ≡ s.loops) × AreMade p (in_loop s id) body
  IsMade p s (again id) = Contains s.around id
  IsMade p s (choice who kernel relays from tests branches) = IsChoice p who kernel relays from tests (count_parts branches) × ArePartsMade p s branches
  IsMade p s (send label to) = IsLabel p label × IsPeer p to
  IsMade p s (recv label from) = IsLabel p label × IsPeer p from
  IsMade p s (run kernel) = (kernel < length p.kernels) × ((kernel_at p kernel).kind ≡ Compute)
  IsMade p s barrier = Unit {0}
  IsMade p s (broadcast label root) = IsLabel p label × HasWords (label_at p label).payload × IsPeer p root
  IsMade p s (reduce label op root) = IsLabel p label × GoesWith op (label_at p label).payload × IsPeer p root
  IsMade p s (allreduce label op) = IsLabel p label × GoesWith op (label_at p label).payload

  pub AreMade : Program → Scope → Codes → Type 0
  AreMade p s nothing = Unit {0}
  AreMade p s (more c rest) = IsMade p s c × AreMade p (behind s (loops_at c)) rest

  pub ArePartsMade : Program → Scope → Parts → Type 0
  ArePartsMade p s no_part = Unit {0}
  ArePartsMade p s (part b rest) = AreMade p s b × ArePartsMade p (behind s (loops_in b)) rest

pub record IsWellMade (p : Program) : Type 0 where
  pub protocol : IsTrue (is_name p.protocol)
  pub range : IsRange p.range
  pub roles : AreRoles p.range p.roles
  pub labels : AreLabels p.labels
  pub kernels : AreKernels p.kernels
  pub body : AreMade p outermost p.body
