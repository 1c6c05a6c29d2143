-- Statements that stand within the limits, where so many more braces may be opened, and how many they are.
use Rattle.std.proofs.Common.{◌≡◌, ℕ, suc, ◌+◌, ◌-◌, ◌<◌, ◌≤◌, List, [], ◌∷◌, ◌++◌, length, refl, ap, arith}
use Rattle.pb_syntax.specs.Tree.{PlainStatement, message, foreach, loop, again, choice, compute, barrier, broadcast, reduce, allreduce, PlainStatements, nothing, more, PlainBranches, no_branch, branch, PlainBlock, statements_of, branches_of}
use Rattle.pb_do_syntax.specs.Inlining.{Roles, renamed}
use Rattle.pb_do_text_laws.specs.Limits.{IsSmallRange, IsSmallEnd, IsSmallPayload, IsSmallPlain}

abbrev pub count : PlainBranches → ℕ
count no_branch = 0
count (branch at first rest) = suc (count rest)

abbrev mutual
  pub Fits : ℕ → PlainStatement → Type 0
  Fits l (message label carries from to) = IsSmallPayload carries × (IsSmallEnd from × IsSmallEnd to)
  Fits l (foreach place var over at items) = (0 < l) × (IsSmallRange over × AllFit (l - 1) items)
  Fits l (loop place name at body) = (0 < l) × AllFit (l - 1) body
  Fits l (again place name) = Unit {0}
  Fits l (choice place kernel who branches) = (0 < l) × (IsSmallEnd who × ((0 < count branches) × ((count branches ≤ 64) × BranchesFit (l - 1) branches)))
  Fits l (compute place kernel who) = IsSmallEnd who
  Fits l (barrier place) = Unit {0}
  Fits l (broadcast place label carries from) = IsSmallPayload carries × IsSmallEnd from
  Fits l (reduce place label carries by to) = IsSmallPayload carries × IsSmallEnd to
  Fits l (allreduce place label carries by) = IsSmallPayload carries

  pub AllFit : ℕ → PlainStatements → Type 0
  AllFit l nothing = Unit {0}
  AllFit l (more first rest) = Fits l first × AllFit l rest

  pub BranchesFit : ℕ → PlainBranches → Type 0
  BranchesFit l no_branch = Unit {0}
  BranchesFit l (branch at first rest) = AllFit l first × BranchesFit l rest

abbrev mutual
  pub size_at : PlainStatement → ℕ
  size_at (message label carries from to) = 1
  size_at (foreach place var over at items) = suc (size_in items)
  size_at (loop place name at body) = suc (size_in body)
  size_at (again place name) = 1
  size_at (choice place kernel who branches) = suc (size_among branches)
  size_at (compute place kernel who) = 1
  size_at (barrier place) = 1
  size_at (broadcast place label carries from) = 1
  size_at (reduce place label carries by to) = 1
  size_at (allreduce place label carries by) = 1

  pub size_in : PlainStatements → ℕ
  size_in nothing = 0
  size_in (more first rest) = size_at first + size_in rest

  pub size_among : PlainBranches → ℕ
  size_among no_branch = 0
  size_among (branch at first rest) = size_in first + size_among rest

-- ---- one more

pub fit_last : (l : ℕ) (xs : List PlainStatement) (s : PlainStatement) → AllFit l (statements_of xs) → Fits l s → AllFit l (statements_of (xs ++ s ∷ []))
fit_last l [] s all is = (is, tt)
fit_last l (x ∷ xs) s all is = (all.0, fit_last l xs s all.1 is)

pub size_last : (xs : List PlainStatement) (s : PlainStatement) → size_in (statements_of (xs ++ s ∷ [])) ≡ size_in (statements_of xs) + size_at s
size_last [] s = omega arith
size_last (x ∷ xs) s = omega (arith, size_last xs s)

pub fit_last_branch : (l : ℕ) (bs : List PlainBlock) (b : PlainBlock) → BranchesFit l (branches_of bs) → AllFit l b.list → BranchesFit l (branches_of (bs ++ b ∷ []))
fit_last_branch l [] b all is = (is, tt)
fit_last_branch l (x ∷ xs) b all is = (all.0, fit_last_branch l xs b all.1 is)

pub size_last_branch : (bs : List PlainBlock) (b : PlainBlock) → size_among (branches_of (bs ++ b ∷ [])) ≡ size_among (branches_of bs) + size_in b.list
size_last_branch [] b = omega arith
size_last_branch (x ∷ xs) b = omega (arith, size_last_branch xs b)

pub count_is : (bs : List PlainBlock) → count (branches_of bs) ≡ length bs
count_is [] = refl
count_is (b ∷ bs) = ap suc (count_is bs)

-- ---- statements without braces

abbrev pub IsLeaf : PlainStatement → Type 0
IsLeaf (foreach place var over at items) = ⊥
IsLeaf (loop place name at body) = ⊥
IsLeaf (choice place kernel who branches) = ⊥
IsLeaf other = Unit {0}

pub leaf_fits : (l : ℕ) (r : Roles) (s : PlainStatement) → IsLeaf s → IsSmallPlain s → Fits l (renamed r s)
leaf_fits l r (message label carries from to) is small = small
leaf_fits l r (foreach place var over at items) is small = absurd is
leaf_fits l r (loop place name at body) is small = absurd is
leaf_fits l r (again place name) is small = tt
leaf_fits l r (choice place kernel who branches) is small = absurd is
leaf_fits l r (compute place kernel who) is small = small
leaf_fits l r (barrier place) is small = tt
leaf_fits l r (broadcast place label carries from) is small = small
leaf_fits l r (reduce place label carries by to) is small = small
leaf_fits l r (allreduce place label carries by) is small = small

pub leaf_size : (r : Roles) (s : PlainStatement) → IsLeaf s → size_at (renamed r s) ≡ 1
leaf_size r (message label carries from to) is = refl
leaf_size r (foreach place var over at items) is = absurd is
leaf_size r (loop place name at body) is = absurd is
leaf_size r (again place name) is = refl
leaf_size r (choice place kernel who branches) is = absurd is
leaf_size r (compute place kernel who) is = refl
leaf_size r (barrier place) is = refl
leaf_size r (broadcast place label carries from) is = refl
leaf_size r (reduce place label carries by to) is = refl
leaf_size r (allreduce place label carries by) is = refl
