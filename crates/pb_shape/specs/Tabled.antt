-- What the core of an accepted file keeps of its tables: names, payloads, kinds of kernels, and how many there are.
use Rattle.std.specs.Prelude.{◌≡◌, ℕ, ◌+◌, ◌≤◌, IsTrue, map, get_or, []}
use Rattle.pb_syntax.specs.declared.core_label.CoreKernel.{CoreKernel}
use Rattle.pb_syntax.specs.declared.core_label.CoreLabel.{CoreLabel}
use Rattle.pb_syntax.specs.declared.core_label.KernelKind.TheVariants.{Compute, Choice as Chooses}
use Rattle.pb_syntax.specs.declared.tree.Payload.TheVariants.{Unit as NoWords}
use Rattle.pb_core_language.specs.Tree as T
use Rattle.pb_core_language.specs.Tree.{StmtTree, BlockTree, BranchTrees}
use Rattle.pb_core_language.specs.Plain.{Protocol}
use Rattle.pb_local.specs.Names.{is_name}
use Rattle.pb_local.specs.WellMade.{IsRange, AreRoles, AreLabels, AreKernels, HasWords, GoesWith}
use Rattle.pb_shape.specs.Places.{role_of}

abbrev pub label_at : Protocol → ℕ → CoreLabel
label_at p n = get_or p.labels n (record { name = []; payload = NoWords })

abbrev pub kernel_at : Protocol → ℕ → CoreKernel
kernel_at p n = get_or p.kernels n (record { name = []; kind = Compute })

abbrev pub count : BranchTrees → ℕ
count T.no_branch = 0
count (T.branch m b bs) = 1 + count bs

module _ (p : Protocol) where
  abbrev mutual
    pub Goes : StmtTree → Type 0
    Goes (T.message l f t) = Unit {0}
    Goes (T.foreach b m items) = GoAll items
    Goes (T.loop id m body) = GoAll body
    Goes (T.again id) = Unit {0}
    Goes (T.choice k at bs) = ((kernel_at p k).kind ≡ Chooses) × (2 ≤ count bs) × (count bs ≤ 64) × GoAmong bs
    Goes (T.run k at) = (kernel_at p k).kind ≡ Compute
    Goes T.barrier = Unit {0}
    Goes (T.broadcast l root) = HasWords (label_at p l).payload
    Goes (T.reduce l op root) = GoesWith op (label_at p l).payload
    Goes (T.allreduce l op) = GoesWith op (label_at p l).payload

    pub GoAll : BlockTree → Type 0
    GoAll T.nothing = Unit {0}
    GoAll (T.more m s rest) = Goes s × GoAll rest

    pub GoAmong : BranchTrees → Type 0
    GoAmong T.no_branch = Unit {0}
    GoAmong (T.branch m b bs) = GoAll b × GoAmong bs

pub record IsTabled (p : Protocol) : Type 0 where
  pub protocol : IsTrue (is_name p.name)
  pub range : IsRange p.range
  pub roles : AreRoles p.range (map role_of p.roles)
  pub labels : AreLabels p.labels
  pub kernels : AreKernels p.kernels
  pub body : GoAll p p.body.block
