-- What numbers stand for in a program's tables. A number that no row has gives no name and no words.
use Rattle.std.specs.Prelude.{ℕ, pos, [], get_or}
use Rattle.pb_affine.specs.declared.lin.Base.TheVariants.{Fixed}
use Rattle.pb_affine.specs.declared.lin.Lin.{Lin}
use Rattle.pb_syntax.specs.declared.tree.Payload.TheVariants.{Unit as NoWords}
use Rattle.pb_syntax.specs.declared.core_label.CoreLabel.{CoreLabel}
use Rattle.pb_syntax.specs.declared.core_label.CoreKernel.{CoreKernel}
use Rattle.pb_syntax.specs.declared.core_label.KernelKind.TheVariants.{Compute}
use Rattle.pb_local.specs.declared.tables.Role.{Role}
use Rattle.pb_local.specs.Tree.{Program}

abbrev zero_lin : Lin
zero_lin = record { base = Fixed; off = pos 0 }

abbrev pub role_at : Program → ℕ → Role
role_at p n = get_or p.roles n (record { name = []; low = zero_lin; high = zero_lin })

abbrev pub label_at : Program → ℕ → CoreLabel
label_at p n = get_or p.labels n (record { name = []; payload = NoWords })

abbrev pub kernel_at : Program → ℕ → CoreKernel
kernel_at p n = get_or p.kernels n (record { name = []; kind = Compute })
