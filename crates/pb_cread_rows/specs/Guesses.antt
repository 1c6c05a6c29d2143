-- What a line of a table may say; that it is spelled so is seen by spelling it.
use Rattle.std.specs.Prelude.{ℕ, Bool, ◌&&◌, nat_eq, cond, List, Option, Some, None, codes}
use Rattle.std.specs.Cmp.Lexicographic.{pointwise}
use Rattle.pb_affine.specs.declared.lin.Lin.{Lin}
use Rattle.pb_affine.specs.declared.range.NRange.{NRange}
use Rattle.pb_syntax.specs.declared.tree.Payload.{Payload}
use Rattle.pb_syntax.specs.declared.tree.Payload.TheVariants.{Unit as NoWords, Int32, Uint32}
use Rattle.pb_syntax.specs.declared.core_label.CoreLabel.{CoreLabel}
use Rattle.pb_syntax.specs.declared.core_label.CoreKernel.{CoreKernel}
use Rattle.pb_syntax.specs.declared.core_label.KernelKind.{KernelKind}
use Rattle.pb_syntax.specs.declared.core_label.KernelKind.TheVariants.{Compute as Computes, Choice as Chooses}
use Rattle.pb_local.specs.declared.tables.Role.{Role}
use Rattle.pb_text_read.specs.Fronts.{◌>>=◌, after, strip}
use Rattle.pb_cread_rows.specs.Parts.{number_at, lin_at, name_at}

abbrev pub protocol_guess : List ℕ → Option (List ℕ)
protocol_guess line = strip (codes "/* protocol ") line >>= λ b. name_at b >>= λ n. Some n.0

abbrev pub high_at : List ℕ → Option (Option ℕ)
high_at bytes = after (strip (codes "max") bytes) (λ b. Some None) (number_at bytes >>= λ n. Some (Some n.0))

abbrev pub range_of : ℕ → Option ℕ → NRange
range_of low high = record { low = low; high = high }

abbrev pub range_guess : List ℕ → Option NRange
range_guess line = strip (codes "/* N ") line >>= λ b. number_at b >>= λ low. strip (codes " to ") low.1 >>= λ c. high_at c >>= λ high. Some (range_of low.0 high)

abbrev pub role_of : List ℕ → Lin → Lin → Role
role_of name low high = record { name = name; low = low; high = high }

abbrev pub role_guess : List ℕ → Option Role
role_guess line = strip (codes "/* role ") line >>= λ b. name_at b >>= λ name. strip (codes " ") name.1 >>= λ c. lin_at c >>= λ low.
    strip (codes " to ") low.1 >>= λ d. lin_at d >>= λ high. Some (role_of name.0 low.0 high.0)

abbrev pub payload_at : List ℕ → Option Payload
payload_at bytes = after (strip (codes "()") bytes) (λ b. Some NoWords)
    (after (strip (codes "int32[") bytes) (λ b. number_at b >>= λ n. Some (Int32 n.0)) (after (strip (codes "uint32[") bytes) (λ b. number_at b >>= λ n. Some (Uint32 n.0)) None))

abbrev pub label_of : List ℕ → Payload → CoreLabel
label_of name payload = record { name = name; payload = payload }

abbrev pub label_guess : List ℕ → Option CoreLabel
label_guess line = strip (codes "/* label ") line >>= λ b. name_at b >>= λ name. strip (codes " ") name.1 >>= λ c. payload_at c >>= λ payload. Some (label_of name.0 payload)

abbrev pub kernel_of : List ℕ → KernelKind → CoreKernel
kernel_of name kind = record { name = name; kind = kind }

abbrev pub kernel_at : KernelKind → List ℕ → Option CoreKernel
kernel_at kind bytes = name_at bytes >>= λ name. Some (kernel_of name.0 kind)

abbrev pub kernel_guess : List ℕ → Option CoreKernel
kernel_guess line = after (strip (codes "static void k_") line) (kernel_at Computes) (after (strip (codes "static int32_t c_") line) (kernel_at Chooses) None)

-- a guess that keeps its rule, and that the line spells
abbrev pub if_spelled : {X : Type 0} → (X → List ℕ) → (X → Bool) → List ℕ → Option X → Option X
if_spelled text rule line None = None
if_spelled text rule line (Some x) = cond (pointwise nat_eq (text x) line && rule x) (Some x) None
