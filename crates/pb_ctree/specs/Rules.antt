-- The rules that lines keep, as tests.
use Rattle.std.specs.Prelude.{ℕ, ℤ, pos, negsuc, int_le, nat_eq, nat_lt, nat_le, not, Bool, true, false, ◌&&◌, ◌||◌, Option, Some, None, List, [], ◌∷◌, length}
use Rattle.std.specs.List.{list_all, list_any}
use Rattle.std.specs.Cmp.Lexicographic.{pointwise}
use Rattle.pb_text.specs.declared.limits.TheConstants.{LEAST_OFFSET, MOST_NUMBER, MOST_OFFSET}
use Rattle.pb_affine.specs.declared.lin.Base.{Base}
use Rattle.pb_affine.specs.declared.lin.Base.TheVariants.{Fixed, Param, Var}
use Rattle.pb_affine.specs.declared.lin.Lin.{Lin}
use Rattle.pb_affine.specs.declared.guard.Guard.{Guard}
use Rattle.pb_affine.specs.declared.range.NRange.{NRange}
use Rattle.pb_affine.specs.Values.{value}
use Rattle.pb_syntax.specs.declared.tree.Payload.{Payload}
use Rattle.pb_syntax.specs.declared.tree.Payload.TheVariants.{Unit as NoWords, Int32, Uint32}
use Rattle.pb_syntax.specs.declared.tree.Op.{Op}
use Rattle.pb_syntax.specs.declared.tree.Op.TheVariants.{Min, Max, Sum}
use Rattle.pb_syntax.specs.declared.core_label.CoreLabel.{CoreLabel}
use Rattle.pb_syntax.specs.declared.core_label.CoreKernel.{CoreKernel}
use Rattle.pb_syntax.specs.declared.core_label.KernelKind.{KernelKind}
use Rattle.pb_syntax.specs.declared.core_label.KernelKind.TheVariants.{Compute as Computes, Choice as Chooses}
use Rattle.pb_local.specs.declared.stmt.Peer.{Peer}
use Rattle.pb_local.specs.declared.stmt.Test.{Test}
use Rattle.pb_local.specs.declared.tables.Role.{Role}
use Rattle.pb_local.specs.Layout.{is_same_lin}
use Rattle.pb_local.specs.Names.{is_name}
use Rattle.pb_local.specs.Ranks.{ranks_of}
use Rattle.pb_local.specs.Tables.{kernel_at}
use Rattle.pb_local.specs.Tree.{Program}
use Rattle.pb_ctree.specs.Functions.{has_words}
use Rattle.pb_ctree.specs.Small.{payload_of}

abbrev pub is_number : ℕ → Bool
is_number n = nat_le n MOST_NUMBER

-- ---- the head

abbrev pub is_upper_end : ℕ → Option ℕ → Bool
is_upper_end low None = true
is_upper_end low (Some high) = nat_le low high && is_number high

abbrev pub is_range : NRange → Bool
is_range r = nat_le 1 r.low && is_number r.low && is_upper_end r.low r.high

abbrev pub is_offset : ℤ → Bool
is_offset off = int_le LEAST_OFFSET off && int_le off MOST_OFFSET

abbrev pub is_var : Base → Bool
is_var Fixed = false
is_var Param = false
is_var Var = true

abbrev pub has_index_at : ℕ → Role → Bool
has_index_at n r = int_le (value r.low (pos n) (pos 0)) (value r.high (pos n) (pos 0))

-- of two ends without a variable, one that isn't below the other at the ends of the range is so nowhere between them
abbrev pub goes_on : Base → Base → Bool
goes_on Param Fixed = false
goes_on low high = true

abbrev pub has_index_above : Option ℕ → Role → Bool
has_index_above None r = goes_on r.low.base r.high.base
has_index_above (Some high) r = has_index_at high r

-- at least one index for every N
abbrev pub has_index : NRange → Role → Bool
has_index range r = has_index_at range.low r && has_index_above range.high r

abbrev pub is_among : List ℕ → List (List ℕ) → Bool
is_among name names = list_any (pointwise nat_eq name) names

-- a role, and those before it
abbrev pub is_role : NRange → List (List ℕ) → Role → Bool
is_role range before r =
    is_name r.name && not (is_among r.name before) && nat_lt (length before) 64
    && is_offset r.low.off && is_offset r.high.off && not (is_var r.low.base) && not (is_var r.high.base) && has_index range r

abbrev pub is_single : NRange → Bool
is_single r = is_end r.high where
  is_end : Option ℕ → Bool
  is_end None = false
  is_end (Some high) = nat_eq high r.low

-- there is a role, and a world of another size has another N
abbrev pub has_size : Program → Bool
has_size p = nat_lt 0 (length p.roles) && (int_le (pos 1) (ranks_of p.roles).a || is_single p.range)

abbrev pub is_payload : Payload → Bool
is_payload NoWords = true
is_payload (Int32 count) = nat_le 1 count && nat_le count 1024
is_payload (Uint32 count) = nat_le 1 count && nat_le count 1024

-- a label, and those before it
abbrev pub is_label_row : List (List ℕ) → CoreLabel → Bool
is_label_row before l = is_name l.name && not (is_among l.name before) && nat_lt (length before) 4000 && is_payload l.payload

-- a kernel, and those before it
abbrev pub is_kernel_row : List (List ℕ) → CoreKernel → Bool
is_kernel_row before k = is_name k.name && not (is_among k.name before) && nat_lt (length before) 4000

-- ---- parts of statements

abbrev pub is_small_if : Option Lin → Bool
is_small_if None = true
is_small_if (Some l) = is_offset l.off

abbrev pub is_number_if : Option ℕ → Bool
is_number_if None = true
is_number_if (Some n) = is_number n

abbrev pub is_guard : Program → Guard → Bool
is_guard p g = nat_lt g.role (length p.roles) && is_small_if g.low && is_small_if g.high && is_number_if g.from && is_number_if g.to

-- a list of guards isn't empty
abbrev pub are_guards : Program → List Guard → Bool
are_guards p [] = false
are_guards p (g ∷ gs) = is_guard p g && list_all (is_guard p) gs

abbrev pub is_peer : Program → Peer → Bool
is_peer p e = nat_lt e.role (length p.roles) && is_offset e.at.off

abbrev pub is_label : Program → ℕ → Bool
is_label p label = nat_lt label (length p.labels)

abbrev pub is_wordy : Program → ℕ → Bool
is_wordy p label = has_words (payload_of p label)

-- a sum is of unsigned numbers
abbrev pub goes_with : Op → Payload → Bool
goes_with Sum NoWords = false
goes_with Sum (Int32 count) = false
goes_with Sum (Uint32 count) = true
goes_with Min payload = has_words payload
goes_with Max payload = has_words payload

abbrev pub is_choice_kind : KernelKind → Bool
is_choice_kind Computes = false
is_choice_kind Chooses = true

abbrev pub computes : Program → ℕ → Bool
computes p k = nat_lt k (length p.kernels) && not (is_choice_kind (kernel_at p k).kind)

abbrev pub can_choose : Program → ℕ → Bool
can_choose p k = nat_lt k (length p.kernels) && is_choice_kind (kernel_at p k).kind

-- one rank, for every N
abbrev pub is_one : Option Lin → Option Lin → Bool
is_one None high = false
is_one (Some low) None = false
is_one (Some low) (Some high) = is_same_lin low high && not (is_var low.base)

abbrev pub is_absent : Option ℕ → Bool
is_absent None = true
is_absent (Some n) = false

abbrev pub is_chooser : Guard → Bool
is_chooser g = is_one g.low g.high && is_absent g.from && is_absent g.to

-- tests ascend by branch, and then by label
abbrev pub comes_after : Option Test → Test → Bool
comes_after None t = true
comes_after (Some s) t = nat_lt s.branch t.branch || (nat_eq s.branch t.branch && nat_lt s.label t.label)

abbrev pub are_below : List Test → ℕ → Bool
are_below tests n = list_all (λ t. nat_lt t.branch n) tests

abbrev pub is_at : Option Lin → Lin → Bool
is_at None l = false
is_at (Some low) l = is_same_lin l low

-- the peer is the chooser
abbrev pub is_peer_of : Peer → Guard → Bool
is_peer_of e g = nat_eq e.role g.role && is_at g.low e.at
