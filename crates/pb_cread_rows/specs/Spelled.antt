-- How the lines of the tables are spelled, and the rules that they keep.
use Rattle.std.specs.Prelude.{◌≡◌, ◌<◌, ℕ, Bool, false, not, ◌&&◌, List, [], ◌∷◌, map, length, codes}
use Rattle.pb_affine.specs.declared.range.NRange.{NRange}
use Rattle.pb_syntax.specs.declared.core_label.CoreLabel.{CoreLabel}
use Rattle.pb_syntax.specs.declared.core_label.CoreKernel.{CoreKernel}
use Rattle.pb_local.specs.declared.tables.Role.{Role}
use Rattle.pb_local.specs.Pieces as P
use Rattle.pb_local.specs.Tree.{Program, nothing}
use Rattle.pb_ctree.specs.Frame.{range_text, role_text, label_text, kernel_head}
use Rattle.pb_ctree.specs.Rules.{is_among, is_offset, is_var}

abbrev pub names_of_roles : List Role → List (List ℕ)
names_of_roles roles = map (λ r. r.name) roles

abbrev pub names_of_labels : List CoreLabel → List (List ℕ)
names_of_labels labels = map (λ l. l.name) labels

abbrev pub names_of_kernels : List CoreKernel → List (List ℕ)
names_of_kernels kernels = map (λ k. k.name) kernels

abbrev pub tables : NRange → List Role → Program
tables range roles = record { protocol = []; range = range; roles = roles; labels = []; kernels = []; body = nothing }

abbrev pub protocol_text : List ℕ → List ℕ
protocol_text name = P.line 0 (P.joined (codes "/* protocol " ∷ name ∷ codes " */" ∷ []))

abbrev pub range_line : NRange → List ℕ
range_line r = P.line 0 (range_text r)

abbrev pub role_line : Role → List ℕ
role_line r = P.line 0 (role_text r)

abbrev pub label_line : CoreLabel → List ℕ
label_line l = P.line 0 (label_text l)

abbrev pub kernel_line : CoreKernel → List ℕ
kernel_line k = P.line 0 (kernel_head k)

-- ends without a variable, within 1,000,000 of zero
abbrev pub has_fixed_ends : Role → Bool
has_fixed_ends r = is_offset r.low.off && is_offset r.high.off && not (is_var r.low.base) && not (is_var r.high.base)

-- none of the names before it, of which there may be fewer than so many
pub record IsFresh (most : ℕ) (before : List (List ℕ)) (name : List ℕ) : Type 0 where
  pub few : length before < most
  pub absent : is_among name before ≡ false
