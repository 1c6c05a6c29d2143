-- A plain text has the functions of a text whose labels carry their words.
use Rattle.std.proofs.Common.{◌≡◌, Bool, true, false, List, [], ◌∷◌, ◌++◌, length, map, ap, refl, sym, ◌∙◌}
use Rattle.std.specs.Prelude.{if◌then◌else◌}
use Rattle.std.proofs.lemmas.List.{length-map, map-append}
use Rattle.pb_syntax.specs.declared.core_label.CoreLabel.{CoreLabel}
use Rattle.pb_syntax.specs.declared.core_label.CoreKernel.{CoreKernel}
use Rattle.pb_syntax.specs.declared.core_label.KernelKind.{KernelKind}
use Rattle.pb_syntax.specs.declared.core_label.KernelKind.TheVariants.{Compute, Choice}
use Rattle.pb_local.specs.Tree.{Program}
use Rattle.pb_ctree.specs.Functions as C
use Rattle.pb_ctree.specs.Functions.{has_words, named}
use Rattle.pb_ctree.specs.declared.kernel.Kind.TheVariants.{Make, Take}
use Rattle.pb_types.specs.declared.carried.Carried.TheVariants.{Words}
use Rattle.pb_typed.specs.Functions.{body_name, kernel_function, kernel_role, kind_of, label_functions, labels_functions, typed_functions}

of_labels : (ls : List CoreLabel) → map body_name (labels_functions ls []) ≡ C.labels_functions ls
of_labels [] = refl
of_labels (l ∷ ls) = by_words (has_words l.payload) (of_labels ls) where
  by_words : (b : Bool) → map body_name (labels_functions ls []) ≡ C.labels_functions ls
      → map body_name (if b then label_functions Words l ++ labels_functions ls [] else labels_functions ls [])
      ≡ (if b then named Make l.name ∷ named Take l.name ∷ [] else []) ++ C.labels_functions ls
  by_words true rest = ap (λ names. named Make l.name ∷ named Take l.name ∷ names) rest
  by_words false rest = rest

same_kind : (kind : KernelKind) → kind_of (kernel_role kind) ≡ C.kind_of kind
same_kind Compute = refl
same_kind Choice = refl

of_kernels : (ks : List CoreKernel) → map body_name (map kernel_function ks) ≡ map C.kernel_function ks
of_kernels [] = refl
of_kernels (k ∷ ks) = ap (λ kind. named kind k.name ∷ map body_name (map kernel_function ks)) (same_kind k.kind) ∙ ap (λ rest. C.kernel_function k ∷ rest) (of_kernels ks)

pub same_names : (p : Program) → map body_name (typed_functions p []) ≡ C.functions_of p
same_names p =
    map-append body_name (labels_functions p.labels []) (map kernel_function p.kernels)
    ∙ ap (λ front. front ++ map body_name (map kernel_function p.kernels)) (of_labels p.labels) ∙ ap (λ rest. C.labels_functions p.labels ++ rest) (of_kernels p.kernels)

pub as_many : (p : Program) → length (typed_functions p []) ≡ length (C.functions_of p)
as_many p = sym (length-map (typed_functions p []) body_name) ∙ ap length (same_names p)
