-- The kernel functions of a C text, and their bodies where nothing else is given.
use Rattle.std.specs.Prelude.{ℕ, Bool, true, false, if◌then◌else◌, Some, List, [], ◌∷◌, ◌++◌, codes, map}
use Rattle.pb_syntax.specs.declared.tree.Payload.{Payload}
use Rattle.pb_syntax.specs.declared.tree.Payload.TheVariants.{Unit as NoWords, Int32, Uint32}
use Rattle.pb_syntax.specs.declared.core_label.CoreLabel.{CoreLabel}
use Rattle.pb_syntax.specs.declared.core_label.CoreKernel.{CoreKernel}
use Rattle.pb_syntax.specs.declared.core_label.KernelKind.{KernelKind}
use Rattle.pb_syntax.specs.declared.core_label.KernelKind.TheVariants.{Compute as Computes, Choice as Chooses}
use Rattle.pb_local.specs.Tree.{Program}
use Rattle.pb_ctree.specs.declared.kernel.Kind.{Kind}
use Rattle.pb_ctree.specs.declared.kernel.Kind.TheVariants.{Prelude, Compute, Choice, Make, Take, Room}
use Rattle.pb_ctree.specs.declared.kernel.KName.{KName}

abbrev pub has_words : Payload → Bool
has_words NoWords = false
has_words (Int32 count) = true
has_words (Uint32 count) = true

abbrev pub named : Kind → List ℕ → KName
named kind name = record { kind = kind; name = Some name }

-- a label with words has two functions: one makes its words, one takes them
abbrev pub label_functions : CoreLabel → List KName
label_functions l = if has_words l.payload then named Make l.name ∷ named Take l.name ∷ [] else []

abbrev pub kind_of : KernelKind → Kind
kind_of Computes = Compute
kind_of Chooses = Choice

abbrev pub kernel_function : CoreKernel → KName
kernel_function k = named (kind_of k.kind) k.name

abbrev pub labels_functions : List CoreLabel → List KName
labels_functions [] = []
labels_functions (l ∷ ls) = label_functions l ++ labels_functions ls

-- the kernel functions, in printed order
abbrev pub functions_of : Program → List KName
functions_of p = labels_functions p.labels ++ map kernel_function p.kernels

abbrev pub default_of : Kind → List ℕ
default_of Prelude = []
default_of Compute = []
default_of Choice = codes "  return 0;\n"
default_of Make = []
default_of Take = []
default_of Room = []

abbrev pub defaults_of : Program → List (List ℕ)
defaults_of p = map (λ f. default_of f.kind) (functions_of p)
