-- The functions of a well-made program have names of the protocol language.
use Rattle.std.proofs.Common.{Bool, true, false, List, [], ◌∷◌, ◌++◌, map}
use Rattle.std.specs.List.{All}
use Rattle.std.specs.Prelude.{IsTrue, if◌then◌else◌}
use Rattle.std.proofs.lemmas.List.Elements.{All-nil, All-cons, All-head, All-tail, All-append}
use Rattle.pb_syntax.specs.declared.core_label.CoreLabel.{CoreLabel}
use Rattle.pb_syntax.specs.declared.core_label.CoreKernel.{CoreKernel}
use Rattle.pb_local.specs.Names.{is_name}
use Rattle.pb_local.specs.Tree.{Program}
use Rattle.pb_local.specs.WellMade.{IsWellMade}
use Rattle.pb_ctree.specs.Functions.{has_words}
use Rattle.pb_types.specs.declared.carried.Carried.{Carried}
use Rattle.pb_types.specs.declared.carried.Carried.TheVariants.{Words, Fixed, Open}
use Rattle.pb_typed.specs.Frame.{first_carried, others_carried}
use Rattle.pb_typed.specs.Functions.{function, kernel_function, label_functions, labels_functions, typed_functions}
use Rattle.pb_typed.specs.declared.function.Role.TheVariants.{Makes, MakesOwn, GivesRoom, Takes, TakesOwn}
use Rattle.pb_typed_frame.specs.Functions.{Named}
use Rattle.pb_typed_frame.proofs.Tables.{label_names}

of_label : (c : Carried) (l : CoreLabel) → IsTrue (is_name l.name) → All Named (label_functions c l)
of_label Words l here = All-cons Named (function Makes l.name) (function Takes l.name ∷ []) here (All-cons Named (function Takes l.name) [] here (All-nil Named))
of_label (Fixed element number) l here = All-cons Named (function Makes l.name) (function Takes l.name ∷ []) here (All-cons Named (function Takes l.name) [] here (All-nil Named))
of_label (Open element) l here =
    All-cons Named (function MakesOwn l.name) (function GivesRoom l.name ∷ function TakesOwn l.name ∷ []) here
    (All-cons Named (function GivesRoom l.name) (function TakesOwn l.name ∷ []) here (All-cons Named (function TakesOwn l.name) [] here (All-nil Named)))

of_labels : (ls : List CoreLabel) (types : List Carried) → All (λ l. IsTrue (is_name l.name)) ls → All Named (labels_functions ls types)
of_labels [] types all = All-nil Named
of_labels (l ∷ ls) types all = by_words (has_words l.payload) (of_labels ls (others_carried types) (All-tail (λ (x : CoreLabel). IsTrue (is_name x.name)) l ls all)) where
  by_words : (b : Bool) → All Named (labels_functions ls (others_carried types))
      → All Named (if b then label_functions (first_carried types) l ++ labels_functions ls (others_carried types) else labels_functions ls (others_carried types))
  by_words true rest =
      All-append Named (label_functions (first_carried types) l) (labels_functions ls (others_carried types))
      (of_label (first_carried types) l (All-head (λ (x : CoreLabel). IsTrue (is_name x.name)) l ls all)) rest
  by_words false rest = rest

of_kernels : (ks : List CoreKernel) → All (λ k. IsTrue (is_name k.name)) ks → All Named (map kernel_function ks)
of_kernels [] all = All-nil Named
of_kernels (k ∷ ks) all =
    All-cons Named (kernel_function k) (map kernel_function ks) (All-head (λ (x : CoreKernel). IsTrue (is_name x.name)) k ks all) (of_kernels ks (All-tail (λ (x : CoreKernel). IsTrue (is_name x.name)) k ks all))

pub all_named : (p : Program) (types : List Carried) → IsWellMade p → All Named (typed_functions p types)
all_named p types made =
    All-append Named (labels_functions p.labels types) (map kernel_function p.kernels) (of_labels p.labels types (label_names p made)) (of_kernels p.kernels made.kernels.each)
