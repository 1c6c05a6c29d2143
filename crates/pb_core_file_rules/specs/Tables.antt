-- The tables of labels and kernels, one name more at a time.
use Rattle.std.specs.Prelude.{Bool, ◌&&◌, if◌then◌else◌, List, [], ◌∷◌, ◌++◌}
use Rattle.pb_text.specs.declared.place.Place.{Place}
use Rattle.pb_text.specs.declared.place.Spot.{Spot}
use Rattle.pb_syntax.specs.declared.core_label.CoreKernel.{CoreKernel}
use Rattle.pb_syntax.specs.declared.core_label.CoreLabel.{CoreLabel}
use Rattle.pb_syntax.specs.declared.core_label.KernelKind.{KernelKind}
use Rattle.pb_syntax.specs.declared.tree.Payload.{Payload}
use Rattle.pb_core_file_rules.specs.declared.labels.Labelled.{Labelled}
use Rattle.pb_core_language.specs.FileRules as R
use Rattle.pb_core_language.specs.FileRules.{payload_eq}
use Rattle.pb_core_language.specs.Names.{Name, same}
use Rattle.pb_core_language.specs.Meaning.{has_label, has_kernel}

abbrev pub labelled : Spot → Payload → Bool → R.Labelled
labelled l p fine = record { label = l; payload = p; is_fine = fine }

abbrev pub labelled_of : Labelled → R.Labelled
labelled_of l = labelled l.label l.payload l.is_fine

abbrev pub kernel : Spot → KernelKind → CoreKernel
kernel x k = record { name = x.name; kind = k }

-- the payload of a label in the table
abbrev pub payload_in : Name → Payload → List CoreLabel → Payload
payload_in x p [] = p
payload_in x p (r ∷ rs) = if same x r.name then r.payload else payload_in x p rs

abbrev pub row : R.Labelled → CoreLabel
row l = record { name = l.label.name; payload = l.payload }

-- a new label goes last
abbrev pub with_label : List CoreLabel → R.Labelled → List CoreLabel
with_label rows l = if has_label l.label.name rows then rows else rows ++ row l ∷ []

abbrev pub with_kernel : List CoreKernel → CoreKernel → List CoreKernel
with_kernel rows k = if has_kernel k.name rows then rows else rows ++ k ∷ []

abbrev pub keeps : List CoreLabel → R.Labelled → Bool
keeps rows l = l.is_fine && payload_eq l.payload (payload_in l.label.name l.payload rows)

-- the labels that break rule 2, behind those of a table
abbrev pub broken_behind : List CoreLabel → List R.Labelled → List Place
broken_behind rows [] = []
broken_behind rows (l ∷ ls) = (if keeps rows l then [] else l.label.place ∷ []) ++ broken_behind (with_label rows l) ls
