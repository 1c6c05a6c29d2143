-- The functions of labels whose payload is another one than before, and whose bodies are the old ones.
use Rattle.std.specs.Prelude.{Bool, true, false, not, ◌&&◌, List, [], ◌∷◌, ◌++◌, nat_eq, if◌then◌else◌}
use Rattle.std.specs.Cmp.Lexicographic.{pointwise}
use Rattle.std.specs.List.{flat_map, list_any}
use Rattle.pb_syntax.specs.declared.tree.Payload.{Payload}
use Rattle.pb_syntax.specs.declared.tree.Payload.TheVariants.{Unit as NoWords, Int32, Uint32}
use Rattle.pb_syntax.specs.declared.core_label.CoreLabel.{CoreLabel}
use Rattle.pb_ctree.specs.Functions.{has_words, named}
use Rattle.pb_ctree.specs.declared.kernel.Kind.TheVariants.{Make, Take}
use Rattle.pb_ctree.specs.declared.kernel.KName.{KName}
use Rattle.pb_kernels.specs.declared.file.NamedBody.{NamedBody}
use Rattle.pb_kernels.specs.Names.{body_of, is_among}
use Rattle.pb_renew_merge.specs.Lost.{keeps}

abbrev pub same_payload : Payload → Payload → Bool
same_payload NoWords NoWords = true
same_payload NoWords (Int32 other) = false
same_payload NoWords (Uint32 other) = false
same_payload (Int32 count) NoWords = false
same_payload (Int32 count) (Int32 other) = nat_eq count other
same_payload (Int32 count) (Uint32 other) = false
same_payload (Uint32 count) NoWords = false
same_payload (Uint32 count) (Int32 other) = false
same_payload (Uint32 count) (Uint32 other) = nat_eq count other

-- before, a label of this name had another payload
abbrev pub is_changed : CoreLabel → List CoreLabel → Bool
is_changed label before = list_any (λ l. pointwise nat_eq l.name label.name && not (same_payload l.payload label.payload)) before

-- the function, where its old body is kept
abbrev pub kept_name : KName → List NamedBody → List NamedBody → List KName
kept_name name old kept = if is_among name old && keeps name (body_of name old) kept then name ∷ [] else []

abbrev pub changed_of : CoreLabel → List CoreLabel → List NamedBody → List NamedBody → List KName
changed_of label before old kept =
    if has_words label.payload && is_changed label before then kept_name (named Make label.name) old kept ++ kept_name (named Take label.name) old kept
    else []

-- the functions of the labels, in printed order, whose old bodies are kept while the payload is another one
abbrev pub changed_names : List CoreLabel → List CoreLabel → List NamedBody → List NamedBody → List KName
changed_names labels before old kept = flat_map (λ l. changed_of l before old kept) labels
