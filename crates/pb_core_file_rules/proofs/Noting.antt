-- What is noted of a statement: a name or a kernel, and what stands behind it.
use Rattle.std.proofs.Common.{◌≡◌, List, [], ◌∷◌, ◌++◌, map, Result, Ok, Err, OnOk, sym, ap, ◌∙◌, append_assoc}
use Rattle.std.proofs.lemmas.List.{map-append}
use Rattle.pb_text.specs.declared.memory.NoMemory.{NoMemory}
use Rattle.pb_syntax.specs.declared.core_label.CoreKernel.{CoreKernel}
use Rattle.pb_core_file_rules.specs.declared.visits.Met.{Met}
use Rattle.pb_core_language.specs.Names.{Visit}

module _ (note : Visit → Met) where
  pub name_then : (r : Result (Unit {0}) NoMemory) (v : Visit) (a : List Visit) (out one all : List Met) → one ≡ out ++ (note v ∷ []) → OnOk r (all ≡ one ++ map note a) →
      OnOk r (all ≡ out ++ map note (v ∷ a))
  name_then (Ok u) v a out one all first last = last ∙ ap (λ l. l ++ map note a) first ∙ append_assoc out (note v ∷ []) (map note a)
  name_then (Err e) v a out one all first last = tt

  pub name_and_both : (r : Result (Unit {0}) NoMemory) (v : Visit) (a b : List Visit) (out one two all : List Met) → one ≡ out ++ (note v ∷ []) → two ≡ one ++ map note a → OnOk r (all ≡ two ++ map note b) →
      OnOk r (all ≡ out ++ map note (v ∷ (a ++ b)))
  name_and_both (Ok u) v a b out one two all first second last =
      name_then (Ok u) v (a ++ b) out one all first (last ∙ ap (λ l. l ++ map note b) second ∙ append_assoc one (map note a) (map note b) ∙ ap (λ l. one ++ l) (sym (map-append note a b)))
  name_and_both (Err e) v a b out one two all first second last = tt

pub kernel_then : (r : Result (Unit {0}) NoMemory) (k : CoreKernel) (ks out one all : List CoreKernel) → one ≡ out ++ (k ∷ []) → OnOk r (all ≡ one ++ ks) → OnOk r (all ≡ out ++ (k ∷ ks))
kernel_then (Ok u) k ks out one all first last = last ∙ ap (λ l. l ++ ks) first ∙ append_assoc out (k ∷ []) ks
kernel_then (Err e) k ks out one all first last = tt
