-- Distinct names, and one more.
use Rattle.std.proofs.Common.{◌≡◌, true, false, not, List, [], ◌∷◌, ◌++◌, refl, sym, ap, subst, append_assoc, append-nil}
use Rattle.std.proofs.lemmas.Bool.{and_from, and_parts}
use Rattle.pb_kernels.specs.Names.{is_among, are_new, are_distinct}
use Rattle.pb_kernels.specs.declared.file.NamedBody.{NamedBody}

new_push : (before list : List NamedBody) (b : NamedBody) → are_new before list ≡ true → is_among b.name (before ++ list) ≡ false → are_new before (list ++ b ∷ []) ≡ true
new_push before [] b h fresh =
    let none : is_among b.name before ≡ false = subst (λ (l : List NamedBody). is_among b.name l ≡ false) (append-nil before) fresh in
    and_from (not (is_among b.name before)) true (ap not none) refl
new_push before (x ∷ xs) b h fresh =
    let parts : (not (is_among x.name before) ≡ true) × (are_new (before ++ x ∷ []) xs ≡ true) = and_parts (not (is_among x.name before)) (are_new (before ++ x ∷ []) xs) h in
    and_from (not (is_among x.name before)) (are_new (before ++ x ∷ []) (xs ++ b ∷ [])) parts.0
    (new_push (before ++ x ∷ []) xs b parts.1 (subst (λ (l : List NamedBody). is_among b.name l ≡ false) (sym (append_assoc before (x ∷ []) xs)) fresh))

pub distinct_push : (list : List NamedBody) (b : NamedBody) → are_distinct list ≡ true → is_among b.name list ≡ false → are_distinct (list ++ b ∷ []) ≡ true
distinct_push list b h fresh = new_push [] list b h fresh
