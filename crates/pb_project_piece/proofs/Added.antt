-- Statements that are added to others.
use Rattle.std.proofs.Common.{◌≡◌, List, [], ◌∷◌, ◌++◌, map, refl, sym, ap, ◌∙◌, append-nil, append_assoc}
use Rattle.std.proofs.lemmas.List.{map-append}
use Rattle.pb_local.specs.declared.stmt.Stmt.{Stmt}
use Rattle.pb_local.specs.Tree.{Code, Codes, nothing, more, codes_of, plain}
use Rattle.pb_project_piece.specs.Adding.{onto, Added}

pub onto_append : (a b : List Code) (tail : Codes) → onto (a ++ b) tail ≡ onto a (onto b tail)
onto_append [] b tail = refl
onto_append (c ∷ cs) b tail = ap (more c) (onto_append cs b tail)

pub onto_nothing : (a : List Code) → onto a nothing ≡ codes_of a
onto_nothing [] = refl
onto_nothing (c ∷ cs) = ap (more c) (onto_nothing cs)

module _ (P : List Code → Type 0) where
  pub added_one : (old new : List Stmt) (s : Stmt) (c : Code) → new ≡ old ++ s ∷ [] → plain s ≡ c → P (c ∷ []) → Added old new P
  added_one old new s c is made h = record { piece = c ∷ []; is = ap (map plain) is ∙ map-append plain old (s ∷ []) ∙ ap (λ x. map plain old ++ x ∷ []) made; has = h }

  pub added_none : (old : List Stmt) → P [] → Added old old P
  added_none old h = record { piece = []; is = sym (append-nil (map plain old)); has = h }

  pub added_as : (Q : List Code → Type 0) (old new : List Stmt) → ((a : List Code) → P a → Q a) → Added old new P → Added old new Q
  added_as Q old new to a = record { piece = a.piece; is = a.is; has = to a.piece a.has }

  pub added_two : (Q R : List Code → Type 0) (old mid new : List Stmt) → ((a b : List Code) → P a → Q b → R (a ++ b)) → Added old mid P → Added mid new Q → Added old new R
  added_two Q R old mid new both a b = record {
    piece = a.piece ++ b.piece;
    is = b.is ∙ ap (λ x. x ++ b.piece) a.is ∙ append_assoc (map plain old) a.piece b.piece;
    has = both a.piece b.piece a.has b.has;
  }
