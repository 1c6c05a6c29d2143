-- One more role is numbered.
use Rattle.std.proofs.Common.{◌≡◌, ℕ, suc, ◌+◌, ◌<◌, List, [], ◌∷◌, ◌++◌, drop, length, get_or, ap, sym, subst, ◌∙◌, append_assoc, drop-cons, add-one}
use Rattle.std.specs.List.{All}
use Rattle.pb_local.specs.declared.tables.Role.{Role}
use Rattle.pb_local.specs.Ranks.{Sum, with_role, without_low, size_with, bases_with, places_with}
use Rattle.pb_ctree.specs.declared.tree.Formula.{Formula}
use Rattle.pb_ctree.specs.Sums.{HasSmallEnds, HasRoomFor}
use Rattle.pb_ctree.specs.Trees.{sum_of}
use Rattle.pb_ctree.proofs.Rooms.{room_after}

pub room_round : (roles rest : List Role) (f g : Formula) (r : Role) → roles ≡ r ∷ rest → HasSmallEnds r → sum_of g ≡ with_role (sum_of f) r → HasRoomFor (length roles) f → HasRoomFor (length rest) g
room_round roles rest f g r cut small is room = room_after (length roles) (length rest) f g r room small is (ap length cut)

pub size_round : (roles rest : List Role) (f g : Formula) (r : Role) (all : Sum) → roles ≡ r ∷ rest → sum_of g ≡ with_role (sum_of f) r → size_with (sum_of f) roles ≡ all → size_with (sum_of g) rest ≡ all
size_round roles rest f g r all cut is so_far =
    let here : size_with (with_role (sum_of f) r) rest ≡ all = ap (size_with (sum_of f)) (sym cut) ∙ so_far in
    ap (λ x. size_with x rest) is ∙ here

onto : (now old all : List Sum) (x : Sum) (rest : List Sum) → now ≡ old ++ x ∷ [] → old ++ (x ∷ rest) ≡ all → now ++ rest ≡ all
onto now old all x rest put so_far = ap (λ l. l ++ rest) put ∙ append_assoc old (x ∷ []) rest ∙ so_far

pub bases_round : (roles rest : List Role) (f g : Formula) (r : Role) (old now all : List Sum) → roles ≡ r ∷ rest → sum_of g ≡ with_role (sum_of f) r → now ≡ old ++ sum_of f ∷ []
    → old ++ bases_with (sum_of f) roles ≡ all → now ++ bases_with (sum_of g) rest ≡ all
bases_round roles rest f g r old now all cut is put so_far =
    ap (λ x. now ++ bases_with x rest) is
    ∙ onto now old all (sum_of f) (bases_with (with_role (sum_of f) r) rest) put (ap (λ l. old ++ bases_with (sum_of f) l) (sym cut) ∙ so_far)

pub places_round : (roles rest : List Role) (f g : Formula) (r : Role) (old now all : List Sum) → roles ≡ r ∷ rest → sum_of g ≡ with_role (sum_of f) r → now ≡ old ++ without_low (sum_of f) r ∷ []
    → old ++ places_with (sum_of f) roles ≡ all → now ++ places_with (sum_of g) rest ≡ all
places_round roles rest f g r old now all cut is put so_far =
    ap (λ x. now ++ places_with x rest) is
    ∙ onto now old all (without_low (sum_of f) r) (places_with (with_role (sum_of f) r) rest) put (ap (λ l. old ++ places_with (sum_of f) l) (sym cut) ∙ so_far)

-- the element at i, and what is behind it
pub cut_at : (roles : List Role) (i : ℕ) (r : Role) → i < length roles → r ≡ get_or roles i r → drop i roles ≡ r ∷ drop (i + 1) roles
cut_at roles i r less is = drop-cons roles i r less ∙ ap (λ x. x ∷ drop (suc i) roles) (sym is) ∙ ap (λ k. r ∷ drop k roles) (sym (add-one i))

pub small_at : (roles : List Role) (i : ℕ) (r : Role) → i < length roles → r ≡ get_or roles i r → All HasSmallEnds roles → HasSmallEnds r
small_at roles i r less is all = let P : Role → Type 0 = λ x. HasSmallEnds x in subst P (sym is) (all i r less)
