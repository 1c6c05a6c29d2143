-- Merging a text's own bodies finds each at its place, and nothing is missing or extra.
use Rattle.std.proofs.Common.{◌≡◌, ℕ, Bool, true, false, not, ◌||◌, if◌then◌else◌, cond, List, [], ◌∷◌, length, find, None, Some, refl, ap, ◌∙◌, arith, zip}
use Rattle.std.specs.List.{list_any}
use Rattle.std.proofs.Math.Bool.{or-true}
use Rattle.pb_local.specs.Tree.{Program}
use Rattle.pb_local.specs.WellMade.{IsWellMade}
use Rattle.pb_ctree.specs.declared.kernel.KName.{KName}
use Rattle.pb_ctree.specs.Functions.{functions_of}
use Rattle.pb_kernels.specs.declared.file.NamedBody.{NamedBody}
use Rattle.pb_kernels.specs.Marks.{prelude_name}
use Rattle.pb_kernels.specs.Merges.{first_missing, first_extra, has_place, misfit, misfit_of, bodies_of}
use Rattle.pb_kernels.specs.Names.{same_name, is_among, named_bodies, body_of}
use Rattle.pb_kernels.proofs.Keys.{name_decides}
use Rattle.pb_kernels_laws.specs.Laws.{bodies_by_name}
use Rattle.pb_kernels_laws.proofs.Apart.{IsUnlike, AreApart, names_apart, names_are}

same_itself : (n : KName) → same_name n n ≡ true
same_itself n = (name_decides n n).1 refl

-- ---- what is found

-- the file has these bodies under these names
abbrev HasBodies : List NamedBody → List KName → List (List ℕ) → Type 0
HasBodies file [] [] = Unit {0}
HasBodies file [] (b ∷ bs) = ⊥
HasBodies file (n ∷ ns) [] = ⊥
HasBodies file (n ∷ ns) (b ∷ bs) = (body_of n file ≡ b) × (is_among n file ≡ true) × HasBodies file ns bs

-- a body with another name in front
has_behind : (x : NamedBody) (file : List NamedBody) (ns : List KName) (bs : List (List ℕ)) → IsUnlike x.name ns → HasBodies file ns bs → HasBodies (x ∷ file) ns bs
has_behind x file [] [] u h = tt
has_behind x file [] (b ∷ bs) u h = absurd h
has_behind x file (n ∷ ns) [] u h = absurd h
has_behind x file (n ∷ ns) (b ∷ bs) u h = (
  ap (λ t. if t then x.body else body_of n file) u.0 ∙ h.0,
  ap (λ t. t || is_among n file) u.0 ∙ h.1,
  has_behind x file ns bs u.1 h.2,
)

has_all : (ns : List KName) (bs : List (List ℕ)) → AreApart ns → length bs ≡ length ns → HasBodies (named_bodies (zip ns bs)) ns bs
has_all [] [] a e = tt
has_all [] (b ∷ bs) a e = absurd cc
has_all (n ∷ ns) [] a e = absurd cc
has_all (n ∷ ns) (b ∷ bs) a e =
    let file = named_bodies (zip ns bs) in (
      ap (λ t. if t then b else body_of n file) (same_itself n),
      ap (λ t. t || is_among n file) (same_itself n),
      has_behind (record { name = n; body = b }) file ns bs a.0 (has_all ns bs a.1 (omega (arith, e))),
    )

bodies_found : (file : List NamedBody) (ns : List KName) (bs : List (List ℕ)) → HasBodies file ns bs → bodies_of ns file ≡ bs
bodies_found file [] [] h = refl
bodies_found file [] (b ∷ bs) h = absurd h
bodies_found file (n ∷ ns) [] h = absurd h
bodies_found file (n ∷ ns) (b ∷ bs) h = ap (λ x. x ∷ bodies_of ns file) h.0 ∙ ap (λ xs. b ∷ xs) (bodies_found file ns bs h.2)

none_missing : (file : List NamedBody) (ns : List KName) (bs : List (List ℕ)) → HasBodies file ns bs → first_missing ns file ≡ None
none_missing file [] bs h = refl
none_missing file (n ∷ ns) [] h = absurd h
none_missing file (n ∷ ns) (b ∷ bs) h = ap (λ t. cond (not t) (Some n) (first_missing ns file)) h.1 ∙ none_missing file ns bs h.2

-- ---- what has a place

abbrev ArePlaced : List KName → List KName → Type 0
ArePlaced functions [] = Unit {0}
ArePlaced functions (n ∷ ns) = (has_place functions n ≡ true) × ArePlaced functions ns

placed_more : (a b c : Bool) → (a || c) ≡ true → (a || (b || c)) ≡ true
placed_more true b c e = refl
placed_more false true c e = refl
placed_more false false c e = e

placed_behind : (f : KName) (functions ns : List KName) → ArePlaced functions ns → ArePlaced (f ∷ functions) ns
placed_behind f functions [] h = tt
placed_behind f functions (n ∷ ns) h = (
  placed_more (same_name n prelude_name) (same_name n f) (list_any (λ g. same_name n g) functions) h.0,
  placed_behind f functions ns h.1,
)

all_placed : (ns : List KName) → ArePlaced ns ns
all_placed [] = tt
all_placed (n ∷ ns) = (
  ap (λ t. same_name n prelude_name || (t || list_any (λ g. same_name n g) ns)) (same_itself n) ∙ or-true (same_name n prelude_name),
  placed_behind n ns ns (all_placed ns),
)

none_extra : (functions ns : List KName) → ArePlaced functions ns → find (λ name. not (has_place functions name)) ns ≡ None
none_extra functions [] h = refl
none_extra functions (n ∷ ns) h = ap (λ t. cond (not t) (Some n) (find (λ name. not (has_place functions name)) ns)) h.0 ∙ none_extra functions ns h.1

-- ---- the bodies of a text

pub record FitsItself (p : Program) (prelude : List ℕ) (bodies : List (List ℕ)) : Type 0 where
  pub fits : misfit (functions_of p) (bodies_by_name p prelude bodies) ≡ None
  pub prelude_is : body_of prelude_name (bodies_by_name p prelude bodies) ≡ prelude
  pub bodies_are : bodies_of (functions_of p) (bodies_by_name p prelude bodies) ≡ bodies

pub fits_itself : (p : Program) (prelude : List ℕ) (bodies : List (List ℕ)) → IsWellMade p → length bodies ≡ length (functions_of p) → FitsItself p prelude bodies
fits_itself p prelude bodies made many =
    let names = functions_of p in
    let file = bodies_by_name p prelude bodies in
    let apart = names_apart p made in
    let has : HasBodies file names bodies = has_behind (record { name = prelude_name; body = prelude }) (named_bodies (zip names bodies)) names bodies apart.0 (has_all names bodies apart.1 many) in
    let extra : first_extra names file ≡ None =
    ap (λ ns. find (λ name. not (has_place names name)) (prelude_name ∷ ns)) (names_are names bodies many) ∙ none_extra names (prelude_name ∷ names) (refl, all_placed names) in
    record {
      fits = ap (λ m. misfit_of m (first_extra names file)) (none_missing file names bodies has) ∙ ap (λ x. misfit_of None x) extra;
      prelude_is = refl;
      bodies_are = bodies_found file names bodies has;
    }
