-- The ends of a part of a protocol, one statement at a time.
use Rattle.std.proofs.Common.{◌≡◌, ℕ, ℤ, true, List, [], ◌∷◌, ◌++◌, refl, sym, ap, ◌∙◌, append_assoc, append-nil}
use Rattle.std.proofs.lemmas.Bool.{false≢true}
use Rattle.pb_core_language.specs.declared.protocol.CoreRole.{CoreRole}
use Rattle.pb_core_language.specs.Tree.{Mark, StmtTree, message, foreach, loop, again, choice, run, barrier, broadcast, reduce, allreduce}
use Rattle.pb_core_language.specs.Flat.{Asked, Origin, Block, stop}
use Rattle.pb_core_language.specs.FlatOf.{from_none, from_one, from_two, flat_stmt, flat_block, flat_branches}
use Rattle.pb_core_language.specs.Rules.{each_origin, each_origin_among}
use Rattle.pb_core_flat.specs.GoesOn.{goes_on}
use Rattle.pb_core_flat.proofs.Adding.{Adds, is_single, stmt_adds}

append_first : {A : Type 0} (xs ys : List A) → xs ++ ys ≡ (xs ++ []) ++ ys
append_first xs ys = ap (λ z. z ++ ys) (sym (append-nil xs))

append_second : {A : Type 0} (xs ys zs : List A) → xs ++ (ys ++ zs) ≡ (xs ++ (ys ++ [])) ++ zs
append_second xs ys zs = ap (λ z. xs ++ (z ++ zs)) (sym (append-nil ys)) ∙ sym (append_assoc xs (ys ++ []) zs)

single_origins : (f : Origin → List Asked) (roles : List CoreRole) (n : ℤ) (opens : List ℕ) (i : ℤ) (m : Mark) (s : StmtTree) → is_single s ≡ true →
    Adds (each_origin f) ◌++◌ (λ x. refl) append_assoc (flat_stmt roles n opens i m s)
single_origins f roles n opens i m (message l p q) h g = append_first (f (from_two m p q n i)) (each_origin f g)
single_origins f roles n opens i m (foreach b k items) h g = absurd (false≢true h)
single_origins f roles n opens i m (loop id k body) h g = append_second (f (from_none m)) (each_origin f (flat_block roles n (id ∷ opens) i body stop)) (each_origin f g)
single_origins f roles n opens i m (again id) h g = absurd (false≢true h)
single_origins f roles n opens i m (choice k at bs) h g = append_second (f (from_one m at n i)) (each_origin_among f (flat_branches roles n opens i bs)) (each_origin f g)
single_origins f roles n opens i m (run k at) h g = append_first (f (from_one m at n i)) (each_origin f g)
single_origins f roles n opens i m barrier h g = append_first (f (from_none m)) (each_origin f g)
single_origins f roles n opens i m (broadcast l root) h g = append_first (f (from_one m root n i)) (each_origin f g)
single_origins f roles n opens i m (reduce l op root) h g = append_first (f (from_one m root n i)) (each_origin f g)
single_origins f roles n opens i m (allreduce l op) h g = append_first (f (from_none m)) (each_origin f g)

pub origins_one_by_one : (f : Origin → List Asked) (roles : List CoreRole) (n : ℤ) (opens : List ℕ) (i : ℤ) (m : Mark) (s : StmtTree) (rest : Block) → goes_on s ≡ true →
    each_origin f (flat_stmt roles n opens i m s rest) ≡ each_origin f (flat_stmt roles n opens i m s stop) ++ each_origin f rest
origins_one_by_one f roles n opens i m s rest h = stmt_adds (each_origin f) ◌++◌ (λ x. refl) append_assoc roles n (single_origins f roles n) opens i m s h rest

-- lists that are put together to nothing
pub none_left : {A : Type 0} (xs ys : List A) → xs ++ ys ≡ [] → xs ≡ []
none_left [] ys e = refl
none_left (x ∷ xs) ys e = absurd (cons_none x (xs ++ ys) e) where
  cons_none : {B : Type 0} (z : B) (zs : List B) → z ∷ zs ≡ [] → ⊥
  cons_none z zs h = cc

pub none_right : {A : Type 0} (xs ys : List A) → xs ++ ys ≡ [] → ys ≡ []
none_right [] ys e = e
none_right (x ∷ xs) ys e = absurd (cons_none x (xs ++ ys) e) where
  cons_none : {B : Type 0} (z : B) (zs : List B) → z ∷ zs ≡ [] → ⊥
  cons_none z zs h = cc
