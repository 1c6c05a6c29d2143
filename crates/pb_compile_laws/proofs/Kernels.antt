-- The kernels of a file in its core: each once, with a name.
use Rattle.std.proofs.Common.{◌≡◌, ◌+◌, ◌≤◌, Bool, true, false, ◌||◌, if◌then◌else◌, List, [], ◌∷◌, ◌++◌, length, map, refl, sym, ap, subst, ◌∙◌, arith}
use Rattle.std.specs.Prelude.{All, IsTrue}
use Rattle.std.proofs.lemmas.List.{length-append}
use Rattle.std.proofs.lemmas.List.Elements.{All-push, All-nil}
use Rattle.pb_text.specs.Tokens.{IsName}
use Rattle.pb_syntax.specs.declared.core_label.CoreKernel.{CoreKernel}
use Rattle.pb_syntax.specs.Tree.{PlainStatement, message, foreach, loop, again, choice, compute, barrier, broadcast, reduce, allreduce, PlainStatements, nothing, more, PlainBranches, no_branch, branch}
use Rattle.pb_core_language.specs.Names.{Name, same, is_named}
use Rattle.pb_core_language.specs.Meaning.{has_kernel, kernels_at, kernels_in, kernels_among, kernels_after}
use Rattle.pb_local.specs.Names.{is_name}
use Rattle.pb_local.specs.WellMade.{AreKernels}
use Rattle.pb_compile_laws.proofs.Words.{named}
use Rattle.pb_compile_laws.proofs.Measures.{texts_at, texts_in, texts_among, IsWell, AreWell, AreWellAmong}
use Rattle.pb_compile_laws.proofs.Distinct.{Distinct, distinct_push, are_distinct}

abbrev with_kernel : List CoreKernel → CoreKernel → List CoreKernel
with_kernel there k = if has_kernel k.name there then there else there ++ k ∷ []

abbrev names_of : List CoreKernel → List Name
names_of rows = map (λ k. k.name) rows

-- ---- how many

kernels_few : (there ks : List CoreKernel) → length (kernels_after there ks) ≤ length there + length ks
kernels_few there [] = omega arith
kernels_few there (k ∷ ks) = omega (arith, kernels_few (with_kernel there k) ks, at (has_kernel k.name there))
  where
    at : (b : Bool) → length (if b then there else there ++ k ∷ []) ≤ length there + 1
    at true = omega arith
    at false = omega (arith, length-append there (k ∷ []))

mutual
  few_at : (s : PlainStatement) → length (kernels_at s) ≤ texts_at s
  few_at (message l p f t) = omega arith
  few_at (foreach at x over place items) = omega (arith, few_in items)
  few_at (loop at x place body) = omega (arith, few_in body)
  few_at (again at x) = omega arith
  few_at (choice at k who bs) = omega (arith, few_among bs)
  few_at (compute at k who) = omega arith
  few_at (barrier at) = omega arith
  few_at (broadcast at l p f) = omega arith
  few_at (reduce at l p o t) = omega arith
  few_at (allreduce at l p o) = omega arith

  few_in : (b : PlainStatements) → length (kernels_in b) ≤ texts_in b
  few_in nothing = omega arith
  few_in (more s rest) = omega (arith, length-append (kernels_at s) (kernels_in rest), few_at s, few_in rest)

  few_among : (bs : PlainBranches) → length (kernels_among bs) ≤ texts_among bs
  few_among no_branch = omega arith
  few_among (branch at b bs) = omega (arith, length-append (kernels_in b) (kernels_among bs), few_in b, few_among bs)

-- ---- each once

has_is : (x : Name) (rows : List CoreKernel) → has_kernel x rows ≡ is_named x (names_of rows)
has_is x [] = refl
has_is x (r ∷ rs) = at (same x r.name) (has_is x rs)
  where
    at : (b : Bool) → has_kernel x rs ≡ is_named x (names_of rs) → (if b then true else has_kernel x rs) ≡ (b || is_named x (names_of rs))
    at true h = refl
    at false h = h

names_push : (rows : List CoreKernel) (r : CoreKernel) → names_of (rows ++ r ∷ []) ≡ names_of rows ++ r.name ∷ []
names_push [] r = refl
names_push (q ∷ rows) r = ap (λ ns. q.name ∷ ns) (names_push rows r)

kernels_once : (there ks : List CoreKernel) → Distinct (names_of there) → Distinct (names_of (kernels_after there ks))
kernels_once there [] d = d
kernels_once there (k ∷ ks) d = kernels_once (with_kernel there k) ks (at (has_kernel k.name there) refl)
  where
    at : (b : Bool) → has_kernel k.name there ≡ b → Distinct (names_of (if b then there else there ++ k ∷ []))
    at true e = d
    at false e = subst Distinct (sym (names_push there k)) (distinct_push (names_of there) k.name d (sym (has_is k.name there) ∙ e))

-- ---- each with a name

abbrev AreNamed : List CoreKernel → Type 0
AreNamed [] = Unit {0}
AreNamed (k ∷ ks) = IsName k.name × AreNamed ks

both_named : (xs ys : List CoreKernel) → AreNamed xs → AreNamed ys → AreNamed (xs ++ ys)
both_named [] ys h g = g
both_named (x ∷ xs) ys h g = (h.0, both_named xs ys h.1 g)

mutual
  named_at : (s : PlainStatement) → IsWell s → AreNamed (kernels_at s)
  named_at (message l p f t) h = tt
  named_at (foreach at x over place items) h = named_in items h
  named_at (loop at x place body) h = named_in body h
  named_at (again at x) h = tt
  named_at (choice at k who bs) h = (h.0, named_among bs h.1.1.1)
  named_at (compute at k who) h = (h, tt)
  named_at (barrier at) h = tt
  named_at (broadcast at l p f) h = tt
  named_at (reduce at l p o t) h = tt
  named_at (allreduce at l p o) h = tt

  named_in : (b : PlainStatements) → AreWell b → AreNamed (kernels_in b)
  named_in nothing h = tt
  named_in (more s rest) h = both_named (kernels_at s) (kernels_in rest) (named_at s h.0) (named_in rest h.1)

  named_among : (bs : PlainBranches) → AreWellAmong bs → AreNamed (kernels_among bs)
  named_among no_branch h = tt
  named_among (branch at b bs) h = both_named (kernels_in b) (kernels_among bs) (named_in b h.0) (named_among bs h.1)

abbrev HasName : CoreKernel → Type 0
HasName k = IsTrue (is_name k.name)

kernels_each : (there ks : List CoreKernel) → All HasName there → AreNamed ks → All HasName (kernels_after there ks)
kernels_each there [] each h = each
kernels_each there (k ∷ ks) each h = kernels_each (with_kernel there k) ks (at (has_kernel k.name there)) h.1
  where
    at : (b : Bool) → All HasName (if b then there else there ++ k ∷ [])
    at true = each
    at false = All-push HasName there k each (named k.name h.0)

pub kernels_tabled : (b : PlainStatements) → AreWell b → texts_in b ≤ 4000 → AreKernels (kernels_after [] (kernels_in b))
kernels_tabled b well few = record {
  most = omega (arith, kernels_few [] (kernels_in b), few_in b, few);
  distinct = are_distinct (names_of (kernels_after [] (kernels_in b))) (kernels_once [] (kernels_in b) tt);
  each = kernels_each [] (kernels_in b) (All-nil HasName) (named_in b well);
}
