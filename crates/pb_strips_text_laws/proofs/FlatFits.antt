-- The statements of the flat file stand within the limits, and are as many as were counted.
use Rattle.std.proofs.Common.{◌≡◌, ℕ, suc, ◌+◌, ◌-◌, Option, Some, List, [], ◌∷◌, ◌++◌, length, length-append, refl, ap, arith}
use Rattle.pb_text.specs.declared.place.Place.{Place}
use Rattle.pb_syntax.specs.Tree.{PlainStatement, statements_of}
use Rattle.pb_do_text_laws.proofs.Fits.{AllFit, BranchesFit, size_in, size_among, count}
use Rattle.pb_strips_syntax.specs.Columns.{numbers}
use Rattle.pb_strips_syntax.specs.Flattening.{flat_at, flat_in, flat_among, for_each}
use Rattle.pb_strips_syntax.specs.Strips.{Strip, message, foreach, loop, again, choice, compute, barrier, broadcast, reduce, allreduce, columns, Strips, nothing, more, StripBranches, no_branch, branch}
use Rattle.pb_strips_flatten.specs.Excess as excess
use Rattle.pb_strips_flatten.specs.Excess.{origins_at, origins_in, origins_among}
use Rattle.pb_strips_text_laws.specs.Limits.{branch_count, IsSmall, AreSmall, AreSmallBranches}
use Rattle.pb_strips_text_laws.proofs.Spoken.{IsItem, AreItems, IsSpoken, AreSpoken, AreSpokenBranches}

-- ---- within the limits

fit_both : (l : ℕ) (xs ys : List PlainStatement) → AllFit l (statements_of xs) → AllFit l (statements_of ys) → AllFit l (statements_of (xs ++ ys))
fit_both l [] ys a b = b
fit_both l (x ∷ xs) ys a b = (a.0, fit_both l xs ys a.1 b)

each_fits : (l : ℕ) (cs : List ℕ) (body : Option ℕ → List PlainStatement) → ((v : Option ℕ) → AllFit l (statements_of (body v))) → AllFit l (statements_of (for_each cs body))
each_fits l [] body fit = tt
each_fits l (c ∷ cs) body fit = fit_both l (body (Some c)) (for_each cs body) (fit (Some c)) (each_fits l cs body fit)

count_is : (bs : StripBranches) (v : Option ℕ) → count (flat_among bs v) ≡ branch_count bs
count_is no_branch v = refl
count_is (branch at first rest) v = ap suc (count_is rest v)

mutual
  item_fits : (s : Strip) (l : ℕ) (v : Option ℕ) → IsItem s → IsSmall l s → AllFit l (statements_of (flat_at s v))
  item_fits (message label carries from to) l v said small = (small, tt)
  item_fits (foreach place var over at items) l v said small = absurd said
  item_fits (loop place name at body) l v said small = absurd said
  item_fits (again place name) l v said small = absurd said
  item_fits (choice place kernel who branches) l v said small = absurd said
  item_fits (compute place kernel who) l v said small = (small, tt)
  item_fits (barrier place) l v said small = absurd said
  item_fits (broadcast place label carries from) l v said small = absurd said
  item_fits (reduce place label carries by to) l v said small = absurd said
  item_fits (allreduce place label carries by) l v said small = absurd said
  item_fits (columns place var low high at body) l v said small = each_fits l (numbers low high) (λ c. flat_in body c) (λ c. items_fit body l c said small)

  items_fit : (ss : Strips) (l : ℕ) (v : Option ℕ) → AreItems ss → AreSmall l ss → AllFit l (statements_of (flat_in ss v))
  items_fit nothing l v said small = tt
  items_fit (more s rest) l v said small = fit_both l (flat_at s v) (flat_in rest v) (item_fits s l v said.0 small.0) (items_fit rest l v said.1 small.1)

mutual
  one_fits : (s : Strip) (l : ℕ) (v : Option ℕ) → IsSpoken s → IsSmall l s → AllFit l (statements_of (flat_at s v))
  one_fits (message label carries from to) l v said small = (small, tt)
  one_fits (foreach place var over at items) l v said small = ((small.0, (small.1.0, items_fit items (l - 1) v said.1.1 small.1.1)), tt)
  one_fits (loop place name at body) l v said small = ((small.0, all_fit body (l - 1) v said.1 small.1), tt)
  one_fits (again place name) l v said small = (tt, tt)
  one_fits (choice place kernel who branches) l v said small =
      ((small.0, (small.1.0, (omega (arith, said.1.1.0, count_is branches v), (omega (arith, small.1.1.0, count_is branches v), branches_fit branches (l - 1) v said.1.1.1 small.1.1.1)))), tt)
  one_fits (compute place kernel who) l v said small = (small, tt)
  one_fits (barrier place) l v said small = (tt, tt)
  one_fits (broadcast place label carries from) l v said small = (small, tt)
  one_fits (reduce place label carries by to) l v said small = (small, tt)
  one_fits (allreduce place label carries by) l v said small = (small, tt)
  one_fits (columns place var low high at body) l v said small = each_fits l (numbers low high) (λ c. flat_in body c) (λ c. all_fit body l c said small)

  pub all_fit : (ss : Strips) (l : ℕ) (v : Option ℕ) → AreSpoken ss → AreSmall l ss → AllFit l (statements_of (flat_in ss v))
  all_fit nothing l v said small = tt
  all_fit (more s rest) l v said small = fit_both l (flat_at s v) (flat_in rest v) (one_fits s l v said.0 small.0) (all_fit rest l v said.1 small.1)

  branches_fit : (bs : StripBranches) (l : ℕ) (v : Option ℕ) → AreSpokenBranches bs → AreSmallBranches l bs → BranchesFit l (flat_among bs v)
  branches_fit no_branch l v said small = tt
  branches_fit (branch at first rest) l v said small = (all_fit first l v said.0 small.0, branches_fit rest l v said.1 small.1)

-- ---- how many

size_both : (xs ys : List PlainStatement) → size_in (statements_of (xs ++ ys)) ≡ size_in (statements_of xs) + size_in (statements_of ys)
size_both [] ys = omega arith
size_both (x ∷ xs) ys = omega (arith, size_both xs ys)

each_size : (cs : List ℕ) (body : Option ℕ → List PlainStatement) (origins : List Place) → ((v : Option ℕ) → size_in (statements_of (body v)) ≡ length origins) → size_in (statements_of (for_each cs body)) ≡ length (excess.for_each cs origins)
each_size [] body origins same = refl
each_size (c ∷ cs) body origins same = omega (arith, same (Some c), each_size cs body origins same, size_both (body (Some c)) (for_each cs body), length-append origins (excess.for_each cs origins))

mutual
  one_size : (s : Strip) (v : Option ℕ) → size_in (statements_of (flat_at s v)) ≡ length (origins_at s)
  one_size (message label carries from to) v = refl
  one_size (foreach place var over at items) v = omega (arith, all_size items v)
  one_size (loop place name at body) v = omega (arith, all_size body v)
  one_size (again place name) v = refl
  one_size (choice place kernel who branches) v = omega (arith, among_size branches v)
  one_size (compute place kernel who) v = refl
  one_size (barrier place) v = refl
  one_size (broadcast place label carries from) v = refl
  one_size (reduce place label carries by to) v = refl
  one_size (allreduce place label carries by) v = refl
  one_size (columns place var low high at body) v = each_size (numbers low high) (λ c. flat_in body c) (origins_in body) (λ c. all_size body c)

  pub all_size : (ss : Strips) (v : Option ℕ) → size_in (statements_of (flat_in ss v)) ≡ length (origins_in ss)
  all_size nothing v = refl
  all_size (more s rest) v = omega (arith, one_size s v, all_size rest v, size_both (flat_at s v) (flat_in rest v), length-append (origins_at s) (origins_in rest))

  among_size : (bs : StripBranches) (v : Option ℕ) → size_among (flat_among bs v) ≡ length (origins_among bs)
  among_size no_branch v = refl
  among_size (branch at first rest) v = omega (arith, all_size first v, among_size rest v, length-append (origins_in first) (origins_among rest))
