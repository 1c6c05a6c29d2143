-- What a rank finds first, one statement at a time.
use Rattle.std.proofs.Common.{◌≡◌, ℕ, ◌==◌, ℤ, cond, Bool, true, false, ◌||◌, List, [], ◌∷◌, refl, ap, sym, ◌∙◌}
use Rattle.std.proofs.lemmas.Bool.{false≢true, or_parts}
use Rattle.pb_core_language.specs.declared.protocol.CoreRole.{CoreRole}
use Rattle.pb_core_language.specs.Tree.{Mark, StmtTree, message, foreach, loop, again, choice, run, barrier, broadcast, reduce, allreduce}
use Rattle.pb_core_language.specs.Flat as F
use Rattle.pb_core_language.specs.Lists.{nth}
use Rattle.pb_core_language.specs.Flat.{Origin, Block, stop, Branches, no_branch, branch, takes_part, takes_part_among}
use Rattle.pb_core_language.specs.FlatOf.{rank_of, flat_stmt, flat_block, flat_branches}
use Rattle.pb_core_language.specs.Outcomes.{Outcome, nothing_first, receives, other_first, again_first, or_then, firsts, firsts_among}
use Rattle.pb_core_flat.specs.Laws.{FindsOneByOne, FindsInBlock, FindsFirst, BystanderFinds}
use Rattle.pb_core_flat.proofs.Adding.{Adds, is_single, stmt_adds, block_adds, first_adds}
use Rattle.pb_core_flat.proofs.OutcomeSets.{or_then_assoc, or_then_left, or_then_right}

abbrev none : List Outcome
none = nothing_first ∷ []

one_end : (a : Bool) (g : List Outcome) → cond a (other_first ∷ []) g ≡ or_then (cond a (other_first ∷ []) none) g
one_end true g = refl
one_end false g = sym (or_then_left g)

two_ends : (a b : Bool) (p l : ℕ) (g : List Outcome) →
    cond a (other_first ∷ []) (cond b (receives p l ∷ []) g) ≡ or_then (cond a (other_first ∷ []) (cond b (receives p l ∷ []) none)) g
two_ends true b p l g = refl
two_ends false true p l g = refl
two_ends false false p l g = sym (or_then_left g)

some_parts : (t : Bool) (os g : List Outcome) → cond t (or_then os g) g ≡ or_then (cond t (or_then os none) none) g
some_parts true os g = ap (λ z. or_then z g) (sym (or_then_right os))
some_parts false os g = sym (or_then_left g)

chooser_or : (a t : Bool) (os g : List Outcome) →
    cond a (other_first ∷ []) (cond t (or_then os g) g) ≡ or_then (cond a (other_first ∷ []) (cond t (or_then os none) none)) g
chooser_or true t os g = refl
chooser_or false t os g = some_parts t os g

single_finds : (held : List Bool) (r : ℕ) (roles : List CoreRole) (n : ℤ) (opens : List ℕ) (i : ℤ) (m : Mark) (s : StmtTree) → is_single s ≡ true →
    Adds (firsts held r) or_then or_then_left or_then_assoc (flat_stmt roles n opens i m s)
single_finds held r roles n opens i m (message l f t) h g = two_ends (rank_of roles n f i == r) (rank_of roles n t i == r) (rank_of roles n f i) l (firsts held r g)
single_finds held r roles n opens i m (foreach b k items) h g = absurd (false≢true h)
single_finds held r roles n opens i m (loop id k body) h g =
    some_parts (takes_part (false ∷ held) r (flat_block roles n (id ∷ opens) i body stop))
    (firsts (takes_part (false ∷ held) r (flat_block roles n (id ∷ opens) i body stop) ∷ held) r (flat_block roles n (id ∷ opens) i body stop)) (firsts held r g)
single_finds held r roles n opens i m (again id) h g = absurd (false≢true h)
single_finds held r roles n opens i m (choice k at bs) h g =
    chooser_or (rank_of roles n at i == r) (takes_part_among held r (flat_branches roles n opens i bs)) (firsts_among held r (flat_branches roles n opens i bs)) (firsts held r g)
single_finds held r roles n opens i m (run k at) h g = one_end (rank_of roles n at i == r) (firsts held r g)
single_finds held r roles n opens i m barrier h g = refl
single_finds held r roles n opens i m (broadcast l root) h g = refl
single_finds held r roles n opens i m (reduce l op root) h g = refl
single_finds held r roles n opens i m (allreduce l op) h g = refl

pub finds_one_by_one : FindsOneByOne
finds_one_by_one roles n i r held opens m s rest h =
    stmt_adds (firsts held r) or_then or_then_left or_then_assoc roles n (single_finds held r roles n) opens i m s h rest

pub finds_in_block : FindsInBlock
finds_in_block roles n i r held opens b rest h =
    block_adds (firsts held r) or_then or_then_left or_then_assoc roles n (single_finds held r roles n) opens i b h rest

pub finds_first : FindsFirst
finds_first rows varies ids roles n i r held opens m s b h =
    first_adds (firsts held r) or_then or_then_left or_then_assoc roles n (single_finds held r roles n) or_then_right rows varies ids opens i m s b h

-- ---- who takes no part

passed_by : {A : Type 0} (a : Bool) (x y z : A) → a ≡ false → y ≡ z → cond a x y ≡ z
passed_by true x y z e h = absurd (false≢true (sym e))
passed_by false x y z e h = h

pub bystander_finds : BystanderFinds
bystander_finds held r stop h = refl
bystander_finds held r (F.message a p q l g) h =
    let hs = or_parts (p == r) ((q == r) || takes_part held r g) h in
    let ks = or_parts (q == r) (takes_part held r g) hs.1 in
    passed_by (p == r) (other_first ∷ []) (cond (q == r) (receives p l ∷ []) (firsts held r g)) none hs.0
    (passed_by (q == r) (receives p l ∷ []) (firsts held r g) none ks.0 (bystander_finds held r g ks.1))
bystander_finds held r (F.compute a p k g) h =
    let hs = or_parts (p == r) (takes_part held r g) h in
    passed_by (p == r) (other_first ∷ []) (firsts held r g) none hs.0 (bystander_finds held r g hs.1)
bystander_finds held r (F.together a j g) h = absurd (false≢true (sym h))
bystander_finds held r (F.choice a p k bs g) h =
    let hs = or_parts ((p == r) || takes_part_among held r bs) (takes_part held r g) h in
    let ks = or_parts (p == r) (takes_part_among held r bs) hs.0 in
    passed_by (p == r) (other_first ∷ []) (cond (takes_part_among held r bs) (or_then (firsts_among held r bs) (firsts held r g)) (firsts held r g)) none ks.0
    (passed_by (takes_part_among held r bs) (or_then (firsts_among held r bs) (firsts held r g)) (firsts held r g) none ks.1 (bystander_finds held r g hs.1))
bystander_finds held r (F.looped a b g) h =
    let hs = or_parts (takes_part (false ∷ held) r b) (takes_part held r g) h in
    passed_by (takes_part (false ∷ held) r b) (or_then (firsts (takes_part (false ∷ held) r b ∷ held) r b) (firsts held r g)) (firsts held r g) none hs.0 (bystander_finds held r g hs.1)
bystander_finds held r (F.again k) h = passed_by (nth held k) (again_first ∷ []) none none h refl

chosen : (t : Bool) (os : List Outcome) → (t ≡ false → os ≡ none) → cond t (or_then os none) none ≡ os
chosen true os h = or_then_right os
chosen false os h = sym (h refl)

-- what a rank finds first in a loop is what it finds first in the loop's body
pub loop_finds : (held : List Bool) (r : ℕ) (a : Origin) (b : Block) →
    firsts held r (F.looped a b stop) ≡ firsts (takes_part (false ∷ held) r b ∷ held) r b
loop_finds held r a b =
    chosen (takes_part (false ∷ held) r b) (firsts (takes_part (false ∷ held) r b ∷ held) r b)
    (λ e. bystander_finds (takes_part (false ∷ held) r b ∷ held) r b (ap (λ t. takes_part (t ∷ held) r b) e ∙ e))
