-- What a rank receives first is from a rank, where each end is one.
use Rattle.std.proofs.Common.{◌≡◌, ◌<◌, ◌+◌, ◌*◌, ◌⊎◌, ℕ, ◌==◌, ℤ, pos, cond, Bool, true, false, not, ◌&&◌, inl, inr, List, [], ◌∷◌, ◌++◌, refl, sym, ◌∙◌, subst}
use Rattle.std.specs.Prelude.{filter, if◌then◌else◌}
use Rattle.std.proofs.lemmas.Bool.{and_parts, or_cases, false≢true, eqb-true}
use Rattle.pb_affine.specs.Values.{value, range}
use Rattle.pb_core_language.specs.declared.protocol.CoreRole.{CoreRole}
use Rattle.pb_core_language.specs.declared.tree.CoreEnd.{CoreEnd}
use Rattle.pb_core_language.specs.Ranks.{seats, total}
use Rattle.pb_core_language.specs.Tree as T
use Rattle.pb_core_language.specs.Tree.{Mark, StmtTree, foreach, loop, run, barrier, broadcast, reduce, allreduce, BlockTree, nothing, more, BranchTrees}
use Rattle.pb_core_language.specs.Lists.{nth}
use Rattle.pb_core_language.specs.Flat.{Asked, Origin, Block, stop, takes_part, takes_part_among}
use Rattle.pb_core_language.specs.Flat as F
use Rattle.pb_core_language.specs.FlatOf.{asked, seat, from_none, from_one, from_two, for_each, between, rank_of, flat_stmt, flat_block, flat_branches}
use Rattle.pb_core_language.specs.Rules.{is_seat, strays, each_origin, each_origin_among}
use Rattle.pb_core_language.specs.Outcomes.{Outcome, nothing_first, receives, other_first, again_first, or_then, firsts, firsts_among}
use Rattle.pb_core_flat.specs.OutcomeSets.{outcome_eq, is_outcome}
use Rattle.pb_core_flat.proofs.OutcomeSets.{either_outcome, is_append}
use Rattle.pb_core_flat.proofs.Seats.{seat_of_rank}
use Rattle.pb_choice.proofs.Origins.{none_left, none_right}

none_is : {B : Type 0} (z : B) (zs : List B) → z ∷ zs ≡ [] → ⊥
none_is z zs h = cc

-- an end that isn't stray is a seat
kept_none : (t : Bool) (a : Asked) (rest : List Asked) → (if not t then a ∷ rest else rest) ≡ [] → (t ≡ true) × (rest ≡ [])
kept_none true a rest e = (refl, e)
kept_none false a rest e = absurd (none_is a rest e)

module _ (s l : ℕ) where
  abbrev has_it : List Outcome → Type 0
  has_it os = is_outcome (receives s l) os ≡ true

  in_message : (a b : Bool) (p k : ℕ) (os : List Outcome) → has_it (cond a (other_first ∷ []) (cond b (receives p k ∷ []) os)) → (p ≡ s) ⊎ has_it os
  in_message true b p k os h = absurd (false≢true h)
  in_message false true p k os h =
      elim (or_cases (outcome_eq (receives p k) (receives s l)) false h) [
        | inl e ↦ inl (eqb-true p s (and_parts (p == s) (k == l) e).0)
        | inr e ↦ absurd (false≢true e)
      ]
  in_message false false p k os h = inr h

  in_compute : (a : Bool) (os : List Outcome) → has_it (cond a (other_first ∷ []) os) → has_it os
  in_compute true os h = absurd (false≢true h)
  in_compute false os h = h

  in_both : (os rest : List Outcome) → has_it (or_then os rest) → has_it os ⊎ has_it rest
  in_both os rest h =
      elim (or_cases (not false && is_outcome (receives s l) os) (is_outcome nothing_first os && is_outcome (receives s l) rest) (sym (either_outcome (receives s l) os rest) ∙ h)) [
        | inl e ↦ inl e
        | inr e ↦ inr (and_parts (is_outcome nothing_first os) (is_outcome (receives s l) rest) e).1
      ]

  in_parts : (t : Bool) (os rest : List Outcome) → has_it (cond t (or_then os rest) rest) → has_it os ⊎ has_it rest
  in_parts true os rest h = in_both os rest h
  in_parts false os rest h = inr h

  in_again : (t : Bool) → has_it (cond t (again_first ∷ []) (nothing_first ∷ [])) → ⊥
  in_again true h = false≢true h
  in_again false h = false≢true h

  module _ (roles : List CoreRole) (n : ℤ) (r : ℕ) where
    -- where no end is stray, in no loops does it receive first from what is no rank
    abbrev pub IsSeated : Block → Type 0
    IsSeated g = (held : List Bool) → each_origin (strays (seats roles n)) g ≡ [] → has_it (firsts held r g) → s < total roles n

    abbrev AreSeated : F.Branches → Type 0
    AreSeated bs = (held : List Bool) → each_origin_among (strays (seats roles n)) bs ≡ [] → has_it (firsts_among held r bs) → s < total roles n

    rank_is : (f t : CoreEnd) (i : ℤ) (m : Mark) → strays (seats roles n) (from_two m f t n i) ≡ [] → rank_of roles n f i ≡ s → s < total roles n
    rank_is f t i m h e =
        let seated : is_seat (seat f n i) (seats roles n) ≡ true = (kept_none (is_seat (seat f n i) (seats roles n)) (asked f (2 * m.number) n i) (filter (λ a. not (is_seat a.seat (seats roles n))) (asked t (2 * m.number + 1) n i ∷ [])) h).0 in
        subst (λ z. z < total roles n) e (seat_of_rank roles n (seat f n i) seated).0

    each_seated : (f : ℤ → Block → Block) → ((x : ℤ) (g : Block) → IsSeated g → IsSeated (f x g)) → (xs : List ℤ) (g : Block) → IsSeated g → IsSeated (for_each xs f g)
    each_seated f h [] g k = k
    each_seated f h (x ∷ xs) g k = h x (for_each xs f g) (each_seated f h xs g k)

    mutual
      stmt_seated : (opens : List ℕ) (i : ℤ) (m : Mark) (z : StmtTree) (g : Block) → IsSeated g → IsSeated (flat_stmt roles n opens i m z g)
      stmt_seated opens i m (T.message k f t) g h = λ held e o.
          elim (in_message (rank_of roles n f i == r) (rank_of roles n t i == r) (rank_of roles n f i) k (firsts held r g) o) [
            | inl y ↦ rank_is f t i m (none_left (strays (seats roles n) (from_two m f t n i)) (each_origin (strays (seats roles n)) g) e) y
            | inr y ↦ h held (none_right (strays (seats roles n) (from_two m f t n i)) (each_origin (strays (seats roles n)) g) e) y
          ]
      stmt_seated opens i m (foreach b k items) g h =
          each_seated (λ x. flat_block roles n opens x items) (λ x g k. block_seated opens x items g k) (range (value b.low n i) (value b.high n i)) g h
      stmt_seated opens i m (loop id k body) g h = λ held e o.
          let parts : each_origin (strays (seats roles n)) (flat_block roles n (id ∷ opens) i body stop) ++ each_origin (strays (seats roles n)) g ≡ [] = none_right (strays (seats roles n) (from_none m)) _ e in
          elim (in_parts (takes_part (false ∷ held) r (flat_block roles n (id ∷ opens) i body stop))
          (firsts (takes_part (false ∷ held) r (flat_block roles n (id ∷ opens) i body stop) ∷ held) r (flat_block roles n (id ∷ opens) i body stop)) (firsts held r g) o) [
            | inl y ↦ block_seated (id ∷ opens) i body stop (λ held e o. absurd (false≢true o)) (takes_part (false ∷ held) r (flat_block roles n (id ∷ opens) i body stop) ∷ held)
                (none_left (each_origin (strays (seats roles n)) (flat_block roles n (id ∷ opens) i body stop)) (each_origin (strays (seats roles n)) g) parts) y
            | inr y ↦ h held (none_right (each_origin (strays (seats roles n)) (flat_block roles n (id ∷ opens) i body stop)) (each_origin (strays (seats roles n)) g) parts) y
          ]
      stmt_seated opens i m (T.again id) g h = λ held e o. absurd (in_again (nth held (between id opens)) o)
      stmt_seated opens i m (T.choice k at bs) g h = λ held e o.
          let parts : each_origin_among (strays (seats roles n)) (flat_branches roles n opens i bs) ++ each_origin (strays (seats roles n)) g ≡ [] = none_right (strays (seats roles n) (from_one m at n i)) _ e in
          elim (in_parts (takes_part_among held r (flat_branches roles n opens i bs)) (firsts_among held r (flat_branches roles n opens i bs)) (firsts held r g)
          (in_compute (rank_of roles n at i == r) (cond (takes_part_among held r (flat_branches roles n opens i bs)) (or_then (firsts_among held r (flat_branches roles n opens i bs)) (firsts held r g)) (firsts held r g)) o)) [
            | inl y ↦ branches_seated opens i bs held (none_left (each_origin_among (strays (seats roles n)) (flat_branches roles n opens i bs)) (each_origin (strays (seats roles n)) g) parts) y
            | inr y ↦ h held (none_right (each_origin_among (strays (seats roles n)) (flat_branches roles n opens i bs)) (each_origin (strays (seats roles n)) g) parts) y
          ]
      stmt_seated opens i m (run k at) g h = λ held e o.
          h held (none_right (strays (seats roles n) (from_one m at n i)) (each_origin (strays (seats roles n)) g) e) (in_compute (rank_of roles n at i == r) (firsts held r g) o)
      stmt_seated opens i m barrier g h = λ held e o. absurd (false≢true o)
      stmt_seated opens i m (broadcast k root) g h = λ held e o. absurd (false≢true o)
      stmt_seated opens i m (reduce k op root) g h = λ held e o. absurd (false≢true o)
      stmt_seated opens i m (allreduce k op) g h = λ held e o. absurd (false≢true o)

      pub block_seated : (opens : List ℕ) (i : ℤ) (b : BlockTree) (g : Block) → IsSeated g → IsSeated (flat_block roles n opens i b g)
      block_seated opens i nothing g h = h
      block_seated opens i (more m z b) g h = stmt_seated opens i m z (flat_block roles n opens i b g) (block_seated opens i b g h)

      branches_seated : (opens : List ℕ) (i : ℤ) (bs : BranchTrees) → AreSeated (flat_branches roles n opens i bs)
      branches_seated opens i T.no_branch = λ held e o. absurd (false≢true o)
      branches_seated opens i (T.branch m b bs) = λ held e o.
          elim (or_cases (is_outcome (receives s l) (firsts held r (flat_block roles n opens i b stop))) (is_outcome (receives s l) (firsts_among held r (flat_branches roles n opens i bs)))
          (sym (is_append (firsts held r (flat_block roles n opens i b stop)) (firsts_among held r (flat_branches roles n opens i bs)) (receives s l)) ∙ o)) [
            | inl y ↦ block_seated opens i b stop (λ held e o. absurd (false≢true o)) held
                (none_left (each_origin (strays (seats roles n)) (flat_block roles n opens i b stop)) (each_origin_among (strays (seats roles n)) (flat_branches roles n opens i bs)) e) y
            | inr y ↦ branches_seated opens i bs held
                (none_right (each_origin (strays (seats roles n)) (flat_block roles n opens i b stop)) (each_origin_among (strays (seats roles n)) (flat_branches roles n opens i bs)) e) y
          ]

    pub seated_first : (held : List Bool) (opens : List ℕ) (b : BlockTree) → each_origin (strays (seats roles n)) (flat_block roles n opens (pos 0) b stop) ≡ [] →
        has_it (firsts held r (flat_block roles n opens (pos 0) b stop)) → s < total roles n
    seated_first held opens b e o = block_seated opens (pos 0) b stop (λ held e o. absurd (false≢true o)) held e o
