-- What a rank finds first in a foreach.
use Rattle.std.proofs.Common.{◌≡◌, ℕ, ◌==◌, ℤ, cond, Bool, true, false, if◌then◌else◌, Option, Some, None, List, [], ◌∷◌, refl, ap, ap₂, sym, ◌∙◌}
use Rattle.std.proofs.lemmas.Bool.{and_parts, false≢true}
use Rattle.pb_affine.specs.Values.{value, range}
use Rattle.pb_core_language.specs.declared.protocol.CoreRole.{CoreRole}
use Rattle.pb_core_language.specs.Tree.{Mark, StmtTree, message, foreach, loop, again, choice, run, barrier, broadcast, reduce, allreduce, BlockTree, nothing, more}
use Rattle.pb_core_language.specs.Flat.{Block, stop}
use Rattle.pb_core_language.specs.FlatOf.{for_each, rank_of, flat_stmt, flat_block}
use Rattle.pb_core_language.specs.Outcomes.{Outcome, receives, other_first, firsts}
use Rattle.pb_core_language.specs.Sound.{is_item}
use Rattle.pb_core_flat.specs.Seated.{rank, is_rank, is_at}
use Rattle.pb_core_flat.specs.GoesOn.{are_items}
use Rattle.pb_core_flat.specs.OutcomeSets.{found}
use Rattle.pb_core_flat.specs.Stops.{visits_of, visits}
use Rattle.pb_core_flat.specs.Laws.{EachStops, EachFewStops}
use Rattle.pb_core_flat.proofs.Seats.{end_is_at}
use Rattle.pb_core_flat.proofs.StopOrder.{or_first, or_first_assoc, in_turn}
use Rattle.pb_core_flat.proofs.StopLists.{at_i, stops_are, few_are, map_append}

two_ends : (a b p q : Bool) (s l : ℕ) (o : Option Outcome) → p ≡ a → q ≡ b →
    cond p (other_first ∷ []) (cond q (receives s l ∷ []) (found o ∷ [])) ≡ found (or_first (if a then Some other_first else (if b then Some (receives s l) else None)) o) ∷ []
two_ends true b p q s l o e h = ap (λ z. cond z (other_first ∷ []) (cond q (receives s l ∷ []) (found o ∷ []))) e
two_ends false true p q s l o e h = ap₂ (λ y z. cond y (other_first ∷ []) (cond z (receives s l ∷ []) (found o ∷ []))) e h
two_ends false false p q s l o e h = ap₂ (λ y z. cond y (other_first ∷ []) (cond z (receives s l ∷ []) (found o ∷ []))) e h

one_end : (a p : Bool) (o : Option Outcome) → p ≡ a → cond p (other_first ∷ []) (found o ∷ []) ≡ found (or_first (if a then Some other_first else None) o) ∷ []
one_end true p o e = ap (λ z. cond z (other_first ∷ []) (found o ∷ [])) e
one_end false p o e = ap (λ z. cond z (other_first ∷ []) (found o ∷ [])) e

module _ (roles : List CoreRole) (n : ℤ) (role : ℕ) (x : ℤ) (held : List Bool) (opens : List ℕ) (there : is_rank roles n role x ≡ true) where
  abbrev finds : Block → List Outcome
  finds g = firsts held (rank roles n role x) g

  -- an item, where what is done after it gives this
  item_finds : (i : ℤ) (m : Mark) (s : StmtTree) (g : Block) (o : Option Outcome) → is_item s ≡ true → finds g ≡ found o ∷ [] →
      finds (flat_stmt roles n opens i m s g) ≡ found (or_first (at_i roles n role x i (visits_of s)) o) ∷ []
  item_finds i m (message l f t) g o h e =
      ap (λ z. cond (rank_of roles n f i == rank roles n role x) (other_first ∷ []) (cond (rank_of roles n t i == rank roles n role x) (receives (rank_of roles n f i) l ∷ []) z)) e
      ∙ two_ends (is_at f n i role x) (is_at t n i role x) (rank_of roles n f i == rank roles n role x) (rank_of roles n t i == rank roles n role x) (rank_of roles n f i) l o
      (end_is_at roles n i f role x there) (end_is_at roles n i t role x there)
  item_finds i m (foreach b k items) g o h e = absurd (false≢true h)
  item_finds i m (loop id k body) g o h e = absurd (false≢true h)
  item_finds i m (again id) g o h e = absurd (false≢true h)
  item_finds i m (choice k at bs) g o h e = absurd (false≢true h)
  item_finds i m (run k at) g o h e =
      ap (λ z. cond (rank_of roles n at i == rank roles n role x) (other_first ∷ []) z) e
      ∙ one_end (is_at at n i role x) (rank_of roles n at i == rank roles n role x) o (end_is_at roles n i at role x there)
  item_finds i m barrier g o h e = absurd (false≢true h)
  item_finds i m (broadcast l root) g o h e = absurd (false≢true h)
  item_finds i m (reduce l op root) g o h e = absurd (false≢true h)
  item_finds i m (allreduce l op) g o h e = absurd (false≢true h)

  items_find : (i : ℤ) (b : BlockTree) (g : Block) (o : Option Outcome) → are_items b ≡ true → finds g ≡ found o ∷ [] →
      finds (flat_block roles n opens i b g) ≡ found (or_first (at_i roles n role x i (visits b)) o) ∷ []
  items_find i nothing g o h e = e
  items_find i (more m s b) g o h e =
      let hs = and_parts (is_item s) (are_items b) h in
      item_finds i m s (flat_block roles n opens i b g) (or_first (at_i roles n role x i (visits b)) o) hs.0 (items_find i b g o hs.1 e)
      ∙ ap (λ z. found z ∷ []) (sym (or_first_assoc (at_i roles n role x i (visits_of s)) (at_i roles n role x i (visits b)) o))
      ∙ ap (λ z. found (or_first z o) ∷ []) (sym (map_append roles n role x i (visits_of s) (visits b)))

  each_finds : (b : BlockTree) → are_items b ≡ true → (ys : List ℤ) →
      finds (for_each ys (λ y g. flat_block roles n opens y b g) stop) ≡ found (in_turn (λ y. at_i roles n role x y (visits b)) ys) ∷ []
  each_finds b h [] = refl
  each_finds b h (y ∷ ys) =
      items_find y b (for_each ys (λ y g. flat_block roles n opens y b g) stop) (in_turn (λ y. at_i roles n role x y (visits b)) ys) h (each_finds b h ys)

pub each_stops : EachStops
each_stops roles n i role x held opens m b k items sorted there h by =
    each_finds roles n role x held opens there items h (range (value b.low n i) (value b.high n i))
    ∙ ap (λ z. found z ∷ []) (stops_are roles n role x (visits items) sorted by (value b.low n i) (value b.high n i))

pub each_few_stops : EachFewStops
each_few_stops roles n i role x held opens m b k items sorted there h by =
    each_finds roles n role x held opens there items h (range (value b.low n i) (value b.high n i))
    ∙ ap (λ z. found z ∷ []) (few_are roles n role x (visits items) sorted by (value b.low n i) (value b.high n i))
