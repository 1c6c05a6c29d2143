-- Who takes part in a foreach.
use Rattle.std.proofs.Common.{◌≡◌, ℕ, ◌==◌, ℤ, Bool, true, false, ◌||◌, List, ap₂, ◌∙◌}
use Rattle.std.specs.List.{list_any}
use Rattle.std.proofs.lemmas.Bool.{and_parts, false≢true}
use Rattle.std.proofs.Math.Bool.{or-false}
use Rattle.pb_affine.specs.Values.{value, range}
use Rattle.pb_core_language.specs.declared.protocol.CoreRole.{CoreRole}
use Rattle.pb_core_language.specs.declared.tree.CoreEnd.{CoreEnd}
use Rattle.pb_core_language.specs.Tree.{Mark, StmtTree, message, foreach, loop, again, choice, run, barrier, broadcast, reduce, allreduce, BlockTree, nothing, more}
use Rattle.pb_core_language.specs.Flat.{stop, takes_part}
use Rattle.pb_core_language.specs.FlatOf.{rank_of, flat_stmt, flat_block}
use Rattle.pb_core_language.specs.Sound.{is_item}
use Rattle.pb_core_flat.specs.Seated.{rank, is_rank, is_at}
use Rattle.pb_core_flat.specs.GoesOn.{are_items}
use Rattle.pb_core_flat.specs.Meets.{meets, meet}
use Rattle.pb_core_flat.specs.Laws.{EachIsMet}
use Rattle.pb_core_flat.proofs.Ranges.{any_or, any_none, any_same, end_is_met}
use Rattle.pb_core_flat.proofs.Seats.{end_is_at}
use Rattle.pb_core_flat.proofs.SoundOnes.{items_go_on, item_goes_on}
use Rattle.pb_core_flat.proofs.TakersAdd.{takes_one_by_one, takes_in_block, takes_for_some}

module _ (roles : List CoreRole) (n : ℤ) (role : ℕ) (x : ℤ) (held : List Bool) (opens : List ℕ) (there : is_rank roles n role x ≡ true) where
  -- it takes part in the statement with i for the variable
  abbrev in_stmt : Mark → StmtTree → ℤ → Bool
  in_stmt m s i = takes_part held (rank roles n role x) (flat_stmt roles n opens i m s stop)

  abbrev in_block : BlockTree → ℤ → Bool
  in_block b i = takes_part held (rank roles n role x) (flat_block roles n opens i b stop)

  at_end : (e : CoreEnd) (i : ℤ) → (rank_of roles n e i == rank roles n role x) ≡ is_at e n i role x
  at_end e i = end_is_at roles n i e role x there

  one_end : (e : CoreEnd) (i : ℤ) → (rank_of roles n e i == rank roles n role x) || false ≡ is_at e n i role x
  one_end e i = or-false (rank_of roles n e i == rank roles n role x) ∙ at_end e i

  item_met : (low high : ℤ) (m : Mark) (s : StmtTree) → is_item s ≡ true → list_any (in_stmt m s) (range low high) ≡ meets s low high n role x
  item_met low high m (message l f t) h =
      any_same (in_stmt m (message l f t)) (λ i. is_at f n i role x || is_at t n i role x) (λ i. ap₂ (λ y z. y || z) (at_end f i) (one_end t i)) (range low high)
      ∙ any_or (λ i. is_at f n i role x) (λ i. is_at t n i role x) (range low high)
      ∙ ap₂ (λ y z. y || z) (end_is_met f low high n role x) (end_is_met t low high n role x)
  item_met low high m (foreach b k items) h = absurd (false≢true h)
  item_met low high m (loop id k body) h = absurd (false≢true h)
  item_met low high m (again id) h = absurd (false≢true h)
  item_met low high m (choice k at bs) h = absurd (false≢true h)
  item_met low high m (run k at) h =
      any_same (in_stmt m (run k at)) (λ i. is_at at n i role x) (one_end at) (range low high) ∙ end_is_met at low high n role x
  item_met low high m barrier h = absurd (false≢true h)
  item_met low high m (broadcast l root) h = absurd (false≢true h)
  item_met low high m (reduce l op root) h = absurd (false≢true h)
  item_met low high m (allreduce l op) h = absurd (false≢true h)

  items_met : (low high : ℤ) (b : BlockTree) → are_items b ≡ true → list_any (in_block b) (range low high) ≡ meet b low high n role x
  items_met low high nothing h = any_none (range low high)
  items_met low high (more m s b) h =
      let hs = and_parts (is_item s) (are_items b) h in
      any_same (in_block (more m s b)) (λ i. in_stmt m s i || in_block b i)
      (λ i. takes_one_by_one roles n i (rank roles n role x) held opens m s (flat_block roles n opens i b stop) (item_goes_on s hs.0)) (range low high)
      ∙ any_or (in_stmt m s) (in_block b) (range low high)
      ∙ ap₂ (λ y z. y || z) (item_met low high m s hs.0) (items_met low high b hs.1)

-- the ranks at the ends of the items, for some value of the variable
pub each_is_met : EachIsMet
each_is_met roles n i role x held opens m b k items there h =
    takes_for_some held (rank roles n role x) (λ y g. flat_block roles n opens y items g)
    (λ y g. takes_in_block roles n y (rank roles n role x) held opens items g (items_go_on items h)) (range (value b.low n i) (value b.high n i))
    ∙ items_met roles n role x held opens there (value b.low n i) (value b.high n i) items h
