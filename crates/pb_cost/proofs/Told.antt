-- What is told of a protocol, and why it isn't.
use Rattle.std.proofs.Common.{◌≡◌, ◌<◌, ◌≤◌, ℕ, ℤ, pos, ◌≤ℤ◌, true, false, ◌&&◌, nat_le, Option, Some, None, List, [], length, refl, sym, ap, ◌∙◌, subst, arith}
use Rattle.std.proofs.lemmas.Int.{ints}
use Rattle.std.proofs.lemmas.Bool.{and_parts}
use Rattle.pb_syntax.specs.declared.core_label.CoreLabel.{CoreLabel}
use Rattle.pb_core_language.specs.Collectives.{setting_of}
use Rattle.pb_core_language.specs.Plain.{Protocol}
use Rattle.pb_core_language.specs.Sound.{is_range, are_roles, is_block, rows_of}
use Rattle.pb_core_language.specs.Tree.{BlockTree}
use Rattle.pb_cost_pieces.specs.declared.stretch.Stretch.{Stretch}
use Rattle.pb_cost_pieces.specs.Lines.{value_in, AreStretches}
use Rattle.pb_cost_joins.specs.declared.count.Count.{Count}
use Rattle.pb_cost_joins.proofs.Counts.{stretches_as}
use Rattle.pb_cost_laws.proofs.Trees.{block_law}
use Rattle.pb_cost_blocks.specs.declared.asked.Asked.{Asked}
use Rattle.pb_cost_blocks.specs.Asked.{way_of, counted, size_in}
use Rattle.pb_cost_blocks.specs.Few.{block_at, nothing_sent, FewFrom, ManyFrom}
use Rattle.pb_cost_blocks.specs.declared.stop.Stop.{Stop}
use Rattle.pb_cost_blocks.specs.declared.stop.Stop.TheVariants.{TooManyPieces, Unfit}
use Rattle.pb_cost_blocks.proofs.Steps.{BlockTold, BlockStopped}
use Rattle.pb_cost.specs.declared.piece.Piece.{Piece}
use Rattle.pb_cost.specs.Costs.{first_loop, HasPieces, HasFew, HasMany, IsCountable, IsCounted}
use Rattle.pb_cost.specs.Pieces.{as_pieces, ArePieces}
use Rattle.pb_cost.specs.Spans.{horizon, IsSpanOf}
use Rattle.pb_cost.proofs.Convert.{Straightens, bounded_pieces, unbounded_pieces, as_many}
use Rattle.pb_cost.proofs.Fits.{fit_block, straight_block}
use Rattle.pb_cost.proofs.PartsKept.{Keeps, part_keeps, few_part, many_part}
use Rattle.pb_cost.proofs.Ranges.{low_small}
use Rattle.pb_cost.proofs.Straightens.{straightens}

low_enough : (low : ℕ) → low ≤ 100000 → pos low ≤ℤ pos 820004100001
low_enough low h = omega (arith, ints, h)

pieces_on : (f : ℤ → ℤ) (high : Option ℕ) (low : ℕ) → low ≤ 100000 → Straightens f → (list : List Stretch) → AreStretches f (horizon high) (pos low) list → ArePieces f high (pos low) (as_pieces high list)
pieces_on f None low small straight list are = unbounded_pieces f straight (pos low) list (low_enough low small) are
pieces_on f (Some high) low small straight list are = bounded_pieces f high (pos low) list are

-- ---- a sound protocol

pub range_sound : (p : Protocol) → IsCountable p → is_range p.range ≡ true
range_sound p h = (and_parts (is_range p.range) (nat_le (length p.roles) 64 && (are_roles p.roles && is_block (rows_of p) false [] p.body.block)) h.sound).0

block_sound : (p : Protocol) → IsCountable p → is_block (rows_of p) false [] p.body.block ≡ true
block_sound p h =
    let a = (and_parts (is_range p.range) (nat_le (length p.roles) 64 && (are_roles p.roles && is_block (rows_of p) false [] p.body.block)) h.sound).1 in
    let b = (and_parts (nat_le (length p.roles) 64) (are_roles p.roles && is_block (rows_of p) false [] p.body.block) a).1 in
    (and_parts (are_roles p.roles) (is_block (rows_of p) false [] p.body.block) b).1

at_most : (a b c : ℕ) → a ≡ b → b ≤ c → a ≤ c
at_most a b c e h = omega (arith, e, h)

more_than : (a b c : ℕ) → a ≡ b → c < b → c < a
more_than a b c e h = omega (arith, e, h)

module _ (p : Protocol) (asked : Asked) (on : IsSpanOf p.range asked.span) (countable : IsCountable p) (none : first_loop p.body.block ≡ None) where
  body_keeps : Keeps (counted asked.what) (size_in p.labels) p.body.block
  body_keeps = record {
    straight = straight_block (rows_of p) false p.body.block (block_sound p countable) none;
    fit = fit_block (rows_of p) false [] p.body.block (block_sound p countable);
    light = countable.light (counted asked.what);
  }

  has_pieces : (part : BlockTree) → Keeps (counted asked.what) (size_in p.labels) part → (list : List Stretch) → AreStretches (λ n. pos (block_at asked p.labels part n)) asked.span.to asked.span.from list → HasPieces p (way_of asked.way) (counted asked.what) part (as_pieces p.range.high list)
  has_pieces part k list are = record {
    count = λ n. pos (block_at asked p.labels part n);
    is = record { at = λ n h. (block_at asked p.labels part n, refl, block_law (setting_of p n) (way_of asked.way) (counted asked.what) p.roles n part k.straight) };
    pieces =
        pieces_on (λ n. pos (block_at asked p.labels part n)) p.range.high p.range.low (low_small p.range (range_sound p countable)) (straightens (way_of asked.way) (counted asked.what) (size_in p.labels) part k.fit k.light) list
        (subst (λ z. AreStretches (λ n. pos (block_at asked p.labels part n)) z (pos p.range.low) list) on.to (subst (λ z. AreStretches (λ n. pos (block_at asked p.labels part n)) asked.span.to z list) on.from are));
  }

  has_few : FewFrom asked p.labels nothing_sent p.body.block → HasFew p (way_of asked.way) (counted asked.what)
  has_few h = λ part is.
      let few = few_part asked p.labels part p.body.block is h in
      (as_pieces p.range.high few.list, has_pieces part (part_keeps (counted asked.what) (size_in p.labels) part p.body.block is body_keeps) few.list few.are, at_most (length (as_pieces p.range.high few.list)) (length few.list) 4096 (as_many p.range.high few.list) few.few)

  pub has_many : ManyFrom asked p.labels nothing_sent p.body.block → HasMany p
  has_many h =
      let it = many_part asked p.labels p.body.block h in
      record {
        way = way_of asked.way;
        what = counted asked.what;
        part = it.0;
        there = it.1;
        list = as_pieces p.range.high it.2.list;
        pieces = has_pieces it.0 (part_keeps (counted asked.what) (size_in p.labels) it.0 p.body.block it.1 body_keeps) it.2.list it.2.are;
        many = more_than (length (as_pieces p.range.high it.2.list)) (length it.2.list) 4096 (as_many p.range.high it.2.list) it.2.many;
      }

  own_stretches : (c : Count) → BlockTold asked p.labels p.body.block c → AreStretches (λ n. pos (block_at asked p.labels p.body.block n)) asked.span.to asked.span.from c.list.items
  own_stretches c told = subst (λ s. AreStretches (λ n. pos (block_at asked p.labels p.body.block n)) s.to s.from c.list.items) told.on
      (stretches_as (value_in c.list.items) (λ n. pos (block_at asked p.labels p.body.block n)) c.span.to c.span.from c.list.items (λ n low high. sym (told.says.is n low high)) told.count.stretches)

  pub is_counted : (c : Count) (items : List Piece) → BlockTold asked p.labels p.body.block c → items ≡ as_pieces p.range.high c.list.items → IsCounted p (way_of asked.way) (counted asked.what) items
  is_counted c items told same = record {
    pieces = subst (λ z. HasPieces p (way_of asked.way) (counted asked.what) p.body.block z) (sym same) (has_pieces p.body.block body_keeps c.list.items (own_stretches c told));
    few = has_few told.parts;
  }

  -- ---- what the walk answers, with the rows of the labels

  pub counted_of : (labels : List CoreLabel) → labels ≡ p.labels → (c : Count) (list : List Stretch) (items : List Piece) → BlockTold asked labels p.body.block c → list ≡ c.list.items → items ≡ as_pieces p.range.high list → IsCounted p (way_of asked.way) (counted asked.what) items
  counted_of labels same c list items told own is = is_counted c items (subst (λ l. BlockTold asked l p.body.block c) same told) (is ∙ ap (as_pieces p.range.high) own)

  pub many_told : (labels : List CoreLabel) → labels ≡ p.labels → (e : Stop) → e ≡ TooManyPieces → BlockStopped asked labels p.body.block e → (first_loop p.body.block ≡ None) × HasMany p
  many_told labels same e is h = (none, has_many (subst (λ z. BlockStopped asked p.labels p.body.block z) is (subst (λ l. BlockStopped asked l p.body.block e) same h)))

  pub unfit_never : (labels : List CoreLabel) → labels ≡ p.labels → (e : Stop) → e ≡ Unfit → BlockStopped asked labels p.body.block e → ⊥
  unfit_never labels same e is h = (subst (λ z. BlockStopped asked p.labels p.body.block z) is (subst (λ l. BlockStopped asked l p.body.block e) same h)) body_keeps.fit body_keeps.light
