-- The first breach in a block, a statement at a time.
use Rattle.std.proofs.Common.{◌≡◌, ◌<◌, ◌≤◌, ◌+◌, ℕ, ℤ, true, false, Option, List, map, drop, get_or, length, refl, sym, ap, ◌∙◌, subst, drop_of_length-le}
use Rattle.std.proofs.lemmas.Bool.{false≢true}
use Rattle.pb_affine.specs.declared.range.NRange.{NRange}
use Rattle.pb_core_language.specs.declared.protocol.CoreRole.{CoreRole}
use Rattle.pb_core_language.specs.declared.tree.CoreBlock.{CoreBlock, out-CoreBlock}
use Rattle.pb_core_language.specs.declared.tree.CoreStmt.{CoreStmt}
use Rattle.pb_core_language.specs.Tree.{Mark, StmtTree, message, foreach, loop, again, choice, run, barrier, broadcast, reduce, allreduce, BlockTree, more, is_again}
use Rattle.pb_core_language.specs.Plain.{plain_block, plain_stmt, block_of}
use Rattle.pb_core_language.specs.Run.{Env}
use Rattle.pb_core_language.specs.Sound.{Rows, is_bound, is_block}
use Rattle.std.proofs.lemmas.Bool.{and_parts}
use Rattle.pb_part_areas.specs.declared.area.Area.{Area}
use Rattle.pb_part_takers.specs.declared.held.Held.{Held}
use Rattle.pb_part_takers.specs.Loops.{ids_of}
use Rattle.pb_core_flat.proofs.SoundOnes.{sound_items}
use Rattle.pb_choice.specs.declared.found.Found.{Found}
use Rattle.pb_choice.specs.Flaws.{IsFlaw, no_flaws, of_block, of_stmt}
use Rattle.pb_choice.specs.Found.{Improves}
use Rattle.pb_choice.specs.Scenes.{Stands, IsFairStmt, IsFair}
use Rattle.pb_choice.specs.Plainly.{is_plain}
use Rattle.pb_choice.specs.Walks.{FirstIn, FirstAt}
use Rattle.pb_choice.proofs.FlawSteps.{SameFlaws, improves_both, improves_empty}
use Rattle.pb_choice.proofs.Fairs.{goes_if, fair_first, fair_rest}
use Rattle.pb_choice.proofs.Parts.{block_parts, again_parts, each_parts}
use Rattle.pb_core_language.proofs.Plains.{plain_list}
use Rattle.pb_choice.proofs.Lists.{drop_is}

-- the statements from here on, and what is left to find in them
pub record BlockNow (range : NRange) (roles : List CoreRole) (rows : Rows) (env : ℤ → Env) (opens : List ℕ) (all now : BlockTree) (old best : Option Found) : Type 0 where
  pub fair : IsFair range roles rows opens now
  pub rest : (new : Option Found) → Improves (IsFlaw range roles (of_block roles env opens now)) best new → Improves (IsFlaw range roles (of_block roles env opens all)) old new

pub record BlockSoFar (range : NRange) (whole : List Area) (held : List Held) (items : List CoreStmt) (i : ℕ) (old best : Option Found) : Type 0 where
  pub is : (roles : List CoreRole) (rows : Rows) (env : ℤ → Env) → Stands range roles env whole held → IsFair range roles rows (ids_of held) (block_of (map plain_stmt items)) →
      BlockNow range roles rows env (ids_of held) (block_of (map plain_stmt items)) (block_of (map plain_stmt (drop i items))) old best

pub block_start : (range : NRange) (whole : List Area) (held : List Held) (items : List CoreStmt) (best : Option Found) → BlockSoFar range whole held items 0 best best
block_start range whole held items best = record { is = λ roles rows env stands fair. record { fair = fair; rest = λ new h. h } }

pub block_step : (range : NRange) (whole : List Area) (held : List Held) (items : List CoreStmt) (i : ℕ) (x : CoreStmt) (old best next : Option Found) →
    i < length items → x ≡ get_or items i x → is_again (plain_stmt x).stmt ≡ false →
    FirstAt range whole held (plain_stmt x).mark (plain_stmt x).stmt best next → BlockSoFar range whole held items i old best → BlockSoFar range whole held items (i + 1) old next
block_step range whole held items i x old best next lt is goes here so_far = record {
  is = λ roles rows env stands fair.
      let whole_block : block_of (map plain_stmt (drop i items)) ≡ more (plain_stmt x).mark (plain_stmt x).stmt (block_of (map plain_stmt (drop (i + 1) items))) = ap (λ l. block_of (map plain_stmt l)) (drop_is items i x lt is) in
      let now : BlockNow range roles rows env (ids_of held) (block_of (map plain_stmt items)) (more (plain_stmt x).mark (plain_stmt x).stmt (block_of (map plain_stmt (drop (i + 1) items)))) old best =
      subst (λ b. BlockNow range roles rows env (ids_of held) (block_of (map plain_stmt items)) b old best) whole_block (so_far.is roles rows env stands fair) in
      let first_fair : IsFairStmt range roles rows (ids_of held) (plain_stmt x).mark (plain_stmt x).stmt = fair_first range roles rows (ids_of held) (plain_stmt x).mark (plain_stmt x).stmt (block_of (map plain_stmt (drop (i + 1) items))) goes now.fair in
      record {
        fair = fair_rest range roles rows (ids_of held) (plain_stmt x).mark (plain_stmt x).stmt (block_of (map plain_stmt (drop (i + 1) items))) goes now.fair;
        rest = λ new h. now.rest new
            (improves_both range roles (of_stmt roles env (ids_of held) (plain_stmt x).mark (plain_stmt x).stmt) (of_block roles env (ids_of held) (block_of (map plain_stmt (drop (i + 1) items))))
            (of_block roles env (ids_of held) (more (plain_stmt x).mark (plain_stmt x).stmt (block_of (map plain_stmt (drop (i + 1) items))))) best next new
            (block_parts roles env (ids_of held) (plain_stmt x).mark (plain_stmt x).stmt (block_of (map plain_stmt (drop (i + 1) items))) (goes_if range roles rows (ids_of held) (plain_stmt x).stmt first_fair.sound goes))
            (here.is roles rows env stands first_fair) h);
      };
}

-- what is known at an end of the block
ended : (range : NRange) (whole : List Area) (held : List Held) (b : CoreBlock) (items : List CoreStmt) (i : ℕ) (old best : Option Found) → items ≡ (out-CoreBlock b).list.items →
    ((roles : List CoreRole) (env : ℤ → Env) → SameFlaws (of_block roles env (ids_of held) (block_of (map plain_stmt (drop i items)))) no_flaws) →
    BlockSoFar range whole held items i old best → FirstIn range whole held (plain_block b).block old best
ended range whole held b items i old best same none so_far =
    subst (λ z. FirstIn range whole held z old best) (ap (λ l. block_of (map plain_stmt l)) same ∙ sym (plain_list b)) (record {
      is = λ roles rows env stands fair.
          (so_far.is roles rows env stands fair).rest best (improves_empty range roles (of_block roles env (ids_of held) (block_of (map plain_stmt (drop i items)))) best (none roles env));
    })

pub block_done : (range : NRange) (whole : List Area) (held : List Held) (b : CoreBlock) (items : List CoreStmt) (i : ℕ) (old best : Option Found) → items ≡ (out-CoreBlock b).list.items → length items ≤ i →
    BlockSoFar range whole held items i old best → FirstIn range whole held (plain_block b).block old best
block_done range whole held b items i old best same le so_far =
    ended range whole held b items i old best same
    (λ roles env. subst (λ l. SameFlaws (of_block roles env (ids_of held) (block_of (map plain_stmt l))) no_flaws) (sym (drop_of_length-le items le)) (record { lone = λ n. refl; told = λ k n role x. refl })) so_far

pub block_stops : (range : NRange) (whole : List Area) (held : List Held) (b : CoreBlock) (items : List CoreStmt) (i : ℕ) (x : CoreStmt) (old best : Option Found) → items ≡ (out-CoreBlock b).list.items →
    i < length items → x ≡ get_or items i x → is_again (plain_stmt x).stmt ≡ true →
    BlockSoFar range whole held items i old best → FirstIn range whole held (plain_block b).block old best
block_stops range whole held b items i x old best same lt is stops so_far =
    ended range whole held b items i old best same
    (λ roles env. subst (λ l. SameFlaws (of_block roles env (ids_of held) (block_of (map plain_stmt l))) no_flaws) (sym (drop_is items i x lt is))
    (again_parts roles env (ids_of held) (plain_stmt x).mark (plain_stmt x).stmt (block_of (map plain_stmt (drop (i + 1) items))) stops)) so_far

plain_flaws : (range : NRange) (roles : List CoreRole) (rows : Rows) (env : ℤ → Env) (opens : List ℕ) (m : Mark) (s : StmtTree) → is_plain s ≡ true → IsFairStmt range roles rows opens m s → SameFlaws (of_stmt roles env opens m s) no_flaws
plain_flaws range roles rows env opens m (message l f t) h fair = record { lone = λ n. refl; told = λ k n role x. refl }
plain_flaws range roles rows env opens m (foreach b k items) h fair =
    each_parts roles env opens m k b items (sound_items rows opens items (and_parts (is_bound b.high) (is_block rows true opens items) (and_parts (is_bound b.low) _ fair.sound).1).1)
plain_flaws range roles rows env opens m (loop id k body) h fair = absurd (false≢true h)
plain_flaws range roles rows env opens m (again id) h fair = record { lone = λ n. refl; told = λ k n role x. refl }
plain_flaws range roles rows env opens m (choice k at bs) h fair = absurd (false≢true h)
plain_flaws range roles rows env opens m (run k at) h fair = record { lone = λ n. refl; told = λ k n role x. refl }
plain_flaws range roles rows env opens m barrier h fair = record { lone = λ n. refl; told = λ k n role x. refl }
plain_flaws range roles rows env opens m (broadcast l root) h fair = record { lone = λ n. refl; told = λ k n role x. refl }
plain_flaws range roles rows env opens m (reduce l op root) h fair = record { lone = λ n. refl; told = λ k n role x. refl }
plain_flaws range roles rows env opens m (allreduce l op) h fair = record { lone = λ n. refl; told = λ k n role x. refl }

pub plain_first : (range : NRange) (whole : List Area) (held : List Held) (m : Mark) (s : StmtTree) (best : Option Found) → is_plain s ≡ true → FirstAt range whole held m s best best
plain_first range whole held m s best h = record {
  is = λ roles rows env stands fair. improves_empty range roles (of_stmt roles env (ids_of held) m s) best (plain_flaws range roles rows env (ids_of held) m s h fair);
}
