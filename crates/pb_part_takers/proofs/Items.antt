-- What is added by the items of a foreach.
use Rattle.std.proofs.Common.{◌≡◌, ℕ, ℤ, pos, nat_lt, Bool, true, false, ◌&&◌, ◌||◌, List, Some, refl, sym, ap, subst, ◌∙◌}
use Rattle.std.specs.List.{All}
use Rattle.std.proofs.lemmas.Bool.{and_parts}
use Rattle.pb_affine.specs.declared.lin.Lin.{Lin}
use Rattle.pb_affine.specs.declared.range.NRange.{NRange}
use Rattle.pb_affine.specs.Values.{value}
use Rattle.pb_part_areas.specs.declared.area.Area.{Area}
use Rattle.pb_part_areas.specs.Areas.{has, have}
use Rattle.pb_part_areas.specs.Fits.{Fits}
use Rattle.pb_core_language.specs.declared.tree.CoreEnd.{CoreEnd}
use Rattle.pb_core_language.specs.declared.tree.CoreStmt.{CoreStmt}
use Rattle.pb_core_language.specs.Cuts.{end_cuts, stmt_cuts, block_cuts}
use Rattle.pb_core_language.specs.Plain.{MarkedStmt, plain_stmt}
use Rattle.pb_core_language.specs.Sound.{is_small, is_bound, is_end, is_item, is_stmt, is_block}
use Rattle.pb_core_language.specs.Tree.{StmtTree, message, run, BlockTree, nothing, more}
use Rattle.pb_core_language.specs.declared.tree.Bounds.{Bounds}
use Rattle.pb_core_flat.specs.Meets.{meets}
use Rattle.pb_part_takers.specs.declared.held.Held.{Held}
use Rattle.pb_part_takers.specs.Ends.{IsMetArea}
use Rattle.pb_part_takers.specs.Pieces.{IsAdded, met_piece, item_piece, items_piece}
use Rattle.pb_part_takers.proofs.Among.{among_left, among_right}
use Rattle.pb_part_takers.proofs.Steps.{have_from_zero, two_added, same_added, nothing_added}

-- both ends of the range are sound, and so is the rest
pub record IsIn (h : Bounds) (rest : Bool) : Type 0 where
  pub low : is_bound h.low ≡ true
  pub high : is_bound h.high ≡ true
  pub rest_is : rest ≡ true

pub inside : (h : Bounds) (rest : Bool) → is_bound h.low && (is_bound h.high && rest) ≡ true → IsIn h rest
inside h rest s =
    let a = and_parts (is_bound h.low) (is_bound h.high && rest) s in
    let b = and_parts (is_bound h.high) rest a.1 in
    record { low = a.0; high = b.0; rest_is = b.1 }

with_bounds : (h : Bounds) (rest : Bool) → is_bound h.low ≡ true → is_bound h.high ≡ true → rest ≡ true → is_bound h.low && (is_bound h.high && rest) ≡ true
with_bounds h rest a b c = ap (λ z. z && (is_bound h.high && rest)) a ∙ ap (λ z. z && rest) b ∙ c

module _ (whole : List Area) (held : List Held) (h : Bounds) where
  -- `b` is the end's area, for the numbers N of the ranks
  pub met_added : (e : CoreEnd) (a b : Area) (old new : List Area) → IsMetArea h e a → ((n : ℤ) (role : ℕ) (x : ℤ) → have whole n role x ≡ true → has b n role x ≡ has a n role x) →
      ((range : NRange) (cuts : List Lin) → All (Fits range cuts) whole → Fits range cuts a → Fits range cuts b) → ((n : ℤ) (role : ℕ) (x : ℤ) → have new n role x ≡ have old n role x || has b n role x) →
      ((range : NRange) (cuts : List Lin) → All (Fits range cuts) old → Fits range cuts b → All (Fits range cuts) new) → IsAdded whole held (met_piece h e) old new
  met_added e a b old new ea same clip is fits = record {
    is = λ rows roles n role x s r w.
        let i = inside h (is_end rows true e) s in
        let small = and_parts (nat_lt e.role rows.roles) (is_small e.at.off) i.rest_is in
        is n role x ∙ ap (λ z. have old n role x || z) (same n role x w ∙ ea.is n role x (have_from_zero whole n role x w) i.low i.high small.1);
    fits = λ rows range cuts s k fw fh f.
        let i = inside h (is_end rows true e) s in
        let small = and_parts (nat_lt e.role rows.roles) (is_small e.at.off) i.rest_is in
        fits range cuts f (clip range cuts fw (ea.fits range cuts i.low i.high small.1 k));
  }

  pub message_item : (label : ℕ) (ids : List ℕ) (f t : CoreEnd) (old mid new : List Area) → IsAdded whole held (met_piece h f) old mid → IsAdded whole held (met_piece h t) mid new →
      IsAdded whole held (item_piece h ids (message label f t)) old new
  message_item label ids f t old mid new a b = two_added whole held (item_piece h ids (message label f t)) (met_piece h f) (met_piece h t) old mid new
      (λ rows s.
      let i = inside h (nat_lt label rows.labels && (is_end rows true f && is_end rows true t)) s in
      let p = and_parts (nat_lt label rows.labels) (is_end rows true f && is_end rows true t) i.rest_is in
      let q = and_parts (is_end rows true f) (is_end rows true t) p.1 in
      (with_bounds h (is_end rows true f) i.low i.high q.0, with_bounds h (is_end rows true t) i.low i.high q.1))
      (λ rows roles n role x s r. refl)
      (λ cuts k. ((k.0, (k.1.0, among_left (end_cuts (Some h) f) (end_cuts (Some h) t) cuts k.1.1)), (k.0, (k.1.0, among_right (end_cuts (Some h) f) (end_cuts (Some h) t) cuts k.1.1)))) a b

  pub run_item : (kernel : ℕ) (ids : List ℕ) (e : CoreEnd) (old new : List Area) → IsAdded whole held (met_piece h e) old new → IsAdded whole held (item_piece h ids (run kernel e)) old new
  run_item kernel ids e old new a = same_added whole held (item_piece h ids (run kernel e)) (met_piece h e) old new
      (λ rows s.
      let i = inside h (nat_lt kernel rows.kernels && is_end rows true e) s in
      with_bounds h (is_end rows true e) i.low i.high (and_parts (nat_lt kernel rows.kernels) (is_end rows true e) i.rest_is).1)
      (λ rows roles n role x s r. refl) (λ cuts k. k) a

  pub no_item : (ids : List ℕ) (s : StmtTree) (old : List Area) → ((low high n : ℤ) (role : ℕ) (x : ℤ) → meets s low high n role x ≡ false) → IsAdded whole held (item_piece h ids s) old old
  no_item ids s old f = nothing_added whole held (item_piece h ids s) old (λ rows roles n role x _. f (value h.low n (pos 0)) (value h.high n (pos 0)) n role x)

  pub items_more : (ids : List ℕ) (s : MarkedStmt) (b : BlockTree) (old mid new : List Area) → IsAdded whole held (item_piece h ids s.stmt) old mid → IsAdded whole held (items_piece h ids b) mid new →
      IsAdded whole held (items_piece h ids (more s.mark s.stmt b)) old new
  items_more ids s b old mid new a r = two_added whole held (items_piece h ids (more s.mark s.stmt b)) (item_piece h ids s.stmt) (items_piece h ids b) old mid new
      (λ rows t.
      let i = inside h (is_item s.stmt && (is_stmt rows true ids s.stmt && is_block rows true ids b)) t in
      let p = and_parts (is_item s.stmt) (is_stmt rows true ids s.stmt && is_block rows true ids b) i.rest_is in
      let q = and_parts (is_stmt rows true ids s.stmt) (is_block rows true ids b) p.1 in
      (with_bounds h (is_stmt rows true ids s.stmt) i.low i.high q.0, with_bounds h (is_block rows true ids b) i.low i.high q.1))
      (λ rows roles n role x t r. refl)
      (λ cuts k. ((k.0, (k.1.0, among_left (stmt_cuts (Some h) s.stmt) (block_cuts (Some h) b) cuts k.1.1)), (k.0, (k.1.0, among_right (stmt_cuts (Some h) s.stmt) (block_cuts (Some h) b) cuts k.1.1)))) a r

  pub items_done : (ids : List ℕ) (old : List Area) → IsAdded whole held (items_piece h ids nothing) old old
  items_done ids old = nothing_added whole held (items_piece h ids nothing) old (λ rows roles n role x _. refl)

  -- an item is its tree
  pub of_item : (ids : List ℕ) (s : CoreStmt) (t : StmtTree) (old new : List Area) → (plain_stmt s).stmt ≡ t → IsAdded whole held (item_piece h ids t) old new → IsAdded whole held (item_piece h ids (plain_stmt s).stmt) old new
  of_item ids s t old new e a = subst (λ z. IsAdded whole held (item_piece h ids z) old new) (sym e) a
