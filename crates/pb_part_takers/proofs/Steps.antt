-- What is added, one statement after the other.
use Rattle.std.proofs.Common.{◌≡◌, ◌==◌, ℕ, ℤ, pos, ◌≤ℤ◌, nat_lt, Bool, true, false, ◌&&◌, ◌||◌, if◌then◌else◌, List, [], ◌∷◌, length, None, Result, Ok, Err, refl, sym, ap, ap₂, subst, ◌∙◌, arith}
use Rattle.std.specs.Prelude.{OnOk}
use Rattle.std.specs.List.{All}
use Rattle.std.proofs.lemmas.Bool.{and_parts, false≢true}
use Rattle.std.proofs.lemmas.Bool.Decides.{nat_tests}
use Rattle.std.proofs.Math.Bool.{or-false}
use Rattle.pb_affine.specs.declared.lin.Lin.{Lin}
use Rattle.pb_affine.specs.declared.range.NRange.{NRange}
use Rattle.pb_part_areas.specs.declared.area.Area.{Area}
use Rattle.pb_part_areas.specs.Areas.{has, have}
use Rattle.pb_part_areas.specs.Fits.{Fits}
use Rattle.pb_core_language.specs.declared.protocol.CoreRole.{CoreRole}
use Rattle.pb_core_language.specs.declared.tree.CoreEnd.{CoreEnd}
use Rattle.pb_core_language.specs.declared.tree.CoreStmt.{CoreStmt}
use Rattle.pb_core_language.specs.Cuts.{end_cuts, stmt_cuts, block_cuts, branches_cuts}
use Rattle.pb_core_language.specs.Lists.{nth}
use Rattle.pb_core_language.specs.Flat.{stop, takes_part, takes_part_among}
use Rattle.pb_core_language.specs.FlatOf.{between, rank_of, flat_stmt, flat_block, flat_branches}
use Rattle.pb_core_language.specs.Plain.{MarkedStmt, plain_stmt}
use Rattle.pb_core_language.specs.Sound.{Rows, is_small, is_bound, is_over_n, is_end, has_branch, is_stmt, is_block, are_branches}
use Rattle.pb_core_language.specs.Tree.{Mark, StmtTree, message, foreach, loop, again, choice, run, BlockTree, more, BranchTrees, branch, is_again}
use Rattle.pb_core_language.specs.declared.tree.Bounds.{Bounds}
use Rattle.pb_core_flat.specs.Seated.{rank, is_rank}
use Rattle.pb_core_flat.proofs.Seats.{end_is_at}
use Rattle.pb_core_flat.proofs.TakersAdd.{takes_first}
use Rattle.pb_core_flat.proofs.Each.{each_is_met}
use Rattle.pb_core_flat.proofs.SoundOnes.{sound_items}
use Rattle.pb_part_takers.specs.declared.held.Held.{Held}
use Rattle.pb_part_takers.specs.Ends.{IsEndArea}
use Rattle.pb_part_takers.specs.Loops.{ids_of, held_of, HeldFit, IsInside}
use Rattle.pb_part_takers.specs.Pieces.{AreAmong, Piece, IsAdded, end_piece, stmt_piece, block_piece, branches_piece, items_piece, joint_piece, stmt_of}
use Rattle.pb_part_takers.proofs.Among.{among_left, among_right}
use Rattle.pb_part_takers.proofs.EndAreas.{has_from_zero}

-- ---- numbers N are not below zero where some area holds

either_true : (p q : Bool) → p || q ≡ true → p ≡ false → q ≡ true
either_true p q h e = grind (arith, nat_tests)

from_zero_by : (b : Bool) (a : Area) (n : ℤ) (role : ℕ) (x : ℤ) (rest : Bool) → has a n role x ≡ b → has a n role x || rest ≡ true → (rest ≡ true → pos 0 ≤ℤ n) → pos 0 ≤ℤ n
from_zero_by true a n role x rest e h f = has_from_zero a n role x e
from_zero_by false a n role x rest e h f = f (either_true (has a n role x) rest h e)

pub have_from_zero : (xs : List Area) (n : ℤ) (role : ℕ) (x : ℤ) → have xs n role x ≡ true → pos 0 ≤ℤ n
have_from_zero [] n role x h = absurd (false≢true h)
have_from_zero (a ∷ xs) n role x h = from_zero_by (has a n role x) a n role x (have xs n role x) refl h (have_from_zero xs n role x)

-- ---- equations of tests

pub chain_bools : (o m w p q : Bool) → m ≡ o || p → w ≡ m || q → w ≡ o || (p || q)
chain_bools o m w p q e f = grind (arith, nat_tests)

-- ---- one piece after another

module _ (whole : List Area) (held : List Held) where
  pub nothing_added : (piece : Piece) (old : List Area) → ((rows : Rows) (roles : List CoreRole) (n : ℤ) (role : ℕ) (x : ℤ) → piece.sound rows ≡ true → piece.part roles n role x ≡ false) → IsAdded whole held piece old old
  nothing_added piece old h = record {
    is = λ rows roles n role x s r w. sym (or-false (have old n role x)) ∙ ap (λ z. have old n role x || z) (sym (h rows roles n role x s));
    fits = λ rows range cuts s k a b f. f;
  }

  -- a piece with the parts of two
  pub two_added : (piece first second : Piece) (old mid new : List Area) →
      ((rows : Rows) → piece.sound rows ≡ true → (first.sound rows ≡ true) × (second.sound rows ≡ true)) →
      ((rows : Rows) (roles : List CoreRole) (n : ℤ) (role : ℕ) (x : ℤ) → piece.sound rows ≡ true → is_rank roles n role x ≡ true → first.part roles n role x || second.part roles n role x ≡ piece.part roles n role x) →
      ((cuts : List Lin) → AreAmong piece.cuts cuts → AreAmong first.cuts cuts × AreAmong second.cuts cuts) →
      IsAdded whole held first old mid → IsAdded whole held second mid new → IsAdded whole held piece old new
  two_added piece first second old mid new sound part cuts a b = record {
    is = λ rows roles n role x s r w.
        let ss = sound rows s in
        chain_bools (have old n role x) (have mid n role x) (have new n role x) (first.part roles n role x) (second.part roles n role x) (a.is rows roles n role x ss.0 r w) (b.is rows roles n role x ss.1 r w)
        ∙ ap (λ z. have old n role x || z) (part rows roles n role x s r);
    fits = λ rows range lins s k fw fh f.
        let ss = sound rows s in
        let ks = cuts lins k in
        b.fits rows range lins ss.1 ks.1 fw fh (a.fits rows range lins ss.0 ks.0 fw fh f);
  }

  -- one that says the same
  pub same_added : (piece first : Piece) (old new : List Area) →
      ((rows : Rows) → piece.sound rows ≡ true → first.sound rows ≡ true) →
      ((rows : Rows) (roles : List CoreRole) (n : ℤ) (role : ℕ) (x : ℤ) → piece.sound rows ≡ true → is_rank roles n role x ≡ true → first.part roles n role x ≡ piece.part roles n role x) →
      ((cuts : List Lin) → AreAmong piece.cuts cuts → AreAmong first.cuts cuts) →
      IsAdded whole held first old new → IsAdded whole held piece old new
  same_added piece first old new sound part cuts a = record {
    is = λ rows roles n role x s r w. a.is rows roles n role x (sound rows s) r w ∙ ap (λ z. have old n role x || z) (part rows roles n role x s r);
    fits = λ rows range lins s k. a.fits rows range lins (sound rows s) (cuts lins k);
  }

  -- the piece is added to a copy, and the same ranks are then said by other areas
  pub copy_added : (piece : Piece) (old copy mid new : List Area) → ((n : ℤ) (role : ℕ) (x : ℤ) → have copy n role x ≡ have old n role x) → ((range : NRange) (cuts : List Lin) → All (Fits range cuts) old → All (Fits range cuts) copy) →
      IsAdded whole held piece copy mid → ((n : ℤ) (role : ℕ) (x : ℤ) → have new n role x ≡ have mid n role x) → ((range : NRange) (cuts : List Lin) → All (Fits range cuts) mid → All (Fits range cuts) new) →
      IsAdded whole held piece old new
  copy_added piece old copy mid new copy_is copy_fits a new_is new_fits = record {
    is = λ rows roles n role x s r w. new_is n role x ∙ a.is rows roles n role x s r w ∙ ap (λ z. z || piece.part roles n role x) (copy_is n role x);
    fits = λ rows range cuts s k fw fh f. new_fits range cuts (a.fits rows range cuts s k fw fh (copy_fits range cuts f));
  }

  -- ---- ends

  -- `b` is the end's area, for the numbers N of the ranks
  pub end_added : (e : CoreEnd) (a b : Area) (old new : List Area) → IsEndArea e a → ((n : ℤ) (role : ℕ) (x : ℤ) → have whole n role x ≡ true → has b n role x ≡ has a n role x) →
      ((range : NRange) (cuts : List Lin) → All (Fits range cuts) whole → Fits range cuts a → Fits range cuts b) → ((n : ℤ) (role : ℕ) (x : ℤ) → have new n role x ≡ have old n role x || has b n role x) →
      ((range : NRange) (cuts : List Lin) → All (Fits range cuts) old → Fits range cuts b → All (Fits range cuts) new) → IsAdded whole held (end_piece e) old new
  end_added e a b old new ea same clip is fits = record {
    is = λ rows roles n role x s r w.
        let ss = and_parts (nat_lt e.role rows.roles) (is_over_n e.at.base && is_small e.at.off) s in
        let small = and_parts (is_over_n e.at.base) (is_small e.at.off) ss.1 in
        is n role x ∙ ap (λ z. have old n role x || z) (same n role x w ∙ ea.is n role x (have_from_zero whole n role x w) small.1 ∙ sym (end_is_at roles n (pos 0) e role x r));
    fits = λ rows range cuts s k fw fh f.
        let ss = and_parts (nat_lt e.role rows.roles) (is_over_n e.at.base && is_small e.at.off) s in
        let small = and_parts (is_over_n e.at.base) (is_small e.at.off) ss.1 in
        fits range cuts f (clip range cuts fw (ea.fits range cuts small.1 small.0 k));
  }

  -- ---- statements

  two_or : (p q : Bool) → p || q ≡ p || (q || false)
  two_or p q = ap (λ z. p || z) (sym (or-false q))

  pub message_added : (label : ℕ) (mark : Mark) (f t : CoreEnd) (old mid new : List Area) → IsAdded whole held (end_piece f) old mid → IsAdded whole held (end_piece t) mid new →
      IsAdded whole held (stmt_piece held (stmt_of mark (message label f t))) old new
  message_added label mark f t old mid new a b = two_added (stmt_piece held (stmt_of mark (message label f t))) (end_piece f) (end_piece t) old mid new
      (λ rows s. let ss = and_parts (nat_lt label rows.labels) (is_end rows false f && is_end rows false t) s in and_parts (is_end rows false f) (is_end rows false t) ss.1)
      (λ rows roles n role x s r. two_or (rank_of roles n f (pos 0) == rank roles n role x) (rank_of roles n t (pos 0) == rank roles n role x))
      (λ cuts k. (among_left (end_cuts None f) (end_cuts None t) cuts k, among_right (end_cuts None f) (end_cuts None t) cuts k)) a b

  pub run_added : (kernel : ℕ) (mark : Mark) (e : CoreEnd) (old new : List Area) → IsAdded whole held (end_piece e) old new → IsAdded whole held (stmt_piece held (stmt_of mark (run kernel e))) old new
  run_added kernel mark e old new a = same_added (stmt_piece held (stmt_of mark (run kernel e))) (end_piece e) old new
      (λ rows s. (and_parts (nat_lt kernel rows.kernels) (is_end rows false e) s).1)
      (λ rows roles n role x s r. sym (or-false (rank_of roles n e (pos 0) == rank roles n role x))) (λ cuts k. k) a

  choice_or : (p q : Bool) → p || q ≡ (p || q) || false
  choice_or p q = sym (or-false (p || q))

  pub choice_added : (kernel : ℕ) (mark : Mark) (at : CoreEnd) (bs : BranchTrees) (old mid new : List Area) → IsAdded whole held (end_piece at) old mid → IsAdded whole held (branches_piece held bs) mid new →
      IsAdded whole held (stmt_piece held (stmt_of mark (choice kernel at bs))) old new
  choice_added kernel mark at bs old mid new a b = two_added (stmt_piece held (stmt_of mark (choice kernel at bs))) (end_piece at) (branches_piece held bs) old mid new
      (λ rows s.
      let s1 = and_parts (nat_lt kernel rows.kernels) (is_end rows false at && (has_branch bs && are_branches rows (ids_of held) bs)) s in
      let s2 = and_parts (is_end rows false at) (has_branch bs && are_branches rows (ids_of held) bs) s1.1 in
      let s3 = and_parts (has_branch bs) (are_branches rows (ids_of held) bs) s2.1 in
      (s2.0, s3.1))
      (λ rows roles n role x s r. choice_or (rank_of roles n at (pos 0) == rank roles n role x) (takes_part_among (held_of held n role x) (rank roles n role x) (flat_branches roles n (ids_of held) (pos 0) bs)))
      (λ cuts k. (among_left (end_cuts None at) (branches_cuts None bs) cuts k, among_right (end_cuts None at) (branches_cuts None bs) cuts k)) a b

  pub again_added : (id : ℕ) (mark : Mark) (old new : List Area) →
      ((n : ℤ) (role : ℕ) (x : ℤ) → have new n role x ≡ have old n role x || nth (held_of held n role x) (between id (ids_of held))) →
      ((range : NRange) (cuts : List Lin) → All (Fits range cuts) old → HeldFit range cuts held → All (Fits range cuts) new) → IsAdded whole held (stmt_piece held (stmt_of mark (again id))) old new
  again_added id mark old new is fits = record {
    is = λ rows roles n role x s r w. is n role x;
    fits = λ rows range cuts s k fw fh f. fits range cuts f fh;
  }

  pub all_added : (old new : List Area) → ((n : ℤ) (role : ℕ) (x : ℤ) → have new n role x ≡ have old n role x || have whole n role x) →
      ((range : NRange) (cuts : List Lin) → All (Fits range cuts) old → All (Fits range cuts) whole → All (Fits range cuts) new) → IsAdded whole held joint_piece old new
  all_added old new is fits = record {
    is = λ rows roles n role x s r w. is n role x ∙ ap (λ z. have old n role x || z) w;
    fits = λ rows range cuts s k fw fh f. fits range cuts f fw;
  }

  -- a statement of all ranks
  pub joint_added : (piece : Piece) (old new : List Area) → ((roles : List CoreRole) (n : ℤ) (role : ℕ) (x : ℤ) → piece.part roles n role x ≡ true) → IsAdded whole held joint_piece old new → IsAdded whole held piece old new
  joint_added piece old new part a = same_added piece joint_piece old new (λ rows s. refl) (λ rows roles n role x s r. sym (part roles n role x)) (λ cuts k. tt) a

  pub each_added : (h : Bounds) (k mark : Mark) (items : BlockTree) (old new : List Area) → IsAdded whole held (items_piece h (ids_of held) items) old new → IsAdded whole held (stmt_piece held (stmt_of mark (foreach h k items))) old new
  each_added h k mark items old new a = same_added (stmt_piece held (stmt_of mark (foreach h k items))) (items_piece h (ids_of held) items) old new (λ rows s. s)
      (λ rows roles n role x s r.
      let s1 = and_parts (is_bound h.low) (is_bound h.high && is_block rows true (ids_of held) items) s in
      let s2 = and_parts (is_bound h.high) (is_block rows true (ids_of held) items) s1.1 in
      sym (each_is_met roles n (pos 0) role x (held_of held n role x) (ids_of held) mark h k items r (sound_items rows (ids_of held) items s2.1)))
      (λ cuts c. c) a

  -- ---- blocks and branches

  again_rest : (p q b : Bool) → b ≡ false → p || q ≡ p || (if b then false else q)
  again_rest p q b e = ap (λ z. p || (if z then false else q)) (sym e)

  again_last : (p q b : Bool) → b ≡ true → p ≡ p || (if b then false else q)
  again_last p q b e = sym (or-false p) ∙ ap (λ z. p || (if z then false else q)) (sym e)

  more_parts : (rows : Rows) (s : MarkedStmt) (b : BlockTree) → is_block rows false (ids_of held) (more s.mark s.stmt b) ≡ true → (is_stmt rows false (ids_of held) s.stmt ≡ true) × (is_block rows false (ids_of held) b ≡ true)
  more_parts rows s b h = and_parts (is_stmt rows false (ids_of held) s.stmt) (is_block rows false (ids_of held) b) h

  pub block_more : (s : MarkedStmt) (b : BlockTree) (old mid new : List Area) → is_again s.stmt ≡ false → IsAdded whole held (stmt_piece held s) old mid → IsAdded whole held (block_piece held b) mid new →
      IsAdded whole held (block_piece held (more s.mark s.stmt b)) old new
  block_more s b old mid new last a r = two_added (block_piece held (more s.mark s.stmt b)) (stmt_piece held s) (block_piece held b) old mid new
      (λ rows h. more_parts rows s b h)
      (λ rows roles n role x h there.
      again_rest (takes_part (held_of held n role x) (rank roles n role x) (flat_stmt roles n (ids_of held) (pos 0) s.mark s.stmt stop)) (takes_part (held_of held n role x) (rank roles n role x) (flat_block roles n (ids_of held) (pos 0) b stop)) (is_again s.stmt) last
      ∙ sym (takes_first rows false (ids_of held) roles n (pos 0) (rank roles n role x) (held_of held n role x) (ids_of held) s.mark s.stmt b (more_parts rows s b h).0))
      (λ cuts k. (among_left (stmt_cuts None s.stmt) (block_cuts None b) cuts k, among_right (stmt_cuts None s.stmt) (block_cuts None b) cuts k)) a r

  -- what is written behind a continue isn't looked at
  pub block_last : (s : MarkedStmt) (b : BlockTree) (old new : List Area) → is_again s.stmt ≡ true → IsAdded whole held (stmt_piece held s) old new → IsAdded whole held (block_piece held (more s.mark s.stmt b)) old new
  block_last s b old new last a = same_added (block_piece held (more s.mark s.stmt b)) (stmt_piece held s) old new
      (λ rows h. (more_parts rows s b h).0)
      (λ rows roles n role x h there.
      again_last (takes_part (held_of held n role x) (rank roles n role x) (flat_stmt roles n (ids_of held) (pos 0) s.mark s.stmt stop)) (takes_part (held_of held n role x) (rank roles n role x) (flat_block roles n (ids_of held) (pos 0) b stop)) (is_again s.stmt) last
      ∙ sym (takes_first rows false (ids_of held) roles n (pos 0) (rank roles n role x) (held_of held n role x) (ids_of held) s.mark s.stmt b (more_parts rows s b h).0))
      (λ cuts k. among_left (stmt_cuts None s.stmt) (block_cuts None b) cuts k) a

  pub branch_more : (m : Mark) (b : BlockTree) (bs : BranchTrees) (old mid new : List Area) → IsAdded whole held (block_piece held b) old mid → IsAdded whole held (branches_piece held bs) mid new →
      IsAdded whole held (branches_piece held (branch m b bs)) old new
  branch_more m b bs old mid new a r = two_added (branches_piece held (branch m b bs)) (block_piece held b) (branches_piece held bs) old mid new
      (λ rows h. and_parts (is_block rows false (ids_of held) b) (are_branches rows (ids_of held) bs) h)
      (λ rows roles n role x h there. refl)
      (λ cuts k. (among_left (block_cuts None b) (branches_cuts None bs) cuts k, among_right (block_cuts None b) (branches_cuts None bs) cuts k)) a r

-- ---- loops

-- a block inside one more loop, as it stands in the loops around
pub block_inside : (whole : List Area) (held inner : List Held) (id : ℕ) (areas : List Area) (body : BlockTree) (old new : List Area) → IsInside held id areas inner → IsAdded whole inner (block_piece inner body) old new →
    (n : ℤ) (role : ℕ) (x : ℤ) (roles : List CoreRole) (rows : Rows) → is_block rows false (id ∷ ids_of held) body ≡ true → is_rank roles n role x ≡ true → have whole n role x ≡ true →
    have new n role x ≡ have old n role x || takes_part (have areas n role x ∷ held_of held n role x) (rank roles n role x) (flat_block roles n (id ∷ ids_of held) (pos 0) body stop)
block_inside whole held inner id areas body old new i a n role x roles rows s r w =
    a.is rows roles n role x (ap (λ ids. is_block rows false ids body) i.ids ∙ s) r w
    ∙ ap₂ (λ ids bools. have old n role x || takes_part bools (rank roles n role x) (flat_block roles n ids (pos 0) body stop)) i.ids (i.held n role x)

pub loop_added : (whole : List Area) (held inner : List Held) (id : ℕ) (mark k : Mark) (body : BlockTree) (old new : List Area) → IsInside held id [] inner → IsAdded whole inner (block_piece inner body) old new →
    IsAdded whole held (stmt_piece held (stmt_of mark (loop id k body))) old new
loop_added whole held inner id mark k body old new i a = record {
  is = λ rows roles n role x s r w.
      let ss = and_parts (nat_lt (length (ids_of held)) 64) (is_block rows false (id ∷ ids_of held) body) s in
      block_inside whole held inner id [] body old new i a n role x roles rows ss.1 r w
      ∙ ap (λ z. have old n role x || z) (sym (or-false (takes_part (false ∷ held_of held n role x) (rank roles n role x) (flat_block roles n (id ∷ ids_of held) (pos 0) body stop))));
  fits = λ rows range cuts s c fw fh f.
      let ss = and_parts (nat_lt (length (ids_of held)) 64) (is_block rows false (id ∷ ids_of held) body) s in
      a.fits rows range cuts (ap (λ ids. is_block rows false ids body) i.ids ∙ ss.1) c fw (i.fits range cuts (λ j d lt. absurd (omega (arith, lt))) fh) f;
}

-- ---- arms of a match on a statement

on_ok : {T E : Type 0} (r : Result T E) (P Q : Type 0) → (P → Q) → OnOk r P → OnOk r Q
on_ok (Ok x) P Q f h = f h
on_ok (Err e) P Q f h = tt

-- a statement is its mark and its tree
pub of_kind : (whole : List Area) (held : List Held) (s : CoreStmt) (t : StmtTree) (old new : List Area) → (plain_stmt s).stmt ≡ t → IsAdded whole held (stmt_piece held (stmt_of (plain_stmt s).mark t)) old new →
    IsAdded whole held (stmt_piece held (plain_stmt s)) old new
of_kind whole held s t old new e a = subst (λ z. IsAdded whole held (stmt_piece held (stmt_of (plain_stmt s).mark z)) old new) (sym e) a
