-- The statements with a number.
use Rattle.std.proofs.Common.{◌≡◌, ◌<◌, ◌≤◌, ℕ, suc, ℤ, pos, nat_eq, nat_lt, nat_le, Bool, true, false, ◌&&◌, ◌||◌, List, [], ◌∷◌, length, Option, Some, None, refl, sym, ap, ap₂, ◌∙◌, arith}
use Rattle.std.specs.List.{All, Contains}
use Rattle.std.proofs.lemmas.Int.{ints}
use Rattle.std.proofs.lemmas.Bool.{and_parts}
use Rattle.std.proofs.lemmas.Bool.Decides.{nat_tests}
use Rattle.std.proofs.lemmas.List.Elements.{All-weaker, All-nil}
use Rattle.std.proofs.Math.Bool.{or_assoc}
use Rattle.pb_affine.specs.declared.lin.Lin.{Lin}
use Rattle.pb_affine.specs.declared.range.NRange.{NRange}
use Rattle.pb_affine.specs.Values.{is_up_to}
use Rattle.pb_cases.specs.Breakpoints.{IsInRange}
use Rattle.pb_part_areas.specs.declared.area.Area.{Area}
use Rattle.pb_part_areas.specs.Areas.{have}
use Rattle.pb_part_areas.specs.Fits.{Fits}
use Rattle.pb_part_areas.specs.Small.{IsSmallArea}
use Rattle.pb_part_areas.proofs.Guarded.{fits_small}
use Rattle.pb_core_language.specs.declared.protocol.CoreRole.{CoreRole}
use Rattle.pb_core_language.specs.declared.tree.CoreEnd.{CoreEnd}
use Rattle.pb_core_language.specs.declared.tree.CoreStmt.{CoreStmt, fold_out-CoreStmt}
use Rattle.pb_core_language.specs.Cuts.{cuts, end_cuts, stmt_cuts, block_cuts, branches_cuts, role_cuts}
use Rattle.pb_core_language.specs.Flat.{stop, takes_part}
use Rattle.pb_core_language.specs.FlatOf.{flat_stmt}
use Rattle.pb_core_language.specs.Parts.{takes_part_below, takes_part_within, takes_part_in}
use Rattle.pb_core_language.specs.Plain.{MarkedBlock, MarkedStmt, Protocol, plain_stmt, kind_layer, block_layer, stmt_layer}
use Rattle.pb_core_language.specs.Ranks.{seats, seat_at, total}
use Rattle.pb_core_language.specs.Sound.{is_end, has_branch, is_stmt, is_block, are_branches, are_roles, is_range, is_sound, rows_of}
use Rattle.pb_core_language.specs.Tree.{Mark, StmtTree, loop, choice, BlockTree, more, BranchTrees, branch}
use Rattle.pb_core_language.specs.Verdict.{IsIn, IsUpTo}
use Rattle.pb_core_flat.specs.Seated.{rank, is_rank}
use Rattle.pb_core_flat.proofs.Seats.{rank_of_seat}
use Rattle.pb_part_takers.specs.declared.held.Held.{Held}
use Rattle.pb_part_takers.specs.Bodies.{IsBody}
use Rattle.pb_part_takers.specs.Loops.{ids_of, held_of, IsInside}
use Rattle.pb_part_takers.specs.Pieces.{AreAmong, Piece, IsAdded, stmt_piece, block_piece, numbered_piece, below_piece, within_piece, across_piece}
use Rattle.pb_part_takers.proofs.Among.{among_left, among_right}
use Rattle.pb_part_takers.proofs.Steps.{nothing_added, two_added, same_added, block_inside}

pub number_is : (s : CoreStmt) → (plain_stmt s).mark.number ≡ s.number
number_is s = ap (λ a. a.mark.number) (fold_out-CoreStmt StmtTree MarkedBlock MarkedStmt kind_layer block_layer stmt_layer s)

is_number : (a b : ℕ) → a ≡ b → nat_eq a b ≡ true
is_number a b e = grind (arith, nat_tests)

no_number : (a b : ℕ) → (a ≡ b → ⊥) → nat_eq a b ≡ false
no_number a b e = grind (arith, nat_tests)

module _ (whole : List Area) (held : List Held) (k : ℕ) where
  abbrev takes_of : MarkedStmt → List CoreRole → ℤ → ℕ → ℤ → Bool
  takes_of s roles n role x = takes_part (held_of held n role x) (rank roles n role x) (flat_stmt roles n (ids_of held) (pos 0) s.mark s.stmt stop)

  pub numbered_here : (s : CoreStmt) (old new : List Area) → k ≡ s.number → IsAdded whole held (stmt_piece held (plain_stmt s)) old new → IsAdded whole held (numbered_piece held k (plain_stmt s)) old new
  numbered_here s old new e a = same_added whole held (numbered_piece held k (plain_stmt s)) (stmt_piece held (plain_stmt s)) old new (λ rows h. h)
      (λ rows roles n role x h r. ap (λ b. b && takes_of (plain_stmt s) roles n role x) (sym (is_number k (plain_stmt s).mark.number (e ∙ sym (number_is s))))) (λ cuts c. c) a

  pub numbered_elsewhere : (s : CoreStmt) (old : List Area) → (k ≡ s.number → ⊥) → IsAdded whole held (numbered_piece held k (plain_stmt s)) old old
  numbered_elsewhere s old e = nothing_added whole held (numbered_piece held k (plain_stmt s)) old
      (λ rows roles n role x h. ap (λ b. b && takes_of (plain_stmt s) roles n role x) (no_number k (plain_stmt s).mark.number (λ f. e (f ∙ number_is s))))

  pub nothing_below : (s : CoreStmt) (t : StmtTree) (old : List Area) → (plain_stmt s).stmt ≡ t →
      ((roles : List CoreRole) (n : ℤ) (r : ℕ) (ids : List ℕ) (bools : List Bool) → takes_part_below roles n r k ids bools t ≡ false) → IsAdded whole held (below_piece held k (plain_stmt s).stmt) old old
  nothing_below s t old e f = nothing_added whole held (below_piece held k (plain_stmt s).stmt) old
      (λ rows roles n role x h. ap (takes_part_below roles n (rank roles n role x) k (ids_of held) (held_of held n role x)) e ∙ f roles n (rank roles n role x) (ids_of held) (held_of held n role x))

  pub below_choice : (kernel : ℕ) (at : CoreEnd) (bs : BranchTrees) (old new : List Area) → IsAdded whole held (across_piece held k bs) old new → IsAdded whole held (below_piece held k (choice kernel at bs)) old new
  below_choice kernel at bs old new a = same_added whole held (below_piece held k (choice kernel at bs)) (across_piece held k bs) old new
      (λ rows s.
      let s1 = and_parts (nat_lt kernel rows.kernels) (is_end rows false at && (has_branch bs && are_branches rows (ids_of held) bs)) s in
      let s2 = and_parts (is_end rows false at) (has_branch bs && are_branches rows (ids_of held) bs) s1.1 in
      (and_parts (has_branch bs) (are_branches rows (ids_of held) bs) s2.1).1)
      (λ rows roles n role x s r. refl) (λ lins c. among_right (end_cuts None at) (branches_cuts None bs) lins c) a

  -- a statement and what stands in it
  abbrev both_piece : MarkedStmt → Piece
  both_piece s = record {
    sound = λ rows. is_stmt rows false (ids_of held) s.stmt;
    part = λ roles n role x. (nat_eq k s.mark.number && takes_of s roles n role x) || takes_part_below roles n (rank roles n role x) k (ids_of held) (held_of held n role x) s.stmt;
    cuts = stmt_cuts None s.stmt;
  }

  pub within_more : (s : MarkedStmt) (b : BlockTree) (old here mid new : List Area) → IsAdded whole held (numbered_piece held k s) old here → IsAdded whole held (below_piece held k s.stmt) here mid → IsAdded whole held (within_piece held k b) mid new →
      IsAdded whole held (within_piece held k (more s.mark s.stmt b)) old new
  within_more s b old here mid new a d r = two_added whole held (within_piece held k (more s.mark s.stmt b)) (both_piece s) (within_piece held k b) old mid new
      (λ rows h. and_parts (is_stmt rows false (ids_of held) s.stmt) (is_block rows false (ids_of held) b) h)
      (λ rows roles n role x h there. or_assoc (nat_eq k s.mark.number && takes_of s roles n role x) (takes_part_below roles n (rank roles n role x) k (ids_of held) (held_of held n role x) s.stmt) (takes_part_within roles n (rank roles n role x) k (ids_of held) (held_of held n role x) b))
      (λ lins c. (among_left (stmt_cuts None s.stmt) (block_cuts None b) lins c, among_right (stmt_cuts None s.stmt) (block_cuts None b) lins c))
      (two_added whole held (both_piece s) (numbered_piece held k s) (below_piece held k s.stmt) old here mid (λ rows h. (h, h)) (λ rows roles n role x h there. refl) (λ lins c. (c, c)) a d) r

  pub across_more : (m : Mark) (b : BlockTree) (bs : BranchTrees) (old mid new : List Area) → IsAdded whole held (within_piece held k b) old mid → IsAdded whole held (across_piece held k bs) mid new →
      IsAdded whole held (across_piece held k (branch m b bs)) old new
  across_more m b bs old mid new a r = two_added whole held (across_piece held k (branch m b bs)) (within_piece held k b) (across_piece held k bs) old mid new
      (λ rows h. and_parts (is_block rows false (ids_of held) b) (are_branches rows (ids_of held) bs) h)
      (λ rows roles n role x h there. refl)
      (λ lins c. (among_left (block_cuts None b) (branches_cuts None bs) lins c, among_right (block_cuts None b) (branches_cuts None bs) lins c)) a r

-- ---- loops

pub body_is : (whole : List Area) (held inner : List Held) (id : ℕ) (body : BlockTree) (areas : List Area) → IsInside held id [] inner → IsAdded whole inner (block_piece inner body) [] areas → IsBody whole held id body areas
body_is whole held inner id body areas i a = record {
  is = λ rows roles n role x s r w. block_inside whole held inner id [] body [] areas i a n role x roles rows s r w;
  fits = λ rows range lins s c fw fh.
      a.fits rows range lins (ap (λ ids. is_block rows false ids body) i.ids ∙ s) c fw (i.fits range lins (All-nil (Fits range lins)) fh) (All-nil (Fits range lins));
}

pub below_loop : (whole : List Area) (held inner : List Held) (id k : ℕ) (m : Mark) (body : BlockTree) (areas old new : List Area) → IsBody whole held id body areas → IsInside held id areas inner → IsAdded whole inner (within_piece inner k body) old new →
    IsAdded whole held (below_piece held k (loop id m body)) old new
below_loop whole held inner id k m body areas old new b i a = record {
  is = λ rows roles n role x s r w.
      let ss = and_parts (nat_lt (length (ids_of held)) 64) (is_block rows false (id ∷ ids_of held) body) s in
      a.is rows roles n role x (ap (λ ids. is_block rows false ids body) i.ids ∙ ss.1) r w
      ∙ ap₂ (λ ids bools. have old n role x || takes_part_within roles n (rank roles n role x) k ids bools body) i.ids (i.held n role x)
      ∙ ap (λ z. have old n role x || takes_part_within roles n (rank roles n role x) k (id ∷ ids_of held) (z ∷ held_of held n role x) body) (b.is rows roles n role x ss.1 r w);
  fits = λ rows range lins s c fw fh f.
      let ss = and_parts (nat_lt (length (ids_of held)) 64) (is_block rows false (id ∷ ids_of held) body) s in
      a.fits rows range lins (ap (λ ids. is_block rows false ids body) i.ids ∙ ss.1) c fw (i.fits range lins (b.fits rows range lins ss.1 c fw fh) fh) f;
}

-- ---- the whole protocol

among_by : (xs lins : List Lin) → ((l : Lin) → Contains xs l → Contains lins l) → AreAmong xs lins
among_by [] lins f = tt
among_by (x ∷ xs) lins f = (f x (0, omega arith, refl), among_by xs lins (λ l c. f l (suc c.0, omega (arith, c.1), c.2)))

pub among_itself : (lins : List Lin) → AreAmong lins lins
among_itself lins = among_by lins lins (λ l c. c)

up_to : (n : ℤ) (high : Option ℕ) → IsUpTo n high → is_up_to n high ≡ true
up_to n None h = refl
up_to n (Some high) h = grind (arith, ints)

pub in_range : (range : NRange) (n : ℤ) → IsIn range n → IsInRange range n
in_range range n h = record { low = h.low; high = up_to n range.high h.high }

pub record IsSoundCore (p : Protocol) : Type 0 where
  pub few : length p.roles ≤ 64
  pub roles : are_roles p.roles ≡ true
  pub body : is_block (rows_of p) false [] p.body.block ≡ true

few_is : (a b : ℕ) → nat_le a b ≡ true → a ≤ b
few_is a b h = grind (arith, nat_tests)

pub sound_core : (p : Protocol) → is_sound p ≡ true → IsSoundCore p
sound_core p h =
    let a = and_parts (is_range p.range) (nat_le (length p.roles) 64 && (are_roles p.roles && is_block (rows_of p) false [] p.body.block)) h in
    let b = and_parts (nat_le (length p.roles) 64) (are_roles p.roles && is_block (rows_of p) false [] p.body.block) a.1 in
    let d = and_parts (are_roles p.roles) (is_block (rows_of p) false [] p.body.block) b.1 in
    record { few = few_is (length p.roles) 64 b.0; roles = d.0; body = d.1 }

-- the areas of the statement with number k
pub answer_is : (p : Protocol) (k : ℕ) (whole areas : List Area) (n : ℤ) (r : ℕ) → is_sound p ≡ true → IsAdded whole [] (within_piece [] k p.body.block) [] areas →
    ((role : ℕ) (x : ℤ) → have whole n role x ≡ is_rank p.roles n role x) → r < total p.roles n →
    have areas n (seat_at r (seats p.roles n)).role (seat_at r (seats p.roles n)).index ≡ takes_part_in p n k r
answer_is p k whole areas n r h a is lt =
    let s = sound_core p h in
    let seat = seat_at r (seats p.roles n) in
    let there = rank_of_seat p.roles n r lt in
    a.is (rows_of p) p.roles n seat.role seat.index s.body there.0 (is seat.role seat.index ∙ there.0)
    ∙ ap (λ z. takes_part_within p.roles n z k [] [] p.body.block) there.1

pub answer_fits : (p : Protocol) (k : ℕ) (whole areas : List Area) → is_sound p ≡ true → IsAdded whole [] (within_piece [] k p.body.block) [] areas →
    ((lins : List Lin) → are_roles p.roles ≡ true → AreAmong (role_cuts p.roles) lins → All (Fits p.range lins) whole) → All (Fits p.range (cuts p)) areas
answer_fits p k whole areas h a fits =
    let s = sound_core p h in
    let both = among_itself (cuts p) in
    a.fits (rows_of p) p.range (cuts p) s.body (among_right (role_cuts p.roles) (block_cuts None p.body.block) (cuts p) both)
    (fits (cuts p) s.roles (among_left (role_cuts p.roles) (block_cuts None p.body.block) (cuts p) both)) tt (All-nil (Fits p.range (cuts p)))

pub answer_small : (range : NRange) (lins : List Lin) (areas : List Area) → All (Fits range lins) areas → All IsSmallArea areas
answer_small range lins areas f = All-weaker (Fits range lins) IsSmallArea (fits_small range lins) areas f
