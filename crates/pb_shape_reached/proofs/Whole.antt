-- Each statement of a text is reached.
use Rattle.std.proofs.Common.{◌≡◌, ◌≤◌, ◌<◌, ℕ, zero, suc, ◌+◌, ℤ, pos, ◌+ℤ◌, Bool, true, false, ◌&&◌, ◌||◌, nat_eq, List, [], ◌∷◌, ◌++◌, refl, sym, ap, ◌∙◌, subst, append-nil, arith}
use Rattle.std.specs.Ordering.{int_eq}
use Rattle.std.proofs.lemmas.Int.{ints}
use Rattle.std.proofs.lemmas.Bool.{and_parts}
use Rattle.pb_affine.specs.declared.guard.Guard.{Guard}
use Rattle.pb_affine.specs.Values.{value}
use Rattle.pb_core_language.specs.Collectives.{setting_of}
use Rattle.pb_core_language.specs.declared.tree.Bounds.{Bounds}
use Rattle.pb_core_language.specs.declared.tree.CoreEnd.{CoreEnd}
use Rattle.pb_core_language.specs.Flat.{stop}
use Rattle.pb_core_language.specs.FlatOf.{flat_stmt}
use Rattle.pb_core_language.specs.Laws.{Numbered, Totalled}
use Rattle.pb_core_language.specs.Plain.{Protocol}
use Rattle.pb_core_language.specs.Ranks as CR
use Rattle.pb_core_language.specs.Ranks.{total, seats}
use Rattle.pb_core_language.specs.Rules.{breaches, flat_at}
use Rattle.pb_core_language.specs.Run.{Top}
use Rattle.pb_core_language.specs.Sound.{is_sound, is_over_n, is_small}
use Rattle.pb_core_language.specs.Tree as T
use Rattle.pb_core_language.specs.Tree.{Mark, StmtTree, BlockTree, BranchTrees}
use Rattle.pb_core_language.specs.Verdict.{IsIn}
use Rattle.pb_core_flat.specs.Seated.{is_rank}
use Rattle.pb_core_flat.proofs.Seats.{seat_of_rank, seat_of_number}
use Rattle.pb_core_endpoint.specs.Core.{IsProper, is_nothing, can_end, loops_end_in, keeps_ends, all_can_end, some_can_end, all_keep_ends, branches_keep_ends}
use Rattle.pb_core_endpoint.proofs.CoreDone.{accepted}
use Rattle.pb_core_endpoint.proofs.Derive.{obeyed}
use Rattle.pb_core_road.proofs.Roads.{across_road}
use Rattle.pb_local.specs.declared.stmt.Test.{Test}
use Rattle.pb_local.specs.declared.stmt.Relay.{Relay}
use Rattle.pb_local.specs.Ranks as LR
use Rattle.pb_local.specs.Ranks.{Seat}
use Rattle.pb_local.specs.Tree as L
use Rattle.pb_local.specs.Tree.{Codes, nothing, more, size_all, Parts, no_part, part, Program}
use Rattle.pb_local.specs.Machine.{pushed, finished, start}
use Rattle.pb_local.specs.Alone.{number_at}
use Rattle.pb_local.specs.WellMade as W
use Rattle.pb_local.specs.WellMade.{IsWellMade}
use Rattle.pb_shape.specs.Items as I
use Rattle.pb_shape.specs.Items.{Item}
use Rattle.pb_shape.specs.Pieces as P
use Rattle.pb_shape.specs.Pieces.{Piece}
use Rattle.pb_shape.specs.Shape as S
use Rattle.pb_shape.specs.Places.{Here, Who, everyone, everywhere, is_end, inside, scope_of}
use Rattle.pb_shape.specs.Guards.{Somebody}
use Rattle.pb_shape.specs.Loops.{Around, outermost, takers}
use Rattle.pb_shape.specs.Shape.{HasShape, Shape, Shapes}
use Rattle.pb_shape.specs.Straight.{IsSeated, at_todo, IsEnd, IsItem, IsFine, IsEach, IsOpenTo}
use Rattle.pb_shape.specs.Tabled.{count}
use Rattle.pb_shape.specs.Ways.{mine}
use Rattle.pb_shape_straight.proofs.Each.{same_value}
use Rattle.pb_shape_straight.proofs.Ends.{ends_are_fine}
use Rattle.pb_shape_straight.proofs.Passing.{Comes}
use Rattle.pb_shape_straight.proofs.Pieces.{item_stays, my_item, setting}
use Rattle.pb_shape_straight.proofs.Segment.{mine_each, iterations}
use Rattle.pb_shape_follow.proofs.Stacks.{all, me_rank, flat, Sits}
use Rattle.pb_shape_follow.proofs.Branches.{tree_at, part_at}
use Rattle.pb_shape_follow.proofs.Starts.{given, seat_to, seat_same, total_same}
use Rattle.pb_shape_ranks.proofs.Theorem.{text_ranks}
use Rattle.pb_shape_reached.specs.Reached.{IsReached, AreReached, PartsAreReached, TextIsReached}
use Rattle.pb_shape_reached.proofs.Standing.{Present, Spot, spot, spot_reached, begins_so}
use Rattle.pb_shape_reached.proofs.Texts.{after_one, text_number, branch_number}
use Rattle.pb_shape_reached.proofs.Passing.{piece_by, block_by}
use Rattle.pb_shape_reached.proofs.Finding.{Ahead, Find, Keeps, KeepsEnds, IsItemHere, part_of, after_item, reach_one, reach_item}
use Rattle.pb_shape_reached.proofs.Eaches.{rounds, after_each, reach_each}
use Rattle.pb_shape_reached.proofs.Counts.{item_counts, each_counts}
use Rattle.pb_shape_reached.proofs.Blocks.{IsSteady, Arrived, Come, Opened, open_of, steady_inside, come_piece, ends_first, come_loop, come_in_loop, find_here}
use Rattle.pb_shape_reached.proofs.Branching.{Shaped, come_behind, come_branch, inside_choice}

module _ (p : Protocol) (l : Program) (present : (n : ℤ) (me : Seat) → IsIn p.range n → total p.roles n ≤ 2000000000 → is_rank p.roles n me.role me.index ≡ true → Present p l n me) where
  -- ---- straight statements

  keeps_end : (h : Here) (n0 : ℤ) (e : CoreEnd) → IsEnd p n0 false (pos 0) e → Keeps p l (Opened p l present h) h (is_end e)
  keeps_end h n0 e fine n me i j link is =
      let over : is_over_n e.at.base ≡ true = (and_parts (is_over_n e.at.base) (is_small e.at.off) (and_parts _ _ fine.sound).1).0 in
      subst (λ v. nat_eq e.role me.role && int_eq v me.index ≡ true) (same_value e.at n i j over) is

  keeps_of : (h : Here) {s : StmtTree} {tail codes : Codes} (n0 : ℤ) → Item (scope_of p) h tail s codes → IsFine p n0 s → KeepsEnds p l (Opened p l present h) h s
  keeps_of h n0 (I.message {f = f} {t = t} x y) fine = (keeps_end h n0 f fine.0, keeps_end h n0 t fine.1)
  keeps_of h n0 (I.run {e = e} x) fine = keeps_end h n0 e fine

  module _ (h : Here) (a : Around) (m : Mark) (s : StmtTree) (rest : BlockTree) (codes tail : Codes) (k : ℕ) (st : IsSteady h) (some : Somebody (scope_of p) h everyone) (piece : Piece (scope_of p) h tail s codes) (come : Come p l present h a (T.more m s rest) codes k) where
    abbrev Ready : (n : ℤ) (me : Seat) → Present p l n me → Type 0
    Ready n me pres = Arrived p l present n me pres h a (T.more m s rest) codes k

    at_piece : (n : ℤ) (me : Seat) (pres : Present p l n me) (x : Ready n me pres) → Spot p l n me pres (at_todo me x.j (pushed k codes x.todo)) (mine (me_rank p l n me) (flat_stmt p.roles n a.opens (pos 0) m s stop))
    at_piece n me pres x =
        let y = piece_by p l n me pres.given piece x.sits x.small k x.j x.todo x.near in
        spot p l n me pres x.stood x.lives (across_road (setting_of p n) (y.by.across (flat p l n me a rest)) x.opener x.frames) y.kinds

    fine_at : (n : ℤ) (me : Seat) → Present p l n me → IsOpenTo h n me → IsFine p n s
    fine_at n me pres op = (come refl n me pres op).sits.fine.0

    -- with what each rank that comes here has ahead
    find_piece : (ahead : Ahead) → ((n : ℤ) (me : Seat) (pres : Present p l n me) (j : ℤ) → IsFine p n s → mine (me_rank p l n me) (flat_stmt p.roles n a.opens (pos 0) m s stop) ≡ ahead n me j) → Find p l (Opened p l present h) h k codes ahead
    find_piece ahead same n i me within few is at comes =
        let pres = present n me within few is in
        let op = open_of p l present st n i me comes in
        let x = come refl n me pres op in
        record {
          present = pres;
          j = x.j;
          link = op;
          comes = record { near = x.near; at = op.at x.j; comes = op.comes x.j };
          todo = x.todo;
          made = record { scope = x.sits.made.at; made = x.sits.made.made };
          spot = subst (λ q. Spot p l n me pres (at_todo me x.j (pushed k codes x.todo)) q) (same n me pres x.j x.sits.fine.0) (at_piece n me pres x);
        }

    some_fine : IsFine p some.n s
    some_fine =
        let me : Seat = record { role = some.role; index = some.index } in
        fine_at some.n me (present some.n me some.within some.few some.rank) (open_of p l present st some.n some.i me some.comes)

    item_ahead : Item (scope_of p) h tail s codes → (n : ℤ) (me : Seat) (pres : Present p l n me) (j : ℤ) → IsFine p n s → mine (me_rank p l n me) (flat_stmt p.roles n a.opens (pos 0) m s stop) ≡ part_of p l (Opened p l present h) h s (λ n me j. []) n me j
    item_ahead item n me pres j fine =
        let stays = item_stays p l n me pres.setting 0 item fine j in
        sym (append-nil _ ∙ stays.same ∙ my_item p l n me pres.setting 0 (me_rank p l n me) refl a.opens m s stays.first)

    item_here : Item (scope_of p) h tail s codes → IsItemHere p l (Opened p l present h) h false s
    item_here item n j me pres comes = (item_stays p l n me pres.setting 0 item (fine_at n me pres (open_of p l present st n j me comes.comes)) j).good

    each_ahead : (mark : Mark) (b : Bounds) (items : BlockTree) (n : ℤ) (me : Seat) (pres : Present p l n me) → IsEach p n b items → mine (me_rank p l n me) (flat_stmt p.roles n a.opens (pos 0) m (T.foreach b mark items) stop) ≡ iterations p.roles n me b items
    each_ahead mark b items n me pres fine = mine_each p n (me_rank p l n me) me pres.setting.is refl a.opens b items stop fine.each ∙ append-nil (iterations p.roles n me b items)

    -- the rank that comes is found at the statement
    somebody_stands : (first : L.Code) → codes ≡ more first tail → IsReached p l k
    somebody_stands first is =
        let me : Seat = record { role = some.role; index = some.index } in
        let f = find_piece (λ n me j. mine (me_rank p l n me) (flat_stmt p.roles n a.opens (pos 0) m s stop)) (λ n me pres j fine. refl) some.n some.i me some.within some.few some.rank some.at some.comes in
        spot_reached p l some.n me f.present k (ap (λ c. number_at (pushed k c f.todo)) is) f.spot

  reach_piece : {h : Here} {a : Around} {m : Mark} {s : StmtTree} {rest : BlockTree} {codes tail : Codes} (k : ℕ) → IsSteady h → Somebody (scope_of p) h everyone → Piece (scope_of p) h tail s codes → Come p l present h a (T.more m s rest) codes k →
      ((b : ℕ) → b + size_all tail ≡ k + size_all codes → AreReached p l b tail) → AreReached p l k codes
  reach_piece {h = h} {a = a} {m = m} {s = s} {rest = rest} {codes = codes} {tail = tail} k st some (P.item item) come others =
      let At = Opened p l present h in
      let x = P.item item in
      let n0 = some.n in
      reach_item p l At h false (λ n me j. []) k item (keeps_of h n0 item (some_fine h a m s rest codes tail k st some x come)) (item_here h a m s rest codes tail k st some x come item)
      (find_piece h a m s rest codes tail k st some x come (part_of p l At h s (λ n me j. [])) (item_ahead h a m s rest codes tail k st some x come item)) (others (after_item p l At h item k) (item_counts p l h At k item))
  reach_piece {h = h} {a = a} {m = m} {rest = rest} {codes = codes} {tail = tail} k st some (P.foreach {b = b} {m = mark} {items = items} each) come others =
      let s = T.foreach b mark items in
      let x = P.foreach each in
      let good : (n : ℤ) (me : Seat) → Present p l n me → IsOpenTo h n me → IsEach p n b items = fine_at h a m s rest codes tail k st some x come in
      let opened : (n i : ℤ) (me : Seat) → h.comes n i me.role me.index ≡ true → IsOpenTo h n me = open_of p l present st in
      reach_each p l h b items opened good k each
      (find_piece h a m s rest codes tail k st some x come (λ n me j. iterations p.roles n me b items) (λ n me pres j fine. each_ahead h a m s rest codes tail k st some x come mark b items n me pres fine))
      (others (after_each p l h b items opened good each k) (each_counts p l h b items good opened k each))
  reach_piece {h = h} {a = a} {m = m} {s = s} {rest = rest} {codes = codes} {tail = tail} k st some P.barrier come others = (somebody_stands h a m s rest codes tail k st some P.barrier come L.barrier refl, others (k + 1) (omega arith))
  reach_piece {h = h} {a = a} {m = m} {s = s} {rest = rest} {codes = codes} {tail = tail} k st some P.broadcast come others = (somebody_stands h a m s rest codes tail k st some P.broadcast come _ refl, others (k + 1) (omega arith))
  reach_piece {h = h} {a = a} {m = m} {s = s} {rest = rest} {codes = codes} {tail = tail} k st some P.reduce come others = (somebody_stands h a m s rest codes tail k st some P.reduce come _ refl, others (k + 1) (omega arith))
  reach_piece {h = h} {a = a} {m = m} {s = s} {rest = rest} {codes = codes} {tail = tail} k st some P.allreduce come others = (somebody_stands h a m s rest codes tail k st some P.allreduce come _ refl, others (k + 1) (omega arith))

  -- ---- blocks

  abbrev Reaching : Here → Around → BlockTree → Codes → Type 0
  Reaching h a core codes = IsSteady h → all_keep_ends core ≡ true → (k : ℕ) → Come p l present h a core codes k → AreReached p l k codes

  mutual
    reach_block : {h : Here} {a : Around} {core : BlockTree} {codes : Codes} → Shape (scope_of p) h a core codes → Reaching h a core codes
    reach_block S.none st keep k come = tt
    reach_block (S.unreached nobody) st keep k come = tt
    reach_block (S.piece {s = s} {rest = rest} some piece shape) st keep k come =
        let parts = and_parts (is_nothing rest || (can_end s && loops_end_in s)) (keeps_ends s && all_keep_ends rest) keep in
        let both = and_parts (keeps_ends s) (all_keep_ends rest) parts.1 in
        reach_piece k st some piece come (λ b e. reach_block shape st both.1 b (come_piece p l present k piece come b e))
    reach_block (S.again {h = h} some) st keep k come =
        let me : Seat = record { role = some.role; index = some.index } in
        let f = find_here p l present k st refl come some.n some.i me some.within some.few some.rank some.at some.comes in
        (spot_reached p l some.n me f.present k refl f.spot, tt)
    reach_block (S.loop {h = h} {a = a} {m = m} {mark = mark} {id = id} {body = whole} {rest = rest} some one inner shape) st keep k come =
        let s = T.loop id mark whole in
        let parts = and_parts (is_nothing rest || (can_end s && loops_end_in s)) (keeps_ends s && all_keep_ends rest) keep in
        let both = and_parts (keeps_ends s) (all_keep_ends rest) parts.1 in
        let body = reach_block inner (steady_inside p l present a m s st) both.0 (suc (suc k)) (come_in_loop p l present k one come) in
        reach_one p l (Opened p l present h) h (λ n me j. []) k one (λ n me i j link is. is) (find_here p l present k st refl come)
        (λ n i j me pres t link comes is made spot. ((spot_reached p l n me pres (suc k) refl spot, body), tt))
        (reach_block shape st both.1 (after_one one k) (come_loop p l present k one (λ n me pres. block_by p l n me pres.given inner) (λ e. ends_first p l present s rest keep e) come))
    reach_block (S.choice {h = h} {a = a} {m = m} {k = kern} {at = from} {bs = bs} {rest = rest} {parts = texts} {tail = tail} {codes = codes} who relays tests some one names tested held relayed called shapes shape) st keep k come =
        let s = T.choice kern from bs in
        let parts = and_parts (is_nothing rest || (can_end s && loops_end_in s)) (keeps_ends s && all_keep_ends rest) keep in
        let both = and_parts (keeps_ends s) (all_keep_ends rest) parts.1 in
        let shaped : Shaped p l present h a m kern from bs rest who relays tests texts tail codes = record { one = one; names = names; tested = tested; relayed = relayed; shapes = shapes; shape = shape } in
        let branches = reach_parts shapes (steady_inside p l present a m s st) both.0 (suc (text_number relays (suc k))) (come_branch p l present h a m kern from bs rest who relays tests texts tail codes shaped k come) in
        reach_one p l (Opened p l present h) h (λ n me j. []) k one (λ n me i j link is. is) (find_here p l present k st refl come)
        (inside_choice p l present h a m kern from bs rest who relays tests texts tail codes shaped k come branches)
        (reach_block shape st both.1 (after_one one k) (come_behind p l present h a m kern from bs rest who relays tests texts tail codes shaped k come (λ e. ends_first p l present s rest keep e)))

    reach_parts : {h : Here} {a : Around} {bs : BranchTrees} {texts : Parts} → Shapes (scope_of p) h a bs texts → IsSteady h → branches_keep_ends bs ≡ true → (k : ℕ) →
        ((y : ℕ) → y < count bs → Come p l present h a (tree_at y bs) (part_at y texts) (branch_number k y texts)) → PartsAreReached p l k texts
    reach_parts S.no_shape st keep k come = tt
    reach_parts (S.branch {b = b} {bs = bs} {codes = codes} shape shapes) st keep k come =
        let both = and_parts (all_keep_ends b) (branches_keep_ends bs) keep in
        (reach_block shape st both.0 k (come 0 (omega arith)), reach_parts shapes st both.1 (k + size_all codes) (λ y lt. come (suc y) (omega (arith, lt))))

-- ---- the whole text

module _ (numbered : Numbered) (totalled : Totalled) (p : Protocol) (l : Program) (sound : is_sound p ≡ true) (proper : IsProper p) (shape : HasShape p l) (made : IsWellMade l) (keeps : (n : ℤ) → IsIn p.range n → breaches p n ≡ []) where
  starts_so : (n : ℤ) (me : Seat) → is_rank p.roles n me.role me.index ≡ true → start l n (me_rank p l n me) ≡ at_todo me (pos 0) (pushed 0 l.body finished)
  starts_so n me is =
      let same : LR.seat_at (me_rank p l n me) (LR.seats l.roles n) ≡ me = seat_same p l n shape (me_rank p l n me) ∙ ap seat_to (seat_of_number (seats p.roles n) (record { role = me.role; index = me.index }) is) in
      ap (λ seat. at_todo seat (pos 0) (pushed 0 l.body finished)) same

  is_present : (n : ℤ) (me : Seat) → IsIn p.range n → total p.roles n ≤ 2000000000 → is_rank p.roles n me.role me.index ≡ true → Present p l n me
  is_present n me within few is =
      let seat : IsSeated p l n (me_rank p l n me) me = record { sound = sound; shape = shape; made = made; within = within; few = few; is = is; number = refl } in
      let there = (seat_of_rank p.roles n (record { role = me.role; index = me.index }) is).0 in
      record {
        within = within;
        few = few;
        there = there;
        given = given numbered totalled p l n sound proper shape made within few (keeps n within) me seat;
        setting = setting numbered totalled p l n (me_rank p l n me) me seat;
        obeys = obeyed (setting_of p n) (flat_at p n) (accepted p n (keeps n within) proper);
        begins = starts_so n me is;
        follows = λ A m. (text_ranks numbered totalled p l n sound proper shape made within few (keeps n within)).0.follows A m (me_rank p l n me) (subst (λ t. me_rank p l n me < t) (total_same p l n shape) there);
      }

  come_first : Come p l is_present everywhere outermost p.body.block l.body 0
  come_first some n me pres op = record {
    opener = Top;
    frames = [];
    lives = refl;
    env = refl;
    j = pos 0;
    near = record { low = omega (arith, ints); high = omega (arith, ints) };
    todo = finished;
    sits = record {
      fine = ends_are_fine p n sound pres.within (keeps n pres.within);
      here = record { at = λ i. refl; comes = λ i. refl };
      simple = proper.simple;
      around = record { env = []; same = refl; deep = refl; is_held = λ k lt. absurd (omega (arith, lt)) };
      keeps = pres.obeys.keeps;
      made = record { at = W.outermost; made = made.body; below = λ k lt. absurd (omega (arith, lt)) };
    };
    small = omega arith;
    stood = begins_so p l n me pres;
  }

  whole_reached : AreReached p l 0 l.body
  whole_reached = reach_block p l is_present shape.body (record { at = λ n i. refl; comes = λ n i j me. refl }) proper.ends 0 come_first

pub text_reached : Numbered → Totalled → TextIsReached
text_reached numbered totalled p l sound proper shape made keeps = whole_reached numbered totalled p l sound proper shape made keeps
