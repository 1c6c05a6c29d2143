-- What can end a run may pass, and the machine of each rank with it.
use Rattle.std.proofs.Common.{◌≡◌, ◌≤◌, ◌<◌, ℕ, zero, suc, ◌+◌, ◌*◌, ◌==◌, ℤ, pos, Bool, true, false, ◌&&◌, ◌||◌, List, [], ◌∷◌, ◌++◌, map, Some, None, refl, sym, ap, ◌∙◌, subst, inl, inr, true≢false, append_assoc, append-nil, arith}
use Rattle.std.proofs.lemmas.Bool.{and_parts, cases_Bool, eqb-true, eqb-false}
use Rattle.pb_affine.specs.declared.guard.Guard.{Guard}
use Rattle.pb_world.specs.Actions.{Action, Choose, Recv, kind_of, of_rank}
use Rattle.pb_world.proofs.Lists.{of_append}
use Rattle.pb_core_language.specs.Collectives.{setting_of}
use Rattle.pb_core_language.specs.declared.protocol.CoreRole.{CoreRole}
use Rattle.pb_core_language.specs.declared.tree.CoreEnd.{CoreEnd}
use Rattle.pb_core_language.specs.Ranks.{total}
use Rattle.pb_core_language.specs.Tree as T
use Rattle.pb_core_language.specs.Tree.{Mark, StmtTree, BlockTree, BranchTrees}
use Rattle.pb_core_language.specs.Plain.{Protocol}
use Rattle.pb_core_language.specs.Flat.{Block, stop, Branches, takes_part, takes_part_among, count, branch_at}
use Rattle.pb_core_language.specs.FlatOf.{flat_stmt, flat_branches, rank_of}
use Rattle.pb_core_language.specs.Run.{Setting}
use Rattle.pb_core_flat.proofs.Seats.{seat_of_rank}
use Rattle.pb_core_endpoint.specs.Core.{has_simple_items, have_simple_items, branches_have_simple_items, can_end, all_can_end, some_can_end}
use Rattle.pb_core_endpoint.proofs.Branches.{receives_in}
use Rattle.pb_core_road.specs.Roads.{Across, at_once, by_choice, by_loop}
use Rattle.pb_core_road.proofs.Roads.{across_on, across_none, across_first}
use Rattle.pb_core_road.proofs.Runs.{of_own, of_other}
use Rattle.pb_core_road.proofs.Trees.{stmt_passes}
use Rattle.pb_local.specs.declared.stmt.Test.{Test}
use Rattle.pb_local.specs.declared.stmt.Relay.{Relay}
use Rattle.pb_local.specs.Ranks.{Seat}
use Rattle.pb_local.specs.Tree as L
use Rattle.pb_local.specs.Tree.{Codes, nothing, more, size_all, size_parts, Parts, Program}
use Rattle.pb_local.specs.WellMade as W
use Rattle.pb_local.specs.WellMade.{AreMade}
use Rattle.pb_local.specs.Machine as X
use Rattle.pb_local.specs.Machine.{Todo, Rank, do_next, end_of, pushed}
use Rattle.pb_shape.specs.Shape as S
use Rattle.pb_shape.specs.Places.{Here, Who, scope_of, inside, is_end, peer_of}
use Rattle.pb_shape.specs.Guards.{One, alone, Names}
use Rattle.pb_shape.specs.Loops.{Around, takers}
use Rattle.pb_shape.specs.Pieces.{Piece}
use Rattle.pb_shape.specs.Choices.{told_by, Tests, Relays}
use Rattle.pb_shape.specs.Shape.{Shape, Shapes}
use Rattle.pb_shape.specs.Straight.{IsVariable, at_todo}
use Rattle.pb_shape.specs.Ways.{mine}
use Rattle.pb_shape_follow.proofs.Stacks.{all, me_rank, held, flat, Sits}
use Rattle.pb_shape_follow.proofs.Steps.{Given, IsFound}
use Rattle.pb_shape_follow.proofs.Pieces.{Left, one_leaves, piece_leaves}
use Rattle.pb_shape_follow.proofs.Blocks.{sits_piece, sits_behind_loop, sits_loop, in_body, loop_in}
use Rattle.pb_shape_follow.proofs.Branches.{tree_at, part_at, size_at, branch_is}
use Rattle.pb_shape_follow.proofs.Choices.{IsThere, text_made, branch_sits, told_size}
use Rattle.pb_shape_follow.proofs.Walks.{sits_behind_choice}
use Rattle.pb_shape_reached.proofs.Leads.{Leads, stays, by_end, leads_on, way_leads}
use Rattle.pb_shape_reached.proofs.Straights.{Straightly, straight_across, straight_kinds, piece_straight}
use Rattle.pb_shape_reached.proofs.Texts.{after_one, one_counts, text_number, branch_number, silent_leads, one_skipped, one_entered, to_text, choose_leads, ask_leads, told_is, teller}

-- a branch that can end
pub record EndingTree (roles : List CoreRole) (n : ℤ) (opens : List ℕ) (bs : BranchTrees) : Type 0 where
  pub number : ℕ
  pub there : number < count (flat_branches roles n opens (pos 0) bs)
  pub ends : all_can_end (tree_at number bs) ≡ true

ending_tree : (roles : List CoreRole) (n : ℤ) (opens : List ℕ) (bs : BranchTrees) → some_can_end bs ≡ true → EndingTree roles n opens bs
ending_tree roles n opens T.no_branch h = cc
ending_tree roles n opens (T.branch m b bs) h =
    elim (cases_Bool (all_can_end b)) [
      | inl e ↦ record { number = 0; there = omega arith; ends = e }
      | inr e ↦ (let r = ending_tree roles n opens bs (other (all_can_end b) (some_can_end bs) h e) in record { number = suc r.number; there = (let lt = r.there in omega arith); ends = r.ends })
    ]
  where
    other : (x y : Bool) → x || y ≡ true → x ≡ false → y ≡ true
    other x y h e = grind arith

module _ (p : Protocol) (l : Program) (n : ℤ) (me : Seat) (g : Given p l n me) where
  abbrev w : Setting
  w = setting_of p n

  abbrev r : ℕ
  r = me_rank p l n me

  abbrev at : ℤ → Todo → Rank
  at = at_todo me

  abbrev To : Rank → List Action → Rank → List Action → Type 0
  To = Leads l n me

  within : r < total p.roles n
  within = (seat_of_rank p.roles n (record { role = me.role; index = me.index }) g.seated.is).0

  pub both_lead : (d e : List (ℕ × Action)) (u : List Action) (x z : Rank) → To x (of_rank r d ++ (of_rank r e ++ u)) z u → To x (of_rank r (d ++ e) ++ u) z u
  both_lead d e u x z h = subst (λ s. To x s z u) (sym (ap (λ s. s ++ u) (of_append r d e) ∙ append_assoc (of_rank r d) (of_rank r e) u)) h

  -- a statement is passed, whatever follows it
  pub record StmtBy (a : Around) (m : Mark) (s : StmtTree) (codes tail : Codes) (k : ℕ) (i : ℤ) (t : Todo) : Type 0 where
    pub does : List (ℕ × Action)
    pub across : (others : Block) → Across w (flat_stmt p.roles n a.opens (pos 0) m s others) does others
    pub behind : ℕ
    pub counts : behind + size_all tail ≡ k + size_all codes
    pub last : ℤ
    pub near : IsVariable last
    pub leads : (u : List Action) → To (at i (pushed k codes t)) (of_rank r does ++ u) (at last (pushed behind tail t)) u

  -- a block is passed
  pub record BlockBy (a : Around) (core : BlockTree) (codes : Codes) (k : ℕ) (i : ℤ) (t : Todo) : Type 0 where
    pub does : List (ℕ × Action)
    pub across : Across w (flat p l n me a core) does stop
    pub last : ℤ
    pub near : IsVariable last
    pub leads : (u : List Action) → To (at i (pushed k codes t)) (of_rank r does ++ u) (at last t) u

  abbrev pub Passable : Here → Around → BlockTree → Codes → Type 0
  Passable h a core codes = Sits p l n me h a core codes → all_can_end core ≡ true → size_all codes ≤ all p l n me → (k : ℕ) (i : ℤ) (t : Todo) → IsVariable i → BlockBy a core codes k i t

  then_block : {a : Around} {m : Mark} {s : StmtTree} {rest : BlockTree} {codes tail : Codes} {k : ℕ} {i : ℤ} {t : Todo} (x : StmtBy a m s codes tail k i t) → BlockBy a rest tail x.behind x.last t → BlockBy a (T.more m s rest) codes k i t
  then_block {a = a} {rest = rest} {codes = codes} {k = k} {i = i} {t = t} x y = record {
    does = x.does ++ y.does;
    across = across_on w (x.across (flat p l n me a rest)) y.across;
    last = y.last;
    near = y.near;
    leads = λ u. both_lead x.does y.does u (at i (pushed k codes t)) (at y.last t) (leads_on l n me (x.leads (of_rank r y.does ++ u)) (y.leads u));
  }

  -- ---- straight statements

  -- what is done of one, and that these are the rank's actions of it
  pub record PieceBy (a : Around) (m : Mark) (s : StmtTree) (codes tail : Codes) (k : ℕ) (i : ℤ) (t : Todo) : Type 0 where
    pub by : StmtBy a m s codes tail k i t
    pub kinds : map kind_of (of_rank r by.does) ≡ mine r (flat_stmt p.roles n a.opens (pos 0) m s stop)

  pub piece_by : {h : Here} {a : Around} {m : Mark} {s : StmtTree} {rest : BlockTree} {tail codes : Codes} → Piece (scope_of p) h tail s codes → Sits p l n me h a (T.more m s rest) codes → size_all codes ≤ all p l n me →
      (k : ℕ) (i : ℤ) (t : Todo) → IsVariable i → PieceBy a m s codes tail k i t
  piece_by {h = h} {a = a} {m = m} {s = s} {tail = tail} {codes = codes} piece z small k i t near =
      let run = piece_straight w p n a.opens m s piece z.fine.0 in
      let pass = g.passes p l n r me g.seated h z.here a.opens m s tail codes piece z.fine.0 z.made.at z.made.made t (size_all codes) k i near (omega arith) (omega arith) in
      let are : map kind_of (of_rank r run.0) ≡ mine r (flat_stmt p.roles n a.opens (pos 0) m s stop) = sym (straight_kinds w r within (run.1 stop) ∙ append-nil (map kind_of (of_rank r run.0))) in
      record {
        by = record {
          does = run.0;
          across = λ others. straight_across w (run.1 others);
          behind = pass.behind;
          counts = pass.counts;
          last = pass.variable;
          near = pass.near;
          leads = λ u. way_leads l n me pass.way (of_rank r run.0) u are;
        };
        kinds = are;
      }

  -- ---- loops

  nothing_done : (d : List (ℕ × Action)) (x z : Rank) (u : List Action) → of_rank r d ≡ [] → To x u z u → To x (of_rank r d ++ u) z u
  nothing_done d x z u none h = subst (λ s. To x (s ++ u) z u) (sym none) h

  pub loop_by : {h : Here} {a : Around} {m mark : Mark} {id x : ℕ} {whole rest : BlockTree} {inner tail codes : Codes} (b : Bool) → in_body p l n me g a id whole ≡ b →
      (one : One (scope_of p) h (takers (scope_of p) a m (T.loop id mark whole)) (alone (L.loop x inner)) tail codes) →
      Passable (inside h (takers (scope_of p) a m (T.loop id mark whole))) (loop_in p l n me g a id x whole) whole inner → Sits p l n me h a (T.more m (T.loop id mark whole) rest) codes → all_can_end whole ≡ true → size_all codes ≤ all p l n me →
      (k : ℕ) (i : ℤ) (t : Todo) → IsVariable i → StmtBy a m (T.loop id mark whole) codes tail k i t
  loop_by {h = h} {a = a} {m = m} {mark = mark} {id = id} {x = x} {whole = whole} {rest = rest} {inner = inner} {tail = tail} {codes = codes} false e one body z ends small k i t near =
      let taker : takers (scope_of p) a m (T.loop id mark whole) n i me.role me.index ≡ false = ap (λ b. b || false) e in
      let run = stmt_passes w p.roles n a.opens (pos 0) m (T.loop id mark whole) ends (and_parts (have_simple_items whole) (have_simple_items rest) z.simple).0 in
      let none = across_none w r (held p l n me a) (run.1 stop) taker in
      record {
        does = run.0;
        across = run.1;
        behind = after_one one k;
        counts = one_counts k one;
        last = i;
        near = near;
        leads = λ u. nothing_done run.0 (at i (pushed k codes t)) (at i (pushed (after_one one k) tail t)) u none (one_skipped p l n me g k i t z.made.at one z.here z.made.made taker near u);
      }
  loop_by {h = h} {a = a} {m = m} {mark = mark} {id = id} {x = x} {whole = whole} {rest = rest} {inner = inner} {tail = tail} {codes = codes} true e one body z ends small k i t near =
      let taker : takers (scope_of p) a m (T.loop id mark whole) n i me.role me.index ≡ true = ap (λ b. b || false) e in
      let t' = pushed (after_one one k) tail t in
      let first = suc (suc k) in
      let goes_in = one_entered p l n me g k i t z.made.at one z.here z.made.made taker near in
      let inside_it = body (sits_loop p l n me g z.made.at e z z.made.below goes_in.made) ends (let s = goes_in.small in omega arith) first i (end_of x first inner t') near in
      record {
        does = inside_it.does ++ [];
        across = λ others. by_loop inside_it.across at_once;
        behind = after_one one k;
        counts = one_counts k one;
        last = inside_it.last;
        near = inside_it.near;
        leads = λ u.
            subst (λ s. To (at i (pushed k codes t)) (of_rank r s ++ u) (at inside_it.last t') u) (sym (append-nil inside_it.does))
            (leads_on l n me (goes_in.leads (of_rank r inside_it.does ++ u))
            (leads_on l n me (silent_leads p l n me g (at i (do_next (suc k) (L.loop x inner) t')) (at i (pushed first inner (end_of x first inner t'))) (of_rank r inside_it.does ++ u) refl)
            (leads_on l n me (inside_it.leads u) (by_end stays))));
      }

  -- ---- choices

  module _ (h : Here) (a : Around) (m : Mark) (kern : ℕ) (from : CoreEnd) (bs : BranchTrees) (rest : BlockTree) (who : Guard) (relays : List Relay) (tests : List Test) (parts : Parts) (tail codes : Codes) where
    abbrev tree : StmtTree
    tree = T.choice kern from bs

    abbrev text : L.Code
    text = L.choice who kern relays (peer_of from) tests parts

    abbrev flats : Branches
    flats = flat_branches p.roles n a.opens (pos 0) bs

    abbrev taken : Here
    taken = inside h (takers (scope_of p) a m tree)

    abbrev pub is_chooser : Bool
    is_chooser = rank_of p.roles n from (pos 0) == r

    abbrev pub is_told_of : Bool
    is_told_of = takes_part_among (held p l n me a) r flats

    pub takes : (u v : Bool) → is_chooser ≡ u → is_told_of ≡ v → (i : ℤ) → takers (scope_of p) a m tree n i me.role me.index ≡ (u || v) || false
    takes u v e f i = ap (λ q. (q || takes_part_among (held p l n me a) (me_rank p l n me) (flat_branches p.roles n a.opens (pos 0) bs)) || false) e ∙ ap (λ q. (u || q) || false) f

    -- what is known of the choice
    pub record Known : Type 0 where
      pub one : One (scope_of p) h (takers (scope_of p) a m tree) (told_by relays text) tail codes
      pub names : Names (scope_of p) h (who ∷ []) (is_end from)
      pub tested : Tests (scope_of p) h a bs tests
      pub relayed : Relays (scope_of p) a from bs relays
      pub shapes : Shapes (scope_of p) taken a bs parts
      pub shape : Shape (scope_of p) h a rest tail
      pub sits : Sits p l n me h a (T.more m tree rest) codes
      pub behind : Sits p l n me h a rest tail

    -- a rank that takes part in it comes to a branch
    pub record InBranch (x : Known) (k : ℕ) (i : ℤ) (t : Todo) : Type 0 where
      pub there : IsThere p l n me g h a m kern from bs rest who relays tests parts tail codes
      pub number : ℕ
      pub j : ℤ
      pub near : IsVariable j
      pub found : IsFound p l n me g j relays
      pub small : suc (suc (size_parts parts) + size_all tail) ≤ size_all codes
      pub leads : (u : List Action) → To (at i (pushed k codes t)) u (at j (do_next number text (pushed (after_one x.one k) tail t))) u
      pub number_is : number ≡ text_number relays (suc k)

    pub in_branch : (x : Known) → takers (scope_of p) a m tree n (pos 0) me.role me.index ≡ true → (k : ℕ) (i : ℤ) (t : Todo) → IsVariable i → InBranch x k i t
    in_branch x e k i t near =
        let goes_in = one_entered p l n me g k i t x.sits.made.at x.one x.sits.here x.sits.made.made e near in
        let to = to_text p l n me g (suc k) i (pushed (after_one x.one k) tail t) relays text near in
        let size_is = told_size p l n me g h a m kern from bs rest who relays tests parts tail codes relays in
        record {
          there = record { names = x.names; tested = x.tested; relayed = x.relayed; shapes = x.shapes; shape = x.shape; sits = x.sits; behind = x.behind; takes = e; made = goes_in.made };
          number = text_number relays (suc k);
          j = to.j;
          near = to.near;
          found = to.found;
          small = (let s = goes_in.small in omega arith);
          leads = λ u. leads_on l n me (goes_in.leads u) (to.leads u);
          number_is = refl;
        }

    -- it sits in the branch
    pub sits_in : (x : Known) (k : ℕ) (i : ℤ) (t : Todo) (b : InBranch x k i t) (y : ℕ) → Sits p l n me taken a (tree_at y bs) (part_at y parts)
    sits_in x k i t b y =
        let made = text_made p l n me g h a m kern from bs rest who relays tests parts tail codes b.there.sits.made.at relays b.there.made in
        branch_sits p l n me g h a m kern from bs rest who relays tests parts tail codes b.there y made.at made.later made.each

    abbrev branch_of : (y : ℕ) (d : List (ℕ × Action)) → List (ℕ × Action)
    branch_of y d = (rank_of p.roles n from (pos 0), Choose kern (count flats) y) ∷ (d ++ [])

    across_branch : (y : ℕ) (d : List (ℕ × Action)) → y < count flats → Across w (flat p l n me a (tree_at y bs)) d stop → (others : Block) → Across w (flat_stmt p.roles n a.opens (pos 0) m tree others) (branch_of y d) others
    across_branch y d lt x others = by_choice y lt (subst (λ b. Across w b d stop) (sym (branch_is p.roles n a.opens bs y)) x) at_once

    chooser_does : (y : ℕ) (d : List (ℕ × Action)) → is_chooser ≡ true → of_rank r (branch_of y d) ≡ Choose kern (count flats) y ∷ of_rank r d
    chooser_does y d e =
        let same : rank_of p.roles n from (pos 0) ≡ r = eqb-true _ _ e in
        ap (λ q. of_rank r ((q, Choose kern (count flats) y) ∷ (d ++ []))) same ∙ of_own r (Choose kern (count flats) y) (d ++ []) ∙ ap (λ s. Choose kern (count flats) y ∷ of_rank r s) (append-nil d)

    other_does : (y : ℕ) (d : List (ℕ × Action)) → is_chooser ≡ false → of_rank r (branch_of y d) ≡ of_rank r d
    other_does y d e = of_other (rank_of p.roles n from (pos 0)) r (Choose kern (count flats) y) (d ++ []) (eqb-false _ _ e) ∙ ap (of_rank r) (append-nil d)

    pub choice_by : (x : Known) (b1 b2 : Bool) → is_chooser ≡ b1 → is_told_of ≡ b2 → ((y : ℕ) → Passable taken a (tree_at y bs) (part_at y parts)) → can_end tree ≡ true → size_all codes ≤ all p l n me →
        (k : ℕ) (i : ℤ) (t : Todo) → IsVariable i → StmtBy a m tree codes tail k i t
    choice_by x false false e f branches ends small k i t near =
        let taker = takes false false e f in
        let run = stmt_passes w p.roles n a.opens (pos 0) m tree ends (and_parts (branches_have_simple_items bs) (have_simple_items rest) x.sits.simple).0 in
        let none = across_none w r (held p l n me a) (run.1 stop) (taker (pos 0)) in
        record {
          does = run.0;
          across = run.1;
          behind = after_one x.one k;
          counts = one_counts k x.one;
          last = i;
          near = near;
          leads = λ u. nothing_done run.0 (at i (pushed k codes t)) (at i (pushed (after_one x.one k) tail t)) u none (one_skipped p l n me g k i t x.sits.made.at x.one x.sits.here x.sits.made.made (taker i) near u);
        }
    choice_by x true b2 e f branches ends small k i t near =
        let b = in_branch x (takes true b2 e f (pos 0)) k i t near in
        let y = ending_tree p.roles n a.opens bs ends in
        let t' = pushed (after_one x.one k) tail t in
        let into = branch_number (suc b.number) y.number parts in
        let sm = b.small in
        let sz = size_at y.number parts in
        let inner = branches y.number (sits_in x k i t b y.number) y.ends (omega arith) into b.j t' b.near in
        record {
          does = branch_of y.number inner.does;
          across = across_branch y.number inner.does y.there inner.across;
          behind = after_one x.one k;
          counts = one_counts k x.one;
          last = inner.last;
          near = inner.near;
          leads = λ u.
              subst (λ s. To (at i (pushed k codes t)) (s ++ u) (at inner.last t') u) (sym (chooser_does y.number inner.does e))
              (leads_on l n me (b.leads (Choose kern (count flats) y.number ∷ (of_rank r inner.does ++ u)))
              (leads_on l n me (choose_leads p l n me g h a m kern from bs rest who relays tests parts tail codes b.there b.j b.near e b.number y.number t' (of_rank r inner.does ++ u)) (inner.leads u)));
        }
    choice_by x false true e f branches ends small k i t near =
        let b = in_branch x (takes false true e f (pos 0)) k i t near in
        let y = ending_tree p.roles n a.opens bs ends in
        let t' = pushed (after_one x.one k) tail t in
        let into = branch_number (suc b.number) y.number parts in
        let sm = b.small in
        let sz = size_at y.number parts in
        let inner = branches y.number (sits_in x k i t b y.number) y.ends (omega arith) into b.j t' b.near in
        let told = told_is p l n me g h a m kern from bs rest who relays tests parts tail codes b.there e f in
        let source = teller p l n me g h a m kern from bs rest who relays tests parts tail codes in
        let first = across_first w r (held p l n me a) source (subst (λ q. Across w q inner.does stop) (sym (branch_is p.roles n a.opens bs y.number)) inner.across) (receives_in (held p l n me a) r source flats y.number y.there told.receives) in
        let list : of_rank r (branch_of y.number inner.does) ≡ Recv source first.label first.words ∷ first.rest = other_does y.number inner.does e ∙ first.is in
        record {
          does = branch_of y.number inner.does;
          across = across_branch y.number inner.does y.there inner.across;
          behind = after_one x.one k;
          counts = one_counts k x.one;
          last = inner.last;
          near = inner.near;
          leads = λ u.
              subst (λ s. To (at i (pushed k codes t)) (s ++ u) (at inner.last t') u) (sym list)
              (leads_on l n me (b.leads (Recv source first.label first.words ∷ (first.rest ++ u)))
              (leads_on l n me
              (ask_leads p l n me g h a m kern from bs rest who relays tests parts tail codes b.there b.j b.near b.found e f b.number y.number t' first.label first.words (first.rest ++ u) (told.labels y.number first.label first.first))
              (subst (λ s. To (at b.j (pushed into (part_at y.number parts) t')) (s ++ u) (at inner.last t') u) first.is (inner.leads u))));
        }

  -- ---- blocks

  mutual
    pub block_by : {h : Here} {a : Around} {core : BlockTree} {codes : Codes} → Shape (scope_of p) h a core codes → Passable h a core codes
    block_by S.none z ends small k i t near = record { does = []; across = at_once; last = i; near = near; leads = λ u. stays }
    block_by (S.unreached nobody) z ends small k i t near = absurd (true≢false (nobody n i me.role me.index g.seated.within g.seated.is (z.here.at i) (z.here.comes i)))
    block_by {codes = codes} (S.piece {s = s} {rest = rest} some piece shape) z ends small k i t near =
        let es = and_parts (can_end s) (all_can_end rest) ends in
        let left = piece_leaves l z.made.at piece z.made.made in
        let x = (piece_by piece z small k i t near).by in
        then_block x (block_by shape (sits_piece p l n me g piece z left) es.1 (let f = left.fewer in omega arith) x.behind x.last t x.near)
    block_by (S.loop {a = a} {m = m} {mark = mark} {id = id} {body = whole} {rest = rest} some one inner shape) z ends small k i t near =
        let es = and_parts (all_can_end whole) (all_can_end rest) ends in
        let left = one_leaves l z.made.at one z.made.made in
        let x = loop_by _ refl one (block_by inner) z es.0 small k i t near in
        then_block x (block_by shape (sits_behind_loop p l n me g z left) es.1 (let f = left.fewer in omega arith) x.behind x.last t x.near)
    block_by (S.again some) z ends small k i t near = cc
    block_by {h = h} {codes = codes} (S.choice {a = a} {m = m} {k = kern} {at = from} {bs = bs} {rest = rest} {parts = parts} {tail = tail} who relays tests some one names tested held' relayed called shapes shape) z ends small k i t near =
        let es = and_parts (some_can_end bs) (all_can_end rest) ends in
        let left = one_leaves l z.made.at one z.made.made in
        let behind = sits_behind_choice p l n me g z left in
        let x = choice_by h a m kern from bs rest who relays tests parts tail codes (record { one = one; names = names; tested = tested; relayed = relayed; shapes = shapes; shape = shape; sits = z; behind = behind }) _ _ refl refl (parts_by shapes) es.0 small k i t near in
        then_block x (block_by shape behind es.1 (let f = left.fewer in omega arith) x.behind x.last t x.near)

    pub parts_by : {h : Here} {a : Around} {bs : BranchTrees} {parts : Parts} → Shapes (scope_of p) h a bs parts → (y : ℕ) → Passable h a (tree_at y bs) (part_at y parts)
    parts_by S.no_shape y z ends small k i t near = record { does = []; across = at_once; last = i; near = near; leads = λ u. stays }
    parts_by (S.branch shape shapes) zero z ends small k i t near = block_by shape z ends small k i t near
    parts_by (S.branch shape shapes) (suc y) z ends small k i t near = parts_by shapes y z ends small k i t near
