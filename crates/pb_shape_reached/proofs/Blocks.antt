-- Each statement of the text of a block is reached, where each rank for which the block is comes to it.
use Rattle.std.proofs.Common.{◌≡◌, ◌≤◌, ◌<◌, ℕ, zero, suc, ◌+◌, ◌==◌, ℤ, pos, Bool, true, false, ◌&&◌, ◌||◌, List, [], ◌∷◌, ◌++◌, Some, refl, sym, ap, ap₂, ◌∙◌, subst, inl, inr, append-nil, true≢false, arith}
use Rattle.std.proofs.lemmas.Bool.{and_parts, cases_Bool, eqb-true, eqb-false}
use Rattle.std.proofs.Math.Bool.{or-false}
use Rattle.pb_affine.specs.declared.guard.Guard.{Guard}
use Rattle.pb_affine.specs.Values.{value}
use Rattle.pb_world.specs.Actions.{Action, Choose, Recv, Kind, of_rank}
use Rattle.pb_world.proofs.Sequential.{internal_other}
use Rattle.pb_core_language.specs.Collectives.{setting_of}
use Rattle.pb_core_language.specs.declared.tree.CoreEnd.{CoreEnd}
use Rattle.pb_core_language.specs.Lists.{is_among}
use Rattle.pb_core_language.specs.Outcomes.{firsts, labels_of}
use Rattle.pb_core_language.specs.Ranks.{total}
use Rattle.pb_core_language.specs.Tree as T
use Rattle.pb_core_language.specs.Tree.{Mark, StmtTree, BlockTree, BranchTrees}
use Rattle.pb_core_language.specs.Plain.{Protocol}
use Rattle.pb_core_language.specs.Flat as F
use Rattle.pb_core_language.specs.Flat.{Block, stop, looped, takes_part, takes_part_among, branch_at}
use Rattle.pb_core_language.specs.FlatOf.{flat_stmt, flat_branches, rank_of}
use Rattle.pb_core_language.specs.Run.{Opener, Chosen, Body, Frame, at_rank, env_over, env_of, live}
use Rattle.pb_core_language.specs.Verdict.{IsIn}
use Rattle.pb_core_flat.specs.Seated.{is_rank}
use Rattle.pb_core_endpoint.specs.Core.{is_nothing, can_end, loops_end_in, keeps_ends, all_can_end, all_keep_ends, branches_keep_ends}
use Rattle.pb_core_endpoint.proofs.Branches.{receives_in}
use Rattle.pb_core_endpoint.proofs.Keep.{First_in, Received, first_live}
use Rattle.pb_core_road.specs.Roads.{here, goes, chooses}
use Rattle.pb_core_road.proofs.Roads.{across_road}
use Rattle.pb_core_road.proofs.Runs.{of_own, of_other}
use Rattle.pb_local.specs.declared.stmt.Test.{Test}
use Rattle.pb_local.specs.declared.stmt.Relay.{Relay}
use Rattle.pb_local.specs.Ranks.{Seat}
use Rattle.pb_local.specs.Tree as L
use Rattle.pb_local.specs.Tree.{Codes, nothing, more, size_all, size_parts, Parts, no_part, part, Program}
use Rattle.pb_local.specs.Machine.{Todo, do_next, end_of, pushed}
use Rattle.pb_shape.specs.Shape as S
use Rattle.pb_shape.specs.Places.{Here, Who, everyone, scope_of, inside, is_end, peer_of}
use Rattle.pb_shape.specs.Guards.{One, alone, Names, Somebody}
use Rattle.pb_shape.specs.Loops.{Around, in_loop, takers}
use Rattle.pb_shape.specs.Pieces.{Piece}
use Rattle.pb_shape.specs.Choices.{told_by, Tests, Relays}
use Rattle.pb_shape.specs.Shape.{Shape, Shapes}
use Rattle.pb_shape.specs.Straight.{IsVariable, at_todo, IsOpenTo}
use Rattle.pb_shape.specs.Tabled.{count}
use Rattle.pb_shape_follow.proofs.Stacks.{all, me_rank, held, flat, Sits}
use Rattle.pb_shape_follow.proofs.Pieces.{Left, one_leaves, piece_leaves}
use Rattle.pb_shape_follow.proofs.Blocks.{sits_piece, sits_behind_loop, sits_loop, in_body, loop_in, loop_flat}
use Rattle.pb_shape_follow.proofs.Branches.{tree_at, part_at, size_at, branch_is}
use Rattle.pb_shape_follow.proofs.Walks.{sits_behind_choice}
use Rattle.pb_shape_reached.specs.Reached.{AreReached, PartsAreReached}
use Rattle.pb_shape_reached.proofs.Leads.{stays, leads_on}
use Rattle.pb_shape_reached.proofs.Standing.{Present, Stood, world, go_on, go_told, spot, spot_reached, spot_silent}
use Rattle.pb_shape_reached.proofs.Texts.{after_one, one_counts, text_number, branch_number, silent_leads, one_entered, choose_leads, ask_leads, told_is, teller}
use Rattle.pb_shape_reached.proofs.Passing.{StmtBy, Passable, piece_by, loop_by, choice_by, block_by, parts_by, Known, in_branch, sits_in, is_chooser, is_told_of, takes}
use Rattle.pb_shape_reached.proofs.Finding.{Find, Inside, same_behind, reach_one}

-- the variable doesn't decide who comes here
pub record IsSteady (h : Here) : Type 0 where
  pub at : (n i : ℤ) → h.at n i ≡ true
  pub comes : (n i j : ℤ) (me : Seat) → h.comes n i me.role me.index ≡ h.comes n j me.role me.index

module _ (p : Protocol) (l : Program) (present : (n : ℤ) (me : Seat) → IsIn p.range n → total p.roles n ≤ 2000000000 → is_rank p.roles n me.role me.index ≡ true → Present p l n me) where
  -- a rank that stands before a block, and the run with it
  pub record Arrived (n : ℤ) (me : Seat) (pres : Present p l n me) (h : Here) (a : Around) (core : BlockTree) (codes : Codes) (k : ℕ) : Type 0 where
    pub opener : Opener
    pub frames : List Frame
    pub lives : live (me_rank p l n me) opener (env_of frames) ≡ true
    pub env : at_rank (me_rank p l n me) (env_over opener (env_of frames)) ≡ held p l n me a
    pub j : ℤ
    pub near : IsVariable j
    pub todo : Todo
    pub sits : Sits p l n me h a core codes
    pub small : size_all codes ≤ all p l n me
    pub stood : Stood p l n me pres (record { opener = opener; rest = flat p l n me a core } ∷ frames) (at_todo me j (pushed k codes todo))

  -- each rank that comes here does
  abbrev pub Come : Here → Around → BlockTree → Codes → ℕ → Type 0
  Come h a core codes k = is_nothing core ≡ false → (n : ℤ) (me : Seat) (pres : Present p l n me) → IsOpenTo h n me → Arrived n me pres h a core codes k

  abbrev pub Opened : Here → ℤ → Seat → ℤ → ℤ → Type 0
  Opened h n me i j = IsOpenTo h n me

  pub open_of : {h : Here} → IsSteady h → (n i : ℤ) (me : Seat) → h.comes n i me.role me.index ≡ true → IsOpenTo h n me
  open_of st n i me e = record { at = λ j. st.at n j; comes = λ j. st.comes n j i me ∙ e }

  pub steady_inside : {h : Here} (a : Around) (m : Mark) (s : StmtTree) → IsSteady h → IsSteady (inside h (takers (scope_of p) a m s))
  steady_inside a m s st = record { at = st.at; comes = λ n i j me. ap (λ b. takers (scope_of p) a m s n (pos 0) me.role me.index && b) (st.comes n i j me) }

  -- inside, and outside again
  pub outer_open : {h : Here} (a : Around) (m : Mark) (s : StmtTree) (n : ℤ) (me : Seat) → IsOpenTo (inside h (takers (scope_of p) a m s)) n me → IsOpenTo h n me
  outer_open {h = h} a m s n me op = record { at = op.at; comes = λ i. (and_parts (takers (scope_of p) a m s n i me.role me.index) (h.comes n i me.role me.index) (op.comes i)).1 }

  pub is_taker : (h : Here) (a : Around) (m : Mark) (s : StmtTree) (n : ℤ) (me : Seat) → IsOpenTo (inside h (takers (scope_of p) a m s)) n me → takers (scope_of p) a m s n (pos 0) me.role me.index ≡ true
  is_taker h a m s n me op = (and_parts (takers (scope_of p) a m s n (pos 0) me.role me.index) (h.comes n (pos 0) me.role me.index) (op.comes (pos 0))).0

  -- ---- behind a statement

  pub behind : {n : ℤ} {me : Seat} {pres : Present p l n me} {h : Here} {a : Around} {m : Mark} {s : StmtTree} {rest : BlockTree} {codes tail : Codes} {k : ℕ} (x : Arrived n me pres h a (T.more m s rest) codes k) →
      StmtBy p l n me pres.given a m s codes tail k x.j x.todo → Sits p l n me h a rest tail → size_all tail ≤ size_all codes → (b : ℕ) → b + size_all tail ≡ k + size_all codes → Arrived n me pres h a rest tail b
  behind {n = n} {me = me} {pres = pres} {a = a} {rest = rest} {codes = codes} {tail = tail} {k = k} x y sits fewer b e = record {
    opener = x.opener;
    frames = x.frames;
    lives = x.lives;
    env = x.env;
    j = y.last;
    near = y.near;
    todo = x.todo;
    sits = sits;
    small = (let s = x.small in omega arith);
    stood = subst (λ q. Stood p l n me pres (record { opener = x.opener; rest = flat p l n me a rest } ∷ x.frames) (at_todo me y.last (pushed q tail x.todo))) (same_behind _ b (size_all tail) (k + size_all codes) y.counts e)
        (go_on p l n me pres x.stood (across_road (setting_of p n) (y.across (flat p l n me a rest)) x.opener x.frames) y.leads);
  }

  pub come_piece : {h : Here} {a : Around} {m : Mark} {s : StmtTree} {rest : BlockTree} {codes tail : Codes} (k : ℕ) → Piece (scope_of p) h tail s codes → Come h a (T.more m s rest) codes k → (b : ℕ) → b + size_all tail ≡ k + size_all codes → Come h a rest tail b
  come_piece k piece come b e some n me pres op =
      let x = come refl n me pres op in
      let left = piece_leaves l x.sits.made.at piece x.sits.made.made in
      behind x (piece_by p l n me pres.given piece x.sits x.small k x.j x.todo x.near).by (sits_piece p l n me pres.given piece x.sits left) left.fewer b e

  -- what another statement follows can end
  pub ends_first : (s : StmtTree) (rest : BlockTree) → (is_nothing rest || (can_end s && loops_end_in s)) && (keeps_ends s && all_keep_ends rest) ≡ true → is_nothing rest ≡ false → can_end s ≡ true
  ends_first s rest h e = go (is_nothing rest) (can_end s) (loops_end_in s) (keeps_ends s && all_keep_ends rest) h e
    where
      go : (a b c d : Bool) → (a || (b && c)) && d ≡ true → a ≡ false → b ≡ true
      go a b c d h e = grind arith

  pub come_loop : {h : Here} {a : Around} {m mark : Mark} {id x : ℕ} {whole rest : BlockTree} {inner tail codes : Codes} (k : ℕ) (one : One (scope_of p) h (takers (scope_of p) a m (T.loop id mark whole)) (alone (L.loop x inner)) tail codes) →
      ((n : ℤ) (me : Seat) (pres : Present p l n me) → Passable p l n me pres.given (inside h (takers (scope_of p) a m (T.loop id mark whole))) (loop_in p l n me pres.given a id x whole) whole inner) →
      (is_nothing rest ≡ false → all_can_end whole ≡ true) → Come h a (T.more m (T.loop id mark whole) rest) codes k → Come h a rest tail (after_one one k)
  come_loop k one passes ends come some n me pres op =
      let x = come refl n me pres op in
      let left = one_leaves l x.sits.made.at one x.sits.made.made in
      behind x (loop_by p l n me pres.given _ refl one (passes n me pres) x.sits (ends some) x.small k x.j x.todo x.near) (sits_behind_loop p l n me pres.given x.sits left) left.fewer (after_one one k) (one_counts k one)

  -- ---- into a loop

  pub come_in_loop : {h : Here} {a : Around} {m mark : Mark} {id number : ℕ} {whole rest : BlockTree} {inner tail codes : Codes} (k : ℕ) (one : One (scope_of p) h (takers (scope_of p) a m (T.loop id mark whole)) (alone (L.loop number inner)) tail codes) →
      Come h a (T.more m (T.loop id mark whole) rest) codes k → Come (inside h (takers (scope_of p) a m (T.loop id mark whole))) (in_loop (scope_of p) a id number whole) whole inner (suc (suc k))
  come_in_loop {h = h} {a = a} {m = m} {mark = mark} {id = id} {number = number} {whole = whole} {rest = rest} {inner = inner} {tail = tail} k one come some n me pres op =
      let g = pres.given in
      let r = me_rank p l n me in
      let x = come refl n me pres (outer_open a m (T.loop id mark whole) n me op) in
      let taker = is_taker h a m (T.loop id mark whole) n me op in
      let takes_it : in_body p l n me g a id whole ≡ true = sym (or-false (in_body p l n me g a id whole)) ∙ taker in
      let body = loop_flat p l n me g a id whole in
      let e = one_entered p l n me g k x.j x.todo x.sits.made.at one x.sits.here x.sits.made.made taker x.near in
      let t = pushed (after_one one k) tail x.todo in
      record {
        opener = Body body;
        frames = record { opener = x.opener; rest = flat p l n me a rest } ∷ x.frames;
        lives = ap (λ bits. takes_part (false ∷ bits) r body) x.env ∙ takes_it;
        env = ap (λ bits. takes_part (false ∷ bits) r body ∷ bits) x.env;
        j = x.j;
        near = x.near;
        todo = end_of number (suc (suc k)) inner t;
        sits = sits_loop p l n me g x.sits.made.at takes_it x.sits x.sits.made.below e.made;
        small = (let s = e.small in let q = x.small in omega arith);
        stood =
            go_on p l n me pres x.stood (goes _ refl here)
            (λ s. leads_on l n me (e.leads s) (silent_leads p l n me g (at_todo me x.j (do_next (suc k) (L.loop number inner) t)) (at_todo me x.j (pushed (suc (suc k)) inner (end_of number (suc (suc k)) inner t))) s refl));
      }

  -- ---- who is found before a block

  pub find_here : {h : Here} {a : Around} {core : BlockTree} {codes : Codes} (k : ℕ) → IsSteady h → is_nothing core ≡ false → Come h a core codes k → Find p l (Opened h) h k codes (λ n me j. [])
  find_here k st some come n i me within few is at comes =
      let pres = present n me within few is in
      let op = open_of st n i me comes in
      let x = come some n me pres op in
      record {
        present = pres;
        j = x.j;
        link = op;
        comes = record { near = x.near; at = op.at x.j; comes = op.comes x.j };
        todo = x.todo;
        made = record { scope = x.sits.made.at; made = x.sits.made.made };
        spot = spot p l n me pres x.stood x.lives here refl;
      }
