-- What a text does next at a choice, beside what the endpoint does next at it.
use Rattle.std.proofs.Common.{◌≡◌, ◌≤◌, ◌<◌, ℕ, zero, suc, ◌+◌, ◌==◌, ℤ, pos, ◌+ℤ◌, Bool, true, false, ◌&&◌, if◌then◌else◌, nat_eq, unwrap_or, List, [], ◌∷◌, Option, Some, None, refl, sym, ap, ◌∙◌, subst, lt-ltb, arith}
use Rattle.std.specs.Ordering.{int_eq}
use Rattle.std.proofs.lemmas.Bool.{and_parts}
use Rattle.std.proofs.Math.Bool.{or-false}
use Rattle.pb_affine.specs.declared.guard.Guard.{Guard}
use Rattle.pb_affine.specs.declared.lin.Base.{Base}
use Rattle.pb_affine.specs.declared.lin.Base.TheVariants.{Fixed, Param, Var}
use Rattle.pb_affine.specs.Values.{value, base_value, count_of}
use Rattle.pb_world.specs.Actions.{Action, Choose, Run, Send, Recv, Enter, Leave, Chooses, branch_in}
use Rattle.pb_world.specs.Machine.{Does, Probe}
use Rattle.pb_world.specs.Carry.{here}
use Rattle.pb_core_language.specs.declared.tree.CoreEnd.{CoreEnd}
use Rattle.pb_core_language.specs.Ranks.{total, seats}
use Rattle.pb_core_language.specs.Tree as T
use Rattle.pb_core_language.specs.Tree.{Mark, BlockTree, BranchTrees}
use Rattle.pb_core_language.specs.Plain.{Protocol}
use Rattle.pb_core_language.specs.Flat.{Branches, takes_part_among}
use Rattle.pb_core_language.specs.FlatOf.{flat_branches, rank_of}
use Rattle.pb_core_language.specs.Outcomes.{firsts_among, source_of}
use Rattle.pb_core_language.specs.Sound.{is_over_n}
use Rattle.pb_core_flat.specs.Seated.{rank, is_rank}
use Rattle.pb_core_flat.proofs.Seats.{end_is_at, seat_of_rank, is_below}
use Rattle.pb_core_endpoint.specs.Core.{have_simple_items, branches_have_simple_items}
use Rattle.pb_core_endpoint.specs.Endpoint.{Code, Arms, Part, code, arms, count_arms, choose, told, arm_at, arm_of, branch_of, chosen}
use Rattle.pb_core_endpoint.proofs.Kept.{IsTold}
use Rattle.pb_local.specs.declared.stmt.Test.{Test}
use Rattle.pb_local.specs.declared.stmt.Relay.{Relay}
use Rattle.pb_local.specs.Ranks.{Seat}
use Rattle.pb_local.specs.Tree as L
use Rattle.pb_local.specs.Tree.{Codes, nothing, more, size_all, size_parts, Parts, Program}
use Rattle.pb_local.specs.Computed as N
use Rattle.pb_local.specs.Computed.{all_fit, guard_numbers, is_for, is_for_some, is_peer, peer_number, relay_numbers, branch_for}
use Rattle.pb_local.specs.WellMade as W
use Rattle.pb_local.specs.WellMade.{AreMade, count_parts}
use Rattle.pb_local.specs.Machine as X
use Rattle.pb_local.specs.Machine.{Todo, Rank, pushed, entered, move, move_from}
use Rattle.pb_local.specs.Family.{most_silent}
use Rattle.pb_local.proofs.Moves.{move_is}
use Rattle.pb_shape.specs.Places.{Here, inside, peer_of, is_end, scope_of}
use Rattle.pb_shape.specs.Guards.{Names}
use Rattle.pb_shape.specs.Loops.{Around, takers}
use Rattle.pb_shape.specs.Choices.{told_by, is_told, guards_of, Tests, Relays}
use Rattle.pb_shape.specs.Shape.{Shape, Shapes}
use Rattle.pb_shape.specs.Straight.{IsVariable, at_todo, IsEnd}
use Rattle.pb_shape_follow.proofs.Stacks.{weight, weight_pushed, all, me_rank, held, coded, Sits, Sim, block}
use Rattle.pb_shape_follow.proofs.Fronts.{debt, Budget, Rel, stands, acts, asks}
use Rattle.pb_shape_follow.proofs.Steps.{Given, Ahead, IsFound, plainly, by_index}
use Rattle.pb_shape_follow.proofs.Blocks.{Over}
use Rattle.pb_shape_follow.proofs.Branches.{tree_at, part_at, shape_at, size_at, fine_at, simple_at, made_at, entered_is, branch_is, keeps_at, counts_are, arm_is, found_arm, one_branch, told_by_one}
use Rattle.pb_shape_follow.proofs.Tells.{tested_is, relays_fit, source_made}

module _ (p : Protocol) (l : Program) (n : ℤ) (me : Seat) (g : Given p l n me) where
  module _ (h : Here) (a : Around) (m : Mark) (kern : ℕ) (from : CoreEnd) (bs : BranchTrees) (rest : BlockTree) (who : Guard) (relays : List Relay) (tests : List Test) (parts : Parts) (tail codes : Codes) where
    abbrev pub tree : T.StmtTree
    tree = T.choice kern from bs

    abbrev pub text : L.Code
    text = L.choice who kern relays (peer_of from) tests parts

    abbrev pub flats : Branches
    flats = flat_branches p.roles n a.opens (pos 0) bs

    abbrev pub my_arms : Arms
    my_arms = arms (held p l n me a) (me_rank p l n me) flats

    abbrev pub taken : Here
    taken = inside h (takers (scope_of p) a m tree)

    -- what the choice is to a rank that comes there
    pub record IsThere : Type 0 where
      pub names : Names (scope_of p) h (who ∷ []) (is_end from)
      pub tested : Tests (scope_of p) h a bs tests
      pub relayed : Relays (scope_of p) a from bs relays
      pub shapes : Shapes (scope_of p) taken a bs parts
      pub shape : Shape (scope_of p) h a rest tail
      pub sits : Sits p l n me h a (T.more m tree rest) codes
      pub behind : Sits p l n me h a rest tail
      pub takes : takers (scope_of p) a m tree n (pos 0) me.role me.index ≡ true
      pub made : AreMade l sits.made.at (told_by relays text)

    -- ---- a branch

    pub branch_sits : (x : IsThere) (y : ℕ) (s : W.Scope) → x.sits.made.at.loops ≤ s.loops → W.ArePartsMade l s parts → Sits p l n me taken a (tree_at y bs) (part_at y parts)
    branch_sits x y s le made =
        let mine = made_at l parts y s made in record {
          fine = fine_at p n bs y x.sits.fine.0.1;
          here = record { at = x.sits.here.at; comes = λ i. rw x.takes (x.sits.here.comes i) };
          simple = simple_at bs y (and_parts (branches_have_simple_items bs) (have_simple_items rest) x.sits.simple).0;
          around = x.sits.around;
          keeps = keeps_at p.roles n a.opens (total p.roles n) x.sits.around.env bs y x.sits.keeps.3;
          made = record { at = mine.at; made = mine.made; below = λ k lt. let b = x.sits.made.below k lt in let e = mine.later in omega arith };
        }

    -- the choice itself is made, its branches behind what stands before it
    pub record TextMade (s : W.Scope) : Type 0 where
      pub at : W.Scope
      pub later : s.loops ≤ at.loops
      pub choice : W.IsChoice l who kern relays (peer_of from) tests (count_parts parts)
      pub each : W.ArePartsMade l at parts

    pub text_made : (s : W.Scope) (rs : List Relay) → AreMade l s (told_by rs text) → TextMade s
    text_made s [] h = record { at = s; later = omega arith; choice = h.0.0; each = h.0.1 }
    text_made s (r ∷ rs) h = record { at = W.behind s 0; later = omega arith; choice = h.1.0.0; each = h.1.0.1 }

    pub told_size : (rs : List Relay) → suc (size_parts parts) ≤ size_all (told_by rs text)
    told_size [] = omega arith
    told_size (r ∷ rs) = omega arith

    -- room for a branch
    pub record Room (c : Bool) (k : ℕ) (t : Todo) : Type 0 where
      pub small : size_parts parts + weight t ≤ all p l n me
      pub enough : suc (size_parts parts + weight t + debt p l n me c) ≤ k

    -- ---- the chooser

    over_n : (b : Bool) (q r : Bool) → b && (q && r) ≡ true → q ≡ true
    over_n b q r h = grind arith

    steady : IsEnd p n false (pos 0) from → (j : ℤ) → value from.at n j ≡ value from.at n (pos 0)
    steady e j = go from.at.base (over_n _ _ _ e.sound)
      where
        go : (b : Base) → is_over_n b ≡ true → from.at.off +ℤ base_value b n j ≡ from.at.off +ℤ base_value b n (pos 0)
        go Fixed h = refl
        go Param h = refl
        go Var h = cc

    pub chooses_is : (x : IsThere) (j : ℤ) → is_for n me j who ≡ (rank_of p.roles n from (pos 0) == me_rank p l n me)
    chooses_is x j =
        sym (or-false (is_for n me j who)) ∙ x.names n j me.role me.index g.seated.within g.seated.is (x.sits.here.at j)
        ∙ ap (λ v. nat_eq from.role me.role && int_eq v me.index) (steady x.sits.fine.0.0 j)
        ∙ sym (end_is_at p.roles n (pos 0) from me.role me.index g.seated.is)

    branch_sim : {o : Option Code} {K : List Part} {t : Todo} (x : IsThere) (behind number y : ℕ) → Over p l n me a o K t →
        Sim p l n me a (record { body = None; code = coded p l n me a (tree_at y bs) } ∷ record { body = o; code = coded p l n me a rest } ∷ K) (pushed number (part_at y parts) (pushed behind tail t))
    branch_sim x behind number y over =
        let mine = text_made x.sits.made.at relays x.made in
        block number (record { shape = shape_at bs parts y x.shapes; sits = branch_sits x y mine.at mine.later mine.each }) (over.on_top behind (record { shape = x.shape; sits = x.behind }))

    branch_room : (c : Bool) (k number y : ℕ) (t : Todo) → size_parts parts + weight t ≤ all p l n me → size_parts parts + weight t + debt p l n me c ≤ k → Budget p l n me c k (pushed number (part_at y parts) t)
    branch_room c k number y t small enough = let w = weight_pushed number (part_at y parts) t in let z = size_at y parts in record { small = omega arith; enough = omega arith }

    branch_in_is : (b : Action) → unwrap_or (branch_in b) 0 ≡ branch_of b
    branch_in_is (Choose k' m' x) = refl
    branch_in_is (Run k') = refl
    branch_in_is (Send q l' ws) = refl
    branch_in_is (Recv q l' ws) = refl
    branch_in_is (Enter j ws) = refl
    branch_in_is (Leave j ws) = refl

    pub choose_front : {o : Option Code} {K : List Part} {t : Todo} (x : IsThere) (c : Bool) (k number behind : ℕ) (j : ℤ) → IsVariable j → (rank_of p.roles n from (pos 0) == me_rank p l n me) ≡ true → Over p l n me a o K t → Room c k (pushed behind tail t) →
        Ahead p l n me g k c (at_todo me j (X.do_next number text (pushed behind tail t))) (record { body = o; code = choose kern my_arms (coded p l n me a rest) } ∷ K)
    choose_front {o = o} {K = K} {t = t} x c k number behind j near mine over room =
        let z = at_todo me j (X.do_next number text (pushed behind tail t)) in
        let made = text_made x.sits.made.at relays x.made in
        let to : ℕ → Rank = λ b. at_todo me j (entered (suc number) b parts (pushed behind tail t)) in
        let m' : move l n z ≡ X.chooses kern (count_parts parts) to = move_is l n z ∙ rw (g.guard j near who made.choice.guard, chooses_is x j ∙ mine) refl in
        acts (Chooses kern (count_arms my_arms)) refl refl (record {
          j = zero;
          z = z;
          steps = here;
          few = omega arith;
          next = ap X.next_in m' ∙ ap (λ q. Does (Chooses kern q)) (sym (counts_are p.roles n a.opens (held p l n me a) (me_rank p l n me) bs parts x.shapes));
          act = λ b same.
              let y = branch_of b in
              let into = entered_is (suc number) y parts (pushed behind tail t) in
              let last = at_todo me j (pushed into.from (part_at y parts) (pushed behind tail t)) in
              let to_last : X.act_in z (move l n z) b ≡ last = ap (λ q. X.act_in z q b) m' ∙ ap to (branch_in_is b) ∙ ap (at_todo me j) into.is in
              subst (λ w. Rel p l n me (most_silent l) (record { state = record { body = None; code = arm_at y my_arms } ∷ record { body = o; code = coded p l n me a rest } ∷ K; went_back = false }) w) (sym to_last)
              (subst (λ q. Rel p l n me (most_silent l) (record { state = record { body = None; code = q } ∷ record { body = o; code = coded p l n me a rest } ∷ K; went_back = false }) last)
              (sym (arm_is p.roles n a.opens (held p l n me a) (me_rank p l n me) bs y))
              (record { twin = last; same = refl; near = stands (branch_sim x behind into.from y over) near (branch_room false (most_silent l) into.from y (pushed behind tail t) room.small (let s = room.small in omega arith)) }));
        })

    -- ---- a rank that is told

    abbrev pub teller_at : ℕ
    teller_at = source_of (firsts_among (held p l n me a) (me_rank p l n me) flats)

    pub source_at : (x : IsThere) (j : ℤ) (lab : ℕ) → (rank_of p.roles n from (pos 0) == me_rank p l n me) ≡ false → is_told (scope_of p) a bs 0 lab n (pos 0) me.role me.index ≡ true → IsFound p l n me g j relays →
        rank p.roles n (N.source_of n me j relays (peer_of from)).role (value (N.source_of n me j relays (peer_of from)).at n j) ≡ teller_at
    source_at x j lab other is_so found = go relays found (x.relayed n me.role me.index 0 lab g.seated.within g.seated.is (sym (end_is_at p.roles n (pos 0) from me.role me.index g.seated.is) ∙ other) is_so)
      where
        go : (rs : List Relay) → IsFound p l n me g j rs →
            rank p.roles n (N.source_of n me me.index rs (peer_of from)).role (value (N.source_of n me me.index rs (peer_of from)).at n me.index) ≡ teller_at →
            rank p.roles n (N.source_of n me j rs (peer_of from)).role (value (N.source_of n me j rs (peer_of from)).at n j) ≡ teller_at
        go [] plainly h = ap (λ v. rank p.roles n from.role v) (steady x.sits.fine.0.0 j ∙ sym (steady x.sits.fine.0.0 me.index)) ∙ h
        go (r ∷ rs) (by_index e) h = subst (λ v. rank p.roles n (N.source_of n me v (r ∷ rs) (peer_of from)).role (value (N.source_of n me v (r ∷ rs) (peer_of from)).at n v) ≡ teller_at) (sym e) h

    pub asks_is : (z : Rank) (ts : List Test) (b lab k : ℕ) (t : Todo) → is_for_some n me z.i (guards_of b lab ts) ≡ true →
        X.asks l n z relays (peer_of from) ts k parts t ≡ (if all_fit (relay_numbers n z.seat z.i relays) then X.with_peer l n z (N.source_of n z.seat z.i relays (peer_of from)) (λ q. X.probes q (λ lab. X.told z k parts t (branch_for n z.seat z.i ts lab))) else X.undefined)
    asks_is z [] b lab k t h = cc
    asks_is z (x ∷ ts) b lab k t h = refl

    -- what a label says
    record IsReadAs (o : Option Code) (K : List Part) (lab : ℕ) (K' : List Part) : Type 0 where
      branch : ℕ
      is : K' ≡ record { body = None; code = coded p l n me a (tree_at branch bs) } ∷ record { body = o; code = coded p l n me a rest } ∷ K
      told : is_told (scope_of p) a bs branch lab n (pos 0) me.role me.index ≡ true

    read_as : (o : Option Code) (K : List Part) (lab : ℕ) (K' : List Part) → chosen (record { body = o; code = coded p l n me a rest } ∷ K) (arm_of my_arms lab) ≡ Some K' → IsReadAs o K lab K'
    read_as o K lab K' h = go (arm_of my_arms lab) refl h
      where
        go : (f : Option Code) → arm_of my_arms lab ≡ f → chosen (record { body = o; code = coded p l n me a rest } ∷ K) f ≡ Some K' → IsReadAs o K lab K'
        go None e h = cc
        go (Some q) e h =
            let f = found_arm (held p l n me a) (me_rank p l n me) flats lab q e in
            let top : record { body = None; code = q } ∷ record { body = o; code = coded p l n me a rest } ∷ K ≡ K' = cc in
            record {
              branch = f.branch;
              is = sym top ∙ ap (λ w. record { body = None; code = w } ∷ record { body = o; code = coded p l n me a rest } ∷ K) (f.is ∙ ap (code (held p l n me a) (me_rank p l n me)) (branch_is p.roles n a.opens bs f.branch));
              told = f.told;
            }

    pub ask_front : {o : Option Code} {K : List Part} {t : Todo} (x : IsThere) (c : Bool) (k number behind : ℕ) (j : ℤ) → IsVariable j → IsFound p l n me g j relays → (rank_of p.roles n from (pos 0) == me_rank p l n me) ≡ false →
        takes_part_among (held p l n me a) (me_rank p l n me) flats ≡ true → Over p l n me a o K t → Room c k (pushed behind tail t) →
        Ahead p l n me g k c (at_todo me j (X.do_next number text (pushed behind tail t))) (record { body = o; code = told teller_at my_arms (coded p l n me a rest) } ∷ K)
    ask_front {o = o} {K = K} {t = t} x c k number behind j near found other among over room =
        let r = me_rank p l n me in
        let bits = held p l n me a in
        let env = x.sits.around.env in
        let t' = pushed behind tail t in
        let z = at_todo me j (X.do_next number text t') in
        let made = text_made x.sits.made.at relays x.made in
        let within : r < total p.roles n = (seat_of_rank p.roles n (record { role = me.role; index = me.index }) g.seated.is).0 in
        let is_told' : IsTold bits r flats = subst (λ b. IsTold b r flats) x.sits.around.same (x.sits.keeps.2 r within other (subst (λ b. takes_part_among b r flats ≡ true) (sym x.sits.around.same) among)) in
        let first = told_by_one bits r teller_at (total p.roles n) env flats x.sits.keeps.1 x.sits.keeps.3 is_told'.receives in
        let told0 : is_told (scope_of p) a bs 0 first.label n (pos 0) me.role me.index ≡ true = is_told'.labels 0 first.label first.told in
        let source = N.source_of n me j relays (peer_of from) in
        let source_is = source_at x j first.label other told0 found in
        let seated : is_rank p.roles n source.role (value source.at n j) ≡ true = is_below (seats p.roles n) (record { role = source.role; index = value source.at n j }) ∙ lt-ltb _ _ (subst (λ q. q < total p.roles n) (sym source_is) first.source) in
        let fits = g.peer j near source (source_made l n me j (g.guards j near) relays (peer_of from) made.choice.each_relay made.choice.source) seated in
        let tested : (b lab : ℕ) → is_for_some n me j (guards_of b lab tests) ≡ is_told (scope_of p) a bs b lab n (pos 0) me.role me.index = λ b lab. x.tested b lab n j me.role me.index g.seated.within g.seated.is (x.sits.here.at j) in
        let to : ℕ → Option Rank = λ lab. X.told z (suc number) parts t' (branch_for n me j tests lab) in
        let m' : move l n z ≡ X.probes (count_of (peer_number n me j l source)) to =
        move_is l n z ∙ rw (g.guard j near who made.choice.guard, chooses_is x j ∙ other) (asks_is z tests 0 first.label (suc number) t' (tested 0 first.label ∙ told0) ∙ rw (relays_fit l n me j (g.guards j near) relays made.choice.each_relay, fits.0) refl) in
        asks teller_at refl refl (record {
          j = zero;
          z = z;
          steps = here;
          few = (let e = room.enough in omega arith);
          next = ap X.next_in m' ∙ ap (λ q. Probe q) (fits.1 ∙ source_is);
          read = λ lab K' h.
              let as_read = read_as o K lab K' h in
              let y = as_read.branch in
              let into = entered_is (suc number) y parts t' in
              let last = at_todo me j (pushed into.from (part_at y parts) t') in
              let one : (b : ℕ) → is_for_some n me j (guards_of b lab tests) ≡ true → b ≡ y = λ b e. one_branch bits r flats b y lab is_told'.apart (sym (tested b lab) ∙ e) as_read.told in
              let found_test : branch_for n me j tests lab ≡ Some y = tested_is l n me j (g.guards j near) (count_parts parts) y lab tests made.choice.each_test one (tested y lab ∙ as_read.told) in
              record {
                i = size_parts parts + weight t' + debt p l n me c;
                behind = last;
                reads = ap (λ q. X.read_in q lab) m' ∙ ap (X.told z (suc number) parts t') found_test ∙ ap (λ q. Some (at_todo me j q)) into.is;
                few = (let e = room.enough in omega arith);
                rel = subst (λ q. Rel p l n me (size_parts parts + weight t' + debt p l n me c) (record { state = q; went_back = c }) last) (sym as_read.is)
                    (record { twin = last; same = refl; near = stands (branch_sim x behind into.from y over) near (branch_room c (size_parts parts + weight t' + debt p l n me c) into.from y t' room.small (omega arith)) });
              };
        })
