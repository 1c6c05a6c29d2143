-- The ranks that take part in a choice come to each of its branches.
use Rattle.std.proofs.Common.{◌≡◌, ◌≤◌, ◌<◌, ℕ, zero, suc, ◌+◌, ◌==◌, ℤ, pos, ◌+ℤ◌, Bool, true, false, ◌||◌, List, [], ◌∷◌, ◌++◌, refl, sym, ap, ◌∙◌, subst, arith}
use Rattle.std.proofs.lemmas.Int.{ints}
use Rattle.std.proofs.lemmas.Bool.{eqb-true, eqb-false}
use Rattle.std.proofs.Math.Bool.{or-false}
use Rattle.pb_affine.specs.declared.guard.Guard.{Guard}
use Rattle.pb_world.specs.Actions.{Action, Choose, Recv, of_rank}
use Rattle.pb_world.proofs.Sequential.{internal_self, internal_other}
use Rattle.pb_core_language.specs.declared.protocol.CoreRole.{CoreRole}
use Rattle.pb_core_language.specs.declared.tree.CoreEnd.{CoreEnd}
use Rattle.pb_core_language.specs.Lists.{is_among}
use Rattle.pb_core_language.specs.Outcomes.{firsts, labels_of}
use Rattle.pb_core_language.specs.Ranks.{total}
use Rattle.pb_core_language.specs.Tree as T
use Rattle.pb_core_language.specs.Tree.{Mark, StmtTree, BlockTree, BranchTrees}
use Rattle.pb_core_language.specs.Plain.{Protocol}
use Rattle.pb_core_language.specs.Flat as F
use Rattle.pb_core_language.specs.Flat.{Block, Branches, takes_part_among, branch_at}
use Rattle.pb_core_language.specs.FlatOf.{flat_branches, rank_of}
use Rattle.pb_core_language.specs.Run.{Chosen, Frame, at_rank, env_over, env_of}
use Rattle.pb_core_language.specs.Verdict.{IsIn}
use Rattle.pb_core_flat.specs.Seated.{is_rank}
use Rattle.pb_core_endpoint.specs.Core.{is_nothing, some_can_end}
use Rattle.pb_core_endpoint.proofs.Branches.{receives_in}
use Rattle.pb_core_endpoint.proofs.Kept.{Receives_first, first_label}
use Rattle.pb_core_endpoint.proofs.Keep.{First_in, Received, first_live}
use Rattle.pb_core_road.specs.Roads.{here, chooses}
use Rattle.pb_local.specs.declared.stmt.Test.{Test}
use Rattle.pb_local.specs.declared.stmt.Relay.{Relay}
use Rattle.pb_local.specs.Ranks.{Seat}
use Rattle.pb_local.specs.Tree as L
use Rattle.pb_local.specs.Tree.{Codes, more, size_all, Parts, Program}
use Rattle.pb_local.specs.Machine.{Todo, do_next, silent, pushed, move_from}
use Rattle.pb_shape.specs.Places.{Here, scope_of, inside, is_end, peer_of}
use Rattle.pb_shape.specs.Guards.{One, alone, Names}
use Rattle.pb_shape.specs.Loops.{Around, takers}
use Rattle.pb_shape.specs.Choices.{told_by, Tests, Relays}
use Rattle.pb_shape.specs.Shape.{Shape, Shapes}
use Rattle.pb_shape.specs.Straight.{IsVariable, at_todo, IsOpenTo}
use Rattle.pb_shape.specs.Tabled.{count}
use Rattle.pb_shape_follow.proofs.Stacks.{all, me_rank, held, flat, Sits}
use Rattle.pb_shape_follow.proofs.Steps.{variable_fits}
use Rattle.pb_shape_follow.proofs.Pieces.{Left, one_leaves}
use Rattle.pb_shape_follow.proofs.Branches.{tree_at, part_at, size_at, branch_is}
use Rattle.pb_shape_follow.proofs.Walks.{sits_behind_choice}
use Rattle.pb_shape_reached.specs.Reached.{AreReached, PartsAreReached}
use Rattle.pb_shape_reached.proofs.Leads.{Leads, leads_on}
use Rattle.pb_shape_reached.proofs.Standing.{Present, Spot, Stood, go_on, go_told, spot_reached, spot_silent}
use Rattle.pb_shape_reached.proofs.Texts.{after_one, one_counts, text_number, branch_number, choose_leads, ask_leads, told_is, teller}
use Rattle.pb_shape_reached.proofs.Passing.{StmtBy, choice_by, parts_by, Known, InBranch, in_branch, sits_in, is_chooser, is_told_of}
use Rattle.pb_shape_reached.proofs.Finding.{Inside}
use Rattle.pb_shape_reached.proofs.Blocks.{Arrived, Come, Opened, outer_open, is_taker, behind}

pub flat_count : (roles : List CoreRole) (n : ℤ) (opens : List ℕ) (bs : BranchTrees) → F.count (flat_branches roles n opens (pos 0) bs) ≡ count bs
flat_count roles n opens T.no_branch = refl
flat_count roles n opens (T.branch m b bs) = omega (arith, flat_count roles n opens bs)

module _ (p : Protocol) (l : Program) (present : (n : ℤ) (me : Seat) → IsIn p.range n → total p.roles n ≤ 2000000000 → is_rank p.roles n me.role me.index ≡ true → Present p l n me) where
  module _ (h : Here) (a : Around) (m : Mark) (kern : ℕ) (from : CoreEnd) (bs : BranchTrees) (rest : BlockTree) (who : Guard) (relays : List Relay) (tests : List Test) (parts : Parts) (tail codes : Codes) where
    abbrev tree : StmtTree
    tree = T.choice kern from bs

    abbrev text : L.Code
    text = L.choice who kern relays (peer_of from) tests parts

    abbrev taken : Here
    taken = inside h (takers (scope_of p) a m tree)

    -- what the shape says of the choice
    pub record Shaped : Type 0 where
      pub one : One (scope_of p) h (takers (scope_of p) a m tree) (told_by relays text) tail codes
      pub names : Names (scope_of p) h (who ∷ []) (is_end from)
      pub tested : Tests (scope_of p) h a bs tests
      pub relayed : Relays (scope_of p) a from bs relays
      pub shapes : Shapes (scope_of p) taken a bs parts
      pub shape : Shape (scope_of p) h a rest tail

    module _ (x : Shaped) (k : ℕ) (come : Come p l present h a (T.more m tree rest) codes k) where
      abbrev Before : (n : ℤ) (me : Seat) → Present p l n me → Type 0
      Before n me pres = Arrived p l present n me pres h a (T.more m tree rest) codes k

      known : (n : ℤ) (me : Seat) (pres : Present p l n me) → Before n me pres → Known p l n me pres.given h a m kern from bs rest who relays tests parts tail codes
      known n me pres y =
          let left = one_leaves l y.sits.made.at x.one y.sits.made.made in
          record { one = x.one; names = x.names; tested = x.tested; relayed = x.relayed; shapes = x.shapes; shape = x.shape; sits = y.sits; behind = sits_behind_choice p l n me pres.given y.sits left }

      pub come_behind : (is_nothing rest ≡ false → some_can_end bs ≡ true) → Come p l present h a rest tail (after_one x.one k)
      come_behind ends some n me pres op =
          let y = come refl n me pres op in
          let left = one_leaves l y.sits.made.at x.one y.sits.made.made in
          behind p l present y (choice_by p l n me pres.given h a m kern from bs rest who relays tests parts tail codes (known n me pres y) _ _ refl refl (parts_by p l n me pres.given x.shapes) (ends some) y.small k y.j y.todo y.near)
          (sits_behind_choice p l n me pres.given y.sits left) left.fewer (after_one x.one k) (one_counts k x.one)

      -- into a branch
      module _ (y : ℕ) (lt : y < count bs) (n : ℤ) (me : Seat) (pres : Present p l n me) (z : Before n me pres) (taker : takers (scope_of p) a m tree n (pos 0) me.role me.index ≡ true) where
        abbrev r : ℕ
        r = me_rank p l n me

        abbrev flats : Branches
        flats = flat_branches p.roles n a.opens (pos 0) bs

        abbrev chooser : ℕ
        chooser = rank_of p.roles n from (pos 0)

        abbrev below : List Frame
        below = record { opener = z.opener; rest = flat p l n me a rest } ∷ z.frames

        abbrev into : List Frame
        into = record { opener = Chosen chooser flats; rest = branch_at y flats } ∷ below

        abbrev Inner : Type 0
        Inner = InBranch p l n me pres.given h a m kern from bs rest who relays tests parts tail codes (known n me pres z) k z.j z.todo

        there : y < F.count flats
        there = subst (λ c. y < c) (sym (flat_count p.roles n a.opens bs)) lt

        abbrev t : Todo
        t = pushed (after_one x.one k) tail z.todo

        in_it : (chooser == r) || takes_part_among (held p l n me a) r flats ≡ true
        in_it = sym (or-false ((chooser == r) || takes_part_among (held p l n me a) r flats)) ∙ taker

        stands_in : (b : Inner) (u v : Bool) → (chooser == r) ≡ u → takes_part_among (held p l n me a) r flats ≡ v → Stood p l n me pres into (at_todo me b.j (pushed (branch_number (suc b.number) y parts) (part_at y parts) t))
        unfolding known
        stands_in b true v e f =
            let same : chooser ≡ r = eqb-true _ _ e in
            let one : of_rank r ((chooser, Choose kern (F.count flats) y) ∷ []) ≡ Choose kern (F.count flats) y ∷ [] = subst (λ q. of_rank q ((chooser, Choose kern (F.count flats) y) ∷ []) ≡ Choose kern (F.count flats) y ∷ []) same (internal_self chooser (Choose kern (F.count flats) y)) in
            go_on p l n me pres z.stood (chooses y there here)
            (λ s. subst (λ q. Leads l n me (at_todo me z.j (pushed k codes z.todo)) (q ++ s) (at_todo me b.j (pushed (branch_number (suc b.number) y parts) (part_at y parts) t)) s) (sym one)
            (leads_on l n me (b.leads (Choose kern (F.count flats) y ∷ s)) (choose_leads p l n me pres.given h a m kern from bs rest who relays tests parts tail codes b.there b.j b.near e b.number y t s)))
        stands_in b false false e f = absurd (let no' = sym (ap (λ q. q || takes_part_among (held p l n me a) r flats) e ∙ f) ∙ in_it in cc)
        stands_in b false true e f =
            let none : of_rank r ((chooser, Choose kern (F.count flats) y) ∷ []) ≡ [] = internal_other chooser r (Choose kern (F.count flats) y) (eqb-false _ _ e) in
            let source = teller p l n me pres.given h a m kern from bs rest who relays tests parts tail codes in
            let test : ℕ → Bool = λ lab. is_among lab (labels_of (firsts (held p l n me a) r (branch_at y flats))) in
            let told = told_is p l n me pres.given h a m kern from bs rest who relays tests parts tail codes b.there e f in
            let lives : (chooser == r) || takes_part_among (at_rank r (env_over z.opener (env_of z.frames))) r flats ≡ true = ap (λ bits. (chooser == r) || takes_part_among bits r flats) z.env ∙ in_it in
            let first : First_in r source test into =
            first_live r source test (record { opener = Chosen chooser flats; rest = branch_at y flats }) below lives
            (record {
              first = subst (λ bits. Receives_first bits r source (branch_at y flats)) (sym z.env) (receives_in (held p l n me a) r source flats y there told.receives);
              labels = λ lab q. told.labels y lab (subst (λ bits. first_label bits r (branch_at y flats) lab ≡ true) z.env q);
            }) in
            go_told p l n me pres source test z.stood (chooses y there here) first
            (λ s got. subst (λ q. Leads l n me (at_todo me z.j (pushed k codes z.todo)) (q ++ s) (at_todo me b.j (pushed (branch_number (suc b.number) y parts) (part_at y parts) t)) s) (sym none)
            (leads_on l n me (b.leads s)
            (subst (λ q. Leads l n me (at_todo me b.j (do_next b.number text t)) q (at_todo me b.j (pushed (branch_number (suc b.number) y parts) (part_at y parts) t)) q) (sym got.is)
            (ask_leads p l n me pres.given h a m kern from bs rest who relays tests parts tail codes b.there b.j b.near b.found e f b.number y t got.label got.words got.rest got.told))))

        arrives : Arrived p l present n me pres taken a (tree_at y bs) (part_at y parts) (branch_number (suc (text_number relays (suc k))) y parts)
        unfolding known
        arrives =
            let b = in_branch p l n me pres.given h a m kern from bs rest who relays tests parts tail codes (known n me pres z) taker k z.j z.todo z.near in
            subst (λ q. Arrived p l present n me pres taken a (tree_at y bs) (part_at y parts) (branch_number (suc q) y parts)) b.number_is (record {
              opener = Chosen chooser flats;
              frames = below;
              lives = ap (λ bits. (chooser == r) || takes_part_among bits r flats) z.env ∙ in_it;
              env = z.env;
              j = b.j;
              near = b.near;
              todo = t;
              sits = sits_in p l n me pres.given h a m kern from bs rest who relays tests parts tail codes (known n me pres z) k z.j z.todo b y;
              small = (let q = b.small in let u = size_at y parts in let v = z.small in omega arith);
              stood = subst (λ q. Stood p l n me pres (record { opener = Chosen chooser flats; rest = q } ∷ below) (at_todo me b.j (pushed (branch_number (suc b.number) y parts) (part_at y parts) t))) (branch_is p.roles n a.opens bs y) (stands_in b _ _ refl refl);
            })

      pub come_branch : (y : ℕ) → y < count bs → Come p l present taken a (tree_at y bs) (part_at y parts) (branch_number (suc (text_number relays (suc k))) y parts)
      come_branch y lt some n me pres op = arrives y lt n me pres (come refl n me pres (outer_open p l present a m tree n me op)) (is_taker p l present h a m tree n me op)

      -- the statements inside of its If
      pub inside_choice : PartsAreReached p l (suc (text_number relays (suc k))) parts → Inside p l (Opened p l present h) h (takers (scope_of p) a m tree) (suc k) (told_by relays text) (λ n me j. [])
      inside_choice reached n i j me pres todo link comes is made spot = by relays reached spot
        where
          by : (rs : List Relay) → PartsAreReached p l (suc (text_number rs (suc k))) parts → Spot p l n me pres (at_todo me j (pushed (suc k) (told_by rs (L.choice who kern relays (peer_of from) tests parts)) todo)) [] →
              AreReached p l (suc k) (told_by rs (L.choice who kern relays (peer_of from) tests parts))
          by [] reached spot = ((spot_reached p l n me pres (suc k) refl spot, reached), tt)
          by (q ∷ rs) reached spot =
              let code = L.choice who kern relays (peer_of from) tests parts in
              let e : me.index +ℤ pos 0 ≡ me.index = omega (arith, ints) in
              let near : IsVariable (me.index +ℤ pos 0) = subst IsVariable (sym e) pres.given.index in
              let first = at_todo me j (pushed (suc k) (told_by (q ∷ rs) code) todo) in
              let next' = at_todo me (me.index +ℤ pos 0) (do_next (suc k + 1) code todo) in
              let goes : move_from l n first (pushed (suc k) (told_by (q ∷ rs) code) todo) ≡ silent next' = rw (variable_fits (me.index +ℤ pos 0) near) refl in
              (spot_reached p l n me pres (suc k) refl spot, ((spot_reached p l n me pres (suc k + 1) refl (spot_silent p l n me pres next' goes spot), reached), tt))
