-- How the machine of a rank comes over an If, to a choice, and into a branch.
use Rattle.std.proofs.Common.{◌≡◌, ◌≤◌, ◌<◌, ℕ, zero, suc, ◌+◌, ◌==◌, ℤ, pos, ◌+ℤ◌, Bool, true, false, unwrap_or, List, [], ◌∷◌, ◌++◌, Option, Some, None, refl, sym, ap, ◌∙◌, subst, lt-ltb, arith}
use Rattle.std.proofs.lemmas.Int.{ints}
use Rattle.std.proofs.lemmas.Bool.{both_ways}
use Rattle.pb_affine.specs.declared.guard.Guard.{Guard}
use Rattle.pb_affine.specs.Values.{value, count_of}
use Rattle.pb_world.specs.Actions.{Action, Choose, Recv, Chooses, kind_of}
use Rattle.pb_world.specs.Machine.{Silent, Does, Probe}
use Rattle.pb_core_language.specs.declared.tree.CoreEnd.{CoreEnd}
use Rattle.pb_core_language.specs.Ranks.{total, seats}
use Rattle.pb_core_language.specs.Tree as T
use Rattle.pb_core_language.specs.Tree.{Mark, BlockTree, BranchTrees}
use Rattle.pb_core_language.specs.Plain.{Protocol}
use Rattle.pb_core_language.specs.Flat.{Branches, takes_part_among, count}
use Rattle.pb_core_language.specs.FlatOf.{flat_branches, rank_of}
use Rattle.pb_core_language.specs.Outcomes.{firsts_among, source_of}
use Rattle.pb_core_flat.specs.Seated.{rank, is_rank}
use Rattle.pb_core_flat.proofs.Seats.{seat_of_rank, is_below}
use Rattle.pb_core_endpoint.proofs.Kept.{IsTold}
use Rattle.pb_local.specs.declared.stmt.Test.{Test}
use Rattle.pb_local.specs.declared.stmt.Relay.{Relay}
use Rattle.pb_local.specs.Ranks.{Seat}
use Rattle.pb_local.specs.Tree as L
use Rattle.pb_local.specs.Tree.{Code, Codes, nothing, more, size, size_all, Parts, no_part, part, Program}
use Rattle.pb_local.specs.Computed as N
use Rattle.pb_local.specs.Computed.{is_for_some, peer_number, branch_for}
use Rattle.pb_local.specs.WellMade as W
use Rattle.pb_local.specs.WellMade.{AreMade, count_parts}
use Rattle.pb_local.specs.Machine as X
use Rattle.pb_local.specs.Machine.{Todo, Rank, do_next, pushed, entered, silent, move, move_from, next_in, quiet_in, act_in, read_in, machine}
use Rattle.pb_local.proofs.Moves.{move_is}
use Rattle.pb_shape.specs.Shape as S
use Rattle.pb_shape.specs.Places.{Scope, Here, Who, peer_of, scope_of}
use Rattle.pb_shape.specs.Guards.{One, there, gone, alone}
use Rattle.pb_shape.specs.Loops.{Around}
use Rattle.pb_shape.specs.Choices.{told_by, is_told, guards_of}
use Rattle.pb_shape.specs.Shape.{Shapes}
use Rattle.pb_shape.specs.Straight.{IsVariable, at_todo, IsOpenTo}
use Rattle.pb_shape_follow.proofs.Stacks.{me_rank, held}
use Rattle.pb_shape_follow.proofs.Steps.{Given, IsFound, plainly, by_index, variable_fits}
use Rattle.pb_shape_follow.proofs.Branches.{tree_at, part_at, one_branch, told_by_one}
use Rattle.pb_shape_follow.proofs.Choices.{IsThere, text_made, chooses_is, source_at, asks_is}
use Rattle.pb_shape_follow.proofs.Tells.{tested_is, relays_fit, source_made}
use Rattle.pb_shape_reached.proofs.Leads.{Leads, stays, by_silent, by_act, by_probe}

-- ---- numbers

-- of what follows an If, if it is there
abbrev pub after_one : {sc : Scope} {h : Here} {who : Who} {first tail codes : Codes} → One sc h who first tail codes → ℕ → ℕ
after_one {first = first} (there {gs = gs} names some) k = k + size (L.when gs first nothing)
after_one (gone nobody) k = k

pub one_counts : {sc : Scope} {h : Here} {who : Who} {first tail codes : Codes} (k : ℕ) (one : One sc h who first tail codes) → after_one one k + size_all tail ≡ k + size_all codes
one_counts k (there {gs = gs} names some) = omega arith
one_counts k (gone nobody) = refl

-- of a choice, behind its Own
abbrev pub text_number : List Relay → ℕ → ℕ
text_number [] k = k
text_number (r ∷ rs) k = k + 1

-- of the first statement of a branch
abbrev pub branch_number : ℕ → ℕ → Parts → ℕ
branch_number k y no_part = k
branch_number k zero (part a rest) = k
branch_number k (suc y) (part a rest) = branch_number (k + size_all a) y rest

pub entered_at : (k y : ℕ) (parts : Parts) (t : Todo) → entered k y parts t ≡ pushed (branch_number k y parts) (part_at y parts) t
entered_at k y no_part t = refl
entered_at k zero (part a rest) t = refl
entered_at k (suc y) (part a rest) t = entered_at (k + size_all a) y rest t

module _ (p : Protocol) (l : Program) (n : ℤ) (me : Seat) (g : Given p l n me) where
  abbrev pub at : ℤ → Todo → Rank
  at = at_todo me

  pub silent_leads : (x y : Rank) (u : List Action) → move_from l n x x.todo ≡ silent y → Leads l n me x u y u
  silent_leads x y u e =
      let e' : move l n x ≡ silent y = move_is l n x ∙ e in
      by_silent (ap next_in e') (subst (λ z. Leads l n me z u y u) (sym (ap (quiet_in x) e')) stays)

  -- ---- an If

  pub one_skipped : {h : Here} {who : Who} {first tail codes : Codes} (k : ℕ) (i : ℤ) (t : Todo) (s : W.Scope) (one : One (scope_of p) h who first tail codes) → IsOpenTo h n me → AreMade l s codes →
      who n i me.role me.index ≡ false → IsVariable i → (u : List Action) → Leads l n me (at i (pushed k codes t)) u (at i (pushed (after_one one k) tail t)) u
  one_skipped k i t s (gone nobody) open' made no' near u = stays
  one_skipped {first = first} {tail = tail} k i t s (there {gs = gs} names some) open' made no' near u =
      let fit = g.guards i near gs made.0.0 in
      let held = names n i me.role me.index g.seated.within g.seated.is (open'.at i) ∙ no' in
      silent_leads (at i (pushed k (more (L.when gs first nothing) tail) t)) (at i (pushed (k + size (L.when gs first nothing)) tail t)) u (rw (fit, held) refl)

  pub record Entered (k : ℕ) (i : ℤ) (t : Todo) (s : W.Scope) (first tail codes : Codes) (behind : ℕ) : Type 0 where
    pub made : AreMade l s first
    pub small : suc (size_all first + size_all tail) ≤ size_all codes
    pub leads : (u : List Action) → Leads l n me (at i (pushed k codes t)) u (at i (pushed (suc k) first (pushed behind tail t))) u

  pub one_entered : {h : Here} {who : Who} {first tail codes : Codes} (k : ℕ) (i : ℤ) (t : Todo) (s : W.Scope) (one : One (scope_of p) h who first tail codes) → IsOpenTo h n me → AreMade l s codes →
      who n i me.role me.index ≡ true → IsVariable i → Entered k i t s first tail codes (after_one one k)
  one_entered k i t s (gone nobody) open' made yes' near = absurd (both_ways _ (nobody n i me.role me.index g.seated.within g.seated.is (open'.at i) (open'.comes i)) yes')
  one_entered {first = first} {tail = tail} k i t s (there {gs = gs} names some) open' made yes' near =
      let fit = g.guards i near gs made.0.0 in
      let held = names n i me.role me.index g.seated.within g.seated.is (open'.at i) ∙ yes' in
      record {
        made = made.0.1;
        small = omega arith;
        leads = λ u. silent_leads (at i (pushed k (more (L.when gs first nothing) tail) t)) (at i (pushed (suc k) first (pushed (k + size (L.when gs first nothing)) tail t))) u (rw (fit, held) refl);
      }

  -- ---- the Own before a choice with relays

  pub record AtText (k : ℕ) (i : ℤ) (t : Todo) (relays : List Relay) (code : Code) : Type 0 where
    pub j : ℤ
    pub near : IsVariable j
    pub found : IsFound p l n me g j relays
    pub leads : (u : List Action) → Leads l n me (at i (pushed k (told_by relays code) t)) u (at j (do_next (text_number relays k) code t)) u

  pub to_text : (k : ℕ) (i : ℤ) (t : Todo) (relays : List Relay) (code : Code) → IsVariable i → AtText k i t relays code
  to_text k i t [] code near = record { j = i; near = near; found = plainly; leads = λ u. stays }
  to_text k i t (r ∷ rs) code near =
      let e : me.index +ℤ pos 0 ≡ me.index = omega (arith, ints) in
      let near' = subst IsVariable (sym e) g.index in
      record {
        j = me.index +ℤ pos 0;
        near = near';
        found = by_index e;
        leads = λ u. silent_leads (at i (pushed k (told_by (r ∷ rs) code) t)) (at (me.index +ℤ pos 0) (do_next (k + 1) code t)) u (own_fits near');
      }
    where
      own_fits : IsVariable (me.index +ℤ pos 0) → move_from l n (at i (pushed k (told_by (r ∷ rs) code) t)) (pushed k (told_by (r ∷ rs) code) t) ≡ silent (at (me.index +ℤ pos 0) (do_next (k + 1) code t))
      own_fits h = rw (variable_fits (me.index +ℤ pos 0) h) refl

  -- ---- into a branch

  count_is : {sc : Scope} {h : Here} {a : Around} (opens : List ℕ) (bs : BranchTrees) (parts : Parts) → Shapes sc h a bs parts → count (flat_branches p.roles n opens (pos 0) bs) ≡ count_parts parts
  count_is opens T.no_branch no_part S.no_shape = refl
  count_is opens T.no_branch (part a parts) h = elim h [ ]
  count_is opens (T.branch m b bs) no_part h = elim h [ ]
  count_is opens (T.branch m b bs) (part a parts) (S.branch s ss) = ap suc (count_is opens bs parts ss)

  module _ (h : Here) (a : Around) (m : Mark) (kern : ℕ) (from : CoreEnd) (bs : BranchTrees) (rest : BlockTree) (who : Guard) (relays : List Relay) (tests : List Test) (parts : Parts) (tail codes : Codes) where
    abbrev text : Code
    text = L.choice who kern relays (peer_of from) tests parts

    abbrev flats : Branches
    flats = flat_branches p.roles n a.opens (pos 0) bs

    abbrev pub Chosen_here : Type 0
    Chosen_here = IsThere p l n me g h a m kern from bs rest who relays tests parts tail codes

    abbrev pub in_branch : ℕ → ℕ → ℤ → Todo → Rank
    in_branch k y j t = at j (pushed (branch_number (suc k) y parts) (part_at y parts) t)

    -- the chooser
    pub choose_leads : Chosen_here → (j : ℤ) → IsVariable j → (rank_of p.roles n from (pos 0) == me_rank p l n me) ≡ true → (k y : ℕ) (t : Todo) (u : List Action) →
        Leads l n me (at j (do_next k text t)) (Choose kern (count flats) y ∷ u) (in_branch k y j t) u
    choose_leads x j near mine k y t u =
        let z = at j (do_next k text t) in
        let made = text_made p l n me g h a m kern from bs rest who relays tests parts tail codes x.sits.made.at relays x.made in
        let to : ℕ → Rank = λ b. at j (entered (suc k) b parts t) in
        let m' : move l n z ≡ X.chooses kern (count_parts parts) to = move_is l n z ∙ rw (g.guard j near who made.choice.guard, chooses_is p l n me g h a m kern from bs rest who relays tests parts tail codes x j ∙ mine) refl in
        by_act (ap next_in m' ∙ ap (λ q. Does (Chooses kern q)) (sym (count_is a.opens bs parts x.shapes)))
        (subst (λ v. Leads l n me v u (in_branch k y j t) u) (sym (ap (λ q. act_in z q (Choose kern (count flats) y)) m' ∙ ap (at j) (entered_at (suc k) y parts t))) stays)

    -- from whom a rank that is told learns the branch
    abbrev pub teller : ℕ
    teller = source_of (firsts_among (held p l n me a) (me_rank p l n me) flats)

    pub told_is : Chosen_here → (rank_of p.roles n from (pos 0) == me_rank p l n me) ≡ false → takes_part_among (held p l n me a) (me_rank p l n me) flats ≡ true → IsTold (held p l n me a) (me_rank p l n me) flats
    told_is x other among =
        let r = me_rank p l n me in
        let within : r < total p.roles n = (seat_of_rank p.roles n (record { role = me.role; index = me.index }) g.seated.is).0 in
        subst (λ b. IsTold b r flats) x.sits.around.same (x.sits.keeps.2 r within other (subst (λ b. takes_part_among b r flats ≡ true) (sym x.sits.around.same) among))

    -- a rank that is told
    pub ask_leads : Chosen_here → (j : ℤ) → IsVariable j → IsFound p l n me g j relays → (rank_of p.roles n from (pos 0) == me_rank p l n me) ≡ false → takes_part_among (held p l n me a) (me_rank p l n me) flats ≡ true →
        (k y : ℕ) (t : Todo) (label : ℕ) (words : List ℕ) (u : List Action) → is_told (scope_of p) a bs y label n (pos 0) me.role me.index ≡ true →
        Leads l n me (at j (do_next k text t)) (Recv teller label words ∷ u) (in_branch k y j t) (Recv teller label words ∷ u)
    ask_leads x j near found other among k y t label words u told_y =
        let r = me_rank p l n me in
        let bits = held p l n me a in
        let env = x.sits.around.env in
        let z = at j (do_next k text t) in
        let made = text_made p l n me g h a m kern from bs rest who relays tests parts tail codes x.sits.made.at relays x.made in
        let is_told' = told_is x other among in
        let first = told_by_one bits r teller (total p.roles n) env flats x.sits.keeps.1 x.sits.keeps.3 is_told'.receives in
        let told0 : is_told (scope_of p) a bs 0 first.label n (pos 0) me.role me.index ≡ true = is_told'.labels 0 first.label first.told in
        let source = N.source_of n me j relays (peer_of from) in
        let source_is = source_at p l n me g h a m kern from bs rest who relays tests parts tail codes x j first.label other told0 found in
        let seated : is_rank p.roles n source.role (value source.at n j) ≡ true = is_below (seats p.roles n) (record { role = source.role; index = value source.at n j }) ∙ lt-ltb _ _ (subst (λ q. q < total p.roles n) (sym source_is) first.source) in
        let fits = g.peer j near source (source_made l n me j (g.guards j near) relays (peer_of from) made.choice.each_relay made.choice.source) seated in
        let tested : (b lab : ℕ) → is_for_some n me j (guards_of b lab tests) ≡ is_told (scope_of p) a bs b lab n (pos 0) me.role me.index = λ b lab. x.tested b lab n j me.role me.index g.seated.within g.seated.is (x.sits.here.at j) in
        let to : ℕ → Option Rank = λ lab. X.told z (suc k) parts t (branch_for n me j tests lab) in
        let m' : move l n z ≡ X.probes (count_of (peer_number n me j l source)) to =
        move_is l n z ∙ rw (g.guard j near who made.choice.guard, chooses_is p l n me g h a m kern from bs rest who relays tests parts tail codes x j ∙ other)
        (asks_is p l n me g h a m kern from bs rest who relays tests parts tail codes z tests 0 first.label (suc k) t (tested 0 first.label ∙ told0) ∙ rw (relays_fit l n me j (g.guards j near) relays made.choice.each_relay, fits.0) refl) in
        let one : (b : ℕ) → is_for_some n me j (guards_of b label tests) ≡ true → b ≡ y = λ b e. one_branch bits r flats b y label is_told'.apart (sym (tested b label) ∙ e) told_y in
        let found_test : branch_for n me j tests label ≡ Some y = tested_is l n me j (g.guards j near) (count_parts parts) y label tests made.choice.each_test one (tested y label ∙ told_y) in
        by_probe (ap next_in m' ∙ ap (λ q. Probe q) (fits.1 ∙ source_is))
        (ap (λ q. read_in q label) m' ∙ ap (X.told z (suc k) parts t) found_test ∙ ap (λ q. Some (at j q)) (entered_at (suc k) y parts t)) stays
