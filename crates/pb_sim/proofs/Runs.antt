-- Runs of simulations: they begin, go on by one event, and stay where nothing has changed.
use Rattle.std.proofs.Common.{◌≡◌, ◌<◌, ◌≤◌, ◌⊎◌, inl, inr, ℕ, ℤ, zero, suc, ◌+◌, Bool, true, false, nat_eq, if◌then◌else◌, List, [], ◌∷◌, ◌++◌, map, length, take, get_or, refl, ap, sym, ◌∙◌, subst, arith, length-append}
use Rattle.std.specs.Bool.{IsTrue}
use Rattle.std.specs.List.{sum}
use Rattle.std.proofs.lemmas.List.{map-append, take-append-le, take_all}
use Rattle.std.proofs.lemmas.List.Sums.{sum_by-append}
use Rattle.std.proofs.lemmas.List.Elements.{filter_map-append}
use Rattle.std.proofs.lemmas.Bool.{cases_lt, eq-eqb}
use Rattle.pb_world.specs.Actions.{Action, done_by, of_rank}
use Rattle.pb_world.specs.Counted.{Counted}
use Rattle.pb_world.specs.Family.{Family}
use Rattle.pb_world.specs.World as W
use Rattle.pb_chan.specs.Lists.{words_in}
use Rattle.pb_local.specs.Machine as M
use Rattle.pb_local.specs.Family.{Sequence, family}
use Rattle.pb_ctree.specs.declared.tree.CTree.{CTree}
use Rattle.pb_sim_world.specs.declared.stand.Stand.{Stand}
use Rattle.pb_sim_world.specs.declared.state.State.{State}
use Rattle.pb_sim_world.specs.Flight.{puts, gets}
use Rattle.pb_sim_world.specs.Starts.{IsStart}
use Rattle.pb_sim_world.specs.States.{program, total_of, fresh, stand}
use Rattle.pb_sim_world.specs.Worlds.{world_of}
use Rattle.pb_sim.specs.declared.outcomes.StepDone.{StepDone}
use Rattle.pb_sim.specs.declared.seen.Seen.{Seen}
use Rattle.pb_sim.specs.Done.{AreAnswered}
use Rattle.pb_sim.specs.Flight.{sent_in, received_in, in_flight, KeepsLimit, SendsTooMuch}
use Rattle.pb_sim.specs.Scheduled.{Turn, words_asked, asked_by, ScheduledRun, start, event}
use Rattle.pb_sim.specs.Seen.{IsUnchanged}
use Rattle.pb_sim.specs.Made.{IsNumber, ranks_of, no_counts, IsBegun, IsMade, IsTooMuch}
use Rattle.pb_sim.specs.Runs.{IsRun, StaysRun}

-- a rank that makes an event is there
pub within : {S : Type 0} (F : Family S) (X : W.World S) (r : ℕ) (acts : List Action) (V : W.World S) → W.Step F X r acts V → r < F.total
within F X r acts V (W.silent free e) = free.within
within F X r acts V (W.probe free e c f) = free.within
within F X r acts V (W.internal free e i a) = free.within
within F X r acts V (W.send mode free e a) = free.within
within F X r acts V (W.receive free e t) = free.within
within F X r acts V (W.enter mode free e g a) = free.within
within F X r acts V (W.leave words free e h g) = free.within

-- an event is one action, or none
pub one_action : {S : Type 0} (F : Family S) (X : W.World S) (r : ℕ) (acts : List Action) (V : W.World S) → W.Step F X r acts V → (acts ≡ []) ⊎ ((a : Action) × (acts ≡ a ∷ []))
one_action F X r acts V (W.silent free e) = inl refl
one_action F X r acts V (W.probe free e c f) = inl refl
one_action F X r acts V (W.internal free e i a) = inr (_, refl)
one_action F X r acts V (W.send mode free e a) = inr (_, refl)
one_action F X r acts V (W.receive free e t) = inr (_, refl)
one_action F X r acts V (W.enter mode free e g a) = inr (_, refl)
one_action F X r acts V (W.leave words free e h g) = inr (_, refl)

few_actions : (r : ℕ) (acts : List Action) → (acts ≡ []) ⊎ ((a : Action) × (acts ≡ a ∷ [])) → length {A = ℕ × Action} (map (λ a. (r, a)) acts) ≤ 1
few_actions r acts (inl e) = subst (λ (l : List Action). length {A = ℕ × Action} (map (λ a. (r, a)) l) ≤ 1) (sym e) (omega arith)
few_actions r acts (inr (a, e)) = subst (λ (l : List Action). length {A = ℕ × Action} (map (λ a. (r, a)) l) ≤ 1) (sym e) (omega arith)

-- ---- the words in flight

own_words : (f : Action → ℕ) (r : ℕ) (acts : List Action) → map (λ (step : ℕ × Action). f step.1) (map (λ a. (r, a)) acts) ≡ map f acts
own_words f r [] = refl
own_words f r (a ∷ acts) = ap (λ (l : List ℕ). f a ∷ l) (own_words f r acts)

sum_more : (f : Action → ℕ) (r : ℕ) (w : List (ℕ × Action)) (acts : List Action) → sum (map (λ (step : ℕ × Action). f step.1) (w ++ map (λ a. (r, a)) acts)) ≡ sum (map (λ (step : ℕ × Action). f step.1) w) + sum (map f acts)
sum_more f r w acts =
    ap sum (map-append (λ (step : ℕ × Action). f step.1) w (map (λ a. (r, a)) acts))
    ∙ sum_by-append (λ k. k) (map (λ (step : ℕ × Action). f step.1) w) (map (λ (step : ℕ × Action). f step.1) (map (λ a. (r, a)) acts))
    ∙ ap (λ (l : List ℕ). sum (map (λ (step : ℕ × Action). f step.1) w) + sum l) (own_words f r acts)

keeps_none : KeepsLimit []
keeps_none zero = omega arith
keeps_none (suc k) = omega arith

-- one action more, behind which no more words are in flight than may be
keeps_on : (w more : List (ℕ × Action)) → KeepsLimit w → length more ≤ 1 → in_flight (w ++ more) ≤ 16777216 → KeepsLimit (w ++ more)
keeps_on w more kept single last k = by_case (cases_lt (length w) k) where
  by_case : (length w < k) ⊎ (k ≤ length w) → in_flight (take k (w ++ more)) ≤ 16777216
  by_case (inl lt) =
      let e = length-append w more in
      subst (λ (v : List (ℕ × Action)). in_flight v ≤ 16777216) (sym (take_all k (w ++ more) (omega (arith, lt, single, e)))) last
  by_case (inr le) = subst (λ (v : List (ℕ × Action)). in_flight v ≤ 16777216) (sym (take-append-le k w more le)) (kept k)

-- what would be too much beside the channels would be too much beside what was sent and not received
pub too_much : (w : List (ℕ × Action)) (x : Seen) (r : ℕ) → words_in x.state.channels + received_in w ≡ sent_in w → IsTooMuch x r → SendsTooMuch w x r
too_much w x r flight h = record { to = h.to; label = h.label; sends = h.sends; much = let e = flight in let m = h.much in omega (arith, e, m) }

-- a rank's part of another's actions, and of its own
own_part : (r : ℕ) (acts : List Action) → of_rank r (map (λ a. (r, a)) acts) ≡ acts
own_part r [] = refl
own_part r (a ∷ acts) = let b : nat_eq r r ≡ true = eq-eqb r r refl in rw b (ap (λ xs. a ∷ xs) (own_part r acts))

other_part : (q r : ℕ) (acts : List Action) → nat_eq r q ≡ false → of_rank q (map (λ a. (r, a)) acts) ≡ []
other_part q r [] b = refl
other_part q r (a ∷ acts) b = rw b (other_part q r acts b)

asked_more : (q : ℕ) (w v : List (ℕ × Action)) → asked_by q (w ++ v) ≡ asked_by q w + asked_by q v
asked_more q w v =
    ap (λ xs. sum (map words_asked xs)) (filter_map-append (done_by q) w v)
    ∙ ap sum (map-append words_asked (of_rank q w) (of_rank q v))
    ∙ sum_by-append (λ k. k) (map words_asked (of_rank q w)) (map words_asked (of_rank q v))

asked_then : (q r : ℕ) (w : List (ℕ × Action)) (acts : List Action) → asked_by q (w ++ map (λ a. (r, a)) acts) ≡ (if nat_eq q r then asked_by q w + sum (map words_asked acts) else asked_by q w)
asked_then q r w acts = asked_more q w (map (λ a. (r, a)) acts) ∙ by_case (nat_eq q r) refl where
  by_case : (b : Bool) → nat_eq q r ≡ b → asked_by q w + asked_by q (map (λ a. (r, a)) acts) ≡ (if b then asked_by q w + sum (map words_asked acts) else asked_by q w)
  by_case true e = ap (λ xs. asked_by q w + sum (map words_asked xs)) (ap (λ k. of_rank q (map (λ a. (k, a)) acts)) (sym (equal e)) ∙ own_part q acts) where
    equal : nat_eq q r ≡ true → q ≡ r
    equal e = grind (arith, e)
  by_case false e = let b : nat_eq r q ≡ false = grind (arith, e) in let z : asked_by q (map (λ a. (r, a)) acts) ≡ 0 = ap (λ xs. sum (map words_asked xs)) (other_part q r acts b) in omega (arith, z)

some_sequence : Sequence
some_sequence = record { run = λ A k. []; over = λ A k. true }

-- a simulation that begins at the start of all ranks
pub begun_by : (tree : CTree) (n : ℤ) (x : Seen) (s : State) → {total : ℕ} → IsStart tree n s → x.state ≡ s → IsNumber tree.local.range n → total ≡ ranks_of tree n → total ≤ 1024 → x.counts ≡ no_counts → x.steps ≡ 0 → IsBegun tree n x
begun_by tree n x s {total} at_start e number same few counts steps = record {
  tree_is = ap (λ (t : State). t.tree) e ∙ at_start.tree_is;
  n_is = ap (λ (t : State). t.n) e ∙ at_start.n_is;
  number = number;
  few = subst (λ (k : ℕ). k ≤ 1024) same few;
  world = λ sequence. subst (λ (t : State). world_of t ≡ W.beginning (family (program t) t.n sequence)) (sym e) (at_start.world sequence);
  asked = λ r lt. ap (λ (t : State). (stand t r).asked) e ∙ ap (λ (v : Stand). v.asked) (at_start.stands r);
  counts = counts;
  steps = steps;
  none = ap (λ (t : State). words_in t.channels) e ∙ at_start.none;
}

module _ (post : ℕ → ℕ → ℕ → Type 0) (may : ℕ → W.World (Counted M.Rank) → Turn → Type 0) where
  pub begins : (tree : CTree) (n : ℤ) (x : Seen) → IsBegun tree n x → IsRun post may [] [] x
  begins tree n x h = record {
    run = λ sequence. subst (λ (V : W.World (Counted M.Rank)). ScheduledRun (family (program x.state) x.state.n sequence) post may [] [] V) (sym (h.world sequence)) start;
    asked = λ r lt. h.asked r lt;
    steps = h.steps;
    flight = let none = h.none in omega (arith, none);
    within = keeps_none;
  }

  module _ (turns : List Turn) (w : List (ℕ × Action)) (x y : Seen) where
    -- one event more, which may be in this world
    pub goes_on : (turn : Turn) (done : StepDone) → IsRun post may turns w x → may (length turns) (world_of x.state) turn → (made : IsMade post x turn done y) → IsRun post may (turns ++ turn ∷ []) (w ++ map (λ a. (turn.0, a)) made.acts) y
    goes_on turn done run allowed made = record {
      run = in_family;
      asked = λ r lt. asked r (subst (λ (t : ℕ). r < t) same_total lt);
      steps = made.stepped.steps ∙ ap suc run.steps ∙ sym (length-append turns (turn ∷ []) ∙ one (length turns));
      flight = flight;
      within = keeps_on w (map (λ a. (turn.0, a)) made.acts) run.within single (let f = flight in let few = made.stepped.event.sound.words in omega (arith, f, few));
    } where
      flight : words_in y.state.channels + received_in (w ++ map (λ a. (turn.0, a)) made.acts) ≡ sent_in (w ++ map (λ a. (turn.0, a)) made.acts)
      flight =
          let e = made.stepped.event.flight in
          let f = run.flight in
          let g = sum_more puts turn.0 w made.acts in
          let h = sum_more gets turn.0 w made.acts in
          omega (arith, e, f, g, h)

      one : (k : ℕ) → k + 1 ≡ suc k
      one k = omega arith

      same_total : total_of y.state ≡ total_of x.state
      same_total = by x.state y.state made.stepped.event.tree made.stepped.event.n where
        by : (s t : State) → t.tree ≡ s.tree → t.n ≡ s.n → total_of t ≡ total_of s
        by s t e f = cc

      single : length {A = ℕ × Action} (map (λ a. (turn.0, a)) made.acts) ≤ 1
      single = few_actions turn.0 made.acts (one_action (family (program x.state) x.state.n some_sequence) (world_of x.state) turn.0 made.acts (world_of y.state) (made.stepped.event.step some_sequence))

      here : turn.0 < total_of x.state
      here = within (family (program x.state) x.state.n some_sequence) (world_of x.state) turn.0 made.acts (world_of y.state) (made.stepped.event.step some_sequence)

      words : AreAnswered post turn.0 (asked_by turn.0 w) made.acts
      words = subst (λ (k : ℕ). AreAnswered post turn.0 k made.acts) (run.asked turn.0 here) made.answered

      same_family : (sequence : Sequence) → family (program x.state) x.state.n sequence ≡ family (program y.state) y.state.n sequence
      same_family sequence = by x.state y.state made.stepped.event.tree made.stepped.event.n where
        by : (s t : State) → t.tree ≡ s.tree → t.n ≡ s.n → family (program s) s.n sequence ≡ family (program t) t.n sequence
        by s t e f = cc

      in_family : (sequence : Sequence) → ScheduledRun (family (program y.state) y.state.n sequence) post may (turns ++ turn ∷ []) (w ++ map (λ a. (turn.0, a)) made.acts) (world_of y.state)
      in_family sequence =
          subst (λ (F : Family (Counted M.Rank)). ScheduledRun F post may (turns ++ turn ∷ []) (w ++ map (λ a. (turn.0, a)) made.acts) (world_of y.state)) (same_family sequence)
          (event (run.run sequence) allowed (record { step = made.stepped.event.step sequence; mode = made.mode; words = words }))

      asked : (r : ℕ) → r < total_of x.state → (stand y.state r).asked ≡ asked_by r (w ++ map (λ a. (turn.0, a)) made.acts)
      asked r lt =
          made.stepped.asked r ∙ ap (λ (k : ℕ). if nat_eq r turn.0 then k + sum (map words_asked made.acts) else k) (run.asked r lt)
          ∙ sym (asked_then r turn.0 w made.acts)

    pub stays : IsRun post may turns w x → IsUnchanged x y → IsRun post may turns w y
    stays run same = record {
      run = λ sequence. subst (λ (V : W.World (Counted M.Rank)). ScheduledRun (family (program y.state) y.state.n sequence) post may turns w V) (sym same.state.world)
          (subst (λ (F : Family (Counted M.Rank)). ScheduledRun F post may turns w (world_of x.state)) (same_family sequence) (run.run sequence));
      asked = λ r lt. ap (λ v. (get_or v.items r fresh).asked) same.state.stands ∙ run.asked r (subst (λ (t : ℕ). r < t) same_total lt);
      steps = same.steps ∙ run.steps;
      flight = ap (λ (k : ℕ). k + received_in w) same.state.words ∙ run.flight;
      within = run.within;
    } where
      same_total : total_of y.state ≡ total_of x.state
      same_total = by x.state y.state same.state.tree same.state.n where
        by : (s t : State) → t.tree ≡ s.tree → t.n ≡ s.n → total_of t ≡ total_of s
        by s t e f = cc

      same_family : (sequence : Sequence) → family (program x.state) x.state.n sequence ≡ family (program y.state) y.state.n sequence
      same_family sequence = by x.state y.state same.state.tree same.state.n where
        by : (s t : State) → t.tree ≡ s.tree → t.n ≡ s.n → family (program s) s.n sequence ≡ family (program t) t.n sequence
        by s t e f = cc

-- whatever turns may be, by a test
pub stays_so : (post : ℕ → ℕ → ℕ → Type 0) (x y : Seen) → IsUnchanged x y → StaysRun post x y
stays_so post x y same = λ may turns w run. stays post (λ t X next. IsTrue (may t X next)) turns w x y run same
