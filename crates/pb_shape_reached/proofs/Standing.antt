-- A rank's text beside the run: where the run stands, and where the rank's machine comes on its part of what was done.
use Rattle.std.proofs.Common.{◌≡◌, ◌≤◌, ◌<◌, ℕ, ℤ, pos, Bool, true, false, List, [], ◌∷◌, ◌++◌, map, Some, refl, sym, ap, ◌∙◌, subst, inl, inr, append_assoc, append-nil}
use Rattle.pb_world.specs.Actions.{Action, Kind, Recv, kind_of, of_rank, AnswerTable}
use Rattle.pb_world.specs.Counted.{Counted}
use Rattle.pb_world.specs.Machine.{Silent, Does, Follows}
use Rattle.pb_world.proofs.Lists.{of_append}
use Rattle.pb_core_language.specs.Collectives.{setting_of}
use Rattle.pb_core_language.specs.Flat.{Block}
use Rattle.pb_core_language.specs.Plain.{Protocol}
use Rattle.pb_core_language.specs.Ranks.{total}
use Rattle.pb_core_language.specs.Rules.{flat_at}
use Rattle.pb_core_language.specs.Run.{Setting, Opener, Top, Frame, at_rank, env_over, env_of, live}
use Rattle.pb_core_language.specs.Verdict.{IsIn}
use Rattle.pb_core_endpoint.proofs.Keep.{First_in, Received, first_told}
use Rattle.pb_core_endpoint.proofs.Kept.{Obeys}
use Rattle.pb_core_road.specs.Roads.{Road, here, IsRun}
use Rattle.pb_core_road.proofs.Roads.{road_on, IsGood, good_road, Still, first_road}
use Rattle.pb_core_road.proofs.Receives.{Acts, receives_acts}
use Rattle.pb_core_road.proofs.Runs.{roads_are_runs}
use Rattle.pb_local.specs.Ranks.{Seat}
use Rattle.pb_local.specs.Tree.{Program}
use Rattle.pb_local.specs.Machine.{Todo, finished, pushed, Rank, silent, does, move, move_from, next_in, quiet_in, act_in, machine, start}
use Rattle.pb_local.specs.Family.{is_allowed, text_machine, text_start}
use Rattle.pb_local.specs.Alone.{Passes, number_at, Part, part_at}
use Rattle.pb_local.specs.Alone as A
use Rattle.pb_local.proofs.Moves.{move_is}
use Rattle.pb_shape.specs.Straight.{at_todo}
use Rattle.pb_shape.specs.Theorem.{sequence_of}
use Rattle.pb_shape.specs.Ways as V
use Rattle.pb_shape.specs.Ways.{Way}
use Rattle.pb_shape_straight.proofs.Passing as Straight
use Rattle.pb_shape_follow.proofs.Stacks.{me_rank}
use Rattle.pb_shape_follow.proofs.Steps.{Given}
use Rattle.pb_shape_reached.proofs.Leads.{Leads, stays, by_silent, by_act, leads_on, way_leads, Twin, next_same, Comes, comes}
use Rattle.pb_shape_reached.specs.Reached.{IsReached, IsTaken}

-- a rank of a world of the protocol at N = n
pub record Present (p : Protocol) (l : Program) (n : ℤ) (me : Seat) : Type 0 where
  pub within : IsIn p.range n
  pub few : total p.roles n ≤ 2000000000
  pub there : me_rank p l n me < total p.roles n
  pub given : Given p l n me
  pub setting : Straight.Setting p l n me
  pub obeys : Obeys (total p.roles n) (flat_at p n)
  pub begins : start l n (me_rank p l n me) ≡ at_todo me (pos 0) (pushed 0 l.body finished)
  pub follows : (A : AnswerTable) (m : ℕ) → Follows (text_machine l n) (is_allowed l n (me_rank p l n me)) (text_start l n (me_rank p l n me)) (of_rank (me_rank p l n me) ((sequence_of p n).run A m)) false

abbrev pub IsSomething : List Action → Type 0
IsSomething [] = ⊥
IsSomething (a ∷ s) = Unit {0}

some_behind : (s t : List Action) → IsSomething t → IsSomething (s ++ t)
some_behind [] t h = h
some_behind (a ∷ s) t h = tt

some_before : (s t : List Action) → IsSomething s → IsSomething (s ++ t)
some_before [] t h = absurd h
some_before (a ∷ s) t h = tt

-- a list by the kinds of its actions
record Split (kinds others : List Kind) (s : List Action) : Type 0 where
  first : List Action
  rest : List Action
  are : s ≡ first ++ rest
  first_are : map kind_of first ≡ kinds
  rest_are : map kind_of rest ≡ others

split : (kinds others : List Kind) (s : List Action) → map kind_of s ≡ kinds ++ others → Split kinds others s
split [] others s e = record { first = []; rest = s; are = refl; first_are = refl; rest_are = e }
split (k ∷ kinds) others [] e = cc
split (k ∷ kinds) others (a ∷ s) e =
    let h : kind_of a ≡ k = cc in
    let t : map kind_of s ≡ kinds ++ others = cc in
    let r = split kinds others s t in
    record { first = a ∷ r.first; rest = r.rest; are = ap (λ l. a ∷ l) r.are; first_are = two h r.first_are; rest_are = r.rest_are }
  where
    two : {xs ys : List Kind} {x y : Kind} → x ≡ y → xs ≡ ys → x ∷ xs ≡ y ∷ ys
    two e f = cc

module _ (p : Protocol) (l : Program) (n : ℤ) (me : Seat) (here_is : Present p l n me) where
  abbrev pub world : Setting
  world = setting_of p n

  abbrev pub mine : ℕ
  mine = me_rank p l n me

  abbrev pub first_stack : List Frame
  first_stack = record { opener = Top; rest = flat_at p n } ∷ []

  abbrev pub begin : Rank
  begin = at_todo me (pos 0) (pushed 0 l.body finished)

  abbrev pub To : Rank → List Action → Rank → List Action → Type 0
  To = Leads l n me

  first_good : IsGood world mine first_stack
  first_good = record { clean = ((λ h. refl), (λ h. refl), tt); keeps = (here_is.obeys.keeps, tt, tt); ends = (here_is.obeys.ends, tt, (λ h. cc), tt) }

  -- what the rank does on some way from this stack
  pub record Goes (K : List Frame) (s : List Action) : Type 0 where
    pub does : List (ℕ × Action)
    pub to : List Frame
    pub road : Road world K does to
    pub is : of_rank mine does ≡ s

  -- Whatever comes, the machine is known to be there; or it is known to be where something is received next, for it asks for that first
  pub data Mode (K : List Frame) : Type 0 where
    free : Mode K
    waits : (q : ℕ) (test : ℕ → Bool) → First_in mine q test K → Mode K

  abbrev pub Has : {K : List Frame} → Mode K → List Action → Type 0
  Has free s = Unit {0}
  Has (waits q test first) s = IsSomething s

  pub record Stood (K : List Frame) (x : Rank) : Type 0 where
    pub done : List (ℕ × Action)
    pub road : Road world first_stack done K
    pub mode : Mode K
    pub leads : (s : List Action) → Goes K s → Has mode s → To begin (of_rank mine done ++ s) x s

  pub begins_so : Stood first_stack begin
  begins_so = record { done = []; road = here; mode = free; leads = λ s goes has. stays }

  pub stood_good : {K : List Frame} {x : Rank} → Stood K x → IsGood world mine K
  stood_good st = good_road world mine st.road first_good

  -- ---- going on

  goes_before : {K : List Frame} {e : List (ℕ × Action)} {K2 : List Frame} {s : List Action} → Road world K e K2 → Goes K2 s → Goes K (of_rank mine e ++ s)
  goes_before {e = e} road g = record { does = e ++ g.does; to = g.to; road = road_on world road g.road; is = of_append mine e g.does ∙ ap (λ t. of_rank mine e ++ t) g.is }

  two_parts : (d e : List (ℕ × Action)) (s : List Action) (y : Rank) → To begin (of_rank mine d ++ (of_rank mine e ++ s)) y s → To begin (of_rank mine (d ++ e) ++ s) y s
  two_parts d e s y h = subst (λ t. To begin t y s) (sym (ap (λ t. t ++ s) (of_append mine d e) ∙ append_assoc (of_rank mine d) (of_rank mine e) s)) h

  go_by : {K : List Frame} {e : List (ℕ × Action)} {K2 : List Frame} {x y : Rank} (done : List (ℕ × Action)) → Road world first_stack done K → (mode : Mode K) →
      ((s : List Action) → Goes K s → Has mode s → To begin (of_rank mine done ++ s) x s) → IsGood world mine K → Road world K e K2 → ((s : List Action) → To x (of_rank mine e ++ s) y s) → Stood K2 y
  go_by {e = e} {y = y} done road free leads good way lead =
      record { done = done ++ e; road = road_on world road way; mode = free; leads = λ s g h. two_parts done e s y (leads_on l n me (leads (of_rank mine e ++ s) (goes_before way g) tt) (lead s)) }
  go_by {e = e} {K2 = K2} {y = y} done road (waits q test first) leads good way lead =
      elim (first_road world mine q test way good first) [
        | inl h ↦ record {
          done = done ++ e;
          road = road_on world road way;
          mode = waits q test h.1;
          leads = λ s g k. two_parts done e s y (leads_on l n me (leads (of_rank mine e ++ s) (goes_before way g) (some_behind (of_rank mine e) s k)) (lead s));
        }
        | inr h ↦ record {
          done = done ++ e;
          road = road_on world road way;
          mode = free;
          leads = λ s g k. two_parts done e s y (leads_on l n me (leads (of_rank mine e ++ s) (goes_before way g) (some_before (of_rank mine e) s (subst IsSomething (sym h.is) tt))) (lead s));
        }
      ]

  -- the run goes on, and the machine with it
  pub go_on : {K : List Frame} {e : List (ℕ × Action)} {K2 : List Frame} {x y : Rank} → Stood K x → Road world K e K2 → ((s : List Action) → To x (of_rank mine e ++ s) y s) → Stood K2 y
  go_on st way lead = go_by st.done st.road st.mode st.leads (stood_good st) way lead

  has_any : {K : List Frame} (mode : Mode K) (s t : List Action) → IsSomething t → Has mode (s ++ t)
  has_any free s t h = tt
  has_any (waits q test first) s t h = some_behind s t h

  -- the rank is told where the run went when it receives
  pub go_told : {K : List Frame} {e : List (ℕ × Action)} {K2 : List Frame} {x y : Rank} (q : ℕ) (test : ℕ → Bool) → Stood K x → Road world K e K2 → First_in mine q test K2 →
      ((s : List Action) → Received mine q test s → To x (of_rank mine e ++ s) y s) → Stood K2 y
  go_told {e = e} {K2 = K2} {y = y} q test st way first lead = record {
    done = st.done ++ e;
    road = road_on world st.road way;
    mode = waits q test first;
    leads = λ s g h. two_parts st.done e s y (leads_on l n me (st.leads (of_rank mine e ++ s) (goes_before way g) (has_any st.mode (of_rank mine e) s h)) (lead s (received s g h)));
  }
    where
      good : IsGood world mine K2
      good = good_road world mine way (stood_good st)

      received : (s : List Action) → Goes K2 s → IsSomething s → Received mine q test s
      received s g h =
          elim (first_road world mine q test g.road good first) [
            | inl k ↦ absurd (subst IsSomething (sym g.is ∙ k.0) h)
            | inr k ↦ subst (Received mine q test) g.is k
          ]

  -- ---- a state of the machine on the way of its part of a run, with actions of these kinds ahead

  pub record Spot (y : Rank) (kinds : List Kind) : Type 0 where
    pub done : List (ℕ × Action)
    pub to : List Frame
    pub road : Road world first_stack done to
    pub ahead : List Action
    pub more : List Action
    pub are : map kind_of ahead ≡ kinds
    pub leads : To begin (of_rank mine done) y (ahead ++ more)

  is_something : {s : List Action} {a : Action} {t : List Action} → s ≡ a ∷ t → IsSomething s
  is_something e = subst IsSomething (sym e) tt

  spot_by : {K : List Frame} {e : List (ℕ × Action)} {o : Opener} {g : Block} {K' : List Frame} {x : Rank} {kinds : List Kind} (done : List (ℕ × Action)) → Road world first_stack done K → (mode : Mode K) →
      ((s : List Action) → Goes K s → Has mode s → To begin (of_rank mine done ++ s) x s) → IsGood world mine K → live mine o (env_of K') ≡ true → Road world K e (record { opener = o; rest = g } ∷ K') → map kind_of (of_rank mine e) ≡ kinds → Spot x kinds
  spot_by {e = e} {x = x} done road free leads good lives way are = record {
    done = done ++ e;
    to = _;
    road = road_on world road way;
    ahead = of_rank mine e;
    more = [];
    are = are;
    leads = subst (λ t. To begin t x (of_rank mine e ++ [])) (sym (of_append mine done e ∙ ap (λ t. of_rank mine done ++ t) (sym (append-nil (of_rank mine e))))) (leads (of_rank mine e ++ []) (record { does = e; to = _; road = way; is = sym (append-nil (of_rank mine e)) }) tt);
  }
  spot_by {e = e} {o = o} {g = g} {K' = K'} {x = x} done road (waits q test first) leads good lives way are =
      elim (first_road world mine q test way good first) [
        | inr h ↦ record {
          done = done ++ e;
          to = _;
          road = road_on world road way;
          ahead = of_rank mine e;
          more = [];
          are = are;
          leads = subst (λ t. To begin t x (of_rank mine e ++ [])) (sym (of_append mine done e ∙ ap (λ t. of_rank mine done ++ t) (sym (append-nil (of_rank mine e)))))
              (leads (of_rank mine e ++ []) (record { does = e; to = _; road = way; is = sym (append-nil (of_rank mine e)) }) (some_before (of_rank mine e) [] (is_something h.is)));
        }
        | inl h ↦
            let told = first_told mine q test (record { opener = o; rest = g }) K' lives h.1 in
            let kept = good_road world mine way good in
            let acts = receives_acts world mine (at_rank mine (env_over o (env_of K'))) q g told.first kept.ends.0 o K' in
            let list = of_append mine done (e ++ acts.does) ∙ ap (λ t. of_rank mine done ++ t) (of_append mine e acts.does) in
            record {
              done = done ++ (e ++ acts.does);
              to = acts.to;
              road = road_on world road (road_on world way acts.road);
              ahead = of_rank mine e;
              more = of_rank mine acts.does;
              are = are;
              leads = subst (λ t. To begin t x (of_rank mine e ++ of_rank mine acts.does)) (sym list)
                  (leads (of_rank mine e ++ of_rank mine acts.does) (record { does = e ++ acts.does; to = acts.to; road = road_on world way acts.road; is = of_append mine e acts.does })
                  (some_behind (of_rank mine e) (of_rank mine acts.does) (is_something acts.is)));
            }
      ]

  pub spot : {K : List Frame} {e : List (ℕ × Action)} {o : Opener} {g : Block} {K' : List Frame} {x : Rank} {kinds : List Kind} → Stood K x → live mine o (env_of K') ≡ true → Road world K e (record { opener = o; rest = g } ∷ K') → map kind_of (of_rank mine e) ≡ kinds → Spot x kinds
  spot st lives way are = spot_by st.done st.road st.mode st.leads (stood_good st) lives way are

  pub spot_way : {bound left k : ℕ} {x y : Rank} {kinds : List Kind} (others : List Kind) → Spot x (kinds ++ others) → Way (machine l n) bound y left k x kinds → Spot y others
  spot_way {x = x} {y = y} {kinds = kinds} others sp way =
      let s = split kinds others sp.ahead sp.are in
      record {
        done = sp.done;
        to = sp.to;
        road = sp.road;
        ahead = s.rest;
        more = sp.more;
        are = s.rest_are;
        leads =
            leads_on l n me (subst (λ t. To begin (of_rank mine sp.done) x t) (ap (λ t. t ++ sp.more) s.are ∙ append_assoc s.first s.rest sp.more) sp.leads)
            (way_leads l n me way s.first (s.rest ++ sp.more) s.first_are);
      }

  -- a silent step on, and an action on
  pub spot_silent : {x : Rank} {kinds : List Kind} (y : Rank) → move_from l n x x.todo ≡ silent y → Spot x kinds → Spot y kinds
  spot_silent {x = x} y e sp =
      let e' : move l n x ≡ silent y = move_is l n x ∙ e in
      record {
        done = sp.done;
        to = sp.to;
        road = sp.road;
        ahead = sp.ahead;
        more = sp.more;
        are = sp.are;
        leads = leads_on l n me sp.leads (by_silent (ap next_in e') (subst (λ z. To z (sp.ahead ++ sp.more) y (sp.ahead ++ sp.more)) (sym (ap (quiet_in x) e')) stays));
      }

  pub spot_drop : {x : Rank} {kinds : List Kind} → Spot x kinds → Spot x []
  spot_drop sp = record { done = sp.done; to = sp.to; road = sp.road; ahead = []; more = sp.ahead ++ sp.more; are = refl; leads = sp.leads }

  -- ---- what is reached

  spot_comes : {x : Rank} {kinds : List Kind} (sp : Spot x kinds) → Comes l n me (is_allowed l n mine) (record { state = begin; count = 0 }) (of_rank mine sp.done) x (sp.ahead ++ sp.more) false
  spot_comes sp =
      let run = roads_are_runs world (flat_at p n) sp.done sp.to sp.road in
      comes l n me (is_allowed l n mine) p here_is.given begin 0 (record { moves = refl; number = refl; part = refl }) sp.leads
      (subst (λ s. Follows (text_machine l n) (is_allowed l n mine) (record { state = begin; count = 0 }) (of_rank mine s) false) run.does
      (subst (λ z. Follows (text_machine l n) (is_allowed l n mine) (record { state = z; count = 0 }) (of_rank mine ((sequence_of p n).run run.answers run.steps)) false) here_is.begins (here_is.follows run.answers run.steps)))

  the_run : {x : Rank} {kinds : List Kind} (sp : Spot x kinds) → IsRun world (flat_at p n) sp.done sp.to
  the_run sp = roads_are_runs world (flat_at p n) sp.done sp.to sp.road

  from_start : {x : Rank} {kinds : List Kind} (sp : Spot x kinds) (last : Counted Rank) → Passes (text_machine l n) (is_allowed l n mine) last (record { state = begin; count = 0 }) (of_rank mine sp.done) → A.Comes l n (sequence_of p n) mine last
  from_start sp last way = record {
    answers = (the_run sp).answers;
    steps = (the_run sp).steps;
    way =
        subst (λ s. Passes (text_machine l n) (is_allowed l n mine) last (text_start l n mine) (of_rank mine s)) (sym (the_run sp).does)
        (subst (λ z. Passes (text_machine l n) (is_allowed l n mine) last (record { state = z; count = 0 }) (of_rank mine sp.done)) (sym here_is.begins) way);
  }

  pub spot_reached : {x : Rank} {kinds : List Kind} (k : ℕ) → number_at x.todo ≡ Some k → Spot x kinds → IsReached p l k
  spot_reached k e sp =
      let c = spot_comes sp in
      record {
        n = n;
        within = here_is.within;
        few = here_is.few;
        rank = mine;
        there = here_is.there;
        reaches = record { state = c.state; comes = from_start sp c.state c.way; there = c.twin.number ∙ e };
      }

  pub spot_taken : {x : Rank} {kinds : List Kind} (k : ℕ) (side : Part) → number_at x.todo ≡ Some k → (machine l n).next x ≡ Silent → part_at n x x.todo ≡ Some side → Spot x kinds → IsTaken p l k side
  spot_taken k side e quiet part sp =
      let c = spot_comes sp in
      record {
        n = n;
        within = here_is.within;
        few = here_is.few;
        rank = mine;
        there = here_is.there;
        takes = record {
          state = c.state;
          comes = from_start sp c.state c.way;
          there = c.twin.number ∙ e;
          goes = next_same l n me (is_allowed l n mine) c.state.state c.state.count c.follows ∙ ap next_in c.twin.moves ∙ quiet;
          takes = c.twin.part ∙ part;
        };
      }
