-- One step of a rank's machine, as it is seen.
use Rattle.std.proofs.Common.{◌≡◌, ◌≢◌, ◌<◌, List, ℕ, ℤ, Some, length, get_or, refl, ap, sym, ◌∙◌, subst}
use Rattle.std.specs.Global.{Vec}
use Rattle.std.specs.List.{slice_get, slice_set, All}
use Rattle.std.proofs.lemmas.Option.{slice_get-get_or}
use Rattle.pb_world.specs.Actions.{Action, kind_of, branch_in}
use Rattle.pb_world.specs.Machine as W
use Rattle.pb_world.specs.Counted.{Counted}
use Rattle.pb_local.specs.Machine as M
use Rattle.pb_local.specs.Family.{text_machine}
use Rattle.pb_ctree.specs.declared.tree.CTree.{CTree}
use Rattle.pb_machine.specs.declared.rank.Rank.{Rank}
use Rattle.pb_machine.specs.declared.act.Input.{Input}
use Rattle.pb_machine.specs.declared.act.Input.TheVariants.{Plain, Tag}
use Rattle.pb_machine.specs.declared.phase.Phase.{Phase}
use Rattle.pb_machine.specs.declared.phase.Phase.TheVariants.{Going, Joined, Misled}
use Rattle.pb_machine.specs.Steps.{Shown, going, misled, state_of, shown_in, shown, param_of, Fits, answer_in, read_or, IsStepOf}
use Rattle.pb_chan.specs.Lists.{Entry}
use Rattle.pb_sim_collectives.specs.Joined.{Joined as Entered}
use Rattle.pb_sim_world.specs.declared.stand.Stand.{Stand}
use Rattle.pb_sim_world.specs.declared.state.State.{State}
use Rattle.pb_sim_world.specs.States.{program, state_in, state_at, next_step}
use Rattle.pb_sim_world.specs.Sound.{IsRank}
use Rattle.pb_sim_world.specs.Events.{remade, IsAdvanced, IsMoved}

going_in : (phase : Phase) (x : Counted M.Rank) → phase ≢ Misled → shown_in phase x ≡ going x
going_in Going x h = refl
going_in (Joined call) x h = refl
going_in Misled x h = absurd (h refl)

pub going_is : (tree : CTree) (x : Rank) → x.phase ≢ Misled → shown tree x ≡ going (state_of tree x)
going_is tree x h = going_in x.phase (state_of tree x) h

same_state : (x y : Counted M.Rank) → ◌≡◌ {A = Shown} (going x) (going y) → x ≡ y
same_state x y e = cc

led_in : (phase : Phase) (x z : Counted M.Rank) → shown_in phase x ≡ going z → (phase ≢ Misled) × (x ≡ z)
led_in Going x z e = (no_clash, same_state x z e) where
  no_clash : ◌≡◌ {A = Phase} Going Misled → ⊥
  no_clash h = cc
led_in (Joined call) x z e = (no_clash, same_state x z e) where
  no_clash : ◌≡◌ {A = Phase} (Joined call) Misled → ⊥
  no_clash h = cc
led_in Misled x z e = absurd (clash e) where
  clash : ◌≡◌ {A = Shown} misled (going z) → ⊥
  clash h = cc

pub led : (tree : CTree) (y : Rank) (z : Counted M.Rank) → shown tree y ≡ going z → (y.phase ≢ Misled) × (state_of tree y ≡ z)
led tree y z e = led_in y.phase (state_of tree y) z e

module _ (s : State) (r : ℕ) where
  pub at_rank : (x : Rank) → All (IsRank s.tree s.n) s.ranks.items → r < length s.ranks.items → x ≡ get_or s.ranks.items r x → IsRank s.tree s.n x × (state_at s r ≡ state_of s.tree x)
  at_rank x each l e =
      let is : IsRank s.tree s.n (get_or s.ranks.items r x) = each r x l in
      let g : slice_get s.ranks.items r ≡ Some x = slice_get-get_or s.ranks.items r x l ∙ ap Some (sym e) in
      (subst (IsRank s.tree s.n) (sym e) is, ap (state_in s r) g)

  pub shown_at : (x : Rank) → All (IsRank s.tree s.n) s.ranks.items → r < length s.ranks.items → x ≡ get_or s.ranks.items r x → shown s.tree x ≡ going (state_at s r)
  shown_at x each l e = let p = at_rank x each l e in going_is s.tree x p.0.led ∙ ap going (sym p.1)

  pub advanced : (x y : Rank) (input : Input) (ranks : Vec Rank) → All (IsRank s.tree s.n) s.ranks.items → r < length s.ranks.items → x ≡ get_or s.ranks.items r x → ranks.items ≡ slice_set s.ranks.items r y → IsStepOf (program s) (param_of x) (shown s.tree x) input (shown s.tree y) → Fits s.tree y → param_of y ≡ param_of x → IsAdvanced s r input ranks
  advanced x y input ranks each l e w step fits param =
      let p = at_rank x each l e in
      let n : param_of x ≡ s.n = p.0.param in
      let g : shown s.tree x ≡ going (state_at s r) = shown_at x each l e in
      record {
        rank = y;
        written = w;
        fits = fits;
        param = param ∙ n;
        step = subst (λ (v : Shown). IsStepOf (program s) s.n v input (shown s.tree y)) g (subst (λ n. IsStepOf (program s) n (shown s.tree x) input (shown s.tree y)) n step);
      }

  -- the step doesn't look at what else is kept
  pub alike : (input : Input) (ranks : Vec Rank) (stands : Vec Stand) (channels : List Entry) (joins : Entered) → IsAdvanced (remade s s.ranks stands channels joins) r input ranks → IsAdvanced s r input ranks
  alike input ranks stands channels joins a = record { rank = a.rank; written = a.written; fits = a.fits; param = a.param; step = a.step }

  moved : (z : Counted M.Rank) (input : Input) (ranks : Vec Rank) (a : IsAdvanced s r input ranks) → shown s.tree a.rank ≡ going z → IsMoved s r z ranks
  moved z input ranks a e =
      let p = led s.tree a.rank z e in
      record { rank = a.rank; written = a.written; is_rank = record { fits = a.fits; param = a.param; led = p.0 }; state = p.1 }

  pub quiet_moved : (ranks : Vec Rank) → IsAdvanced s r Plain ranks → next_step s r ≡ W.Silent → IsMoved s r ((text_machine (program s) s.n).quiet (state_at s r)) ranks
  quiet_moved ranks a e = moved _ Plain ranks a (a.step.quiet e)

  pub act_moved : (input : Input) (ranks : Vec Rank) (act : Action) → IsAdvanced s r input ranks → next_step s r ≡ W.Does (kind_of act) → branch_in act ≡ answer_in input → IsMoved s r ((text_machine (program s) s.n).act (state_at s r) act) ranks
  act_moved input ranks act a e b = moved _ input ranks a (a.step.act act e b)

  pub read_moved : (ranks : Vec Rank) (source label : ℕ) (z : Counted M.Rank) → IsAdvanced s r (Tag label) ranks → next_step s r ≡ W.Probe source → (text_machine (program s) s.n).read (state_at s r) label ≡ Some z → IsMoved s r z ranks
  read_moved ranks source label z a e f = moved z (Tag label) ranks a (a.step.read source label e refl ∙ ap read_or f)

-- a state with the same tree and N
pub made : (s t : State) (stands : Vec Stand) (channels : List Entry) (joins : Entered) → t.tree ≡ s.tree → t.n ≡ s.n → t.stands ≡ stands → t.channels ≡ channels → t.joins ≡ joins → remade s t.ranks stands channels joins ≡ t
made s t stands channels joins a b o c d = by s.tree t.tree s.n t.n stands t.stands channels t.channels joins t.joins a b o c d where
  by : (x y : CTree) (n m : ℤ) (v w : Vec Stand) (c e : List Entry) (j k : Entered) → y ≡ x → m ≡ n → w ≡ v → e ≡ c → k ≡ j → ◌≡◌ {A = State} (record { tree = x; n = n; ranks = t.ranks; stands = v; channels = c; joins = j }) (record { tree = y; n = m; ranks = t.ranks; stands = w; channels = e; joins = k })
  by x y n m v w c e j k f g o h l = cc
