-- Each action of a run is one that a line of a log may tell.
use Rattle.std.proofs.Common.{◌≡◌, ℕ, ◌<◌, true, ℤ, List, [], ◌∷◌, ◌++◌, map, Some, refl, sym, ap, subst, ◌∙◌, inl, inr, append-nil}
use Rattle.std.specs.List.{AllByRecursion}
use Rattle.pb_world.specs.Actions.{Action, Send, Recv, Enter, Leave, Collective, Kind, Chooses, Runs, Sends, Receives, Enters, Leaves, kind_of}
use Rattle.pb_world.specs.Counted.{Counted}
use Rattle.pb_world.specs.Family.{IsInternal, choosing, running}
use Rattle.pb_world.specs.Log.{recorded, log_of}
use Rattle.pb_world.specs.Machine.{Does}
use Rattle.pb_world.specs.World.{Message, World, updated, next_of, HasEntered, moved, Step, silent, probe, internal, send, receive, enter, leave, Reached, start, event}
use Rattle.pb_world.proofs.Lists.{eqb_cases, at_same, at_other}
use Rattle.pb_local.specs.Family.{Sequence, family, most_silent, text_machine}
use Rattle.pb_local.specs.Machine as M
use Rattle.pb_local.specs.MachineLaws.{peer_of, peer_of_kind}
use Rattle.pb_local.specs.Ranks.{total}
use Rattle.pb_local.specs.Tree.{Program}
use Rattle.pb_local.specs.WellMade.{IsWellMade}
use Rattle.pb_local.proofs.Moves.{names_ranks}
use Rattle.std.specs.Prelude.{nat_le}
use Rattle.pb_judge_log.specs.Entries.{IsTold, rows_of}
use Rattle.pb_judge_told.specs.Told.{AreWords, IsAnsweredSmall, AreAnsweredSmall, RunsAreTold}
use Rattle.pb_judge_told.proofs.Tables.{IsRowed, IsTodo, quiet_made, act_made, read_more, kind_rowed, does_so, start_made}
use Rattle.pb_judge_told.proofs.Words.{all_append, all_front, all_back, all_get, IsSmallMessage, taken_small, outcome_small}

module _ (p : Program) (n : ℤ) (sequence : Sequence) where
  abbrev ranks : ℕ
  ranks = total p.roles n

  abbrev IsToldStep : ℕ × Action → Type 0
  IsToldStep step = IsTold (rows_of p.labels p.kernels) ranks (recorded step.0 step.1)

  abbrev IsSmallEntry : Collective × List ℕ → Type 0
  IsSmallEntry entry = AreWords entry.1

  record Keeps (w : List (ℕ × Action)) (W : World (Counted M.Rank)) : Type 0 where
    pub todo : (r : ℕ) → IsTodo p ranks (W.state r).state.todo
    pub told : AllByRecursion IsToldStep w
    pub sent : (q r : ℕ) → AllByRecursion IsSmallMessage (W.channel q r)
    pub entered : (r : ℕ) → AllByRecursion IsSmallEntry (W.entered r)

  -- what holds of each value holds behind a change
  each_updated : {A : Type 0} (P : A → Type 0) (f : ℕ → A) (r : ℕ) (x : A) → ((q : ℕ) → P (f q)) → P x → (q : ℕ) → P (updated f r x q)
  each_updated {A} P f r x each new q = elim (eqb_cases q r) [
    | inl e ↦ subst (λ k. P (updated f r x k)) (sym e.0) (subst P (sym (at_same f r x)) new)
    | inr e ↦ subst P (sym (at_other f r x q e.0)) (each q)
  ]

  each_updated_twice : {A : Type 0} (P : A → Type 0) (f : ℕ → ℕ → A) (r q : ℕ) (x : A) → ((i k : ℕ) → P (f i k)) → P x → (i k : ℕ) → P (updated f r (updated (f r) q x) i k)
  each_updated_twice {A} P f r q x each new i k =
      each_updated (λ (row : ℕ → A). P (row k)) f r (updated (f r) q x) (λ j. each j k) (each_updated P (f r) q x (each r) new k) i

  with_step : (w : List (ℕ × Action)) (r : ℕ) (a : Action) → AllByRecursion IsToldStep w → IsToldStep (r, a) → AllByRecursion IsToldStep (w ++ (r, a) ∷ [])
  with_step w r a h new = all_append IsToldStep w ((r, a) ∷ []) h (new, tt)

  module _ (w : List (ℕ × Action)) (W : World (Counted M.Rank)) (keeps : Keeps w W) where
    does_next : (r : ℕ) (kind : Kind) → next_of (family p n sequence) W r ≡ Does kind → (M.machine p n).next (W.state r).state ≡ Does kind
    does_next r kind e = does_so (nat_le (most_silent p) (W.state r).count) ((M.machine p n).next (W.state r).state) kind e

    row : (r : ℕ) (kind : Kind) → next_of (family p n sequence) W r ≡ Does kind → IsRowed p ranks kind
    row r kind e = kind_rowed p ranks n (W.state r).state kind (keeps.todo r) (does_next r kind e)

    peer : (r : ℕ) (kind : Kind) (q : ℕ) → next_of (family p n sequence) W r ≡ Does kind → peer_of_kind kind ≡ Some q → q < ranks
    peer r kind q e is = names_ranks p n (W.state r).state q (ap peer_of (does_next r kind e) ∙ is)

    todo_moved : (r : ℕ) (y : Counted M.Rank) → IsTodo p ranks y.state.todo → (q : ℕ) → IsTodo p ranks (updated W.state r y q).state.todo
    todo_moved r y new q = each_updated (λ (x : Counted M.Rank). IsTodo p ranks x.state.todo) W.state r y keeps.todo new q

    todo_acted : (r : ℕ) (a : Action) → (q : ℕ) → IsTodo p ranks (updated W.state r ((text_machine p n).act (W.state r) a) q).state.todo
    todo_acted r a q = todo_moved r ((text_machine p n).act (W.state r) a) (act_made p ranks n (W.state r).state a (keeps.todo r)) q

    keeps_moved : (r : ℕ) (y : Counted M.Rank) → IsTodo p ranks y.state.todo → Keeps w (moved (family p n sequence) W r y)
    keeps_moved r y new = record { todo = todo_moved r y new; told = keeps.told; sent = keeps.sent; entered = keeps.entered }

    internal_told : (r : ℕ) (a : Action) → IsInternal a → r < ranks → next_of (family p n sequence) W r ≡ Does (kind_of a) → IsAnsweredSmall a → IsToldStep (r, a)
    internal_told r a (choosing {kernel = kernel} {branches = branches} {branch = branch}) lt e small = (lt, row r (Chooses kernel branches) e, small)
    internal_told r a (running {kernel = kernel}) lt e small = (lt, row r (Runs kernel) e)

    all_needed : (r : ℕ) (j : Collective) (words : ℕ → List ℕ) → HasEntered (family p n sequence) W r j words → (q : ℕ) → q < ranks → (family p n sequence).needs j r q ≡ true → AreWords (words q)
    all_needed r j words has q lt need = all_get IsSmallEntry (W.entered q) (W.left r) (j, words q) (has q lt need) (keeps.entered q)

    keeps_step : (r : ℕ) (acts : List Action) (V : World (Counted M.Rank)) → Step (family p n sequence) W r acts V → AllByRecursion IsAnsweredSmall acts → Keeps (w ++ map (λ a. (r, a)) acts) V
    keeps_step r acts V (silent free e) small =
        subst (λ u. Keeps u (moved (family p n sequence) W r ((text_machine p n).quiet (W.state r)))) (sym (append-nil w)) (keeps_moved r ((text_machine p n).quiet (W.state r)) (quiet_made p ranks n (W.state r).state (keeps.todo r)))
    keeps_step r acts V (probe {p = from} {m = m} {rest = rest} {y = y} free e first reads) small =
        subst (λ u. Keeps u (moved (family p n sequence) W r y)) (sym (append-nil w)) (keeps_moved r y (read_more p ranks n (W.state r) m.label y reads (keeps.todo r)))
    keeps_step r acts V (internal {a = a} free e is allowed) small = record {
      todo = todo_acted r a;
      told = with_step w r a keeps.told (internal_told r a is free.within e small.0);
      sent = keeps.sent;
      entered = keeps.entered;
    }
    keeps_step r acts V (send {q = q} {label = label} {words = words} mode free e allowed) small =
        let message : Message = record { label = label; words = words; mode = mode } in
        record {
          todo = todo_acted r (Send q label words);
          told = with_step w r (Send q label words) keeps.told (free.within, peer r (Sends q label) q e refl, row r (Sends q label) e, small.0);
          sent = each_updated_twice (AllByRecursion IsSmallMessage) W.channel r q (W.channel r q ++ message ∷ []) keeps.sent (all_append IsSmallMessage (W.channel r q) (message ∷ []) (keeps.sent r q) (small.0, tt));
          entered = keeps.entered;
        }
    keeps_step r acts V (receive {p = from} {label = label} {m = m} {rest = rest} free e takes) small =
        let both = taken_small takes (keeps.sent from r) in
        record {
          todo = todo_acted r (Recv from label m.words);
          told = with_step w r (Recv from label m.words) keeps.told (free.within, peer r (Receives from label) from e refl, row r (Receives from label) e, both.0);
          sent = each_updated_twice (AllByRecursion IsSmallMessage) W.channel from r rest keeps.sent both.1;
          entered = keeps.entered;
        }
    keeps_step r acts V (enter {j = j} {words = words} mode free e agrees allowed) small = record {
      todo = todo_acted r (Enter j words);
      told = with_step w r (Enter j words) keeps.told (free.within, row r (Enters j) e, small.0);
      sent = keeps.sent;
      entered = each_updated (AllByRecursion IsSmallEntry) W.entered r (W.entered r ++ (j, words) ∷ []) keeps.entered (all_append IsSmallEntry (W.entered r) ((j, words) ∷ []) (keeps.entered r) (small.0, tt));
    }
    keeps_step r acts V (leave {j = j} words free e has waits) small =
        let out = (family p n sequence).outcome j r words in
        record {
          todo = todo_acted r (Leave j out);
          told = with_step w r (Leave j out) keeps.told (free.within, row r (Leaves j) e, outcome_small p n words j r (all_needed r j words has));
          sent = keeps.sent;
          entered = keeps.entered;
        }

  answers_of_step : (r : ℕ) (acts : List Action) → AreAnsweredSmall (map (λ a. (r, a)) acts) → AllByRecursion IsAnsweredSmall acts
  answers_of_step r [] h = tt
  answers_of_step r (a ∷ acts) h = (h.0, answers_of_step r acts h.1)

  keeps_all : (w : List (ℕ × Action)) (W : World (Counted M.Rank)) → IsWellMade p → Reached (family p n sequence) w W → AreAnsweredSmall w → Keeps w W
  keeps_all w W made start small = record {
    todo = λ r. start_made p ranks made;
    told = tt;
    sent = λ q r. tt;
    entered = λ r. tt;
  }
  keeps_all w' W' made (event {w = w} {W = W} {V = V} {r = r} {acts = acts} before step) small =
      let steps = map (λ (a : Action). (r, a)) acts in
      keeps_step w W (keeps_all w W made before (all_front (λ (s : ℕ × Action). IsAnsweredSmall s.1) w steps small)) r acts V step
      (answers_of_step r acts (all_back (λ (s : ℕ × Action). IsAnsweredSmall s.1) w steps small))

  told_log : (w : List (ℕ × Action)) → AllByRecursion IsToldStep w → AllByRecursion (IsTold (rows_of p.labels p.kernels) ranks) (log_of w)
  told_log [] h = tt
  told_log (step ∷ w) h = (h.0, told_log w h.1)

pub runs_are_told : RunsAreTold
runs_are_told p n sequence w W made reached small = told_log p n sequence w (keeps_all p n sequence w W made reached small).told
