-- Which event comes next, and that none does.
use Rattle.std.proofs.Common.{◌≡◌, ℕ, ℤ, suc, ◌+◌, ◌<◌, ◌≤◌, ◌⊎◌, inl, inr, List, [], ◌∷◌, ◌++◌, Option, Some, refl, sym, ap, subst, ◌∙◌, length, arith}
use Rattle.std.specs.Prelude.{Contains}
use Rattle.pb_world.specs.World as W
use Rattle.pb_local.specs.Tree.{Program, program_of}
use Rattle.pb_local.specs.Family.{Sequence, family}
use Rattle.pb_ctree.specs.declared.tree.CTree.{CTree}
use Rattle.pb_sim_world.specs.States.{program}
use Rattle.pb_sim_world.specs.Worlds.{world_of}
use Rattle.pb_sim.specs.declared.seen.Seen.{Seen}
use Rattle.pb_sim.specs.Runs.{IsReadyList}
use Rattle.pb_sim.specs.Scheduled.{Turn}
use Rattle.pb_sim.proofs.Runs.{within}
use Rattle.pb_cli_words.specs.declared.options.Shown.{Shown}
use Rattle.pb_sim_play.specs.declared.record.Record.{Record}
use Rattle.pb_sim_play.specs.declared.stop.Stop.{Stop}
use Rattle.pb_sim_play.specs.declared.stop.Stop.TheVariants as T
use Rattle.pb_sim_play.specs.Plans.{Source, drawn, given, May, IsNext, IsOver}
use Rattle.pb_sim_play.specs.Records.{HasPlayed}
use Rattle.pb_sim_play.specs.Endings.{Ran, HasBroken, HasFailed, HasStopped, HasMade, HasHalted, IsSpent, IsStill, IsUnready, IsFull}

abbrev pub AreReady : Seen → List ℕ → Type 0
AreReady x list = (sequence : Sequence) → IsReadyList (family (program x.state) x.state.n sequence) (world_of x.state) list

pub may_next : (x : Seen) (source : Source) (k : ℕ) (list : List ℕ) (turn : Turn) → AreReady x list → IsNext source k list turn → May x.state.tree x.state.n source k (world_of x.state) turn
may_next x (drawn seed modes) k list turn ready next = record { list = list; ready = ready; some = next.0; is = next.1 }
may_next x (given turns) k list turn ready next = next

none_in : (list : List ℕ) (r : ℕ) → length list ≡ 0 → Contains list r → ⊥
none_in list r e (k, there, is) = absurd (omega (arith, e, there))

pub spent : (x : Seen) (source : Source) (k : ℕ) (list : List ℕ) → AreReady x list → IsOver source k list → IsSpent source k x
spent x (drawn seed modes) k list ready over = λ sequence r can.
    none_in list r over ((ready sequence).all r (within (family (program x.state) x.state.n sequence) (world_of x.state) r can.0 can.1 can.2) can)
spent x (given turns) k list ready over = over

module _ (tree : CTree) (n : ℤ) (post : ℕ → ℕ → ℕ → Type 0) (source : Source) (most : ℕ) (shown : Shown) (start : Option (List ℕ)) (k : ℕ) (x : Seen) (kept : Record) (now : Option (List ℕ)) where
  pub halted : k < most → (stop : Stop) → HasFailed tree n post source shown start k stop kept now → HasStopped tree n post source most shown start stop x kept now
  halted less T.Made failed = absurd failed
  halted less (T.Refused t) (e, (y, played, why)) = record { count = k; few = less; x = y; played = played; is = (e, why) }
  halted less T.Full (y, (played, why)) = record { count = k; few = less; x = y; played = played; is = why }
  halted less T.NoMemory (y, played) = record { count = k; few = less; x = y; played = played; is = tt }
  halted less T.WriteFault ran = record { turns = ran.turns; w = ran.w; x = ran.x; play = ran.play; few = let f = ran.few in omega (arith, f, less); is = ran.is }

  pub over_at : k ≤ most → HasPlayed tree n post source start k x kept now → IsSpent source k x → HasMade tree n post source most start x kept now
  over_at few played is = record { count = k; few = few; played = played; over = inr is }

  pub all_made : k ≡ most → HasPlayed tree n post source start k x kept now → HasMade tree n post source most start x kept now
  all_made e played = record { count = k; few = omega (arith, e); played = played; over = inl e }

-- what is said of three values is said of equal ones
pub carry : {X Y Z : Type 0} (P : X → Y → Z → Type 0) (x a : X) (y b : Y) (z d : Z) → x ≡ a → y ≡ b → z ≡ d → P x y z → P a b d
carry P x a y b z d e f h p = subst (λ k. P a b k) h (subst (λ k. P a k z) f (subst (λ k. P k y z) e p))
