-- From the simulation of a tree that was compiled to what `run` answers.
use Rattle.std.proofs.Common.{◌≡◌, ℕ, ◌<◌, ◌≤◌, inl, inr, pos, List, Option, Some, None, sym, subst, append-nil, arith}
use Rattle.std.proofs.lemmas.Int.{ints}
use Rattle.pb_io.specs.Files.{File}
use Rattle.pb_affine.specs.declared.range.NRange.{NRange}
use Rattle.pb_world.specs.Actions.{Action}
use Rattle.pb_world.specs.Theorem.{AllRanks}
use Rattle.pb_core_language.specs.Plain.{Protocol}
use Rattle.pb_core_language.specs.Ranks.{total}
use Rattle.pb_core_language.specs.Verdict as V
use Rattle.pb_core_language.specs.Verdict.{IsIn}
use Rattle.pb_local.specs.Tree.{program_of}
use Rattle.pb_local.specs.WellMade as L
use Rattle.pb_local.specs.WellMade.{IsInRange}
use Rattle.pb_ctree.specs.declared.tree.CTree.{CTree}
use Rattle.pb_shape.specs.Theorem.{sequence_of}
use Rattle.pb_shape_follow.proofs.Starts.{total_same}
use Rattle.pb_compile.specs.Compiled.{IsCompiled}
use Rattle.pb_sim_world.specs.Worlds.{world_of}
use Rattle.pb_cli_words.specs.declared.options.Modes.{Modes}
use Rattle.pb_cli_words.specs.declared.options.Options.{Options}
use Rattle.pb_cli_words.specs.declared.options.Shown.{Shown}
use Rattle.pb_cli_status.specs.Lines.{line_of, status_of}
use Rattle.pb_cli_status.specs.declared.refusal.Refusal.{Refusal}
use Rattle.pb_cli_status.specs.declared.refusal.Refusal.TheVariants as refusal
use Rattle.pb_cli_status.specs.declared.status.Status.{Status}
use Rattle.pb_cli_status.specs.declared.status.Status.TheVariants as S
use Rattle.pb_sim.specs.declared.seen.Seen.{Seen}
use Rattle.pb_sim.specs.Made as D
use Rattle.pb_sim.specs.Made.{IsNumber, HasStep}
use Rattle.pb_sim.specs.Scheduled.{Turn}
use Rattle.pb_sim_play.specs.Plans.{drawn}
use Rattle.pb_sim_play.specs.Plays.{IsPlay}
use Rattle.pb_sim_play.specs.Endings.{Ran, IsUnready}
use Rattle.pb_cli_simulate.specs.Replies as A
use Rattle.pb_cli_simulate.specs.Replies.{Starts}
use Rattle.pb_cli_laws.proofs.Draws.{drawn_has_a_step}
use Rattle.pb_cli_demo.proofs.Runs.{reaches, whole, never_stuck}
use Rattle.pb_cli_status.specs.Written.{Says}
use Rattle.pb_cli_run.specs.Run.{ranks_of, Begins, IsRunReply, SaysRunReply, SaysRun}
use Rattle.pb_cli_file.specs.Files.{IsFileRefusal, IsTreeOf, MayRun}
use Rattle.pb_cli_file.proofs.Answered.{fault_is}

-- ---- numbers of a range

up_to : (high : Option ℕ) (n : ℕ) → L.IsUpTo n high → V.IsUpTo (pos n) high
up_to None n is = tt
up_to (Some high) n is = omega (arith, ints, is)

down_to : (high : Option ℕ) (n : ℕ) → V.IsUpTo (pos n) high → L.IsUpTo n high
down_to None n is = tt
down_to (Some high) n is = omega (arith, ints, is)

inside : (range : NRange) (n : ℕ) → IsNumber range (pos n) → IsIn range (pos n)
inside range n is = record { low = (let low = is.is.low in omega (arith, ints, low)); high = up_to range.high n is.is.high }

number : (range : NRange) (n : ℕ) → IsIn range (pos n) → IsNumber range (pos n)
number range n is = record { some = omega (arith, ints); is = record { low = (let low = is.low in omega (arith, ints, low)); high = down_to range.high n is.high } }

module _ (bytes : List ℕ) (p : Protocol) (tree : CTree) (n : ℕ) (is : IsCompiled bytes p tree) where
  range_is : tree.local.range ≡ p.range
  range_is = is.projected.shape.range

  total_is : D.ranks_of tree (pos n) ≡ total p.roles (pos n)
  total_is = sym (total_same p (program_of tree.local) (pos n) is.projected.shape)

  within : IsNumber tree.local.range (pos n) → IsIn p.range (pos n)
  within there = subst (λ (range : NRange). IsIn range (pos n)) range_is (inside tree.local.range n there)

  without : (IsNumber tree.local.range (pos n) → ⊥) → IsIn p.range (pos n) → ⊥
  without none there = none (number tree.local.range n (subst (λ (range : NRange). IsIn range (pos n)) (sym range_is) there))

  may_run : Starts tree n → MayRun p n
  may_run starts = record { within = within starts.number; few = subst (λ (count : ℕ). count ≤ 1024) total_is starts.few }

  module _ (may : MayRun p n) where
    all_ranks : AllRanks (ranks_of p tree n)
    all_ranks = (is.does (pos n) may.within (let few = may.few in omega (arith, few))).1

    module _ (post : ℕ → ℕ → ℕ → Type 0) (seed : ℕ) (modes : Modes) where
      module _ (turns : List Turn) (w : List (ℕ × Action)) (x : Seen) (play : IsPlay tree (pos n) post (drawn seed modes) turns w x) where
        begins : Begins p tree n w
        begins = all_ranks.covered w (world_of x.state) (reaches p tree n post (drawn seed modes) turns w x play)

        -- the rank that is drawn has a step
        never_unready : (t : ℕ) → IsUnready tree (pos n) (drawn seed modes) t x → ⊥
        never_unready t held = drawn_has_a_step tree (pos n) seed modes t x play.tree_is play.n_is held

      carried : (most : ℕ) (Q P : List Turn → List (ℕ × Action) → Seen → Type 0)
          → ((turns : List Turn) (w : List (ℕ × Action)) (x : Seen) → IsPlay tree (pos n) post (drawn seed modes) turns w x → Q turns w x → P turns w x)
          → Ran tree (pos n) post (drawn seed modes) most Q → Ran tree (pos n) post (drawn seed modes) most (λ turns w x. Begins p tree n w × P turns w x)
      carried most Q P to ran = record {
        turns = ran.turns;
        w = ran.w;
        x = ran.x;
        play = ran.play;
        few = ran.few;
        is = (begins ran.turns ran.w ran.x ran.play, to ran.turns ran.w ran.x ran.play ran.is);
      }

  module _ (post : ℕ → ℕ → ℕ → Type 0) (seed : ℕ) (modes : Modes) (most : ℕ) (shown : Shown) where
    reply : (status : Status) (text : List ℕ) → A.IsReply tree n post (drawn seed modes) most shown seed status text → IsRunReply p tree n post (drawn seed modes) most shown seed status text
    reply S.Done text (starts, (body, ran, same)) =
        let may = may_run starts in
        (may, (body, carried may post seed modes most _ _ (λ turns w x play q. (whole p tree n post (drawn seed modes) turns w x play (all_ranks may) (q.0 (sequence_of p (pos n))).0, q.2)) ran, same))
    reply S.Turns text (starts, (body, ran, same)) =
        let may = may_run starts in
        (may, (body, carried may post seed modes most _ _ (λ turns w x play q. (q.0 (sequence_of p (pos n)), q.1, q.3)) ran, same))
    reply S.Limit text (inl (starts, (body, ran, same))) =
        let may = may_run starts in
        inl (may, (body, carried may post seed modes most _ _ (λ turns w x play q. q) ran, same))
    reply S.Limit text (inr (there, many, same)) = inr (within there, subst (λ (count : ℕ). 1024 < count) total_is many, same)
    reply S.OutOfRange text (none, same) = (without none, subst (λ (range : NRange). text ≡ line_of (refusal.OutOfRange n range)) range_is same)
    reply S.NoMemory text (inl same) = inl same
    reply S.NoMemory text (inr (starts, (body, ran, same))) =
        let may = may_run starts in
        inr (may, (body, carried may post seed modes most _ _ (λ turns w x play q. q) ran, same))
    reply S.Stuck text (rank, cause, (starts, (body, ran, same))) =
        absurd (never_stuck p tree n post (drawn seed modes) ran.turns ran.w ran.x ran.play (all_ranks (may_run starts)) rank cause ran.is.0)
    reply S.Schedule text (t, (starts, (body, ran, same))) =
        absurd (never_unready (may_run starts) post seed modes ran.turns ran.w ran.x ran.play t ran.is.1)
    reply other text is = absurd is

    says : (result : Status) (old new : Option (List ℕ)) → A.SaysReply tree n post (drawn seed modes) most shown seed result old new → SaysRunReply p tree n post (drawn seed modes) most shown seed result old new
    says result old new (inl (status, text, belongs, said)) = inl (status, text, reply status text belongs, said)
    says result old new (inr (fails, (text, starts, far, front))) =
        let may = may_run starts in
        inr (fails, (text, (may, (text, carried may post seed modes most _ _ (λ turns w x play q. q) far, sym (append-nil text))), front))

module _ (post : ℕ → ℕ → ℕ → ℕ → Type 0) (unread : List ℕ → Type 0) (name : List ℕ) (options : Options) (holds : Option (List File)) (result : Status) (old new : Option (List ℕ)) where
  pub ran : (tree : CTree) → IsTreeOf name holds tree
      → A.SaysReply tree options.n (post options.seed) (drawn options.seed options.modes) options.turns options.shown options.seed result old new → SaysRun post unread name options holds result old new
  ran tree is told = inr (
    is.bytes,
    is.protocol,
    tree,
    is.content,
    is.short,
    is.compiled,
    says is.bytes is.protocol tree options.n is.compiled (post options.seed) options.seed options.modes options.turns options.shown result old new told,
  )

  pub denied : (why : Refusal) → (why ≡ refusal.ReadFault → unread name) → IsFileRefusal name holds (status_of why) (line_of why) → Says (status_of why) (line_of why) result old new → SaysRun post unread name options holds result old new
  denied why read is said = inl (status_of why, line_of why, (λ e. read (fault_is why e), is), said)
