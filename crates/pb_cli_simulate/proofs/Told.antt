-- What is told of a simulation, and what was written with it.
use Rattle.std.proofs.Common.{◌≡◌, ℕ, ℤ, pos, ◌≤◌, ◌⊎◌, inl, inr, List, [], ◌∷◌, ◌++◌, Option, Result, refl, sym, subst, ◌∙◌, take, append-nil, arith}
use Rattle.std.specs.Io.KnownBytes.{Appends}
use Rattle.pb_io.specs.Sinks.{AppendsFront}
use Rattle.pb_cli_status.proofs.Fronts.{appends_both, front_both}
use Rattle.pb_cli_status.specs.Lines as L
use Rattle.pb_cli_status.specs.declared.status.Status.{Status}
use Rattle.pb_cli_status.specs.declared.status.Status.TheVariants as S
use Rattle.pb_ctree.specs.declared.tree.CTree.{CTree}
use Rattle.pb_local.specs.Tree.{program_of}
use Rattle.pb_cli_words.specs.declared.options.Shown.{Shown}
use Rattle.pb_sim.specs.declared.outcomes.SimFault.{SimFault}
use Rattle.pb_sim.specs.declared.outcomes.SimFault.TheVariants as F
use Rattle.pb_sim.specs.declared.seen.Seen.{Seen}
use Rattle.pb_sim.specs.Made.{IsBegun, IsNoStart}
use Rattle.pb_sim_play.specs.declared.ending.Ending.{Ending}
use Rattle.pb_sim_play.specs.declared.ending.Ending.TheVariants as E
use Rattle.pb_sim_play.specs.Plans.{Source}
use Rattle.pb_sim_play.specs.Endings.{EndsWith, IsSoFar, Tells}
use Rattle.pb_cli_status.specs.Written.{Says}
use Rattle.pb_cli_simulate.specs.Endings.{last_line, status_of, IsEarly}
use Rattle.pb_cli_simulate.specs.Replies.{Starts, IsTold, IsReply, SaysReply, refusal_of}

-- the last line behind what was written before
behind : (status result : Status) (body line : List ℕ) (old middle new : Option (List ℕ)) → Appends old middle body → Says status line result middle new → Says status (body ++ line) result old new
behind status result body line old middle new before (inl (is, now)) = inl (is, appends_both old middle new body line before now)
behind status result body line old middle new before (inr (is, front)) = inr (is, front_both old middle new body line before front)

module _ (tree : CTree) (n : ℕ) (post : ℕ → ℕ → ℕ → Type 0) (source : Source) (most : ℕ) (shown : Shown) (seed : ℕ) where
  -- an early refusal is told by its number
  pub early : (most ≤ 1000000) → (ending : Ending) (old new : Option (List ℕ)) → Tells tree (pos n) post source most shown seed ending old new → IsEarly ending
  early few E.Ended old new tells = tt
  early few (E.Stuck rank cause) old new tells = tt
  early few E.Turns old new tells = tt
  early few (E.Refused t) old new (text, ran, went) = let e = ran.is.0 in let f = ran.few in omega (arith, e, f, few)
  early few E.Full old new tells = tt
  early few E.NoMemory old new tells = tt
  early few E.WriteFault old new tells = tt

  module _ (starts : Starts tree n) (old middle new : Option (List ℕ)) (result : Status) where
    said : (ending : Ending) (text : List ℕ) → (IsTold tree n post source most shown seed ending (text ++ last_line (program_of tree.local) most shown ending) → IsReply tree n post source most shown seed (status_of ending) (text ++ last_line (program_of tree.local) most shown ending))
        → EndsWith tree (pos n) post source most shown seed ending text → Appends old middle text
        → Says (status_of ending) (last_line (program_of tree.local) most shown ending) result middle new → SaysReply tree n post source most shown seed result old new
    said ending text as_reply ends went says =
        let line = last_line (program_of tree.local) most shown ending in
        inl (status_of ending, text ++ line, as_reply (starts, (text, ends, refl)), behind (status_of ending) result text line old middle new went says)

    broken : (text : List ℕ) → IsSoFar tree (pos n) post source most shown seed text → AppendsFront old middle text → Says S.WriteFault [] result middle new → SaysReply tree n post source most shown seed result old new
    broken text far front (inl (is, now)) = inr (is, (text, starts, far, nothing_more old middle new text front now)) where
      nothing_more : (old middle new : Option (List ℕ)) (text : List ℕ) → AppendsFront old middle text → Appends middle new [] → AppendsFront old new text
      nothing_more old middle new text front now = record { count = front.count; short = front.short; front = subst (λ (l : List ℕ). Appends old new l) (append-nil (take front.count text)) (appends_both old middle new (take front.count text) [] front.front now) }
    broken text far front (inr (is, rest)) = absurd (no_front rest) where
      no_front : AppendsFront middle new [] → ⊥
      no_front f = let s = f.short in omega (arith, s)

    pub told : (ending : Ending) → Tells tree (pos n) post source most shown seed ending old middle → Says (status_of ending) (last_line (program_of tree.local) most shown ending) result middle new
        → SaysReply tree n post source most shown seed result old new
    told E.Ended (text, ends, went) says = said E.Ended text (λ t. t) ends went says
    told (E.Stuck rank cause) (text, ends, went) says = said (E.Stuck rank cause) text (λ t. (rank, cause, t)) ends went says
    told E.Turns (text, ends, went) says = said E.Turns text (λ t. t) ends went says
    told (E.Refused k) (text, ends, went) says = said (E.Refused k) text (λ t. (k, t)) ends went says
    told E.Full (text, ends, went) says = said E.Full text (λ t. inl t) ends went says
    told E.NoMemory (text, ends, went) says = said E.NoMemory text (λ t. inr t) ends went says
    told E.WriteFault (text, far, front) says = broken text far front says

  -- a simulation that isn't begun
  pub denied : (fault : SimFault) (old new : Option (List ℕ)) (result : Status) → IsNoStart tree (pos n) fault
      → Says (L.status_of (refusal_of fault n tree.local.range)) (L.line_of (refusal_of fault n tree.local.range)) result old new → SaysReply tree n post source most shown seed result old new
  denied F.OutOfRange old new result why says = inl (S.OutOfRange, L.line_of (refusal_of F.OutOfRange n tree.local.range), (why, refl), says)
  denied F.TooManyRanks old new result why says = inl (S.Limit, L.line_of (refusal_of F.TooManyRanks n tree.local.range), inr (why.0, why.1, refl), says)
  denied F.NoMemory old new result why says = inl (S.NoMemory, L.line_of (refusal_of F.NoMemory n tree.local.range), inl refl, says)

pub begun_starts : (tree : CTree) (n : ℕ) (x : Seen) → IsBegun tree (pos n) x → Starts tree n
begun_starts tree n x is = record { number = is.number; few = is.few }

-- no reply is a read fault
pub never_read : (tree : CTree) (n : ℕ) (post : ℕ → ℕ → ℕ → Type 0) (source : Source) (most : ℕ) (shown : Shown) (seed : ℕ) (result : Status) (old new : Option (List ℕ))
    → SaysReply tree n post source most shown seed result old new → result ≡ S.ReadFault → ⊥
never_read tree n post source most shown seed result old new (inl (status, text, reply, inl (is, now))) e =
    subst (λ s. IsReply tree n post source most shown seed s text) (sym is ∙ e) reply
never_read tree n post source most shown seed result old new (inl (status, text, reply, inr (is, front))) e = differ (sym is ∙ e) where
  differ : ◌≡◌ {A = Status} S.WriteFault S.ReadFault → ⊥
  differ h = absurd cc
never_read tree n post source most shown seed result old new (inr (is, more)) e = differ (sym is ∙ e) where
  differ : ◌≡◌ {A = Status} S.WriteFault S.ReadFault → ⊥
  differ h = absurd cc
