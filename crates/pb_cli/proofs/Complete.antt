-- Each reply is one of those that may come.
use Rattle.std.proofs.Common.{◌≡◌, ◌≢◌, ◌⊎◌, ℕ, ◌<◌, ◌≤◌, pos, inl, inr, List, [], ◌∷◌, map, length, Option, None, Some, Ok, refl, sym, ap, subst, ◌∙◌, arith}
use Rattle.std.specs.Prelude.{Contains, ◌^◌}
use Rattle.pb_text.specs.declared.limits.TheConstants.{MOST_TEXT_BYTES}
use Rattle.pb_io.specs.Files.{File, content_of}
use Rattle.pb_core_language.specs.Plain.{Protocol}
use Rattle.pb_local.specs.Tree.{Program, program_of}
use Rattle.pb_local.specs.Ranks.{total}
use Rattle.pb_ctree.specs.declared.tree.CTree.{CTree}
use Rattle.pb_cli_words.specs.Request.{Request, check, gen, gen_with, project, sim, replay, run, demo, expand, strips, cost, judge}
use Rattle.pb_cli_words.specs.declared.options.Options.{Options}
use Rattle.pb_cli_words.specs.declared.options.Shown.{Shown}
use Rattle.pb_cli_words.specs.declared.options.Shown.TheVariants.{Log}
use Rattle.pb_cli_words.specs.declared.options.Modes.{Modes}
use Rattle.pb_cli_status.specs.Lines as L
use Rattle.pb_cli_status.specs.declared.refusal.Refusal.{Refusal}
use Rattle.pb_cli_status.specs.declared.refusal.Refusal.TheVariants as refusal
use Rattle.pb_cli_status.specs.declared.status.Status.{Status}
use Rattle.pb_cli_status.specs.declared.status.Status.TheVariants as S
use Rattle.pb_compile.specs.Verdict.{IsAcceptedAs, IsVerdict}
use Rattle.pb_compile.specs.declared.verdict.Verdict.{Verdict}
use Rattle.pb_sched.specs.Outcomes.{IsSchedule}
use Rattle.pb_sched.specs.declared.schedule.Turn.{Turn}
use Rattle.pb_sim.specs.Made.{IsNumber}
use Rattle.pb_sim_play.specs.Plans.{Source, drawn, given, pair_of}
use Rattle.pb_sim_play.specs.declared.ending.Ending.TheVariants as E
use Rattle.pb_cli_simulate.specs.Commands as T
use Rattle.pb_cli_simulate.specs.Sources.{IsTextOf, IsNoText, IsNoSchedule}
use Rattle.pb_cli_simulate.specs.Replies as R
use Rattle.pb_cli_simulate.specs.Replies.{Starts}
use Rattle.pb_cli_file.specs.declared.answer.Wanted.TheVariants as W
use Rattle.pb_cli_status.specs.Written.{Says}
use Rattle.pb_cli_verdict.specs.Refusals.{refusal_of}
use Rattle.pb_ctree.specs.Functions.{functions_of}
use Rattle.pb_kernels.specs.declared.file.NamedBody.{NamedBody}
use Rattle.pb_kernels.specs.Files.{kernel_file}
use Rattle.pb_cli_file.specs.Files.{IsFileReply, IsMeaningOf, Makes, MayRun, OrUnread, SaysOf, most_bytes}
use Rattle.pb_cli_file.specs.Kernels.{HasEach, IsKernelsReply, IsMergeReply, functions_in}
use Rattle.pb_cli_demo.specs.Demo as D
use Rattle.pb_syntax.specs.Tree.{PlainFile}
use Rattle.pb_do_syntax.specs.Calls.{PlainCallFile}
use Rattle.pb_do_syntax.specs.Inlining.{IsInlined}
use Rattle.pb_do_faults.specs.Found.{HasNoFault}
use Rattle.pb_cli_expand.specs.Expand.{IsCallTree, IsExpandReply}
use Rattle.pb_cli_expand.proofs.Complete.{expand_comes}
use Rattle.pb_strips_syntax.specs.Strips.{PlainStripFile}
use Rattle.pb_strips_faults.specs.Found as strips_found
use Rattle.pb_strips_flatten.specs.Excess.{excess_of}
use Rattle.pb_cli_strips.specs.Strips.{IsStripTree, IsStripsReply}
use Rattle.pb_cli_strips.proofs.Complete.{strips_comes}
use Rattle.pb_cli_cost.specs.Cost.{HasCost, IsCostAnswer, IsCostReply}
use Rattle.pb_cli_cost.proofs.Complete.{cost_comes}
use Rattle.pb_cli_judge.specs.Judge.{IsJudgeAnswer, IsJudgeReply, IsKeptLog}
use Rattle.pb_cli_judge.proofs.Complete.{judge_comes}
use Rattle.pb_cli.specs.Reply.{IsUsage}
use Rattle.pb_cli_run.specs.Run.{IsRunReply, SaysRun, SaysRunReply}
use Rattle.pb_cli.specs.Program.{SaysReply}
use Rattle.pb_cli.specs.Complete.{Comes, Completes, IsComplete}
use Rattle.pb_cli_file.proofs.Merged.{functions_same, no_fault}
use Rattle.pb_compile_verdict_laws.proofs.Files.{accepted_has_no_fault, one_meaning}
use Rattle.pb_cli_laws.proofs.Texts.{text_has_no_fault, one_text_tree}
use Rattle.pb_cli_laws.proofs.Schedules.{schedule_has_no_fault}
use Rattle.pb_cli_laws.proofs.Draws.{drawn_has_a_step}

-- ---- statuses

no_memory : (these : List Status) → Comes these S.NoMemory
no_memory these = (0, omega arith, refl)

read_fault : (these : List Status) → Comes these S.ReadFault
read_fault these = (1, omega arith, refl)

write_fault : (these : List Status) → Comes these S.WriteFault
write_fault these = (2, omega arith, refl)

first : (status : Status) (more : List Status) → Comes (status ∷ more) status
first status more = (3, omega arith, refl)

second : (a status : Status) (more : List Status) → Comes (a ∷ status ∷ more) status
second a status more = (4, omega arith, refl)

third : (a b status : Status) (more : List Status) → Comes (a ∷ b ∷ status ∷ more) status
third a b status more = (5, omega arith, refl)

fourth : (a b c status : Status) (more : List Status) → Comes (a ∷ b ∷ c ∷ status ∷ more) status
fourth a b c status more = (6, omega arith, refl)

fifth : (a b c d status : Status) (more : List Status) → Comes (a ∷ b ∷ c ∷ d ∷ status ∷ more) status
fifth a b c d status more = (7, omega arith, refl)

-- what is said is the status, or a write failed
said : (these : List Status) (status result : Status) (text : List ℕ) (old new : Option (List ℕ)) → Comes these status → Says status text result old new → Comes these result
said these status result text old new is (inl (same, went)) = subst (Comes these) (sym same) is
said these status result text old new is (inr (same, front)) = subst (Comes these) (sym same) (write_fault these)

broken_off : (these : List Status) (result : Status) → result ≡ S.WriteFault → Comes these result
broken_off these result same = subst (Comes these) (sym same) (write_fault these)

-- whatever is told of a read fault
plainly : (unread : Type 0) (Belong : Status → List ℕ → Type 0) (result : Status) (old new : Option (List ℕ)) → SaysOf (OrUnread unread Belong) result old new → SaysOf Belong result old new
plainly unread Belong result old new (status, text, reply, says) = (status, text, reply.1, says)

untaken : (IsOf : Refusal → Type 0) (IsRefused : List ℕ → Refusal → Type 0) (unread : List ℕ → Type 0) (name : List ℕ) (holds : Option (List File)) (result : Status) (old new : Option (List ℕ))
    → T.Refuses (T.IsDenied IsOf IsRefused unread name holds) result old new → T.Refuses (T.IsUntaken IsRefused name holds) result old new
untaken IsOf IsRefused unread name holds result old new (why, is, says) = (why, is.untaken, says)

-- ---- usage

abbrev NotUsage : Status → Type 0
NotUsage S.Usage = ⊥
NotUsage other = Unit {0}

never : (status : Status) → NotUsage status → status ≢ S.Usage
never status is e = subst NotUsage e is

said_not : (status result : Status) (text : List ℕ) (old new : Option (List ℕ)) → NotUsage status → Says status text result old new → result ≢ S.Usage
said_not status result text old new is (inl (same, went)) = never result (subst NotUsage (sym same) is)
said_not status result text old new is (inr (same, front)) = never result (subst NotUsage (sym same) tt)

-- ---- protocol files

file_not : (IsText : List ℕ → List ℕ → Type 0) (name : List ℕ) (holds : Option (List File)) (status : Status) (text : List ℕ) → IsFileReply IsText name holds status text → NotUsage status
file_not IsText name holds S.Usage text reply = absurd reply
file_not IsText name holds other text reply = tt

refused_is : S.Refused ≡ S.NoMemory → ⊥
refused_is e = absurd cc

limit_is : S.Limit ≡ S.NoMemory → ⊥
limit_is e = absurd cc

module _ (IsText : List ℕ → List ℕ → Type 0) (name : List ℕ) (files : List File) (p : Protocol) (few : length (content_of files name) ≤ most_bytes) (is : IsAcceptedAs (content_of files name) p)
    (these : List Status) where
  -- the verdict is want of memory alone
  only : (v : Verdict) (status : Status) → IsVerdict (content_of files name) v → status ≡ L.status_of (refusal_of v) → status ≡ S.NoMemory
  only v status told same = same ∙ ap (λ (w : Verdict). L.status_of (refusal_of w)) (accepted_has_no_fault (content_of files name) p is v told)

  file_comes : Comes these S.Done → (status : Status) (text : List ℕ) → IsFileReply IsText name (Some files) status text → Comes these status
  file_comes done S.Done text reply = done
  file_comes done S.NoMemory text reply = no_memory these
  file_comes done S.ReadFault text reply = read_fault these
  file_comes done S.Refused text (v, told, same, line) = absurd (refused_is (only v S.Refused told.1 same))
  file_comes done S.Limit text (inl (more, line)) = absurd (omega (arith, few, more))
  file_comes done S.Limit text (inr (v, told, same, line)) = absurd (limit_is (only v S.Limit told.1 same))
  file_comes done other text reply = absurd reply

module _ (IsText : List ℕ → List ℕ → Type 0) (name : List ℕ) (result : Status) (old new : Option (List ℕ)) where
  file_complete : (holds : Option (List File)) → SaysOf (IsFileReply IsText name holds) result old new → (result ≢ S.Usage) × Completes (check name) holds result
  file_complete None (status, text, reply, says) = (said_not status result text old new (file_not IsText name None status text reply) says, tt)
  file_complete (Some files) (status, text, reply, says) = (
    said_not status result text old new (file_not IsText name (Some files) status text reply) says,
    λ p few is. said (S.Done ∷ []) status result text old new (file_comes IsText name files p few is (S.Done ∷ []) (first S.Done []) status text reply) says,
  )

-- ---- protocol files with kernel files

kernels_not : (tree : CTree) (kernels : List ℕ) (holds : Option (List File)) (status : Status) (text : List ℕ) → IsKernelsReply tree kernels holds status text → NotUsage status
kernels_not tree kernels holds S.Usage text reply = absurd reply
kernels_not tree kernels holds other text reply = tt

merge_not : (name kernels : List ℕ) (holds : Option (List File)) (status : Status) (text : List ℕ) → IsMergeReply name kernels holds status text → NotUsage status
merge_not name kernels holds status text (inl is) = file_not (λ bytes written. ⊥) name holds status text is.1
merge_not name kernels holds status text (inr (tree, of, is)) = kernels_not tree kernels holds status text is

module _ (kernels : List ℕ) (files : List File) (p : Protocol) (tree : CTree) (same : functions_of (program_of tree.local) ≡ functions_in p) (few : length (content_of files kernels) ≤ most_bytes)
    (file : List NamedBody) (read : kernel_file (content_of files kernels) ≡ Ok file) (has : HasEach (functions_in p) file) where
  kernels_come : (status : Status) (text : List ℕ) → IsKernelsReply tree kernels (Some files) status text → Comes (S.Done ∷ []) status
  kernels_come S.Done text reply = first S.Done []
  kernels_come S.Kernel text (f, is, line) = absurd (no_fault (content_of files kernels) p tree same file read has f is.1)
  kernels_come S.Limit text (more, line) = absurd (omega (arith, few, more))
  kernels_come S.ReadFault text reply = read_fault (S.Done ∷ [])
  kernels_come S.NoMemory text reply = no_memory (S.Done ∷ [])
  kernels_come other text reply = absurd reply

module _ (name kernels : List ℕ) (result : Status) (old new : Option (List ℕ)) where
  merge_comes : (files : List File) (p : Protocol) → length (content_of files name) ≤ most_bytes → IsAcceptedAs (content_of files name) p → (file : List NamedBody) → length (content_of files kernels) ≤ most_bytes
      → kernel_file (content_of files kernels) ≡ Ok file → HasEach (functions_in p) file → (status : Status) (text : List ℕ) → IsMergeReply name kernels (Some files) status text → Comes (S.Done ∷ []) status
  merge_comes files p few is file short read has status text (inl reply) = file_comes (λ bytes written. ⊥) name files p few is (S.Done ∷ []) (first S.Done []) status text reply.1
  merge_comes files p few is file short read has status text (inr (tree, of, reply)) =
      let own : of.protocol ≡ p = one_meaning of.bytes of.protocol p of.compiled.accepted (subst (λ (b : List ℕ). IsAcceptedAs b p) (sym of.content) is) in
      let same : functions_of (program_of tree.local) ≡ functions_in p = functions_same of.bytes of.protocol tree of.compiled ∙ ap functions_in own in
      kernels_come kernels files p tree same short file read has status text reply

  merge_complete : (holds : Option (List File)) → SaysOf (IsMergeReply name kernels holds) result old new → (result ≢ S.Usage) × Completes (gen_with name kernels) holds result
  merge_complete None (status, text, reply, says) = (said_not status result text old new (merge_not name kernels None status text reply) says, tt)
  merge_complete (Some files) (status, text, reply, says) = (
    said_not status result text old new (merge_not name kernels (Some files) status text reply) says,
    λ p few is file short read has. said (S.Done ∷ []) status result text old new (merge_comes files p few is file short read has status text reply) says,
  )

-- ---- runs of protocol files

run_not : (p : Protocol) (tree : CTree) (n : ℕ) (post : ℕ → ℕ → ℕ → Type 0) (source : Source) (most : ℕ) (shown : Shown) (seed : ℕ) (status : Status) (text : List ℕ)
    → IsRunReply p tree n post source most shown seed status text → NotUsage status
run_not p tree n post source most shown seed S.Usage text reply = absurd reply
run_not p tree n post source most shown seed other text reply = tt

abbrev run_statuses : List Status
run_statuses = S.Done ∷ S.Turns ∷ S.Limit ∷ []

run_comes : (p : Protocol) (tree : CTree) (n : ℕ) (post : ℕ → ℕ → ℕ → Type 0) (source : Source) (most : ℕ) (shown : Shown) (seed : ℕ) → MayRun p n → (status : Status) (text : List ℕ)
    → IsRunReply p tree n post source most shown seed status text → Comes run_statuses status
run_comes p tree n post source most shown seed may S.Done text reply = first S.Done (S.Turns ∷ S.Limit ∷ [])
run_comes p tree n post source most shown seed may S.Turns text reply = second S.Done S.Turns (S.Limit ∷ [])
run_comes p tree n post source most shown seed may S.Limit text reply = third S.Done S.Turns S.Limit []
run_comes p tree n post source most shown seed may S.NoMemory text reply = no_memory run_statuses
run_comes p tree n post source most shown seed may S.OutOfRange text reply = absurd (reply.0 may.within)
run_comes p tree n post source most shown seed may other text reply = absurd reply

module _ (p : Protocol) (tree : CTree) (n : ℕ) (post : ℕ → ℕ → ℕ → Type 0) (source : Source) (most : ℕ) (shown : Shown) (seed : ℕ) (result : Status) (old new : Option (List ℕ)) where
  run_reply : SaysRunReply p tree n post source most shown seed result old new → (result ≢ S.Usage) × (MayRun p n → Comes run_statuses result)
  run_reply (inl (status, text, reply, says)) = (
    said_not status result text old new (run_not p tree n post source most shown seed status text reply) says,
    λ may. said run_statuses status result text old new (run_comes p tree n post source most shown seed may status text reply) says,
  )
  run_reply (inr (same, rest)) = (never result (subst NotUsage (sym same) tt), λ may. broken_off run_statuses result same)

run_complete : (post : ℕ → ℕ → ℕ → ℕ → Type 0) (unread : List ℕ → Type 0) (name : List ℕ) (options : Options) (holds : Option (List File)) (result : Status) (old new : Option (List ℕ))
    → SaysRun post unread name options holds result old new → (result ≢ S.Usage) × Completes (run name options) holds result
run_complete post unread name options None result old new (inl (status, text, reply, says)) =
    (said_not status result text old new (file_not (λ bytes written. ⊥) name None status text reply.1.1) says, tt)
run_complete post unread name options (Some files) result old new (inl (status, text, reply, says)) = (
  said_not status result text old new (file_not (λ bytes written. ⊥) name (Some files) status text reply.1.1) says,
  λ p few is may. said run_statuses status result text old new
      (file_comes (λ bytes written. ⊥) name files p few is run_statuses (first S.Done (S.Turns ∷ S.Limit ∷ [])) status text reply.1.1) says,
)
run_complete post unread name options None result old new (inr (bytes, p, tree, content, short, compiled, reply)) =
    ((run_reply p tree options.n (post options.seed) (drawn options.seed options.modes) options.turns options.shown options.seed result old new reply).0, tt)
run_complete post unread name options (Some files) result old new (inr (bytes, p, tree, content, short, compiled, reply)) =
    let r = run_reply p tree options.n (post options.seed) (drawn options.seed options.modes) options.turns options.shown options.seed result old new reply in
    (r.0, λ q few is may. r.1 (subst (λ (x : Protocol). MayRun x options.n) (one_meaning bytes q p (subst (λ (b : List ℕ). IsAcceptedAs b q) (sym content) is) compiled.accepted) may))

-- ---- simulations

abbrev sim_statuses : List Status → List Status
sim_statuses more = S.Done ∷ S.Stuck ∷ S.Turns ∷ S.Limit ∷ more

-- why a text isn't taken
untaken_not : (IsRefused : List ℕ → Refusal → Type 0) (name : List ℕ) (holds : Option (List File)) (why : Refusal) → T.IsUntaken IsRefused name holds why → NotUsage (L.status_of why)
untaken_not IsRefused name holds refusal.ReadFault is = tt
untaken_not IsRefused name holds refusal.NoMemory is = tt
untaken_not IsRefused name holds refusal.FileBytes is = tt
untaken_not IsRefused name holds (refusal.Text place) is = tt
untaken_not IsRefused name holds (refusal.Limit limit place) is = tt
untaken_not IsRefused name holds (refusal.Schedule line) is = tt
untaken_not IsRefused name holds refusal.Events is = tt
untaken_not IsRefused name holds other is = absurd is

-- where want of memory alone is true of the bytes
module _ (IsRefused : List ℕ → Refusal → Type 0) (name : List ℕ) (files : List File) (few : length (content_of files name) ≤ MOST_TEXT_BYTES)
    (only : (why : Refusal) → IsRefused (content_of files name) why → why ≡ refusal.NoMemory) (these : List Status) where
  by_law : (why : Refusal) → IsRefused (content_of files name) why → Comes these (L.status_of why)
  by_law why is = subst (λ (w : Refusal). Comes these (L.status_of w)) (sym (only why is)) (no_memory these)

  untaken_comes : (why : Refusal) → T.IsUntaken IsRefused name (Some files) why → Comes these (L.status_of why)
  untaken_comes refusal.ReadFault is = read_fault these
  untaken_comes refusal.NoMemory is = no_memory these
  untaken_comes refusal.FileBytes is = absurd (omega (arith, few, is))
  untaken_comes (refusal.Text place) is = by_law (refusal.Text place) is.1
  untaken_comes (refusal.Limit limit place) is = by_law (refusal.Limit limit place) is.1
  untaken_comes (refusal.Schedule line) is = by_law (refusal.Schedule line) is.1
  untaken_comes refusal.Events is = by_law refusal.Events is.1
  untaken_comes other is = absurd is

  refuses_comes : (result : Status) (old new : Option (List ℕ)) → T.Refuses (T.IsUntaken IsRefused name (Some files)) result old new → Comes these result
  refuses_comes result old new (why, is, says) = said these (L.status_of why) result (L.line_of why) old new (untaken_comes why is) says

refuses_not : (IsRefused : List ℕ → Refusal → Type 0) (name : List ℕ) (holds : Option (List File)) (result : Status) (old new : Option (List ℕ))
    → T.Refuses (T.IsUntaken IsRefused name holds) result old new → result ≢ S.Usage
refuses_not IsRefused name holds result old new (why, is, says) = said_not (L.status_of why) result (L.line_of why) old new (untaken_not IsRefused name holds why is) says

module _ (tree : CTree) (n : ℕ) (post : ℕ → ℕ → ℕ → Type 0) (source : Source) (most : ℕ) (shown : Shown) (seed : ℕ) where
  reply_not : (status : Status) (text : List ℕ) → R.IsReply tree n post source most shown seed status text → NotUsage status
  reply_not S.Usage text reply = absurd reply
  reply_not other text reply = tt

  says_not : (result : Status) (old new : Option (List ℕ)) → R.SaysReply tree n post source most shown seed result old new → result ≢ S.Usage
  says_not result old new (inl (status, text, reply, says)) = said_not status result text old new (reply_not status text reply) says
  says_not result old new (inr (same, rest)) = never result (subst NotUsage (sym same) tt)

  module _ (starts : Starts tree n) (more : List Status) (scheduled : (t : ℕ) (text : List ℕ) → R.IsTold tree n post source most shown seed (E.Refused t) text → Comes (sim_statuses more) S.Schedule) where
    reply_comes : (status : Status) (text : List ℕ) → R.IsReply tree n post source most shown seed status text → Comes (sim_statuses more) status
    reply_comes S.Done text reply = first S.Done (S.Stuck ∷ S.Turns ∷ S.Limit ∷ more)
    reply_comes S.Stuck text reply = second S.Done S.Stuck (S.Turns ∷ S.Limit ∷ more)
    reply_comes S.Turns text reply = third S.Done S.Stuck S.Turns (S.Limit ∷ more)
    reply_comes S.Limit text reply = fourth S.Done S.Stuck S.Turns S.Limit more
    reply_comes S.Schedule text reply = scheduled reply.0 text reply.1
    reply_comes S.NoMemory text reply = no_memory (sim_statuses more)
    reply_comes S.OutOfRange text reply = absurd (reply.0 starts.number)
    reply_comes other text reply = absurd reply

    says_comes : (result : Status) (old new : Option (List ℕ)) → R.SaysReply tree n post source most shown seed result old new → Comes (sim_statuses more) result
    says_comes result old new (inl (status, text, reply, says)) = said (sim_statuses more) status result text old new (reply_comes status text reply) says
    says_comes result old new (inr (same, rest)) = broken_off (sim_statuses more) result same

-- no rank that a seed draws is refused
never_refused : (tree : CTree) (n : ℕ) (post : ℕ → ℕ → ℕ → Type 0) (draws : ℕ) (modes : Modes) (most : ℕ) (shown : Shown) (seed t : ℕ) (text : List ℕ)
    → R.IsTold tree n post (drawn draws modes) most shown seed (E.Refused t) text → ⊥
never_refused tree n post draws modes most shown seed t text (starts, (body, ran, whole)) =
    drawn_has_a_step tree (pos n) draws modes t ran.x ran.play.tree_is ran.play.n_is ran.is.1

within_64 : (n : ℕ) → n ≤ 67108864 → n < 2 ^ 64
within_64 n few = omega (arith, few)

-- trees of one program start for the same N
starts_too : (t u : CTree) (n : ℕ) → program_of t.local ≡ program_of u.local → Starts t n → Starts u n
starts_too t u n same starts = record {
  number = subst (λ (p : Program). IsNumber p.range (pos n)) same starts.number;
  few = subst (λ (p : Program). total p.roles (pos n) ≤ 1024) same starts.few;
}

module _ (name : List ℕ) (files : List File) (n : ℕ) (t u : CTree) (few : length (content_of files name) ≤ MOST_TEXT_BYTES) where
  starts_here : IsTextOf (content_of files name) t → IsTextOf (content_of files name) u → Starts t n → Starts u n
  starts_here a b starts = starts_too t u n (one_text_tree (content_of files name) t u (within_64 (length (content_of files name)) few) a b) starts

sim_complete : (post : ℕ → ℕ → ℕ → ℕ → Type 0) (unread : List ℕ → Type 0) (name : List ℕ) (options : Options) (holds : Option (List File)) (result : Status) (old new : Option (List ℕ))
    → T.SaysSim post unread name options holds result old new → (result ≢ S.Usage) × Completes (sim name options) holds result
sim_complete post unread name options None result old new (inl refuses) = (refuses_not IsNoText name None result old new (untaken T.IsOfText IsNoText unread name None result old new refuses), tt)
sim_complete post unread name options None result old new (inr (u, told, says)) =
    (says_not u options.n (post options.seed) (drawn options.seed options.modes) options.turns options.shown options.seed result old new says, tt)
sim_complete post unread name options (Some files) result old new (inl refuses) = (
  refuses_not IsNoText name (Some files) result old new (untaken T.IsOfText IsNoText unread name (Some files) result old new refuses),
  λ t few is starts. refuses_comes IsNoText name files few (text_has_no_fault (content_of files name) t is) (sim_statuses []) result old new (untaken T.IsOfText IsNoText unread name (Some files) result old new refuses),
)
sim_complete post unread name options (Some files) result old new (inr (u, told, says)) = (
  says_not u options.n (post options.seed) (drawn options.seed options.modes) options.turns options.shown options.seed result old new says,
  λ t few is starts. says_comes u options.n (post options.seed) (drawn options.seed options.modes) options.turns options.shown options.seed (starts_here name files options.n t u few is told.1 starts) []
      (λ k text reply. absurd (never_refused u options.n (post options.seed) options.seed options.modes options.turns options.shown options.seed k text reply)) result old new says,
)

-- ---- simulations by a schedule

module _ (post : ℕ → ℕ → ℕ → ℕ → Type 0) (unread : List ℕ → Type 0) (name schedule : List ℕ) (n : ℕ) (result : Status) (old new : Option (List ℕ)) where
  replay_not : (holds : Option (List File)) → T.SaysReplay post unread name schedule n holds result old new → result ≢ S.Usage
  replay_not holds (inl refuses) = refuses_not IsNoText name holds result old new (untaken T.IsOfText IsNoText unread name holds result old new refuses)
  replay_not holds (inr (u, told, inl refuses)) = refuses_not IsNoSchedule schedule holds result old new (untaken T.IsOfSchedule IsNoSchedule unread schedule holds result old new refuses)
  replay_not holds (inr (u, told, inr (seed, turns, read, says))) = says_not u n (post seed) (given (map pair_of turns)) (length turns) Log 0 result old new says

  replay_complete : (holds : Option (List File)) → T.SaysReplay post unread name schedule n holds result old new → (result ≢ S.Usage) × Completes (replay name schedule n) holds result
  replay_complete None said = (replay_not None said, tt)
  replay_complete (Some files) said = (replay_not (Some files) said, λ t few is starts seed turns short read. on t few is starts seed turns short read said) where
    on : (t : CTree) → length (content_of files name) ≤ MOST_TEXT_BYTES → IsTextOf (content_of files name) t → Starts t n → (seed : ℕ) (turns : List Turn) → length (content_of files schedule) ≤ MOST_TEXT_BYTES
        → IsSchedule (content_of files schedule) seed turns → T.SaysReplay post unread name schedule n (Some files) result old new → Comes (sim_statuses (S.Schedule ∷ [])) result
    on t few is starts seed turns short read (inl refuses) = refuses_comes IsNoText name files few (text_has_no_fault (content_of files name) t is) (sim_statuses (S.Schedule ∷ [])) result old new (untaken T.IsOfText IsNoText unread name (Some files) result old new refuses)
    on t few is starts seed turns short read (inr (u, told, inl refuses)) =
        refuses_comes IsNoSchedule schedule files short (schedule_has_no_fault (content_of files schedule) seed turns read) (sim_statuses (S.Schedule ∷ [])) result old new (untaken T.IsOfSchedule IsNoSchedule unread schedule (Some files) result old new refuses)
    on t few is starts seed turns short read (inr (u, told, inr (other, others, own, says))) =
        says_comes u n (post other) (given (map pair_of others)) (length others) Log 0 (starts_here name files n t u few is told.1 starts) (S.Schedule ∷ [])
        (λ k text reply. fifth S.Done S.Stuck S.Turns S.Limit S.Schedule []) result old new says

-- ---- demos

module _ (post : ℕ → ℕ → ℕ → Type 0) (count : ℕ) where
  demo_not : (status : Status) (text : List ℕ) → D.IsReply post count status text → NotUsage status
  demo_not S.Usage text reply = absurd reply
  demo_not other text reply = tt

  abbrev demo_statuses : List Status
  demo_statuses = S.Done ∷ S.Refused ∷ S.Limit ∷ S.Turns ∷ []

  demo_comes : (status : Status) (text : List ℕ) → D.IsReply post count status text → Comes demo_statuses status
  demo_comes S.Done text reply = first S.Done (S.Refused ∷ S.Limit ∷ S.Turns ∷ [])
  demo_comes S.Refused text reply = second S.Done S.Refused (S.Limit ∷ S.Turns ∷ [])
  demo_comes S.Limit text reply = third S.Done S.Refused S.Limit (S.Turns ∷ [])
  demo_comes S.Turns text reply = fourth S.Done S.Refused S.Limit S.Turns []
  demo_comes S.NoMemory text reply = no_memory demo_statuses
  demo_comes other text reply = absurd reply

  demo_complete : (holds : Option (List File)) (result : Status) (old new : Option (List ℕ)) → D.SaysDemo post count result old new → (result ≢ S.Usage) × Completes (demo count) holds result
  demo_complete holds result old new (status, text, reply, says) = (
    said_not status result text old new (demo_not status text reply) says,
    said demo_statuses status result text old new (demo_comes status text reply) says,
  )

-- ---- done, unless memory is wanting or the file couldn't be read

done_only : (status : Status) → (status ≡ S.Done) ⊎ (status ≡ S.NoMemory) → Comes (S.Done ∷ []) status
done_only status (inl e) = subst (Comes (S.Done ∷ [])) (sym e) (first S.Done [])
done_only status (inr e) = subst (Comes (S.Done ∷ [])) (sym e) (no_memory (S.Done ∷ []))

done_or_unread : (status : Status) → (status ≡ S.Done) ⊎ ((status ≡ S.NoMemory) ⊎ (status ≡ S.ReadFault)) → Comes (S.Done ∷ []) status
done_or_unread status (inl e) = done_only status (inl e)
done_or_unread status (inr (inl e)) = done_only status (inr e)
done_or_unread status (inr (inr e)) = subst (Comes (S.Done ∷ [])) (sym e) (read_fault (S.Done ∷ []))

-- ---- files with subprotocols

expand_not : (name : List ℕ) (holds : Option (List File)) (status : Status) (text : List ℕ) → IsExpandReply name holds status text → NotUsage status
expand_not name holds S.Usage text reply = absurd reply
expand_not name holds other text reply = tt

module _ (name : List ℕ) where
  expand_done : (files : List File) (calls : PlainCallFile) (file : PlainFile) → length (content_of files name) ≤ most_bytes → IsCallTree (content_of files name) calls → HasNoFault calls → IsInlined calls file
      → (status : Status) (text : List ℕ) → IsExpandReply name (Some files) status text → Comes (S.Done ∷ []) status
  expand_done files calls file short read sound is status text reply = done_or_unread status (expand_comes name files calls file short read sound is status text reply)

  expand_complete : (result : Status) (old new : Option (List ℕ)) (holds : Option (List File)) → SaysOf (IsExpandReply name holds) result old new → (result ≢ S.Usage) × Completes (expand name) holds result
  expand_complete result old new None (status, text, reply, says) = (said_not status result text old new (expand_not name None status text reply) says, tt)
  expand_complete result old new (Some files) (status, text, reply, says) = (
    said_not status result text old new (expand_not name (Some files) status text reply) says,
    λ calls file short read sound is. said (S.Done ∷ []) status result text old new (expand_done files calls file short read sound is status text reply) says,
  )

-- ---- files with strips

strips_not : (name : List ℕ) (holds : Option (List File)) (status : Status) (text : List ℕ) → IsStripsReply name holds status text → NotUsage status
strips_not name holds S.Usage text reply = absurd reply
strips_not name holds other text reply = tt

module _ (name : List ℕ) where
  strips_done : (files : List File) (f : PlainStripFile) → length (content_of files name) ≤ most_bytes → IsStripTree (content_of files name) f → strips_found.HasNoFault f → excess_of f ≡ None
      → (status : Status) (text : List ℕ) → IsStripsReply name (Some files) status text → Comes (S.Done ∷ []) status
  strips_done files f short read sound small status text reply = done_or_unread status (strips_comes name files f short read sound small status text reply)

  strips_complete : (result : Status) (old new : Option (List ℕ)) (holds : Option (List File)) → SaysOf (IsStripsReply name holds) result old new → (result ≢ S.Usage) × Completes (strips name) holds result
  strips_complete result old new None (status, text, reply, says) = (said_not status result text old new (strips_not name None status text reply) says, tt)
  strips_complete result old new (Some files) (status, text, reply, says) = (
    said_not status result text old new (strips_not name (Some files) status text reply) says,
    λ f short read sound small. said (S.Done ∷ []) status result text old new (strips_done files f short read sound small status text reply) says,
  )

-- ---- costs

cost_answer_not : (p : Protocol) (status : Status) (text : List ℕ) → IsCostAnswer p status text → NotUsage status
cost_answer_not p S.Usage text is = absurd is
cost_answer_not p other text is = tt

-- the meaning of the file is that protocol
meant : (name : List ℕ) (files : List File) (p q : Protocol) → IsAcceptedAs (content_of files name) p → IsMeaningOf name (Some files) q → p ≡ q
meant name files p q is of = one_meaning of.bytes p q (subst (λ (b : List ℕ). IsAcceptedAs b p) (sym of.content) is) of.accepted

module _ (unread : List ℕ → Type 0) (name : List ℕ) where
  cost_not : (holds : Option (List File)) (status : Status) (text : List ℕ) → IsCostReply unread name holds status text → NotUsage status
  cost_not holds status text (inl is) = file_not (λ bytes written. ⊥) name holds status text is.1.1
  cost_not holds status text (inr (q, of, is)) = cost_answer_not q status text is

  cost_done : (files : List File) (p : Protocol) → length (content_of files name) ≤ most_bytes → IsAcceptedAs (content_of files name) p → HasCost p
      → (status : Status) (text : List ℕ) → IsCostReply unread name (Some files) status text → Comes (S.Done ∷ []) status
  cost_done files p few is has status text (inl reply) = file_comes (λ bytes written. ⊥) name files p few is (S.Done ∷ []) (first S.Done []) status text reply.1.1
  cost_done files p few is has status text (inr (q, of, reply)) = done_only status (cost_comes q (subst HasCost (meant name files p q is of) has) status text reply)

  cost_complete : (result : Status) (old new : Option (List ℕ)) (holds : Option (List File)) → SaysOf (IsCostReply unread name holds) result old new → (result ≢ S.Usage) × Completes (cost name) holds result
  cost_complete result old new None (status, text, reply, says) = (said_not status result text old new (cost_not None status text reply) says, tt)
  cost_complete result old new (Some files) (status, text, reply, says) = (
    said_not status result text old new (cost_not (Some files) status text reply) says,
    λ p few is has. said (S.Done ∷ []) status result text old new (cost_done files p few is has status text reply) says,
  )

-- ---- rulings on logs

judge_answer_not : (unread : List ℕ → Type 0) (p : Protocol) (n : ℕ) (log : List ℕ) (holds : Option (List File)) (status : Status) (text : List ℕ)
    → IsJudgeAnswer unread p n log holds status text → NotUsage status
judge_answer_not unread p n log holds S.Usage text is = absurd is
judge_answer_not unread p n log holds other text is = tt

module _ (unread : List ℕ → Type 0) (name log : List ℕ) (n : ℕ) where
  judge_not : (holds : Option (List File)) (status : Status) (text : List ℕ) → IsJudgeReply unread name log n holds status text → NotUsage status
  judge_not holds status text (inl is) = file_not (λ bytes written. ⊥) name holds status text is.1.1
  judge_not holds status text (inr (q, of, is)) = judge_answer_not unread q n log holds status text is

  judge_done : (files : List File) (p : Protocol) → length (content_of files name) ≤ most_bytes → IsAcceptedAs (content_of files name) p → MayRun p n
      → length (content_of files log) ≤ MOST_TEXT_BYTES → IsKeptLog p n (content_of files log)
      → (status : Status) (text : List ℕ) → IsJudgeReply unread name log n (Some files) status text → Comes (S.Done ∷ []) status
  judge_done files p few is may short kept status text (inl reply) = file_comes (λ bytes written. ⊥) name files p few is (S.Done ∷ []) (first S.Done []) status text reply.1.1
  judge_done files p few is may short kept status text (inr (q, of, reply)) =
      let own = meant name files p q is of in
      done_or_unread status (judge_comes unread of.bytes q of.accepted n (subst (λ (x : Protocol). MayRun x n) own may) log files short
      (subst (λ (x : Protocol). IsKeptLog x n (content_of files log)) own kept) status text reply)

  judge_complete : (result : Status) (old new : Option (List ℕ)) (holds : Option (List File)) → SaysOf (IsJudgeReply unread name log n holds) result old new → (result ≢ S.Usage) × Completes (judge name log n) holds result
  judge_complete result old new None (status, text, reply, says) = (said_not status result text old new (judge_not None status text reply) says, tt)
  judge_complete result old new (Some files) (status, text, reply, says) = (
    said_not status result text old new (judge_not (Some files) status text reply) says,
    λ p few is may short kept. said (S.Done ∷ []) status result text old new (judge_done files p few is may short kept status text reply) says,
  )

-- ---- words in no form

usage_comes : (status : Status) (text : List ℕ) → IsUsage status text → Contains (S.Usage ∷ S.NoMemory ∷ S.WriteFault ∷ []) status
usage_comes S.Usage text is = (0, omega arith, refl)
usage_comes S.NoMemory text is = (1, omega arith, refl)
usage_comes other text is = absurd is

usage_complete : (result : Status) (old new : Option (List ℕ)) → SaysOf IsUsage result old new → Contains (S.Usage ∷ S.NoMemory ∷ S.WriteFault ∷ []) result
usage_complete result old new (status, text, is, inl (same, went)) = subst (Contains (S.Usage ∷ S.NoMemory ∷ S.WriteFault ∷ [])) (sym same) (usage_comes status text is)
usage_complete result old new (status, text, is, inr (same, front)) = subst (Contains (S.Usage ∷ S.NoMemory ∷ S.WriteFault ∷ [])) (sym same) (2, omega arith, refl)

-- ---- the program

pub complete : (post : ℕ → ℕ → ℕ → ℕ → Type 0) (unread : List ℕ → Type 0) (request : Option Request) (holds : Option (List File)) (result : Status) (old new : Option (List ℕ))
    → SaysReply post unread request holds result old new → IsComplete request holds result
complete post unread None holds result old new said = usage_complete result old new said
complete post unread (Some (check name)) holds result old new said = file_complete (Makes W.Verdict) name result old new holds (plainly (unread name) (IsFileReply (Makes W.Verdict) name holds) result old new said)
complete post unread (Some (gen name)) holds result old new said = file_complete (Makes W.Text) name result old new holds (plainly (unread name) (IsFileReply (Makes W.Text) name holds) result old new said)
complete post unread (Some (gen_with name kernels)) holds result old new said = merge_complete name kernels result old new holds said
complete post unread (Some (project name)) holds result old new said = file_complete (Makes W.Layout) name result old new holds (plainly (unread name) (IsFileReply (Makes W.Layout) name holds) result old new said)
complete post unread (Some (sim name options)) holds result old new said = sim_complete post unread name options holds result old new said
complete post unread (Some (replay name schedule n)) holds result old new said = replay_complete post unread name schedule n result old new holds said
complete post unread (Some (run name options)) holds result old new said = run_complete post unread name options holds result old new said
complete post unread (Some (demo count)) holds result old new said = demo_complete (post count) count holds result old new said
complete post unread (Some (expand name)) holds result old new said = expand_complete name result old new holds (plainly (unread name) (IsExpandReply name holds) result old new said)
complete post unread (Some (strips name)) holds result old new said = strips_complete name result old new holds (plainly (unread name) (IsStripsReply name holds) result old new said)
complete post unread (Some (cost name)) holds result old new said = cost_complete unread name result old new holds said
complete post unread (Some (judge name log n)) holds result old new said = judge_complete unread name log n result old new holds said
