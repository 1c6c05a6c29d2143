-- What comes where the words are in a form and the files keep the rules and the limits: all is done, or else memory is wanting or
-- a fault rose. A simulation may be stuck, make all its events, or pass the limit on words in flight. A protocol whose costs are
-- asked for has no loop and few pieces, and a log that is judged is one of its protocol's.
use Rattle.std.specs.Prelude.{◌≡◌, ◌≢◌, ℕ, ◌≤◌, List, [], ◌∷◌, length, Contains, Option, Some, None, Ok}
use Rattle.pb_text.specs.declared.limits.TheConstants.{MOST_TEXT_BYTES}
use Rattle.pb_io.specs.Files.{File}
use Rattle.pb_core_language.specs.Plain.{Protocol}
use Rattle.pb_ctree.specs.declared.tree.CTree.{CTree}
use Rattle.pb_cli_words.specs.Request.{Request, check, gen, gen_with, project, sim, replay, run, demo, expand, strips, cost, judge}
use Rattle.pb_cli_status.specs.declared.status.Status.{Status}
use Rattle.pb_cli_status.specs.declared.status.Status.TheVariants as S
use Rattle.pb_compile.specs.Verdict.{IsAcceptedAs}
use Rattle.pb_sched.specs.Outcomes.{IsSchedule}
use Rattle.pb_sched.specs.declared.schedule.Turn.{Turn}
use Rattle.pb_cli_simulate.specs.Sources.{IsTextOf}
use Rattle.pb_cli_simulate.specs.Replies.{Starts}
use Rattle.pb_kernels.specs.declared.file.NamedBody.{NamedBody}
use Rattle.pb_kernels.specs.Files.{kernel_file}
use Rattle.pb_syntax.specs.Tree.{PlainFile}
use Rattle.pb_do_syntax.specs.Calls.{PlainCallFile}
use Rattle.pb_do_syntax.specs.Inlining.{IsInlined}
use Rattle.pb_do_faults.specs.Found.{HasNoFault}
use Rattle.pb_cli_expand.specs.Expand.{IsCallTree}
use Rattle.pb_strips_syntax.specs.Strips.{PlainStripFile}
use Rattle.pb_strips_faults.specs.Found as strips_found
use Rattle.pb_strips_flatten.specs.Excess.{excess_of}
use Rattle.pb_cli_strips.specs.Strips.{IsStripTree}
use Rattle.pb_cli_cost.specs.Cost.{HasCost}
use Rattle.pb_cli_judge.specs.Judge.{IsKeptLog}
use Rattle.pb_cli_file.specs.Files.{MayRun, OnFile, most_bytes}
use Rattle.pb_cli_file.specs.Kernels.{HasEach, functions_in}

-- one of these, or memory is wanting, or a fault rose
abbrev pub Comes : List Status → Status → Type 0
Comes these result = Contains (S.NoMemory ∷ S.ReadFault ∷ S.WriteFault ∷ these) result

-- where the folder tells that the file is an accepted protocol file
abbrev pub OnAccepted : List ℕ → Option (List File) → (Protocol → Type 0) → Type 0
OnAccepted name holds P = OnFile name holds (λ bytes. (p : Protocol) → length bytes ≤ most_bytes → IsAcceptedAs bytes p → P p)

-- that it is a C text, whose tree can be simulated for this N
abbrev pub OnText : List ℕ → ℕ → Option (List File) → Type 0 → Type 0
OnText name n holds P = OnFile name holds (λ bytes. (tree : CTree) → length bytes ≤ MOST_TEXT_BYTES → IsTextOf bytes tree → Starts tree n → P)

-- that it is a schedule
abbrev pub OnSchedule : List ℕ → Option (List File) → Type 0 → Type 0
OnSchedule name holds P = OnFile name holds (λ bytes. (seed : ℕ) (turns : List Turn) → length bytes ≤ MOST_TEXT_BYTES → IsSchedule bytes seed turns → P)

-- that it is a kernel file with each function of the protocol's text, the prelude or not, and no other body
abbrev pub OnKernels : List ℕ → Protocol → Option (List File) → Type 0 → Type 0
OnKernels name p holds P =
    OnFile name holds (λ bytes. (file : List NamedBody) → length bytes ≤ most_bytes → kernel_file bytes ≡ Ok file → HasEach (functions_in p) file → P)

-- that it is a file with subprotocols whose calls can be replaced
abbrev pub OnExpandable : List ℕ → Option (List File) → Type 0 → Type 0
OnExpandable name holds P =
    OnFile name holds (λ bytes. (calls : PlainCallFile) (file : PlainFile) → length bytes ≤ most_bytes → IsCallTree bytes calls → HasNoFault calls → IsInlined calls file → P)

-- that it is a file with strips that stands for a protocol file within the limits
abbrev pub OnStrips : List ℕ → Option (List File) → Type 0 → Type 0
OnStrips name holds P =
    OnFile name holds (λ bytes. (f : PlainStripFile) → length bytes ≤ most_bytes → IsStripTree bytes f → strips_found.HasNoFault f → excess_of f ≡ None → P)

-- that it is a log that is whole or covered, of a protocol at N = n
abbrev pub OnKeptLog : List ℕ → Protocol → ℕ → Option (List File) → Type 0 → Type 0
OnKeptLog name p n holds P = OnFile name holds (λ bytes. length bytes ≤ MOST_TEXT_BYTES → IsKeptLog p n bytes → P)

-- what comes where the files are such; of `demo`, which names none, nothing else comes
abbrev pub Completes : Request → Option (List File) → Status → Type 0
Completes (check name) holds result = OnAccepted name holds (λ p. Comes (S.Done ∷ []) result)
Completes (gen name) holds result = OnAccepted name holds (λ p. Comes (S.Done ∷ []) result)
Completes (gen_with name kernels) holds result = OnAccepted name holds (λ p. OnKernels kernels p holds (Comes (S.Done ∷ []) result))
Completes (project name) holds result = OnAccepted name holds (λ p. Comes (S.Done ∷ []) result)
Completes (run name options) holds result = OnAccepted name holds (λ p. MayRun p options.n → Comes (S.Done ∷ S.Turns ∷ S.Limit ∷ []) result)
Completes (demo count) holds result = Comes (S.Done ∷ S.Refused ∷ S.Limit ∷ S.Turns ∷ []) result
Completes (expand name) holds result = OnExpandable name holds (Comes (S.Done ∷ []) result)
Completes (strips name) holds result = OnStrips name holds (Comes (S.Done ∷ []) result)
Completes (cost name) holds result = OnAccepted name holds (λ p. HasCost p → Comes (S.Done ∷ []) result)
Completes (judge name log n) holds result = OnAccepted name holds (λ p. MayRun p n → OnKeptLog log p n holds (Comes (S.Done ∷ []) result))
Completes (sim name options) holds result = OnText name options.n holds (Comes (S.Done ∷ S.Stuck ∷ S.Turns ∷ S.Limit ∷ []) result)
Completes (replay name schedule n) holds result =
    OnText name n holds (OnSchedule schedule holds (Comes (S.Done ∷ S.Stuck ∷ S.Turns ∷ S.Limit ∷ S.Schedule ∷ []) result))

-- of words in no form that is told, and of no others
abbrev pub IsComplete : Option Request → Option (List File) → Status → Type 0
IsComplete None holds result = Contains (S.Usage ∷ S.NoMemory ∷ S.WriteFault ∷ []) result
IsComplete (Some request) holds result = (result ≢ S.Usage) × Completes request holds result
