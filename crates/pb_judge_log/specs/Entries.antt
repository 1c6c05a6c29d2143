-- Logs as bytes: a line for each action, as it is printed, and one last line that tells how it ended, or none.
use Rattle.std.specs.Prelude.{◌≡◌, ℕ, suc, ◌+◌, ◌-◌, ◌^◌, ◌<◌, ◌⊎◌, ⊤, List, [], ◌∷◌, ◌++◌, length, min, codes, not, nat_eq, IsTrue, None}
use Rattle.std.specs.List.{AllByRecursion, flat_map, list_all}
use Rattle.pb_text.specs.declared.action.Action.{Action}
use Rattle.pb_text.specs.declared.action.Action.TheVariants.{Choose, Run, Send, Recv, Enter, Leave}
use Rattle.pb_text.specs.declared.action.Joint.{Joint}
use Rattle.pb_text.specs.declared.action.Joint.TheVariants.{Barrier, Labelled}
use Rattle.pb_syntax.specs.declared.core_label.CoreKernel.{CoreKernel}
use Rattle.pb_syntax.specs.declared.core_label.CoreLabel.{CoreLabel}
use Rattle.pb_syntax.specs.declared.core_label.KernelKind.{KernelKind}
use Rattle.pb_syntax.specs.declared.core_label.KernelKind.TheVariants.{Compute, Choice}
use Rattle.pb_core_language.specs.Plain.{Protocol}
use Rattle.pb_local.specs.Tables.{kernel_at}
use Rattle.pb_local.specs.Tree.{Program, nothing}
use Rattle.pb_sched.specs.Logged.{log_line}

-- A program with these labels and kernels, which are all that the lines of a log speak of
abbrev pub rows_of : List CoreLabel → List CoreKernel → Program
rows_of labels kernels = record { protocol = []; range = record { low = 0; high = None }; roles = []; labels = labels; kernels = kernels; body = nothing }

abbrev pub tables_of : Protocol → Program
tables_of p = rows_of p.labels p.kernels

module _ (p : Program) (total : ℕ) where
  abbrev pub IsKernel : KernelKind → ℕ → Type 0
  IsKernel kind kernel = (kernel < length p.kernels) × ((kernel_at p kernel).kind ≡ kind)

  abbrev pub IsJoint : Joint → Type 0
  IsJoint Barrier = ⊤
  IsJoint (Labelled label) = label < length p.labels

  abbrev pub AreWords : List ℕ → Type 0
  AreWords words = AllByRecursion (λ w. w < 2 ^ 32) words

  -- An action that a line may tell: its ranks, its label or its kernel are there, and its numbers fit 32 bits. There may be
  -- any number of words, and any branch
  abbrev pub IsTold : Action → Type 0
  IsTold (Choose rank kernel answer) = (rank < total) × IsKernel Choice kernel × (answer < 2 ^ 32)
  IsTold (Run rank kernel) = (rank < total) × IsKernel Compute kernel
  IsTold (Send rank to label words) = (rank < total) × (to < total) × (label < length p.labels) × AreWords words
  IsTold (Recv rank from label words) = (rank < total) × (from < total) × (label < length p.labels) × AreWords words
  IsTold (Enter rank what words) = (rank < total) × IsJoint what × AreWords words
  IsTold (Leave rank what words) = (rank < total) × IsJoint what × AreWords words

  -- the bytes are the lines of these actions, and then the rest
  pub record BeginsWith (bytes : List ℕ) (actions : List Action) (rest : List ℕ) : Type 0 where
    pub is : bytes ≡ flat_map (log_line p) actions ++ rest
    pub each : AllByRecursion IsTold actions

  -- the line of an action stands in front
  abbrev pub BeginsLine : List ℕ → Type 0
  BeginsLine text = (action : Action) × (rest : List ℕ) × IsTold action × (text ≡ log_line p action ++ rest)

  -- no line feed is among the bytes
  abbrev pub is_within : List ℕ → Type 0
  is_within text = IsTrue (list_all (λ byte. not (nat_eq byte 10)) text)

  -- nothing, or the one line `ended`, or one line that begins with `pabble: `
  abbrev pub IsEnding : List ℕ → Type 0
  IsEnding rest = (rest ≡ []) ⊎ ((rest ≡ codes "ended\n") ⊎ ((told : List ℕ) × is_within told × (rest ≡ codes "pabble: " ++ (told ++ codes "\n"))))

  -- the bytes are the log of these actions
  abbrev pub IsLog : List ℕ → List Action → Type 0
  IsLog bytes actions = (ending : List ℕ) × BeginsWith bytes actions ending × IsEnding ending

  -- lines are counted from 1 on, and their numbers stop
  abbrev pub line_number : ℕ → ℕ
  line_number before = min (before + 1) (2 ^ 32 - 1)

  -- the lines before are those of actions; this one isn't, and it isn't an ending that is there
  abbrev pub IsBadLine : List ℕ → ℕ → Type 0
  IsBadLine bytes n = (actions : List Action) × (rest : List ℕ) × BeginsWith bytes actions rest × (n ≡ line_number (length actions)) × (IsEnding rest → ⊥) × (BeginsLine rest → ⊥)

-- actions with the numbers of their lines, so many lines standing before
abbrev pub numbered_from : ℕ → List Action → List (ℕ × Action)
numbered_from before [] = []
numbered_from before (action ∷ actions) = (min (before + 1) (2 ^ 32 - 1), action) ∷ numbered_from (suc before) actions

abbrev pub numbered : List Action → List (ℕ × Action)
numbered = numbered_from 0
