-- What `gen` with a kernel file answers: a protocol file is compiled, and its text has the bodies of the kernel file.
use Rattle.std.specs.Prelude.{◌≡◌, ℕ, ◌<◌, ◌⊎◌, List, Option, Some, None, All, true, Ok, Err, ◌++◌, map, length}
use Rattle.pb_io.specs.Files.{File}
use Rattle.pb_core_language.specs.Plain.{Protocol}
use Rattle.pb_local.specs.Tree.{program_of}
use Rattle.pb_ctree.specs.declared.body.Bodies.{Bodies}
use Rattle.pb_ctree.specs.declared.kernel.KName.{KName}
use Rattle.pb_ctree.specs.declared.kernel.Kind.{Kind}
use Rattle.pb_ctree.specs.declared.kernel.Kind.TheVariants as kind
use Rattle.pb_ctree.specs.declared.tree.CTree.{CTree}
use Rattle.pb_ctree.specs.Functions.{functions_of, kernel_function, labels_functions}
use Rattle.pb_ctree.specs.Texts.{Spells}
use Rattle.pb_kernels.specs.declared.fault.KernelFault.{KernelFault}
use Rattle.pb_kernels.specs.declared.fault.KernelFault.TheVariants as fault
use Rattle.pb_kernels.specs.declared.file.NamedBody.{NamedBody}
use Rattle.pb_kernels.specs.Files.{kernel_file}
use Rattle.pb_kernels.specs.Marks.{prelude_name}
use Rattle.pb_kernels.specs.Merges.{bodies_of, has_place, misfit}
use Rattle.pb_kernels.specs.Names.{body_of, is_among, names_of}
use Rattle.pb_cli_status.specs.Lines.{line_of}
use Rattle.pb_cli_status.specs.declared.kernel.KernelKind.{KernelKind}
use Rattle.pb_cli_status.specs.declared.kernel.KernelKind.TheVariants as told_kind
use Rattle.pb_cli_status.specs.declared.kernel.KernelWrong.{KernelWrong}
use Rattle.pb_cli_status.specs.declared.kernel.KernelWrong.TheVariants as wrong
use Rattle.pb_cli_status.specs.declared.refusal.Refusal.{Refusal}
use Rattle.pb_cli_status.specs.declared.refusal.Refusal.TheVariants as refusal
use Rattle.pb_cli_status.specs.declared.status.Status.{Status}
use Rattle.pb_cli_status.specs.declared.status.Status.TheVariants as S
use Rattle.pb_cli_file.specs.Files.{IsFileRefusal, IsTreeOf, OnFile, OnShort, most_bytes}

-- ---- the refusal that tells a fault of a kernel file

abbrev pub kind_of : Kind → KernelKind
kind_of kind.Prelude = told_kind.Prelude
kind_of kind.Compute = told_kind.Compute
kind_of kind.Choice = told_kind.Choice
kind_of kind.Make = told_kind.Make
kind_of kind.Take = told_kind.Take
kind_of kind.Room = told_kind.Room

abbrev pub told : KName → KernelWrong → Refusal
told name what = refusal.Kernel (kind_of name.kind) name.name what

abbrev pub kernel_refusal : KernelFault → Refusal
kernel_refusal (fault.BadMarker line) = refusal.KernelMarker line
kernel_refusal (fault.Twice name) = told name wrong.Twice
kernel_refusal (fault.Missing name) = told name wrong.Missing
kernel_refusal (fault.Extra name) = told name wrong.Extra
kernel_refusal fault.NoMemory = refusal.NoMemory

-- ---- a text with the bodies of a kernel file

-- why a list of bodies doesn't fit a tree
abbrev pub misfit_of : CTree → List NamedBody → Option KernelFault
misfit_of tree file = misfit (functions_of (program_of tree.local)) file

-- the text spells the tree with a list of bodies that fits it: each function has the body with its name, and the prelude is the
-- list's, or empty
pub record IsTextWith (file : List NamedBody) (tree : CTree) (text : List ℕ) : Type 0 where
  pub fits : misfit_of tree file ≡ None
  pub bodies : Bodies
  pub prelude : bodies.prelude ≡ body_of prelude_name file
  pub list : bodies.list.items ≡ bodies_of (functions_of (program_of tree.local)) file
  pub spells : Spells tree bodies text

-- and the bytes are a kernel file with this list
abbrev pub IsMergedText : List ℕ → CTree → List ℕ → Type 0
IsMergedText kernels tree text = (file : List NamedBody) × (kernel_file kernels ≡ Ok file) × IsTextWith file tree text

-- why there is no such text: the first line at fault, or the first function that the file lacks, or its first body without a
-- place in the text
abbrev pub IsKernelFault : List ℕ → CTree → KernelFault → Type 0
IsKernelFault kernels tree fault.NoMemory = ⊥
IsKernelFault kernels tree other = (kernel_file kernels ≡ Err other) ⊎ ((file : List NamedBody) × (kernel_file kernels ≡ Ok file) × (misfit_of tree file ≡ Some other))

-- ---- the reply

-- of a tree and a kernel file: the text, or one line
abbrev pub IsKernelsReply : CTree → List ℕ → Option (List File) → Status → List ℕ → Type 0
IsKernelsReply tree kernels holds S.Done text = OnShort kernels holds (λ bytes. IsMergedText bytes tree text)
IsKernelsReply tree kernels holds S.Kernel text = (f : KernelFault) × OnShort kernels holds (λ bytes. IsKernelFault bytes tree f) × (text ≡ line_of (kernel_refusal f))
IsKernelsReply tree kernels holds S.Limit text = OnFile kernels holds (λ bytes. most_bytes < length bytes) × (text ≡ line_of refusal.FileBytes)
IsKernelsReply tree kernels holds S.ReadFault text = text ≡ line_of refusal.ReadFault
IsKernelsReply tree kernels holds S.NoMemory text = text ≡ line_of refusal.NoMemory
IsKernelsReply tree kernels holds other text = ⊥

-- the protocol file isn't accepted, and one line tells it; or it is, and of its tree and the kernel file this is told
abbrev pub IsMergeReply : List ℕ → List ℕ → Option (List File) → Status → List ℕ → Type 0
IsMergeReply name kernels holds status text =
    IsFileRefusal name holds status text ⊎ ((tree : CTree) × IsTreeOf name holds tree × IsKernelsReply tree kernels holds status text)

-- ---- kernel files of a protocol

-- the kernel functions of its text
abbrev pub functions_in : Protocol → List KName
functions_in p = labels_functions p.labels ++ map kernel_function p.kernels

-- the file has each function, and no other body but the prelude's
pub record HasEach (functions : List KName) (file : List NamedBody) : Type 0 where
  pub each : All (λ f. is_among f file ≡ true) functions
  pub known : All (λ name. has_place functions name ≡ true) (names_of file)
