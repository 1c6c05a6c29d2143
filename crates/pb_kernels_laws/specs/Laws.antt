-- A text is a kernel file of its own bodies, and with these its tree has that text again.
use Rattle.std.specs.Prelude.{◌≡◌, ◌⊎◌, ℕ, true, All, List, ◌∷◌, None, Some, Result, IfOk, MatchResult, zip}
use Rattle.pb_local.specs.Tree.{Program, program_of}
use Rattle.pb_ctree.specs.declared.body.Bodies.{Bodies}
use Rattle.pb_ctree.specs.declared.tree.CTree.{CTree}
use Rattle.pb_ctree.specs.Bodies.{is_body}
use Rattle.pb_ctree.specs.Functions.{functions_of}
use Rattle.pb_ctree.specs.Texts.{Spells}
use Rattle.pb_kernels.specs.declared.fault.KernelFault.{KernelFault}
use Rattle.pb_kernels.specs.declared.fault.KernelFault.TheVariants.{NoMemory}
use Rattle.pb_kernels.specs.declared.file.NamedBody.{NamedBody}
use Rattle.pb_kernels.specs.Files.{kernel_file}
use Rattle.pb_kernels.specs.Marks.{prelude_name}
use Rattle.pb_kernels.specs.Merges.{bodies_of, misfit}
use Rattle.pb_kernels.specs.Names.{body_of, named_bodies}
use Rattle.pb_kernels.specs.Outcomes.{Gives}

-- the bodies of a program's text in printed order, each with its name: the prelude, and the body of each function
abbrev pub bodies_by_name : Program → List ℕ → List (List ℕ) → List NamedBody
bodies_by_name p prelude bodies = record { name = prelude_name; body = prelude } ∷ named_bodies (zip (functions_of p) bodies)

abbrev pub kernels_of : CTree → Bodies → List NamedBody
kernels_of tree bodies = bodies_by_name (program_of tree.local) bodies.prelude bodies.list.items

-- what `merge` may answer on a tree and the bodies of a kernel file
pub record IsMerged (tree : CTree) (file : List NamedBody) (answer : Result Bodies KernelFault) : Type 0 where
  pub fits : MatchResult answer (λ _. misfit (functions_of (program_of tree.local)) file ≡ None) (λ fault. (fault ≡ NoMemory) ⊎ (misfit (functions_of (program_of tree.local)) file ≡ Some fault))
  pub prelude : IfOk answer (λ bodies. bodies.prelude ≡ body_of prelude_name file)
  pub list : IfOk answer (λ bodies. bodies.list.items ≡ bodies_of (functions_of (program_of tree.local)) file)

-- The bytes are a kernel file of these bodies: all that `read_kernels` may answer on them is the bodies by their names, or
-- want of memory; and all that `merge` may answer on the tree and these is bodies with which the tree has these bytes for
-- its text, or want of memory.
pub record IsOwnKernelFile (tree : CTree) (bodies : Bodies) (bytes : List ℕ) : Type 0 where
  pub read : (answer : Result (List NamedBody) KernelFault) → Gives (kernel_file bytes) answer → MatchResult answer (λ file. file ≡ kernels_of tree bodies) (λ fault. fault ≡ NoMemory)
  pub merged : (answer : Result Bodies KernelFault) → IsMerged tree (kernels_of tree bodies) answer → MatchResult answer (λ again. Spells tree again bytes) (λ fault. fault ≡ NoMemory)

-- the text of a well-made tree with bodies is a kernel file of these bodies
abbrev pub OwnKernels : Type 0
OwnKernels = (tree : CTree) (bodies : Bodies) (bytes : List ℕ) → is_body bodies.prelude ≡ true → All (λ body. is_body body ≡ true) bodies.list.items → Spells tree bodies bytes
    → IsOwnKernelFile tree bodies bytes

-- the bytes are the text of the tree with some bodies
pub record IsTextOfTree (tree : CTree) (bytes : List ℕ) : Type 0 where
  pub bodies : Bodies
  pub prelude : is_body bodies.prelude ≡ true
  pub list : All (λ body. is_body body ≡ true) bodies.list.items
  pub spells : Spells tree bodies bytes
