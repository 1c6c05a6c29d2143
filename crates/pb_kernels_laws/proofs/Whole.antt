-- A text is a kernel file of its own bodies.
use Rattle.std.proofs.Common.{◌≡◌, ◌⊎◌, ℕ, true, List, length, Result, Ok, Err, Option, None, Some, MatchResult, sym, ap, subst, ◌∙◌, inl, inr, All}
use Rattle.pb_local.specs.Tree.{program_of}
use Rattle.pb_ctree.specs.declared.body.Bodies.{Bodies}
use Rattle.pb_ctree.specs.declared.tree.CTree.{CTree}
use Rattle.pb_ctree.specs.Bodies.{is_body}
use Rattle.pb_ctree.specs.Functions.{functions_of}
use Rattle.pb_ctree.specs.Texts.{text, Spells}
use Rattle.pb_kernels.specs.declared.dialect.Dialect.TheVariants.{Plain}
use Rattle.pb_kernels.specs.declared.fault.KernelFault.{KernelFault}
use Rattle.pb_kernels.specs.declared.fault.KernelFault.TheVariants.{NoMemory}
use Rattle.pb_kernels.specs.declared.file.NamedBody.{NamedBody}
use Rattle.pb_kernels.specs.Files.{lines, kernel_file}
use Rattle.pb_kernels.specs.Format.{IsFile}
use Rattle.pb_kernels.specs.Merges.{misfit}
use Rattle.pb_kernels.specs.Outcomes.{Gives}
use Rattle.pb_kernels.proofs.Formats.{reads_the_format}
use Rattle.pb_kernels_laws.specs.Laws.{kernels_of, IsMerged, IsTextOfTree, OwnKernels}
use Rattle.pb_kernels_laws.proofs.Apart.{bodies_distinct}
use Rattle.pb_kernels_laws.proofs.Found.{FitsItself, fits_itself}
use Rattle.pb_kernels_laws.proofs.Parted.{spelled_lines}
use Rattle.pb_kernels_laws.proofs.Written.{text_is_file}

text_read : (tree : CTree) (bodies : Bodies) (bytes : List ℕ) → is_body bodies.prelude ≡ true → All (λ body. is_body body ≡ true) bodies.list.items → Spells tree bodies bytes
    → kernel_file bytes ≡ Ok (kernels_of tree bodies)
unfolding kernel_file
text_read tree bodies bytes one each spells =
    let p = program_of tree.local in
    let list = kernels_of tree bodies in
    let file : IsFile Plain (lines bytes) list =
    subst (λ (ls : List (List ℕ)). IsFile Plain ls list) (sym (spelled_lines tree bodies bytes one each spells)) (text_is_file p bodies.prelude bodies.list.items spells.made.made spells.many one each) in
    (reads_the_format Plain bytes list).1 (file, bodies_distinct p bodies.prelude bodies.list.items spells.made.made spells.many)

-- ---- what may be answered

abbrev read_so : List NamedBody → Result (List NamedBody) KernelFault
read_so list = Ok list

same_list : (a b : List NamedBody) → read_so a ≡ read_so b → b ≡ a
same_list a b e = cc

no_fault : (list : List NamedBody) (fault : KernelFault) → read_so list ≡ Err fault → fault ≡ NoMemory
no_fault list fault e = cc

answered : (list : List NamedBody) (answer : Result (List NamedBody) KernelFault) → Gives (read_so list) answer → MatchResult answer (λ file. file ≡ list) (λ fault. fault ≡ NoMemory)
answered list (Ok file) gives = same_list list file gives
answered list (Err fault) (inl memory) = memory
answered list (Err fault) (inr wrong) = no_fault list fault wrong

fits_so : (fault : KernelFault) (why : Option KernelFault) → why ≡ None → why ≡ Some fault → fault ≡ NoMemory
fits_so fault why none some = cc

merged_again : (tree : CTree) (bodies again : Bodies) (bytes : List ℕ) → again.prelude ≡ bodies.prelude → again.list.items ≡ bodies.list.items → Spells tree bodies bytes → Spells tree again bytes
merged_again tree bodies again bytes one each spells =
    let p = program_of tree.local in record {
      made = spells.made;
      many = ap length each ∙ spells.many;
      text = spells.text ∙ ap (λ (prelude : List ℕ). text p prelude bodies.list.items) (sym one) ∙ ap (λ (list : List (List ℕ)). text p again.prelude list) (sym each);
    }

merged : (tree : CTree) (bodies : Bodies) (bytes : List ℕ) → Spells tree bodies bytes → (answer : Result Bodies KernelFault) → IsMerged tree (kernels_of tree bodies) answer
    → MatchResult answer (λ again. Spells tree again bytes) (λ fault. fault ≡ NoMemory)
merged tree bodies bytes spells (Ok again) is =
    let fits = fits_itself (program_of tree.local) bodies.prelude bodies.list.items spells.made.made spells.many in
    merged_again tree bodies again bytes (is.prelude ∙ fits.prelude_is) (is.list ∙ fits.bodies_are) spells
merged tree bodies bytes spells (Err fault) is = at is.fits where
  fits : FitsItself (program_of tree.local) bodies.prelude bodies.list.items
  fits = fits_itself (program_of tree.local) bodies.prelude bodies.list.items spells.made.made spells.many

  at : (fault ≡ NoMemory) ⊎ (misfit (functions_of (program_of tree.local)) (kernels_of tree bodies) ≡ Some fault) → fault ≡ NoMemory
  at (inl memory) = memory
  at (inr wrong) = fits_so fault (misfit (functions_of (program_of tree.local)) (kernels_of tree bodies)) fits.fits wrong

pub own_kernels : OwnKernels
own_kernels tree bodies bytes one each spells = record {
  read = λ answer gives. answered (kernels_of tree bodies) answer (subst (λ (wanted : Result (List NamedBody) KernelFault). Gives wanted answer) (text_read tree bodies bytes one each spells) gives);
  merged = λ answer is. merged tree bodies bytes spells answer is;
}

-- ---- reading and then merging

pub read_own : (tree : CTree) (bytes : List ℕ) (fault : KernelFault) → IsTextOfTree tree bytes → Gives (kernel_file bytes) (Err fault) → fault ≡ NoMemory
read_own tree bytes fault t gives = (own_kernels tree t.bodies bytes t.prelude t.list t.spells).read (Err fault) gives

pub merged_own : (tree : CTree) (bytes : List ℕ) (file : List NamedBody) (answer : Result Bodies KernelFault) → IsTextOfTree tree bytes → Gives (kernel_file bytes) (Ok file)
    → IsMerged tree file answer → MatchResult answer (λ again. Spells tree again bytes) (λ fault. fault ≡ NoMemory)
merged_own tree bytes file answer t gives is =
    let law = own_kernels tree t.bodies bytes t.prelude t.list t.spells in
    law.merged answer (subst (λ (f : List NamedBody). IsMerged tree f answer) (law.read (Ok file) gives) is)
