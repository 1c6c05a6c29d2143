-- From the text with the bodies of a kernel file, or why there is none, to the reply.
use Rattle.std.proofs.Common.{◌≡◌, ℕ, suc, ◌≤◌, ◌<◌, ◌⊎◌, inl, inr, Bool, true, false, not, List, [], ◌∷◌, ◌++◌, length, map, Option, None, Some, Result, Ok, Err, refl, sym, ap, subst, ◌∙◌, arith}
use Rattle.std.specs.Prelude.{All, find, IfOk, IfErr}
use Rattle.std.specs.Global.{Vec}
use Rattle.std.proofs.lemmas.List.{length-map}
use Rattle.pb_io.specs.Files.{File, IsContent}
use Rattle.pb_syntax.specs.declared.core_label.CoreKernel.{CoreKernel}
use Rattle.pb_syntax.specs.declared.core_label.CoreLabel.{CoreLabel}
use Rattle.pb_core_language.specs.Plain.{Protocol}
use Rattle.pb_local.specs.Tree.{program_of}
use Rattle.pb_ctree.specs.declared.body.Bodies.{Bodies}
use Rattle.pb_ctree.specs.declared.kernel.KName.{KName}
use Rattle.pb_ctree.specs.declared.tree.CTree.{CTree}
use Rattle.pb_ctree.specs.Functions.{functions_of, kernel_function, labels_functions}
use Rattle.pb_ctree.specs.Texts.{Spells}
use Rattle.pb_kernels.specs.declared.fault.KernelFault.{KernelFault}
use Rattle.pb_kernels.specs.declared.fault.KernelFault.TheVariants as K
use Rattle.pb_kernels.specs.declared.file.NamedBody.{NamedBody}
use Rattle.pb_kernels.specs.Files.{kernel_file}
use Rattle.pb_kernels.specs.Merges.{bodies_of, first_extra, first_missing, has_place, misfit}
use Rattle.pb_kernels.specs.Merges as M
use Rattle.pb_kernels.specs.Marks.{prelude_name}
use Rattle.pb_kernels.specs.Names.{body_of, is_among, names_of}
use Rattle.pb_cli_status.specs.Lines.{line_of, status_of}
use Rattle.pb_cli_status.specs.declared.refusal.Refusal.{Refusal}
use Rattle.pb_cli_status.specs.declared.refusal.Refusal.TheVariants as refusal
use Rattle.pb_cli_status.specs.declared.status.Status.TheVariants.{Done}
use Rattle.pb_compile.specs.Compiled.{IsCompiled}
use Rattle.pb_compile.specs.Verdict.{IsKept, OnTree}
use Rattle.pb_cli_file.specs.Files.{IsAcceptedFile, IsFileRefusal, IsTreeOf, IsUnread, most_bytes}
use Rattle.pb_cli_file.specs.Kernels.{HasEach, IsKernelFault, IsKernelsReply, IsMergeReply, IsMergedText, IsTextWith, functions_in, kernel_refusal, misfit_of}
use Rattle.pb_cli_file.proofs.Answered.{checked, on_short}

-- ---- the text

pub many : (tree : CTree) (file : List NamedBody) (bodies : Bodies) → bodies.list.items ≡ bodies_of (functions_of (program_of tree.local)) file → length bodies.list.items ≡ length (functions_of (program_of tree.local))
many tree file bodies e = ap length e ∙ length-map (functions_of (program_of tree.local)) _

pub read_fault : (kernels : List ℕ) (tree : CTree) (f : KernelFault) → (f ≡ K.NoMemory) ⊎ (kernel_file kernels ≡ Err f) → (f ≡ K.NoMemory) ⊎ IsKernelFault kernels tree f
read_fault kernels tree f (inl e) = inl e
read_fault kernels tree K.NoMemory (inr e) = inl refl
read_fault kernels tree (K.BadMarker line) (inr e) = inr (inl e)
read_fault kernels tree (K.Twice name) (inr e) = inr (inl e)
read_fault kernels tree (K.Missing name) (inr e) = inr (inl e)
read_fault kernels tree (K.Extra name) (inr e) = inr (inl e)

merge_fault : (kernels : List ℕ) (tree : CTree) (file : List NamedBody) (f : KernelFault) → kernel_file kernels ≡ Ok file → (f ≡ K.NoMemory) ⊎ (misfit_of tree file ≡ Some f) → (f ≡ K.NoMemory) ⊎ IsKernelFault kernels tree f
merge_fault kernels tree file f read (inl e) = inl e
merge_fault kernels tree file K.NoMemory read (inr e) = inl refl
merge_fault kernels tree file (K.BadMarker line) read (inr e) = inr (inr (file, read, e))
merge_fault kernels tree file (K.Twice name) read (inr e) = inr (inr (file, read, e))
merge_fault kernels tree file (K.Missing name) read (inr e) = inr (inr (file, read, e))
merge_fault kernels tree file (K.Extra name) read (inr e) = inr (inr (file, read, e))

pub merge_faults : {T : Type 0} (kernels : List ℕ) (tree : CTree) (file : List NamedBody) (r : Result T KernelFault) → kernel_file kernels ≡ Ok file
    → IfErr r (λ f. (f ≡ K.NoMemory) ⊎ (misfit_of tree file ≡ Some f)) → IfErr r (λ f. (f ≡ K.NoMemory) ⊎ IsKernelFault kernels tree f)
merge_faults kernels tree file (Ok t) read is = tt
merge_faults kernels tree file (Err f) read is = merge_fault kernels tree file f read is

pub with_bodies : (file : List NamedBody) (tree : CTree) (bodies : Bodies) (text : List ℕ) → misfit_of tree file ≡ None → bodies.prelude ≡ body_of prelude_name file
    → bodies.list.items ≡ bodies_of (functions_of (program_of tree.local)) file → Spells tree bodies text → IsTextWith file tree text
with_bodies file tree bodies text fits prelude list spells = record { fits = fits; bodies = bodies; prelude = prelude; list = list; spells = spells }

pub merged : {E : Type 0} (kernels : List ℕ) (tree : CTree) (file : List NamedBody) (r : Result (Vec ℕ) E) → kernel_file kernels ≡ Ok file → IfOk r (λ text. IsTextWith file tree text.items) → IfOk r (λ text. IsMergedText kernels tree text.items)
merged kernels tree file (Ok text) read is = (file, read, is)
merged kernels tree file (Err e) read is = tt

-- ---- the reply

module _ (name kernels : List ℕ) (holds : Option (List File)) where
  pub denied : (why : Refusal) → IsFileRefusal name holds (status_of why) (line_of why) → IsMergeReply name kernels holds (status_of why) (line_of why)
  denied why is = inl is

  module _ (tree : CTree) (of : IsTreeOf name holds tree) where
    unread_is : (why : Refusal) → IsUnread kernels holds why → IsKernelsReply tree kernels holds (status_of why) (line_of why)
    unread_is refusal.ReadFault is = refl
    unread_is refusal.FileBytes is = (is, refl)
    unread_is refusal.NoMemory is = refl
    unread_is other is = absurd is

    pub unread : (why : Refusal) → IsUnread kernels holds why → IsMergeReply name kernels holds (status_of why) (line_of why)
    unread why is = inr (tree, of, unread_is why is)

    module _ (bytes : List ℕ) (read : IsContent holds kernels bytes) (short : length bytes ≤ most_bytes) where
      pub made : (text : List ℕ) → IsMergedText bytes tree text → IsMergeReply name kernels holds Done text
      made text is = inr (tree, of, on_short (λ l. IsMergedText l tree text) kernels holds bytes read short is)

      refused_is : (f : KernelFault) → (f ≡ K.NoMemory) ⊎ IsKernelFault bytes tree f → IsKernelsReply tree kernels holds (status_of (kernel_refusal f)) (line_of (kernel_refusal f))
      refused_is K.NoMemory is = refl
      refused_is (K.BadMarker line) (inl e) = absurd cc
      refused_is (K.BadMarker line) (inr is) = (K.BadMarker line, on_short (λ l. IsKernelFault l tree (K.BadMarker line)) kernels holds bytes read short is, refl)
      refused_is (K.Twice k) (inl e) = absurd cc
      refused_is (K.Twice k) (inr is) = (K.Twice k, on_short (λ l. IsKernelFault l tree (K.Twice k)) kernels holds bytes read short is, refl)
      refused_is (K.Missing k) (inl e) = absurd cc
      refused_is (K.Missing k) (inr is) = (K.Missing k, on_short (λ l. IsKernelFault l tree (K.Missing k)) kernels holds bytes read short is, refl)
      refused_is (K.Extra k) (inl e) = absurd cc
      refused_is (K.Extra k) (inr is) = (K.Extra k, on_short (λ l. IsKernelFault l tree (K.Extra k)) kernels holds bytes read short is, refl)

      pub refused : (f : KernelFault) → (f ≡ K.NoMemory) ⊎ IsKernelFault bytes tree f → IsMergeReply name kernels holds (status_of (kernel_refusal f)) (line_of (kernel_refusal f))
      refused f is = inr (tree, of, refused_is f is)

-- a file of which there is a tree is accepted
pub accepted : (name : List ℕ) (holds : Option (List File)) (tree : CTree) → IsTreeOf name holds tree → IsAcceptedFile name holds
accepted name holds tree of = on_short (λ l. OnTree l IsKept) name holds of.bytes of.content of.short (checked of.bytes of.protocol of.compiled.accepted)

-- no fault of a kernel file says that a file can't be read
pub not_unread : (f : KernelFault) → kernel_refusal f ≡ refusal.ReadFault → ⊥
not_unread K.NoMemory e = absurd cc
not_unread (K.BadMarker line) e = absurd cc
not_unread (K.Twice k) e = absurd cc
not_unread (K.Missing k) e = absurd cc
not_unread (K.Extra k) e = absurd cc

-- ---- a file that has each function

none_found : {A : Type 0} (test : A → Bool) (xs : List A) → All (λ x. test x ≡ false) xs → find test xs ≡ None
none_found test [] all = refl
none_found test (x ∷ xs) all = rw (all 0 x (omega arith)) (none_found test xs (λ k d less. all (suc k) d (omega (arith, less))))

fits_each : (functions : List KName) (file : List NamedBody) → HasEach functions file → misfit functions file ≡ None
fits_each functions file has =
    let missing : first_missing functions file ≡ None = none_found (λ f. not (is_among f file)) functions (λ k d less. ap not (has.each k d less)) in
    let extra : first_extra functions file ≡ None = none_found (λ name. not (has_place functions name)) (names_of file) (λ k d less. ap not (has.known k d less)) in
    ap (λ (m : Option KName). M.misfit_of m (first_extra functions file)) missing ∙ ap (λ (m : Option KName). M.misfit_of None m) extra

-- the functions of a text are those of the protocol
pub functions_same : (bytes : List ℕ) (p : Protocol) (tree : CTree) → IsCompiled bytes p tree → functions_of (program_of tree.local) ≡ functions_in p
functions_same bytes p tree is =
    ap (λ (ls : List CoreLabel). labels_functions ls ++ map kernel_function (program_of tree.local).kernels) is.projected.shape.labels
    ∙ ap (λ (ks : List CoreKernel). labels_functions p.labels ++ map kernel_function ks) is.projected.shape.kernels

abbrev given : List NamedBody → Result (List NamedBody) KernelFault
given file = Ok file

same_ok : (a b : List NamedBody) → given a ≡ given b → a ≡ b
same_ok a b e = cc

module _ (bytes : List ℕ) (p : Protocol) (tree : CTree) (same : functions_of (program_of tree.local) ≡ functions_in p) (file : List NamedBody) (read : kernel_file bytes ≡ Ok file) (has : HasEach (functions_in p) file) where
  fits : misfit_of tree file ≡ None
  fits = ap (λ (fs : List KName). misfit fs file) same ∙ fits_each (functions_in p) file has

  never : (f : KernelFault) → (kernel_file bytes ≡ Err f) ⊎ ((other : List NamedBody) × (kernel_file bytes ≡ Ok other) × (misfit_of tree other ≡ Some f)) → ⊥
  never f (inl e) = absurd (clash (sym read ∙ e)) where
    clash : given file ≡ Err f → ⊥
    clash e = cc
  never f (inr (other, also, e)) = clash (sym fits ∙ ap (misfit_of tree) (same_ok file other (sym read ∙ also)) ∙ e) where
    clash : None ≡ Some f → ⊥
    clash e = cc

  -- no fault is true of such a file
  pub no_fault : (f : KernelFault) → IsKernelFault bytes tree f → ⊥
  no_fault K.NoMemory is = is
  no_fault (K.BadMarker line) is = never (K.BadMarker line) is
  no_fault (K.Twice k) is = never (K.Twice k) is
  no_fault (K.Missing k) is = never (K.Missing k) is
  no_fault (K.Extra k) is = never (K.Extra k) is
