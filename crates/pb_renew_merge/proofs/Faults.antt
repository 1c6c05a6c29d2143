-- Why a text isn't renewed, or a body can't be put behind a kernel file.
use Rattle.std.proofs.Common.{◌≡◌, ℕ, ◌⊎◌, inl, inr, List, Some, Ok, Err, refl}
use Rattle.pb_ctree.specs.declared.kernel.KName.{KName}
use Rattle.pb_kernels.specs.declared.fault.KernelFault.{KernelFault}
use Rattle.pb_kernels.specs.declared.fault.KernelFault.TheVariants as faults
use Rattle.pb_kernels.specs.declared.file.NamedBody.{NamedBody}
use Rattle.pb_kernels.specs.Files.{program_file}
use Rattle.pb_renew_merge.specs.declared.renewed.Renewed.{Renewed}
use Rattle.pb_renew_text.specs.declared.wanted.Wanted.{Wanted}
use Rattle.pb_renew_merge.specs.Left.{left_text}
use Rattle.pb_renew_merge.specs.Lost.{first_misplaced}
use Rattle.pb_renew_merge.specs.Renewed.{HasAnother, IsLeftFault, IsTextFault}
use Rattle.pb_renew_text.specs.Texts.{IsRenewed}
use Rattle.pb_renew_merge.proofs.Losses.{is_left}

pub no_file : (out : List ℕ) (wanted : Wanted) (fault : KernelFault) → (fault ≡ faults.NoMemory) ⊎ (program_file out ≡ Err fault) → (fault ≡ faults.NoMemory) ⊎ IsTextFault out wanted fault
no_file out wanted fault (inl e) = inl e
no_file out wanted fault (inr e) = inr (inl e)

pub no_text : (out : List ℕ) (wanted : Wanted) (old : List NamedBody) (text : List ℕ) (fault : KernelFault) → IsRenewed old wanted text → (fault ≡ faults.NoMemory) ⊎ (program_file text ≡ Err fault) → (fault ≡ faults.NoMemory) ⊎ IsTextFault out wanted fault
no_text out wanted old text fault is (inl e) = inl e
no_text out wanted old text fault is (inr e) = inr (inr (old, text, is, e))

pub no_left : (renewed : Renewed) (before : List ℕ) (fault : KernelFault) → (fault ≡ faults.NoMemory) ⊎ (program_file before ≡ Err fault) → (fault ≡ faults.NoMemory) ⊎ IsLeftFault renewed before fault
no_left renewed before fault (inl e) = inl e
no_left renewed before fault (inr e) = inr (inl e)

pub another : (renewed : Renewed) (before : List ℕ) (list : List NamedBody) (fault : KernelFault) → program_file before ≡ Ok list
    → (fault ≡ faults.NoMemory) ⊎ HasAnother list renewed.old renewed.gone.items fault → (fault ≡ faults.NoMemory) ⊎ IsLeftFault renewed before fault
another renewed before list fault read (inl e) = inl e
another renewed before list fault read (inr is) = inr (inr (inl (list, read, is)))

pub not_made : (renewed : Renewed) (before left : List ℕ) (list : List NamedBody) (fault : KernelFault) → program_file before ≡ Ok list → left ≡ left_text before list renewed.old renewed.gone.items
    → (fault ≡ faults.NoMemory) ⊎ (program_file left ≡ Err fault) → (fault ≡ faults.NoMemory) ⊎ IsLeftFault renewed before fault
not_made renewed before left list fault read bytes (inl e) = inl e
not_made renewed before left list fault read bytes (inr e) = inr (inr (inr (list, left, read, is_left renewed list before left read bytes, inl e)))

pub not_found : (renewed : Renewed) (before left : List ℕ) (list again : List NamedBody) (name : KName) → program_file before ≡ Ok list → left ≡ left_text before list renewed.old renewed.gone.items
    → program_file left ≡ Ok again → first_misplaced renewed.old renewed.kept list again ≡ Some name → (faults.Missing name ≡ faults.NoMemory) ⊎ IsLeftFault renewed before (faults.Missing name)
not_found renewed before left list again name read bytes found lost = inr (inr (inr (list, left, read, is_left renewed list before left read bytes, inr (again, name, found, lost, refl))))
