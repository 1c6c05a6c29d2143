-- What the bodies of an old text become in the text of another tree.
use Rattle.std.specs.Prelude.{◌≡◌, ◌⊎◌, ℕ, List, Some, Ok, Err}
use Rattle.pb_ctree.specs.declared.kernel.KName.{KName}
use Rattle.pb_kernels.specs.declared.fault.KernelFault.{KernelFault}
use Rattle.pb_kernels.specs.declared.fault.KernelFault.TheVariants.{Missing, Twice}
use Rattle.pb_kernels.specs.declared.file.NamedBody.{NamedBody}
use Rattle.pb_kernels.specs.Files.{program_file}
use Rattle.pb_renew_merge.specs.declared.renewed.Renewed.{Renewed}
use Rattle.pb_renew_merge.specs.Left.{first_twice, left_text}
use Rattle.pb_renew_merge.specs.Lost.{first_misplaced, lost_names}
use Rattle.pb_renew_text.specs.Texts.{IsRenewed}
use Rattle.pb_renew_text.specs.declared.wanted.Wanted.{Wanted}

-- The old text is a kernel file with the old bodies; the new text has those that still have a function; what it keeps of them
-- is read again, and what it doesn't keep is gone
pub record IsRenewal (out : List ℕ) (wanted : Wanted) (renewed : Renewed) : Type 0 where
  pub read : program_file out ≡ Ok renewed.old
  pub text : IsRenewed renewed.old wanted renewed.text.items
  pub again : program_file renewed.text.items ≡ Ok renewed.kept
  pub gone : renewed.gone.items ≡ lost_names renewed.old renewed.kept

-- the bytes are those of a kernel file, and behind them the bodies that are gone
pub record IsLeft (renewed : Renewed) (before left : List ℕ) : Type 0 where
  pub list : List NamedBody
  pub read : program_file before ≡ Ok list
  pub bytes : left ≡ left_text before list renewed.old renewed.gone.items

-- ---- why there is none

-- the old text is no kernel file, or the text that was made of it can't be read again
abbrev pub IsTextFault : List ℕ → Wanted → KernelFault → Type 0
IsTextFault out wanted fault =
    (program_file out ≡ Err fault) ⊎ ((old : List NamedBody) × (text : List ℕ) × IsRenewed old wanted text × (program_file text ≡ Err fault))

-- a list has another body with the name of one that is gone
abbrev pub HasAnother : List NamedBody → List NamedBody → List KName → KernelFault → Type 0
HasAnother list old gone fault = (name : KName) × (first_twice list old gone ≡ Some name) × (fault ≡ Twice name)

-- bytes that were made behind those of a kernel file with this list are no kernel file, or a body isn't where it should be
abbrev pub IsUnfound : Renewed → List NamedBody → List ℕ → KernelFault → Type 0
IsUnfound renewed list left fault =
    (program_file left ≡ Err fault)
    ⊎ ((made : List NamedBody) × (name : KName) × (program_file left ≡ Ok made) × (first_misplaced renewed.old renewed.kept list made ≡ Some name) × (fault ≡ Missing name))

-- the bytes are no kernel file, or have another body of a name, or no body can be put behind them
abbrev pub IsLeftFault : Renewed → List ℕ → KernelFault → Type 0
IsLeftFault renewed before fault =
    (program_file before ≡ Err fault)
    ⊎ ((list : List NamedBody) × (program_file before ≡ Ok list) × HasAnother list renewed.old renewed.gone.items fault)
    ⊎ ((list : List NamedBody) × (left : List ℕ) × (program_file before ≡ Ok list) × IsLeft renewed before left × IsUnfound renewed list left fault)
