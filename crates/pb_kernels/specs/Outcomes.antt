-- What a call gave, where memory may have run out.
use Rattle.std.specs.Prelude.{◌≡◌, ◌⊎◌, Result, Ok, Err}
use Rattle.pb_kernels.specs.declared.fault.KernelFault.{KernelFault}
use Rattle.pb_kernels.specs.declared.fault.KernelFault.TheVariants.{NoMemory}

-- a value that is the one wanted, or a fault that is
abbrev pub Gives : {T : Type 0} → Result T KernelFault → Result T KernelFault → Type 0
Gives wanted (Ok value) = wanted ≡ Ok value
Gives wanted (Err fault) = (fault ≡ NoMemory) ⊎ (wanted ≡ Err fault)

-- the value is left in place
abbrev pub Moves : {T U : Type 0} → Result T KernelFault → T → Result U KernelFault → Type 0
Moves wanted new (Ok done) = wanted ≡ Ok new
Moves wanted new (Err fault) = (fault ≡ NoMemory) ⊎ (wanted ≡ Err fault)
