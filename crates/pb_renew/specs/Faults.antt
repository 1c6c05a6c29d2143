-- Why files that couldn't be put, and texts that aren't there, weren't renewed.
use Rattle.pb_kernels.specs.declared.fault.KernelFault.{KernelFault}
use Rattle.pb_kernels.specs.declared.fault.KernelFault.TheVariants as kernels
use Rattle.pb_renew.specs.declared.unrenewed.Unrenewed.{Unrenewed}
use Rattle.pb_renew.specs.declared.unrenewed.Unrenewed.TheVariants as why
use Rattle.pb_renew_put.specs.declared.fault.PutFault.{PutFault}
use Rattle.pb_renew_put.specs.declared.fault.PutFault.TheVariants as fault

abbrev pub unput : PutFault → Unrenewed
unput fault.NoMemory = why.NoMemory
unput fault.Busy = why.Busy
unput fault.Changed = why.Changed
unput fault.Olds = why.Olds
unput fault.ReadFault = why.ReadFault
unput fault.WriteFault = why.WriteFault
unput fault.Halfway = why.Halfway

abbrev pub no_text : KernelFault → Unrenewed
no_text kernels.NoMemory = why.NoMemory
no_text other = why.Out other

abbrev pub no_left : KernelFault → Unrenewed
no_left kernels.NoMemory = why.NoMemory
no_left other = why.Left other
