-- Which bodies a text gets from a kernel file.
use Rattle.std.specs.Prelude.{ℕ, Bool, ◌||◌, not, List, map, find, Option, None, Some}
use Rattle.std.specs.List.{list_any}
use Rattle.pb_ctree.specs.declared.kernel.KName.{KName}
use Rattle.pb_kernels.specs.declared.fault.KernelFault.{KernelFault}
use Rattle.pb_kernels.specs.declared.fault.KernelFault.TheVariants.{Missing, Extra}
use Rattle.pb_kernels.specs.declared.file.NamedBody.{NamedBody}
use Rattle.pb_kernels.specs.Marks.{prelude_name}
use Rattle.pb_kernels.specs.Names.{same_name, is_among, names_of, body_of}

-- the first function that the file lacks
abbrev pub first_missing : List KName → List NamedBody → Option KName
first_missing functions file = find (λ f. not (is_among f file)) functions

-- the prelude and the functions have a place in the text
abbrev pub has_place : List KName → KName → Bool
has_place functions name = same_name name prelude_name || list_any (λ f. same_name name f) functions

-- the first name of the file that has no place in the text
abbrev pub first_extra : List KName → List NamedBody → Option KName
first_extra functions file = find (λ name. not (has_place functions name)) (names_of file)

abbrev pub misfit_of : Option KName → Option KName → Option KernelFault
misfit_of (Some name) extra = Some (Missing name)
misfit_of None (Some name) = Some (Extra name)
misfit_of None None = None

-- why a file doesn't fit these functions
abbrev pub misfit : List KName → List NamedBody → Option KernelFault
misfit functions file = misfit_of (first_missing functions file) (first_extra functions file)

-- the file's bodies in the functions' order
abbrev pub bodies_of : List KName → List NamedBody → List (List ℕ)
bodies_of functions file = map (λ f. body_of f file) functions
