-- Texts in which no `If` has two empty parts, and no `For` an empty body.
use Rattle.pb_core_language.specs.Plain.{Protocol}
use Rattle.pb_local.specs.Tree.{Code, when, for_each, own, loop, again, choice, send, recv, run, barrier, broadcast, reduce, allreduce, Codes, nothing, more, Parts, no_part, part, Program}
use Rattle.pb_shape.specs.Shape.{HasShape}

-- there is a statement
abbrev pub IsSome : Codes → Type 0
IsSome nothing = ⊥
IsSome (more c rest) = Unit {0}

-- there is one in either part
abbrev pub IsSomeOf : Codes → Codes → Type 0
IsSomeOf nothing other = IsSome other
IsSomeOf (more c rest) other = Unit {0}

abbrev mutual
  pub IsFilled : Code → Type 0
  IsFilled (when guards first other) = IsSomeOf first other × AreFilled first × AreFilled other
  IsFilled (for_each low high body) = IsSome body × AreFilled body
  IsFilled (own off) = Unit {0}
  IsFilled (loop id body) = AreFilled body
  IsFilled (again id) = Unit {0}
  IsFilled (choice who kernel relays from tests branches) = PartsAreFilled branches
  IsFilled (send label to) = Unit {0}
  IsFilled (recv label from) = Unit {0}
  IsFilled (run kernel) = Unit {0}
  IsFilled barrier = Unit {0}
  IsFilled (broadcast label root) = Unit {0}
  IsFilled (reduce label op root) = Unit {0}
  IsFilled (allreduce label op) = Unit {0}

  pub AreFilled : Codes → Type 0
  AreFilled nothing = Unit {0}
  AreFilled (more c rest) = IsFilled c × AreFilled rest

  pub PartsAreFilled : Parts → Type 0
  PartsAreFilled no_part = Unit {0}
  PartsAreFilled (part first rest) = AreFilled first × PartsAreFilled rest

abbrev pub TextIsFilled : Type 0
TextIsFilled = (p : Protocol) (l : Program) → HasShape p l → AreFilled l.body
