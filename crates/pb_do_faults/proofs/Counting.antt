-- The fault that counts, by its parts.
use Rattle.std.proofs.Common.{◌≡◌, None}
use Rattle.pb_do_syntax.specs.Calls.{PlainCallFile}
use Rattle.pb_do_faults.specs.declared.fault.CallFault.{CallFault}
use Rattle.pb_do_faults.specs.declared.fault.CallFault.TheVariants.{Twice, Unknown, Arity, Stranger, Cycle, NoMemory}
use Rattle.pb_do_faults.specs.Faults.{twice}
use Rattle.pb_do_faults.specs.Found.{first, IsFault, HasNoFault, IsTwice, IsMisuse, HasNoMisuse}

pub twice_counts : (f : PlainCallFile) (e : CallFault) → IsTwice (twice f) e → IsFault f e
twice_counts f (Twice p) h = h
twice_counts f (Unknown p) h = absurd h
twice_counts f (Arity p) h = absurd h
twice_counts f (Stranger p) h = absurd h
twice_counts f (Cycle p) h = absurd h
twice_counts f NoMemory h = h

pub misuse_counts : (f : PlainCallFile) (e : CallFault) → first (twice f) ≡ None → IsMisuse f e → IsFault f e
misuse_counts f (Twice p) t h = absurd h
misuse_counts f (Unknown p) t h = (t, h)
misuse_counts f (Arity p) t h = (t, h.0, h.1)
misuse_counts f (Stranger p) t h = (t, h.0, h.1, h.2)
misuse_counts f (Cycle p) t h = (t, h.0, h.1, h.2, h.3)
misuse_counts f NoMemory t h = h

pub nothing_counts : (f : PlainCallFile) → first (twice f) ≡ None → HasNoMisuse f → HasNoFault f
nothing_counts f t n = record { once = t; known = n.known; counted = n.counted; no_stranger = n.no_stranger; no_cycle = n.no_cycle }
