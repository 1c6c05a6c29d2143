-- A worked protocol with a text of its projection's shape: `A() from W[0] to W[N-1];`, where W has the indices 0..N-1 and N is 2 or more.
use Rattle.std.specs.Prelude.{ℕ, ℤ, pos, negsuc, List, [], ◌∷◌, Some, None, codes}
use Rattle.pb_affine.specs.declared.lin.Base.TheVariants.{Fixed, Param}
use Rattle.pb_affine.specs.declared.lin.Lin.{Lin}
use Rattle.pb_affine.specs.declared.guard.Guard.{Guard}
use Rattle.pb_affine.specs.declared.range.NRange.{NRange}
use Rattle.pb_text.specs.declared.place.Place.{Place}
use Rattle.pb_syntax.specs.declared.tree.Payload.TheVariants.{Unit as NoWords}
use Rattle.pb_syntax.specs.declared.core_label.CoreLabel.{CoreLabel}
use Rattle.pb_core_language.specs.declared.protocol.CoreRole.{CoreRole}
use Rattle.pb_core_language.specs.declared.tree.CoreEnd.{CoreEnd}
use Rattle.pb_core_language.specs.Tree as T
use Rattle.pb_core_language.specs.Tree.{Mark}
use Rattle.pb_core_language.specs.Plain.{Protocol}
use Rattle.pb_local.specs.Tree as L
use Rattle.pb_local.specs.Tree.{Codes, nothing, more, Program}
use Rattle.pb_shape.specs.Places.{peer_of}

abbrev pub somewhere : Place
somewhere = record { line = 1; col = 1 }

abbrev pub mark_of : ℕ → Mark
mark_of k = record { number = k; place = somewhere }

-- the number c, and N + c
abbrev pub number : ℤ → Lin
number c = record { base = Fixed; off = c }

abbrev pub from_n : ℤ → Lin
from_n c = record { base = Param; off = c }

-- the rank with this index
abbrev pub worker : Lin → CoreEnd
worker x = record { role = 0; at = x; place = somewhere }

abbrev pub only : Lin → Guard
only x = record { role = 0; low = Some x; high = Some x; from = None; to = None }

-- W, with the indices 0..N-1
abbrev pub w : CoreRole
w = record { name = codes "W"; place = somewhere; low = number (pos 0); high = from_n (negsuc 0) }

abbrev pub workers : List CoreRole
workers = w ∷ []

abbrev pub signal : List ℕ → CoreLabel
signal name = record { name = name; payload = NoWords }

-- ---- from the first to the last

abbrev pub two_or_more : NRange
two_or_more = record { low = 2; high = None }

abbrev pub first_to_last : Protocol
first_to_last = record {
  name = codes "P";
  range = two_or_more;
  roles = workers;
  labels = signal (codes "A") ∷ [];
  kernels = [];
  body = record { mark = mark_of 0; block = T.more (mark_of 0) (T.message 0 (worker (number (pos 0))) (worker (from_n (negsuc 0)))) T.nothing };
  statements = 1;
  blocks = 1;
}

abbrev pub receiver : Codes
receiver = more (L.when (only (from_n (negsuc 0)) ∷ []) (more (L.recv 0 (peer_of (worker (number (pos 0))))) nothing) nothing) nothing

-- two tests, the sender's and the receiver's
abbrev pub first_to_last_text : Program
first_to_last_text = record {
  protocol = codes "P";
  range = two_or_more;
  roles = record { name = codes "W"; low = number (pos 0); high = from_n (negsuc 0) } ∷ [];
  labels = signal (codes "A") ∷ [];
  kernels = [];
  body = more (L.when (only (number (pos 0)) ∷ []) (more (L.send 0 (peer_of (worker (from_n (negsuc 0))))) nothing) nothing) receiver;
}
