-- What a reader has read.
use Rattle.std.specs.Prelude.{◌≡◌, ℕ, Bool, cond, List, map, reverse, Some, None}
use Rattle.std.specs.Global.{Vec}
use Rattle.pb_local.specs.declared.stmt.Stmt.{Stmt}
use Rattle.pb_local.specs.Tree.{Code, Program, plain}
use Rattle.pb_ctree.specs.Lines as L
use Rattle.pb_cread_statements.specs.declared.told.Told.{Told}
use Rattle.pb_cread_statements.specs.declared.brace.Part.{Part}
use Rattle.pb_cread_statements.specs.declared.brace.Part.TheVariants.{First, Other, For, Loop, Branch, Last}
use Rattle.pb_cread_statements.specs.declared.brace.Brace.{Brace}
use Rattle.pb_cread_statements.specs.declared.wanted.Wanted.{Wanted}
use Rattle.pb_cread_statements.specs.declared.wanted.Wanted.TheVariants.{Statement, Made, Rooted, Cast, Reduced, Allreduced, Received, Chosen, Asked, Relaying, Relayed, Sourced, Probed, Untested, Testing, Tested, Aborting, Aborted, AllTested, Answered}
use Rattle.pb_cread_statements.specs.declared.reader.Reader.{Reader}
use Rattle.pb_cread_statements.specs.Reading as R

abbrev pub plains : List (Vec Stmt) → List (List Code)
plains parts = map (λ v. map plain v.items) parts

abbrev pub told_of : Told → R.Told
told_of t = R.told t.who t.kernel t.relays.items t.from t.tests.items

abbrev pub kind_of : Part → R.Kind
kind_of (First guards) = R.in_first guards
kind_of (Other guards first) = R.in_other guards (map plain first.items)
kind_of (For low high) = R.in_for low high
kind_of (Loop id) = R.in_loop_of id
kind_of (Branch told parts) = R.in_branch (told_of told) (plains parts.items)
kind_of (Last told parts previous) = R.in_last (told_of told) (plains parts.items) (map plain previous.items)

abbrev pub frame_of : Brace → R.Frame
frame_of b = R.frame (kind_of b.part) (map plain b.outer.items)

abbrev pub frames_of : List Brace → List R.Frame
frames_of braces = map frame_of (reverse braces)

abbrev pub wanted_of : Wanted → R.Wanted
wanted_of Statement = R.statement
wanted_of (Made label) = R.made label
wanted_of (Rooted label root) = R.rooted label root
wanted_of (Cast label root) = R.cast label root
wanted_of (Reduced label op root) = R.reduced label op root
wanted_of (Allreduced label op) = R.allreduced label op
wanted_of (Received label from) = R.received label from
wanted_of (Chosen who kernel) = R.chosen who kernel
wanted_of (Asked who kernel) = R.asked who kernel
wanted_of (Relaying who kernel relays guards) = R.relaying who kernel relays.items guards
wanted_of (Relayed who kernel relays) = R.relayed who kernel relays.items
wanted_of (Sourced who kernel relays) = R.sourced who kernel relays.items
wanted_of (Probed who kernel relays from) = R.probed who kernel relays.items from
wanted_of (Untested who kernel relays from) = R.untested who kernel relays.items from
wanted_of (Testing told label guards) = R.testing (told_of told) label guards
wanted_of (Tested told) = R.tested (told_of told)
wanted_of (Aborting told) = R.aborting (told_of told)
wanted_of (Aborted told) = R.aborted (told_of told)
wanted_of (AllTested told) = R.all_tested (told_of told)
wanted_of (Answered told) = R.answered (told_of told)

-- what was read so far
abbrev pub state_of : Reader → R.State
state_of r = R.state (wanted_of r.wanted) (map plain r.done.items) (frames_of r.stack.items) r.loops r.begun

-- a line went on to the new state, or doesn't go on
abbrev pub Went : Program → R.State → ℕ → L.Item → Bool → R.State → Type 0
Went p old depth item went new = R.goes_on p old depth item ≡ cond went (Some new) None
