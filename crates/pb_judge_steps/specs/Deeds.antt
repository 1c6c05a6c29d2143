-- What a rank does, as a log tells it, and whether an entry says so.
use Rattle.std.specs.Prelude.{ℕ, Bool, true, false, ◌&&◌, nat_eq, List}
use Rattle.std.specs.Cmp.Lexicographic.{pointwise}
use Rattle.pb_text.specs.declared.action.Action.{Action}
use Rattle.pb_text.specs.declared.action.Action.TheVariants as E
use Rattle.pb_text.specs.declared.action.Joint.{Joint}
use Rattle.pb_text.specs.declared.action.Joint.TheVariants.{Barrier, Labelled}
use Rattle.pb_judge_steps.specs.declared.made.Made.{Made}
use Rattle.pb_judge_steps.specs.declared.deed.Deed.{Deed}
use Rattle.pb_judge_steps.specs.declared.deed.Deed.TheVariants as D
use Rattle.pb_judge_steps.specs.Made.{list_of}

-- the action of a rank that does this
abbrev pub entry_of : ℕ → Deed → Action
entry_of at (D.Choose kernel branch) = E.Choose at kernel branch
entry_of at (D.Run kernel) = E.Run at kernel
entry_of at (D.Send to label words) = E.Send at to label (list_of words)
entry_of at (D.Recv from label words) = E.Recv at from label (list_of words)
entry_of at (D.Enter what words) = E.Enter at what (list_of words)
entry_of at (D.Leave what words) = E.Leave at what (list_of words)

abbrev pub same_joint : Joint → Joint → Bool
same_joint Barrier Barrier = true
same_joint Barrier (Labelled other) = false
same_joint (Labelled one) Barrier = false
same_joint (Labelled one) (Labelled other) = nat_eq one other

abbrev pub has_words : List ℕ → Made → Bool
has_words words made = pointwise nat_eq words (list_of made)

abbrev pub is_chosen : Action → ℕ → ℕ → ℕ → Bool
is_chosen (E.Choose rank named answer) at kernel branch = nat_eq rank at && (nat_eq named kernel && nat_eq answer branch)
is_chosen (E.Run rank named) at kernel branch = false
is_chosen (E.Send rank to named words) at kernel branch = false
is_chosen (E.Recv rank from named words) at kernel branch = false
is_chosen (E.Enter rank what words) at kernel branch = false
is_chosen (E.Leave rank what words) at kernel branch = false

abbrev pub is_run : Action → ℕ → ℕ → Bool
is_run (E.Run rank named) at kernel = nat_eq rank at && nat_eq named kernel
is_run (E.Choose rank named answer) at kernel = false
is_run (E.Send rank to named words) at kernel = false
is_run (E.Recv rank from named words) at kernel = false
is_run (E.Enter rank what words) at kernel = false
is_run (E.Leave rank what words) at kernel = false

abbrev pub is_sent : Action → ℕ → ℕ → ℕ → Made → Bool
is_sent (E.Send rank to named words) at peer label made = nat_eq rank at && (nat_eq to peer && (nat_eq named label && has_words words made))
is_sent (E.Choose rank named answer) at peer label made = false
is_sent (E.Run rank named) at peer label made = false
is_sent (E.Recv rank from named words) at peer label made = false
is_sent (E.Enter rank what words) at peer label made = false
is_sent (E.Leave rank what words) at peer label made = false

abbrev pub is_received : Action → ℕ → ℕ → ℕ → Made → Bool
is_received (E.Recv rank from named words) at peer label made = nat_eq rank at && (nat_eq from peer && (nat_eq named label && has_words words made))
is_received (E.Choose rank named answer) at peer label made = false
is_received (E.Run rank named) at peer label made = false
is_received (E.Send rank to named words) at peer label made = false
is_received (E.Enter rank what words) at peer label made = false
is_received (E.Leave rank what words) at peer label made = false

abbrev pub is_entered : Action → ℕ → Joint → Made → Bool
is_entered (E.Enter rank what words) at joint made = nat_eq rank at && (same_joint what joint && has_words words made)
is_entered (E.Choose rank named answer) at joint made = false
is_entered (E.Run rank named) at joint made = false
is_entered (E.Send rank to named words) at joint made = false
is_entered (E.Recv rank from named words) at joint made = false
is_entered (E.Leave rank what words) at joint made = false

abbrev pub is_left : Action → ℕ → Joint → Made → Bool
is_left (E.Leave rank what words) at joint made = nat_eq rank at && (same_joint what joint && has_words words made)
is_left (E.Choose rank named answer) at joint made = false
is_left (E.Run rank named) at joint made = false
is_left (E.Send rank to named words) at joint made = false
is_left (E.Recv rank from named words) at joint made = false
is_left (E.Enter rank what words) at joint made = false

abbrev pub is_deed : Action → ℕ → Deed → Bool
is_deed action at (D.Choose kernel branch) = is_chosen action at kernel branch
is_deed action at (D.Run kernel) = is_run action at kernel
is_deed action at (D.Send to label words) = is_sent action at to label words
is_deed action at (D.Recv from label words) = is_received action at from label words
is_deed action at (D.Enter what words) = is_entered action at what words
is_deed action at (D.Leave what words) = is_left action at what words
