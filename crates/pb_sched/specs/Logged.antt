-- The line of a log for each action, with ranks and words in decimal and names as in the tables.
use Rattle.std.specs.Prelude.{ℕ, ◌-◌, ◌^◌, nat_lt, if◌then◌else◌, List, ◌++◌, codes, decimal}
use Rattle.std.specs.List.{flat_map}
use Rattle.pb_text.specs.declared.action.Action.{Action}
use Rattle.pb_text.specs.declared.action.Action.TheVariants.{Choose, Run, Send, Recv, Enter, Leave}
use Rattle.pb_text.specs.declared.action.Joint.{Joint}
use Rattle.pb_text.specs.declared.action.Joint.TheVariants.{Barrier, Labelled}
use Rattle.pb_syntax.specs.declared.core_label.CoreLabel.{CoreLabel}
use Rattle.pb_syntax.specs.declared.tree.Payload.{Payload}
use Rattle.pb_syntax.specs.declared.tree.Payload.TheVariants.{Unit as NoWords, Int32, Uint32}
use Rattle.pb_local.specs.Tables.{label_at, kernel_at}
use Rattle.pb_local.specs.Tree.{Program}

-- 32 bits in two's complement
abbrev pub signed_text : ℕ → List ℕ
signed_text w = if nat_lt w (2 ^ 31) then decimal w else codes "-" ++ decimal (2 ^ 32 - w)

abbrev pub word_text : Payload → ℕ → List ℕ
word_text NoWords w = decimal w
word_text (Int32 count) w = signed_text w
word_text (Uint32 count) w = decimal w

-- each after one space
abbrev pub words_text : Payload → List ℕ → List ℕ
words_text payload ws = flat_map (λ w. codes " " ++ word_text payload w) ws

-- a label's name and the words
abbrev pub label_text : CoreLabel → List ℕ → List ℕ
label_text label words = label.name ++ words_text label.payload words

abbrev pub joint_text : Program → Joint → List ℕ → List ℕ
joint_text p Barrier words = codes "barrier" ++ words_text NoWords words
joint_text p (Labelled label) words = label_text (label_at p label) words

abbrev pub action_text : Program → Action → List ℕ
action_text p (Choose rank kernel answer) = decimal rank ++ codes " choose " ++ (kernel_at p kernel).name ++ codes " " ++ decimal answer
action_text p (Run rank kernel) = decimal rank ++ codes " run " ++ (kernel_at p kernel).name
action_text p (Send rank to label words) = decimal rank ++ codes " send " ++ decimal to ++ codes " " ++ label_text (label_at p label) words
action_text p (Recv rank from label words) = decimal rank ++ codes " recv " ++ decimal from ++ codes " " ++ label_text (label_at p label) words
action_text p (Enter rank what words) = decimal rank ++ codes " enter " ++ joint_text p what words
action_text p (Leave rank what words) = decimal rank ++ codes " leave " ++ joint_text p what words

abbrev pub log_line : Program → Action → List ℕ
log_line p action = action_text p action ++ codes "\n"
