-- The status of a refusal, the line that tells it, and the line of a file that is accepted.
use Rattle.std.specs.Prelude.{ℕ, ℤ, List, [], ◌++◌, Option, Some, None, codes, decimal}
use Rattle.std.specs.Fmt.{signed_decimal}
use Rattle.pb_text.specs.declared.place.Place.{Place}
use Rattle.pb_affine.specs.declared.range.NRange.{NRange}
use Rattle.pb_text.specs.declared.quantity.Quantity.{Quantity}
use Rattle.pb_text.specs.declared.quantity.Quantity.TheVariants as quantity
use Rattle.pb_cli_status.specs.declared.call.CallWrong.{CallWrong}
use Rattle.pb_cli_status.specs.declared.call.CallWrong.TheVariants as call
use Rattle.pb_cli_status.specs.declared.kernel.KernelKind.{KernelKind}
use Rattle.pb_cli_status.specs.declared.kernel.KernelKind.TheVariants as kind
use Rattle.pb_cli_status.specs.declared.kernel.KernelWrong.{KernelWrong}
use Rattle.pb_cli_status.specs.declared.kernel.KernelWrong.TheVariants as wrong
use Rattle.pb_cli_status.specs.declared.refusal.Refusal.{Refusal}
use Rattle.pb_cli_status.specs.declared.refusal.Refusal.TheVariants as refusal
use Rattle.pb_cli_status.specs.declared.status.Status.{Status}
use Rattle.pb_cli_status.specs.declared.status.Status.TheVariants as status
use Rattle.pb_cli_status.specs.declared.strip.StripWrong.{StripWrong}
use Rattle.pb_cli_status.specs.declared.strip.StripWrong.TheVariants as strip

abbrev pub status_of : Refusal → Status
status_of refusal.Usage = status.Usage
status_of refusal.ReadFault = status.ReadFault
status_of refusal.FileBytes = status.Limit
status_of refusal.NoMemory = status.NoMemory
status_of (refusal.Syntax place) = status.Refused
status_of (refusal.Limit limit place) = status.Limit
status_of refusal.Breakpoints = status.Limit
status_of (refusal.Broken rule place n at) = status.Refused
status_of (refusal.KernelMarker line) = status.Kernel
status_of (refusal.Kernel kind name wrong) = status.Kernel
status_of (refusal.Text place) = status.Text
status_of (refusal.Schedule line) = status.Schedule
status_of refusal.Events = status.Limit
status_of (refusal.OutOfRange n range) = status.OutOfRange
status_of refusal.Ranks = status.Limit
status_of refusal.WordsInFlight = status.Limit
status_of (refusal.Turns turns) = status.Turns
status_of refusal.Pieces = status.Limit
status_of (refusal.Call wrong place) = status.CallFault
status_of (refusal.Strip wrong place) = status.StripFault
status_of (refusal.CostLoop place) = status.CostFault
status_of (refusal.LogDiffers line rank) = status.NotCovered
status_of (refusal.LogBeyond line rank) = status.NotCovered
status_of (refusal.LogMalformed line) = status.Log

-- the line's words for a limit
abbrev pub limit_words : Quantity → List ℕ
limit_words quantity.FileBytes = codes "pabble: limit file bytes"
limit_words quantity.NumberSize = codes "pabble: limit number"
limit_words quantity.NameLength = codes "pabble: limit name"
limit_words quantity.Nesting = codes "pabble: limit nesting"
limit_words quantity.Statements = codes "pabble: limit statements"
limit_words quantity.Roles = codes "pabble: limit roles"
limit_words quantity.Branches = codes "pabble: limit branches"
limit_words quantity.Constant = codes "pabble: limit constant"
limit_words quantity.PayloadCount = codes "pabble: limit payload"
limit_words quantity.Breakpoints = codes "pabble: limit breakpoints"
limit_words quantity.Ranks = codes "pabble: limit ranks"
limit_words quantity.WordsInFlight = codes "pabble: limit words in flight"
limit_words quantity.TextNesting = codes "pabble: limit text nesting"
limit_words quantity.TextStatements = codes "pabble: limit text statements"
limit_words quantity.Events = codes "pabble: limit events"
limit_words quantity.Pieces = codes "pabble: limit pieces"

-- what is wrong with a call of a subprotocol, or with a subprotocol
abbrev pub call_words : CallWrong → List ℕ
call_words call.Twice = codes "pabble: call twice"
call_words call.Unknown = codes "pabble: call unknown"
call_words call.Arity = codes "pabble: call arity"
call_words call.Stranger = codes "pabble: call stranger"
call_words call.Cycle = codes "pabble: call cycle"

-- what is wrong with a strip, with an end of one, or with a name beside one
abbrev pub strip_words : StripWrong → List ℕ
strip_words strip.Width = codes "pabble: strip width"
strip_words strip.Plain = codes "pabble: strip plain"
strip_words strip.Variable = codes "pabble: strip variable"
strip_words strip.Column = codes "pabble: strip column"
strip_words strip.Clash = codes "pabble: strip clash"

-- a line that tells a place: what, ` at ` and L:C
abbrev pub line_at : List ℕ → Place → List ℕ
line_at what place = what ++ codes " at " ++ decimal place.line ++ codes ":" ++ decimal place.col ++ codes "\n"

-- `pabble: rule K at L:C`
unfoldable pub rule_words : ℕ → Place → List ℕ
rule_words rule place = codes "pabble: rule " ++ decimal rule ++ codes " at " ++ decimal place.line ++ codes ":" ++ decimal place.col

-- `, N = n` where an N is told
abbrev pub n_words : Option ℤ → List ℕ
n_words None = []
n_words (Some n) = codes ", N = " ++ signed_decimal n

-- `, W[x]` where a rank is told, and the line's end
abbrev pub rank_line : Option (List ℕ × ℤ) → List ℕ
rank_line None = codes "\n"
rank_line (Some at) = codes ", " ++ at.0 ++ codes "[" ++ signed_decimal at.1 ++ codes "]\n"

abbrev pub told_line : Option ℤ → Option (List ℕ × ℤ) → List ℕ
told_line n at = n_words n ++ rank_line at

-- a line that tells a broken rule
abbrev pub rule_line : ℕ → Place → Option ℤ → Option (List ℕ × ℤ) → List ℕ
rule_line rule place n at = rule_words rule place ++ told_line n at

-- a line that ends with a number
abbrev pub number_line : List ℕ → ℕ → List ℕ
number_line what n = what ++ decimal n ++ codes "\n"

-- how the name of a kernel file's body begins
abbrev pub front_of : KernelKind → List ℕ
front_of kind.Prelude = codes "prelude"
front_of kind.Compute = codes "k_"
front_of kind.Choice = codes "c_"
front_of kind.Make = codes "make_"
front_of kind.Take = codes "take_"
front_of kind.Room = codes "room_"

-- the prelude has no name
abbrev pub name_or_none : Option (List ℕ) → List ℕ
name_or_none None = []
name_or_none (Some name) = name

-- what is wrong with it, and the line's end
abbrev pub wrong_words : KernelWrong → List ℕ
wrong_words wrong.Twice = codes " twice\n"
wrong_words wrong.Missing = codes " missing\n"
wrong_words wrong.Extra = codes " extra\n"

-- a line that tells a body of a kernel file
abbrev pub kernel_line : KernelKind → Option (List ℕ) → KernelWrong → List ℕ
kernel_line kind name wrong = codes "pabble: kernel " ++ (front_of kind ++ name_or_none name ++ wrong_words wrong)

-- the upper end of a range, and the line's end
abbrev pub high_words : Option ℕ → List ℕ
high_words None = codes "..max\n"
high_words (Some high) = codes ".." ++ decimal high ++ codes "\n"

-- `pabble: N = n outside LO`
unfoldable pub low_words : ℕ → ℕ → List ℕ
low_words n low = codes "pabble: N = " ++ decimal n ++ codes " outside " ++ decimal low

-- and the upper end
abbrev pub outside_line : ℕ → NRange → List ℕ
outside_line n range = low_words n range.low ++ high_words range.high

-- a line that tells a malformed line of a log
abbrev pub malformed_line : ℕ → List ℕ
malformed_line line = codes "pabble: log line " ++ decimal line ++ codes " is malformed\n"

-- a line that tells how a rank departs from a protocol, first at a line of its log
unfoldable pub ruling_line : ℕ → ℕ → List ℕ → List ℕ
ruling_line line rank what = codes "pabble: log line " ++ decimal line ++ codes ", rank " ++ decimal rank ++ what

abbrev pub line_of : Refusal → List ℕ
line_of refusal.Usage = codes "pabble: usage\n"
line_of refusal.ReadFault = codes "pabble: read fault\n"
line_of refusal.FileBytes = codes "pabble: limit file bytes\n"
line_of refusal.NoMemory = codes "pabble: no memory\n"
line_of (refusal.Syntax place) = line_at (codes "pabble: syntax") place
line_of (refusal.Limit limit place) = line_at (limit_words limit) place
line_of refusal.Breakpoints = codes "pabble: limit breakpoints\n"
line_of (refusal.Broken rule place n at) = rule_line rule place n at
line_of (refusal.KernelMarker line) = number_line (codes "pabble: kernel marker at line ") line
line_of (refusal.Kernel kind name wrong) = kernel_line kind name wrong
line_of (refusal.Text place) = line_at (codes "pabble: text") place
line_of (refusal.Schedule line) = number_line (codes "pabble: schedule line ") line
line_of refusal.Events = codes "pabble: limit events\n"
line_of (refusal.OutOfRange n range) = outside_line n range
line_of refusal.Ranks = codes "pabble: limit ranks\n"
line_of refusal.WordsInFlight = codes "pabble: limit words in flight\n"
line_of (refusal.Turns turns) = number_line (codes "pabble: turns ") turns
line_of refusal.Pieces = codes "pabble: limit pieces\n"
line_of (refusal.Call wrong place) = line_at (call_words wrong) place
line_of (refusal.Strip wrong place) = line_at (strip_words wrong) place
line_of (refusal.CostLoop place) = line_at (codes "pabble: cost loop") place
line_of (refusal.LogDiffers line rank) = ruling_line line rank (codes " differs\n")
line_of (refusal.LogBeyond line rank) = ruling_line line rank (codes " goes beyond\n")
line_of (refusal.LogMalformed line) = malformed_line line

-- the line of a file that is accepted
abbrev pub accepted_line : List ℕ
accepted_line = codes "accepted\n"
