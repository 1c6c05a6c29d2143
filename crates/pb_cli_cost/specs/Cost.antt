-- What `cost` answers: the file isn't accepted, and one line tells it; or it is, and how much its protocol sends is told, or why
-- it isn't.
use Rattle.std.specs.Prelude.{◌≡◌, ℕ, ◌⊎◌, List, Option, Some, None}
use Rattle.pb_text.specs.declared.place.Place.{Place}
use Rattle.pb_io.specs.Files.{File}
use Rattle.pb_core_language.specs.Plain.{Protocol}
use Rattle.pb_cost_laws.specs.Sent.{Way, Counted}
use Rattle.pb_cost.specs.declared.cost.Cost.{Cost}
use Rattle.pb_cost.specs.Costs.{first_loop, HasFew, HasMany, IsTold}
use Rattle.pb_cli_status.specs.Lines.{line_of}
use Rattle.pb_cli_status.specs.declared.refusal.Refusal.TheVariants as refusal
use Rattle.pb_cli_status.specs.declared.status.Status.{Status}
use Rattle.pb_cli_status.specs.declared.status.Status.TheVariants as S
use Rattle.pb_cli_file.specs.Files.{IsFileRefusal, IsMeaningOf, OrUnread}
use Rattle.pb_cli_cost.specs.Lines.{lines_of}

-- to an accepted protocol belong a status and a text: its lines, or one line
abbrev pub IsCostAnswer : Protocol → Status → List ℕ → Type 0
IsCostAnswer p S.Done text = (cost : Cost) × IsTold p cost × (text ≡ lines_of cost)
IsCostAnswer p S.CostFault text = (place : Place) × (first_loop p.body.block ≡ Some place) × (text ≡ line_of (refusal.CostLoop place))
IsCostAnswer p S.Limit text = (first_loop p.body.block ≡ None) × HasMany p × (text ≡ line_of refusal.Pieces)
IsCostAnswer p S.NoMemory text = text ≡ line_of refusal.NoMemory
IsCostAnswer p other text = ⊥

-- `unread` says of the file that it couldn't be read
abbrev pub IsCostReply : (List ℕ → Type 0) → List ℕ → Option (List File) → Status → List ℕ → Type 0
IsCostReply unread name holds status text =
    OrUnread (unread name) (IsFileRefusal name holds) status text
    ⊎ ((p : Protocol) × IsMeaningOf name holds p × IsCostAnswer p status text)

-- it has no loop, and each part has few pieces
abbrev pub HasCost : Protocol → Type 0
HasCost p = (first_loop p.body.block ≡ None) × ((way : Way) (what : Counted) → HasFew p way what)
