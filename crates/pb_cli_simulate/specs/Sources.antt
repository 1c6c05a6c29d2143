-- What a simulation is made of: a C text, and a schedule.
use Rattle.std.specs.Prelude.{◌≡◌, ℕ, ◌⊎◌, true, All, List}
use Rattle.pb_text.specs.declared.place.Place.{Place}
use Rattle.pb_text.specs.declared.quantity.Quantity.{Quantity}
use Rattle.pb_text.specs.declared.quantity.Quantity.TheVariants as Q
use Rattle.pb_ctree.specs.declared.body.Bodies.{Bodies}
use Rattle.pb_ctree.specs.declared.tree.CTree.{CTree}
use Rattle.pb_ctree.specs.Bodies.{is_body}
use Rattle.pb_ctree.specs.Texts.{Spells}
use Rattle.pb_cread.specs.Faults.{IsFault}
use Rattle.pb_cread.specs.Limits.{KeepsLimits}
use Rattle.pb_cread.specs.declared.fault.TextFault.TheVariants as T
use Rattle.pb_local.specs.Tree.{program_of}
use Rattle.pb_sched.specs.Outcomes.{IsSchedule, IsBadLine, IsTooMany}
use Rattle.pb_sched.specs.declared.schedule.Schedule.{Schedule}
use Rattle.pb_cli_status.specs.declared.refusal.Refusal.{Refusal}
use Rattle.pb_cli_status.specs.declared.refusal.Refusal.TheVariants as refusal

-- The bytes spell this tree, with some bodies, and keep the limits on texts. That of the bodies is so of each value of the type
-- `Body`; without it one text could be that of other trees
pub record IsTextOf (bytes : List ℕ) (tree : CTree) : Type 0 where
  pub bodies : Bodies
  pub prelude : is_body bodies.prelude ≡ true
  pub list : All (λ body. is_body body ≡ true) bodies.list.items
  pub spells : Spells tree bodies bytes
  pub limits : KeepsLimits (program_of tree.local)

-- which limit is passed at a place
abbrev pub IsLimitAt : List ℕ → Quantity → Place → Type 0
IsLimitAt bytes limit place = ((limit ≡ Q.TextNesting) × IsFault bytes (T.TooDeep place)) ⊎ ((limit ≡ Q.TextStatements) × IsFault bytes (T.TooMany place))

-- why the bytes aren't read as a text
abbrev pub IsNoText : List ℕ → Refusal → Type 0
IsNoText bytes (refusal.Text place) = IsFault bytes (T.Unexpected place)
IsNoText bytes (refusal.Limit limit place) = IsLimitAt bytes limit place
IsNoText bytes refusal.NoMemory = Unit {0}
IsNoText bytes other = ⊥

-- why the bytes aren't read as a schedule
abbrev pub IsNoSchedule : List ℕ → Refusal → Type 0
IsNoSchedule bytes (refusal.Schedule line) = IsBadLine bytes line
IsNoSchedule bytes refusal.Events = (line : ℕ) × IsTooMany bytes line
IsNoSchedule bytes refusal.NoMemory = Unit {0}
IsNoSchedule bytes other = ⊥
