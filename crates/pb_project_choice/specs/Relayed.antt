-- Relays that are added for sources.
use Rattle.std.specs.Prelude.{◌≡◌, ◌<◌, ℕ, ℤ, pos, Bool, true, ◌||◌, not, List, length}
use Rattle.std.specs.List.{All, list_any}
use Rattle.pb_affine.specs.declared.lin.Lin.{Lin}
use Rattle.pb_affine.specs.declared.range.NRange.{NRange}
use Rattle.pb_affine.specs.Values.{hold}
use Rattle.pb_part_areas.specs.declared.area.Area.{Area}
use Rattle.pb_cases.specs.Breakpoints.{IsCut}
use Rattle.pb_choice_entries.specs.Clashes.{agrees}
use Rattle.pb_core_language.specs.declared.protocol.CoreRole.{CoreRole}
use Rattle.pb_core_language.specs.declared.tree.CoreEnd.{CoreEnd}
use Rattle.pb_core_language.specs.Sound.{is_small}
use Rattle.pb_core_language.specs.Verdict.{IsIn}
use Rattle.pb_part_firsts.specs.declared.firsts.Entry.{Entry}
use Rattle.pb_part_firsts.specs.declared.firsts.Source.{Source}
use Rattle.pb_part_firsts.specs.Firsts.{are_small}
use Rattle.pb_part_firsts.specs.Fitting.{EntriesFit}
use Rattle.pb_core_flat.specs.Seated.{is_rank, is_at}
use Rattle.pb_local.specs.declared.stmt.Relay.{Relay}
use Rattle.pb_local.specs.Tree.{Program}
use Rattle.pb_local.specs.WellMade.{IsRange, IsRelay}
use Rattle.pb_project_piece.specs.Standing.{Stands}
use Rattle.pb_shape.specs.Places.{Scope}
use Rattle.pb_project_choice.specs.Heard.{IsOther}
use Rattle.pb_project_choice.specs.Sources.{is_listed, hears, source_at}

-- the guards of some relay hold of the rank, with its own index for the variable
abbrev pub relayed : List Relay → ℤ → ℕ → ℤ → Bool
relayed rs n role x = list_any (λ r. hold r.guards n x role x) rs

-- the ranks of a relay hear first from its source
abbrev pub IsRight : NRange → List CoreRole → List Entry → Relay → Type 0
IsRight range roles es r = (n : ℤ) (role : ℕ) (x : ℤ) → IsIn range n → is_rank roles n role x ≡ true → hold r.guards n x role x ≡ true → hears (record { role = r.from.role; at = r.from.at }) es n role x ≡ true

-- the sources are of these roles
abbrev pub AreOfRoles : NRange → List CoreRole → List Entry → ℕ → Type 0
AreOfRoles range roles es m = (n : ℤ) (role : ℕ) (x : ℤ) (s : Source) → IsIn range n → is_rank roles n role x ≡ true → hears s es n role x ≡ true → s.role < m

-- the entries are small, and fit some cuts
pub record AreFit (range : NRange) (es : List Entry) : Type 0 where
  pub small : are_small es ≡ true
  pub cuts : List Lin
  pub are_cuts : All IsCut cuts
  pub fit : EntriesFit range cuts es

-- the source of a relay isn't the chooser, and the rank isn't either
abbrev pub is_apart : Relay → CoreEnd → ℤ → ℕ → ℤ → Bool
is_apart r chooser n role x = not (agrees (record { role = r.from.role; at = r.from.at }) (source_at chooser) n x || is_at chooser n (pos 0) role x)

-- the relay holds of such a rank other than the chooser, for which it doesn't name the chooser, at some N of the range
pub record HasCaller (range : NRange) (roles : List CoreRole) (such : ℤ → ℕ → ℤ → Bool) (chooser : CoreEnd) (r : Relay) : Type 0 where
  pub n : ℤ
  pub role : ℕ
  pub index : ℤ
  pub within : IsIn range n
  pub rank : is_rank roles n role index ≡ true
  pub is : such n role index ≡ true
  pub holds : (i : ℤ) → hold r.guards n i role index ≡ true
  pub apart : is_apart r chooser n role index ≡ true

abbrev pub HaveCallers : NRange → List CoreRole → (ℤ → ℕ → ℤ → Bool) → CoreEnd → List Relay → Type 0
HaveCallers range roles such chooser relays = All (HasCaller range roles such chooser) relays

-- whoever of these entries hears is such a rank
abbrev pub HearSuch : NRange → List CoreRole → (ℤ → ℕ → ℤ → Bool) → List Entry → Type 0
HearSuch range roles such es = (s : Source) (n : ℤ) (role : ℕ) (x : ℤ) → IsIn range n → is_rank roles n role x ≡ true → hears s es n role x ≡ true → such n role x ≡ true

-- of one source
pub record IsRelayed (range : NRange) (roles : ℕ) (whole : List Area) (chooser : CoreEnd) (es : List Entry) (s : Source) (old new : List Relay) : Type 0 where
  pub kept : (n : ℤ) (role : ℕ) (x : ℤ) → relayed old n role x ≡ true → relayed new n role x ≡ true
  pub rest : (sc : Scope) → Stands range roles whole sc → IsRange range → AreFit range es → (n : ℤ) (role : ℕ) (x : ℤ) → IsIn range n → is_rank sc.roles n role x ≡ true → IsOther chooser s n role x →
      hears s es n role x ≡ true → relayed new n role x ≡ true
  pub right : (sc : Scope) → Stands range roles whole sc → IsRange range → AreFit range es → All (IsRight range sc.roles es) old → All (IsRight range sc.roles es) new
  pub each : (p : Program) (sc : Scope) → Stands range roles whole sc → IsRange range → AreFit range es → AreOfRoles range sc.roles es roles → length p.roles ≡ roles → All (IsRelay p) old → All (IsRelay p) new
  pub called : (such : ℤ → ℕ → ℤ → Bool) (sc : Scope) → Stands range roles whole sc → IsRange range → is_small chooser.at.off ≡ true → AreFit range es → HearSuch range sc.roles such es → HaveCallers range sc.roles such chooser old → HaveCallers range sc.roles such chooser new

-- of all sources
pub record AreRelayed (range : NRange) (roles : ℕ) (whole : List Area) (chooser : CoreEnd) (es : List Entry) (sources : List Source) (new : List Relay) : Type 0 where
  pub rest : (sc : Scope) → Stands range roles whole sc → IsRange range → AreFit range es → (s : Source) → is_listed s sources ≡ true → (n : ℤ) (role : ℕ) (x : ℤ) → IsIn range n → is_rank sc.roles n role x ≡ true →
      IsOther chooser s n role x → hears s es n role x ≡ true → relayed new n role x ≡ true
  pub right : (sc : Scope) → Stands range roles whole sc → IsRange range → AreFit range es → All (IsRight range sc.roles es) new
  pub each : (p : Program) (sc : Scope) → Stands range roles whole sc → IsRange range → AreFit range es → AreOfRoles range sc.roles es roles → length p.roles ≡ roles → All (IsRelay p) new
  pub called : (such : ℤ → ℕ → ℤ → Bool) (sc : Scope) → Stands range roles whole sc → IsRange range → is_small chooser.at.off ≡ true → AreFit range es → HearSuch range sc.roles such es → HaveCallers range sc.roles such chooser new
