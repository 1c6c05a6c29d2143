-- The tables of a text's head, and what is looked up in them.
use Rattle.std.specs.Prelude.{◌≡◌, ℕ, ◌<◌, nat_eq, List, [], length, map, get_or, Option, Some, IsSome}
use Rattle.indexmap.specs.IndexMap.{get}
use Rattle.pb_syntax.specs.declared.tree.Payload.{Payload}
use Rattle.pb_syntax.specs.declared.tree.Payload.TheVariants.{Unit as NoWords, Int32, Uint32}
use Rattle.pb_syntax.specs.declared.core_label.CoreLabel.{CoreLabel}
use Rattle.pb_local.specs.Tree.{Program}
use Rattle.pb_local.specs.WellMade.{AreRoles, AreLabels, AreKernels}
use Rattle.pb_cread_lines.specs.declared.payloads.Payloads.{Payloads}
use Rattle.pb_cread_lines.specs.declared.tables.Tables.{Tables}

-- the tables of the program are well made
pub record HasHead (p : Program) : Type 0 where
  pub roles : AreRoles p.range p.roles
  pub labels : AreLabels p.labels
  pub kernels : AreKernels p.kernels

-- a label with a payload
abbrev pub holding : Payloads → Payload → Option ℕ
holding m NoWords = m.unit
holding m (Int32 count) = get nat_eq m.int32 count
holding m (Uint32 count) = get nat_eq m.uint32 count

abbrev pub payload_in : List CoreLabel → ℕ → Payload
payload_in labels k = (get_or labels k (record { name = []; payload = NoWords })).payload

-- what is looked up is a label with that payload, and one is found for each of the first labels
pub record FindsFirst (m : Payloads) (labels : List CoreLabel) (n : ℕ) : Type 0 where
  pub sound : (q : Payload) (j : ℕ) → holding m q ≡ Some j → payload_in labels j ≡ q
  pub whole : (k : ℕ) → k < n → IsSome (holding m (payload_in labels k))

pub record AreTables (t : Tables) (p : Program) : Type 0 where
  pub roles : t.roles ≡ map (λ r. r.name) p.roles
  pub labels : t.labels ≡ map (λ l. l.name) p.labels
  pub kernels : t.kernels ≡ map (λ k. k.name) p.kernels
  pub payloads : FindsFirst t.payloads p.labels (length p.labels)
