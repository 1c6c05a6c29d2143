-- From what is told of a file to the reply.
use Rattle.std.proofs.Common.{◌≡◌, ℕ, inl, inr, List, Option, None, Some, refl, sym, subst}
use Rattle.pb_text.specs.declared.place.Place.{Place}
use Rattle.pb_io.specs.Files.{File}
use Rattle.pb_core_language.specs.Plain.{Protocol}
use Rattle.pb_cost.specs.declared.cost.Cost.{Cost}
use Rattle.pb_cost.specs.Costs.{first_loop, HasMany, IsCountable, IsTold}
use Rattle.pb_cost_file.proofs.Countable.{file_is_countable}
use Rattle.pb_cli_status.specs.Lines.{line_of, status_of}
use Rattle.pb_cli_status.specs.Written.{Says}
use Rattle.pb_cli_status.specs.declared.refusal.Refusal.{Refusal}
use Rattle.pb_cli_status.specs.declared.refusal.Refusal.TheVariants as refusal
use Rattle.pb_cli_status.specs.declared.status.Status.{Status}
use Rattle.pb_cli_status.specs.declared.status.Status.TheVariants as S
use Rattle.pb_cli_file.specs.Files.{IsFileRefusal, IsMeaningOf, SaysOf}
use Rattle.pb_cli_file.proofs.Answered.{fault_is}
use Rattle.pb_cli_cost.specs.Cost.{IsCostAnswer, IsCostReply}
use Rattle.pb_cli_cost.specs.Lines.{lines_of}

-- ---- a protocol

pub done : (p : Protocol) (cost : Cost) (text : List ℕ) → IsTold p cost → text ≡ lines_of cost → IsCostAnswer p S.Done text
done p cost text told is = (cost, told, is)

pub looped : (p : Protocol) (place : Place) → first_loop p.body.block ≡ Some place → IsCostAnswer p S.CostFault (line_of (refusal.CostLoop place))
looped p place is = (place, is, refl)

pub crowded : (p : Protocol) → (first_loop p.body.block ≡ None) × HasMany p → IsCostAnswer p S.Limit (line_of refusal.Pieces)
crowded p is = (is.0, is.1, refl)

-- ---- its file

module _ (name : List ℕ) (holds : Option (List File)) where
  pub countable : (p : Protocol) → IsMeaningOf name holds p → IsCountable p
  countable p of = let a = of.accepted in subst IsCountable (sym a.2.1) (file_is_countable of.bytes a.0 a.1 a.2.0.0)

  module _ (unread : List ℕ → Type 0) where
    pub told : (p : Protocol) (status : Status) (text : List ℕ) → IsMeaningOf name holds p → IsCostAnswer p status text → IsCostReply unread name holds status text
    told p status text of is = inr (p, of, is)

    pub denied : (why : Refusal) → (why ≡ refusal.ReadFault → unread name) → IsFileRefusal name holds (status_of why) (line_of why) → IsCostReply unread name holds (status_of why) (line_of why)
    denied why read is = inl ((λ e. read (fault_is why e)), is)

-- ---- what is said

pub said : (Belong : Status → List ℕ → Type 0) (status result : Status) (text : List ℕ) (old new : Option (List ℕ)) → Belong status text → Says status text result old new → SaysOf Belong result old new
said Belong status result text old new is says = (status, text, is, says)
