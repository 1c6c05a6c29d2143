-- The laws go over to machines that follow whatever the family's follow.
use Rattle.std.proofs.Common.{ℕ, ◌<◌, Bool, true, false, List, inl, inr}
use Rattle.pb_world.specs.Actions.{Action}
use Rattle.pb_world.specs.Machine.{Machine, Follows}
use Rattle.pb_world.specs.Family.{Family, on_machine, Laws, Statement, nothing, internal, message, joint}

module _ {S D : Type 0} (F : Family S) (machine : Machine D) (start : ℕ → D) where
  statement_on : {st : List (ℕ × Action)} → Statement F st → Statement (on_machine F machine start) st
  statement_on nothing = nothing
  statement_on (internal h a) = internal h a
  statement_on (message hp hq ne) = message hp hq ne
  statement_on (joint j words) = joint j words

  pub laws_on : ((r : ℕ) → r < F.total → (s : List Action) (ends : Bool) → Follows F.machine (F.allowed r) (F.start r) s ends → Follows machine (F.allowed r) (start r) s ends) → Laws F → Laws (on_machine F machine start)
  laws_on follow laws = record {
    sequential = record { starts = laws.sequential.starts; steps = λ A m. (let st = laws.sequential.steps A m in (st.0, statement_on st.1, st.2)) };
    follows = λ A m r lt. follow r lt _ false (laws.follows A m r lt);
    goes_on = λ A m r lt. elim (laws.goes_on A m r lt) [ inl f ↦ inl (follow r lt _ true f) | inr h ↦ inr h ];
    goes_over = laws.goes_over;
    answered = laws.answered;
    depends = laws.depends;
  }
