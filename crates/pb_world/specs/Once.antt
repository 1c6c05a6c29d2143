-- A machine that goes back to a loop at most once between two actions: it is lost where it would do so a second time.
use Rattle.std.specs.Prelude.{cond, Bool, false, ◌||◌, ◌&&◌, Option, Some, None}
use Rattle.pb_world.specs.Machine.{Lost, Machine}

-- a state, and whether the machine has gone back since its last action or its start
pub record Once (S : Type 0) : Type 0 where
  pub state : S
  pub went_back : Bool

abbrev pub once_start : {S : Type 0} → S → Once S
once_start x = record { state = x; went_back = false }

abbrev pub once_read : {S : Type 0} → Bool → Option S → Option (Once S)
once_read went_back None = None
once_read went_back (Some y) = Some (record { state = y; went_back = went_back })

-- `goes_back` says of which states the next silent step goes back to a loop
abbrev pub once : {S : Type 0} → (S → Bool) → Machine S → Machine (Once S)
once goes_back M = record {
  next = λ x. cond (goes_back x.state && x.went_back) Lost (M.next x.state);
  quiet = λ x. record { state = M.quiet x.state; went_back = goes_back x.state || x.went_back };
  read = λ x l. once_read x.went_back (M.read x.state l);
  act = λ x a. record { state = M.act x.state a; went_back = false };
}
