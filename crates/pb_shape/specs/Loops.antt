-- The loops around a statement, and who takes part in it.
use Rattle.std.specs.Prelude.{ℕ, zero, suc, ℤ, pos, Bool, List, [], ◌∷◌}
use Rattle.pb_core_language.specs.Tree.{Mark, StmtTree, BlockTree}
use Rattle.pb_core_language.specs.Flat.{stop, takes_part}
use Rattle.pb_core_language.specs.FlatOf.{flat_stmt}
use Rattle.pb_core_language.specs.Parts.{is_in_body}
use Rattle.pb_core_flat.specs.Seated.{rank}
use Rattle.pb_shape.specs.Places.{Scope, Who}

-- The loops around a statement, the innermost first: their ids in the protocol, their numbers in the text, and whether a rank
-- takes part in the body of each for a reason other than its continue
pub record Around : Type 0 where
  pub opens : List ℕ
  pub numbers : List ℕ
  pub held : ℤ → ℕ → ℤ → List Bool

abbrev pub outermost : Around
outermost = record { opens = []; numbers = []; held = λ n role x. [] }

abbrev pub number_at : List ℕ → ℕ → ℕ
number_at [] k = 0
number_at (a ∷ as_numbers) zero = a
number_at (a ∷ as_numbers) (suc k) = number_at as_numbers k

-- inside one more loop
abbrev pub in_loop : Scope → Around → ℕ → ℕ → BlockTree → Around
in_loop sc a id number body = record {
  opens = id ∷ a.opens;
  numbers = number ∷ a.numbers;
  held = λ n role x. is_in_body sc.roles n (rank sc.roles n role x) a.opens (a.held n role x) id body ∷ a.held n role x;
}

-- those that take part in a statement
abbrev pub takers : Scope → Around → Mark → StmtTree → Who
takers sc a m s n i role x = takes_part (a.held n role x) (rank sc.roles n role x) (flat_stmt sc.roles n a.opens (pos 0) m s stop)
