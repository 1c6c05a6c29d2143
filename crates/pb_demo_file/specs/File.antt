-- The protocol that `demo` runs, of so many statements. All its places are line 1, byte 1.
--
--   const N = 2..max;
--   global protocol Demo(role W[0..N-1]) {
--     A(uint32[4]) from W[i:0..N-2] to W[i+1];
--     B() from W[N-1] to W[0];
--     compute Tick at W[0];
--     allreduce S(uint32[2]) with sum;
--     ..
--   }
use Rattle.std.specs.Prelude.{ℕ, suc, zero, ◌%◌, ℤ, pos, negsuc, List, [], ◌∷◌, ◌++◌, Option, Some, None, codes}
use Rattle.pb_text.specs.declared.place.Place.{Place}
use Rattle.pb_text.specs.declared.place.Spot.{Spot}
use Rattle.pb_syntax.specs.declared.tree.End.{End}
use Rattle.pb_syntax.specs.declared.tree.High.TheVariants.{Max}
use Rattle.pb_syntax.specs.declared.tree.IndexText.TheVariants.{At, Bind}
use Rattle.pb_syntax.specs.declared.tree.LinText.{LinText}
use Rattle.pb_syntax.specs.declared.tree.Op.TheVariants.{Sum}
use Rattle.pb_syntax.specs.declared.tree.Payload.TheVariants.{Unit as NoWords, Uint32}
use Rattle.pb_syntax.specs.declared.tree.RoleText.{RoleText}
use Rattle.pb_syntax.specs.Tree.{PlainStatement, message, compute, allreduce, PlainStatements, statements_of, PlainFile}

abbrev pub nowhere : Place
nowhere = record { line = 1; col = 1 }

abbrev pub spot : List ℕ → Spot
spot name = record { name = name; place = nowhere }

-- a number, and a name with an offset
abbrev pub number : ℤ → LinText
number off = record { base = None; off = off; place = nowhere }

abbrev pub lin : List ℕ → ℤ → LinText
lin base off = record { base = Some (spot base); off = off; place = nowhere }

-- an index of the one role
abbrev pub at : LinText → End
at index = record { role = spot (codes "W"); index = At index }

-- W[i:0..N-2]
abbrev pub bound : End
bound = record { role = spot (codes "W"); index = Bind (spot (codes "i")) (record { low = number (pos 0); high = lin (codes "N") (negsuc 1) }) }

-- the statement with this number, by what is left of it where it is divided by 4
abbrev pub by_rest : ℕ → PlainStatement
by_rest zero = message (spot (codes "A")) (Uint32 4) bound (at (lin (codes "i") (pos 1)))
by_rest (suc zero) = message (spot (codes "B")) NoWords (at (lin (codes "N") (negsuc 0))) (at (number (pos 0)))
by_rest (suc (suc zero)) = compute nowhere (spot (codes "Tick")) (at (number (pos 0)))
by_rest other = allreduce nowhere (spot (codes "S")) (Uint32 2) Sum

-- the statements with the numbers from 0 on
abbrev pub statements_to : ℕ → List PlainStatement
statements_to zero = []
statements_to (suc k) = statements_to k ++ by_rest (k % 4) ∷ []

-- W[0..N-1]
abbrev pub one_role : RoleText
one_role = record { role = spot (codes "W"); range = Some (record { low = number (pos 0); high = lin (codes "N") (negsuc 0) }) }

abbrev pub demo_file : ℕ → PlainFile
demo_file count = record {
  constant = spot (codes "N");
  low = 2;
  low_place = nowhere;
  high = Max;
  high_place = nowhere;
  protocol = spot (codes "Demo");
  roles = one_role ∷ [];
  body = record { place = nowhere; list = statements_of (statements_to count) };
}
