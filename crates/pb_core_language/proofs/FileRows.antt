-- Worked files: which of the rules 1 to 5 they break, and what they mean.
use Rattle.std.proofs.Common.{◌≡◌, ℕ, ℤ, pos, negsuc, None, Some, List, [], ◌∷◌, refl}
use Rattle.std.specs.Prelude.{codes}
use Rattle.pb_affine.specs.declared.lin.Base.TheVariants.{Fixed, Param, Var}
use Rattle.pb_text.specs.declared.place.Place.{Place}
use Rattle.pb_text.specs.declared.place.Spot.{Spot}
use Rattle.pb_syntax.specs.declared.tree.High.TheVariants.{Max}
use Rattle.pb_syntax.specs.declared.tree.LinText.{LinText}
use Rattle.pb_syntax.specs.declared.tree.RangeText.{RangeText}
use Rattle.pb_syntax.specs.declared.tree.IndexText.TheVariants.{At, Bind}
use Rattle.pb_syntax.specs.declared.tree.End.{End}
use Rattle.pb_syntax.specs.declared.tree.RoleText.{RoleText}
use Rattle.pb_syntax.specs.declared.tree.Op.TheVariants as O
use Rattle.pb_syntax.specs.declared.tree.Payload.TheVariants.{Unit as Signal, Int32, Uint32}
use Rattle.pb_syntax.specs.Tree.{message, foreach, loop, again, compute, reduce, PlainStatements, nothing, more, PlainFile}
use Rattle.pb_core_language.specs.Tree as T
use Rattle.pb_core_language.specs.FileRules.{broken}
use Rattle.pb_core_language.specs.Meaning.{meaning}

abbrev at : ℕ → ℕ → Place
at line col = record { line = line; col = col }

abbrev spot : List ℕ → ℕ → Spot
spot name col = record { name = name; place = at 3 col }

abbrev number : ℤ → ℕ → LinText
number c col = record { base = None; off = c; place = at 3 col }

abbrev over : List ℕ → ℤ → ℕ → LinText
over name c col = record { base = Some (spot name col); off = c; place = at 3 col }

abbrev range : LinText → LinText → RangeText
range low high = record { low = low; high = high }

abbrev w : ℕ → LinText → End
w col l = record { role = spot (codes "W") col; index = At l }

-- `W[x:low..high]`
abbrev every : List ℕ → ℕ → RangeText → End
every x col r = record { role = spot (codes "W") col; index = Bind (spot x col) r }

-- `const N = 2..max;`, a role `W[0..N-1]`, and this body
abbrev file : PlainStatements → PlainFile
file body = record {
  constant = record { name = codes "N"; place = at 1 7 };
  low = 2;
  low_place = at 1 11;
  high = Max;
  high_place = at 1 14;
  protocol = record { name = codes "P"; place = at 2 17 };
  roles = record { role = record { name = codes "W"; place = at 2 24 }; range = Some (range (number (pos 0) 26) (over (codes "N") (negsuc 0) 29)) } ∷ [];
  body = record { place = at 2 35; list = body };
}

-- ---- rule 1

unknown_role : broken (file (more (message (spot (codes "A") 3) Signal (record { role = spot (codes "V") 12; index = At (number (pos 0) 14) }) (w 20 (number (pos 1) 22))) nothing)) ≡ Some (1, at 3 12)
unknown_role = refl

unknown_variable : broken (file (more (message (spot (codes "A") 3) Signal (w 12 (over (codes "i") (pos 0) 14)) (w 20 (number (pos 1) 22))) nothing)) ≡ Some (1, at 3 14)
unknown_variable = refl

-- a variable that an end binds is in scope in the other end
bound_later : broken (file (more (message (spot (codes "A") 3) Signal (w 12 (over (codes "i") (pos 0) 14)) (every (codes "i") 20 (range (number (pos 1) 22) (number (pos 2) 25)))) nothing)) ≡ None
bound_later = refl

-- but not in its own range
bound_in_range : broken (file (more (message (spot (codes "A") 3) Signal (w 12 (number (pos 0) 14)) (every (codes "i") 20 (range (number (pos 1) 22) (over (codes "i") (pos 0) 25)))) nothing)) ≡ Some (1, at 3 25)
bound_in_range = refl

-- the constant stands for itself, and can't be bound
constant_bound : broken (file (more (message (spot (codes "A") 3) Signal (w 12 (over (codes "N") (pos 0) 14)) (every (codes "N") 20 (range (number (pos 0) 22) (number (pos 3) 25)))) nothing)) ≡ Some (1, at 3 20)
constant_bound = refl

two_kinds : broken (file (more (message (spot (codes "A") 3) Signal (w 12 (number (pos 0) 14)) (w 20 (number (pos 1) 22))) (more (compute (at 3 30) (spot (codes "A") 38) (w 43 (number (pos 0) 45))) nothing))) ≡ Some (1, at 3 38)
two_kinds = refl

-- a loop in a loop of the same name, and one behind it
loop_in_loop : broken (file (more (loop (at 3 3) (spot (codes "X") 7) (at 3 9) (more (loop (at 3 11) (spot (codes "X") 15) (at 3 17) nothing) nothing)) nothing)) ≡ Some (1, at 3 15)
loop_in_loop = refl

loop_behind_loop : broken (file (more (loop (at 3 3) (spot (codes "X") 7) (at 3 9) nothing) (more (loop (at 3 11) (spot (codes "X") 15) (at 3 17) nothing) nothing))) ≡ None
loop_behind_loop = refl

-- ---- rules 2 to 5

sum_of_signed : broken (file (more (reduce (at 3 3) (spot (codes "S") 10) (Int32 1) O.Sum (w 30 (number (pos 0) 32))) nothing)) ≡ Some (2, at 3 10)
sum_of_signed = refl

sum_of_unsigned : broken (file (more (reduce (at 3 3) (spot (codes "S") 10) (Uint32 1) O.Sum (w 30 (number (pos 0) 32))) nothing)) ≡ None
sum_of_unsigned = refl

two_payloads : broken (file (more (message (spot (codes "A") 3) Signal (w 12 (number (pos 0) 14)) (w 20 (number (pos 1) 22))) (more (message (spot (codes "A") 43) (Int32 1) (w 52 (number (pos 0) 54)) (w 60 (number (pos 1) 62))) nothing))) ≡ Some (2, at 3 43)
two_payloads = refl

no_loop : broken (file (more (again (at 3 3) (spot (codes "Z") 12)) nothing)) ≡ Some (3, at 3 3)
no_loop = refl

abbrev round : PlainStatements → PlainStatements
round rest = more (loop (at 3 3) (spot (codes "X") 7) (at 3 9) (more (message (spot (codes "A") 11) Signal (w 20 (number (pos 0) 22)) (w 28 (number (pos 1) 30))) (more (again (at 3 40) (spot (codes "X") 49)) nothing))) rest

endless : broken (file (round (more (message (spot (codes "B") 61) Signal (w 70 (number (pos 0) 72)) (w 78 (number (pos 1) 80))) nothing))) ≡ Some (4, at 3 3)
endless = refl

endless_at_last : broken (file (round nothing)) ≡ None
endless_at_last = refl

-- a role `M` alone, for every N from 2 on
one_rank : broken (record (file (more (compute (at 3 3) (spot (codes "K") 11) (record { role = spot (codes "M") 16; index = At (number (pos 0) 18) })) nothing)) { roles = record { role = record { name = codes "M"; place = at 2 24 }; range = None } ∷ [] }) ≡ Some (5, at 2 17)
one_rank = refl

-- ---- what a file means

-- `A() from W[i:0..N-2] to W[i+1];` is a foreach of number 0 with block 1, in which the message is number 1
bound_message : (meaning (file (more (message (spot (codes "A") 3) Signal (every (codes "i") 12 (range (number (pos 0) 16) (over (codes "N") (negsuc 1) 19))) (w 27 (over (codes "i") (pos 1) 29))) nothing))).body.block
    ≡ T.more (record { number = 0; place = at 3 3 })
    (T.foreach (record { low = record { base = Fixed; off = pos 0 }; high = record { base = Param; off = negsuc 1 } }) (record { number = 1; place = at 3 3 })
    (T.more (record { number = 1; place = at 3 3 })
    (T.message 0 (record { role = 0; at = record { base = Var; off = pos 0 }; place = at 3 12 }) (record { role = 0; at = record { base = Var; off = pos 1 }; place = at 3 27 }))
    T.nothing))
    T.nothing
bound_message = refl
