-- The branches from one of a number on.
use Rattle.std.proofs.Common.{◌≡◌, ℕ, ◌+◌, ◌==◌, Bool, true, false, if◌then◌else◌, refl, arith}
use Rattle.pb_syntax.specs.Tree.{PlainBranches, PlainStatements, branch}
use Rattle.pb_text.specs.declared.place.Place.{Place}
use Rattle.pb_text.specs.declared.token.Mark.TheVariants as marks
use Rattle.pb_syntax.specs.Printed.{Kinds, mark, statements_tokens, branches_tokens, or_tokens, or_at}

abbrev pub branches_from : ℕ → PlainBranches → Kinds → Kinds
branches_from n bs before = if n == 0 then branches_tokens bs before else or_tokens bs before

pub from_next : (n : ℕ) (at : Place) (body : PlainStatements) (rest : PlainBranches) (before : Kinds)
    → branches_from n (branch at body rest) before ≡ branches_from (n + 1) rest (mark marks.RightBrace (statements_tokens body (mark marks.LeftBrace (or_at n before))))
from_next n at body rest before = by (n == 0) refl
  where
    later : ((n + 1) == 0) ≡ false
    later = grind arith

    by : (c : Bool) → (n == 0) ≡ c → branches_from n (branch at body rest) before ≡ branches_from (n + 1) rest (mark marks.RightBrace (statements_tokens body (mark marks.LeftBrace (or_at n before))))
    by true e = rw (e, later) refl
    by false e = rw (e, later) refl
