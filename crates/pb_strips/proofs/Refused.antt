-- A file without faults that passes no limit is refused for memory alone.
use Rattle.std.proofs.Common.{◌≡◌, Option, Some, None, Result, Ok, Err, MatchResult, IfOk, IfErr, refl, arith}
use Rattle.pb_syntax.specs.declared.tree.FileTree.{FileTree}
use Rattle.pb_syntax.specs.Plain as flat
use Rattle.pb_syntax.specs.Tree.{PlainFile}
use Rattle.pb_strips_syntax.specs.Strips.{PlainStripFile}
use Rattle.pb_strips_faults.specs.Found.{HasNoFault}
use Rattle.pb_strips_flatten.specs.Excess.{excess_of}
use Rattle.pb_strips.specs.declared.fault.StripFault.{StripFault}
use Rattle.pb_strips.specs.declared.fault.StripFault.TheVariants.{Width, Plain, Variable, Column, Clash, TooMany, NoMemory}
use Rattle.pb_strips.specs.Flattened.{IsRefused}

none_or_some : {A : Type 0} (x : A) (o : Option A) → o ≡ None → o ≡ Some x → ⊥
none_or_some x None e f = absurd (grind arith)
none_or_some x (Some y) e f = absurd (grind arith)

pub only_memory : (f : PlainStripFile) (e : StripFault) → HasNoFault f → excess_of f ≡ None → IsRefused f e → e ≡ NoMemory
only_memory f (Width p) n t h = absurd (none_or_some p _ n.narrow h)
only_memory f (Plain p) n t h = absurd (none_or_some p _ n.in_columns h.1)
only_memory f (Variable p) n t h = absurd (none_or_some p _ n.bound h.2)
only_memory f (Column p) n t h = absurd (none_or_some p _ n.within h.3)
only_memory f (Clash p) n t h = absurd (none_or_some p _ n.own h.4)
only_memory f (TooMany q p) n t h = absurd (none_or_some (record { limit = q; place = p }) _ t h.1)
only_memory f NoMemory n t h = refl

-- what was answered is that file, unless memory ran out
pub only_then : (f : PlainStripFile) (file : PlainFile) (result : Result FileTree StripFault) → IfOk result (λ given. flat.plain_file given ≡ file) → IfErr result (IsRefused f) →
    HasNoFault f → excess_of f ≡ None → MatchResult result (λ given. flat.plain_file given ≡ file) (λ e. e ≡ NoMemory)
only_then f file (Ok given) is denied n t = is
only_then f file (Err e) is denied n t = only_memory f e n t denied
