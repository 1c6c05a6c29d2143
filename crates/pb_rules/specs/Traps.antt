-- Traps, which are breaches whose index goes with N, and the first breach of many traps.
use Rattle.std.specs.Prelude.{ℕ, ◌+◌, ℤ, pos, nat_eq, true, false, ◌&&◌, if◌then◌else◌, Option, Some, None, List, [], ◌∷◌}
use Rattle.std.specs.List.{slice_get}
use Rattle.pb_affine.specs.declared.lin.Base.{Base}
use Rattle.pb_affine.specs.declared.lin.Base.TheVariants.{Fixed, Param, Var}
use Rattle.pb_affine.specs.declared.lin.Lin.{Lin}
use Rattle.pb_affine.specs.declared.range.NRange.{NRange}
use Rattle.pb_affine.specs.Values.{IsNear}
use Rattle.pb_core_language.specs.declared.protocol.CoreRole.{CoreRole}
use Rattle.pb_core_language.specs.declared.tree.CoreEnd.{CoreEnd}
use Rattle.pb_core_language.specs.Tree.{Mark}
use Rattle.pb_core_language.specs.declared.tree.Bounds.{Bounds}
use Rattle.pb_core_language.specs.Rules.{Breach}
use Rattle.pb_core_language.specs.Verdict.{Broken, is_before}
use Rattle.pb_rules.specs.declared.fault.At.{At}
use Rattle.pb_rules.specs.declared.line.Line.{Line}
use Rattle.pb_rules.specs.declared.span.Span.{Span}
use Rattle.pb_rules.specs.declared.trap.Moving.{Moving}
use Rattle.pb_rules.specs.declared.trap.Trap.{Trap}
use Rattle.pb_rules.specs.declared.found.Found.{Found}
use Rattle.pb_rules.specs.declared.ends.Reach.{Reach}
use Rattle.pb_rules.specs.Lines.{line_of, raised, value_at, IsShort, whole, at_most, below, first_of}
use Rattle.pb_rules.specs.Verdict.{seat_if}

-- ---- the first breach

abbrev pub at_n : Option Moving → ℤ → Option At
at_n None n = None
at_n (Some m) n = Some (record { role = m.role; index = value_at m.index n })

abbrev pub found_at : Trap → ℤ → Found
found_at t n = record { rule = t.rule; number = t.number; place = t.place; n = n; at = at_n t.at n }

abbrev pub found_if : Trap → Option ℤ → Option Found
found_if t None = None
found_if t (Some n) = Some (found_at t n)

abbrev pub first_found : Trap → Option Found
first_found t = found_if t (first_of t.span)

abbrev pub breach_of : Found → Breach
breach_of f = record { rule = f.rule; mark = record { number = f.number; place = f.place }; at = seat_if f.at }

abbrev pub broken_of : Found → Broken
broken_of f = record { n = f.n; breach = breach_of f }

abbrev pub earlier_of : Found → Found → Found
earlier_of best f = if is_before (broken_of f) (broken_of best) then f else best

abbrev pub earlier : Option Found → Option Found → Option Found
earlier best None = best
earlier None (Some f) = Some f
earlier (Some b) (Some f) = Some (earlier_of b f)

abbrev pub kept : Trap → Option Found → Option Found
kept t best = earlier best (first_found t)

abbrev pub kept_all : List Trap → Option Found → Option Found
kept_all [] best = best
kept_all (t ∷ ts) best = kept_all ts (kept t best)

abbrev pub IsShortIf : Option Moving → Type 0
IsShortIf None = Unit {0}
IsShortIf (Some m) = IsShort m.index.off

-- its numbers are small enough to compute with
pub record IsFair (t : Trap) : Type 0 where
  pub from : IsNear t.span.from
  pub at : IsShortIf t.at

-- ---- where an end reaches

abbrev pub still : Line → Reach
still l = record { varies = false; first = l; last = l }

abbrev pub reach_in : Option Bounds → Base → ℤ → Reach
reach_in None Fixed c = still (line_of (record { base = Fixed; off = c }))
reach_in None Param c = still (line_of (record { base = Param; off = c }))
reach_in None Var c = still (line_of (record { base = Var; off = c }))
reach_in (Some o) Fixed c = still (line_of (record { base = Fixed; off = c }))
reach_in (Some o) Param c = still (line_of (record { base = Param; off = c }))
reach_in (Some o) Var c = record { varies = true; first = raised (line_of o.low) c; last = raised (line_of o.high) c }

-- from its index at the first value of the variable to that at the last
abbrev pub reach : Option Bounds → Lin → Reach
reach over l = reach_in over l.base l.off

-- where the variable has a value
abbrev pub alive : NRange → Option Bounds → Span
alive range None = whole range
alive range (Some o) = at_most (whole range) (line_of o.low) (line_of o.high)

-- ---- the traps of each rule

abbrev pub role_trap : NRange → ℕ → CoreRole → Trap
role_trap range k r =
    record { rule = 6; number = k; place = r.place; at = None; span = below (whole range) (line_of r.high) (line_of r.low) }

abbrev pub role_traps : NRange → ℕ → List CoreRole → List Trap
role_traps range k [] = []
role_traps range k (r ∷ rs) = role_trap range k r ∷ role_traps range (k + 1) rs

abbrev pub stray_trap : ℕ → CoreEnd → Line → Span → Trap
stray_trap number e index span =
    record { rule = 7; number = number; place = e.place; at = Some (record { role = e.role; index = index }); span = span }

-- the first index is below the role's, or beyond it, or the one behind the role's last is reached
abbrev pub stray_traps : Span → ℕ → CoreEnd → Line → Line → Reach → List Trap
stray_traps live number e low high r =
    stray_trap number e r.first (below live r.first low)
    ∷ stray_trap number e r.first (below live high r.first)
    ∷ stray_trap number e (raised high (pos 1)) (at_most (at_most live r.first (raised high (pos 1))) (raised high (pos 1)) r.last)
    ∷ []

abbrev pub end_traps_in : Span → ℕ → CoreEnd → Option CoreRole → Reach → List Trap
end_traps_in live number e None r = []
end_traps_in live number e (Some role) r = stray_traps live number e (line_of role.low) (line_of role.high) r

abbrev pub end_traps : NRange → List CoreRole → Option Bounds → ℕ → CoreEnd → List Trap
end_traps range roles over number e = end_traps_in (alive range over) number e (slice_get roles e.role) (reach over e.at)

-- where both vary they meet only at one value of the variable, as well the first
abbrev pub met_with : Reach → Reach → Reach
met_with r s = if r.varies && s.varies then record { varies = r.varies; first = r.first; last = r.first } else r

abbrev pub alike_trap : Mark → ℕ → Line → Span → Trap
alike_trap m role index span =
    record { rule = 8; number = m.number; place = m.place; at = Some (record { role = role; index = index }); span = span }

abbrev pub alike_traps : Span → Mark → ℕ → Reach → Reach → List Trap
alike_traps live m role r s =
    alike_trap m role r.first (at_most (at_most live s.first r.first) r.first s.last)
    ∷ alike_trap m role s.first (at_most (at_most live r.first s.first) s.first r.last)
    ∷ []

abbrev pub message_traps : NRange → Option Bounds → Mark → CoreEnd → CoreEnd → List Trap
message_traps range over m f t =
    if nat_eq f.role t.role
    then alike_traps (alive range over) m f.role (met_with (reach over f.at) (reach over t.at)) (met_with (reach over t.at) (reach over f.at))
    else []
