use Rattle.std.proofs.Common.{Some, ◌<◌, ◌^◌, ◌+◌, ◌∙◌, ◌-◌, ◌≡◌, sym, subst, ap, length, arith, ℕ, List, Bool, true, false, if◌then◌else◌}
use Rattle.pb_text.specs.Tables.{IsInterned, IsTable}
use Rattle.pb_text.proofs.Same.{distinct_names, same_decides}
use Rattle.pb_text.proofs.Interned.{interned}
use Rattle.pb_text.proofs.names.Names.intern.Goals.{in-Ok, in-Err}
use Rattle.pb_text.proofs.names.Names.intern.Goals as goal

-- one name more at most
more : (old new : ℕ) (b : Bool) → old < 2 ^ 32 - 1 → new ≡ old + (if b then 1 else 0) → new < 2 ^ 32
more old new true few e = omega arith
more old new false few e = omega arith

few : (c : goal.Joined-insert_full) → length c.insert_full.new.self.keys < 2 ^ 32
few c = elim c.match-insert_full.branch [
  | in-Ok w ↦ (let n = w.in-Ok.ensures.len in let old : length c.self.inside.set.keys < 2 ^ 32 - 1 = subst (λ (l : List (List ℕ)). length l < 2 ^ 32 - 1) (sym c.self.view_is) c.requires in more _ _ _ old n)
  | in-Err w ↦ rw w.in-Err.ensures.err c.self.invariant.few
]

table : (c : goal.Joined-insert_full) → IsTable c.insert_full.new.self.keys
table c = record { distinct = distinct_names _ c.insert_full.ensures.unique; few = few c }

pub invariant_of-self : goal.invariant_of-self
invariant_of-self c = table c

pub returns-clause-interned : goal.returns-clause-interned
returns-clause-interned c = elim c.match-insert_full.branch [
  | in-Ok w ↦ rw w.result-is (subst (λ old. IsInterned old c.args.name w.in-Ok.id c.insert_full.new.self.keys) c.self.view_is (interned c.self.inside.set.keys c.args.name _ _ w.in-Ok.ensures.index w.in-Ok.ensures.keys))
  | in-Err w ↦ rw w.result-is (w.in-Err.ensures.err ∙ c.self.view_is)
]

pub returns-clause-table : goal.returns-clause-table
returns-clause-table c = table c

pub returns-clause-there : goal.returns-clause-there
returns-clause-there c = elim c.match-insert_full.branch [
  | in-Ok w ↦ (let s = w.in-Ok.ensures.stored in rw w.result-is (s.1 ∙ ap Some (sym ((same_decides c.args.name s.0).0 s.2))))
  | in-Err w ↦ rw w.result-is tt
]
