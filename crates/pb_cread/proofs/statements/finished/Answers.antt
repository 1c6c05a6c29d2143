use Rattle.std.proofs.Common.{ℕ, [], sym, map, refl, subst}
use Rattle.pb_local.specs.Tree.{plain}
use Rattle.pb_cread_statements.specs.Views.{state_of}
use Rattle.pb_cread.specs.Reached.{InEnd, last_texts}
use Rattle.pb_cread.proofs.Ended.{end_starts}
use Rattle.pb_cread.proofs.Faulted.{main_unfinished}
use Rattle.pb_cread.proofs.statements.finished.Goals as goal

pub returns-in-Some-clause-read : goal.returns-in-Some-clause-read
returns-in-Some-clause-read c = λ text rest n r p b.
    subst (λ (k : ℕ). InEnd text rest k r p (map plain c.in-Some.done.items) [] last_texts) (sym b.number)
    (end_starts text b.from c.args.place.line r p (state_of c.args.reader) (map plain c.in-Some.done.items) b.last rest b.main b.first b.is (sym c.in-Some.ensures))

pub returns-in-None-clause-fault : goal.returns-in-None-clause-fault
returns-in-None-clause-fault c = λ text rest n r p b. main_unfinished text b.from c.args.place.line r p (state_of c.args.reader) b.last rest c.args.place b.main b.first b.is (sym c.in-None.ensures) refl b.col
