use Rattle.std.proofs.Common.{ap, subst, ◌∙◌}
use Rattle.std.specs.Prelude.{IfOk, IfSome}
use Rattle.pb_ctree.specs.Rules.{is_role}
use Rattle.pb_cread_rows.specs.Guesses.{role_guess, if_spelled}
use Rattle.pb_cread_rows.specs.Spelled.{role_line, names_of_roles, IsFresh}
use Rattle.pb_cread_frame.specs.Reading.{with_role}
use Rattle.pb_cread_frame.specs.Views.{Went, read_of, state_of}
use Rattle.pb_cread_frame.proofs.reader.FrameReader.take_role.Goals as goal

pub returns-clause-went : goal.returns-clause-went
returns-clause-went c =
    let text = c.args.line.now in
    subst (λ o. IfOk c.put_role.result (λ went. Went (with_role (read_of c.args.self.now) text o) went (state_of c.put_role.new.self)))
    (c.in_ok-found.ensures.read ∙ ap (λ rows. if_spelled role_line (is_role c.args.self.now.local.range (names_of_roles rows)) text (role_guess text)) c.deref.ensures.value) c.put_role.ensures.went

pub put_role-requires-clause-fresh : goal.put_role-requires-clause-fresh
put_role-requires-clause-fresh c = subst (λ rows. IfSome c.in_ok-found.found (λ r. IsFresh 64 (names_of_roles rows) r.name)) c.deref.ensures.value c.in_ok-found.ensures.fresh
