use Rattle.std.proofs.Common.{ap, subst, ◌∙◌}
use Rattle.std.specs.Prelude.{IfOk, IfSome}
use Rattle.pb_ctree.specs.Rules.{is_label_row}
use Rattle.pb_cread_rows.specs.Guesses.{label_guess, if_spelled}
use Rattle.pb_cread_rows.specs.Spelled.{label_line, names_of_labels, IsFresh}
use Rattle.pb_cread_frame.specs.Reading.{with_label}
use Rattle.pb_cread_frame.specs.Views.{Went, read_of, state_of}
use Rattle.pb_cread_frame.proofs.reader.FrameReader.take_label.Goals as goal

pub returns-clause-went : goal.returns-clause-went
returns-clause-went c =
    let text = c.args.line.now in
    subst (λ o. IfOk c.put_label.result (λ went. Went (with_label (read_of c.args.self.now) text o) went (state_of c.put_label.new.self)))
    (c.in_ok-found.ensures.read ∙ ap (λ rows. if_spelled label_line (is_label_row (names_of_labels rows)) text (label_guess text)) c.deref.ensures.value) c.put_label.ensures.went

pub put_label-requires-clause-fresh : goal.put_label-requires-clause-fresh
put_label-requires-clause-fresh c = subst (λ rows. IfSome c.in_ok-found.found (λ l. IsFresh 4000 (names_of_labels rows) l.name)) c.deref.ensures.value c.in_ok-found.ensures.fresh
