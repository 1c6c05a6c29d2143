use Rattle.std.proofs.Common.{ap, subst, ◌∙◌}
use Rattle.std.specs.Prelude.{IfOk, IfSome}
use Rattle.pb_ctree.specs.Rules.{is_kernel_row}
use Rattle.pb_cread_rows.specs.Guesses.{kernel_guess, if_spelled}
use Rattle.pb_cread_rows.specs.Spelled.{kernel_line, names_of_kernels, IsFresh}
use Rattle.pb_cread_frame.specs.Reading.{with_kernel}
use Rattle.pb_cread_frame.specs.Views.{Went, read_of, state_of}
use Rattle.pb_cread_frame.proofs.reader.FrameReader.take_kernel.Goals as goal

pub returns-clause-went : goal.returns-clause-went
returns-clause-went c =
    let text = c.args.line.now in
    subst (λ o. IfOk c.put_kernel.result (λ went. Went (with_kernel (read_of c.args.self.now) text o) went (state_of c.put_kernel.new.self)))
    (c.in_ok-found.ensures.read ∙ ap (λ rows. if_spelled kernel_line (is_kernel_row (names_of_kernels rows)) text (kernel_guess text)) c.deref.ensures.value) c.put_kernel.ensures.went

pub put_kernel-requires-clause-fresh : goal.put_kernel-requires-clause-fresh
put_kernel-requires-clause-fresh c = subst (λ rows. IfSome c.in_ok-found.found (λ k. IsFresh 4000 (names_of_kernels rows) k.name)) c.deref.ensures.value c.in_ok-found.ensures.fresh
