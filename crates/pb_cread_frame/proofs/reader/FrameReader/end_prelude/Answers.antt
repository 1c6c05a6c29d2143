use Rattle.pb_cread_frame.specs.Views.{texts_of, read_of, state_of}
use Rattle.std.proofs.Common.{ap, ◌∙◌}
use Rattle.pb_cread_frame.specs.Reading.{number_texts}
use Rattle.pb_cread_frame.proofs.Wordy.{prelude_ends}
use Rattle.pb_cread_frame.proofs.reader.FrameReader.end_prelude.Goals as goal

pub returns-clause-state : goal.returns-clause-state
returns-clause-state c = prelude_ends (read_of c.put_prelude.new.self) (read_of c.args.self.now) (texts_of c.in_ok-lines.lines.items) (state_of c.wait_words.new.self)
    c.put_prelude.ensures.read (c.in_ok-lines.ensures ∙ ap number_texts c.deref.ensures.value) c.in_ok-wait_words.ensures.state
