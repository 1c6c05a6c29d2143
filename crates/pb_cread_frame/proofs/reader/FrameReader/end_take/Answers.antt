use Rattle.pb_cread_frame.specs.Views.{texts_of, read_of, state_of}
use Rattle.pb_cread_frame.proofs.Wordy.{take_ends}
use Rattle.pb_cread_frame.proofs.reader.FrameReader.end_take.Goals as goal

pub returns-clause-state : goal.returns-clause-state
returns-clause-state c = take_ends (read_of c.push_body.new.self) (read_of c.args.self.now) (texts_of c.in_ok-lines.lines.items) c.args.behind (state_of c.wait_words.new.self)
    c.in_ok-push_body.ensures.read c.in_ok-lines.ensures c.in_ok-wait_words.ensures.state
