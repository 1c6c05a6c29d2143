use Rattle.pb_explain_again.proofs.Pages.{of_file, read_file, still}
use Rattle.pb_explain_simulation.proofs.schedule.text_of_replay.Goals as goal

pub text_of_tree-requires-clause-content : goal.text_of_tree-requires-clause-content
text_of_tree-requires-clause-content g c =
    still _ _ _ _ c.in_ok-bytes.ensures.holds (read_file _ _ _ c.in-Bytes.bytes _ c.in_ok-bytes.ensures.again c.in-Bytes.is c.deref.ensures.value)

pub returns-in-Err : goal.returns-in-Err
returns-in-Err g c =
    of_file c.text_of_no_text.result _ _ _ (read_file _ _ _ c.in-Bytes.bytes _ c.in_ok-bytes.ensures.again c.in-Bytes.is c.deref.ensures.value) c.text_of_no_text.ensures
