use Rattle.pb_explain_again.proofs.Pages.{of_file, of_words, read_file}
use Rattle.pb_explain.proofs.judged.text_of_log.Goals as goal

pub returns-in-Bytes : goal.returns-in-Bytes
returns-in-Bytes g c =
    of_file c.text_of_ruling.result _ _ _ (read_file _ _ _ c.in-Bytes.bytes _ c.in_ok-bytes.ensures.again c.in-Bytes.is c.deref.ensures.value) c.text_of_ruling.ensures

pub returns-in-Lost : goal.returns-in-Lost
returns-in-Lost g c = of_words c.text_of_loss.result _ c.text_of_loss.ensures
