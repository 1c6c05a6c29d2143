use Rattle.pb_explain_again.proofs.Pages.{of_file, of_words, read_file}
use Rattle.pb_explain_simulation.proofs.schedule.text_of_tree.Goals as goal

pub returns-then-eq : goal.returns-then-eq
returns-then-eq g c = of_file c.text_of_bounds.result _ _ _ c.requires.content c.text_of_bounds.ensures

pub returns-in-Lost : goal.returns-in-Lost
returns-in-Lost g c = of_words c.text_of_loss.result _ c.text_of_loss.ensures

pub returns-then-is_schedule : goal.returns-then-is_schedule
returns-then-is_schedule g c =
    of_file c.text_of_bounds-then-is_schedule.result _ _ _ c.requires.content c.text_of_bounds-then-is_schedule.ensures

pub returns : goal.returns
returns g c =
    of_file c.text_of_schedule.result _ _ _ (read_file _ _ _ c.in-Bytes.bytes _ c.in_ok-bytes.ensures.again c.in-Bytes.is c.deref-2.ensures.value) c.text_of_schedule.ensures
