use Rattle.pb_explain_again.proofs.Pages.{read_file, still}
use Rattle.pb_explain_protocol.proofs.kernels.text_of_merge.Goals as goal

pub text_of_both-requires : goal.text_of_both-requires
text_of_both-requires g c =
    still _ _ _ _ c.in_ok-bytes.ensures.holds (read_file _ _ _ c.in-Bytes.bytes _ c.in_ok-bytes.ensures.again c.in-Bytes.is c.deref.ensures.value)
