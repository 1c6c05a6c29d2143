use Rattle.pb_renew_store.proofs.Files.{takes_away}
use Rattle.pb_renew_store.proofs.mem_files.remove.Goals as goal

pub returns-then-is_there-clause-done : goal.returns-then-is_there-clause-done
returns-then-is_there-clause-done c = λ _. takes_away _ _ _ c.take_away.ensures
