use Rattle.std.proofs.Common.{◌<◌, ℕ, List, length, is_some, subst, ap, ◌∙◌}
use Rattle.pb_strips_faults.proofs.Alike.{found_if}
use Rattle.pb_strips_faults.proofs.table.Table.has.Goals as goal

pub returns : goal.returns
returns c = λ roles h.
    let some = subst (λ (l : List ℕ). 0 < length l) c.bytes-bytes.ensures.value c.bytes-bytes.ensures.some in
    let most = subst (λ (l : List ℕ). length l < 65) c.bytes-bytes.ensures.value c.bytes-bytes.ensures.most in
    c.is_some.ensures ∙ ap is_some c.find.ensures.found ∙ found_if c.args.spot.now.name c.args.self.now.names ∙ h.alike c.args.spot.now.name some most
