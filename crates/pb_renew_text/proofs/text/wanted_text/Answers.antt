use Rattle.std.proofs.Common.{rules}
use Rattle.pb_renew_text.proofs.Texts.{all_made}
use Rattle.pb_renew_text.proofs.text.wanted_text.Goals as goal

pub returns : goal.returns
returns c =
    let printed = c.printed.ensures in
    all_made _ _ _ c.printed.result printed (search rules) (search rules)
