use Rattle.std.proofs.Common.{◌<◌, length, rules}
use Rattle.pb_renew.specs.Reasons.{most_bytes}
use Rattle.pb_renew.proofs.Reasons.{long_text, made_so}
use Rattle.pb_renew.proofs.made.made_of.Goals as goal

pub returns-then-len-clause-fault : goal.returns-then-len-clause-fault
returns-then-len-clause-fault c =
    let long : most_bytes < length c.in-Ok-renewal_of.renewed.text.items = search rules in
    long_text c.args.losing _ _ _ c.in-Ok-renewal_of.ensures.renewal long

pub returns-clause-made : goal.returns-clause-made
returns-clause-made c =
    made_so _ _ _ _ _ _ c.in-Ok-renewal_of.ensures.renewal c.in-Ok.ensures.marked c.in-Ok-outside_in.ensures.outside c.put_together.ensures.renewed c.put_together.ensures.told
