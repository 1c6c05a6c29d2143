use Rattle.std.proofs.Common.{◌≡◌, ◌≢◌, [], rules}
use Rattle.pb_renew_merge.proofs.Losses.{nothing_gone}
use Rattle.pb_renew.proofs.Reasons.{left_unmade, left_unread, saves_so}
use Rattle.pb_renew.proofs.leaving.leaving_of.Goals as goal

pub returns-then-not-is_some-clause-sound : goal.returns-then-not-is_some-clause-sound
returns-then-not-is_some-clause-sound g c =
    let none : c.args.renewed.now.gone.items ≡ [] = search rules in
    nothing_gone c.args.renewed.now [] none

pub returns-in-Err-clause-refused : goal.returns-in-Err-clause-refused
returns-in-Err-clause-refused g c =
    let some : c.args.renewed.now.gone.items ≢ [] = search rules in
    left_unread c.args.losing c.args.renewed.now some _ _ _ _ _ _ _ c.deref-2.ensures c.in-Err.ensures.fault

pub returns-in-Err-left_of-clause-refused : goal.returns-in-Err-left_of-clause-refused
returns-in-Err-left_of-clause-refused g c =
    let some : c.args.renewed.now.gone.items ≢ [] = search rules in
    left_unmade c.args.losing c.args.renewed.now some _ _ _ _ _ _ _ c.deref-2.ensures c.in-Ok.ensures.bytes c.bytes_in.ensures c.in-Err-left_of.ensures.fault

pub returns-in-Ok-left_of-clause-sound : goal.returns-in-Ok-left_of-clause-sound
returns-in-Ok-left_of-clause-sound g c =
    saves_so c.args.renewed.now _ _ _ c.bytes_in.ensures c.in-Ok-left_of.ensures.lost c.in-Ok-left_of.ensures.keeps c.in-Ok-left_of.ensures.adds
