use Rattle.std.proofs.Common.{[], map, drop, ◌+◌, sym, ap, ◌∙◌, rules}
use Rattle.pb_do_syntax.specs.Plain.{plain_sub}
use Rattle.pb_do_faults.specs.Found.{first}
use Rattle.pb_do_faults.specs.Strangers.{strangers_in, subs_strangers}
use Rattle.pb_do_faults.proofs.Known.{strangers_here, this_first, next_first}
use Rattle.pb_do_faults.proofs.strangers.first_stranger.Goals as goal

pub returns-then-is_some : goal.returns-then-is_some
returns-then-is_some c =
    let here = strangers_here c.args.subs.now c.args.params.now c.loop-i.i c.index-subs-i.result c.index-params-i.result (search rules) c.index-subs-i.is c.index-params-i.is c.requires in
    this_first (strangers_in c.index-params-i.result [] (plain_sub c.index-subs-i.result).body.list) (subs_strangers (map plain_sub (drop (c.loop-i.i + 1) c.args.subs.now))) c.first_stranger_of-found.result (search rules) c.first_stranger_of-found.ensures
    ∙ sym (ap first here) ∙ c.loop-i.invariant

pub loop-i-preserved : goal.loop-i-preserved
loop-i-preserved c =
    let here = strangers_here c.args.subs.now c.args.params.now c.loop-i.i c.index-subs-i.result c.index-params-i.result (search rules) c.index-subs-i.is c.index-params-i.is c.requires in
    next_first (strangers_in c.index-params-i.result [] (plain_sub c.index-subs-i.result).body.list) (subs_strangers (map plain_sub (drop (c.loop-i.i + 1) c.args.subs.now))) c.first_stranger_of-found.result (search rules) c.first_stranger_of-found.ensures
    ∙ sym (ap first here) ∙ c.loop-i.invariant
