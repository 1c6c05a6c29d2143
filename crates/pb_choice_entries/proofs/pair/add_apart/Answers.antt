use Rattle.pb_choice_entries.proofs.Adds.{adds_apart}
use Rattle.pb_choice_entries.proofs.pair.add_apart.Goals as goal

pub returns : goal.returns
returns c =
    adds_apart c.args.a c.args.b c.agreement.result c.args.from c.args.second c.in_ok-both.both.items c.in_ok-met.met.items c.deref.result.now c.in_ok-apart.apart.items c.deref-2.result.now
    c.args.out.now.items c.attach_all.new.out.items c.in_ok-both.ensures c.in_ok-met.ensures.is c.agreement.ensures c.deref.ensures.value c.in_ok-apart.ensures.is c.deref-2.ensures.value c.in_ok-attach_all.ensures.is
