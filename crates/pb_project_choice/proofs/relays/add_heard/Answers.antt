use Rattle.std.proofs.Common.{sym, ◌∙◌, subst}
use Rattle.pb_project_choice.specs.Heard.{AreOthers}
use Rattle.pb_project_choice.proofs.Hearing.{adds_heard, adds_none}
use Rattle.pb_project_choice.proofs.relays.add_heard.Goals as goal

pub returns-in_ok-gather_all : goal.returns-in_ok-gather_all
returns-in_ok-gather_all c =
    adds_heard c.args.chooser c.args.source c.args.entry c.args.areas.now.items c.deref.result.now c.gather_all.new.out.items (sym c.is_of.ensures ∙ c.if-is_of.true)
    (subst (AreOthers c.args.chooser c.args.entry.area c.args.source) (sym c.deref.ensures.value) c.in_ok-new.ensures)
    c.in_ok-gather_all.ensures.is c.in_ok-gather_all.ensures.fits

pub returns-else-is_of : goal.returns-else-is_of
returns-else-is_of c = adds_none c.args.chooser c.args.source c.args.entry c.args.areas.now.items (sym c.is_of.ensures ∙ c.if-is_of.false)
