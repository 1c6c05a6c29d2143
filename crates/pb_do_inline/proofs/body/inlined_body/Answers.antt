use Rattle.std.proofs.Common.{List, map, None, Ok, ap, ◌∙◌, subst, []}
use Rattle.std.proofs.lemmas.Result.{err_from_is_err_and}
use Rattle.pb_do_syntax.specs.declared.tree.CallStatement.{CallStatement}
use Rattle.pb_do_syntax.specs.Calls as C
use Rattle.pb_do_syntax.specs.Calls.{calls_of}
use Rattle.pb_do_syntax.specs.Plain.{plain_sub, plain_statement, plain_block}
use Rattle.pb_do_syntax.specs.Names.{Name}
use Rattle.pb_do_syntax.specs.Inlining.{Site, Written, InlinesAll}
use Rattle.pb_do_inline.specs.Ends.{written, HaltsAs}
use Rattle.pb_do_inline.proofs.Calling.{listed}
use Rattle.pb_do_inline.proofs.body.inlined_body.Goals as goal

abbrev at_top : List Name → Site
at_top names = record { roles = record { params = []; names = names }; left = 63; root = None }

pub returns-in_err-statements : goal.returns-in_err-statements
returns-in_err-statements c =
    let p = err_from_is_err_and c.from_residual.result c.from_residual.ensures.1 in
    let h = c.in_err-statements.field-0.0 in
    rw (p.1, p.2)
    (subst (λ (w : Written). HaltsAs h (InlinesAll (map plain_sub c.args.subs.now) (at_top []) (plain_block c.args.body.now).list w)) c.behind-out.ensures
    (subst (λ (l : C.Calls). HaltsAs h (InlinesAll (map plain_sub c.args.subs.now) (at_top []) l (written c.behind-out.result)))
    (ap (λ (xs : List CallStatement). calls_of (map plain_statement xs)) c.deref.ensures.value ∙ listed c.args.body.now)
    (subst (λ (n : List Name). HaltsAs h (InlinesAll (map plain_sub c.args.subs.now) (at_top n) (calls_of (map plain_statement c.deref.result.now)) (written c.behind-out.result))) c.new.ensures.items c.in_err-statements.ensures.ends)))

pub returns : goal.returns
returns c =
    subst (λ (w : Written). InlinesAll (map plain_sub c.args.subs.now) (at_top []) (plain_block c.args.body.now).list w (Ok (written c.statements.new.out))) c.behind-out.ensures
    (subst (λ (l : C.Calls). InlinesAll (map plain_sub c.args.subs.now) (at_top []) l (written c.behind-out.result) (Ok (written c.statements.new.out)))
    (ap (λ (xs : List CallStatement). calls_of (map plain_statement xs)) c.deref.ensures.value ∙ listed c.args.body.now)
    (subst (λ (n : List Name). InlinesAll (map plain_sub c.args.subs.now) (at_top n) (calls_of (map plain_statement c.deref.result.now)) (written c.behind-out.result) (Ok (written c.statements.new.out))) c.new.ensures.items c.in_ok-statements.ensures.ends))
