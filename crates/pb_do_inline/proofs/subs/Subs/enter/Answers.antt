use Rattle.std.proofs.Common.{map, Some, refl, ap, subst, arith, false}
use Rattle.std.proofs.lemmas.Result.{err_from_is_err_and}
use Rattle.pb_text.specs.declared.place.Place.{Place}
use Rattle.pb_do_syntax.specs.Calls as C
use Rattle.pb_do_syntax.specs.Plain.{plain_sub}
use Rattle.pb_do_syntax.specs.Inlining.{over_limit}
use Rattle.pb_do_inline.specs.Ends.{written, site_of, Stops}
use Rattle.pb_do_inline.proofs.Arms.{stops}
use Rattle.pb_do_inline.proofs.Calling.{unknown, beyond, begun}
use Rattle.pb_do_inline.proofs.subs.Subs.enter.Goals as goal

pub returns-in_err-count_one-clause-steps : goal.returns-in_err-count_one-clause-steps
returns-in_err-count_one-clause-steps c =
    let p = err_from_is_err_and c.from_residual.result c.from_residual.ensures.1 in
    let h = c.in_err-count_one.field-0.0 in
    rw (p.1, p.2) (stops (map plain_sub c.args.self.now.list.now) (site_of (map plain_sub c.args.self.now.list.now) c.args.site.now c.args.left)
    (C.call c.args.place c.args.sub.now c.args.args.now) (written c.args.out.now) h
    (subst (λ (p : Place). Stops h (over_limit false c.args.left c.args.out.now.count.n) p) c.blamed-root.ensures c.in_err-count_one.ensures.counts))

pub returns-in_default-clause-steps : goal.returns-in_default-clause-steps
returns-in_default-clause-steps c =
    unknown (map plain_sub c.args.self.now.list.now) (site_of (map plain_sub c.args.self.now.list.now) c.args.site.now c.args.left) c.args.place c.args.sub.now c.args.args.now
    (written c.args.out.now) (written c.count_one.new.self) c.in_ok-count_one.ensures.counts.0 c.in_ok-count_one.ensures.counts.1
    (rw (← c.args.self.now.indexed.subs_named) c.in_default.ensures.found)

pub returns-then-body-self-clause-steps : goal.returns-then-body-self-clause-steps
returns-then-body-self-clause-steps c =
    beyond c.args.self.now.list.now (site_of (map plain_sub c.args.self.now.list.now) c.args.site.now c.args.left) c.args.place c.args.sub.now c.args.args.now
    (written c.args.out.now) (written c.count_one.new.self) c.in-Some.i c.in_ok-count_one.ensures.counts.0 c.in_ok-count_one.ensures.counts.1
    (rw (← c.args.self.now.indexed.subs_named) c.in-Some.ensures.found) (omega (arith, c.if-body-self.true))

pub returns-clause-steps : goal.returns-clause-steps
returns-clause-steps c =
    begun c.args.self.now.list.now c.args.site.now c.args.left c.args.place c.args.sub.now c.args.args.now
    (written c.args.out.now) (written c.count_one.new.self) c.in-Some.i (record { site = record { sub = Some c.in-Some.i; names = c.in_ok-names.names; root = Some c.blamed-root.result }; body = c.in-Some.i; next = 0 }) c.in_ok-count_one.ensures.counts.0 c.in_ok-count_one.ensures.counts.1
    (rw (← c.args.self.now.indexed.subs_named) c.in-Some.ensures.found) (omega (arith, c.if-body-self.false)) refl refl refl (ap Some c.blamed-root.ensures) c.in_ok-names.ensures
