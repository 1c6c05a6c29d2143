use Rattle.std.proofs.Common.{map, Some, None, refl, ◌∙◌, arith}
use Rattle.pb_do_syntax.specs.Plain.{plain_sub}
use Rattle.pb_do_inline.proofs.Standing.{itself, stands}
use Rattle.pb_do_inline.proofs.subs.Subs.role.Goals as goal

pub returns-in_default-get : goal.returns-in_default-get
returns-in_default-get c =
    itself (map plain_sub c.args.self.now.list.now) c.args.site.now.sub c.in-Some.sub c.deref.result.now c.args.site.now.names.items c.args.name.now
    c.in-Some.is (c.deref.ensures.value ∙ c.args.self.now.indexed.params_named) c.in_default-get.ensures.lookup.3

pub returns-in_default-find : goal.returns-in_default-find
returns-in_default-find c =
    stands (map plain_sub c.args.self.now.list.now) c.args.site.now.sub c.in-Some.sub c.deref.result.now c.in-Some-get.params.now c.args.site.now.names.items c.args.name.now c.args.name.now None
    c.in-Some.is (c.deref.ensures.value ∙ c.args.self.now.indexed.params_named) c.in-Some-get.ensures.lookup.3.0 (c.in-Some-get.ensures.lookup.3.1 c.in-Some-get.params.now)
    c.in_default-find.ensures.found refl

pub returns-in-Some-get-2 : goal.returns-in-Some-get-2
returns-in-Some-get-2 c =
    stands (map plain_sub c.args.self.now.list.now) c.args.site.now.sub c.in-Some.sub c.deref.result.now c.in-Some-get.params.now c.args.site.now.names.items c.args.name.now c.in-Some-get-2.role.now (Some c.in-Some-find.i)
    c.in-Some.is (c.deref.ensures.value ∙ c.args.self.now.indexed.params_named) c.in-Some-get.ensures.lookup.3.0 (c.in-Some-get.ensures.lookup.3.1 c.in-Some-get.params.now)
    c.in-Some-find.ensures.found (rw (← c.deref-2.ensures.value) (c.in-Some-get-2.ensures.lookup.3.1 c.args.name.now))

pub returns-in-None : goal.returns-in-None
returns-in-None c =
    stands (map plain_sub c.args.self.now.list.now) c.args.site.now.sub c.in-Some.sub c.deref.result.now c.in-Some-get.params.now c.args.site.now.names.items c.args.name.now c.args.name.now (Some c.in-Some-find.i)
    c.in-Some.is (c.deref.ensures.value ∙ c.args.self.now.indexed.params_named) c.in-Some-get.ensures.lookup.3.0 (c.in-Some-get.ensures.lookup.3.1 c.in-Some-get.params.now)
    c.in-Some-find.ensures.found (rw (← c.deref-2.ensures.value) (c.in-None.ensures.lookup.4 (omega arith) c.args.name.now))
