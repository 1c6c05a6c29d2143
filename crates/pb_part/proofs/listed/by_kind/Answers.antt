use Rattle.std.proofs.Common.{sym, subst, ◌∙◌, arith, vec_len}
use Rattle.pb_core_language.specs.Cuts.{cuts}
use Rattle.pb_core_language.specs.Plain.{plain}
use Rattle.pb_part_firsts.specs.Fitting.{EntriesFit}
use Rattle.pb_part.specs.FirstLists.{AreAligned}
use Rattle.pb_part.proofs.Growth.{told_start, told_step, told_end, zero_is}
use Rattle.pb_part.proofs.listed.by_kind.Goals as goal

pub kinds-init : goal.kinds-init
kinds-init c = record {
  is = λ n role x o w. told_start c.args.core.now.roles.items c.new-list.result.items c.args.entries.items n role x o c.new-list.ensures.items;
  fits = c.requires.fits;
  aligned = λ d e f. subst (AreAligned d) (sym c.new-list.ensures.items) tt;
}

pub add_kind-requires : goal.add_kind-requires
add_kind-requires c =
    let p = plain c.args.core.now in
    record { fits = subst (EntriesFit p.range (cuts p)) (sym c.deref.ensures.value) c.kinds.invariant.fits }

pub kinds-preserved : goal.kinds-preserved
kinds-preserved c = record {
  is = λ n role x o w. told_step c.args.core.now.roles.items c.kinds.left.items c.deref.result.now _ _ _ n role x o c.deref.ensures.value (c.in_ok-left.ensures.is n role x o w) (c.kinds.invariant.is n role x o w);
  fits = c.in_ok-left.ensures.fits;
  aligned = λ d e f. c.in_ok-left.ensures.aligned d e f (c.kinds.invariant.aligned d e f);
}

pub returns-clause-is : goal.returns-clause-is
returns-clause-is c = λ n role x o w.
    let none = zero_is (vec_len c.kinds.left) (sym c.is_empty.ensures ∙ c.kinds-test.false) in
    told_end c.args.core.now.roles.items c.kinds.left.items _ _ n role x o (omega (arith, c.kinds.left.ok.0, none)) (c.kinds.invariant.is n role x o w)

pub returns-clause-aligned : goal.returns-clause-aligned
returns-clause-aligned c = λ d e f. c.kinds.invariant.aligned d e f
