use Rattle.std.proofs.Common.{sym, ◌∙◌, arith}
use Rattle.pb_sim_ready.proofs.Keeps.{none_kept, no_marks}
use Rattle.pb_sim_ready.proofs.ready.Ready.new.Goals as goal

pub invariant_of-result : goal.invariant_of-result
invariant_of-result c = (
  record {
    each = omega (arith, c.in_ok-marks.ensures.len);
    exact = c.in_ok-list.ensures.items ∙ no_marks c.args.total _ (c.in_ok-marks.ensures.items_if_clones_equal (λ y h. h));
  },
  omega (arith, c.in_ok-list.ensures.capacity),
)

pub returns-clause-none : goal.returns-clause-none
returns-clause-none c = c.in_ok-list.ensures.items ∙ sym (none_kept c.args.total 0)
