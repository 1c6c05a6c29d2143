use Rattle.std.proofs.Common.{length, ap, subst, ◌∙◌, refl, arith, length-set}
use Rattle.std.proofs.lemmas.List.{length-replicate}
use Rattle.pb_judge_lists.specs.Places.{AreLinked}
use Rattle.pb_judge_lists.proofs.Linking.{linked_step, linked_none}
use Rattle.pb_judge_lists.proofs.places.link.Goals as goal

pub loop-at-init : goal.loop-at-init
loop-at-init c = record {
  within = omega arith;
  nexts = refl;
  afters = ap length c.requires.after ∙ length-replicate (length c.args.log.now) (length c.args.log.now);
  linked = linked_none c.args.log.now c.args.next.now c.args.after.now c.requires.next;
}

pub loop-at-preserved : goal.loop-at-preserved
loop-at-preserved c = record {
  within = omega (arith, c.loop-at.invariant.within);
  nexts = length-set _ _ _ ∙ c.loop-at.invariant.nexts;
  afters = length-set _ _ _ ∙ c.loop-at.invariant.afters;
  linked =
      linked_step c.args.log.now (length c.args.next.now) c.loop-at.at c.rank_of-rank.result _ c.loop-at.next c.loop-at.after c.loop-at-test.true c.loop-at.invariant.within c.rank_of-rank.ensures c.loop-at.invariant.nexts c.requires.ranks
      c.loop-at.invariant.afters c.loop-at.invariant.linked;
}

pub returns-clause-linked : goal.returns-clause-linked
returns-clause-linked c = subst (λ k. AreLinked c.args.log.now k c.loop-at.next c.loop-at.after) (omega (arith, c.loop-at-test.false)) c.loop-at.invariant.linked

pub returns-clause-after : goal.returns-clause-after
returns-clause-after c = c.loop-at.invariant.afters ∙ (omega (arith, ap length c.requires.after, length-replicate (length c.args.log.now) (length c.args.log.now)))
