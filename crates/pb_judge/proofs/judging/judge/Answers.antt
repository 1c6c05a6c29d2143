use Rattle.std.proofs.Common.{◌≡◌, ap, ap₂, ◌∙◌, rules, SFits, w64, to_z, of_z, to_z-of_z}
use Rattle.pb_core_language.specs.Collectives.{setting_of}
use Rattle.pb_core_language.specs.FlatOf.{flat}
use Rattle.pb_core_language.specs.Plain.{plain}
use Rattle.pb_core_language.specs.Ranks.{total}
use Rattle.pb_judge_ruling.proofs.Rulings.{ruling_means}
use Rattle.pb_judge_follow.specs.Follow.{all_of}
use Rattle.pb_judge_lists.specs.Places.{left_of}
use Rattle.pb_judge.proofs.Whole.{judged}
use Rattle.pb_judge.proofs.judging.judge.Goals as goal

pub returns-clause-ruling : goal.returns-clause-ruling
returns-clause-ruling c =
    let fits : SFits w64 c.args.n = search rules in
    let near : to_z w64 (of_z w64 c.args.n) ≡ c.args.n = to_z-of_z fits in
    let ranks = c.total.ensures ∙ ap₂ (λ roles n. total roles n) c.deref.ensures.value near in
    c.ruling.ensures (setting_of (plain c.args.core.now) c.args.n) (flat c.args.core.now.roles.items c.args.n (plain c.args.core.now).body.block) c.args.log.now
    (judged c.args.core.now c.args.n c.args.log.now _ (left_of c.in_ok-lists.lists) c.in_ok-flow.flow (left_of c.block.new.lists) c.deref-3.ensures.value near ranks c.deref-2.ensures.value c.requires.sound c.requires.near c.requires.few
    (c.in_ok-lists.ensures ∙ ap all_of c.entries.ensures) c.in_ok-flow.ensures.walked)

pub returns-clause-means : goal.returns-clause-means
returns-clause-means c =
    ruling_means (setting_of (plain c.args.core.now) c.args.n) (flat c.args.core.now.roles.items c.args.n (plain c.args.core.now).body.block) c.args.log.now (total c.args.core.now.roles.items c.args.n) c.ruling.result c.requires.ranks
    (returns-clause-ruling c)
