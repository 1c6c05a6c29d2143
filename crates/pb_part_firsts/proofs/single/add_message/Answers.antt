use Rattle.std.proofs.Common.{false, ◌&&◌, refl, None}
use Rattle.std.proofs.lemmas.Bool.{and_parts}
use Rattle.std.proofs.lemmas.Result.{IfOk-weaker}
use Rattle.pb_core_language.specs.Sound.{is_end}
use Rattle.pb_core_language.specs.Cuts.{end_cuts}
use Rattle.pb_part_takers.proofs.Among.{among_left, among_right}
use Rattle.pb_part_visits.proofs.Meets.{small_off}
use Rattle.pb_part_firsts.proofs.Singles.{message_adds, end_small, end_over}
use Rattle.pb_part_firsts.proofs.single.add_message.Goals as goal

pub returns-clause-gives : goal.returns-clause-gives
returns-clause-gives c = IfOk-weaker c.add_stop-2.result _ _ (λ done f range roles rows held m h.
    let ends = (and_parts _ (is_end rows false c.args.from && is_end rows false c.args.to) h).1 in
    let both = and_parts (is_end rows false c.args.from) (is_end rows false c.args.to) ends in
    message_adds held m c.args.label c.args.from c.args.to (end_over rows c.args.from both.0)
    (c.in_ok-add_stop.ensures.gives range roles (end_small rows c.args.from both.0)) (f range roles (end_small rows c.args.to both.1)))
    c.add_stop-2.ensures.gives

pub returns-clause-small : goal.returns-clause-small
returns-clause-small c = IfOk-weaker c.add_stop-2.result _ _ (λ done f rows ids h k.
    let ends = (and_parts _ (is_end rows false c.args.from && is_end rows false c.args.to) h).1 in
    let both = and_parts (is_end rows false c.args.from) (is_end rows false c.args.to) ends in
    f (small_off c.args.from.at.off (end_small rows c.args.from both.0)) (c.in_ok-add_stop.ensures.small refl k))
    c.add_stop-2.ensures.small

pub returns-clause-fits : goal.returns-clause-fits
returns-clause-fits c = IfOk-weaker c.add_stop-2.result _ _ (λ done f range cuts rows ids h a s.
    let ends = (and_parts _ (is_end rows false c.args.from && is_end rows false c.args.to) h).1 in
    let both = and_parts (is_end rows false c.args.from) (is_end rows false c.args.to) ends in
    f range cuts (end_small rows c.args.to both.1) (end_over rows c.args.to both.1) (among_right (end_cuts None c.args.from) (end_cuts None c.args.to) cuts a)
    (c.in_ok-add_stop.ensures.fits range cuts (end_small rows c.args.from both.0) (end_over rows c.args.from both.0) (among_left (end_cuts None c.args.from) (end_cuts None c.args.to) cuts a) s))
    c.add_stop-2.ensures.fits
