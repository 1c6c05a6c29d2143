use Rattle.std.proofs.Common.{◌∷◌, [], subst}
use Rattle.pb_text.specs.declared.action.Action.TheVariants as E
use Rattle.pb_judge_lists.specs.Places.{left_of}
use Rattle.pb_judge_steps.specs.Made.{list_of}
use Rattle.pb_judge_steps.specs.Met.{Met, words_sent}
use Rattle.pb_judge_steps.proofs.Meetings.{met_stops, sent, message_met}
use Rattle.pb_judge_steps.proofs.messages.message.Goals as goal

pub returns-in-Some-clause-met : goal.returns-in-Some-clause-met
returns-in-Some-clause-met c =
    let old = left_of c.args.lists.now in
    let mid = left_of c.meet.new.lists in
    let ws = words_sent old c.args.from c.args.size in
    let m = sent old mid c.args.from c.args.to c.args.label c.args.size c.first.result (list_of c.first_words-words.result) c.meet.result c.first.ensures c.first_words-words.ensures c.meet.ensures.met in
    let met = subst (λ r. Met (E.Send c.args.from c.args.to c.args.label ws ∷ []) old r mid) c.in-Some.is m.0 in
    met_stops (E.Send c.args.from c.args.to c.args.label ws ∷ []) (E.Recv c.args.to c.args.from c.args.label ws ∷ []) old mid mid c.in-Some.difference met

pub returns-in-None-clause-met : goal.returns-in-None-clause-met
returns-in-None-clause-met c =
    let old = left_of c.args.lists.now in
    let mid = left_of c.meet.new.lists in
    let ws = words_sent old c.args.from c.args.size in
    let m = sent old mid c.args.from c.args.to c.args.label c.args.size c.first.result (list_of c.first_words-words.result) c.meet.result c.first.ensures c.first_words-words.ensures c.meet.ensures.met in
    let met = subst (λ r. Met (E.Send c.args.from c.args.to c.args.label ws ∷ []) old r mid) c.in-None.is m.0 in
    message_met old mid (left_of c.meet-in-None.new.lists) c.args.from c.args.to c.args.label c.args.size (list_of c.first_words-words.result) c.meet-in-None.result met (m.1 c.in-None.is) c.meet-in-None.ensures.met
