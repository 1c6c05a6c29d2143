use Rattle.std.proofs.Common.{◌≡◌, true, drop, rules}
use Rattle.pb_local.specs.Tree.{program_of}
use Rattle.pb_ctree.specs.Functions.{has_words}
use Rattle.pb_cprint.proofs.Blocks.{along}
use Rattle.pb_typed_frame.proofs.Rounds.{words_text, fixed_text}
use Rattle.pb_typed_frame.proofs.functions.push_label.Goals as goal

pub returns-in-Words-clause-text : goal.returns-in-Words-clause-text
returns-in-Words-clause-text c =
    let wordy : has_words c.args.label.now.payload ≡ true = search rules in
    along c.args.out.now.items c.push_two.new.out.items _ _ c.push_two.result
    (words_text (program_of c.args.local.now) c.args.label.now c.args.carried (drop c.args.at c.args.bodies.now) wordy c.in-Words.is) c.push_two.ensures.text

pub returns-in-Fixed-clause-text : goal.returns-in-Fixed-clause-text
returns-in-Fixed-clause-text c =
    let wordy : has_words c.args.label.now.payload ≡ true = search rules in
    along c.args.out.now.items c.push_two-in-Fixed.new.out.items _ _ c.push_two-in-Fixed.result
    (fixed_text (program_of c.args.local.now) c.args.label.now c.args.carried c.in-Fixed.element c.in-Fixed.count (drop c.args.at c.args.bodies.now) wordy c.in-Fixed.is) c.push_two-in-Fixed.ensures.text
