use Rattle.std.proofs.Common.{◌≤◌, length, arith}
use Rattle.pb_draw_log.proofs.Shorter.{head_shorter}
use Rattle.pb_draw_log.proofs.Worded.{no_feed}
use Rattle.pb_draw_log.proofs.line.line_in.Goals as goal

pub words_of-requires : goal.words_of-requires
words_of-requires c =
    let shorter : length c.in-Some.tail.now ≤ length c.args.text.now = head_shorter c.args.text.now c.in-Some.head c.in-Some.tail.now c.in-Some.ensures in
    omega (arith, shorter, c.requires)

pub returns-in_err-rest-in-Some : goal.returns-in_err-rest-in-Some
returns-in_err-rest-in-Some c =
    rw c.from_residual-in_err-rest-in-Some.ensures
    (no_feed c.args.text.now c.in-Some.head c.in-Some.tail.now c.in_ok-words-in-Some.rest.now c.in_ok-words-in-Some.words c.in-Some.ensures c.in_ok-words-in-Some.ensures c.in_err-rest-in-Some.ensures)
