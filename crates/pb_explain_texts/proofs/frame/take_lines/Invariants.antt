use Rattle.pb_cread_frame.specs.Views.{IsReader}
use Rattle.pb_explain_texts.proofs.frame.take_lines.Given as goal

abbrev pub invariant-loop-line : goal.invariant-loop-line
invariant-loop-line l = IsReader l.reader
