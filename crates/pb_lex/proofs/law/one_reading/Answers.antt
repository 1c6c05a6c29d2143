use Rattle.pb_lex.proofs.Ways.{one_text, one_fault, text_or_fault}
use Rattle.pb_lex.proofs.Whole.{readable}
use Rattle.pb_lex.proofs.law.one_reading.Goals as goal

pub returns : goal.returns
returns c = record { text = one_text; fault = one_fault; apart = text_or_fault; whole = readable }
