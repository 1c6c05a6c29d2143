-- What is printed is a text of the tree.
use Rattle.std.proofs.Common.{◌≡◌, None, sym, ap, ◌∙◌}
use Rattle.pb_text.specs.Places.{first_place}
use Rattle.pb_syntax.specs.Tree.{PlainFile}
use Rattle.pb_syntax.specs.Bare.{bare_file}
use Rattle.pb_syntax.specs.Printed.{file_tokens}
use Rattle.pb_syntax.specs.Layout.{printed}
use Rattle.pb_syntax.specs.Laws.{IsTextOf, PrintedIsText}
use Rattle.pb_syntax.proofs.Prints.{AllOf}
use Rattle.pb_syntax.proofs.PrintsGrammar.{file_again}
use Rattle.pb_syntax.proofs.PrintedBare.{alike_tokens}
use Rattle.pb_syntax.proofs.Relex.{IsWritten, laid_again}
use Rattle.pb_syntax.proofs.Written.{text_written}

pub printed_is_text : PrintedIsText
printed_is_text f bytes h =
    let again = file_again IsWritten h.tokens h.tree h.whole (text_written h.text.1) in
    let r = laid_again (file_tokens h.tree) None 0 first_place again.0 in
    let g = again.1 r.tokens r.kinds in
    let same : file_tokens f ≡ file_tokens h.tree = alike_tokens f h.tree h.alike in
    record { tokens = r.tokens; text = rw same (r.end, r.lexes); tree = g.0; whole = g.1; alike = h.alike ∙ g.2 }
