-- The flat file of a file with strips is readable.
use Rattle.std.proofs.Common.{None, arith}
use Rattle.pb_syntax.proofs.Written.{text_written}
use Rattle.pb_do_text_laws.proofs.Said.{Said}
use Rattle.pb_do_text_laws.proofs.Readable.{readable}
use Rattle.pb_strips_syntax.specs.Flattening.{flat_file}
use Rattle.pb_strips_grammar.specs.Tokens.{tokens_here}
use Rattle.pb_strips_grammar.specs.Grammar as strips_grammar
use Rattle.pb_strips_text_laws.specs.Laws.{FlatIsReadable}
use Rattle.pb_strips_text_laws.proofs.ReadingFile.{here_written}
use Rattle.pb_strips_text_laws.proofs.Sound.{lawful}
use Rattle.pb_strips_text_laws.proofs.SpokenFile.{file_is}
use Rattle.pb_strips_text_laws.proofs.Flat.{all_said}
use Rattle.pb_strips_text_laws.proofs.FlatFits.{all_fit, all_size}
use Rattle.pb_strips_text_laws.proofs.FlatRoles.{roles_said, roles_small}
use Rattle.pb_strips_text_laws.proofs.FlatFile.{Parts, file_said}

pub flat_is_readable : FlatIsReadable
flat_is_readable bytes tokens f text whole small fine none =
    let said : Said (strips_grammar.file (strips_grammar.block whole.0)) f = record { tokens = tokens_here tokens; text = whole.1; written = here_written whole.0 tokens f whole.1 (text_written text.1) } in
    let is = lawful f fine none in
    let spoken = file_is whole.0 f said in
    let fit = all_fit f.body.list 63 None spoken.1 small.body in
    let most = all_size f.body.list None in
    let both : Parts 63 f = (roles_said f.roles is.narrow spoken.0.0 spoken.0.1, all_said f.body.list 63 None None tt is.sound spoken.1 small.body) in
    readable (flat_file f) (file_said whole.0 63 f said both) small.low is.roles (roles_small f.roles small.roles) fit (omega (arith, most, is.statements))
