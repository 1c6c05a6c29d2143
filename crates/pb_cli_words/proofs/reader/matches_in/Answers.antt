use Rattle.std.proofs.Common.{◌≡◌, ◌∙◌, sym, ap, true≢false, map}
use Rattle.std.specs.String.{string_bytes}
use Rattle.clap.specs.Words.{app_of, is_simple_and_free, kind_of}
use Rattle.clap.specs.declared.error.kind.ErrorKind.TheVariants.{OutOfMemory}
use Rattle.pb_cli_words.proofs.Parsed.{refused, taken}
use Rattle.pb_cli_words.proofs.Rules.{simple_and_free}
use Rattle.pb_cli_words.proofs.reader.matches_in.Goals as goal

pub returns-in-Ok : goal.returns-in-Ok
returns-in-Ok c =
    taken (app_of c.in_ok-reader.field-0) (map string_bytes c.args.words.now) c.in-Ok.matches c.in_ok-reader.ensures
    (c.in-Ok.ensures.kinds (ap is_simple_and_free c.in_ok-reader.ensures ∙ simple_and_free)) c.in-Ok.ensures.matches

pub returns : goal.returns
returns c =
    let differs : kind_of c.in-Err.error ≡ OutOfMemory → ⊥ = λ h.
    let is : c.kind.result ≡ OutOfMemory = c.kind.ensures ∙ h in
    let same = rw is at c.eq.ensures in
    absurd (true≢false (sym same ∙ c.if-eq.false)) in
    refused (app_of c.in_ok-reader.field-0) (map string_bytes c.args.words.now) c.in-Err.error c.in_ok-reader.ensures
    (c.in-Err.ensures.kinds (ap is_simple_and_free c.in_ok-reader.ensures ∙ simple_and_free)) differs
