use Rattle.pb_core_language.specs.Plain.{plain}
use Rattle.pb_core_language.specs.Ranks.{total}
use Rattle.std.proofs.Common.{pos}
use Rattle.pb_cli_judge.proofs.Told.{has_ranks, kept_as, refused_as}
use Rattle.pb_cli_judge.proofs.ruled.line_on.Goals as goal

pub ruling_on-requires-clause-ranks : goal.ruling_on-requires-clause-ranks
ruling_on-requires-clause-ranks c =
    has_ranks (plain c.args.core.now) (total c.args.core.now.roles.items (pos c.args.n)) c.args.bytes.now c.args.log.now c.requires.read

pub returns-in-Ok-line_of-clause-kept : goal.returns-in-Ok-line_of-clause-kept
returns-in-Ok-line_of-clause-kept c =
    kept_as (plain c.args.core.now) c.args.n c.args.bytes.now c.args.log.now c.requires.read c.in-Ok.ruling c.in-Ok.ensures c.in-Ok-line_of.line.now c.in-Ok-line_of.ensures.line

pub returns-in-Err-line_of-clause-against : goal.returns-in-Err-line_of-clause-against
returns-in-Err-line_of-clause-against c =
    refused_as (plain c.args.core.now) c.args.n c.args.bytes.now c.args.log.now c.requires.read c.in-Ok.ruling c.in-Ok.ensures c.in-Err-line_of.why c.in-Err-line_of.ensures.refusal
