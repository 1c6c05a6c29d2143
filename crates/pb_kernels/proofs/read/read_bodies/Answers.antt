use Rattle.std.proofs.Common.{ap, arith, rules}
use Rattle.std.proofs.lemmas.Result.{err_from_is_err_and}
use Rattle.pb_kernels.specs.Files.{lines, read_from, bodies_in, is_open_body, is_open_new}
use Rattle.pb_kernels.specs.declared.reading.Reading.{Reading}
use Rattle.pb_kernels.proofs.Steps.{next, failed, ended, ends_at}
use Rattle.pb_kernels.proofs.read.read_bodies.Goals as goal

pub loop-at-init : goal.loop-at-init
loop-at-init c = record {
  within = omega arith;
  lines = ap (λ (r : Reading). read_from c.args.dialect 1 (lines c.args.bytes.now) r) c.new-reading.ensures;
  body = λ some. ap (λ (r : Reading). is_open_body r.current) c.new-reading.ensures;
  fresh = ap (λ (r : Reading). is_open_new r.closed r.current) c.new-reading.ensures;
}

pub returns-in_err-read : goal.returns-in_err-read
returns-in_err-read c =
    let p = err_from_is_err_and c.from_residual.result c.from_residual.ensures.1 in
    rw (p.1, p.2)
    (failed c.args.dialect c.args.bytes.now c.loop-at.at c.line_len-len.result c.loop-at.number c.loop-at.reading c.in_err-read.field-0.0 (bodies_in c.args.dialect c.args.bytes.now)
    c.line_len-len.ensures.first c.in_err-read.ensures.step c.loop-at.invariant.lines)

pub loop-at-preserved : goal.loop-at-preserved
loop-at-preserved c = record {
  within = search rules;
  lines = next c.args.dialect c.args.bytes.now c.loop-at.at c.line_len-len.result c.loop-at.number c.saturating_add-number.result c.loop-at.reading c.read.new.self (bodies_in c.args.dialect c.args.bytes.now)
      c.line_len-len.ensures.first c.saturating_add-number.ensures c.in_ok-read.ensures.step c.loop-at.invariant.lines;
  body = λ more. c.in_ok-read.ensures.body (ends_at c.args.bytes.now c.loop-at.at c.line_len-len.result more c.line_len-len.ensures.ends);
  fresh = c.in_ok-read.ensures.fresh;
}

pub returns : goal.returns
returns c =
    ended c.args.dialect c.args.bytes.now c.loop-at.at c.loop-at.number c.loop-at.reading (bodies_in c.args.dialect c.args.bytes.now) c.finish.result (omega arith)
    c.loop-at.invariant.lines c.finish.ensures
