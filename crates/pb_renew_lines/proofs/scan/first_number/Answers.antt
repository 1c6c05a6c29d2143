use Rattle.std.proofs.Common.{arith, rules, sym, ◌∙◌}
use Rattle.pb_renew_lines.specs.Lines.{first_number}
use Rattle.pb_renew_lines.proofs.Scans.{ended, passed}
use Rattle.pb_renew_lines.proofs.scan.first_number.Goals as goal

pub loop-at-preserved : goal.loop-at-preserved
loop-at-preserved c = record {
  within = search rules;
  rest = passed c.args.sought c.loop-at.number c.loop-at.is_inside c.args.bytes.now c.loop-at.at c.line_len-len.result c.saturating_add-number.result c.behind-is_inside.result (first_number c.args.sought c.args.bytes.now)
      c.line_len-len.ensures.first c.saturating_add-number.ensures c.behind-is_inside.ensures (sym c.is_sought.ensures ∙ c.if-is_sought.false) c.loop-at.invariant.rest;
}

pub returns : goal.returns
returns c = ended c.args.sought c.loop-at.number c.loop-at.is_inside c.args.bytes.now c.loop-at.at (first_number c.args.sought c.args.bytes.now) (omega arith) c.loop-at.invariant.rest
