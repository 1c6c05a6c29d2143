use Rattle.std.proofs.Common.{[], ◌∷◌}
use Rattle.pb_local.specs.Tree.{codes_of}
use Rattle.pb_cread.specs.Reached.{InEnd, IsWhole, brace_text, last_texts, return_text, with_body}
use Rattle.pb_cread.proofs.Passing.{ok_from, err_from}
use Rattle.pb_cread.proofs.ending.read_ending.Goals as goal

pub returns-in-Ok-clause-read : goal.returns-in-Ok-clause-read
returns-in-Ok-clause-read c =
    ok_from c.read_brace.result (λ b r p d. InEnd b c.args.lines.now.rest.now c.args.lines.now.line r p d [] last_texts) (λ b r p d. InEnd b c.expect.new.lines.rest.now c.expect.new.lines.line r p d (return_text ∷ []) (brace_text ∷ []))
    (λ b r p d. IsWhole b r (with_body p (codes_of d))) c.read_brace.ensures.read (λ b r p d i. c.in-Ok.ensures.read b r p d [] (brace_text ∷ []) i)

pub returns-in-Ok-clause-fault : goal.returns-in-Ok-clause-fault
returns-in-Ok-clause-fault c =
    err_from c.read_brace.result (λ b r p d. InEnd b c.args.lines.now.rest.now c.args.lines.now.line r p d [] last_texts) (λ b r p d. InEnd b c.expect.new.lines.rest.now c.expect.new.lines.line r p d (return_text ∷ []) (brace_text ∷ []))
    c.read_brace.ensures.fault (λ b r p d i. c.in-Ok.ensures.read b r p d [] (brace_text ∷ []) i)

pub returns-in-Err-clause-fault : goal.returns-in-Err-clause-fault
returns-in-Err-clause-fault c = λ b r p d i. c.in-Err.ensures.fault b r p d [] (brace_text ∷ []) i
