use Rattle.std.proofs.Common.{ℕ, ◌∙◌, ap, ◌+◌, ◌≤◌, rules, length, take}
use Rattle.std.proofs.lemmas.Result.{err_from_is_err_and}
use Rattle.pb_io.specs.Passed.{count_after}
use Rattle.pb_io.proofs.Known.{stands_behind, stops_behind}
use Rattle.pb_io.proofs.reading.read_all.Goals as goal

pub returns-in_err-extend_from_slice-clause-stands : goal.returns-in_err-extend_from_slice-clause-stands
returns-in_err-extend_from_slice-clause-stands g c =
    let p = err_from_is_err_and c.from_residual-in_err-extend_from_slice.result c.from_residual-in_err-extend_from_slice.ensures.1 in
    let most : length c.loop-piece.bytes.items + length (take c.in_ok-count.count c.read.new.buf) ≤ c.args.limit + 1 = search rules in
    rw (p.1, p.2) (stands_behind _ _ _ (g.F.Folder.left c.args.folder.now) _ _ _ _ _ c.in_ok-open_file.ensures.opened c.loop-piece.invariant.read c.in_ok-count.ensures.bytes.0 most)

pub returns-in_err-extend_from_slice-clause-stops : goal.returns-in_err-extend_from_slice-clause-stops
returns-in_err-extend_from_slice-clause-stops g c =
    let p = err_from_is_err_and c.from_residual-in_err-extend_from_slice.result c.from_residual-in_err-extend_from_slice.ensures.1 in
    let most : length c.loop-piece.bytes.items + c.in_ok-count.count ≤ c.args.limit + 1 = search rules in
    rw (p.1, p.2) (stops_behind _ _ _ _ _ _ (c.loop-piece.invariant.passed ∙ ap (λ (n : ℕ). count_after n (length c.loop-piece.bytes.items)) c.in_ok-open_file.ensures.passed) c.in_ok-count.ensures.passed most)
