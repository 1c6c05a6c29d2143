use Rattle.std.proofs.Common.{◌≡◌, ap, ◌∙◌, map, length, arith}
use Rattle.std.specs.Bool.{◌==◌}
use Rattle.pb_local.specs.Tree.{plain}
use Rattle.pb_cread_statements.specs.Views.{wanted_of}
use Rattle.pb_cread_statements.proofs.Unfinished.{unfinished}
use Rattle.pb_cread_statements.proofs.reader.Reader.finish.Goals as goal

pub returns-then-not-is_empty : goal.returns-then-not-is_empty
returns-then-not-is_empty c =
    let long : c.args.self.stack.len ≡ length c.args.self.stack.items = omega (arith, c.args.self.stack.ok.0) in
    unfinished (wanted_of c.args.self.wanted) (map plain c.args.self.done.items) c.args.self.stack.items c.args.self.loops c.args.self.begun (c.if-not-is_empty.ensures ∙ ap (λ n. n == 0) long)
