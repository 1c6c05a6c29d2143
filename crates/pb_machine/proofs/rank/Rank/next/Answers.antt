use Rattle.std.proofs.Common.{ap, ◌∙◌}
use Rattle.pb_machine.specs.Steps.{body_of, next_by}
use Rattle.pb_machine.proofs.Views.{next_seen}
use Rattle.pb_machine.proofs.rank.Rank.next.Goals as goal

pub returns : goal.returns
returns c =
    c.seen.ensures (body_of c.args.tree.now)
    ∙ ap (next_by c.args.self.now.limit c.args.self.now.silent) c.requires.fits.moves
    ∙ next_seen c.args.tree.now c.args.self.now c.requires.fits.placed
