use Rattle.std.proofs.Common.{◌≡◌, sym, subst, to_z, of_z, w64, ℤ}
use Rattle.std.proofs.lemmas.Int.{to_z-of_z}
use Rattle.pb_machine.specs.Seats.{IsModest}
use Rattle.pb_machine.proofs.Ranges.{modest}
use Rattle.pb_machine.proofs.rank.Rank.sized.Goals as goal

pub me_at-me-requires-clause-modest : goal.me_at-me-requires-clause-modest
me_at-me-requires-clause-modest c =
    let same : to_z w64 (of_z w64 c.args.n) ≡ c.args.n = to_z-of_z w64 c.args.n c.ranges.n in
    subst (λ (z : ℤ). IsModest z) (sym same) (modest c.args.tree.now c.args.n c.requires.tree c.requires.some c.requires.range c.requires.few)
