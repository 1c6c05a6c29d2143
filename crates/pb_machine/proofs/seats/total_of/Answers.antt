use Rattle.std.proofs.Common.{◌≤◌, ◌<◌, ◌⊎◌, inl, inr, arith}
use Rattle.std.proofs.lemmas.Bool.{cases_lt}
use Rattle.std.proofs.lemmas.Int.{ints}
use Rattle.pb_local.specs.Ranks.{total}
use Rattle.pb_machine.proofs.Ranges.{modest}
use Rattle.pb_machine.proofs.seats.total_of.Goals as goal

pub returns-then-n-gt4294967296-clause-none : goal.returns-then-n-gt4294967296-clause-none
returns-then-n-gt4294967296-clause-none c = λ e. by_case (cases_lt c.args.most (total c.args.tree.now.local.roles.items c.args.n)) where
  by_case : (c.args.most < total c.args.tree.now.local.roles.items c.args.n) ⊎ (total c.args.tree.now.local.roles.items c.args.n ≤ c.args.most) → c.args.most < total c.args.tree.now.local.roles.items c.args.n
  by_case (inl h) = h
  by_case (inr h) =
      let most = c.requires.few in
      let m = modest c.args.tree.now c.args.n c.requires.tree c.requires.some c.requires.range (omega (arith, h, most)) in
      absurd (omega (arith, ints, m.high, c.if-n-gt4294967296.true))
