use Rattle.std.proofs.Common.{◌≡◌, ◌∙◌, sym, ap}
use Rattle.pb_core_language.specs.Lists.{nth}
use Rattle.pb_plain.specs.Loops.{held_at}
use Rattle.pb_plain.proofs.Tables.{nth_later, just_is, each_is}
use Rattle.pb_plain.proofs.held.Held.+nth.Goals as goal

pub returns-else-n-eq0 : goal.returns-else-n-eq0
returns-else-n-eq0 t c =
    c.nth.ensures
    ∙ sym (nth_later c.in-Just.first (held_at c.args.rank c.in-Just.rest.now) c.args.n c.if-n-eq0.false)
    ∙ ap (λ xs. nth xs c.args.n) (sym (just_is c.args.rank c.in-Just.first c.in-Just.rest) ∙ ap (held_at c.args.rank) (sym c.in-Just.is))

pub returns-else-n-eq0-2 : goal.returns-else-n-eq0-2
returns-else-n-eq0-2 t c =
    c.nth-else-n-eq0-2.ensures
    ∙ sym (nth_later (nth c.in-Each.first.now c.args.rank) (held_at c.args.rank c.in-Each.rest.now) c.args.n c.if-n-eq0-2.false)
    ∙ ap (λ xs. nth xs c.args.n) (sym (each_is c.args.rank c.in-Each.first c.in-Each.rest) ∙ ap (held_at c.args.rank) (sym c.in-Each.is))
