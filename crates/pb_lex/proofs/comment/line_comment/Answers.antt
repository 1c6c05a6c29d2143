use Rattle.std.proofs.Common.{◌≡◌, ◌≤◌, ℕ, Bool, length, take, not, nat_eq, get_or, sym, ap, subst, refl, arith, lit<}
use Rattle.std.specs.Prelude.{codes}
use Rattle.pb_lex.specs.Seen.{HasNoFeed}
use Rattle.pb_lex.proofs.Fronts.{front_within, front_first}
use Rattle.pb_lex.proofs.Levels.{prefix_level}
use Rattle.pb_lex.proofs.Prefixes.{prefix_some, prefix_within}
use Rattle.pb_lex.proofs.comment.line_comment.Goals as goal

abbrev other : ℕ → Bool
other byte = not (nat_eq byte 10)

pub returns-clause-some : goal.returns-clause-some
returns-clause-some c =
    let text = c.args.text.now in
    let two : 2 ≤ length text = front_within (codes "//") text c.requires in
    let first : get_or text 0 0 ≡ 47 = front_first (codes "//") text c.requires (lit< tt) in
    rw c.line_len.ensures (prefix_some other text (omega arith) (ap other first))

pub returns-clause-within : goal.returns-clause-within
returns-clause-within c = rw c.line_len.ensures (prefix_within other c.args.text.now)

pub returns-clause-level : goal.returns-clause-level
returns-clause-level c =
    let text = c.args.text.now in
    subst (λ (n : ℕ). HasNoFeed (take n text)) (sym c.line_len.ensures) (prefix_level other text refl)
