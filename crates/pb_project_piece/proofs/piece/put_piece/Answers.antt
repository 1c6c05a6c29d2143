use Rattle.std.proofs.Common.{ap, inl, inr}
use Rattle.pb_core_language.specs.Plain.{plain_stmt}
use Rattle.pb_core_language.proofs.Plains.{plain_loop, plain_again, plain_choice}
use Rattle.pb_project_piece.specs.Pieces.{is_straight}
use Rattle.pb_project_piece.proofs.Straight.{nothing_piece}
use Rattle.pb_project_piece.proofs.piece.put_piece.Goals as goal

pub returns-in-Loop : goal.returns-in-Loop
returns-in-Loop c =
    let s = c.args.stmt.now in
    nothing_piece c.args.setting.now.range c.args.setting.now.roles c.args.setting.now.whole.now (plain_stmt s).stmt c.args.out.now.items
    (elim c.in-Loop.is [
      | inl a ↦ ap is_straight (plain_loop s a.0 a.1 a.2)
      | inr r ↦ elim r [ inl b ↦ ap is_straight (plain_again s b.0 b.1) | inr d ↦ ap is_straight (plain_choice s d.0 d.1 d.2 d.3) ]
    ])

pub returns-in-Loop-2 : goal.returns-in-Loop-2
returns-in-Loop-2 c =
    let s = c.args.stmt.now in
    nothing_piece c.args.setting.now.range c.args.setting.now.roles c.args.setting.now.whole.now (plain_stmt s).stmt c.args.out.now.items
    (elim c.in-Loop.is [
      | inl a ↦ ap is_straight (plain_loop s a.0 a.1 a.2)
      | inr r ↦ elim r [ inl b ↦ ap is_straight (plain_again s b.0 b.1) | inr d ↦ ap is_straight (plain_choice s d.0 d.1 d.2 d.3) ]
    ])

pub returns-in-Loop-3 : goal.returns-in-Loop-3
returns-in-Loop-3 c =
    let s = c.args.stmt.now in
    nothing_piece c.args.setting.now.range c.args.setting.now.roles c.args.setting.now.whole.now (plain_stmt s).stmt c.args.out.now.items
    (elim c.in-Loop.is [
      | inl a ↦ ap is_straight (plain_loop s a.0 a.1 a.2)
      | inr r ↦ elim r [ inl b ↦ ap is_straight (plain_again s b.0 b.1) | inr d ↦ ap is_straight (plain_choice s d.0 d.1 d.2 d.3) ]
    ])
