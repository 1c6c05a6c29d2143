use Rattle.std.proofs.Common.{ap, inl, inr}
use Rattle.pb_core_language.specs.Plain.{plain_stmt}
use Rattle.pb_core_language.specs.Sound.{is_item}
use Rattle.pb_core_language.proofs.Plains.{plain_foreach, plain_loop, plain_again, plain_choice, plain_barrier, plain_broadcast, plain_reduce, plain_allreduce}
use Rattle.pb_project_piece.proofs.Items.{nothing_put}
use Rattle.pb_project_piece.proofs.item.put_item.Goals as goal

pub returns-in-Foreach : goal.returns-in-Foreach
returns-in-Foreach c =
    let s = c.args.stmt.now in
    nothing_put c.args.setting.now.range c.args.setting.now.roles c.args.setting.now.whole.now c.args.over c.args.fixed.now (plain_stmt s).stmt c.args.out.now.items
    (elim c.in-Foreach.is [ inl a ↦ ap is_item (plain_foreach s a.0 a.1 a.2 a.3) | inr r0 ↦ elim r0 [ inl b ↦ ap is_item (plain_loop s b.0 b.1 b.2) | inr r1 ↦ elim r1 [ inl c ↦ ap is_item (plain_again s c.0 c.1) | inr r2 ↦ elim r2 [ inl d ↦ ap is_item (plain_choice s d.0 d.1 d.2 d.3) | inr r3 ↦ elim r3 [ inl e ↦ ap is_item (plain_barrier s e) | inr r4 ↦ elim r4 [ inl f ↦ ap is_item (plain_broadcast s f.0 f.1 f.2) | inr r5 ↦ elim r5 [ inl g ↦ ap is_item (plain_reduce s g.0 g.1 g.2 g.3) | inr r6 ↦ ap is_item (plain_allreduce s r6.0 r6.1 r6.2) ] ] ] ] ] ] ])

pub returns-in-Foreach-2 : goal.returns-in-Foreach-2
returns-in-Foreach-2 c =
    let s = c.args.stmt.now in
    nothing_put c.args.setting.now.range c.args.setting.now.roles c.args.setting.now.whole.now c.args.over c.args.fixed.now (plain_stmt s).stmt c.args.out.now.items
    (elim c.in-Foreach.is [ inl a ↦ ap is_item (plain_foreach s a.0 a.1 a.2 a.3) | inr r0 ↦ elim r0 [ inl b ↦ ap is_item (plain_loop s b.0 b.1 b.2) | inr r1 ↦ elim r1 [ inl c ↦ ap is_item (plain_again s c.0 c.1) | inr r2 ↦ elim r2 [ inl d ↦ ap is_item (plain_choice s d.0 d.1 d.2 d.3) | inr r3 ↦ elim r3 [ inl e ↦ ap is_item (plain_barrier s e) | inr r4 ↦ elim r4 [ inl f ↦ ap is_item (plain_broadcast s f.0 f.1 f.2) | inr r5 ↦ elim r5 [ inl g ↦ ap is_item (plain_reduce s g.0 g.1 g.2 g.3) | inr r6 ↦ ap is_item (plain_allreduce s r6.0 r6.1 r6.2) ] ] ] ] ] ] ])

pub returns-in-Foreach-3 : goal.returns-in-Foreach-3
returns-in-Foreach-3 c =
    let s = c.args.stmt.now in
    nothing_put c.args.setting.now.range c.args.setting.now.roles c.args.setting.now.whole.now c.args.over c.args.fixed.now (plain_stmt s).stmt c.args.out.now.items
    (elim c.in-Foreach.is [ inl a ↦ ap is_item (plain_foreach s a.0 a.1 a.2 a.3) | inr r0 ↦ elim r0 [ inl b ↦ ap is_item (plain_loop s b.0 b.1 b.2) | inr r1 ↦ elim r1 [ inl c ↦ ap is_item (plain_again s c.0 c.1) | inr r2 ↦ elim r2 [ inl d ↦ ap is_item (plain_choice s d.0 d.1 d.2 d.3) | inr r3 ↦ elim r3 [ inl e ↦ ap is_item (plain_barrier s e) | inr r4 ↦ elim r4 [ inl f ↦ ap is_item (plain_broadcast s f.0 f.1 f.2) | inr r5 ↦ elim r5 [ inl g ↦ ap is_item (plain_reduce s g.0 g.1 g.2 g.3) | inr r6 ↦ ap is_item (plain_allreduce s r6.0 r6.1 r6.2) ] ] ] ] ] ] ])

pub returns-in-Foreach-4 : goal.returns-in-Foreach-4
returns-in-Foreach-4 c =
    let s = c.args.stmt.now in
    nothing_put c.args.setting.now.range c.args.setting.now.roles c.args.setting.now.whole.now c.args.over c.args.fixed.now (plain_stmt s).stmt c.args.out.now.items
    (elim c.in-Foreach.is [ inl a ↦ ap is_item (plain_foreach s a.0 a.1 a.2 a.3) | inr r0 ↦ elim r0 [ inl b ↦ ap is_item (plain_loop s b.0 b.1 b.2) | inr r1 ↦ elim r1 [ inl c ↦ ap is_item (plain_again s c.0 c.1) | inr r2 ↦ elim r2 [ inl d ↦ ap is_item (plain_choice s d.0 d.1 d.2 d.3) | inr r3 ↦ elim r3 [ inl e ↦ ap is_item (plain_barrier s e) | inr r4 ↦ elim r4 [ inl f ↦ ap is_item (plain_broadcast s f.0 f.1 f.2) | inr r5 ↦ elim r5 [ inl g ↦ ap is_item (plain_reduce s g.0 g.1 g.2 g.3) | inr r6 ↦ ap is_item (plain_allreduce s r6.0 r6.1 r6.2) ] ] ] ] ] ] ])

pub returns-in-Foreach-5 : goal.returns-in-Foreach-5
returns-in-Foreach-5 c =
    let s = c.args.stmt.now in
    nothing_put c.args.setting.now.range c.args.setting.now.roles c.args.setting.now.whole.now c.args.over c.args.fixed.now (plain_stmt s).stmt c.args.out.now.items
    (elim c.in-Foreach.is [ inl a ↦ ap is_item (plain_foreach s a.0 a.1 a.2 a.3) | inr r0 ↦ elim r0 [ inl b ↦ ap is_item (plain_loop s b.0 b.1 b.2) | inr r1 ↦ elim r1 [ inl c ↦ ap is_item (plain_again s c.0 c.1) | inr r2 ↦ elim r2 [ inl d ↦ ap is_item (plain_choice s d.0 d.1 d.2 d.3) | inr r3 ↦ elim r3 [ inl e ↦ ap is_item (plain_barrier s e) | inr r4 ↦ elim r4 [ inl f ↦ ap is_item (plain_broadcast s f.0 f.1 f.2) | inr r5 ↦ elim r5 [ inl g ↦ ap is_item (plain_reduce s g.0 g.1 g.2 g.3) | inr r6 ↦ ap is_item (plain_allreduce s r6.0 r6.1 r6.2) ] ] ] ] ] ] ])

pub returns-in-Foreach-6 : goal.returns-in-Foreach-6
returns-in-Foreach-6 c =
    let s = c.args.stmt.now in
    nothing_put c.args.setting.now.range c.args.setting.now.roles c.args.setting.now.whole.now c.args.over c.args.fixed.now (plain_stmt s).stmt c.args.out.now.items
    (elim c.in-Foreach.is [ inl a ↦ ap is_item (plain_foreach s a.0 a.1 a.2 a.3) | inr r0 ↦ elim r0 [ inl b ↦ ap is_item (plain_loop s b.0 b.1 b.2) | inr r1 ↦ elim r1 [ inl c ↦ ap is_item (plain_again s c.0 c.1) | inr r2 ↦ elim r2 [ inl d ↦ ap is_item (plain_choice s d.0 d.1 d.2 d.3) | inr r3 ↦ elim r3 [ inl e ↦ ap is_item (plain_barrier s e) | inr r4 ↦ elim r4 [ inl f ↦ ap is_item (plain_broadcast s f.0 f.1 f.2) | inr r5 ↦ elim r5 [ inl g ↦ ap is_item (plain_reduce s g.0 g.1 g.2 g.3) | inr r6 ↦ ap is_item (plain_allreduce s r6.0 r6.1 r6.2) ] ] ] ] ] ] ])

pub returns-in-Foreach-7 : goal.returns-in-Foreach-7
returns-in-Foreach-7 c =
    let s = c.args.stmt.now in
    nothing_put c.args.setting.now.range c.args.setting.now.roles c.args.setting.now.whole.now c.args.over c.args.fixed.now (plain_stmt s).stmt c.args.out.now.items
    (elim c.in-Foreach.is [ inl a ↦ ap is_item (plain_foreach s a.0 a.1 a.2 a.3) | inr r0 ↦ elim r0 [ inl b ↦ ap is_item (plain_loop s b.0 b.1 b.2) | inr r1 ↦ elim r1 [ inl c ↦ ap is_item (plain_again s c.0 c.1) | inr r2 ↦ elim r2 [ inl d ↦ ap is_item (plain_choice s d.0 d.1 d.2 d.3) | inr r3 ↦ elim r3 [ inl e ↦ ap is_item (plain_barrier s e) | inr r4 ↦ elim r4 [ inl f ↦ ap is_item (plain_broadcast s f.0 f.1 f.2) | inr r5 ↦ elim r5 [ inl g ↦ ap is_item (plain_reduce s g.0 g.1 g.2 g.3) | inr r6 ↦ ap is_item (plain_allreduce s r6.0 r6.1 r6.2) ] ] ] ] ] ] ])

pub returns-in-Foreach-8 : goal.returns-in-Foreach-8
returns-in-Foreach-8 c =
    let s = c.args.stmt.now in
    nothing_put c.args.setting.now.range c.args.setting.now.roles c.args.setting.now.whole.now c.args.over c.args.fixed.now (plain_stmt s).stmt c.args.out.now.items
    (elim c.in-Foreach.is [ inl a ↦ ap is_item (plain_foreach s a.0 a.1 a.2 a.3) | inr r0 ↦ elim r0 [ inl b ↦ ap is_item (plain_loop s b.0 b.1 b.2) | inr r1 ↦ elim r1 [ inl c ↦ ap is_item (plain_again s c.0 c.1) | inr r2 ↦ elim r2 [ inl d ↦ ap is_item (plain_choice s d.0 d.1 d.2 d.3) | inr r3 ↦ elim r3 [ inl e ↦ ap is_item (plain_barrier s e) | inr r4 ↦ elim r4 [ inl f ↦ ap is_item (plain_broadcast s f.0 f.1 f.2) | inr r5 ↦ elim r5 [ inl g ↦ ap is_item (plain_reduce s g.0 g.1 g.2 g.3) | inr r6 ↦ ap is_item (plain_allreduce s r6.0 r6.1 r6.2) ] ] ] ] ] ] ])
